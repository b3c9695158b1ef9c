-- How many letters a legal log has, and how many rounds.
use Rattle.std.proofs.Common.{◌≡◌, ◌⊎◌, ℕ, zero, suc, ◌+◌, ◌-◌, ◌*◌, ◌<◌, ◌≤◌, Bool, true, false, not, List, [], ◌∷◌, ◌++◌, length, map, sum_by, refl, ap, arith, sym, subst, ◌∙◌, inl, inr}
use Rattle.std.specs.Prelude.{Contains, ◌&&◌, if◌then◌else◌, eqb}
use Rattle.std.proofs.lemmas.List.Sums.{sum_by-cons}
use Rattle.hot_units.specs.Values.{BodyValue, CellValue}
use Rattle.hot_units.specs.Numbers.{numbers_below}
use Rattle.hot_units.proofs.Members.{head_has, tail_has, cons_cases, nil_has, some_member, has_map}
use Rattle.hot_units.proofs.Sorts.{below_has}
use Rattle.hot_model.specs.declared.answer.Answered.{Answered}
use Rattle.rank_model.specs.World.{World, IsGood}
use Rattle.rank_model.specs.Needs.{Needs, needed, met_cells, round_bound}
use Rattle.rank_model.proofs.Counts.{needed-are}
use Rattle.rank_model.proofs.Bounds.{needs_bound}
use Rattle.cell_mail.specs.declared.content.Kind.{Kind}
use Rattle.cell_mail.specs.declared.content.Kind.TheVariants as kinds
use Rattle.cell_mail.specs.declared.content.Content.{Content}
use Rattle.cell_mail.specs.declared.content.Content.TheVariants as content
use Rattle.cell_mail.specs.Letters.{LetterValue, kind_of}
use Rattle.cell_mail.specs.declared.note.Note.{Note}
use Rattle.wire.specs.declared.entry.Entry.{Entry}
use Rattle.wire.specs.declared.entry.Entry.TheVariants.{Posted, Taken, Round}
use Rattle.cell_mail.specs.Notes.{note_of}
use Rattle.wire.specs.Desk.{Desk, letters_in, rounds_in}
use Rattle.rank_core.specs.Times.{flag, times}
use Rattle.protocol.specs.Counts.{in_posted, in_taken, same_kind, is_between, one_between, key_between, is_ask_of, asks_by, answers_to, any_letter}
use Rattle.rank_core.specs.Truth.{owner_of, TrueContent, TrueLetter}
use Rattle.rank_core.specs.Seat.{Seat}
use Rattle.protocol.specs.Logs.{Legal, MayPost, taken_since, is_over, needs_in_all}
use Rattle.protocol.specs.Joint.{Joint}
use Rattle.protocol.proofs.Weights.{same_or_not, kinds, flag-le, times-has, has_or_not, between-is, between-kind, between-from, between-to}
use Rattle.protocol.proofs.Truths.{owned-is, answer-weight, same_posted}
use Rattle.protocol.proofs.Posting.{one-is, one-not, ask-value, ask-other, answer-value, ask-zero, answer-zero}
use Rattle.protocol.proofs.Sending.{answer-away}

-- sums
sum_rises : (f h : ℕ → ℕ) (xs : List ℕ) → ((x : ℕ) → f x ≤ h x) → sum_by f xs ≤ sum_by h xs
sum_rises f h [] e = omega arith
sum_rises f h (x ∷ xs) e = omega (arith, sum_by-cons f x xs, sum_by-cons h x xs, e x, sum_rises f h xs e)

sum_more : (f h : ℕ → ℕ) (xs : List ℕ) → ((x : ℕ) → f x ≤ h x) → (a : ℕ) → Contains xs a → f a + 1 ≤ h a → sum_by f xs + 1 ≤ sum_by h xs
sum_more f h [] e a m o = absurd (nil_has a m)
sum_more f h (x ∷ xs) e a m o =
    elim (cons_cases x xs a m) [
      | inl q ↦ (let y : f x + 1 ≤ h x = subst (λ (i : ℕ). f i + 1 ≤ h i) q o in omega (arith, sum_by-cons f x xs, sum_by-cons h x xs, y, sum_rises f h xs e))
      | inr q ↦ omega (arith, sum_by-cons f x xs, sum_by-cons h x xs, e x, sum_more f h xs e a q o)
    ]

sum_most : (k : ℕ) (f : ℕ → ℕ) (xs : List ℕ) → ((x : ℕ) → Contains xs x → f x ≤ k) → sum_by f xs ≤ length xs * k
sum_most k f [] e = omega arith
sum_most k f (x ∷ xs) e = omega (arith, sum_by-cons f x xs, e x (head_has x xs), sum_most k f xs (λ y m. e y (tail_has x xs y m)))

sum_zero : (xs : List ℕ) → sum_by (λ (x : ℕ). 0) xs ≡ 0
sum_zero [] = refl
sum_zero (x ∷ xs) = omega (arith, sum_by-cons (λ (x : ℕ). 0) x xs, sum_zero xs)

snoc-length : (xs : List ℕ) (x : ℕ) → length (xs ++ x ∷ []) ≡ suc (length xs)
snoc-length [] x = refl
snoc-length (y ∷ xs) x = ap suc (snoc-length xs x)

below-length : (n : ℕ) → length (numbers_below n) ≡ n
unfolding numbers_below
below-length zero = refl
below-length (suc n) = snoc-length (numbers_below n) n ∙ ap suc (below-length n)

-- sums of sums
double : (ℕ → ℕ → ℕ) → List ℕ → (ℕ → List ℕ) → ℕ
double f xs ys = sum_by (λ a. sum_by (f a) (ys a)) xs

double_rises : (f h : ℕ → ℕ → ℕ) (xs : List ℕ) (ys : ℕ → List ℕ) → ((a b : ℕ) → f a b ≤ h a b) → double f xs ys ≤ double h xs ys
unfolding double
double_rises f h xs ys e = sum_rises (λ a. sum_by (f a) (ys a)) (λ a. sum_by (h a) (ys a)) xs (λ a. sum_rises (f a) (h a) (ys a) (e a))

double_more : (f h : ℕ → ℕ → ℕ) (xs : List ℕ) (ys : ℕ → List ℕ) → ((a b : ℕ) → f a b ≤ h a b) → (a b : ℕ) → Contains xs a → Contains (ys a) b → f a b + 1 ≤ h a b → double f xs ys + 1 ≤ double h xs ys
unfolding double
double_more f h xs ys e a b m n o = sum_more (λ a. sum_by (f a) (ys a)) (λ a. sum_by (h a) (ys a)) xs (λ a. sum_rises (f a) (h a) (ys a) (e a)) a m (sum_more (f a) (h a) (ys a) (e a) b n o)

-- weights in a log
pub posted_rises : (f g : Note → ℕ) → ((n : Note) → f n ≤ g n) → (log : List Entry) → in_posted f log ≤ in_posted g log
posted_rises f g e [] = omega arith
posted_rises f g e (Posted l ∷ log) = omega (arith, e (note_of l), posted_rises f g e log)
posted_rises f g e (Taken n ∷ log) = posted_rises f g e log
posted_rises f g e (Round ∷ log) = posted_rises f g e log

test : (Note → Bool) → Note → ℕ
test f n = flag (f n)

-- in a legal log at most as many letters that pass a test were taken as were posted
pub taken_posted : (opens : BodyValue → CellValue → Bool) (w : World) (f : Note → Bool) (log : List Entry) → Legal opens w log → in_taken (λ m. flag (f m)) log ≤ in_posted (λ m. flag (f m)) log
taken_posted opens w f [] h = omega arith
taken_posted opens w f (Posted l ∷ log) h = (let r = taken_posted opens w f log h.0 in omega arith)
taken_posted opens w f (Taken n ∷ log) h = by_test (taken_posted opens w f log h.0) (f n) refl
  where
    by_test : in_taken (λ m. flag (f m)) log ≤ in_posted (λ m. flag (f m)) log → (b : Bool) → f n ≡ b → flag (f n) + in_taken (λ m. flag (f m)) log ≤ in_posted (λ m. flag (f m)) log
    by_test r true e = let a = h.1 f e in let z : flag (f n) ≡ 1 = ap flag e in omega arith
    by_test r false e = let z : flag (f n) ≡ 0 = ap flag e in omega arith
taken_posted opens w f (Round ∷ log) h = taken_posted opens w f log h.0

abbrev nonzero : ℕ → Bool
nonzero zero = false
nonzero (suc n) = true

flag_of : (n : ℕ) → (flag (nonzero n) ≤ n) × (1 ≤ n → flag (nonzero n) ≡ 1)
flag_of zero = (omega arith, λ h. absurd (omega arith))
flag_of (suc n) = (omega arith, λ h. refl)

some_taken : (g : Note → ℕ) (log : List Entry) → 1 ≤ in_taken g log → 1 ≤ in_taken (λ m. flag (nonzero (g m))) log
some_taken g [] h = absurd (omega arith)
some_taken g (Posted l ∷ log) h = some_taken g log h
some_taken g (Taken n ∷ log) h = by_place (some_taken g log) (order (g n))
  where
    order : (k : ℕ) → (k ≡ 0) ⊎ (1 ≤ k)
    order zero = inl refl
    order (suc k) = inr (omega arith)

    by_place : (1 ≤ in_taken g log → 1 ≤ in_taken (λ m. flag (nonzero (g m))) log) → (g n ≡ 0) ⊎ (1 ≤ g n) → 1 ≤ in_taken (λ m. flag (nonzero (g m))) (Taken n ∷ log)
    by_place more (inl e) = let r = more (omega arith) in omega arith
    by_place more (inr e) = let r = (flag_of (g n)).1 e in omega arith
some_taken g (Round ∷ log) h = some_taken g log h

-- what was taken was posted
pub some_posted : (opens : BodyValue → CellValue → Bool) (w : World) (g : Note → ℕ) (log : List Entry) → Legal opens w log → 1 ≤ in_taken g log → 1 ≤ in_posted g log
some_posted opens w g log h o =
    let a = some_taken g log o in
    let b = taken_posted opens w (λ m. nonzero (g m)) log h in
    let c = posted_rises (λ m. flag (nonzero (g m))) g (λ n. (flag_of (g n)).0) log in omega arith

-- what one letter weighs
pub one_cases : (k : Kind) (f t : ℕ) (n : Note) → ((one_between k f t n ≡ 1) × (n.kind ≡ k) × (n.from ≡ f) × (n.to ≡ t)) ⊎ (one_between k f t n ≡ 0)
one_cases k f t n =
    elim (kinds n.kind k) [
      | inl a ↦ elim (same_or_not n.from f) [
        | inl b ↦ elim (same_or_not n.to t) [
          | inl c ↦ inl (one-is k f t n (between-is k f t n a b c), a, b, c)
          | inr c ↦ inr (one-not k f t n (between-to k f t n c))
        ]
        | inr b ↦ inr (one-not k f t n (between-from k f t n b))
      ]
      | inr a ↦ inr (one-not k f t n (between-kind k f t n a))
    ]

module _ (opens : BodyValue → CellValue → Bool) (w : World) where
  -- branches
  may_tell : (past : List Entry) (from to : ℕ) (x : Content) → kind_of x ≡ kinds.Branches → MayPost opens w past from to x → in_posted (one_between kinds.Branches from to) past ≡ 0
  may_tell past from to (content.Branches rs) e m = m
  may_tell past from to (content.Asks ks) e m = absurd (let k : kinds.Asks ≡ kinds.Branches = e in cc)
  may_tell past from to (content.Answers xs) e m = absurd (let k : kinds.Answers ≡ kinds.Branches = e in cc)

  told_once : (log : List Entry) → Legal opens w log → (p q : ℕ) → in_posted (one_between kinds.Branches p q) log ≤ 1
  told_once [] h p q = omega arith
  told_once (Posted l ∷ log) h p q =
      let r = told_once log h.0 p q in
      elim (one_cases kinds.Branches p q (note_of l)) [
        | inl a ↦ (
            let z : in_posted (one_between kinds.Branches l.from l.to) log ≡ 0 = may_tell log l.from l.to l.content a.1 h.1.may in
            let y : in_posted (one_between kinds.Branches p q) log ≡ 0 = subst (λ (i : ℕ). in_posted (one_between kinds.Branches p i) log ≡ 0) a.3 (subst (λ (i : ℕ). in_posted (one_between kinds.Branches i l.to) log ≡ 0) a.2 z) in
            let a0 = a.0 in omega arith)
        | inr a ↦ omega arith
      ]
  told_once (Taken n ∷ log) h p q = told_once log h.0 p q
  told_once (Round ∷ log) h p q = told_once log h.0 p q

  told_self : (log : List Entry) → Legal opens w log → (p : ℕ) → in_posted (one_between kinds.Branches p p) log ≡ 0
  told_self [] h p = refl
  told_self (Posted l ∷ log) h p =
      let r = told_self log h.0 p in
      elim (one_cases kinds.Branches p p (note_of l)) [
        | inl a ↦ absurd (h.1.truth.other (a.2 ∙ sym a.3))
        | inr a ↦ omega arith
      ]
  told_self (Taken n ∷ log) h p = told_self log h.0 p
  told_self (Round ∷ log) h p = told_self log h.0 p

  -- asks
  asks_post : (log : List Entry) (l : LetterValue) (x : Content) → l.content ≡ x → MayPost opens w log l.from l.to x → (q c : ℕ) → in_posted (asks_by q c) log ≤ 1 → asks_by q c (note_of l) + in_posted (asks_by q c) log ≤ 1
  asks_post log l (content.Branches rs) e m q c r = let z = ask-zero q c (note_of l) (ap (λ (y : Content). same_kind kinds.Asks (kind_of y)) e) in omega arith
  asks_post log l (content.Answers xs) e m q c r = let z = ask-zero q c (note_of l) (ap (λ (y : Content). same_kind kinds.Asks (kind_of y)) e) in omega arith
  asks_post log l (content.Asks ks) e m q c r =
      elim (same_or_not l.from q) [
        | inl f ↦ (
            let v = ask-value q c ks l e f in
            elim (has_or_not c ks) [
              | inl y ↦ (
                  let o : in_posted (asks_by q c) log + times c ks ≡ 1 = subst (λ (i : ℕ). in_posted (asks_by i c) log + times c ks ≡ 1) f (m c y).once in omega arith)
              | inr y ↦ omega arith
            ])
        | inr f ↦ (let z = ask-other q c l f in omega arith)
      ]

  -- in a legal log a rank asks for a cell at most once
  pub asks_once : (log : List Entry) → Legal opens w log → (q c : ℕ) → in_posted (asks_by q c) log ≤ 1
  asks_once [] h q c = omega arith
  asks_once (Posted l ∷ log) h q c = asks_post log l l.content refl h.1.may q c (asks_once log h.0 q c)
  asks_once (Taken n ∷ log) h q c = asks_once log h.0 q c
  asks_once (Round ∷ log) h q c = asks_once log h.0 q c

  asked_post : (log : List Entry) (l : LetterValue) (x : Content) → l.content ≡ x → MayPost opens w log l.from l.to x → (q c : ℕ) → (1 ≤ in_posted (asks_by q c) log → Needs opens w q c) → 1 ≤ asks_by q c (note_of l) + in_posted (asks_by q c) log → Needs opens w q c
  asked_post log l (content.Branches rs) e m q c r o = let z = ask-zero q c (note_of l) (ap (λ (y : Content). same_kind kinds.Asks (kind_of y)) e) in r (omega arith)
  asked_post log l (content.Answers xs) e m q c r o = let z = ask-zero q c (note_of l) (ap (λ (y : Content). same_kind kinds.Asks (kind_of y)) e) in r (omega arith)
  asked_post log l (content.Asks ks) e m q c r o =
      elim (same_or_not l.from q) [
        | inl f ↦ (
            let v = ask-value q c ks l e f in
            elim (has_or_not c ks) [
              | inl y ↦ subst (λ (i : ℕ). Needs opens w i c) f (m c y).needed
              | inr y ↦ r (omega arith)
            ])
        | inr f ↦ (let z = ask-other q c l f in r (omega arith))
      ]

  -- what was asked for is needed
  pub asked_needed : (log : List Entry) → Legal opens w log → (q c : ℕ) → 1 ≤ in_posted (asks_by q c) log → Needs opens w q c
  asked_needed [] h q c o = absurd (omega arith)
  asked_needed (Posted l ∷ log) h q c o = asked_post log l l.content refl h.1.may q c (asked_needed log h.0 q c) o
  asked_needed (Taken n ∷ log) h q c o = asked_needed log h.0 q c o
  asked_needed (Round ∷ log) h q c o = asked_needed log h.0 q c o

  -- answers
  answers_post : (log : List Entry) → Legal opens w log → (l : LetterValue) (x : Content) → l.content ≡ x → TrueContent w l.from l.to x → MayPost opens w log l.from l.to x → (q c : ℕ) → in_posted (answers_to q c) log ≤ 1 → answers_to q c (note_of l) + in_posted (answers_to q c) log ≤ 1
  answers_post log h l (content.Branches rs) e t m q c r = let z = answer-zero q c (note_of l) (ap (λ (y : Content). same_kind kinds.Answers (kind_of y)) e) in omega arith
  answers_post log h l (content.Asks ks) e t m q c r = let z = answer-zero q c (note_of l) (ap (λ (y : Content). same_kind kinds.Answers (kind_of y)) e) in omega arith
  answers_post log h l (content.Answers xs) e t m q c r =
      elim (same_or_not l.to q) [
        | inl f ↦ (
            let v = answer-value q c xs l e f in
            elim (has_or_not c (map (λ a. a.key) xs)) [
              | inl y ↦ (
                  let i = has_map (λ (a : Answered). a.key) xs c y in
                  let own : owner_of w c ≡ l.from = ap (owner_of w) i.2 ∙ owned-is w l.from i.0.key (t.1 i.0 i.1).0 in
                  let o : in_posted (key_between kinds.Answers l.from q c) log + times c (map (λ a. a.key) xs) ≡ 1 = subst (λ (i : ℕ). in_posted (key_between kinds.Answers l.from i c) log + times c (map (λ (a : Answered). a.key) xs) ≡ 1) f (m c y).once in
                  let s = same_posted opens w (key_between kinds.Answers l.from q c) (answers_to q c) (answer-weight w l.from q c own) log h in omega arith)
              | inr y ↦ omega arith
            ])
        | inr f ↦ (let z = answer-away q c (note_of l) f in omega arith)
      ]

  -- in a legal log a cell is answered to a rank at most once
  pub answers_once : (log : List Entry) → Legal opens w log → (q c : ℕ) → in_posted (answers_to q c) log ≤ 1
  answers_once [] h q c = omega arith
  answers_once (Posted l ∷ log) h q c = answers_post log h.0 l l.content refl h.1.truth.truth h.1.may q c (answers_once log h.0 q c)
  answers_once (Taken n ∷ log) h q c = answers_once log h.0 q c
  answers_once (Round ∷ log) h q c = answers_once log h.0 q c

  ask-less : (p q c : ℕ) (n : Note) → key_between kinds.Asks q p c n ≤ asks_by q c n
  unfolding key_between asks_by is_between is_ask_of
  ask-less p q c n =
      elim (same_kind kinds.Asks n.kind) as (λ (a : Bool). (if a && (eqb q n.from && eqb p n.to) then times c n.keys else 0) ≤ (if a && eqb q n.from then times c n.keys else 0)) [
        | true ↦ elim (eqb q n.from) as (λ (a : Bool). (if a && eqb p n.to then times c n.keys else 0) ≤ (if a then times c n.keys else 0)) [
          | true ↦ elim (eqb p n.to) as (λ (a : Bool). (if a then times c n.keys else 0) ≤ times c n.keys) [ true ↦ omega arith | false ↦ omega arith ]
          | false ↦ omega arith
        ]
        | false ↦ omega arith
      ]

  -- all letters of a legal log, by pairs of ranks and by needed cells
  told_all : List Entry → ℕ
  told_all log = double (λ p q. in_posted (one_between kinds.Branches p q) log) (numbers_below w.ranks) (λ p. numbers_below w.ranks)

  asks_all : List Entry → ℕ
  asks_all log = double (λ q c. in_posted (asks_by q c) log) (numbers_below w.ranks) (needed opens w)

  answers_all : List Entry → ℕ
  answers_all log = double (λ q c. in_posted (answers_to q c) log) (numbers_below w.ranks) (needed opens w)

  more : (f : Note → ℕ) (l : LetterValue) (log : List Entry) → in_posted f log ≤ in_posted f (Posted l ∷ log)
  more f l log = omega arith

  letter_post : (log : List Entry) (l : LetterValue) (x : Content) → Legal opens w log → TrueLetter w l → l.content ≡ x → TrueContent w l.from l.to x → MayPost opens w log l.from l.to x
      → (told_all log + (asks_all log + answers_all log)) + 1 ≤ told_all (Posted l ∷ log) + (asks_all (Posted l ∷ log) + answers_all (Posted l ∷ log))
  unfolding told_all asks_all answers_all
  letter_post log l x h t e tc m =
      let a = double_rises (λ p q. in_posted (one_between kinds.Branches p q) log) (λ p q. in_posted (one_between kinds.Branches p q) (Posted l ∷ log)) (numbers_below w.ranks) (λ p. numbers_below w.ranks) (λ p q. more (one_between kinds.Branches p q) l log) in
      let b = double_rises (λ q c. in_posted (asks_by q c) log) (λ q c. in_posted (asks_by q c) (Posted l ∷ log)) (numbers_below w.ranks) (needed opens w) (λ q c. more (asks_by q c) l log) in
      let d = double_rises (λ q c. in_posted (answers_to q c) log) (λ q c. in_posted (answers_to q c) (Posted l ∷ log)) (numbers_below w.ranks) (needed opens w) (λ q c. more (answers_to q c) l log) in
      by_kind x e tc m a b d
    where
      by_kind : (x : Content) → l.content ≡ x → TrueContent w l.from l.to x → MayPost opens w log l.from l.to x
          → told_all log ≤ told_all (Posted l ∷ log) → asks_all log ≤ asks_all (Posted l ∷ log) → answers_all log ≤ answers_all (Posted l ∷ log)
          → (told_all log + (asks_all log + answers_all log)) + 1 ≤ told_all (Posted l ∷ log) + (asks_all (Posted l ∷ log) + answers_all (Posted l ∷ log))
      by_kind (content.Branches rs) e tc m a b d =
          let k : kind_of l.content ≡ kinds.Branches = ap kind_of e in
          let v = one-is kinds.Branches l.from l.to (note_of l) (between-is kinds.Branches l.from l.to (note_of l) k refl refl) in
          let r = double_more (λ p q. in_posted (one_between kinds.Branches p q) log) (λ p q. in_posted (one_between kinds.Branches p q) (Posted l ∷ log)) (numbers_below w.ranks) (λ p. numbers_below w.ranks) (λ p q. more (one_between kinds.Branches p q) l log) l.from l.to (below_has w.ranks l.from t.from_in) (below_has w.ranks l.to t.to_in) (omega arith) in
          omega arith
      by_kind (content.Asks ks) e tc m a b d =
          let c = some_member ks tc.0 in
          let v = ask-value l.from c.0 ks l e refl in
          let n = times-has c.0 ks c.1 in
          let i : Contains (needed opens w l.from) c.0 = (needed-are opens w l.from c.0).1 (m c.0 c.1).needed in
          let r = double_more (λ q c. in_posted (asks_by q c) log) (λ q c. in_posted (asks_by q c) (Posted l ∷ log)) (numbers_below w.ranks) (needed opens w) (λ q c. more (asks_by q c) l log) l.from c.0 (below_has w.ranks l.from t.from_in) i (omega arith) in
          omega arith
      by_kind (content.Answers xs) e tc m a b d =
          let c = some_member (map (λ (a : Answered). a.key) xs) (has_some xs tc.0) in
          let v = answer-value l.to c.0 xs l e refl in
          let n = times-has c.0 (map (λ (a : Answered). a.key) xs) c.1 in
          let s = some_posted opens w (key_between kinds.Asks l.to l.from c.0) log h (m c.0 c.1).asked in
          let u = posted_rises (key_between kinds.Asks l.to l.from c.0) (asks_by l.to c.0) (ask-less l.from l.to c.0) log in
          let i : Contains (needed opens w l.to) c.0 = (needed-are opens w l.to c.0).1 (asked_needed log h l.to c.0 (omega arith)) in
          let r = double_more (λ q c. in_posted (answers_to q c) log) (λ q c. in_posted (answers_to q c) (Posted l ∷ log)) (numbers_below w.ranks) (needed opens w) (λ q c. more (answers_to q c) l log) l.to c.0 (below_has w.ranks l.to t.to_in) i (omega arith) in
          omega arith
        where
          has_some : (xs : List Answered) → 0 < length xs → 0 < length (map (λ (a : Answered). a.key) xs)
          has_some [] o = o
          has_some (x ∷ xs) o = omega arith

  letters_all : (log : List Entry) → Legal opens w log → letters_in log ≤ told_all log + (asks_all log + answers_all log)
  unfolding told_all asks_all answers_all
  letters_all [] h = omega arith
  letters_all (Posted l ∷ log) h =
      let r = letters_all log h.0 in
      let p = letter_post log l l.content h.0 h.1.truth refl h.1.truth.truth h.1.may in omega arith
  letters_all (Taken n ∷ log) h = letters_all log h.0
  letters_all (Round ∷ log) h = letters_all log h.0

  told_few : (log : List Entry) → Legal opens w log → told_all log ≤ w.ranks * (w.ranks - 1)
  unfolding told_all double
  told_few log h =
      let n = below-length w.ranks in
      let one : (p : ℕ) → Contains (numbers_below w.ranks) p → sum_by (λ q. in_posted (one_between kinds.Branches p q) log) (numbers_below w.ranks) ≤ w.ranks - 1 =
      λ p m. (
      let a = sum_more (λ q. in_posted (one_between kinds.Branches p q) log) (λ q. 1) (numbers_below w.ranks) (λ q. told_once log h p q) p m (let z = told_self log h p in omega arith) in
      let b = sum_most 1 (λ q. 1) (numbers_below w.ranks) (λ q x. omega arith) in omega (arith, a, b, n)) in
      let r = sum_most (w.ranks - 1) (λ p. sum_by (λ q. in_posted (one_between kinds.Branches p q) log) (numbers_below w.ranks)) (numbers_below w.ranks) one in
      subst (λ (i : ℕ). sum_by (λ p. sum_by (λ q. in_posted (one_between kinds.Branches p q) log) (numbers_below w.ranks)) (numbers_below w.ranks) ≤ i * (w.ranks - 1)) n r

  asks_few : (log : List Entry) → Legal opens w log → asks_all log ≤ needs_in_all opens w
  unfolding asks_all double
  asks_few log h = sum_rises (λ q. sum_by (λ c. in_posted (asks_by q c) log) (needed opens w q)) (λ q. length (needed opens w q)) (numbers_below w.ranks) (λ q. (let r = sum_most 1 (λ c. in_posted (asks_by q c) log) (needed opens w q) (λ c m. asks_once log h q c) in omega arith))

  answers_few : (log : List Entry) → Legal opens w log → answers_all log ≤ needs_in_all opens w
  unfolding answers_all double
  answers_few log h = sum_rises (λ q. sum_by (λ c. in_posted (answers_to q c) log) (needed opens w q)) (λ q. length (needed opens w q)) (numbers_below w.ranks) (λ q. (let r = sum_most 1 (λ c. in_posted (answers_to q c) log) (needed opens w q) (λ c m. answers_once log h q c) in omega arith))

  -- a legal log has at most one letter for each rank and another, and two for each needed cell
  pub few_letters : (log : List Entry) → Legal opens w log → letters_in log ≤ w.ranks * (w.ranks - 1) + 2 * needs_in_all opens w
  few_letters log h =
      let a = letters_all log h in let b = told_few log h in let c = asks_few log h in let d = answers_few log h in omega arith

  taken_letters : (log : List Entry) → Legal opens w log → in_taken any_letter log ≤ letters_in log
  taken_letters log h = let a = taken_posted opens w (λ m. true) log h in let b = posted_all log in omega arith
    where
      posted_all : (us : List Entry) → in_posted any_letter us ≡ letters_in us
      posted_all [] = refl
      posted_all (Posted l ∷ us) = ap (λ (n : ℕ). 1 + n) (posted_all us)
      posted_all (Taken n ∷ us) = posted_all us
      posted_all (Round ∷ us) = posted_all us

  -- each round but the last one has a letter that was taken
  paced_log : (log : List Entry) → Legal opens w log → rounds_in log + flag (taken_since log) ≤ in_taken any_letter log + flag (is_over log)
  paced_log [] h = omega arith
  paced_log (Posted l ∷ log) h = (let r = paced_log log h.0 in let z : flag (is_over log) ≡ 0 = ap flag h.2 in omega arith)
  paced_log (Taken n ∷ log) h = (let r = paced_log log h.0 in let z : flag (is_over log) ≡ 0 = ap flag h.2 in let f = flag-le (taken_since log) in omega arith)
  paced_log (Round ∷ log) h = by_test (paced_log log h.0) (taken_since log) refl
    where
      by_test : rounds_in log + flag (taken_since log) ≤ in_taken any_letter log + flag (is_over log) → (b : Bool) → taken_since log ≡ b → rounds_in (Round ∷ log) + 0 ≤ in_taken any_letter log + flag (not (taken_since log))
      by_test r true e = let z : flag (is_over log) ≡ 0 = ap flag h.2 in let y : flag (taken_since log) ≡ 1 = ap flag e in omega arith
      by_test r false e = let z : flag (is_over log) ≡ 0 = ap flag h.2 in let y : flag (not (taken_since log)) ≡ 1 = ap (λ (b : Bool). flag (not b)) e in omega arith

  letters_bound : IsGood w → (log : List Entry) → Legal opens w log → letters_in log + 1 ≤ round_bound opens w
  letters_bound g log h =
      let a = few_letters log h in
      let b : needs_in_all opens w ≤ (w.ranks - 1) * length (met_cells opens w) = needs_bound opens w g in
      by_numbers w.ranks (w.ranks - 1) (length (met_cells opens w)) (needs_in_all opens w) (letters_in log) a b
    where
      by_numbers : (r x k n l : ℕ) → l ≤ r * x + 2 * n → n ≤ x * k → l + 1 ≤ x * (r + 2 * k) + 1
      by_numbers r x k n l a b = let c : x * (r + 2 * k) ≡ r * x + 2 * (x * k) = grind arith in omega (arith, a, b, c)

  -- a legal log of a good world has at most as many rounds as the bound
  pub few_rounds : IsGood w → (log : List Entry) → Legal opens w log → rounds_in log ≤ round_bound opens w
  few_rounds g log h =
      let a = paced_log log h in let b = taken_letters log h in let c = letters_bound g log h in let f = flag-le (is_over log) in omega arith

  -- where all holds together the rounds are at most the letters, and below the bound
  pub joint_rounds : (ss : List Seat) (d : Desk) → Joint opens w ss d → (rounds_in d.log ≤ letters_in d.log) × (rounds_in d.log < round_bound opens w)
  joint_rounds ss d j =
      let a = j.paced in let b = taken_letters d.log j.legal in let c = letters_bound j.good d.log j.legal in (omega arith, omega arith)
