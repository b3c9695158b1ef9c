-- What comes before what in a legal log.
use Rattle.std.proofs.Common.{◌≡◌, ◌≢◌, ◌⊎◌, ℕ, ◌+◌, ◌<◌, ◌≤◌, Bool, true, false, true≢false, eqb, ◌&&◌, if◌then◌else◌, List, [], ◌∷◌, ◌++◌, map, refl, ap, arith, sym, subst, ◌∙◌, inl, inr}
use Rattle.hot_units.specs.Values.{BodyValue, CellValue}
use Rattle.hot_units.specs.Keys.{parent}
use Rattle.rank_model.specs.World.{World}
use Rattle.rank_model.specs.Branches.{IsBranch, is_branch}
use Rattle.rank_model.proofs.Counts.{branch_of_test, test_of_branch}
use Rattle.cell_mail.specs.declared.content.Kind.TheVariants as kinds
use Rattle.cell_mail.specs.declared.content.Content.{Content}
use Rattle.cell_mail.specs.declared.content.Content.TheVariants as content
use Rattle.cell_mail.specs.Letters.{LetterValue, kind_of}
use Rattle.cell_mail.specs.declared.note.Note.{Note}
use Rattle.wire.specs.declared.entry.Entry.{Entry}
use Rattle.wire.specs.declared.entry.Entry.TheVariants.{Posted, Taken, Round}
use Rattle.cell_mail.specs.Notes.{note_of}
use Rattle.rank_core.specs.Times.{times}
use Rattle.rank_core.specs.Truth.{IsCellOf, TrueContent}
use Rattle.protocol.specs.Counts.{in_posted, in_taken, same_kind, is_between, one_between, key_between, is_ask_of, is_answer_to, asks_by, answers_to}
use Rattle.protocol.specs.Logs.{Legal, MayPost}
use Rattle.protocol.proofs.Weights.{same_or_not, has_or_not}
use Rattle.protocol.proofs.Posting.{ask-value, ask-other, answer-value, ask-zero, answer-zero}
use Rattle.protocol.proofs.Sending.{answer-away}
use Rattle.protocol.proofs.Bounds.{posted_rises, some_posted}
use Rattle.protocol.proofs.Counting.{legal_front}

taken_rises : (f g : Note → ℕ) → ((n : Note) → f n ≤ g n) → (log : List Entry) → in_taken f log ≤ in_taken g log
taken_rises f g e [] = omega arith
taken_rises f g e (Posted l ∷ log) = taken_rises f g e log
taken_rises f g e (Taken n ∷ log) = omega (arith, e n, taken_rises f g e log)
taken_rises f g e (Round ∷ log) = taken_rises f g e log

-- an ask to one rank is an ask, and an answer from one rank an answer
ask_within : (q p c : ℕ) (n : Note) → key_between kinds.Asks q p c n ≤ asks_by q c n
unfolding key_between is_between asks_by is_ask_of
ask_within q p c n = by_tests (same_kind kinds.Asks n.kind) (eqb q n.from) (eqb p n.to) (times c n.keys)
  where
    by_tests : (a b d : Bool) (k : ℕ) → (if a && (b && d) then k else 0) ≤ (if a && b then k else 0)
    by_tests true true true k = let r : k ≤ k = omega arith in r
    by_tests true true false k = let r : 0 ≤ k = omega arith in r
    by_tests true false d k = let r : 0 ≤ 0 = omega arith in r
    by_tests false b d k = let r : 0 ≤ 0 = omega arith in r

answer_within : (p q c : ℕ) (n : Note) → key_between kinds.Answers p q c n ≤ answers_to q c n
unfolding key_between is_between answers_to is_answer_to
answer_within p q c n = by_tests (same_kind kinds.Answers n.kind) (eqb p n.from) (eqb q n.to) (times c n.keys)
  where
    by_tests : (a b d : Bool) (k : ℕ) → (if a && (b && d) then k else 0) ≤ (if a && d then k else 0)
    by_tests true true true k = let r : k ≤ k = omega arith in r
    by_tests true true false k = let r : 0 ≤ 0 = omega arith in r
    by_tests true false true k = let r : 0 ≤ k = omega arith in r
    by_tests true false false k = let r : 0 ≤ 0 = omega arith in r
    by_tests false b d k = let r : 0 ≤ 0 = omega arith in r

branch_or_not : (w : World) (p c : ℕ) → IsCellOf w p c → IsBranch w p c ⊎ (IsBranch w p c → ⊥)
branch_or_not w p c h = by_test (is_branch w p c) refl
  where
    by_test : (t : Bool) → is_branch w p c ≡ t → IsBranch w p c ⊎ (IsBranch w p c → ⊥)
    by_test true e = inl (branch_of_test w p c h.cell h.some e)
    by_test false e = inr (λ b. true≢false (sym (test_of_branch w p c b) ∙ e))

module _ (opens : BodyValue → CellValue → Bool) (w : World) where
  -- a cell that was answered was asked for before, and the ask was taken
  answered_post : (log : List Entry) (l : LetterValue) (x : Content) → l.content ≡ x → MayPost opens w log l.from l.to x → (q c : ℕ)
      → (1 ≤ in_posted (answers_to q c) log → 1 ≤ in_taken (asks_by q c) log) → 1 ≤ answers_to q c (note_of l) + in_posted (answers_to q c) log → 1 ≤ in_taken (asks_by q c) log
  answered_post log l (content.Branches rs) e m q c r o = let z = answer-zero q c (note_of l) (ap (λ (y : Content). same_kind kinds.Answers (kind_of y)) e) in r (omega arith)
  answered_post log l (content.Asks ks) e m q c r o = let z = answer-zero q c (note_of l) (ap (λ (y : Content). same_kind kinds.Answers (kind_of y)) e) in r (omega arith)
  answered_post log l (content.Answers xs) e m q c r o =
      elim (same_or_not l.to q) [
        | inl f ↦ (
            let v = answer-value q c xs l e f in
            elim (has_or_not c (map (λ a. a.key) xs)) [
              | inl y ↦ (
                  let a : 1 ≤ in_taken (key_between kinds.Asks q l.from c) log = subst (λ (i : ℕ). 1 ≤ in_taken (key_between kinds.Asks i l.from c) log) f (m c y).asked in
                  let b = taken_rises (key_between kinds.Asks q l.from c) (asks_by q c) (ask_within q l.from c) log in omega (arith, a, b))
              | inr y ↦ r (omega arith)
            ])
        | inr f ↦ (let z = answer-away q c (note_of l) f in r (omega arith))
      ]

  answered_asked : (log : List Entry) → Legal opens w log → (q c : ℕ) → 1 ≤ in_posted (answers_to q c) log → 1 ≤ in_taken (asks_by q c) log
  answered_asked [] h q c o = absurd (omega arith)
  answered_asked (Posted l ∷ log) h q c o = answered_post log l l.content refl h.1.may q c (answered_asked log h.0 q c) o
  answered_asked (Taken n ∷ log) h q c o = let r = answered_asked log h.0 q c o in omega arith
  answered_asked (Round ∷ log) h q c o = answered_asked log h.0 q c o

  -- a rank that asked has taken the branches of all others: before a branch by itself, and before another cell since it asked
  -- for the parent
  asked_post : (log : List Entry) → Legal opens w log → (l : LetterValue) (x : Content) → l.content ≡ x → TrueContent w l.from l.to x → MayPost opens w log l.from l.to x → (q c p : ℕ) → p < w.ranks → p ≢ q
      → ((k : ℕ) → 1 ≤ in_posted (asks_by q k) log → 1 ≤ in_taken (one_between kinds.Branches p q) log) → 1 ≤ asks_by q c (note_of l) + in_posted (asks_by q c) log → 1 ≤ in_taken (one_between kinds.Branches p q) log
  asked_post log h l (content.Branches rs) e t m q c p u n r o = let z = ask-zero q c (note_of l) (ap (λ (y : Content). same_kind kinds.Asks (kind_of y)) e) in r c (omega arith)
  asked_post log h l (content.Answers xs) e t m q c p u n r o = let z = ask-zero q c (note_of l) (ap (λ (y : Content). same_kind kinds.Asks (kind_of y)) e) in r c (omega arith)
  asked_post log h l (content.Asks ks) e t m q c p u n r o =
      elim (same_or_not l.from q) [
        | inl f ↦ (
            let v = ask-value q c ks l e f in
            elim (has_or_not c ks) [
              | inl y ↦ elim (branch_or_not w l.to c (t.1 c y)) [
                | inl b ↦ subst (λ (i : ℕ). 1 ≤ in_taken (one_between kinds.Branches p i) log) f ((m c y).branch b p u (λ g. n (g ∙ f)))
                | inr b ↦ (
                    let a : 1 ≤ in_taken (key_between kinds.Answers l.to q (parent c)) log = subst (λ (i : ℕ). 1 ≤ in_taken (key_between kinds.Answers l.to i (parent c)) log) f ((m c y).inner b) in
                    let s = some_posted opens w (key_between kinds.Answers l.to q (parent c)) log h a in
                    let g = posted_rises (key_between kinds.Answers l.to q (parent c)) (answers_to q (parent c)) (answer_within l.to q (parent c)) log in
                    let k = answered_asked log h q (parent c) (omega (arith, s, g)) in
                    r (parent c) (some_posted opens w (asks_by q (parent c)) log h k))
              ]
              | inr y ↦ r c (omega arith)
            ])
        | inr f ↦ (let z = ask-other q c l f in r c (omega arith))
      ]

  asked_told : (log : List Entry) → Legal opens w log → (q c p : ℕ) → p < w.ranks → p ≢ q → 1 ≤ in_posted (asks_by q c) log → 1 ≤ in_taken (one_between kinds.Branches p q) log
  asked_told [] h q c p u n o = absurd (omega arith)
  asked_told (Posted l ∷ log) h q c p u n o = asked_post log h.0 l l.content refl h.1.truth.truth h.1.may q c p u n (λ k. asked_told log h.0 q k p u n) o
  asked_told (Taken m ∷ log) h q c p u n o = let r = asked_told log h.0 q c p u n o in omega arith
  asked_told (Round ∷ log) h q c p u n o = asked_told log h.0 q c p u n o

  -- in a front of a legal log a rank that asked for a cell has taken all others' branches
  pub told_before : (later front : List Entry) (q c p : ℕ) → Legal opens w (later ++ front) → p < w.ranks → p ≢ q → 1 ≤ in_posted (asks_by q c) front → 1 ≤ in_taken (one_between kinds.Branches p q) front
  told_before later front q c p h u n o = asked_told front (legal_front opens w later front h) q c p u n o

  -- in a front of a legal log an ask for a cell that was answered to a rank was taken
  pub asked_before : (later front : List Entry) (q c : ℕ) → Legal opens w (later ++ front) → 1 ≤ in_posted (answers_to q c) front → 1 ≤ in_taken (asks_by q c) front
  asked_before later front q c h o = answered_asked front (legal_front opens w later front h) q c o
