-- Three bodies in a row on 64 ranks.
use Rattle.std.proofs.Common.{ℕ, zero, suc, ◌≡◌, ◌≢◌, ◌+◌, ◌<◌, ◌≤◌, Bool, true, false, eqb, ltb, cond, List, [], ◌∷◌, ◌++◌, map, replicate, sym, refl, ap, ◌∙◌, subst, inl, inr, arith, Option, Some, None}
use Rattle.std.specs.Prelude.{Contains}
use Rattle.std.proofs.lemmas.Bool.{cases_lt, eq-eqb, ne_eqb, lt-ltb, le-ltb}
use Rattle.std.proofs.lemmas.List.Elements.{All-nil, All-cons, Contains-append_right}
use Rattle.hot_units.specs.Values.{BodyValue, CellValue}
use Rattle.hot_units.specs.Numbers.{greatest, least}
use Rattle.hot_units.specs.Keys.{key_to, key_of_body}
use Rattle.hot_units.specs.Order.{before, IsInOrder}
use Rattle.hot_units.specs.Bodies.{RowsCount, IsBody}
use Rattle.hot_units.proofs.Members.{nil_has, has_map}
use Rattle.hot_model.specs.declared.answer.Answered.{Answered}
use Rattle.rank_model.specs.World.{World, IsGood, piece, left_of, right_of}
use Rattle.rank_model.proofs.Owners.{one_owner}
use Rattle.cell_mail.specs.declared.content.Content.{Content}
use Rattle.cell_mail.specs.declared.content.Content.TheVariants as content
use Rattle.cell_mail.specs.declared.content.Kind.TheVariants as kinds
use Rattle.cell_mail.specs.Letters.{LetterValue, kind_of}
use Rattle.defer_walk.specs.Listing.{IsListing}
use Rattle.defer_walk.proofs.Listings.{good_of}
use Rattle.rank_core.specs.Times.{times}
use Rattle.rank_core.specs.Truth.{IsCellOf, TrueContent}
use Rattle.rank_core.specs.Seat.{Seat, IsNew, Moves, IsFresh, all_answered, all_told, answered_in, asked_by, asked_in, sends, with_letter}
use Rattle.rank_core.specs.Seats.{PopsOut}
use Rattle.rank_core.specs.Standing.{IsHere}
use Rattle.rank_tests.specs.Worlds.{IsReady, IsSent, HasBegun, HeardBelow, HasAsked, HasAskedFor, AnswersOnly, in_row, three}
use Rattle.rank_tests.proofs.Handing.{Sent, fresh_answers, if_has, none_new, sent_answers, sent_asks, tells_only, unheard_other}
use Rattle.rank_core.proofs.Taking.{answered_more, times_has}

three_in_order : IsInOrder (in_row 0 ∷ in_row 1 ∷ in_row 2 ∷ [])
unfolding before key_to
three_in_order zero d l h = refl
three_in_order (suc zero) d l h = refl
three_in_order (suc (suc k)) d l h = absurd (omega (arith, h))

three_listed : IsListing (in_row 0 ∷ in_row 1 ∷ in_row 2 ∷ [])
three_listed = record {
  sound =
      All-cons IsBody (in_row 0) (in_row 1 ∷ in_row 2 ∷ []) (record { x_in = omega arith; y_in = omega arith; z_in = omega arith; weighs = omega arith; light = omega arith })
      (All-cons IsBody (in_row 1) (in_row 2 ∷ []) (record { x_in = omega arith; y_in = omega arith; z_in = omega arith; weighs = omega arith; light = omega arith })
      (All-cons IsBody (in_row 2) [] (record { x_in = omega arith; y_in = omega arith; z_in = omega arith; weighs = omega arith; light = omega arith }) (All-nil IsBody)));
  in_order = three_in_order;
  few = omega arith;
  light = omega arith;
  counted = counted;
}
  where
    counted : RowsCount (in_row 0 ∷ in_row 1 ∷ in_row 2 ∷ [])
    counted zero d h = refl
    counted (suc zero) d h = refl
    counted (suc (suc zero)) d h = refl
    counted (suc (suc (suc i))) d h = absurd (omega (arith, h))

three_good : IsGood three
unfolding three
three_good = good_of (record {
  bodies = in_row 0 ∷ in_row 1 ∷ in_row 2 ∷ [];
  cuts = replicate 21 9223372036854775812 ++ (replicate 21 9223372036854775840 ++ replicate 21 18446744073709551615);
  leaf = 8;
  me = 0;
}) three_listed

-- the rank with this piece and these keys beside it
pub here_row : (q : ℕ) (xs : List BodyValue) (l r : Option ℕ) → xs ≡ piece three q → l ≡ left_of three q → r ≡ right_of three q → IsHere three q 64 xs l r 8
unfolding three
here_row q xs l r e f g = record { good = three_good; bodies_are = e; ranks_are = refl; leaf_is = refl; left_is = f; right_is = g }

-- those of the three bodies that are chosen
abbrev picked : (a b c : Bool) → List BodyValue
picked a b c =
    let rest : List BodyValue = cond c (in_row 2 ∷ []) [] in
    let more : List BodyValue = cond b (in_row 1 ∷ rest) rest in
    cond a (in_row 0 ∷ more) more

-- the bodies of the ranks below, above and at a number, by comparisons with 0, 21 and 42
module _ (q : ℕ) (a b c : Bool) where
  left_is : ltb 0 q ≡ a → ltb 21 q ≡ b → ltb 42 q ≡ c → left_of three q ≡ greatest (map key_of_body (picked a b c))
  unfolding key_to three
  left_is x y z =
      ap (λ (t : Bool). greatest (map key_of_body (picked t (ltb 21 q) (ltb 42 q)))) x
      ∙ (ap (λ (t : Bool). greatest (map key_of_body (picked a t (ltb 42 q)))) y
      ∙ ap (λ (t : Bool). greatest (map key_of_body (picked a b t))) z)

  right_is : ltb q 0 ≡ a → ltb q 21 ≡ b → ltb q 42 ≡ c → right_of three q ≡ least (map key_of_body (picked a b c))
  unfolding key_to three
  right_is x y z =
      ap (λ (t : Bool). least (map key_of_body (picked t (ltb q 21) (ltb q 42)))) x
      ∙ (ap (λ (t : Bool). least (map key_of_body (picked a t (ltb q 42)))) y
      ∙ ap (λ (t : Bool). least (map key_of_body (picked a b t))) z)

  piece_is : eqb 0 q ≡ a → eqb 21 q ≡ b → eqb 42 q ≡ c → piece three q ≡ picked a b c
  unfolding key_to three
  piece_is x y z =
      ap (λ (t : Bool). picked t (eqb 21 q) (eqb 42 q)) x
      ∙ (ap (λ (t : Bool). picked a t (eqb 42 q)) y
      ∙ ap (λ (t : Bool). picked a b t) z)

-- the greatest key of a lower rank
pub left_none : (q : ℕ) → q ≡ 0 → left_of three q ≡ None
unfolding greatest
left_none q e = left_is q false false false (le-ltb 0 q (omega (arith, e))) (le-ltb 21 q (omega (arith, e))) (le-ltb 42 q (omega (arith, e)))

-- for the ranks 1 to 21 it is that of the first body
pub left_first : (q : ℕ) → q ≢ 0 → q ≤ 21 → left_of three q ≡ Some 9223372036854775808
unfolding greatest key_to
left_first q d h = left_is q true false false (lt-ltb 0 q (positive q d)) (le-ltb 21 q h) (le-ltb 42 q (omega (arith, h)))
  where
    positive : (n : ℕ) → n ≢ 0 → 0 < n
    positive zero e = absurd (e refl)
    positive (suc n) e = omega arith

-- for the ranks 22 to 42 that of the second
pub left_second : (q : ℕ) → 21 < q → q ≤ 42 → left_of three q ≡ Some 9223372036854775812
unfolding greatest key_to
left_second q d h = left_is q true true false (lt-ltb 0 q (omega (arith, d))) (lt-ltb 21 q d) (le-ltb 42 q h)

-- and above that of the third
pub left_third : (q : ℕ) → 42 < q → left_of three q ≡ Some 9223372036854775840
unfolding greatest key_to
left_third q d = left_is q true true true (lt-ltb 0 q (omega (arith, d))) (lt-ltb 21 q (omega (arith, d))) (lt-ltb 42 q d)

-- the least key of a higher rank
pub right_second : (q : ℕ) → q < 21 → right_of three q ≡ Some 9223372036854775812
unfolding least key_to
right_second q d = right_is q false true true (le-ltb q 0 (omega arith)) (lt-ltb q 21 d) (lt-ltb q 42 (omega (arith, d)))

-- for the ranks 21 to 41 it is that of the third body
pub right_third : (q : ℕ) → 21 ≤ q → q < 42 → right_of three q ≡ Some 9223372036854775840
unfolding least key_to
right_third q h d = right_is q false false true (le-ltb q 0 (omega arith)) (le-ltb q 21 h) (lt-ltb q 42 d)

-- and above there is none
pub right_none : (q : ℕ) → 42 ≤ q → right_of three q ≡ None
unfolding least
right_none q h = right_is q false false false (le-ltb q 0 (omega arith)) (le-ltb q 21 (omega (arith, h))) (le-ltb q 42 h)

-- the bodies of a rank
pub piece_first : (q : ℕ) → q ≡ 0 → piece three q ≡ in_row 0 ∷ []
piece_first q e = piece_is q true false false (eq-eqb 0 q (sym e)) (ne_eqb 21 q (λ f. omega (arith, e, f))) (ne_eqb 42 q (λ f. omega (arith, e, f)))

-- rank 21 has the second
pub piece_second : (q : ℕ) → q ≡ 21 → piece three q ≡ in_row 1 ∷ []
piece_second q e = piece_is q false true false (ne_eqb 0 q (λ f. omega (arith, e, f))) (eq-eqb 21 q (sym e)) (ne_eqb 42 q (λ f. omega (arith, e, f)))

-- rank 42 has the third
pub piece_third : (q : ℕ) → q ≡ 42 → piece three q ≡ in_row 2 ∷ []
piece_third q e = piece_is q false false true (ne_eqb 0 q (λ f. omega (arith, e, f))) (ne_eqb 21 q (λ f. omega (arith, e, f))) (eq-eqb 42 q (sym e))

-- and all others have none
pub piece_none : (q : ℕ) → q ≢ 0 → q ≢ 21 → q ≢ 42 → piece three q ≡ []
piece_none q a b c = piece_is q false false false (ne_eqb 0 q (λ f. a (sym f))) (ne_eqb 21 q (λ f. b (sym f))) (ne_eqb 42 q (λ f. c (sym f)))

-- a new rank has begun after a step
pub begun_step : (opens : BodyValue → CellValue → Bool) (w : World) (q r : ℕ) (s t : Seat) → IsNew q r s → Moves opens w s t → HasBegun q t
begun_step opens w q r s t n m = record {
  me = m.me ∙ n.me;
  begun = m.begun;
  inbox = m.read;
  heard = λ p.
      let a : times p s.heard ≡ 0 = ap (times p) n.heard in
      let b : times p (all_told s.inbox) ≡ 0 = ap (λ (ls : List LetterValue). times p (all_told ls)) n.inbox in
      let d = m.heard p in
      omega (arith, a, b, d);
  answered = λ k.
      let a = none_new q r s n k in
      let d = m.answered k in
      omega (arith, a, d);
}

-- and so behind each letter that it gives out
pub begun_popped : (q : ℕ) (s t : Seat) (l : LetterValue) → HasBegun q s → PopsOut s (Some l) t → HasBegun q t
begun_popped q s t l h p = record {
  me = ap (λ (x : Seat). x.me) p.1 ∙ h.me;
  begun = ap (λ (x : Seat). x.begun) p.1 ∙ h.begun;
  inbox = ap (λ (x : Seat). x.inbox) p.1 ∙ h.inbox;
  heard = λ n. ap (λ (x : Seat). times n x.heard) p.1 ∙ h.heard n;
  answered = λ k. ap (λ (x : Seat). times k x.answered) p.1 ∙ h.answered k;
}

-- a rank that has begun and has sent all its letters is ready
pub begun_ready : (q : ℕ) (s : Seat) → HasBegun q s → s.outbox ≡ [] → IsReady q s
begun_ready q s h o = record {
  me = h.me;
  begun = h.begun;
  outbox = o;
  none = λ k.
      let a = h.answered k in
      let b : times k (all_answered s.inbox) ≡ 0 = ap (λ (ls : List LetterValue). times k (all_answered ls)) h.inbox in
      omega (arith, a, b);
}

-- and has heard nobody
pub begun_heard : (q : ℕ) (s : Seat) → HasBegun q s → HeardBelow 0 s
begun_heard q s h p l =
    let a = h.heard p in
    let b : times p (all_told s.inbox) ≡ 0 = ap (λ (ls : List LetterValue). times p (all_told ls)) h.inbox in
    omega (arith, a, b)

-- the next rank is heard
pub heard_next : (n : ℕ) (s t : Seat) (l : LetterValue) → HeardBelow n s → l.from ≡ n → t ≡ with_letter s l → HeardBelow (n + 1) t
heard_next n s t l h f e p i = unheard_other s t l p (h p (omega (arith, i))) e (λ g. omega (arith, f, g, i))

-- a rank that is ready stays ready where it hears another one
pub ready_more : (q : ℕ) (s t : Seat) (l : LetterValue) → IsReady q s → kind_of l.content ≡ kinds.Branches → t ≡ with_letter s l → IsReady q t
ready_more q s t l h k e = record {
  me = ap (λ (x : Seat). x.me) e ∙ h.me;
  begun = ap (λ (x : Seat). x.begun) e ∙ h.begun;
  outbox = ap (λ (x : Seat). x.outbox) e ∙ h.outbox;
  none = λ j.
      let a : times j t.answered ≡ times j s.answered = ap (λ (x : Seat). times j x.answered) e in
      let b : times j (all_answered t.inbox) ≡ times j (all_answered (s.inbox ++ l ∷ [])) = ap (λ (x : Seat). times j (all_answered x.inbox)) e in
      let d = answered_more j s.inbox l in
      let f : times j (answered_in l.content) ≡ 0 = ap (times j) (tells_only l.content k) in
      let n = h.none j in
      omega (arith, a, b, d, f, n);
}

-- a ready rank makes a step and gives out two letters
module _ (opens : BodyValue → CellValue → Bool) (w : World) (q : ℕ) (s a b c t : Seat) (l k : LetterValue) (h : IsReady q s) (m : Moves opens w s a) (x : PopsOut a (Some l) b) (y : PopsOut b (Some k) c) (e : t ≡ c) where
  both_me : t.me ≡ q
  both_me = ap (λ (z : Seat). z.me) e ∙ (ap (λ (z : Seat). z.me) y.1 ∙ (ap (λ (z : Seat). z.me) x.1 ∙ (m.me ∙ h.me)))

  both_inbox : t.inbox ≡ []
  both_inbox = ap (λ (z : Seat). z.inbox) e ∙ (ap (λ (z : Seat). z.inbox) y.1 ∙ (ap (λ (z : Seat). z.inbox) x.1 ∙ m.read))

  both_answered : (j : ℕ) → times j t.answered ≡ 0
  both_answered j =
      let f : times j t.answered ≡ times j a.answered = ap (λ (z : Seat). times j z.answered) e ∙ (ap (λ (z : Seat). times j z.answered) y.1 ∙ ap (λ (z : Seat). times j z.answered) x.1) in
      let g = m.answered j in
      let n = h.none j in
      omega (arith, f, g, n)

  -- what a letter of the step asks for was asked for
  asked_of : (i : LetterValue) → Contains a.outbox i → HasAsked t i
  asked_of i n j d =
      let o : Contains (sends w s m.fresh) i = subst (λ (ls : List LetterValue). Contains ls i) (m.sent ∙ ap (λ (ls : List LetterValue). ls ++ sends w s m.fresh) h.outbox) n in
      let g = sent_asks w s m.fresh i j h.begun o d in
      let f : t.asked ≡ s.asked ++ m.fresh = ap (λ (z : Seat). z.asked) e ∙ (ap (λ (z : Seat). z.asked) y.1 ∙ (ap (λ (z : Seat). z.asked) x.1 ∙ m.asked)) in
      subst (λ (ks : List ℕ). Contains ks j) (sym f) (Contains-append_right s.asked m.fresh j g)

  out : a.outbox ≡ l ∷ k ∷ c.outbox
  out = x.0 ∙ ap (λ (ls : List LetterValue). l ∷ ls) y.0

  pub asked_first : HasAsked t l
  asked_first = asked_of l (subst (λ (ls : List LetterValue). Contains ls l) (sym out) (0, omega arith, refl))

  pub asked_second : HasAsked t k
  asked_second = asked_of k (subst (λ (ls : List LetterValue). Contains ls k) (sym out) (1, omega arith, refl))

  pub after_both : (t.me ≡ q) × (t.inbox ≡ []) × ((j : ℕ) → times j t.answered ≡ 0)
  after_both = (both_me, both_inbox, both_answered)

-- a rank that has begun and takes an asks letter answers for what it asks for, and for nothing else
pub answers_only : (w : World) (q : ℕ) (r s t : Seat) (l k : LetterValue) → HasBegun q r → r.outbox ≡ [] → s ≡ with_letter r l → Sent w s t k → AnswersOnly l k
answers_only w q r s t l k h o e x j d =
    let begun : s.begun ≡ true = ap (λ (z : Seat). z.begun) e ∙ h.begun in
    let outbox : s.outbox ≡ [] = ap (λ (z : Seat). z.outbox) e ∙ o in
    let inbox : s.inbox ≡ l ∷ [] = ap (λ (z : Seat). z.inbox) e ∙ ap (λ (ls : List LetterValue). ls ++ l ∷ []) h.inbox in
    let a = sent_answers w s x.fresh k j begun (subst (λ (ls : List LetterValue). Contains (ls ++ sends w s x.fresh) k) outbox x.sent) d in
    if_has (eqb k.to l.from) (asked_in l.content) j (subst (λ (ls : List LetterValue). Contains (asked_by k.to ls) j) inbox a)

-- what was asked for in a letter was asked for where it is answered for
pub asked_for : (s : Seat) (l k : LetterValue) → HasAsked s l → AnswersOnly l k → HasAskedFor s k
asked_for s l k h a j d = h j (a j d)

-- what a true letter answers for are cells of its sender
cells_of : (w : World) (from to k : ℕ) (c : Content) → TrueContent w from to c → Contains (answered_in c) k → IsCellOf w from k
cells_of w from to k (content.Branches rs) t m = absurd (nil_has k m)
cells_of w from to k (content.Asks ks) t m = absurd (nil_has k m)
cells_of w from to k (content.Answers xs) t m =
    let x = has_map (λ (a : Answered). a.key) xs k m in
    subst (λ (j : ℕ). IsCellOf w from j) (sym x.2) (t.1 x.0 x.1).0

-- the first of two answers
pub answer_first : (s : Seat) (l : LetterValue) → kind_of l.content ≡ kinds.Answers → s.inbox ≡ [] → ((k : ℕ) → times k s.answered ≡ 0) → HasAskedFor s l → IsFresh s l
answer_first s l k i n h = fresh_answers s l.from l.content k (λ j d. (
  h j d,
  let a : times j (all_answered s.inbox) ≡ 0 = ap (λ (ls : List LetterValue). times j (all_answered ls)) i in
      let b = n j in
      omega (arith, a, b),
))

-- the second of two answers of different ranks
pub answer_second : (w : World) (p q r : ℕ) (s t : Seat) (l k : LetterValue) → p ≢ q → IsSent w kinds.Answers p r l → IsSent w kinds.Answers q r k → s.inbox ≡ [] → ((j : ℕ) → times j s.answered ≡ 0) → HasAskedFor s k → t ≡ with_letter s l → IsFresh t k
answer_second w p q r s t l k d x y i n h e = fresh_answers t k.from k.content y.kind (λ j m. (
  subst (λ (ks : List ℕ). Contains ks j) (sym (ap (λ (z : Seat). z.asked) e)) (h j m),
  let a : times j t.answered ≡ times j s.answered = ap (λ (z : Seat). times j z.answered) e in
      let b : times j (all_answered t.inbox) ≡ times j (all_answered (s.inbox ++ l ∷ [])) = ap (λ (z : Seat). times j (all_answered z.inbox)) e in
      let c : times j (all_answered s.inbox) ≡ 0 = ap (λ (ls : List LetterValue). times j (all_answered ls)) i in
      let f = answered_more j s.inbox l in
      let g = n j in
      let o = apart j m in
      omega (arith, a, b, c, f, g, o),
))
  where
    cell : (j : ℕ) (v : ℕ) (z : LetterValue) → IsSent w kinds.Answers v r z → Contains (answered_in z.content) j → IsCellOf w v j
    cell j v z u m = subst (λ (g : ℕ). IsCellOf w g j) u.from_is (cells_of w z.from z.to j z.content u.truth.truth m)

    not_both : (j : ℕ) → Contains (answered_in k.content) j → Contains (answered_in l.content) j → ⊥
    not_both j m o =
        let a = cell j p l x o in
        let b = cell j q k y m in
        d (one_owner w p q j a.cell a.some a.owner b.owner)

    apart : (j : ℕ) → Contains (answered_in k.content) j → times j (answered_in l.content) ≡ 0
    apart j m = elim (cases_lt 0 (times j (answered_in l.content))) [
      | inl o ↦ absurd (not_both j m (times_has j (answered_in l.content) (omega (arith, o))))
      | inr o ↦ omega (arith, o)
    ]
