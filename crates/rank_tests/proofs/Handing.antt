-- Letters that a step puts out, and that another rank may take.
use Rattle.std.proofs.Common.{ℕ, zero, suc, ◌≡◌, ◌≢◌, ◌+◌, Bool, true, false, eqb, List, [], ◌∷◌, ◌++◌, map, sym, refl, ap, ◌∙◌, subst, inl, inr, arith, Some}
use Rattle.std.specs.Prelude.{Contains, ◌⊎◌, if◌then◌else◌}
use Rattle.std.proofs.lemmas.List.Elements.{Contains-append_cases, Contains-append_left, Contains-append_right}
use Rattle.hot_units.specs.Values.{BodyValue, CellValue}
use Rattle.hot_units.proofs.Members.{cons_cases, nil_has, has_map, has_filter}
use Rattle.hot_model.specs.declared.answer.Answered.{Answered}
use Rattle.rank_model.specs.World.{World}
use Rattle.cell_mail.specs.declared.content.Content.{Content}
use Rattle.cell_mail.specs.declared.content.Content.TheVariants as content
use Rattle.cell_mail.specs.declared.content.Kind.TheVariants as kinds
use Rattle.cell_mail.specs.Letters.{LetterValue, kind_of}
use Rattle.rank_core.specs.Times.{flag, times}
use Rattle.rank_core.specs.Truth.{owner_of}
use Rattle.rank_core.specs.Seat.{Seat, IsNew, Moves, FreshContent, IsFresh, all_answered, all_told, answered_for, answered_in, answers_by, answers_for, answers_letter, asked_by, asked_in, asks_for, asks_letter, branches_letter, each_below, owned_by, sends, sorted_keys, told_in, with_letter}
use Rattle.rank_core.specs.Seats.{PopsOut}
use Rattle.rank_tests.specs.Worlds.{IsReady, Asks, HeardNone}
use Rattle.rank_core.proofs.Ordering.{has_times}
use Rattle.rank_core.proofs.Sending.{times_sorted}
use Rattle.rank_core.proofs.Taking.{times_has, told_more}
use Rattle.std.proofs.lemmas.Bool.{ne_eqb}

-- a letter that tells or asks answers nothing
pub tells_only : (c : Content) → kind_of c ≡ kinds.Branches → answered_in c ≡ []
tells_only (content.Branches rs) e = refl
tells_only (content.Asks ks) e = refl
tells_only (content.Answers xs) e = (let f : kinds.Answers ≡ kinds.Branches = e in cc)

asks_only : (c : Content) → kind_of c ≡ kinds.Asks → answered_in c ≡ []
asks_only (content.Branches rs) e = refl
asks_only (content.Asks ks) e = refl
asks_only (content.Answers xs) e = (let f : kinds.Answers ≡ kinds.Asks = e in cc)

-- what a rank may take, kind by kind
pub fresh_branches : (s : Seat) (p : ℕ) (c : Content) → kind_of c ≡ kinds.Branches → times p s.heard + times p (all_told s.inbox) ≡ 0 → FreshContent s p c
fresh_branches s p (content.Branches rs) e h = h
fresh_branches s p (content.Asks ks) e h = (let f : kinds.Asks ≡ kinds.Branches = e in cc)
fresh_branches s p (content.Answers xs) e h = (let f : kinds.Answers ≡ kinds.Branches = e in cc)

-- asks, where the inbox is empty
pub fresh_asks : (s : Seat) (p : ℕ) (c : Content) → kind_of c ≡ kinds.Asks → s.inbox ≡ [] → FreshContent s p c
fresh_asks s p (content.Branches rs) e h = (let f : kinds.Branches ≡ kinds.Asks = e in cc)
fresh_asks s p (content.Asks ks) e h = λ k m. ap (λ (ls : List LetterValue). times k (asked_by p ls)) h
fresh_asks s p (content.Answers xs) e h = (let f : kinds.Answers ≡ kinds.Asks = e in cc)

-- answers for cells that it asked for, and whose answers it has not got
pub fresh_answers : (s : Seat) (p : ℕ) (c : Content) → kind_of c ≡ kinds.Answers → ((k : ℕ) → Contains (answered_in c) k → Contains s.asked k × (times k s.answered + times k (all_answered s.inbox) ≡ 0)) → FreshContent s p c
fresh_answers s p (content.Branches rs) e h = (let f : kinds.Branches ≡ kinds.Answers = e in cc)
fresh_answers s p (content.Asks ks) e h = (let f : kinds.Asks ≡ kinds.Answers = e in cc)
fresh_answers s p (content.Answers xs) e h = h

-- a letter to some rank
each_has : (g : ℕ → List LetterValue) (n : ℕ) (l : LetterValue) → Contains (each_below g n) l → (q : ℕ) × Contains (g q) l
each_has g zero l m = absurd (nil_has l m)
each_has g (suc n) l m = elim (Contains-append_cases (each_below g n) (g n) l m) [ inl f ↦ each_has g n l f | inr f ↦ (n, f) ]

-- an answers letter asks for nothing, and an asks letter answers nothing
none_asked : (answer : ℕ → Answered) (me q : ℕ) (ks : List ℕ) (l : LetterValue) (k : ℕ) → Contains (answers_by answer me q ks) l → Contains (asked_in l.content) k → ⊥
none_asked answer me q [] l k m n = nil_has l m
none_asked answer me q (j ∷ ks) l k m n = elim (cons_cases (record { from = me; to = q; content = content.Answers (map answer (j ∷ ks)) }) [] l m) [
  | inl e ↦ nil_has k (subst (λ (x : LetterValue). Contains (asked_in x.content) k) e n)
  | inr f ↦ nil_has l f
]

none_answered : (me q : ℕ) (ks : List ℕ) (l : LetterValue) (k : ℕ) → Contains (asks_letter me q ks) l → Contains (answered_in l.content) k → ⊥
none_answered me q [] l k m n = nil_has l m
none_answered me q (j ∷ ks) l k m n = elim (cons_cases (record { from = me; to = q; content = content.Asks (j ∷ ks) }) [] l m) [
  | inl e ↦ nil_has k (subst (λ (x : LetterValue). Contains (answered_in x.content) k) e n)
  | inr f ↦ nil_has l f
]

-- the keys of an asks letter, and of an answers letter
asks_keys : (me q : ℕ) (ks : List ℕ) (l : LetterValue) (k : ℕ) → Contains (asks_letter me q ks) l → Contains (asked_in l.content) k → Contains ks k
asks_keys me q [] l k m n = absurd (nil_has l m)
asks_keys me q (j ∷ ks) l k m n = elim (cons_cases (record { from = me; to = q; content = content.Asks (j ∷ ks) }) [] l m) [
  | inl e ↦ subst (λ (x : LetterValue). Contains (asked_in x.content) k) e n
  | inr f ↦ absurd (nil_has l f)
]

answers_keys : (w : World) (me q : ℕ) (ks : List ℕ) (l : LetterValue) (k : ℕ) → Contains (answers_letter w me q ks) l → Contains (answered_in l.content) k → (l.to ≡ q) × Contains ks k
answers_keys w me q [] l k m n = absurd (nil_has l m)
answers_keys w me q (j ∷ ks) l k m n = elim (cons_cases (record { from = me; to = q; content = content.Answers (map (answered_for w) (j ∷ ks)) }) [] l m) [
  | inl e ↦
      let x = has_map (λ (a : Answered). a.key) (map (answered_for w) (j ∷ ks)) k (subst (λ (x : LetterValue). Contains (answered_in x.content) k) e n) in
      let y = has_map (answered_for w) (j ∷ ks) x.0 x.1 in
      (ap (λ (x : LetterValue). x.to) e, subst (Contains (j ∷ ks)) (sym (x.2 ∙ ap (λ (a : Answered). a.key) y.2)) y.1)
  | inr f ↦ absurd (nil_has l f)
]

sorted_has : (ks : List ℕ) (k : ℕ) → Contains (sorted_keys ks) k → Contains ks k
sorted_has ks k m = let a = has_times k (sorted_keys ks) m in let e = times_sorted k ks in times_has k ks (omega (arith, a, e))

-- a step that is not the first sends answers and asks
later : (w : World) (s : Seat) (ks : List ℕ) (l : LetterValue) → s.begun ≡ true → Contains (sends w s ks) l → Contains (each_below (answers_for w s.me s.inbox) s.ranks) l ⊎ Contains (each_below (asks_for w s.me ks) s.ranks) l
later w s ks l b m =
    let n = subst (λ (t : Bool). Contains ((if t then [] else each_below (branches_letter w s.me) s.ranks) ++ (each_below (answers_for w s.me s.inbox) s.ranks ++ each_below (asks_for w s.me ks) s.ranks)) l) b m in
    Contains-append_cases (each_below (answers_for w s.me s.inbox) s.ranks) (each_below (asks_for w s.me ks) s.ranks) l n

-- its asks are for the cells that became asked
pub sent_asks : (w : World) (s : Seat) (ks : List ℕ) (l : LetterValue) (k : ℕ) → s.begun ≡ true → Contains (sends w s ks) l → Contains (asked_in l.content) k → Contains ks k
sent_asks w s ks l k b m n = elim (later w s ks l b m) [
  | inl f ↦ (let x = each_has (answers_for w s.me s.inbox) s.ranks l f in absurd (none_asked (answered_for w) s.me x.0 (sorted_keys (asked_by x.0 s.inbox)) l k x.1 n))
  | inr f ↦
      let x = each_has (asks_for w s.me ks) s.ranks l f in
      let y = asks_keys s.me x.0 (sorted_keys (owned_by w x.0 ks)) l k x.1 n in
      (has_filter (λ c. eqb (owner_of w c) x.0) ks k (sorted_has (owned_by w x.0 ks) k y)).0
]

-- its answers are for what their receiver asked for
pub sent_answers : (w : World) (s : Seat) (ks : List ℕ) (l : LetterValue) (k : ℕ) → s.begun ≡ true → Contains (sends w s ks) l → Contains (answered_in l.content) k → Contains (asked_by l.to s.inbox) k
sent_answers w s ks l k b m n = elim (later w s ks l b m) [
  | inl f ↦
      let x = each_has (answers_for w s.me s.inbox) s.ranks l f in
      let y = answers_keys w s.me x.0 (sorted_keys (asked_by x.0 s.inbox)) l k x.1 n in
      subst (λ (q : ℕ). Contains (asked_by q s.inbox) k) (sym y.0) (sorted_has (asked_by x.0 s.inbox) k y.1)
  | inr f ↦ (let x = each_has (asks_for w s.me ks) s.ranks l f in absurd (none_answered s.me x.0 (sorted_keys (owned_by w x.0 ks)) l k x.1 n))
]

-- t is the rank s after a step and after its letters were given out, of which l is one
pub record Sent (w : World) (s t : Seat) (l : LetterValue) : Type 0 where
  pub me : t.me ≡ s.me
  pub begun : t.begun ≡ true
  pub inbox : t.inbox ≡ []
  pub outbox : t.outbox ≡ []
  pub heard : (p : ℕ) → times p t.heard ≡ times p s.heard + times p (all_told s.inbox)
  pub answered : (k : ℕ) → times k t.answered ≡ times k s.answered + times k (all_answered s.inbox)
  pub fresh : List ℕ
  pub asked : t.asked ≡ s.asked ++ fresh
  pub sent : Contains (s.outbox ++ sends w s fresh) l

-- a step, one letter given out, and an empty outbox behind it
pub sent_one : (opens : BodyValue → CellValue → Bool) (w : World) (s a b t : Seat) (l : LetterValue) → Moves opens w s a → PopsOut a (Some l) b → t ≡ b → t.outbox ≡ [] → Sent w s t l
sent_one opens w s a b t l m p e o = record {
  me = ap (λ (x : Seat). x.me) e ∙ (ap (λ (x : Seat). x.me) p.1 ∙ m.me);
  begun = ap (λ (x : Seat). x.begun) e ∙ (ap (λ (x : Seat). x.begun) p.1 ∙ m.begun);
  inbox = ap (λ (x : Seat). x.inbox) e ∙ (ap (λ (x : Seat). x.inbox) p.1 ∙ m.read);
  outbox = o;
  heard = λ q. ap (λ (x : Seat). times q x.heard) e ∙ (ap (λ (x : Seat). times q x.heard) p.1 ∙ m.heard q);
  answered = λ k. ap (λ (x : Seat). times k x.answered) e ∙ (ap (λ (x : Seat). times k x.answered) p.1 ∙ m.answered k);
  fresh = m.fresh;
  asked = ap (λ (x : Seat). x.asked) e ∙ (ap (λ (x : Seat). x.asked) p.1 ∙ m.asked);
  sent = subst (λ (ls : List LetterValue). Contains ls l) (sym p.0 ∙ m.sent) (0, omega arith, refl);
}

-- a rank that got no answers and takes a letter that is none is ready
module _ (w : World) (q : ℕ) (s t u : Seat) (l k : LetterValue) (x : Sent w s t l) (me : s.me ≡ q) (none : (c : ℕ) → times c s.answered + times c (all_answered s.inbox) ≡ 0) (e : u ≡ with_letter t k) where
  box : u.inbox ≡ k ∷ []
  box = ap (λ (y : Seat). y.inbox) e ∙ ap (λ (ls : List LetterValue). ls ++ k ∷ []) x.inbox

  ready_by : answered_in k.content ≡ [] → IsReady q u
  ready_by f = record {
    me = ap (λ (y : Seat). y.me) e ∙ (x.me ∙ me);
    begun = ap (λ (y : Seat). y.begun) e ∙ x.begun;
    outbox = ap (λ (y : Seat). y.outbox) e ∙ x.outbox;
    none = λ c.
        let a : times c u.answered ≡ times c t.answered = ap (λ (y : Seat). times c y.answered) e in
        let b : times c (all_answered u.inbox) ≡ 0 = ap (λ (ls : List LetterValue). times c (all_answered ls)) box ∙ ap (λ (ks : List ℕ). times c (ks ++ [])) f in
        let d = x.answered c in
        let n = none c in
        omega (arith, a, b, d, n);
  }

  pub ready_told : kind_of k.content ≡ kinds.Branches → IsReady q u
  ready_told f = ready_by (tells_only k.content f)

  pub ready_asked : kind_of k.content ≡ kinds.Asks → IsReady q u
  ready_asked f = ready_by (asks_only k.content f)

-- a rank that is new has heard nothing, and has got no answers
pub none_new : (q r : ℕ) (s : Seat) → IsNew q r s → (c : ℕ) → times c s.answered + times c (all_answered s.inbox) ≡ 0
none_new q r s n c =
    let a : times c s.answered ≡ 0 = ap (times c) n.answered in
    let b : times c (all_answered s.inbox) ≡ 0 = ap (λ (ls : List LetterValue). times c (all_answered ls)) n.inbox in
    omega (arith, a, b)

-- a new rank that has made its first step has heard nobody
pub unheard_new : (w : World) (q r p : ℕ) (s t : Seat) (l : LetterValue) → IsNew q r s → Sent w s t l → times p t.heard + times p (all_told t.inbox) ≡ 0
unheard_new w q r p s t l n x =
    let a : times p s.heard ≡ 0 = ap (times p) n.heard in
    let b : times p (all_told s.inbox) ≡ 0 = ap (λ (ls : List LetterValue). times p (all_told ls)) n.inbox in
    let c : times p (all_told t.inbox) ≡ 0 = ap (λ (ls : List LetterValue). times p (all_told ls)) x.inbox in
    let d = x.heard p in
    omega (arith, a, b, c, d)

-- what is asked for in a letter, if it is counted
pub if_has : (b : Bool) (ks : List ℕ) (k : ℕ) → Contains ((if b then ks else []) ++ []) k → Contains ks k
if_has true ks k m = elim (Contains-append_cases ks [] k m) [ inl f ↦ f | inr f ↦ absurd (nil_has k f) ]
if_has false ks k m = absurd (nil_has k m)

-- what the letter of a ready rank asks for, the rank has asked for
pub asks_of : (w : World) (q : ℕ) (s t u r v : Seat) (l k : LetterValue) → IsReady q s → Sent w s t l → u ≡ with_letter t k → r.inbox ≡ [] → v ≡ with_letter r l → Asks u v
asks_of w q s t u r v l k h x e i f = λ c m.
    let box : v.inbox ≡ l ∷ [] = ap (λ (y : Seat). y.inbox) f ∙ ap (λ (ls : List LetterValue). ls ++ l ∷ []) i in
    let a = if_has (eqb u.me l.from) (asked_in l.content) c (subst (λ (ls : List LetterValue). Contains (asked_by u.me ls) c) box m) in
    let b = sent_asks w s x.fresh l c h.begun (subst (λ (ls : List LetterValue). Contains (ls ++ sends w s x.fresh) l) h.outbox x.sent) a in
    subst (λ (ks : List ℕ). Contains ks c) (sym (ap (λ (y : Seat). y.asked) e ∙ x.asked)) (Contains-append_right s.asked x.fresh c b)

-- the answer of a ready rank may be taken by the rank that asked
pub answer_fits : (w : World) (p q : ℕ) (s t r v : Seat) (l k : LetterValue) → IsReady p s → IsReady q r → Asks s r → Sent w s t k → Sent w r v l → l.to ≡ p → kind_of l.content ≡ kinds.Answers → IsFresh t l
answer_fits w p q s t r v l k hs hr asks x y to kind =
    fresh_answers t l.from l.content kind (λ c m. (
      let a = sent_answers w r y.fresh l c hr.begun (subst (λ (ls : List LetterValue). Contains (ls ++ sends w r y.fresh) l) hr.outbox y.sent) m in
          let b = asks c (subst (λ (z : ℕ). Contains (asked_by z r.inbox) c) (to ∙ sym hs.me) a) in
          subst (λ (ks : List ℕ). Contains ks c) (sym x.asked) (Contains-append_left s.asked x.fresh c b),
      let a : times c (all_answered t.inbox) ≡ 0 = ap (λ (ls : List LetterValue). times c (all_answered ls)) x.inbox in
          let b = x.answered c in
          let n = hs.none c in
          omega (arith, a, b, n),
    ))

-- a new rank that has made its first step, and has given out two letters, has heard nobody
pub unheard_two : (opens : BodyValue → CellValue → Bool) (w : World) (q r : ℕ) (s a b c t : Seat) (l k : LetterValue) → IsNew q r s → Moves opens w s a → PopsOut a (Some l) b → PopsOut b (Some k) c → t ≡ c → HeardNone t
unheard_two opens w q r s a b c t l k n m x y e = λ p.
    let same : (times p t.heard ≡ times p a.heard) × (times p (all_told t.inbox) ≡ times p (all_told a.inbox)) = (
      ap (λ (z : Seat). times p z.heard) e ∙ (ap (λ (z : Seat). times p z.heard) y.1 ∙ ap (λ (z : Seat). times p z.heard) x.1),
      ap (λ (z : Seat). times p (all_told z.inbox)) e ∙ (ap (λ (z : Seat). times p (all_told z.inbox)) y.1 ∙ ap (λ (z : Seat). times p (all_told z.inbox)) x.1),
    ) in
    let f = m.heard p in
    let g : times p s.heard ≡ 0 = ap (times p) n.heard in
    let h : times p (all_told s.inbox) ≡ 0 = ap (λ (ls : List LetterValue). times p (all_told ls)) n.inbox in
    let i : times p (all_told a.inbox) ≡ 0 = ap (λ (ls : List LetterValue). times p (all_told ls)) m.read in
    omega (arith, same.0, same.1, f, g, h, i)

told_one : (q : ℕ) (c : Content) (p : ℕ) → p ≢ q → times p (told_in q c) ≡ 0
told_one q (content.Branches rs) p d = (let e : eqb p q ≡ false = ne_eqb p q d in ap (λ (b : Bool). flag b + 0) e)
told_one q (content.Asks ks) p d = refl
told_one q (content.Answers xs) p d = refl

-- a rank that has not heard another one has not heard it behind a letter of a third one
pub unheard_other : (s t : Seat) (l : LetterValue) (p : ℕ) → times p s.heard + times p (all_told s.inbox) ≡ 0 → t ≡ with_letter s l → l.from ≢ p → times p t.heard + times p (all_told t.inbox) ≡ 0
unheard_other s t l p h e d =
    let a : times p t.heard ≡ times p s.heard = ap (λ (z : Seat). times p z.heard) e in
    let b : times p (all_told t.inbox) ≡ times p (all_told (s.inbox ++ l ∷ [])) = ap (λ (z : Seat). times p (all_told z.inbox)) e in
    let f = told_more p s.inbox l in
    let g = told_one l.from l.content p (λ i. d (sym i)) in
    omega (arith, a, b, f, g, h)
