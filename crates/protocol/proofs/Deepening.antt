-- How deep the cells are of which letters speak, by the round.
use Rattle.std.proofs.Common.{◌≡◌, ◌⊎◌, ℕ, zero, suc, ◌+◌, ◌*◌, ◌<◌, ◌≤◌, Bool, true, false, Some, List, [], ◌∷◌, ◌++◌, length, map, refl, ap, arith, sym, subst, ◌∙◌, inl, inr, slice_get, slice_set, true≢false}
use Rattle.std.specs.Prelude.{Contains, if◌then◌else◌, eqb}
use Rattle.hot_units.specs.Values.{BodyValue, CellValue}
use Rattle.hot_units.specs.Keys.{level, parent}
use Rattle.hot_units.proofs.Digits.{level-le}
use Rattle.hot_units.proofs.Members.{map_has, has_filter, some_member}
use Rattle.hot_model.specs.declared.answer.Answered.{Answered}
use Rattle.rank_model.specs.World.{World, IsGood}
use Rattle.rank_model.specs.Branches.{branch_records}
use Rattle.cell_mail.specs.declared.content.Kind.TheVariants as kinds
use Rattle.cell_mail.specs.declared.content.Content.{Content}
use Rattle.cell_mail.specs.declared.content.Content.TheVariants as content
use Rattle.cell_mail.specs.Letters.{LetterValue, kind_of}
use Rattle.wire.specs.declared.entry.Entry.{Entry}
use Rattle.wire.specs.declared.entry.Entry.TheVariants.{Posted, Taken, Round}
use Rattle.wire.specs.declared.wire.Turn.{Turn}
use Rattle.cell_mail.specs.Notes.{note_of}
use Rattle.wire.specs.Desk.{Desk, Takes, posted, turned, rounded, rounds_in}
use Rattle.protocol.specs.Counts.{in_letters, in_posted, in_taken, same_kind, one_between, asks_by, answers_to, any_letter}
use Rattle.rank_core.specs.Truth.{IsCellOf, owner_of, TrueContent}
use Rattle.rank_core.specs.Seat.{Seat, Moves, each_below, branches_letter, sorted_keys, asked_by, answers_letter, asks_letter, answers_for, owned_by, asks_for, sends, with_outbox, with_inbox}
use Rattle.protocol.specs.Logs.{IsPrompt, taken_since, prompt_rounds}
use Rattle.protocol.specs.Joint.{Sits, Joint, AllQuiet, IsStart}
use Rattle.protocol.specs.Depth.{IsDeepContent, AllDeep, Deep}
use Rattle.protocol.proofs.Weights.{same_or_not, times-has, has-times, times-sorted}
use Rattle.protocol.proofs.Places.{get_some, get_within, set_cases}
use Rattle.protocol.proofs.Needing.{needs_cell}
use Rattle.protocol.proofs.Posting.{ask-value, ask-other, answer-value, ask-zero, answer-zero}
use Rattle.protocol.proofs.Bridges.{asked-times, heard_of}
use Rattle.protocol.proofs.Sending.{answer-away, keys_back}
use Rattle.protocol.proofs.Bounds.{one_cases}
use Rattle.protocol.proofs.Above.{asks_child, heard_or_not, needs_level, level_parent}
use Rattle.protocol.proofs.Taking.{taken_true}

deep-append : (n : ℕ) (xs ys : List LetterValue) → AllDeep n xs → AllDeep n ys → AllDeep n (xs ++ ys)
deep-append n [] ys a b = b
deep-append n (x ∷ xs) ys a b = (a.0, deep-append n xs ys a.1 b)

deep_parts : (n : ℕ) (before after : List LetterValue) (l : LetterValue) → AllDeep n (before ++ l ∷ after) → IsDeepContent n l.content × AllDeep n (before ++ after)
deep_parts n [] after l a = a
deep_parts n (x ∷ before) after l a = let r = deep_parts n before after l a.1 in (r.0, (a.0, r.1))

-- what deep letters tell
deep_branches : (n : ℕ) (x : Content) → kind_of x ≡ kinds.Branches → IsDeepContent n x → n ≤ 1
deep_branches n (content.Branches rs) e h = h
deep_branches n (content.Asks ks) e h = absurd (let k : kinds.Asks ≡ kinds.Branches = e in cc)
deep_branches n (content.Answers xs) e h = absurd (let k : kinds.Answers ≡ kinds.Branches = e in cc)

told_deep : (n p me : ℕ) (ls : List LetterValue) → AllDeep n ls → 1 ≤ in_letters (one_between kinds.Branches p me) ls → n ≤ 1
told_deep n p me [] h o = absurd (omega arith)
told_deep n p me (l ∷ ls) h o =
    elim (one_cases kinds.Branches p me (note_of l)) [
      | inl a ↦ deep_branches n l.content a.1 h.0
      | inr a ↦ told_deep n p me ls h.1 (omega arith)
    ]

ask_deep : (n q c : ℕ) (l : LetterValue) (x : Content) → l.content ≡ x → IsDeepContent n x → 1 ≤ asks_by q c (note_of l) → n ≤ 2 * level c
ask_deep n q c l (content.Branches rs) e h o = let z = ask-zero q c (note_of l) (ap (λ (y : Content). same_kind kinds.Asks (kind_of y)) e) in absurd (omega arith)
ask_deep n q c l (content.Answers xs) e h o = let z = ask-zero q c (note_of l) (ap (λ (y : Content). same_kind kinds.Asks (kind_of y)) e) in absurd (omega arith)
ask_deep n q c l (content.Asks ks) e h o =
    elim (same_or_not l.from q) [
      | inl f ↦ (let v = ask-value q c ks l e f in h c (has-times c ks (omega arith)))
      | inr f ↦ (let z = ask-other q c l f in absurd (omega arith))
    ]

zero_or_some : (n : ℕ) → (n ≡ 0) ⊎ (1 ≤ n)
zero_or_some zero = inl refl
zero_or_some (suc n) = inr (omega arith)

asks_deep : (n q c : ℕ) (ls : List LetterValue) → AllDeep n ls → 1 ≤ in_letters (asks_by q c) ls → n ≤ 2 * level c
asks_deep n q c [] h o = absurd (omega arith)
asks_deep n q c (l ∷ ls) h o =
    elim (zero_or_some (asks_by q c (note_of l))) [
      | inl z ↦ asks_deep n q c ls h.1 (omega arith)
      | inr a ↦ ask_deep n q c l l.content refl h.0 a
    ]

answer_deep : (n q c : ℕ) (l : LetterValue) (x : Content) → l.content ≡ x → IsDeepContent n x → 1 ≤ answers_to q c (note_of l) → n ≤ 2 * level c + 1
answer_deep n q c l (content.Branches rs) e h o = let z = answer-zero q c (note_of l) (ap (λ (y : Content). same_kind kinds.Answers (kind_of y)) e) in absurd (omega arith)
answer_deep n q c l (content.Asks ks) e h o = let z = answer-zero q c (note_of l) (ap (λ (y : Content). same_kind kinds.Answers (kind_of y)) e) in absurd (omega arith)
answer_deep n q c l (content.Answers xs) e h o =
    elim (same_or_not l.to q) [
      | inl f ↦ (let v = answer-value q c xs l e f in h c (has-times c (map (λ (a : Answered). a.key) xs) (omega arith)))
      | inr f ↦ (let z = answer-away q c (note_of l) f in absurd (omega arith))
    ]

answers_deep : (n q c : ℕ) (ls : List LetterValue) → AllDeep n ls → 1 ≤ in_letters (answers_to q c) ls → n ≤ 2 * level c + 1
answers_deep n q c [] h o = absurd (omega arith)
answers_deep n q c (l ∷ ls) h o =
    elim (zero_or_some (answers_to q c (note_of l))) [
      | inl z ↦ answers_deep n q c ls h.1 (omega arith)
      | inr a ↦ answer_deep n q c l l.content refl h.0 a
    ]

-- what a step sends is deep
below_deep : (n : ℕ) (g : ℕ → List LetterValue) (r : ℕ) → ((q : ℕ) → AllDeep n (g q)) → AllDeep n (each_below g r)
below_deep n g zero h = tt
below_deep n g (suc q) h = deep-append n (each_below g q) (g q) (below_deep n g q h) (h q)

branches_letter_deep : (n : ℕ) (w : World) (me q : ℕ) → n ≤ 1 → AllDeep n (branches_letter w me q)
branches_letter_deep n w me q h = elim (eqb q me) as (λ (b : Bool). AllDeep n (if b then [] else record { from = me; to = q; content = content.Branches (branch_records w me) } ∷ [])) [ true ↦ tt | false ↦ (h, tt) ]

answers_letter_deep : (n : ℕ) (w : World) (me q : ℕ) (ks : List ℕ) → ((c : ℕ) → Contains ks c → n ≤ 2 * level c + 1) → AllDeep n (answers_letter w me q ks)
answers_letter_deep n w me q [] h = tt
answers_letter_deep n w me q (k ∷ ks) h = (λ c m. h c (subst (λ (xs : List ℕ). Contains xs c) (keys_back w (k ∷ ks)) m), tt)

asks_letter_deep : (n me p : ℕ) (ks : List ℕ) → ((c : ℕ) → Contains ks c → n ≤ 2 * level c) → AllDeep n (asks_letter me p ks)
asks_letter_deep n me p [] h = tt
asks_letter_deep n me p (k ∷ ks) h = (h, tt)

sorted_has : (c : ℕ) (xs : List ℕ) → Contains (sorted_keys xs) c → Contains xs c
sorted_has c xs m = has-times c xs (let a = times-has c (sorted_keys xs) m in let b = times-sorted c xs in omega arith)

module _ (opens : BodyValue → CellValue → Bool) (w : World) (g : IsGood w) (s t : Seat) (st : Sits opens w s) (m : Moves opens w s t) (n : ℕ) (young : s.begun ≡ false → n ≡ 0) (deep : AllDeep n s.inbox) where
  fresh_deep : (c : ℕ) → Contains m.fresh c → n + 1 ≤ 2 * level c
  fresh_deep c x =
      let need = m.needed c x in
      let lv = needs_level opens w s.me c g need in
      elim (heard_or_not s) [
        | inl h ↦ (
            let a = asks_child opens w g s st t m h c x in
            let d = answers_deep n s.me (parent c) s.inbox deep a in
            let cc = needs_cell opens w s.me c g need in
            let e = level_parent w cc.0 c cc.1 lv.0 in omega (arith, lv.0))
        | inr h ↦ (
            let a = times-has h.0 t.heard (m.ready c x h.0 (omega (arith, h.1, m.ranks)) (λ e. h.2 (e ∙ m.me))) in
            let b = heard_of opens w s t st m h.0 in
            let d = told_deep n h.0 s.me s.inbox deep (omega (arith, h.3)) in omega (arith, lv.0))
      ]

  sends_deep : AllDeep (n + 1) (sends w s m.fresh)
  sends_deep =
      deep-append (n + 1) (if s.begun then [] else each_below (branches_letter w s.me) s.ranks) (each_below (answers_for w s.me s.inbox) s.ranks ++ each_below (asks_for w s.me m.fresh) s.ranks)
      (first s.begun refl)
      (deep-append (n + 1) (each_below (answers_for w s.me s.inbox) s.ranks) (each_below (asks_for w s.me m.fresh) s.ranks)
      (below_deep (n + 1) (answers_for w s.me s.inbox) s.ranks (λ q. answers_letter_deep (n + 1) w s.me q (sorted_keys (asked_by q s.inbox)) (λ c x. (
      let a = times-has c (asked_by q s.inbox) (sorted_has c (asked_by q s.inbox) x) in
      let b = asked-times q c s.inbox in
      let d = asks_deep n q c s.inbox deep (omega arith) in omega arith))))
      (below_deep (n + 1) (asks_for w s.me m.fresh) s.ranks (λ p. asks_letter_deep (n + 1) s.me p (sorted_keys (owned_by w p m.fresh)) (λ c x. fresh_deep c (has_filter (λ k. eqb (owner_of w k) p) m.fresh c (sorted_has c (owned_by w p m.fresh) x)).0))))
    where
      first : (b : Bool) → s.begun ≡ b → AllDeep (n + 1) (if b then [] else each_below (branches_letter w s.me) s.ranks)
      first true e = tt
      first false e = below_deep (n + 1) (branches_letter w s.me) s.ranks (λ q. branches_letter_deep (n + 1) w s.me q (let z = young e in omega arith))

-- events
module _ (opens : BodyValue → CellValue → Bool) (w : World) (ss ts : List Seat) (d : Desk) (j : Joint opens w ss d) (quiet : AllQuiet ss) (start : IsStart d.log) (len : length ts ≡ length ss) (step : (q : ℕ) (s t : Seat) → slice_get ss q ≡ Some s → slice_get ts q ≡ Some t → Moves opens w s t) (prompt : IsPrompt d.log) (n : ℕ) (deep : Deep ss d n) where
  before : (q : ℕ) (t : Seat) → slice_get ts q ≡ Some t → (s : Seat) × (slice_get ss q ≡ Some s) × Moves opens w s t
  before q t gt =
      let lt = get_within ts q t gt in
      let s = get_some ss q (omega (arith, len)) in (s.0, s.1, step q s.0 t s.1 gt)

  none_weigh : (ls : List LetterValue) → in_letters any_letter ls ≡ 0 → ls ≡ []
  none_weigh [] e = refl
  none_weigh (l ∷ ls) e = absurd (omega arith)

  all_in : (log : List Entry) → IsStart log → IsPrompt log → in_taken any_letter log ≡ in_posted any_letter log
  all_in [] s p = refl
  all_in (Posted l ∷ log) s p = absurd s
  all_in (Taken x ∷ log) s p = absurd s
  all_in (Round ∷ log) s p = p.1 (λ x. true)

  no_pending : d.pending ≡ []
  no_pending = none_weigh d.pending (let m = j.mailbox any_letter in let a = all_in d.log start prompt in omega arith)

  not_taken : (log : List Entry) → IsStart log → taken_since log ≡ false
  not_taken [] s = refl
  not_taken (Posted l ∷ log) s = absurd s
  not_taken (Taken x ∷ log) s = absurd s
  not_taken (Round ∷ log) s = refl

  -- where the log is prompt, a step of all ranks makes the letters of the next round
  pub deep_step : Deep ts d (n + 1)
  deep_step = record {
    young = λ q t gt e. absurd (true≢false (sym (before q t gt).2.begun ∙ e));
    inbox = λ q t gt. subst (λ (ls : List LetterValue). AllDeep (n + 1) ls) (sym (before q t gt).2.read) tt;
    outbox = λ q t gt. (
        let b = before q t gt in
        subst (λ (ls : List LetterValue). AllDeep (n + 1) ls) (sym (b.2.sent ∙ ap (λ (ls : List LetterValue). ls ++ sends w b.0 b.2.fresh) (quiet q b.0 b.1)))
        (sends_deep opens w j.good b.0 t (j.each q b.0 b.1) b.2 n (deep.young q b.0 b.1) (deep.inbox q b.0 b.1)));
    pending = subst (λ (ls : List LetterValue). AllDeep (n + 1) ls) (sym no_pending) tt;
    early = λ e. absurd (true≢false (sym e ∙ not_taken d.log start));
    few = deep.few;
  }

-- a letter that is posted leaves in the boxes letters of the same round
pub deep_post : (ss : List Seat) (d : Desk) (n q : ℕ) (s t : Seat) (l : LetterValue) → slice_get ss q ≡ Some s → s.outbox ≡ l ∷ t.outbox → t ≡ with_outbox s t.outbox → Deep ss d n → Deep (slice_set ss q t) (posted d l) n
deep_post ss d n q s t l gs first rest deep =
    let out : AllDeep n (l ∷ t.outbox) = subst (λ (ls : List LetterValue). AllDeep n ls) first (deep.outbox q s gs) in
    record {
      young = λ p u g e. elim (set_cases ss q s t p u gs g) [
        | inl x ↦ deep.young q s gs (sym (ap (λ (y : Seat). y.begun) (x.1 ∙ rest)) ∙ e)
        | inr x ↦ deep.young p u x.1 e
      ];
      inbox = λ p u g. elim (set_cases ss q s t p u gs g) [
        | inl x ↦ subst (λ (y : Seat). AllDeep n y.inbox) (sym (x.1 ∙ rest)) (deep.inbox q s gs)
        | inr x ↦ deep.inbox p u x.1
      ];
      outbox = λ p u g. elim (set_cases ss q s t p u gs g) [
        | inl x ↦ subst (λ (y : Seat). AllDeep n y.outbox) (sym x.1) out.1
        | inr x ↦ deep.outbox p u x.1
      ];
      pending = deep-append n d.pending (l ∷ []) deep.pending (out.0, tt);
      early = deep.early;
      few = deep.few;
    }

level-most : (w : World) (p c : ℕ) → IsCellOf w p c → level c ≤ 21
level-most w p c h = level-le c h.cell

-- a letter that is taken is not too late
deep_time : (opens : BodyValue → CellValue → Bool) (w : World) (n : ℕ) (from to : ℕ) (x : Content) → TrueContent w from to x → IsDeepContent n x → n < prompt_rounds
deep_time opens w n from to (content.Branches rs) t h = omega arith
deep_time opens w n from to (content.Asks ks) t h =
    let c = some_member ks t.0 in
    let a = h c.0 c.1 in let b = level-most w to c.0 (t.1 c.0 c.1) in omega arith
deep_time opens w n from to (content.Answers xs) t h =
    let i = some_member xs t.0 in
    let a = h i.0.key (map_has (λ (y : Answered). y.key) xs i.0 i.1) in let b = level-most w from i.0.key (t.1 i.0 i.1).0 in omega arith

-- a letter that is taken leaves in the boxes letters of the same round
pub deep_take : (opens : BodyValue → CellValue → Bool) (w : World) (ss : List Seat) (d e : Desk) (l : LetterValue) (n : ℕ) (s t : Seat) → Joint opens w ss d → Takes d l e → slice_get ss l.to ≡ Some s → t ≡ with_inbox s (s.inbox ++ l ∷ []) → Deep ss d n → Deep (slice_set ss l.to t) e n
deep_take opens w ss d e l n s t j tk gs is deep =
    let parts = deep_parts n tk.0 tk.1 l (subst (λ (ls : List LetterValue). AllDeep n ls) tk.2 deep.pending) in
    let true_l = taken_true opens w ss d e l j tk in
    record {
      young = λ p u g z. elim (set_cases ss l.to s t p u gs g) [
        | inl x ↦ deep.young l.to s gs (sym (ap (λ (y : Seat). y.begun) (x.1 ∙ is)) ∙ z)
        | inr x ↦ deep.young p u x.1 z
      ];
      inbox = λ p u g. elim (set_cases ss l.to s t p u gs g) [
        | inl x ↦ subst (λ (y : Seat). AllDeep n y.inbox) (sym (x.1 ∙ is)) (deep-append n s.inbox (l ∷ []) (deep.inbox l.to s gs) (parts.0, tt))
        | inr x ↦ deep.inbox p u x.1
      ];
      outbox = λ p u g. elim (set_cases ss l.to s t p u gs g) [
        | inl x ↦ subst (λ (y : Seat). AllDeep n y.outbox) (sym (x.1 ∙ is)) (deep.outbox l.to s gs)
        | inr x ↦ deep.outbox p u x.1
      ];
      pending = subst (λ (x : Desk). AllDeep n x.pending) (sym tk.3) parts.1;
      early = λ z. deep_time opens w n l.from l.to l.content true_l.truth parts.0;
      few = subst (λ (x : Desk). rounds_in x.log < prompt_rounds) (sym tk.3) deep.few;
    }

-- a change of the turn leaves in the boxes letters of the same round
pub deep_turned : (ss : List Seat) (d : Desk) (n : ℕ) (t : Turn) → Deep ss d n → Deep ss (turned d t) n
deep_turned ss d n t deep = record { young = deep.young; inbox = deep.inbox; outbox = deep.outbox; pending = deep.pending; early = deep.early; few = deep.few }

-- the end of a round in which a letter was taken leaves in the boxes letters of that round
pub deep_round : (ss : List Seat) (d : Desk) (n : ℕ) → n ≡ rounds_in d.log + 1 → taken_since d.log ≡ true → Deep ss d n → Deep ss (rounded d) n
deep_round ss d n e t deep = record { young = deep.young; inbox = deep.inbox; outbox = deep.outbox; pending = deep.pending; early = λ z. absurd (true≢false (sym z)); few = let a = deep.early t in omega arith }
