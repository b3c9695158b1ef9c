-- The cells that have woken since an advance.
use Rattle.std.proofs.Common.{ℕ, ◌≡◌, Bool, true, false, List, [], ◌∷◌, ◌++◌, length, sym, ◌∙◌, subst, refl, inl, inr, Option, None, arith}
use Rattle.std.specs.Prelude.{All, Contains, IsSome, ◌⊎◌}
use Rattle.std.proofs.lemmas.Bool.{cases_eq}
use Rattle.std.proofs.lemmas.List.Elements.{All-nil, All-cons, All-append, All-weaker, Contains-append_left, Contains-append_right}
use Rattle.hot_units.proofs.Members.{head_has}
use Rattle.hot_model.specs.declared.answer.Answer.{Answer}
use Rattle.defer_walk.specs.declared.asks.Slot.{Slot}
use Rattle.defer_walk.specs.declared.listed.Listed.{Listed}
use Rattle.defer_walk.specs.Asked.{asked_keys, stored_at, filled}
use Rattle.defer_walk.specs.Standing.{AreUnanswered, left_by}
use Rattle.defer_walk.specs.Waiting.{AreWoken}
use Rattle.defer_walk.proofs.Slots.{stored_filled, stored_others, some_filled}

-- where all cells of the pairs lack their answers none has woken
pub none_woken : (keys : List ℕ) (slots : List Slot) (pairs : List Listed) → keys ≡ [] → AreUnanswered slots pairs → AreWoken keys slots pairs
none_woken keys slots pairs e h = record {
  answered = subst (All (λ (k : ℕ). IsSome (stored_at slots k))) (sym e) (All-nil (λ (k : ℕ). IsSome (stored_at slots k)));
  others = All-weaker (λ (p : Listed). stored_at slots p.key ≡ None) (λ (p : Listed). (stored_at slots p.key ≡ None) ⊎ Contains keys p.key) (λ p n. inl n) pairs h;
}

-- and back
pub still_unanswered : (keys : List ℕ) (slots : List Slot) (pairs : List Listed) → keys ≡ [] → AreWoken keys slots pairs → AreUnanswered slots pairs
still_unanswered keys slots pairs e h = All-weaker (λ (p : Listed). (stored_at slots p.key ≡ None) ⊎ Contains keys p.key) (λ (p : Listed). stored_at slots p.key ≡ None) (λ p f. elim f [
  | inl n ↦ n
  | inr m ↦ absurd (let g : Contains [] p.key = subst (λ (ks : List ℕ). Contains ks p.key) e m in omega (arith, g.1))
]) pairs h.others

-- a cell wakes with its answer
pub woken_more : (keys : List ℕ) (slots : List Slot) (pairs : List Listed) (key : ℕ) (answer : Answer) → Contains (asked_keys slots) key → AreWoken keys slots pairs → AreWoken (keys ++ key ∷ []) (filled slots key answer) pairs
woken_more keys slots pairs key answer there h = record {
  answered =
      let P = λ (k : ℕ). IsSome (stored_at (filled slots key answer) k) in
      All-append P keys (key ∷ []) (All-weaker (λ (k : ℕ). IsSome (stored_at slots k)) P (λ k s. some_filled key answer slots k there s) keys h.answered)
      (All-cons P key [] (subst (λ (o : Option Answer). IsSome o) (sym (stored_filled key answer slots there)) refl) (All-nil P));
  others = All-weaker (λ (p : Listed). (stored_at slots p.key ≡ None) ⊎ Contains keys p.key) (λ (p : Listed). (stored_at (filled slots key answer) p.key ≡ None) ⊎ Contains (keys ++ key ∷ []) p.key) (λ p f. elim f [
    | inl n ↦ elim (cases_eq p.key key) [
      | inl q ↦ inr (Contains-append_right keys (key ∷ []) p.key (subst (Contains (key ∷ [])) (sym q) (head_has key [])))
      | inr d ↦ inl (stored_others key answer slots p.key d ∙ n)
    ]
    | inr m ↦ inr (Contains-append_left keys (key ∷ []) p.key m)
  ]) pairs h.others;
}

-- nothing waits of a walk that was not started
pub none_wait : (t : Bool) (n : ℕ) (ls : List Listed) → (t ≡ false → ls ≡ []) → left_by t n ls ≡ [] → ls ≡ []
none_wait true n ls f e = e
none_wait false n ls f e = f refl

-- a list of no length
pub nil_of : {X : Type 0} (xs : List X) → length xs ≡ 0 → xs ≡ []
nil_of [] e = refl
nil_of (x ∷ xs) e = absurd (omega (arith, e))
