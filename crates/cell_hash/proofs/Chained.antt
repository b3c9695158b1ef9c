-- A chain leads to each key of its bucket.
use Rattle.std.proofs.Common.{ℕ, zero, suc, ◌≡◌, ◌≢◌, ◌<◌, ◌/◌, ◌^◌, List, [], ◌∷◌, ◌++◌, length, get_or, set, refl, sym, ap, ◌∙◌, subst, inl, inr, arith, length-append, length-set, get_or-set_same, get_or-set_other}
use Rattle.std.specs.Prelude.{bit_and}
use Rattle.std.proofs.lemmas.Bool.{cases_eq, cases_lt}
use Rattle.std.proofs.lemmas.Option.{slice_get_read, get_or_from_slice_get}
use Rattle.std.proofs.Math.Seq.{get_or-append_seam}
use Rattle.std.proofs.lemmas.List.{get_or_append_left}
use Rattle.cell_hash.specs.Chains.{slot_behind, step_from, slot_after, Leads, IsOnWay, AreChains}

-- at an empty slot a chain stays
pub stays : (mask : ℕ) (slots : List ℕ) (rest slot n : ℕ) → get_or slots slot 0 ≡ 0 → slot_after mask slots rest slot n ≡ slot
stays mask slots rest slot zero empty = refl
stays mask slots rest slot (suc n) empty = rw empty (stays mask slots (rest / 2) slot n empty)

-- an empty slot leads nowhere
pub leads_nowhere : (mask : ℕ) (slots : List ℕ) (rest slot place : ℕ) → get_or slots slot 0 ≡ 0 → Leads mask slots rest slot place → ⊥
leads_nowhere mask slots rest slot place empty way =
    let there : get_or slots slot 0 ≡ suc place = subst (λ (s : ℕ). get_or slots s 0 ≡ suc place) (stays mask slots rest slot way.0 empty) way.1 in
    absurd (omega (arith, there, empty))

-- what a slot leads to stands there, or lies behind
pub leads_on : (mask : ℕ) (slots : List ℕ) (rest slot at place : ℕ) → get_or slots slot 0 ≡ suc at → at ≢ place → Leads mask slots rest slot place → Leads mask slots (rest / 2) (slot_behind mask rest at) place
leads_on mask slots rest slot at place here other (zero, e) = absurd (other (let s : suc at ≡ suc place = sym here ∙ e in omega (arith, s)))
leads_on mask slots rest slot at place here other (suc n, e) = (n, subst (λ (b : ℕ). get_or slots (slot_after mask slots (rest / 2) (step_from mask rest slot b) n) 0 ≡ suc place) here e)

-- as many steps lead to the same slot
pub as_many : (mask : ℕ) (slots : List ℕ) (rest slot m n : ℕ) → m ≡ n → slot_after mask slots rest slot m ≡ slot_after mask slots rest slot n
as_many mask slots rest slot m n e = ap (λ (k : ℕ). slot_after mask slots rest slot k) e

-- one step more from a slot that names a place
pub step_more : (mask : ℕ) (slots : List ℕ) (rest slot at m : ℕ) → get_or slots slot 0 ≡ suc at → slot_after mask slots rest slot (suc m) ≡ slot_after mask slots (rest / 2) (slot_behind mask rest at) m
step_more mask slots rest slot at m here = ap (λ (b : ℕ). slot_after mask slots (rest / 2) (step_from mask rest slot b) m) here

-- where no place holds 0, empty slots behind change nothing
zeros_behind : (slots : List ℕ) (s : ℕ) → get_or (slots ++ 0 ∷ 0 ∷ []) s 0 ≡ get_or slots s 0
zeros_behind [] zero = refl
zeros_behind [] (suc zero) = refl
zeros_behind [] (suc (suc s)) = refl
zeros_behind (x ∷ xs) zero = refl
zeros_behind (x ∷ xs) (suc s) = zeros_behind xs s

-- the slots with two more, of which an empty one now names a place
abbrev pub named : List ℕ → ℕ → ℕ → List ℕ
named slots empty place = set (slots ++ 0 ∷ 0 ∷ []) empty (suc place)

-- what a slot names it goes on to name
names_still : (slots : List ℕ) (empty new s place : ℕ) → get_or slots empty 0 ≡ 0 → get_or slots s 0 ≡ suc place → get_or (named slots empty new) s 0 ≡ suc place
names_still slots empty new s place none e =
    get_or-set_other (slots ++ 0 ∷ 0 ∷ []) empty s (suc new) 0 (λ same. let z : suc place ≡ 0 = sym e ∙ ap (λ (k : ℕ). get_or slots k 0) same ∙ none in omega (arith, z))
    ∙ zeros_behind slots s
    ∙ e

-- the empty slot names the new place
names_new : (slots : List ℕ) (empty new : ℕ) → empty < length slots → get_or (named slots empty new) empty 0 ≡ suc new
names_new slots empty new within = get_or-set_same (slots ++ 0 ∷ 0 ∷ []) empty (suc new) 0 (omega (arith, within, length-append slots (0 ∷ 0 ∷ [])))

module _ (mask : ℕ) (slots : List ℕ) (empty new : ℕ) (none : get_or slots empty 0 ≡ 0) (within : empty < length slots) where
  -- one step more over the slots with the new place
  named_more : (rest slot at place : ℕ) → get_or slots slot 0 ≡ suc at → Leads mask (named slots empty new) (rest / 2) (slot_behind mask rest at) place → Leads mask (named slots empty new) rest slot place
  named_more rest slot at place here on = (suc on.0, ap (λ (s : ℕ). get_or (named slots empty new) s 0) (step_more mask (named slots empty new) rest slot at on.0 (names_still slots empty new slot at none here)) ∙ on.1)

  -- what was led to is led to still
  pub leads_still : (n rest slot place : ℕ) → get_or slots (slot_after mask slots rest slot n) 0 ≡ suc place → Leads mask (named slots empty new) rest slot place
  leads_still zero rest slot place e = (zero, names_still slots empty new slot place none e)
  leads_still (suc n) rest slot place e = by_slot (leads_still n) (get_or slots slot 0) refl
    where
      by_slot : ((rest slot place : ℕ) → get_or slots (slot_after mask slots rest slot n) 0 ≡ suc place → Leads mask (named slots empty new) rest slot place) → (b : ℕ) → get_or slots slot 0 ≡ b → Leads mask (named slots empty new) rest slot place
      by_slot more zero here = absurd (leads_nowhere mask slots rest slot place here (suc n, e))
      by_slot more (suc at) here = named_more rest slot at place here (more (rest / 2) (slot_behind mask rest at) place (sym (ap (λ (s : ℕ). get_or slots s 0) (step_more mask slots rest slot at n here)) ∙ e))

  -- a way to the empty slot leads to the new place
  pub leads_new : (n rest slot : ℕ) → slot_after mask slots rest slot n ≡ empty → Leads mask (named slots empty new) rest slot new
  leads_new zero rest slot e = (zero, ap (λ (s : ℕ). get_or (named slots empty new) s 0) e ∙ names_new slots empty new within)
  leads_new (suc n) rest slot e = by_slot (leads_new n) (get_or slots slot 0) refl
    where
      by_slot : ((rest slot : ℕ) → slot_after mask slots rest slot n ≡ empty → Leads mask (named slots empty new) rest slot new) → (b : ℕ) → get_or slots slot 0 ≡ b → Leads mask (named slots empty new) rest slot new
      by_slot more zero here = (zero, ap (λ (s : ℕ). get_or (named slots empty new) s 0) (sym (stays mask slots rest slot (suc n) here) ∙ e) ∙ names_new slots empty new within)
      by_slot more (suc at) here = named_more rest slot at new here (more (rest / 2) (slot_behind mask rest at) (sym (step_more mask slots rest slot at n here) ∙ e))

-- a key is added behind the others, named by the empty slot at the end of its way
pub chains_grow : (mask bits : ℕ) (keys slots : List ℕ) (key empty : ℕ) → AreChains mask bits keys slots → empty < length slots → get_or slots empty 0 ≡ 0 → IsOnWay mask bits slots key empty
    → AreChains mask bits (keys ++ key ∷ []) (named slots empty (length keys))
chains_grow mask bits keys slots key empty chains within none way = record {
  narrow = chains.narrow;
  long = length-set (slots ++ 0 ∷ 0 ∷ []) empty (suc (length keys)) ∙ (omega (arith, chains.long, length-append slots (0 ∷ 0 ∷ []), length-append keys (key ∷ [])));
  rises = λ slot place e. elim (cases_eq slot empty) [
    | inl same ↦ (let new : suc (length keys) ≡ suc place = sym (names_new slots empty (length keys) within) ∙ ap (λ (s : ℕ). get_or (named slots empty (length keys)) s 0) (sym same) ∙ e in (omega (arith, new, within, chains.long, same), omega (arith, new, longer)))
    | inr other ↦ (let old = chains.rises slot place (sym (zeros_behind slots slot) ∙ sym (get_or-set_other (slots ++ 0 ∷ 0 ∷ []) empty slot (suc (length keys)) 0 other) ∙ e) in (old.0, omega (arith, old.1, longer)))
  ];
  found = λ place at. elim (cases_lt place (length keys)) [
    | inl low ↦ rw (get_or_append_left keys (key ∷ []) 0 place low) (still place low)
    | inr high ↦ (let last : place ≡ length keys = omega (arith, high, at, longer) in rw (last, get_or-append_seam keys key [] 0) (leads_new mask slots empty (length keys) none within way.0 (key / 2 ^ bits) (bit_and key mask) way.1))
  ];
}
  where
    longer : length (keys ++ key ∷ []) ≡ suc (length keys)
    longer = length-append keys (key ∷ []) ∙ (omega arith)

    still : (place : ℕ) → place < length keys → Leads mask (named slots empty (length keys)) (get_or keys place 0 / 2 ^ bits) (bit_and (get_or keys place 0) mask) place
    still place low = let way = chains.found place low in leads_still mask slots empty (length keys) none within way.0 (get_or keys place 0 / 2 ^ bits) (bit_and (get_or keys place 0) mask) place way.1

-- a number that was read from a list
pub read_at : (xs : List ℕ) (i x : ℕ) → i < length xs → x ≡ get_or xs i x → get_or xs i 0 ≡ x
read_at xs i x within e = get_or_from_slice_get xs i x 0 (slice_get_read xs (length xs) i x refl within e)
