use Rattle.std.proofs.Common.{ℕ, suc, ◌≡◌, ◌<◌, List, [], ◌∷◌, ◌++◌, length, get_or, set, zero, refl, arith}
use Rattle.cell_hash.specs.Chains.{AreChains, IsOnWay}
use Rattle.cell_hash.specs.Entries.{StandsAt, IsAbsentFrom}
use Rattle.cell_hash.proofs.Chained.{chains_grow}
use Rattle.cell_hash.proofs.chains.Chains.push.Goals as goal

-- the slot where the search for an absent key ends is empty
is_empty : (keys slots : List ℕ) (key slot : ℕ) → IsAbsentFrom keys 0 key → ((place : ℕ) → get_or slots slot 0 ≡ suc place → StandsAt keys place key) → get_or slots slot 0 ≡ 0
is_empty keys slots key slot absent found = by_slot (get_or slots slot 0) found
  where
    by_slot : (b : ℕ) → ((place : ℕ) → b ≡ suc place → StandsAt keys place key) → b ≡ 0
    by_slot zero at = refl
    by_slot (suc place) at = let it = at place refl in absurd (absent place (omega arith) it.within it.key_is)

-- the keys and slots with a key more, which the slot at the end of its way now names
grown : (mask bits : ℕ) (keys slots : List ℕ) (key slot behind : ℕ) → AreChains mask bits keys slots → slot < length slots → IsOnWay mask bits slots key slot
    → IsAbsentFrom keys 0 key → ((place : ℕ) → get_or slots slot 0 ≡ suc place → StandsAt keys place key) → behind ≡ suc (length keys)
    → AreChains mask bits (keys ++ key ∷ []) (set (slots ++ 0 ∷ 0 ∷ []) slot behind)
grown mask bits keys slots key slot behind chains within way absent found behind_is =
    rw behind_is (chains_grow mask bits keys slots key slot chains within (is_empty keys slots key slot absent found) way)

pub invariant_of-self-2 : goal.invariant_of-self-2
invariant_of-self-2 c =
    let keys = c.deref.ensures.value in
    let slots = c.deref-2.ensures.value in
    rw (c.push_reserved.ensures.items, c.in_ok-extend_from_slice.ensures.items, c.in_ok-reserve.ensures.items)
    (grown c.self.inside.mask c.self.inside.bits c.self.inside.keys.items c.self.inside.slots.items c.args.key c.slot_of-slot.result c.in-Ok.behind c.self.invariant
    (rw (← slots) c.slot_of-slot.ensures.within)
    (rw (← slots) c.slot_of-slot.ensures.way)
    (rw c.self.view_is c.requires.absent)
    (rw (← slots, ← keys) c.slot_of-slot.ensures.found)
    (omega (arith, c.in-Ok.ensures.1, c.len.ensures, c.self.inside.keys.ok)))
