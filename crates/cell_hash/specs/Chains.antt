-- Buckets of keys, by places in one list: a bucket's chain forks by the bits above those that chose it.
use Rattle.std.specs.Prelude.{ℕ, zero, suc, ◌≡◌, ◌<◌, ◌+◌, ◌*◌, ◌/◌, ◌%◌, ◌^◌, List, length, get_or, bit_and}

-- the slot where the chain goes on behind a place: each bucket has one slot, then each place two, of which the next bit chooses
abbrev pub slot_behind : ℕ → ℕ → ℕ → ℕ
slot_behind mask rest place = mask + 1 + 2 * place + rest % 2

-- one step down a chain: from a slot that names a place to the one behind that place; an empty slot is the chain's end
abbrev pub step_from : ℕ → ℕ → ℕ → ℕ → ℕ
step_from mask rest slot zero = slot
step_from mask rest slot (suc place) = slot_behind mask rest place

-- the slot after so many steps, each of which takes one bit
abbrev pub slot_after : ℕ → List ℕ → ℕ → ℕ → ℕ → ℕ
slot_after mask slots rest slot zero = slot
slot_after mask slots rest slot (suc n) = slot_after mask slots (rest / 2) (step_from mask rest slot (get_or slots slot 0)) n

-- some steps lead from a slot to one that names the place
abbrev pub Leads : ℕ → List ℕ → ℕ → ℕ → ℕ → Type 0
Leads mask slots rest slot place = (n : ℕ) × (get_or slots (slot_after mask slots rest slot n) 0 ≡ suc place)

-- the slot lies on the way of a key
abbrev pub IsOnWay : ℕ → ℕ → List ℕ → ℕ → ℕ → Type 0
IsOnWay mask bits slots key slot = (n : ℕ) × (slot_after mask slots (key / 2 ^ bits) (bit_and key mask) n ≡ slot)

-- each key is found on its way, and a slot names a place that lies behind it
pub record AreChains (mask bits : ℕ) (keys slots : List ℕ) : Type 0 where
  pub narrow : bits < 64
  pub long : length slots ≡ mask + 1 + 2 * length keys
  pub rises : (slot place : ℕ) → get_or slots slot 0 ≡ suc place → (slot < mask + 1 + 2 * place) × (place < length keys)
  pub found : (place : ℕ) → place < length keys → Leads mask slots (get_or keys place 0 / 2 ^ bits) (bit_and (get_or keys place 0) mask) place
