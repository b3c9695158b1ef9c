use Rattle.std.proofs.Common.{ℕ, ◌≡◌, ◌-◌, ◌+◌, ◌<◌, ◌/◌, ◌^◌, length, get_or}
use Rattle.std.specs.Prelude.{bit_and}
use Rattle.cell_hash.specs.Chains.{slot_after, Leads}
use Rattle.cell_hash.proofs.chains.slot_of.Given as goal

abbrev pub invariant-loop-slot : goal.invariant-loop-slot
invariant-loop-slot l = record {
  within : l.slot < length l.slots;
  way : (n : ℕ) × ((m : ℕ) → slot_after l.mask l.slots (l.key / 2 ^ l.bits) (bit_and l.key l.mask) (n + m) ≡ slot_after l.mask l.slots l.rest l.slot m);
  leads : (place : ℕ) → place < length l.keys → get_or l.keys place 0 ≡ l.key → Leads l.mask l.slots l.rest l.slot place;
}

abbrev pub decreases-loop-slot : goal.decreases-loop-slot
decreases-loop-slot l = length l.slots - l.slot
