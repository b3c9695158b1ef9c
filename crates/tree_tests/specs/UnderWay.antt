-- Walks that tests make, over a list that is cut by keys.
use Rattle.std.specs.Prelude.{ℕ, ◌≡◌, Bool, true, List, Contains, None}
use Rattle.hot_units.specs.Values.{BodyValue, CellValue}
use Rattle.hot_model.specs.Trees.{Term}
use Rattle.defer_walk.specs.declared.asks.Slot.{Slot}
use Rattle.defer_walk.specs.Listing.{ListingValue, world_of}
use Rattle.defer_walk.specs.Asked.{stored_at}
use Rattle.defer_walk.specs.Standing.{WalkState, StandsFor, given_of}

-- what was not given out has no answer
abbrev pub GivenFirst : List ℕ → List Slot → Type 0
GivenFirst given slots = (k : ℕ) → (Contains given k → ⊥) → stored_at slots k ≡ None

-- a walk that was started: it stands for the list's world, and has answers of what it gave out alone
pub record IsUnderWay {V A : Type 0} (nothing : V → A) (adds : V → BodyValue → A → Term → A) (opens : V → BodyValue → CellValue → Bool) (seen : A → ℕ) (v : ListingValue) (s : WalkState V A) : Type 0 where
  pub fits : StandsFor nothing adds opens seen (world_of v) s
  pub me : s.me ≡ v.me
  pub started : s.started ≡ true
  pub answered : GivenFirst (given_of s) s.slots
