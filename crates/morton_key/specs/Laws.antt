-- The laws of keys.
use Rattle.std.specs.Prelude.{ℕ, ◌≡◌, ◌+◌, ◌<◌, ◌≤◌, ◌↔◌, true, List, sum_by, take, drop}
use Rattle.hot_units.specs.Limits.{max_level}
use Rattle.hot_units.specs.Values.{BodyValue, Point, place}
use Rattle.hot_units.specs.Keys.{HasLevel, IsCell, level, covers, contains, IsInBox, digits, child}
use Rattle.hot_units.specs.Order.{IsInOrder}
use Rattle.hot_units.specs.Bodies.{IsBody}
use Rattle.hot_model.specs.Trees.{inside}
use Rattle.morton_key.specs.Ranges.{IsBodyKey, IsPlaceOf, first_key, last_key, count_below}

-- the body keys are the keys of the places in the cube
abbrev pub BodyKeysAreOfPlaces : Type 0
BodyKeysAreOfPlaces = (k : ℕ) → IsBodyKey k ↔ ((p : Point) × IsPlaceOf k p)

-- a cell covers the body keys from its first to its last
abbrev pub RangeOfACell : Type 0
RangeOfACell = (c k : ℕ) → IsCell c → IsBodyKey k → (covers c k ≡ true) ↔ ((first_key c ≤ k) × (k ≤ last_key c))

-- the child of c with the digit d covers k, and no other child of c does
abbrev pub IsOnlyChildOf : ℕ → ℕ → ℕ → Type 0
IsOnlyChildOf c k d = (d < 8) × (covers (child c d) k ≡ true) × ((e : ℕ) → e < 8 → covers (child c e) k ≡ true → e ≡ d)

-- a body key is in a cell above the last level exactly where it is in one child, and then in no other
abbrev pub ChildrenPartACell : Type 0
ChildrenPartACell = (c k : ℕ) → IsCell c → level c < max_level → IsBodyKey k → (covers c k ≡ true) ↔ ((d : ℕ) × IsOnlyChildOf c k d)

-- a sum over the bodies of a cell above the last level is the sum over its children
abbrev pub ChildrenShareSums : Type 0
ChildrenShareSums = (f : BodyValue → ℕ) (bodies : List BodyValue) (c : ℕ) → IsCell c → level c < max_level → sum_by (λ d. sum_by f (inside bodies (child c d))) digits ≡ sum_by f (inside bodies c)

-- a number has one level at most
abbrev pub OneLevelEach : Type 0
OneLevelEach = (k l m : ℕ) → HasLevel k l → HasLevel k m → l ≡ m

-- the bodies of a cell are a range of a list in key order
abbrev pub BodiesStandTogether : Type 0
BodiesStandTogether = (bodies : List BodyValue) (c : ℕ) → IsCell c → IsInOrder bodies → inside bodies c ≡ drop (count_below (first_key c) bodies) (take (count_below (last_key c + 1) bodies) bodies)

-- a cell contains exactly the bodies in its box
abbrev pub BoxOfACell : Type 0
BoxOfACell = (c : ℕ) (b : BodyValue) → IsCell c → IsBody b → (contains c b ≡ true) ↔ IsInBox c (place b)
