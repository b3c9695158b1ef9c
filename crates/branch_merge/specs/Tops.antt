-- The cells above listed records.
use Rattle.std.specs.Prelude.{ℕ, ◌≡◌, ◌↔◌, true, Bool, List, map, filter, Contains}
use Rattle.std.specs.List.{list_any}
use Rattle.std.specs.List.Sorted.{IsStrictlyIncreasing}
use Rattle.hot_units.specs.Keys.{IsCell, covers, child, digits}
use Rattle.rank_model.specs.Branches.{joined_record}
use Rattle.rank_model.specs.Needs.{IsAbove}
use Rattle.branch_merge.specs.declared.listed.Listed.{Listed}
use Rattle.branch_merge.specs.Listing.{records}
use Rattle.branch_merge.specs.declared.top_cell.TopCell.{TopCell}

-- a cell that properly contains that of a listed record
abbrev pub IsTopOf : List Listed → ℕ → Type 0
IsTopOf xs c = IsCell c × ((x : Listed) × Contains xs x × IsAbove c x.rec.key)

-- a listed record of rank q has the cell in it
abbrev pub IsOwnerIn : List Listed → ℕ → ℕ → Type 0
IsOwnerIn xs q c = (x : Listed) × Contains xs x × (x.rank ≡ q) × (covers x.rec.key c ≡ true)

-- the cell has a listed record in it
abbrev pub has_listed : List Listed → ℕ → Bool
has_listed xs c = list_any (λ x. covers c x.rec.key) xs

-- the children of a cell that have listed records in them, by ascending key
abbrev pub children_of : List Listed → ℕ → List ℕ
children_of xs c = filter (has_listed xs) (map (child c) digits)

-- the cell with the sums of the records in it, and with its children
pub record IsTopCell (xs : List Listed) (c : ℕ) (cell : TopCell) : Type 0 where
  pub rec : cell.rec ≡ joined_record c (records xs)
  pub children : cell.children.items ≡ children_of xs c

-- all cells above listed records, by ascending key
pub record AreTops (xs : List Listed) (keys : List ℕ) : Type 0 where
  pub ascend : IsStrictlyIncreasing keys
  pub all : (c : ℕ) → Contains keys c ↔ IsTopOf xs c
