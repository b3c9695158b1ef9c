-- What is kept of merged lists: the listed records in Morton order, and the cells above them.
use Rattle.std.specs.Prelude.{ℕ, ◌≡◌, ◌<◌, ◌≤◌, true, List, length, get_or, sum_by, All, Contains, ◌⊎◌, ◌^◌}
use Rattle.std.specs.List.Sorted.{IsNonDecreasingBy}
use Rattle.hot_units.specs.Limits.{max_all_mass}
use Rattle.hot_units.specs.Values.{CellValue}
use Rattle.hot_units.specs.Keys.{IsCell, covers}
use Rattle.rank_model.specs.Needs.{IsAbove}
use Rattle.morton_key.specs.Ranges.{first_key}
use Rattle.branch_merge.specs.declared.listed.Listed.{Listed}
use Rattle.branch_merge.specs.declared.top_cell.TopCell.{TopCell}
use Rattle.branch_merge.specs.Listing.{AreApart}
use Rattle.branch_merge.specs.Tops.{AreTops, IsTopCell}

-- the first body key of a listed record's cell: its place in Morton order
abbrev pub first_of : Listed → ℕ
first_of x = first_key x.rec.key

-- the listed records stand in Morton order
abbrev pub AreInOrder : List Listed → Type 0
AreInOrder xs = IsNonDecreasingBy first_of xs

-- the keys of the listed records are those of cells
abbrev pub AreCells : List Listed → Type 0
AreCells xs = All (λ x. IsCell x.rec.key) xs

-- counts and masses together are within the limits
pub record AreLight (xs : List Listed) : Type 0 where
  pub counted : sum_by (λ x. x.rec.count) xs < 2 ^ 32
  pub light : sum_by (λ x. x.rec.mass) xs ≤ max_all_mass

-- the record of a cell with the sums of these records
abbrev pub sums_of : ℕ → List Listed → CellValue
sums_of c xs = record {
  key = c;
  count = sum_by (λ x. x.rec.count) xs;
  mass = sum_by (λ x. x.rec.mass) xs;
  sx = sum_by (λ x. x.rec.sx) xs;
  sy = sum_by (λ x. x.rec.sy) xs;
  sz = sum_by (λ x. x.rec.sz) xs;
  sxx = sum_by (λ x. x.rec.sxx) xs;
  syy = sum_by (λ x. x.rec.syy) xs;
  szz = sum_by (λ x. x.rec.szz) xs;
  sxy = sum_by (λ x. x.rec.sxy) xs;
  sxz = sum_by (λ x. x.rec.sxz) xs;
  syz = sum_by (λ x. x.rec.syz) xs;
}

-- cells in Morton order
pub record AreSorted (xs : List Listed) : Type 0 where
  pub cells : AreCells xs
  pub order : AreInOrder xs

-- the cell is above each of the listed records
abbrev pub AreBelow : ℕ → List Listed → Type 0
AreBelow c xs = All (λ x. IsAbove c x.rec.key) xs

-- no listed record is above the cell
abbrev pub NoneAbove : List Listed → ℕ → Type 0
NoneAbove xs c = (x : Listed) → Contains xs x → IsAbove x.rec.key c → ⊥

-- so many listed records in order have a first key of at most this one
pub record IsCountTo (xs : List Listed) (key n : ℕ) : Type 0 where
  pub within : n ≤ length xs
  pub under : (k : ℕ) (d : Listed) → k < n → first_of (get_or xs k d) ≤ key
  pub over : (k : ℕ) (d : Listed) → n ≤ k → k < length xs → key < first_of (get_or xs k d)

-- a cell above another
abbrev pub IsProper : ℕ → ℕ → Type 0
IsProper c cell = IsCell c × IsAbove c cell

-- the keys of all cells above a cell are there
abbrev pub HasAbove : List ℕ → ℕ → Type 0
HasAbove keys cell = (c : ℕ) → IsProper c cell → Contains keys c

-- keys with those of the cells above a cell
pub record Gains (old new : List ℕ) (cell : ℕ) : Type 0 where
  pub kept : (c : ℕ) → Contains old c → Contains new c
  pub gained : (c : ℕ) → Contains new c → Contains old c ⊎ IsProper c cell
  pub every : HasAbove new cell

-- the cells above the listed records, each with its record and children
pub record AreTopCells (xs : List Listed) (cells : List TopCell) : Type 0 where
  pub keys : List ℕ
  pub tops : AreTops xs keys
  pub size : length cells ≡ length keys
  pub each : (i : ℕ) (d : TopCell) → i < length keys → IsTopCell xs (get_or keys i 0) (get_or cells i d)

-- the key of a top cell
abbrev pub key_of_top : TopCell → ℕ
key_of_top c = c.rec.key

-- what a top keeps
pub record IsMerged (xs : List Listed) (cells : List TopCell) : Type 0 where
  pub sorted : AreSorted xs
  pub apart : AreApart xs
  pub tops : AreTopCells xs cells

-- the one listed record that has the cell in it
pub record IsHolder (xs : List Listed) (key : ℕ) (x : Listed) : Type 0 where
  pub listed : Contains xs x
  pub covered : covers x.rec.key key ≡ true
  pub only : (y : Listed) → Contains xs y → covers y.rec.key key ≡ true → y ≡ x
