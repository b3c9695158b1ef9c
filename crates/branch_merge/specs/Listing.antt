-- Branch lists, one for each rank, and the records in them.
use Rattle.std.specs.Prelude.{ℕ, ◌≡◌, ◌≤◌, ◌<◌, ◌^◌, true, List, [], length, map, flat_map, sum_by, get_or, All}
use Rattle.hot_units.specs.Limits.{max_ranks, max_all_mass}
use Rattle.hot_units.specs.Values.{CellValue}
use Rattle.hot_units.specs.Numbers.{numbers_below}
use Rattle.hot_units.specs.Keys.{covers}
use Rattle.branch_merge.specs.declared.listed.Listed.{Listed}

-- the records of the list of rank q
abbrev pub of_rank : ℕ → List CellValue → List Listed
of_rank q list = map (λ r. record { rank = q; rec = r }) list

-- the records of all lists, list by list: the list at place q is that of rank q
abbrev pub all_listed : List (List CellValue) → List Listed
all_listed lists = flat_map (λ q. of_rank q (get_or lists q [])) (numbers_below (length lists))

-- the records without their ranks
abbrev pub records : List Listed → List CellValue
records xs = map (λ x. x.rec) xs

-- of two of these records none lies in the cell of the other
abbrev pub AreApart : List Listed → Type 0
AreApart xs = (i j : ℕ) (d : Listed) → i < length xs → j < length xs → covers (get_or xs i d).rec.key (get_or xs j d).rec.key ≡ true → i ≡ j

-- lists that can be merged: no record is empty, none lies in the cell of another, and their counts and masses are within the limits
pub record CanMerge (lists : List (List CellValue)) : Type 0 where
  pub ranks : length lists ≤ max_ranks
  pub some : All (λ x. 1 ≤ x.rec.count) (all_listed lists)
  pub apart : AreApart (all_listed lists)
  pub counted : sum_by (λ x. x.rec.count) (all_listed lists) < 2 ^ 32
  pub light : sum_by (λ x. x.rec.mass) (all_listed lists) ≤ max_all_mass
