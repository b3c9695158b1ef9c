-- The laws of sets.
use Rattle.std.specs.Prelude.{◌≡◌, List, ◌∷◌, [], ◌++◌}
use Rattle.hot_units.specs.Values.{CubeValue}
use Rattle.hot_units.specs.declared.raw_row.RawRow.{RawRow}
use Rattle.body_set.specs.Sets.{set_of_rows, empty_set, with_row, with_rows}

-- a set to which rows are added one by one is the set of the list of these rows
pub record RowsAddUp : Type 0 where
  pub none : (cube : CubeValue) → set_of_rows cube [] ≡ empty_set cube
  pub one_more : (cube : CubeValue) (raws : List RawRow) (raw : RawRow) → with_row (set_of_rows cube raws) raw ≡ set_of_rows cube (raws ++ raw ∷ [])
  pub more : (cube : CubeValue) (raws others : List RawRow) → with_rows (set_of_rows cube raws) others ≡ set_of_rows cube (raws ++ others)
