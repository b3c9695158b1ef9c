-- A set of bodies in file order, and the bodies in key order.
use Rattle.std.specs.Prelude.{ℕ, suc, ℤ, List, [], ◌∷◌, ◌++◌, length, map, replicate}
use Rattle.hot_units.specs.Values.{BodyValue, CubeValue, Vector}
use Rattle.hot_units.specs.Order.{ordered}
use Rattle.hot_units.specs.declared.raw_row.RawRow.{RawRow}
use Rattle.body_set.specs.Rows.{body_of_row, weight_of_row, velocity_of_row}
use Rattle.body_set.specs.Velocities.{no_velocity}
use Rattle.key_order.specs.Ordered.{OrderedValue}

-- a cube, and the bodies in it with their idents, weights and velocities, in file order
pub record SetValue : Type 0 where
  pub cube : CubeValue
  pub bodies : List BodyValue
  pub idents : List ℤ
  pub weights : List ℕ
  pub velocities : List Vector

-- the set without a row
abbrev pub empty_set : CubeValue → SetValue
empty_set cube = record { cube = cube; bodies = []; idents = []; weights = []; velocities = [] }

-- the set with one more row
abbrev pub with_row : SetValue → RawRow → SetValue
with_row set raw = record set {
  bodies = set.bodies ++ body_of_row set.cube (length set.bodies) raw ∷ [];
  idents = set.idents ++ raw.ident ∷ [];
  weights = set.weights ++ weight_of_row raw ∷ [];
  velocities = set.velocities ++ velocity_of_row raw ∷ [];
}

-- the set with more rows, added one by one
unfoldable pub with_rows : SetValue → List RawRow → SetValue
with_rows set [] = set
with_rows set (raw ∷ raws) = with_rows (with_row set raw) raws

-- the bodies that rows give, numbered from k on
unfoldable pub bodies_from : CubeValue → ℕ → List RawRow → List BodyValue
bodies_from cube k [] = []
bodies_from cube k (raw ∷ raws) = body_of_row cube k raw ∷ bodies_from cube (suc k) raws

-- the set of a list of rows
abbrev pub set_of_rows : CubeValue → List RawRow → SetValue
set_of_rows cube raws = record {
  cube = cube;
  bodies = bodies_from cube 0 raws;
  idents = map (λ raw. raw.ident) raws;
  weights = map weight_of_row raws;
  velocities = map velocity_of_row raws;
}

-- the set with all velocities 0
abbrev pub at_rest : SetValue → SetValue
at_rest set = record set { velocities = replicate (length set.velocities) no_velocity }

-- the bodies of a set in key order, without their velocities
abbrev pub in_key_order : SetValue → OrderedValue
in_key_order set = record { bodies = ordered set.bodies; idents = set.idents; weights = set.weights }
