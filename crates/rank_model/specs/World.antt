-- The world of a run: all bodies, the rank of each, the number of ranks and the leaf limit.
use Rattle.std.specs.Prelude.{ℕ, ◌<◌, ◌≤◌, Bool, eqb, ltb, List, length, filter, map, All, Contains, Option}
use Rattle.hot_units.specs.Limits.{max_bodies, max_all_mass}
use Rattle.hot_units.specs.Values.{BodyValue, CellValue}
use Rattle.hot_units.specs.Numbers.{greatest, least}
use Rattle.hot_units.specs.Keys.{key_of_body}
use Rattle.hot_units.specs.Order.{IsInOrder}
use Rattle.hot_units.specs.Bodies.{mass_of, RowsDiffer, IsBody}
use Rattle.hot_model.specs.Trees.{inside, record_at, leaf_at}

-- all bodies, by ascending key and then row; the rank of a body, by its key; the number of ranks; the leaf limit
pub record World : Type 0 where
  pub bodies : List BodyValue
  pub rank : ℕ → ℕ
  pub ranks : ℕ
  pub leaf : ℕ

-- the rank of a body
abbrev pub rank_of : World → BodyValue → ℕ
rank_of w b = w.rank (key_of_body b)

-- a world of a run
pub record IsGood (w : World) : Type 0 where
  pub sound : All IsBody w.bodies
  pub in_order : IsInOrder w.bodies
  pub ranked : All (λ b. rank_of w b < w.ranks) w.bodies
  pub rising : (a b : BodyValue) → Contains w.bodies a → Contains w.bodies b → key_of_body a ≤ key_of_body b → rank_of w a ≤ rank_of w b
  pub few : length w.bodies ≤ max_bodies
  pub rows_in : All (λ b. b.row < max_bodies) w.bodies
  pub rows_differ : RowsDiffer w.bodies
  pub light : mass_of w.bodies ≤ max_all_mass

-- the bodies of a rank, in order
abbrev pub piece : World → ℕ → List BodyValue
piece w q = filter (λ b. eqb (rank_of w b) q) w.bodies

-- the bodies of a cell, in order
abbrev pub bodies_in : World → ℕ → List BodyValue
bodies_in w c = inside w.bodies c

-- the record of a cell over all bodies, if it has any
abbrev pub record_in : World → ℕ → Option CellValue
record_in w c = record_at w.bodies c

-- few enough bodies, or the deepest level
abbrev pub is_leaf : World → ℕ → Bool
is_leaf w c = leaf_at w.leaf w.bodies c

-- the greatest key of a lower rank
abbrev pub left_of : World → ℕ → Option ℕ
left_of w q = greatest (map key_of_body (filter (λ b. ltb (rank_of w b) q) w.bodies))

-- the least key of a higher rank
abbrev pub right_of : World → ℕ → Option ℕ
right_of w q = least (map key_of_body (filter (λ b. ltb q (rank_of w b)) w.bodies))
