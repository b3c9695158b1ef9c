-- Bodies in key order, with idents and weights in the order of the file.
use Rattle.std.specs.Prelude.{ℕ, ◌≡◌, ◌<◌, ◌≤◌, ℤ, List, length, All}
use Rattle.hot_units.specs.Limits.{max_bodies, max_all_mass}
use Rattle.hot_units.specs.Values.{BodyValue}
use Rattle.hot_units.specs.Order.{IsInOrder}
use Rattle.hot_units.specs.Bodies.{mass_of, RowsCount, RowsDiffer, IsBody}

-- the bodies in key order, and idents and weights in file order
pub record OrderedValue : Type 0 where
  pub bodies : List BodyValue
  pub idents : List ℤ
  pub weights : List ℕ

-- what holds of each set: each body is one, has its place as its row, and has an ident and a weight; all mass is bounded
pub record IsSet (bodies : List BodyValue) (idents : List ℤ) (weights : List ℕ) : Type 0 where
  pub sound : All IsBody bodies
  pub rows : RowsCount bodies
  pub few : length bodies ≤ max_bodies
  pub light : mass_of bodies ≤ max_all_mass
  pub idents_too : length idents ≡ length bodies
  pub weights_too : length weights ≡ length bodies

-- what holds of each list in key order: it ascends, each row, below its length, stands once, and all mass is bounded
pub record IsOrderedSet (set : OrderedValue) : Type 0 where
  pub sound : All IsBody set.bodies
  pub in_order : IsInOrder set.bodies
  pub rows_differ : RowsDiffer set.bodies
  pub rows_in : All (λ b. b.row < length set.bodies) set.bodies
  pub few : length set.bodies ≤ max_bodies
  pub light : mass_of set.bodies ≤ max_all_mass
  pub idents_too : length set.idents ≡ length set.bodies
  pub weights_too : length set.weights ≡ length set.bodies
