-- A piece: a run of the bodies in key order, and what stands beside it.
use Rattle.std.specs.Prelude.{ℕ, ◌≡◌, ◌<◌, ◌≤◌, ◌^◌, List, length, Option, Some, IfSome, All, slice_index_or}
use Rattle.hot_units.specs.Limits.{max_all_mass}
use Rattle.hot_units.specs.Values.{BodyValue, CellValue}
use Rattle.hot_units.specs.Order.{IsInOrder}
use Rattle.hot_units.specs.Bodies.{mass_of}
use Rattle.hot_model.specs.Trees.{record_at}
use Rattle.morton_key.specs.Ranges.{IsBodyKey, first_key, last_key}

-- the bodies of a piece in order, the nearest keys of other bodies on either side, and the leaf limit
pub record PieceValue : Type 0 where
  pub bodies : List BodyValue
  pub left : Option ℕ
  pub right : Option ℕ
  pub leaf : ℕ

-- the body keys of a cell are all between the keys beside a piece
pub record IsBetween (left right : Option ℕ) (c : ℕ) : Type 0 where
  pub above : IfSome left (λ k. k < first_key c)
  pub below : IfSome right (λ k. last_key c < k)

-- the keys of a list of records never rise
abbrev pub IsFalling : List CellValue → Type 0
IsFalling recs = (i j : ℕ) (d : CellValue) → i ≤ j → j < length recs → (slice_index_or recs j d).key ≤ (slice_index_or recs i d).key

-- each record is that of its cell over a list of bodies
abbrev pub AreKnown : List BodyValue → List CellValue → Type 0
AreKnown bodies recs = All (λ r. record_at bodies r.key ≡ Some r) recs

-- what a tree of a piece keeps: bodies in order, the neighbours' keys, and true records by descending key
pub record IsLocal (bodies : List BodyValue) (recs : List CellValue) (left right : Option ℕ) : Type 0 where
  pub in_order : IsInOrder bodies
  pub few : length bodies < 2 ^ 32
  pub light : mass_of bodies ≤ max_all_mass
  pub left_is : IfSome left IsBodyKey
  pub right_is : IfSome right IsBodyKey
  pub falling : IsFalling recs
  pub known : AreKnown bodies recs
