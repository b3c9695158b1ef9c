-- What rests of a walk that went on in any order.
use Rattle.std.specs.Prelude.{ℕ, ◌≡◌, ◌^◌, Bool, true, eqb, if◌then◌else◌, List, [], map, flat_map, sum_by, Some}
use Rattle.hot_units.specs.Values.{CellValue}
use Rattle.hot_units.specs.Keys.{IsCell, height}
use Rattle.hot_model.specs.Trees.{Term, terms_of, opened_of, listed}
use Rattle.rank_model.specs.World.{World, record_in, is_leaf}
use Rattle.rank_model.specs.Needs.{asks_of, outer_of}
use Rattle.rank_model.specs.Answers.{child_records}

-- a body of the piece, by its place, with the record of a cell: to be tested, or to be added body by body
pub record PairValue : Type 0 where
  pub body : ℕ
  pub rec : CellValue
  pub whole : Bool

-- the pair is one of the world
pub record IsPair (w : World) (p : PairValue) : Type 0 where
  pub cell : IsCell p.rec.key
  pub rec : record_in w p.rec.key ≡ Some p.rec
  pub leaf : p.whole ≡ true → is_leaf w p.rec.key ≡ true

-- the terms that rest of a pair, for a body that opens by `opens`
abbrev pub rest_of : (CellValue → Bool) → World → PairValue → List Term
rest_of opens w p = if p.whole then listed w.bodies p.rec.key else terms_of opens w.leaf w.bodies p.rec.key

-- the cells that a pair may still open
abbrev pub still_opened : (CellValue → Bool) → World → PairValue → List ℕ
still_opened opens w p = if p.whole then [] else opened_of opens w.leaf w.bodies p.rec.key

-- the cells that a pair may still ask for
abbrev pub still_asked : (CellValue → Bool) → World → ℕ → PairValue → List ℕ
still_asked opens w me p = if p.whole then outer_of w me p.rec.key else asks_of opens w me p.rec.key

-- whatever rests of all pairs of the body at place i
abbrev pub rests_at : {X : Type 0} → (PairValue → List X) → ℕ → List PairValue → List X
rests_at rest i ps = flat_map (λ p. if eqb p.body i then rest p else []) ps

-- the pairs of a body with the records of an answer
abbrev pub pair_with : ℕ → Bool → CellValue → PairValue
pair_with body whole r = record { body = body; rec = r; whole = whole }

-- the pairs of a body with the children of a cell
abbrev pub child_pairs : World → PairValue → Bool → List PairValue
child_pairs w p whole = map (pair_with p.body whole) (child_records w p.rec.key)

-- the weight of a pair, more than those of all its child pairs
abbrev pub weight : PairValue → ℕ
weight p = 9 ^ height p.rec.key

-- the weights of a list of pairs
abbrev pub weights : List PairValue → ℕ
weights ps = sum_by weight ps

-- two additions may change places
pub record MaySwap {A : Type 0} (add : A → Term → A) : Type 0 where
  pub swaps : (a : A) (s t : Term) → add (add a s) t ≡ add (add a t) s
