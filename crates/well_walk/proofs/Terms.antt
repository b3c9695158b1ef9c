-- What a cell and a body add, by the numbers that code has.
use Rattle.std.proofs.Common.{ℕ, ◌≡◌, ◌≢◌, List, true, false, eqb, refl}
use Rattle.std.proofs.lemmas.Bool.{ne_eqb, eq-eqb}
use Rattle.hot_units.specs.Values.{BodyValue, CellValue, place, point_at, coordinates}
use Rattle.hot_model.specs.Kernel.{centre}
use Rattle.hot_model.specs.Trees.{Far, Near}
use Rattle.well_walk.specs.Wells.{depth, term_depth}

-- the depth by a cell is what its term adds
pub far-depth : (eps m r : ℕ) (b : BodyValue) (c : CellValue) (p q : List ℕ) → p ≡ coordinates (place b) → q ≡ coordinates (centre c) → m ≡ c.mass → r ≡ depth eps (point_at p) (point_at q) m → r ≡ term_depth eps b (Far c)
unfolding term_depth
far-depth eps m r b c p q from at mass deep = rw (deep, from, at, mass) refl

-- the depth by a body of another row is what its term adds
pub near-depth : (eps m r : ℕ) (b o : BodyValue) (p q : List ℕ) → o.row ≢ b.row → p ≡ coordinates (place b) → q ≡ coordinates (place o) → m ≡ o.mass → r ≡ depth eps (point_at p) (point_at q) m → r ≡ term_depth eps b (Near o)
unfolding term_depth
near-depth eps m r b o p q other from at mass deep =
    let e : eqb o.row b.row ≡ false = ne_eqb o.row b.row other in
    rw (deep, from, at, mass, e) refl

-- a body of the same row adds nothing
pub own-depth : (eps : ℕ) (b o : BodyValue) → o.row ≡ b.row → 0 ≡ term_depth eps b (Near o)
unfolding term_depth
own-depth eps b o same =
    let e : eqb o.row b.row ≡ true = eq-eqb o.row b.row same in
    rw e refl
