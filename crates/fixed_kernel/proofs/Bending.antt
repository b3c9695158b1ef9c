-- The pull of second moments by the numbers that code has.
use Rattle.std.proofs.Common.{ℕ, ◌≡◌, ◌*◌, ◌^◌, ◌<◌, ◌≤◌, List, [], ◌∷◌, ℤ, pos, sym, refl, ap, ◌∙◌, arith}
use Rattle.hot_units.specs.Values.{CellValue, Point, point_at, vector_at, coordinates, components}
use Rattle.hot_units.specs.Keys.{side, extent}
use Rattle.hot_model.specs.Facts.{IsCellRecord}
use Rattle.hot_model.specs.Kernel.{centre, root, square, distance2, soft2, pull, plus, IsPullBy}
use Rattle.hot_model.specs.Second.{heading, quad, quad_over, quadrupole, most_heading, most_scaled, most_quad, AreSmall, IsSmall}
use Rattle.hot_model.proofs.Second.{quad-near, quad-far, quad-small, soft-above, far-off, direction-small, quadrupole-small, are-small, pair-fits}

-- what the code has: the place, the centre, the squared distance, the squared side
pub record Has (p : Point) (c : CellValue) (at : List ℕ) (d2 s2 : ℕ) : Type 0 where
  pub facts : IsCellRecord c
  pub some : 0 < c.count
  pub centred : at ≡ coordinates (centre c)
  pub apart_is : d2 ≡ distance2 p (point_at at)
  pub side_is : s2 ≡ square (side c.key)

at-centre : (c : CellValue) (at : List ℕ) → at ≡ coordinates (centre c) → point_at at ≡ centre c
at-centre c at e = rw e refl

apart-centre : (p : Point) (c : CellValue) (at : List ℕ) (d2 s2 : ℕ) → Has p c at d2 s2 → d2 ≡ distance2 p (centre c)
apart-centre p c at d2 s2 h = h.apart_is ∙ ap (distance2 p) (at-centre c at h.centred)

-- a centre no farther off than the side pulls by nothing
pub none-near : (eps : ℕ) (p : Point) (c : CellValue) (at : List ℕ) (d2 s2 : ℕ) → Has p c at d2 s2 → d2 ≤ s2 → (pos 0 ∷ pos 0 ∷ pos 0 ∷ []) ≡ components (quad eps p c)
none-near eps p c at d2 s2 h k =
    let e = apart-centre p c at d2 s2 h in
    rw (quad-near eps p c (omega (arith, e, h.side_is, k))) refl

soft-centre : (eps r2 : ℕ) (p : Point) (c : CellValue) (at : List ℕ) → at ≡ coordinates (centre c) → r2 ≡ soft2 eps p (point_at at) → r2 ≡ soft2 eps p (centre c)
soft-centre eps r2 p c at e f = f ∙ ap (soft2 eps p) (at-centre c at e)

-- the squared distance is at most the softened one
pub beyond-apart : (eps r2 : ℕ) (p : Point) (at : List ℕ) → r2 ≡ soft2 eps p (point_at at) → distance2 p (point_at at) ≤ r2
beyond-apart eps r2 p at f = rw f (soft-above eps p (point_at at))

-- beyond the side, the softened squared distance is at least the squared extent and 2^16
pub beyond-side : (eps r2 : ℕ) (p : Point) (c : CellValue) (at : List ℕ) (d2 s2 : ℕ) → Has p c at d2 s2 → s2 < d2 → r2 ≡ soft2 eps p (point_at at) → (extent c.key * extent c.key ≤ r2) × (2 ^ 16 ≤ r2)
beyond-side eps r2 p c at d2 s2 h k f =
    let e = h.apart_is in
    let b = beyond-apart eps r2 p at f in
    far-off c.key d2 r2 h.facts.cell (omega (arith, h.side_is, k)) (omega (arith, e, b))

-- a direction is small
pub heads-small : (eps r2 : ℕ) (p : Point) (at : List ℕ) (n : List ℤ) → r2 ≡ soft2 eps p (point_at at) → n ≡ components (heading (root (r2 * 2 ^ 20)) p (point_at at)) → IsSmall most_heading (vector_at n)
heads-small eps r2 p at n f e = rw e (direction-small p (point_at at) r2 (beyond-apart eps r2 p at f))

-- beyond the side, the pull is that over the softened squared distance
pub far-value : (eps r2 : ℕ) (p : Point) (c : CellValue) (at : List ℕ) (n r : List ℤ) (d2 s2 : ℕ) → Has p c at d2 s2 → s2 < d2 → r2 ≡ soft2 eps p (point_at at) → n ≡ components (heading (root (r2 * 2 ^ 20)) p (point_at at)) → r ≡ components (quad_over r2 (vector_at n) c) → r ≡ components (quad eps p c)
far-value eps r2 p c at n r d2 s2 h k f e g =
    let a = apart-centre p c at d2 s2 h in
    let b : quad eps p c ≡ quad_over (soft2 eps p (centre c)) (heading (root (soft2 eps p (centre c) * 2 ^ 20)) p (centre c)) c = quad-far eps p c (omega (arith, a, h.side_is, k)) in
    g ∙ (rw (e, f, at-centre c at h.centred) refl ∙ ap components (sym b))

-- the pull of second moments is small
pub value-small : (eps : ℕ) (p : Point) (c : CellValue) (r : List ℤ) → IsCellRecord c → 0 < c.count → r ≡ components (quad eps p c) → IsSmall (most_quad c.mass) (vector_at r)
value-small eps p c r f h e = rw e (quad-small eps p c f h)

-- a pull and that of second moments are as small as a pull
pub sum-small : (eps e m : ℕ) (p : Point) (at : List ℕ) (c : CellValue) (a b r : List ℤ) → 1 ≤ eps → IsCellRecord c → 0 < c.count → m ≡ c.mass → at ≡ coordinates (centre c) → a ≡ components (pull eps p (point_at at) m) → b ≡ components (quad eps p c) → r ≡ components (plus (vector_at a) (vector_at b)) → IsPullBy c.mass r
sum-small eps e m p at c a b r one f h mass centred pulled second sum =
    let s = pair-fits eps p c one f h in
    rw (sum, pulled, second, mass, at-centre c at centred) (s.x, s.y, s.z)

-- the numbers of a quadrupole by the squared distance are below 2^63
pub quadrupole-short : (c : CellValue) (r2 : ℕ) → IsCellRecord c → 0 < c.count → extent c.key * extent c.key ≤ r2 → AreSmall (2 ^ 62) (quadrupole r2 c)
quadrupole-short c r2 f h k =
    let some : 0 < c.mass = omega (arith, h, f.counted) in
    are-small (most_scaled c.mass) (2 ^ 62) (quadrupole r2 c) (omega (arith, f.light)) (quadrupole-small c r2 f some k)
