-- Distances of places from boxes.
use Rattle.std.proofs.Common.{ℕ, ◌≡◌, ◌+◌, ◌-◌, ◌*◌, ◌/◌, ◌^◌, ◌<◌, ◌≤◌, true, false, not, eqb, leb, sym, refl, arith}
use Rattle.std.proofs.Math.Nat.{div-eq_of_lt-le}
use Rattle.std.proofs.lemmas.Nat.{mul-le}
use Rattle.std.proofs.lemmas.Bool.{leb-false, lt-leb, and_right}
use Rattle.hot_units.specs.Values.{BodyValue, CellValue, Point, place}
use Rattle.hot_units.specs.Keys.{IsCell, IsInBox, contains, corner, extent, side, level, bits_along}
use Rattle.hot_units.specs.Bodies.{IsBody}
use Rattle.hot_model.specs.Kernel.{square, apart, distance2}
use Rattle.hot_model.proofs.Pulls.{distance2-is}
use Rattle.hot_model.proofs.Corners.{IsWithin, x_within, y_within, z_within}
use Rattle.near_walk.specs.Near.{gap_along, box_distance2, near_opens, is_neighbour}
use Rattle.near_walk.specs.Laws.{NoneUnopened}

-- the squared distance from a box is the sum of the squares along the three axes
pub box_distance2-is : (p : Point) (c : ℕ) → box_distance2 p c ≡ square (gap_along p.x (corner c).x (extent c)) + square (gap_along p.y (corner c).y (extent c)) + square (gap_along p.z (corner c).z (extent c))
unfolding box_distance2
box_distance2-is p c = refl

-- a corner is the whole sides of a coordinate in the box
corner-by : (a k q : ℕ) → a * k ≤ q → q < a * k + a → q / a * a ≡ a * k
corner-by a k q h l =
    let e : q / a ≡ k = div-eq_of_lt-le a (omega arith) (omega arith) in
    rw e (omega arith)

-- the squared distance from a box by a place q in it and its level's bits
pub box-by : (p q : Point) (c s d e f : ℕ) → IsInBox c q → s ≡ 29 - level c → d ≡ square (gap_along p.x (q.x / 2 ^ s * 2 ^ s) (2 ^ s - 1)) → e ≡ square (gap_along p.y (q.y / 2 ^ s * 2 ^ s) (2 ^ s - 1)) → f ≡ square (gap_along p.z (q.z / 2 ^ s * 2 ^ s) (2 ^ s - 1)) → d + e + f ≡ box_distance2 p c
box-by p q c s d e f b t x y z =
    let u : q.x / side c * side c ≡ (corner c).x = corner-by (side c) (bits_along (level c) c 2) q.x b.x_from b.x_to in
    let v : q.y / side c * side c ≡ (corner c).y = corner-by (side c) (bits_along (level c) c 1) q.y b.y_from b.y_to in
    let w : q.z / side c * side c ≡ (corner c).z = corner-by (side c) (bits_along (level c) c 0) q.z b.z_from b.z_to in
    rw (x, y, z, t, u, v, w) (sym (box_distance2-is p c))

-- a coordinate among those of a box is no nearer than the box
gap-least : (p k w x : ℕ) → IsWithin k w x → square (gap_along p k w) ≤ square (apart p x)
gap-least p k w x h =
    let g : gap_along p k w ≤ apart p x = omega (arith, h.0, h.1) in
    mul-le (gap_along p k w) (gap_along p k w) (apart p x) (apart p x) g g

-- a body of a cell is no nearer to a place than the cell's box
pub box-nearest : (p : Point) (c : ℕ) (o : BodyValue) → IsCell c → IsBody o → contains c o ≡ true → box_distance2 p c ≤ distance2 p (place o)
box-nearest p c o i s e =
    let x = gap-least p.x (corner c).x (extent c) o.x (x_within c o i s.x_in e) in
    let y = gap-least p.y (corner c).y (extent c) o.y (y_within c o i s.y_in e) in
    let z = gap-least p.z (corner c).z (extent c) o.z (z_within c o i s.z_in e) in
    rw (box_distance2-is, distance2-is) (omega (arith, x, y, z))

-- a body of a cell that is not opened is beyond the radius
pub none-unopened : NoneUnopened
none-unopened radius b o c i s e f =
    let g = box-nearest (place b) c.key o i s e in
    let h : square radius < box_distance2 (place b) c.key = leb-false (box_distance2 (place b) c.key) (square radius) f in
    omega (arith, g, h)

-- so it is no neighbour
pub none-near : (radius : ℕ) (b o : BodyValue) (c : CellValue) → IsCell c.key → IsBody o → contains c.key o ≡ true → near_opens radius b c ≡ false → is_neighbour radius b o ≡ false
none-near radius b o c i s e f =
    and_right (not (eqb o.row b.row)) (leb (distance2 (place b) (place o)) (square radius))
    (lt-leb (distance2 (place b) (place o)) (square radius) (none-unopened radius b o c i s e f))
