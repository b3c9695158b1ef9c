-- How far the centre of a cell is from its bodies.
use Rattle.std.proofs.Common.{ℕ, ◌≡◌, ◌+◌, ◌-◌, ◌*◌, ◌<◌, ◌≤◌, true, refl, arith}
use Rattle.std.specs.Prelude.{Contains}
use Rattle.std.proofs.lemmas.Bool.{and_parts, ltb-true}
use Rattle.std.proofs.lemmas.List.Elements.{All-contains}
use Rattle.std.proofs.lemmas.Nat.{mul-le, pow_pos}
use Rattle.hot_units.specs.Values.{BodyValue, place}
use Rattle.hot_units.specs.Keys.{IsCell, contains, level, side, corner, extent}
use Rattle.hot_units.specs.Bodies.{IsBody}
use Rattle.hot_units.proofs.Members.{has_filter}
use Rattle.hot_model.specs.Kernel.{square, apart, distance2, centre, accepts}
use Rattle.hot_model.specs.Trees.{cell_record}
use Rattle.hot_model.proofs.Corners.{x_within, y_within, z_within, centre-in-box}
use Rattle.hot_model.proofs.Pulls.{distance2-is}
use Rattle.rank_model.specs.World.{World, IsGood, bodies_in}
use Rattle.rank_model.proofs.Records.{record_is}
use Rattle.pull_bound.specs.Laws.{IsNearCentre}

-- two coordinates in one box are less than its side apart
near-along : (k w s p c : ℕ) → 0 < s → w ≡ s - 1 → k ≤ p → p ≤ k + w → k ≤ c → c < k + s → square (apart p c) ≤ square (s - 1)
near-along k w s p c h e a b d f = mul-le (apart p c) (apart p c) (s - 1) (s - 1) (omega arith) (omega arith)

three-squares : (s x y z : ℕ) → 0 < s → x ≤ square (s - 1) → y ≤ square (s - 1) → z ≤ square (s - 1) → x + y + z < 3 * square s
three-squares s x y z h a b d =
    let m : (s - 1) * (s - 1) ≤ (s - 1) * s = mul-le (s - 1) (s - 1) (s - 1) s (omega arith) (omega arith) in
    let n : (s - 1 + 1) * s ≤ s * s = mul-le (s - 1 + 1) s s s (omega arith) (omega arith) in
    omega arith

-- the ratio bounds what the side bounds
by-ratio : (f s n d r : ℕ) → f < 3 * s → s * d < n * r → f * d < 3 * n * r
by-ratio f s n d r h k = let m : f * d ≤ 3 * s * d = mul-le f d (3 * s) d (omega arith) (omega arith) in omega arith

-- where a cell is taken whole, its centre is near each of its bodies
pub centre-near : (num den : ℕ) (w : World) (b o : BodyValue) (c : ℕ) → IsGood w → IsCell c → Contains (bodies_in w c) o → accepts num den b (cell_record w.bodies c) ≡ true → IsNearCentre num den b o (cell_record w.bodies c)
unfolding accepts
centre-near num den w b o c g i has taken =
    let r = cell_record w.bodies c in
    let in_cell = has_filter (contains c) w.bodies o has in
    let body = All-contains IsBody w.bodies o g.sound in_cell.0 in
    let box = centre-in-box r (centre r).x (centre r).y (centre r).z (record_is w c g i) refl refl refl (omega (arith, has.1)) in
    let some : 0 < side c = pow_pos (29 - level c) in
    let x = x_within c o i body.x_in in_cell.1 in
    let y = y_within c o i body.y_in in_cell.1 in
    let z = z_within c o i body.z_in in_cell.1 in
    let dx = near-along (corner c).x (extent c) (side c) o.x (centre r).x some refl x.0 x.1 box.x_from box.x_to in
    let dy = near-along (corner c).y (extent c) (side c) o.y (centre r).y some refl y.0 y.1 box.y_from box.y_to in
    let dz = near-along (corner c).z (extent c) (side c) o.z (centre r).z some refl z.0 z.1 box.z_from box.z_to in
    let near : distance2 (place o) (centre r) < 3 * square (side c) = rw distance2-is (three-squares (side c) _ _ _ some dx dy dz) in
    let far : square (side c) * square den < square num * distance2 (place b) (centre r) = ltb-true _ _ (and_parts _ _ taken).1 in
    record {
      diagonal = near;
      distance = by-ratio (distance2 (place o) (centre r)) (square (side c)) (square num) (square den) (distance2 (place b) (centre r)) near far;
    }
