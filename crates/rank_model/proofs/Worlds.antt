-- What holds of a good world, and that the split by weights gives one.
use Rattle.std.proofs.Common.{ℕ, ◌≡◌, ◌+◌, ◌-◌, ◌*◌, ◌<◌, ◌≤◌, eqb, ltb, List, length, sum_by, get_or, subst, arith}
use Rattle.std.proofs.lemmas.Bool.Decides.{nat_tests}
use Rattle.std.specs.Prelude.{All}
use Rattle.hot_units.specs.Limits.{max_bodies, max_all_mass}
use Rattle.hot_units.specs.Values.{BodyValue}
use Rattle.hot_units.specs.Keys.{contains, key_of_body}
use Rattle.hot_units.specs.Order.{IsInOrder}
use Rattle.hot_units.specs.Bodies.{mass_of, RowsDiffer, IsBody}
use Rattle.hot_units.proofs.Digits.{div_rises}
use Rattle.hot_units.proofs.Bodies.{in_order_filter, sum_filter_more}
use Rattle.rank_model.specs.World.{World, rank_of, IsGood, piece, bodies_in}
use Rattle.rank_model.specs.Split.{weight_below, counted, split_rank, split_world}

-- the bodies of a piece and of a cell are in order
pub piece_in_order : (w : World) (q : ℕ) → IsGood w → IsInOrder (piece w q)
piece_in_order w q g = in_order_filter (λ b. eqb (rank_of w b) q) w.bodies g.in_order

-- the bodies of a cell of a good world are in order
pub inside_in_order : (w : World) (c : ℕ) → IsGood w → IsInOrder (bodies_in w c)
inside_in_order w c g = in_order_filter (contains c) w.bodies g.in_order

-- the weight of the bodies below a greater key is no less
pub weight_rises : (weight : BodyValue → ℕ) (bodies : List BodyValue) (j k : ℕ) → j ≤ k → weight_below weight bodies j ≤ weight_below weight bodies k
weight_rises weight bodies j k h =
    sum_filter_more weight (λ b. ltb (key_of_body b) j) (λ b. ltb (key_of_body b) k) (λ b e. grind (arith, nat_tests)) bodies

times_rises : (a b k : ℕ) → a ≤ b → a * k ≤ b * k
times_rises a b k h =
    let e : a + (b - a) ≡ b = omega (arith, h) in
    subst (λ (z : ℕ). a * k ≤ z * k) e (omega arith)

-- a greater key has no lower rank
pub split_rises : (weight : BodyValue → ℕ) (bodies : List BodyValue) (ranks j k : ℕ) → j ≤ k → split_rank weight bodies ranks j ≤ split_rank weight bodies ranks k
unfolding split_rank
split_rises weight bodies ranks j k h =
    let p = weight_rises (counted weight bodies) bodies j k h in
    let q = times_rises (weight_below (counted weight bodies) bodies j) (weight_below (counted weight bodies) bodies k) ranks p in
    let r = div_rises (weight_below (counted weight bodies) bodies j * ranks) (weight_below (counted weight bodies) bodies k * ranks) (sum_by (counted weight bodies) bodies) q in
    omega (arith, r)

-- the rank of a key is below the number of ranks, where there is at least one
pub split_below : (weight : BodyValue → ℕ) (bodies : List BodyValue) (ranks k : ℕ) → 1 ≤ ranks → split_rank weight bodies ranks k < ranks
unfolding split_rank
split_below weight bodies ranks k h = omega (arith, h)

-- bodies in order that are split by weights are a good world
pub split_good : (weight : BodyValue → ℕ) (bodies : List BodyValue) (ranks leaf : ℕ) → 1 ≤ ranks → All IsBody bodies → IsInOrder bodies → length bodies ≤ max_bodies → All (λ b. b.row < max_bodies) bodies → RowsDiffer bodies → mass_of bodies ≤ max_all_mass → IsGood (split_world weight bodies ranks leaf)
split_good weight bodies ranks leaf one sound order few rows differ light =
    record {
      sound = sound;
      in_order = order;
      ranked = (λ k d p. split_below weight bodies ranks (key_of_body (get_or bodies k d)) one);
      rising = (λ a b p q h. split_rises weight bodies ranks (key_of_body a) (key_of_body b) h);
      few = few;
      rows_in = rows;
      rows_differ = differ;
      light = light;
    }
