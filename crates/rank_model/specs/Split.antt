-- The split of the bodies into ranks by weights.
use Rattle.std.specs.Prelude.{ℕ, ◌-◌, ◌*◌, ◌/◌, eqb, ltb, if◌then◌else◌, List, filter, sum_by, min, slice_index}
use Rattle.hot_units.specs.Values.{BodyValue}
use Rattle.hot_units.specs.Keys.{key_of_body}
use Rattle.rank_model.specs.World.{World}

-- the weight of a body, by its row
abbrev pub weight_in : List ℕ → BodyValue → ℕ
weight_in weights b = slice_index weights b.row

-- the weight that counts: where all weights are 0, each is 1
abbrev pub counted : (BodyValue → ℕ) → List BodyValue → BodyValue → ℕ
counted weight bodies b = if eqb (sum_by weight bodies) 0 then 1 else weight b

-- the weight of all bodies with a smaller key
abbrev pub weight_below : (BodyValue → ℕ) → List BodyValue → ℕ → ℕ
weight_below weight bodies k = sum_by weight (filter (λ b. ltb (key_of_body b) k) bodies)

-- the rank of the bodies with the key k
unfoldable pub split_rank : (BodyValue → ℕ) → List BodyValue → ℕ → ℕ → ℕ
split_rank weight bodies ranks k =
    min (ranks - 1) (weight_below (counted weight bodies) bodies k * ranks / sum_by (counted weight bodies) bodies)

-- the world of bodies in order that are split by weights
abbrev pub split_world : (BodyValue → ℕ) → List BodyValue → ℕ → ℕ → World
split_world weight bodies ranks leaf = record { bodies = bodies; rank = split_rank weight bodies ranks; ranks = ranks; leaf = leaf }
