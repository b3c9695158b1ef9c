-- The definitions compute: two bodies on two ranks, and three bodies on two ranks.
use Rattle.std.proofs.Common.{ℕ, ◌≡◌, ◌^◌, ◌+◌, [], ◌∷◌, refl, Some, None, false}
use Rattle.std.specs.Prelude.{length}
use Rattle.hot_units.specs.Values.{BodyValue}
use Rattle.hot_units.specs.Numbers.{greatest, least}
use Rattle.hot_units.specs.Keys.{key_of_body, key_to, levels_to}
use Rattle.hot_model.specs.Kernel.{accepts, distance2}
use Rattle.hot_model.specs.Trees.{opened, opened_in, opens_of, Settings}
use Rattle.hot_model.specs.Cells.{cells_above}
use Rattle.rank_model.specs.World.{World, left_of, right_of}
use Rattle.rank_model.specs.Split.{split_world, split_rank, weight_in}
use Rattle.rank_model.specs.Branches.{branches, tops}
use Rattle.rank_model.specs.Needs.{part_of, asks_in, outer_in, needed, met_cells, round_bound}
use Rattle.rank_model.specs.declared.part.Part.TheVariants.{Spread, Leaf, Away}

abbrev body : ℕ → ℕ → ℕ → BodyValue
body x mass row = record { x = x; y = 0; z = 0; mass = mass; row = row }

-- ratio 0: every cell is opened
abbrev all_opened : Settings
all_opened = record { num = 0; den = 1; eps = 1; leaf = 8; second = false }

abbrev two : World
two = split_world (λ b. 1) (body 0 1 0 ∷ body 1024 3 1 ∷ []) 2 8

keys : (key_of_body (body 0 1 0) ≡ 9223372036854775808) × (key_of_body (body 1024 3 1) ≡ 9223372036854776064)
unfolding key_to
keys = (refl, refl)

ranks : (two.rank 9223372036854775808 ≡ 0) × (two.rank 9223372036854776064 ≡ 1)
unfolding key_to split_rank
ranks = (refl, refl)

two-branches : (branches two 0 ≡ 144115188075855872 ∷ []) × (branches two 1 ≡ 144115188075855876 ∷ [])
unfolding cells_above key_to levels_to split_rank
two-branches = (refl, refl)

two-tops : length (tops two) ≡ 19
unfolding cells_above key_to levels_to split_rank
two-tops = refl

two-parts : (part_of two 0 1 ≡ Spread) × (part_of two 0 144115188075855876 ≡ Away 1) × (part_of two 0 144115188075855872 ≡ Leaf)
unfolding key_to levels_to split_rank
two-parts = (refl, refl, refl)

two-opened : opened (opens_of all_opened (body 0 1 0)) 8 two.bodies ≡ 1 ∷ []
unfolding key_to levels_to split_rank opened_in accepts distance2
two-opened = refl

two-needed : (needed (opens_of all_opened) two 0 ≡ 144115188075855876 ∷ []) × (needed (opens_of all_opened) two 1 ≡ 144115188075855872 ∷ [])
unfolding cells_above key_to levels_to split_rank asks_in outer_in accepts distance2
two-needed = (refl, refl)

two-met : (length (met_cells (opens_of all_opened) two) ≡ 3) × (round_bound (opens_of all_opened) two ≡ 9)
unfolding cells_above key_to levels_to split_rank opened_in accepts distance2
two-met = (refl, refl)

two-beside : (left_of two 0 ≡ None) × (right_of two 0 ≡ Some 9223372036854776064) × (left_of two 1 ≡ Some 9223372036854775808)
unfolding key_to split_rank greatest least
two-beside = (refl, refl, refl)

-- a body on rank 0, and two on rank 1 that part at level 2; leaves of one body
abbrev three : World
three = split_world (weight_in (2 ∷ 1 ∷ 1 ∷ [])) (body 0 1 0 ∷ body (2 ^ 28) 1 1 ∷ body (2 ^ 28 + 2 ^ 27) 1 2 ∷ []) 2 1

three-branches : (branches three 0 ≡ 8 ∷ []) × (branches three 1 ≡ 12 ∷ []) × (tops three ≡ 1 ∷ [])
unfolding cells_above key_to levels_to split_rank
three-branches = (refl, refl, refl)

-- rank 0 asks for the branch and for its children, rank 1 for the branch alone
three-needed : (needed (opens_of all_opened) three 0 ≡ 12 ∷ 96 ∷ 100 ∷ []) × (needed (opens_of all_opened) three 1 ≡ 8 ∷ [])
unfolding cells_above key_to levels_to split_rank asks_in outer_in accepts distance2
three-needed = (refl, refl)
