-- What is merged from the true branch lists is the top of the tree over all bodies.
use Rattle.std.specs.Prelude.{ℕ, ◌≡◌, ◌≤◌, ◌↔◌, ◌⊎◌, true, List, map, Contains}
use Rattle.std.specs.List.Sorted.{IsPermutation}
use Rattle.hot_units.specs.Limits.{max_ranks}
use Rattle.hot_units.specs.Values.{BodyValue, CellValue}
use Rattle.hot_units.specs.Numbers.{numbers_below}
use Rattle.hot_units.specs.Keys.{IsCell, contains}
use Rattle.hot_model.specs.Trees.{cell_record}
use Rattle.rank_model.specs.World.{World, IsGood, rank_of}
use Rattle.rank_model.specs.Branches.{IsBranch, IsTop, IsOwner, tops as top_cells, branch_records, joined_record}
use Rattle.rank_model.specs.Answers.{child_records}
use Rattle.branch_merge.specs.declared.listed.Listed.{Listed}
use Rattle.branch_merge.specs.Listing.{all_listed, records, CanMerge}
use Rattle.branch_merge.specs.Tops.{IsTopOf, IsOwnerIn, children_of, AreTops}

-- the branch lists of all ranks
abbrev pub branch_lists : World → List (List CellValue)
branch_lists w = map (branch_records w) (numbers_below w.ranks)

-- the listed records are those of the branches of all ranks
abbrev pub AreTrue : World → List Listed → Type 0
AreTrue w xs = IsPermutation (all_listed (branch_lists w)) xs

-- what lies above the listed records is the top of the tree
pub record IsTrueTop (w : World) (xs : List Listed) : Type 0 where
  pub tops : (c : ℕ) → IsTopOf xs c ↔ IsTop w c
  pub sums : (c : ℕ) → IsTop w c → joined_record c (records xs) ≡ cell_record w.bodies c
  pub children : (c : ℕ) → IsTop w c → children_of xs c ≡ map (λ r. r.key) (child_records w c)
  pub parts : (c k : ℕ) → IsTop w c → Contains (children_of xs c) k → IsTop w k ⊎ ((q : ℕ) × IsBranch w q k)
  pub branches : (q : ℕ) (r : CellValue) → Contains xs (record { rank = q; rec = r }) ↔ Contains (branch_records w q) r
  pub owners : (q c : ℕ) → IsCell c → IsOwnerIn xs q c ↔ IsOwner w q c
  -- the keys of all cells above listed records are the list of top cells
  pub keys : (keys : List ℕ) → AreTops xs keys → keys ≡ top_cells w

-- the true lists can be merged
abbrev pub TrueListsMerge : Type 0
TrueListsMerge = (w : World) → IsGood w → w.ranks ≤ max_ranks → CanMerge (branch_lists w)

-- and what is merged from them is true
abbrev pub MergedIsTrue : Type 0
MergedIsTrue = (w : World) (xs : List Listed) → IsGood w → AreTrue w xs → IsTrueTop w xs

-- a body lies in a branch of its rank, and in no other branch
pub record HasOneBranch (w : World) (b : BodyValue) : Type 0 where
  pub cell : ℕ
  pub branch : IsBranch w (rank_of w b) cell
  pub has : contains cell b ≡ true
  pub only : (q c : ℕ) → IsBranch w q c → contains c b ≡ true → (c ≡ cell) × (q ≡ rank_of w b)

-- this holds of each body
abbrev pub BodiesHaveOneBranch : Type 0
BodiesHaveOneBranch = (w : World) (b : BodyValue) → Contains w.bodies b → HasOneBranch w b
