-- What a piece and its two neighbouring keys tell of all bodies.
use Rattle.std.specs.Prelude.{ℕ, suc, ◌≡◌, ◌<◌, ◌≤◌, ◌*◌, ◌↔◌, true, List, length, Contains}
use Rattle.std.specs.List.Sorted.{IsStrictlyIncreasing}
use Rattle.hot_units.specs.Limits.{max_level}
use Rattle.hot_units.specs.Values.{BodyValue}
use Rattle.hot_units.specs.Keys.{IsCell}
use Rattle.hot_units.specs.Order.{IsInOrder}
use Rattle.hot_model.specs.Trees.{inside, cell_record}
use Rattle.hot_model.specs.Cells.{cells}
use Rattle.rank_model.specs.World.{World, IsGood, piece, left_of, right_of, bodies_in}
use Rattle.rank_model.specs.Branches.{IsOfRank, IsBranch, branches, branch_records}
use Rattle.rank_model.specs.Answers.{answer_at, true_answer}
use Rattle.rank_model.specs.Homes.{is_home, home_branches}
use Rattle.local_tree.specs.Pieces.{IsBetween}

-- a cell is a rank's own by its piece exactly where it has bodies and all of them are of the rank
abbrev pub HomesAreOwn : Type 0
HomesAreOwn = (w : World) (q c : ℕ) → IsGood w → IsCell c → (is_home (piece w q) (left_of w q) (right_of w q) c ≡ true) ↔ ((0 < length (bodies_in w c)) × IsOfRank w q c)

-- of a cell with bodies the keys are between those beside a piece exactly where all its bodies are of the rank
abbrev pub OwnCellsAreBetween : Type 0
OwnCellsAreBetween = (w : World) (q c : ℕ) → IsGood w → IsCell c → 0 < length (bodies_in w c) → IsBetween (left_of w q) (right_of w q) c ↔ IsOfRank w q c

-- what a piece has of a cell whose bodies are all of the rank is what there is of it
pub record IsWhole (w : World) (q c : ℕ) : Type 0 where
  pub bodies : inside (piece w q) c ≡ bodies_in w c
  pub sums : cell_record (piece w q) c ≡ cell_record w.bodies c
  pub answer : answer_at w.leaf (piece w q) c ≡ true_answer w c

-- this holds of every such cell
abbrev pub OwnCellsAreWhole : Type 0
OwnCellsAreWhole = (w : World) (q c : ℕ) → IsCell c → IsOfRank w q c → IsWhole w q c

-- the outermost own cells of a piece are the branches of its rank, with their records over all bodies
abbrev pub HomesGiveBranches : Type 0
HomesGiveBranches = (w : World) (q : ℕ) → IsGood w → home_branches (piece w q) (left_of w q) (right_of w q) ≡ branch_records w q

-- the cells with bodies of a list in order ascend strictly, each such cell is there, and there are at most 22 for each body
pub record AreAllCells (bodies : List BodyValue) : Type 0 where
  pub ascend : IsStrictlyIncreasing (cells bodies)
  pub few : length (cells bodies) ≤ suc max_level * length bodies
  pub all : (k : ℕ) → Contains (cells bodies) k ↔ (IsCell k × (0 < length (inside bodies k)))

-- this holds of every list in order
abbrev pub CellsAreListed : Type 0
CellsAreListed = (bodies : List BodyValue) → IsInOrder bodies → AreAllCells bodies

-- the listed branches of a rank ascend strictly, and each branch cell is there
pub record AreAllBranches (w : World) (q : ℕ) : Type 0 where
  pub ascend : IsStrictlyIncreasing (branches w q)
  pub all : (c : ℕ) → Contains (branches w q) c ↔ IsBranch w q c

-- this holds of every rank of a good world
abbrev pub BranchesAreListed : Type 0
BranchesAreListed = (w : World) (q : ℕ) → IsGood w → AreAllBranches w q
