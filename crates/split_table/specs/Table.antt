-- What a split over ranks shows: the share of each rank, the branches, and the top cells.
use Rattle.std.specs.Prelude.{ℕ, List, length, map, filter}
use Rattle.hot_units.specs.Values.{CellValue}
use Rattle.hot_units.specs.Numbers.{numbers_below}
use Rattle.hot_model.specs.Trees.{cell_record}
use Rattle.hot_model.specs.Cells.{cells}
use Rattle.rank_model.specs.World.{World, piece, bodies_in}
use Rattle.rank_model.specs.Branches.{branches, tops, first_rank}
use Rattle.rank_model.specs.Needs.{is_listed}
use Rattle.key_order.specs.Ordered.{OrderedValue}
use Rattle.work_split.specs.Splits.{world_of, weight_of}
use Rattle.branch_merge.specs.declared.listed.Listed.{Listed}
use Rattle.split_table.specs.declared.share.Share.{Share}

-- the shares of all ranks, all branches with their ranks, and the records of the top cells
pub record TableValue : Type 0 where
  pub shares : List Share
  pub branches : List Listed
  pub tops : List CellValue

-- what a rank has: its bodies, their weight, and its branches
abbrev pub share_of : OrderedValue → ℕ → ℕ → Share
share_of set ranks q = record {
  rank = q;
  bodies = length (piece (world_of set ranks) q);
  weight = weight_of set ranks q;
  branches = length (branches (world_of set ranks) q);
}

-- the branches of all ranks, by ascending key
abbrev pub branch_cells : World → List ℕ
branch_cells w = filter (is_listed w w.ranks) (cells w.bodies)

-- a branch with the rank of its bodies and its record over all bodies
abbrev pub branch_of : World → ℕ → Listed
branch_of w c = record { rank = first_rank w (bodies_in w c); rec = cell_record w.bodies c }

-- the branches of a set that is split over ranks, by ascending key
abbrev pub branches_over : OrderedValue → ℕ → List Listed
branches_over set ranks = map (branch_of (world_of set ranks)) (branch_cells (world_of set ranks))

-- what a set that is split over ranks shows
abbrev pub table_of : OrderedValue → ℕ → TableValue
table_of set ranks = record {
  shares = map (share_of set ranks) (numbers_below ranks);
  branches = branches_over set ranks;
  tops = map (cell_record set.bodies) (tops (world_of set ranks));
}
