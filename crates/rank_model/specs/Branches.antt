-- Branches, top cells and owners.
use Rattle.std.specs.Prelude.{ℕ, ◌≡◌, ◌<◌, Bool, true, eqb, not, ◌&&◌, ◌||◌, List, [], ◌∷◌, length, filter, map, flat_map, sum_by, All, Contains, ◌⊎◌, ◌≢◌}
use Rattle.std.specs.List.{list_all}
use Rattle.hot_units.specs.Values.{BodyValue, CellValue}
use Rattle.hot_units.specs.Numbers.{numbers_below}
use Rattle.hot_units.specs.Keys.{IsCell, parent, covers}
use Rattle.hot_model.specs.Trees.{cell_record}
use Rattle.hot_model.specs.Cells.{cells}
use Rattle.rank_model.specs.World.{World, rank_of, bodies_in}

-- all bodies of the cell are of rank q
abbrev pub IsOfRank : World → ℕ → ℕ → Type 0
IsOfRank w q c = All (λ b. rank_of w b ≡ q) (bodies_in w c)

-- the cell has a body of another rank than q
abbrev pub HasOther : World → ℕ → ℕ → Type 0
HasOther w q c = (b : BodyValue) × Contains (bodies_in w c) b × (rank_of w b ≢ q)

-- a cell with bodies, all of rank q, that is the root or whose parent has a body of another rank
pub record IsBranch (w : World) (q c : ℕ) : Type 0 where
  pub cell : IsCell c
  pub some : 0 < length (bodies_in w c)
  pub own : IsOfRank w q c
  pub outermost : (c ≡ 1) ⊎ HasOther w q (parent c)

-- a cell with bodies of two or more ranks
pub record IsTop (w : World) (c : ℕ) : Type 0 where
  pub cell : IsCell c
  pub one : BodyValue
  pub other : BodyValue
  pub has_one : Contains (bodies_in w c) one
  pub has_other : Contains (bodies_in w c) other
  pub differ : rank_of w one ≢ rank_of w other

-- the cell is or lies in a branch of rank q
abbrev pub IsOwner : World → ℕ → ℕ → Type 0
IsOwner w q c = (k : ℕ) × IsBranch w q k × (covers k c ≡ true)

-- whether all bodies of the list are of rank q
abbrev pub all_of_rank : World → ℕ → List BodyValue → Bool
all_of_rank w q xs = list_all (λ b. eqb (rank_of w b) q) xs

-- the rank of the first body of a list
abbrev pub first_rank : World → List BodyValue → ℕ
first_rank w [] = 0
first_rank w (x ∷ xs) = rank_of w x

-- all bodies of the list are of one rank
abbrev pub one_rank : World → List BodyValue → Bool
one_rank w xs = all_of_rank w (first_rank w xs) xs

-- whether a cell with bodies is a branch of rank q
abbrev pub is_branch : World → ℕ → ℕ → Bool
is_branch w q c = all_of_rank w q (bodies_in w c) && (eqb c 1 || not (all_of_rank w q (bodies_in w (parent c))))

-- whether a cell has bodies of two or more ranks
abbrev pub is_top : World → ℕ → Bool
is_top w c = not (one_rank w (bodies_in w c))

-- the branches of rank q, by ascending key
abbrev pub branches : World → ℕ → List ℕ
branches w q = filter (is_branch w q) (cells w.bodies)

-- the top cells, by ascending key
abbrev pub tops : World → List ℕ
tops w = filter (is_top w) (cells w.bodies)

-- the records of the branches of rank q: its list for all other ranks
abbrev pub branch_records : World → ℕ → List CellValue
branch_records w q = map (cell_record w.bodies) (branches w q)

-- the branches of all ranks, rank by rank
abbrev pub all_branches : World → List ℕ
all_branches w = flat_map (branches w) (numbers_below w.ranks)

-- the records of the branches of all ranks
abbrev pub all_records : World → List CellValue
all_records w = map (cell_record w.bodies) (all_branches w)

-- the record of a cell that is made of the listed records that it covers
abbrev pub joined_record : ℕ → List CellValue → CellValue
joined_record c rs = record {
  key = c;
  count = sum_by (λ r. r.count) (filter (λ r. covers c r.key) rs);
  mass = sum_by (λ r. r.mass) (filter (λ r. covers c r.key) rs);
  sx = sum_by (λ r. r.sx) (filter (λ r. covers c r.key) rs);
  sy = sum_by (λ r. r.sy) (filter (λ r. covers c r.key) rs);
  sz = sum_by (λ r. r.sz) (filter (λ r. covers c r.key) rs);
  sxx = sum_by (λ r. r.sxx) (filter (λ r. covers c r.key) rs);
  syy = sum_by (λ r. r.syy) (filter (λ r. covers c r.key) rs);
  szz = sum_by (λ r. r.szz) (filter (λ r. covers c r.key) rs);
  sxy = sum_by (λ r. r.sxy) (filter (λ r. covers c r.key) rs);
  sxz = sum_by (λ r. r.sxz) (filter (λ r. covers c r.key) rs);
  syz = sum_by (λ r. r.syz) (filter (λ r. covers c r.key) rs);
}
