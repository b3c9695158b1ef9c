-- The parts of a rank, and the cells that it needs of others.
use Rattle.std.specs.Prelude.{ℕ, zero, suc, ◌+◌, ◌-◌, ◌*◌, ◌≡◌, ◌≢◌, Bool, true, false, eqb, leb, not, ◌&&◌, ◌||◌, if◌then◌else◌, List, [], ◌∷◌, ◌++◌, length, filter, flat_map, Contains, ◌⊎◌}
use Rattle.std.specs.List.{list_any}
use Rattle.hot_units.specs.Limits.{max_level}
use Rattle.hot_units.specs.Values.{CellValue, BodyValue}
use Rattle.hot_units.specs.Keys.{covers, digits, child, height}
use Rattle.hot_model.specs.Trees.{at_cell, is_empty, cell_record, opened}
use Rattle.hot_model.specs.Cells.{cells}
use Rattle.rank_model.specs.World.{World, bodies_in, is_leaf, piece}
use Rattle.rank_model.specs.Branches.{first_rank, one_rank, IsBranch, IsOwner, is_branch}
use Rattle.rank_model.specs.declared.part.Part.{Part}
use Rattle.rank_model.specs.declared.part.Part.TheVariants.{Inner, Spread, Leaf, Away}

-- one: all bodies are of rank q; leaf: few enough
abbrev pub part_by : (one : Bool) (q me : ℕ) (leaf : Bool) → Part
part_by one q me leaf =
    if one && not (eqb q me) then Away q else (if leaf then (if one then Leaf else Spread) else Inner)

-- what a cell with bodies is for a rank
abbrev pub part_of : World → ℕ → ℕ → Part
part_of w me c = part_by (one_rank w (bodies_in w c)) (first_rank w (bodies_in w c)) me (is_leaf w c)

-- the cell l contains the cell c, and is another
abbrev pub IsAbove : ℕ → ℕ → Type 0
IsAbove l c = (covers l c ≡ true) × (l ≢ c)

-- what a body that opens by `opens` needs: each cell that it opens, and each branch in a leaf that it opens
abbrev pub NeedsFor : (CellValue → Bool) → World → ℕ → Type 0
NeedsFor opens w c =
    Contains (opened opens w.leaf w.bodies) c
    ⊎ (((p : ℕ) × IsBranch w p c) × ((l : ℕ) × Contains (opened opens w.leaf w.bodies) l × (is_leaf w l ≡ true) × IsAbove l c))

-- the cell has an owner, which is another rank
abbrev pub IsForeign : World → ℕ → ℕ → Type 0
IsForeign w q c = (p : ℕ) × IsOwner w p c × (p ≢ q)

-- the cells of other ranks that some body of rank q needs
abbrev pub Needs : (BodyValue → CellValue → Bool) → World → ℕ → ℕ → Type 0
Needs opens w q c = IsForeign w q c × ((b : BodyValue) × Contains (piece w q) b × NeedsFor (opens b) w c)

-- all bodies of the cell are of one other rank
abbrev pub is_away : World → ℕ → ℕ → Bool
is_away w me c = one_rank w (bodies_in w c) && not (eqb (first_rank w (bodies_in w c)) me)

-- the outermost cells of other ranks in a cell with `deep` levels below it
unfoldable pub outer_in : World → ℕ → ℕ → ℕ → List ℕ
outer_in w me zero c = at_cell (is_empty (bodies_in w c)) (not (is_away w me c)) true [] (c ∷ []) [] []
outer_in w me (suc deep) c =
    at_cell (is_empty (bodies_in w c)) (not (is_away w me c)) false [] (c ∷ []) [] (flat_map (λ d. outer_in w me deep (child c d)) digits)

-- the cell, where it is of another rank
abbrev pub itself : World → ℕ → ℕ → List ℕ
itself w me c = if is_away w me c then c ∷ [] else []

-- the cells that a body of rank `me` asks for in a cell with `deep` levels below it
unfoldable pub asks_in : (CellValue → Bool) → World → ℕ → ℕ → ℕ → List ℕ
asks_in opens w me zero c =
    at_cell (is_empty (bodies_in w c)) (opens (cell_record w.bodies c)) true
    [] [] (outer_in w me zero c) []
asks_in opens w me (suc deep) c =
    at_cell (is_empty (bodies_in w c)) (opens (cell_record w.bodies c)) (leb (length (bodies_in w c)) w.leaf)
    [] [] (outer_in w me (suc deep) c)
    (itself w me c ++ flat_map (λ d. asks_in opens w me deep (child c d)) digits)

-- the cells that a body of rank `me` asks for, from the root
abbrev pub asks : (CellValue → Bool) → World → ℕ → List ℕ
asks opens w me = asks_in opens w me max_level 1

-- the same from a cell at its own level
abbrev pub asks_of : (CellValue → Bool) → World → ℕ → ℕ → List ℕ
asks_of opens w me c = asks_in opens w me (height c) c

-- the outermost cells of other ranks in a cell, at its own level
abbrev pub outer_of : World → ℕ → ℕ → List ℕ
outer_of w me c = outer_in w me (height c) c

-- whether some body of rank q asks for the cell, and the cells for which this is so, by ascending key
abbrev pub is_needed : (BodyValue → CellValue → Bool) → World → ℕ → ℕ → Bool
is_needed opens w q c = list_any (λ b. list_any (eqb c) (asks (opens b) w q)) (piece w q)

-- the cells that some body of rank q asks for, by ascending key
abbrev pub needed : (BodyValue → CellValue → Bool) → World → ℕ → List ℕ
needed opens w q = filter (is_needed opens w q) (cells w.bodies)

-- whether some body opens the cell
abbrev pub is_opened : (BodyValue → CellValue → Bool) → World → ℕ → Bool
is_opened opens w c = list_any (λ b. list_any (eqb c) (opened (opens b) w.leaf w.bodies)) w.bodies

-- whether the cell is a branch of one of the first n ranks
abbrev pub is_listed : World → ℕ → ℕ → Bool
is_listed w zero c = false
is_listed w (suc n) c = is_listed w n c || is_branch w n c

-- the cells that are opened by some body or a branch of some rank
abbrev pub met_cells : (BodyValue → CellValue → Bool) → World → List ℕ
met_cells opens w = filter (λ c. is_opened opens w c || is_listed w w.ranks c) (cells w.bodies)

-- how many rounds a run has at most
abbrev pub round_bound : (BodyValue → CellValue → Bool) → World → ℕ
round_bound opens w = (w.ranks - 1) * (w.ranks + 2 * length (met_cells opens w)) + 1
