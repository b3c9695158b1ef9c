-- The recursive walk of the tree over a list of bodies.
use Rattle.std.specs.Prelude.{Option, Some, None, ℕ, zero, suc, ◌*◌, Bool, true, eqb, leb, not, ◌||◌, if◌then◌else◌, List, [], ◌∷◌, length, filter, map, fold, flat_map, sum_by}
use Rattle.hot_units.specs.Limits.{max_level}
use Rattle.hot_units.specs.Values.{BodyValue, CellValue, Vector, place}
use Rattle.hot_units.specs.Keys.{contains, level, digits, child, height}
use Rattle.hot_units.specs.Bodies.{mass_of}
use Rattle.hot_model.specs.Kernel.{pull, centre, accepts, origin, plus}
use Rattle.hot_model.specs.Second.{quad}

-- the bodies of a cell
abbrev pub inside : List BodyValue → ℕ → List BodyValue
inside bodies c = filter (contains c) bodies

-- the record of a cell with these bodies
abbrev pub record_of : ℕ → List BodyValue → CellValue
record_of c xs = record {
  key = c;
  count = length xs;
  mass = mass_of xs;
  sx = sum_by (λ b. b.mass * b.x) xs;
  sy = sum_by (λ b. b.mass * b.y) xs;
  sz = sum_by (λ b. b.mass * b.z) xs;
  sxx = sum_by (λ b. b.mass * b.x * b.x) xs;
  syy = sum_by (λ b. b.mass * b.y * b.y) xs;
  szz = sum_by (λ b. b.mass * b.z * b.z) xs;
  sxy = sum_by (λ b. b.mass * b.x * b.y) xs;
  sxz = sum_by (λ b. b.mass * b.x * b.z) xs;
  syz = sum_by (λ b. b.mass * b.y * b.z) xs;
}

-- the record of a cell over a list of bodies
abbrev pub cell_record : List BodyValue → ℕ → CellValue
cell_record bodies c = record_of c (inside bodies c)

-- how a walk treats a cell: one without bodies counts nothing, one that is not opened counts whole,
-- an opened leaf is listed, and any other is parted
abbrev pub at_cell : {X : Type 0} → Bool → Bool → Bool → X → X → X → X → X
at_cell empty opens leaf nothing whole listed parted =
    if empty then nothing else (if not opens then whole else (if leaf then listed else parted))

-- no bodies
abbrev pub is_empty : List BodyValue → Bool
is_empty xs = eqb (length xs) 0

-- the record of a cell, if it has bodies
abbrev pub record_at : List BodyValue → ℕ → Option CellValue
record_at bodies c = if is_empty (inside bodies c) then None else Some (cell_record bodies c)

-- few enough bodies, or the deepest level
abbrev pub leaf_at : ℕ → List BodyValue → ℕ → Bool
leaf_at leaf bodies c = leb (length (inside bodies c)) leaf || eqb (level c) max_level

-- what a walk adds for a body: a cell as one source, or one other body
pub data Term : Type 0 where
  Far : CellValue → Term
  Near : BodyValue → Term

-- the mass that a term adds to what was seen
abbrev pub mass_of_term : Term → ℕ
mass_of_term (Far c) = c.mass
mass_of_term (Near o) = o.mass

-- what rests of a cell that is listed
abbrev pub listed : List BodyValue → ℕ → List Term
listed bodies c = map Near (inside bodies c)

-- the terms of a cell with `deep` levels below it, for a body that opens by `opens`
unfoldable pub terms_in : (CellValue → Bool) → ℕ → List BodyValue → ℕ → ℕ → List Term
terms_in opens leaf bodies zero c =
    at_cell (is_empty (inside bodies c)) (opens (cell_record bodies c)) true
    [] (Far (cell_record bodies c) ∷ []) (listed bodies c) []
terms_in opens leaf bodies (suc deep) c =
    at_cell (is_empty (inside bodies c)) (opens (cell_record bodies c)) (leb (length (inside bodies c)) leaf)
    [] (Far (cell_record bodies c) ∷ []) (listed bodies c)
    (flat_map (λ d. terms_in opens leaf bodies deep (child c d)) digits)

-- the terms of a body, from the root
abbrev pub terms : (CellValue → Bool) → ℕ → List BodyValue → List Term
terms opens leaf bodies = terms_in opens leaf bodies max_level 1

-- an accumulator with all of these terms added
abbrev pub added : {A : Type 0} → (A → Term → A) → A → List Term → A
added add a ts = fold add a ts

-- the sum of vectors
unfoldable pub total : List Vector → Vector
total [] = origin
total (v ∷ vs) = plus v (total vs)

-- the numbers of a walk by gravity; whether cells act with their second moments
pub record Settings : Type 0 where
  pub num : ℕ
  pub den : ℕ
  pub eps : ℕ
  pub leaf : ℕ
  pub second : Bool

-- the pull of a cell as one source, by its mass alone
abbrev pub pull_first : ℕ → BodyValue → CellValue → Vector
pull_first eps b c = pull eps (place b) (centre c) c.mass

-- the pull of a cell as one source, with its second moments or without
abbrev pub pull_far : Bool → ℕ → BodyValue → CellValue → Vector
pull_far second eps b c = if second then plus (pull_first eps b c) (quad eps (place b) c) else pull_first eps b c

-- the pull of one body on another
abbrev pub pull_near : ℕ → BodyValue → BodyValue → Vector
pull_near eps b o = pull eps (place b) (place o) o.mass

-- whether a walk by gravity opens a cell: it is not accepted
abbrev pub opens_of : Settings → BodyValue → CellValue → Bool
opens_of s b c = not (accepts s.num s.den b c)

-- the force on b from a cell with `deep` levels below it
unfoldable pub force_in : Settings → List BodyValue → BodyValue → ℕ → ℕ → Vector
force_in s bodies b zero c =
    at_cell (is_empty (inside bodies c)) (opens_of s b (cell_record bodies c)) true
    origin (pull_far s.second s.eps b (cell_record bodies c)) (total (map (pull_near s.eps b) (inside bodies c))) origin
force_in s bodies b (suc deep) c =
    at_cell (is_empty (inside bodies c)) (opens_of s b (cell_record bodies c)) (leb (length (inside bodies c)) s.leaf)
    origin (pull_far s.second s.eps b (cell_record bodies c)) (total (map (pull_near s.eps b) (inside bodies c)))
    (total (map (λ d. force_in s bodies b deep (child c d)) digits))

-- the force on b: that from the root
abbrev pub force : Settings → List BodyValue → BodyValue → Vector
force s bodies b = force_in s bodies b max_level 1

-- the cells that a walk opens, an opened leaf among them
unfoldable pub opened_in : (CellValue → Bool) → ℕ → List BodyValue → ℕ → ℕ → List ℕ
opened_in opens leaf bodies zero c =
    at_cell (is_empty (inside bodies c)) (opens (cell_record bodies c)) true [] [] (c ∷ []) []
opened_in opens leaf bodies (suc deep) c =
    at_cell (is_empty (inside bodies c)) (opens (cell_record bodies c)) (leb (length (inside bodies c)) leaf)
    [] [] (c ∷ []) (c ∷ flat_map (λ d. opened_in opens leaf bodies deep (child c d)) digits)

-- the cells that a walk from the root opens
abbrev pub opened : (CellValue → Bool) → ℕ → List BodyValue → List ℕ
opened opens leaf bodies = opened_in opens leaf bodies max_level 1

-- the terms of a cell at its own level
abbrev pub terms_of : (CellValue → Bool) → ℕ → List BodyValue → ℕ → List Term
terms_of opens leaf bodies c = terms_in opens leaf bodies (height c) c

-- the force on b from a cell at its own level
abbrev pub force_of : Settings → List BodyValue → BodyValue → ℕ → Vector
force_of s bodies b c = force_in s bodies b (height c) c

-- the cells that a walk from a cell at its own level opens
abbrev pub opened_of : (CellValue → Bool) → ℕ → List BodyValue → ℕ → List ℕ
opened_of opens leaf bodies c = opened_in opens leaf bodies (height c) c

-- a visit's accumulator at the end: nothing, with all terms from the root added
abbrev pub fold_of : {A : Type 0} → (A → Term → A) → A → (CellValue → Bool) → ℕ → List BodyValue → A
fold_of add nothing opens leaf bodies = added add nothing (terms opens leaf bodies)

-- the same from a cell at its own level
abbrev pub cell_fold : {A : Type 0} → (A → Term → A) → A → (CellValue → Bool) → ℕ → List BodyValue → ℕ → A
cell_fold add nothing opens leaf bodies c = added add nothing (terms_of opens leaf bodies c)
