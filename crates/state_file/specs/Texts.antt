-- The body file of a state, and what a body file holds.
use Rattle.std.specs.Prelude.{◌≡◌, ℕ, suc, ◌-◌, ◌^◌, ◌≤◌, ℤ, pos, negsuc, ◌≤ℤ◌, Bool, true, false, List, [], ◌∷◌, ◌++◌, length, All, Option, Some, None, Ok}
use Rattle.byteorder.specs.Endian.{little_bytes}
use Rattle.hot_units.specs.Limits.{max_bodies, max_all_mass}
use Rattle.hot_units.specs.Bodies.{mass_of, RowsCount, IsBody}
use Rattle.sdf_header.specs.declared.kind.Whole.{Whole}
use Rattle.sdf_header.specs.declared.kind.Whole.TheVariants as wholes
use Rattle.sdf_header.specs.declared.layout.Col.{Col}
use Rattle.sdf_header.specs.Layouts.{LayoutValue}
use Rattle.sdf_header.specs.Verdict.{verdict}
use Rattle.body_set.specs.Sets.{SetValue}
use Rattle.body_file.specs.Files.{fault_of, HasBodies}
use Rattle.leap_frog.specs.Leap.{Moving, bodies_of}
use Rattle.leap_frog.specs.States.{moving}
use Rattle.state_file.specs.Headers.{state_header}

-- a state, the ident of each row, and whether idents are unsigned
pub record StateFile : Type 0 where
  pub unsigned : Bool
  pub state : List Moving
  pub idents : List ℤ

-- ---- the text

-- a number of 8 bytes in two's complement
abbrev pub bits_of : ℤ → ℕ
bits_of (pos n) = n
bits_of (negsuc n) = 2 ^ 64 - suc n

-- the row of a body
abbrev pub row_text : Moving → ℤ → List ℕ
row_text m ident =
    little_bytes 4 m.body.x ++ little_bytes 4 m.body.y ++ little_bytes 4 m.body.z ++ little_bytes 4 m.body.mass
    ++ little_bytes 8 (bits_of ident)
    ++ little_bytes 8 (bits_of m.velocity.x) ++ little_bytes 8 (bits_of m.velocity.y) ++ little_bytes 8 (bits_of m.velocity.z)

-- the rows, one for each body and its ident
unfoldable pub rows_text : List Moving → List ℤ → List ℕ
rows_text [] idents = []
rows_text (m ∷ s) [] = []
rows_text (m ∷ s) (ident ∷ idents) = row_text m ident ++ rows_text s idents

-- the body file of a state
abbrev pub state_text : StateFile → List ℕ
state_text f = state_header f.unsigned (length f.state) ++ rows_text f.state f.idents

-- ---- what a body file holds

-- the state of a set: each body with its velocity
abbrev pub state_of_set : SetValue → List Moving
state_of_set set = moving set.bodies set.velocities

-- the type is the unsigned one of 8 bytes
abbrev pub is_u64 : Whole → Bool
is_u64 wholes.U64 = true
is_u64 _ = false

-- the ident column is an unsigned one of 8 bytes
abbrev pub is_unsigned : Option Col → Bool
is_unsigned None = false
is_unsigned (Some col) = is_u64 col.kind

-- the file, alone in a list of files, has no fault, and the bodies, velocities and idents that it gives are those of this
-- state
pub record HasState (bytes : List ℕ) (f : StateFile) : Type 0 where
  pub layout : LayoutValue
  pub header : verdict bytes ≡ Ok layout
  pub set : SetValue
  pub read : HasBodies (bytes ∷ []) set
  pub unsigned : f.unsigned ≡ is_unsigned layout.ident
  pub state : f.state ≡ state_of_set set
  pub idents : f.idents ≡ set.idents

-- ---- what can be written

-- a number fits 8 signed bytes
abbrev pub IsSigned : ℤ → Type 0
IsSigned z = (negsuc (2 ^ 63 - 1) ≤ℤ z) × (z ≤ℤ pos (2 ^ 63 - 1))

-- a number fits 8 unsigned bytes
abbrev pub IsUnsigned : ℤ → Type 0
IsUnsigned z = (pos 0 ≤ℤ z) × (z ≤ℤ pos (2 ^ 64 - 1))

-- an ident fits its column
abbrev pub FitsIdent : Bool → ℤ → Type 0
FitsIdent true z = IsUnsigned z
FitsIdent false z = IsSigned z

-- each component of a velocity fits 8 signed bytes
pub record IsWritable (m : Moving) : Type 0 where
  pub x : IsSigned m.velocity.x
  pub y : IsSigned m.velocity.y
  pub z : IsSigned m.velocity.z

-- a state that can be written: bodies in the cube, numbered by their places, not too many and not too heavy together, and
-- numbers that fit their columns
pub record CanBeWritten (f : StateFile) : Type 0 where
  pub sound : All IsBody (bodies_of f.state)
  pub rows : RowsCount (bodies_of f.state)
  pub few : length f.state ≤ max_bodies
  pub light : mass_of (bodies_of f.state) ≤ max_all_mass
  pub idents_too : length f.idents ≡ length f.state
  pub named : All (FitsIdent f.unsigned) f.idents
  pub slow : All IsWritable f.state

-- The file of a state that can be written has no fault, and holds this state.
abbrev pub StatesReadBack : Type 0
StatesReadBack = (f : StateFile) → CanBeWritten f → HasState (state_text f) f

-- A file that has no fault, alone in a list of files, has a state.
abbrev pub FilesHaveStates : Type 0
FilesHaveStates = (bytes : List ℕ) → fault_of (bytes ∷ []) ≡ None → (f : StateFile) × HasState bytes f
