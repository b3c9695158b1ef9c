-- The types of values and columns.
use Rattle.std.specs.Prelude.{ℕ, ◌+◌, ◌≤◌, Bool, true, false, List, Option, Some, None, if◌then◌else◌, codes}
use Rattle.std.specs.Str.{bytes_eq}
use Rattle.sdf_header.specs.declared.kind.Whole.{Whole}
use Rattle.sdf_header.specs.declared.kind.Whole.TheVariants as wholes
use Rattle.sdf_header.specs.declared.kind.Kind.{Kind}
use Rattle.sdf_header.specs.declared.kind.Kind.TheVariants as kinds
use Rattle.sdf_header.specs.declared.document.Column as declared_column
use Rattle.sdf_header.specs.declared.layout.Col.{Col}

-- the type of one word with this name, where a value has four bytes or eight
abbrev pub wide_kind : List ℕ → Option Kind
wide_kind w =
    if bytes_eq w (codes "int") then Some (kinds.Whole wholes.I32)
    else if bytes_eq w (codes "int32_t") then Some (kinds.Whole wholes.I32)
    else if bytes_eq w (codes "uint32_t") then Some (kinds.Whole wholes.U32)
    else if bytes_eq w (codes "int64_t") then Some (kinds.Whole wholes.I64)
    else if bytes_eq w (codes "uint64_t") then Some (kinds.Whole wholes.U64)
    else if bytes_eq w (codes "float") then Some kinds.Float
    else if bytes_eq w (codes "double") then Some kinds.Double
    else None

-- the type of one word with this name
abbrev pub kind_named : List ℕ → Option Kind
kind_named w =
    if bytes_eq w (codes "char") then Some kinds.Char
    else if bytes_eq w (codes "int8_t") then Some (kinds.Whole wholes.I8)
    else if bytes_eq w (codes "uint8_t") then Some (kinds.Whole wholes.U8)
    else if bytes_eq w (codes "short") then Some (kinds.Whole wholes.I16)
    else if bytes_eq w (codes "int16_t") then Some (kinds.Whole wholes.I16)
    else if bytes_eq w (codes "uint16_t") then Some (kinds.Whole wholes.U16)
    else wide_kind w

-- the type of `unsigned` and this word
abbrev pub unsigned_kind : List ℕ → Option Kind
unsigned_kind w =
    if bytes_eq w (codes "char") then Some (kinds.Whole wholes.U8)
    else if bytes_eq w (codes "short") then Some (kinds.Whole wholes.U16)
    else if bytes_eq w (codes "int") then Some (kinds.Whole wholes.U32)
    else None

-- whole numbers are of this type
abbrev pub is_whole : Kind → Bool
is_whole (kinds.Whole w) = true
is_whole kinds.Char = false
is_whole kinds.Float = false
is_whole kinds.Double = false

-- the type is char
abbrev pub is_char : Kind → Bool
is_char (kinds.Whole w) = false
is_char kinds.Char = true
is_char kinds.Float = false
is_char kinds.Double = false

-- how many bytes a whole number of this type has
abbrev pub whole_bytes : Whole → ℕ
whole_bytes wholes.I8 = 1
whole_bytes wholes.U8 = 1
whole_bytes wholes.I16 = 2
whole_bytes wholes.U16 = 2
whole_bytes wholes.I32 = 4
whole_bytes wholes.U32 = 4
whole_bytes wholes.I64 = 8
whole_bytes wholes.U64 = 8

-- how many bytes a value of this type has
abbrev pub bytes_of : Kind → ℕ
bytes_of (kinds.Whole w) = whole_bytes w
bytes_of kinds.Char = 1
bytes_of kinds.Float = 4
bytes_of kinds.Double = 8

-- the first value of this column lies in a row of this width
abbrev pub LiesIn : ℕ → declared_column.Column → Type 0
LiesIn width c = c.offset + bytes_of c.kind ≤ width

-- this column lies in a row of this width
abbrev pub Fits : ℕ → Col → Type 0
Fits width c = c.offset + whole_bytes c.kind ≤ width

-- the same, where there is such a column
abbrev pub FitsIfThere : ℕ → Option Col → Type 0
FitsIfThere width None = Unit {0}
FitsIfThere width (Some c) = Fits width c
