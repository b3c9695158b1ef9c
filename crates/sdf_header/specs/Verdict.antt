-- The verdict of a header: its layout, or the fault that refuses it.
use Rattle.std.specs.Prelude.{◌≡◌, ℕ, ◌-◌, not, ◌&&◌, List, [], ◌∷◌, length, take, Option, Some, None, Result, Ok, Err, ℤ, pos, negsuc, nat_le, nat_lt, ◌==◌, if◌then◌else◌, codes}
use Rattle.std.specs.Str.{bytes_eq}
use Rattle.hot_units.specs.Limits.{fine_bits, max_bodies, max_body_mass}
use Rattle.hot_units.specs.Values.{CubeValue}
use Rattle.sdf_header.specs.declared.header_fault.HeaderFault.{HeaderFault}
use Rattle.sdf_header.specs.declared.header_fault.HeaderFault.TheVariants as faults
use Rattle.sdf_header.specs.declared.header_fault.ColName.{ColName}
use Rattle.sdf_header.specs.declared.header_fault.ColName.TheVariants as columns
use Rattle.sdf_header.specs.declared.header_fault.ParamName.{ParamName}
use Rattle.sdf_header.specs.declared.header_fault.ParamName.TheVariants as names
use Rattle.sdf_tokens.specs.declared.fault.Fault.{Fault}
use Rattle.sdf_tokens.specs.declared.fault.FaultKind.{FaultKind}
use Rattle.sdf_tokens.specs.declared.fault.FaultKind.TheVariants as parse
use Rattle.sdf_header.specs.declared.kind.Kind.{Kind}
use Rattle.sdf_header.specs.declared.kind.Kind.TheVariants as kinds
use Rattle.sdf_header.specs.declared.document.Value.{Value}
use Rattle.sdf_header.specs.declared.document.Value.TheVariants as values
use Rattle.sdf_header.specs.declared.layout.Order.{Order}
use Rattle.sdf_header.specs.declared.layout.Order.TheVariants.{Least, Most}
use Rattle.sdf_header.specs.declared.layout.Col.{Col}
use Rattle.sdf_header.specs.declared.layout.HeaderError.{HeaderError}
use Rattle.sdf_header.specs.declared.layout.HeaderError.TheVariants as errors
use Rattle.sdf_header.specs.Layouts.{LayoutValue}
use Rattle.sdf_header.specs.Parts.{Names}
use Rattle.sdf_header.specs.Fields.{Field}
use Rattle.sdf_header.specs.Statements.{Header, header_in}
use Rattle.sdf_header.specs.Extent.{Extent, Faulty, Ends, Open, extent}

-- what a check gives is handed to the next check, and a fault ends them
infixl 10 ◌>>=◌
abbrev pub ◌>>=◌ : {A B : Type 0} → Result A HeaderFault → (A → Result B HeaderFault) → Result B HeaderFault
(Ok x) >>= f = f x
(Err e) >>= f = Err e

-- ---- what a function returned

-- it failed for want of memory, or with the fault that is read here
abbrev pub Fails : {Y : Type 0} → HeaderError → Result Y HeaderFault → Type 0
Fails errors.Memory read = Unit {0}
Fails (errors.Fault f) read = read ≡ Err f

-- it is what is read here, unless memory ran out
abbrev pub Gives : {Y : Type 0} → Result Y HeaderError → Result Y HeaderFault → Type 0
Gives (Ok x) read = read ≡ Ok x
Gives (Err e) read = Fails e read

-- ---- faults of the text

-- a fault of the text, by its kind
abbrev pub at_place : FaultKind → ℕ → HeaderFault
at_place parse.Syntax place = faults.Syntax place
at_place parse.UnknownType place = faults.UnknownType place
at_place parse.NameTwice place = faults.NameTwice place
at_place parse.SecondStruct place = faults.SecondStruct place
at_place parse.TooWide place = faults.TooWide place

-- the place of a fault is the length of the text without what is left from the fault on
abbrev pub placed : {A : Type 0} → ℕ → Result A Fault → Result A HeaderFault
placed size (Ok x) = Ok x
placed size (Err f) = Err (at_place f.kind (size - f.left))

-- ---- columns

-- the kind and the offset of the field of this name that is no array
abbrev pub column : List ℕ → List Field → Option (Kind × ℕ)
column name [] = None
column name (f ∷ fs) = if bytes_eq f.name name && not f.is_array then Some (f.kind, f.offset) else column name fs

-- the column, if its type is whole
abbrev pub whole : Kind → ℕ → Option Col
whole (kinds.Whole w) offset = Some (record { kind = w; offset = offset })
whole kinds.Char offset = None
whole kinds.Float offset = None
whole kinds.Double offset = None

-- the column, if it is there and whole
abbrev pub whole_column : Option (Kind × ℕ) → Option Col
whole_column None = None
whole_column (Some c) = whole c.0 c.1

-- what is there, or else this fault
abbrev pub or_fault : {A : Type 0} → HeaderFault → Option A → Result A HeaderFault
or_fault f None = Err f
or_fault f (Some x) = Ok x

-- the columns x, y and z: all are there, and then all are whole
unfoldable pub axes_of : List Field → Result (Col × Col × Col) HeaderFault
axes_of fields = do
  x ← or_fault (faults.Missing columns.X) (column (codes "x") fields)
  y ← or_fault (faults.Missing columns.Y) (column (codes "y") fields)
  z ← or_fault (faults.Missing columns.Z) (column (codes "z") fields)
  x ← or_fault (faults.NotWhole columns.X) (whole x.0 x.1)
  y ← or_fault (faults.NotWhole columns.Y) (whole y.0 y.1)
  z ← or_fault (faults.NotWhole columns.Z) (whole z.0 z.1)
  Ok (x, y, z)

-- a column that may be absent, and is whole
unfoldable pub optional_of : ColName → Option (Kind × ℕ) → Result (Option Col) HeaderFault
optional_of name None = Ok None
optional_of name (Some c) = or_fault (faults.NotWhole name) (whole c.0 c.1) >>= λ col. Ok (Some col)

-- ---- parameters: each takes what its name was given

-- this parameter is bad
abbrev pub bad : {A : Type 0} → ParamName → Result A HeaderFault
bad name = Err (faults.BadParameter name)

-- the mark of least significant byte first, which is the default, or of most significant byte first
unfoldable pub order_of : Option Value → Result Order HeaderFault
order_of None = Ok Least
order_of (Some values.Other) = bad names.ByteOrder
order_of (Some (values.Whole (negsuc n))) = bad names.ByteOrder
order_of (Some (values.Whole (pos n))) =
    if n == 0x78563412 then Ok Least else if n == 0x12345678 then Ok Most else bad names.ByteOrder

-- a whole number, or 0
unfoldable pub whole_param : ParamName → Option Value → Result ℤ HeaderFault
whole_param name None = Ok (pos 0)
whole_param name (Some values.Other) = bad name
whole_param name (Some (values.Whole v)) = Ok v

-- a whole number of 1 to a limit, or the default
unfoldable pub small_param : ParamName → ℕ → ℕ → Option Value → Result ℕ HeaderFault
small_param name limit default None = Ok default
small_param name limit default (Some values.Other) = bad name
small_param name limit default (Some (values.Whole (negsuc n))) = bad name
small_param name limit default (Some (values.Whole (pos n))) = if nat_le 1 n && nat_le n limit then Ok n else bad name

-- the cube, from four parameters in their order
unfoldable pub cube_of : Names → Result CubeValue HeaderFault
cube_of given = do
  bits ← small_param names.CubeBits fine_bits 21 (given (codes "cube_bits"))
  x0 ← whole_param names.CubeX0 (given (codes "cube_x0"))
  y0 ← whole_param names.CubeY0 (given (codes "cube_y0"))
  z0 ← whole_param names.CubeZ0 (given (codes "cube_z0"))
  Ok (record { bits = bits; x0 = x0; y0 = y0; z0 = z0 })

-- the parameter counts only where no column gives the mass
unfoldable pub mass_of : Option Col → Option Value → Result ℕ HeaderFault
mass_of (Some c) given = Ok 1
mass_of None given = small_param names.Mass max_body_mass 1 given

-- the stated number of rows, if there is one
unfoldable pub count_of : Option ℕ → Result (Option ℕ) HeaderFault
count_of None = Ok None
count_of (Some n) = if nat_lt max_bodies n then Err (faults.TooMany n) else Ok (Some n)

-- ---- the layout

-- a struct; columns; parameters; the number of rows: the first that is bad refuses the header
unfoldable pub layout_of : ℕ → Header → Result LayoutValue HeaderFault
layout_of len h = do
  t ← or_fault faults.NoStruct h.table
  let fields = t.row.fields
  axes ← axes_of fields
  mass ← optional_of columns.Mass (column (codes "mass") fields)
  ident ← optional_of columns.Ident (column (codes "ident") fields)
  work ← optional_of columns.Work (column (codes "work") fields)
  order ← order_of (h.given (codes "byteorder"))
  cube ← cube_of h.given
  mass_default ← mass_of mass (h.given (codes "mass"))
  count ← count_of t.size
  Ok (record {
    header_len = len;
    width = t.row.width;
    count = count;
    order = order;
    cube = cube;
    mass_default = mass_default;
    x = axes.0;
    y = axes.1;
    z = axes.2;
    mass = mass;
    ident = ident;
    work = work;
    vx = whole_column (column (codes "vx") fields);
    vy = whole_column (column (codes "vy") fields);
    vz = whole_column (column (codes "vz") fields);
  })

-- the layout that a text gives, the header's length being this
unfoldable pub judged : ℕ → List ℕ → Result LayoutValue HeaderFault
judged len text = placed (length text) (header_in text) >>= layout_of len

-- the fault of so many bytes that neither decide nor end a header
abbrev pub unended : ℕ → HeaderFault
unended n = if nat_lt n 5 then faults.NoMagic else faults.NoEnd

-- the verdict that follows from where the header ends
abbrev pub verdict_from : List ℕ → Extent → Result LayoutValue HeaderFault
verdict_from bytes (Faulty f) = Err f
verdict_from bytes Open = Err (unended (length bytes))
verdict_from bytes (Ends text len) = judged len (take text bytes)

-- the layout that an input begins with, or its fault
unfoldable pub verdict : List ℕ → Result LayoutValue HeaderFault
verdict bytes = verdict_from bytes (extent bytes)
