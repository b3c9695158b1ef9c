-- The header of a file of generated bodies.
use Rattle.std.specs.Prelude.{◌≡◌, ℕ, List, [], ◌∷◌, ◌++◌, length, Some, None, Ok, pos, codes}
use Rattle.std.specs.Fmt.{decimal}
use Rattle.sdf_header.specs.declared.kind.Whole.TheVariants.{I32}
use Rattle.sdf_header.specs.declared.layout.Order.TheVariants.{Least}
use Rattle.sdf_header.specs.Layouts.{LayoutValue}
use Rattle.sdf_header.specs.Verdict.{verdict}

-- lines, each with its newline
abbrev pub text_of : List (List ℕ) → List ℕ
text_of [] = []
text_of (line ∷ lines) = line ++ 10 ∷ text_of lines

-- the header that is written before so many generated bodies
abbrev pub generated_header : ℕ → List ℕ
generated_header n = text_of (
    codes "# SDF" ∷ codes "parameter byteorder = 0x78563412;" ∷ codes "int cube_bits = 21;" ∷ codes "struct {"
    ∷ codes "  int32_t x, y, z;" ∷ (codes "}[" ++ decimal n ++ codes "];") ∷ codes "# SDF-EOH" ∷ [])

-- rows of three numbers of 4 bytes, least significant byte first, in a cube of 21 bits from 0 on
abbrev pub generated_layout : ℕ → LayoutValue
generated_layout n = record {
  header_len = length (generated_header n);
  width = 12;
  count = Some n;
  order = Least;
  cube = record { bits = 21; x0 = pos 0; y0 = pos 0; z0 = pos 0 };
  mass_default = 1;
  x = record { kind = I32; offset = 0 };
  y = record { kind = I32; offset = 4 };
  z = record { kind = I32; offset = 8 };
  mass = None;
  ident = None;
  work = None;
  vx = None;
  vy = None;
  vz = None;
}

-- whatever rows follow, this header has this layout
abbrev pub GeneratedHeaderReads : ℕ → Type 0
GeneratedHeaderReads n = (rows : List ℕ) → verdict (generated_header n ++ rows) ≡ Ok (generated_layout n)
