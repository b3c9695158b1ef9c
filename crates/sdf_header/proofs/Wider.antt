-- The columns of a row, one at a time.
use Rattle.std.proofs.Common.{◌≡◌, ℕ, ◌+◌, ◌*◌, ◌≤◌, Bool, false, List, [], ◌∷◌, ◌++◌, Ok, ap, arith}
use Rattle.std.specs.Prelude.{nat_lt}
use Rattle.std.specs.List.{All}
use Rattle.std.proofs.lemmas.List.Elements.{All-push, All-weaker}
use Rattle.std.proofs.lemmas.Bool.{le-ltb}
use Rattle.hot_units.specs.Limits.{max_row_bytes}
use Rattle.sdf_header.specs.declared.kind.Kind.{Kind}
use Rattle.sdf_header.specs.declared.kind.Whole.{Whole}
use Rattle.sdf_header.specs.declared.kind.Whole.TheVariants as wholes
use Rattle.sdf_header.specs.declared.layout.Col.{Col}
use Rattle.sdf_header.specs.Types.{LiesIn, Fits, whole_bytes, bytes_of}
use Rattle.sdf_header.specs.Parts.{Name}
use Rattle.sdf_header.specs.Fields.{Row, with_field}
use Rattle.sdf_header.specs.declared.document.Column as declared_column

-- one more column that ends with the row lies in it, as those before it do
pub lie_in_wider : (cs : List declared_column.Column) (c : declared_column.Column) (narrow wide : ℕ) → narrow ≤ wide → All (LiesIn narrow) cs → LiesIn wide c → All (LiesIn wide) (cs ++ c ∷ [])
lie_in_wider cs c narrow wide le all last = All-push (LiesIn wide) cs c (All-weaker (LiesIn narrow) (LiesIn wide) (λ x lies. omega arith) cs all) last

-- the row with one more column, where that leaves it narrow enough
pub with_one_more : (row : Row) (kind : Kind) (n : Name) (count : ℕ) (is_array : Bool) (wide : ℕ) → row.width + bytes_of kind * count ≡ wide → wide ≤ max_row_bytes
    → with_field row kind n count is_array ≡ Ok (record { fields = row.fields ++ record { name = n.name; kind = kind; offset = row.width; is_array = is_array } ∷ []; width = wide })
unfolding with_field
with_one_more row kind n count is_array wide e le =
    let test : nat_lt max_row_bytes (row.width + bytes_of kind * count) ≡ false = le-ltb max_row_bytes (row.width + bytes_of kind * count) (omega arith) in
    rw test (ap (λ (w : ℕ). Ok (record { fields = row.fields ++ record { name = n.name; kind = kind; offset = row.width; is_array = is_array } ∷ []; width = w })) e)

-- a whole number takes a byte or more
whole_some : (w : Whole) → 1 ≤ whole_bytes w
whole_some wholes.I8 = omega arith
whole_some wholes.U8 = omega arith
whole_some wholes.I16 = omega arith
whole_some wholes.U16 = omega arith
whole_some wholes.I32 = omega arith
whole_some wholes.U32 = omega arith
whole_some wholes.I64 = omega arith
whole_some wholes.U64 = omega arith

-- a row in which a column lies has a byte or more
pub some_row : (width : ℕ) (c : Col) → Fits width c → 1 ≤ width
some_row width c fits = omega (arith, whole_some c.kind)
