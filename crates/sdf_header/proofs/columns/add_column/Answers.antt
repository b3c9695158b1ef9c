use Rattle.std.proofs.Common.{◌≡◌, ℕ, ◌≤◌, ◌+◌, ◌*◌, List, [], ◌∷◌, ◌++◌, Ok, sym, ap, ◌∙◌, arith, rules}
use Rattle.std.proofs.lemmas.List.{map-append}
use Rattle.std.proofs.lemmas.Nat.{mul-le}
use Rattle.std.proofs.Math.Nat.{le-mul_of_pos_right}
use Rattle.sdf_header.specs.Limits.{max_array_length}
use Rattle.sdf_header.specs.declared.document.Column.{Column}
use Rattle.sdf_header.specs.Types.{bytes_of}
use Rattle.sdf_header.specs.Parts.{name_of}
use Rattle.sdf_header.specs.Fields.{Field, field_of, fields_of, row_of, with_field}
use Rattle.sdf_header.proofs.Wider.{lie_in_wider, with_one_more}
use Rattle.sdf_header.proofs.columns.add_column.Goals as goal

pub overflow_mul-width : goal.overflow_mul-width
overflow_mul-width c = omega (arith, mul-le c.bytes_of.result c.args.count 8 max_array_length c.bytes_of.ensures.bound c.requires.bound)

pub overflow_add-width : goal.overflow_add-width
overflow_add-width c = omega (arith, mul-le c.bytes_of.result c.args.count 8 max_array_length c.bytes_of.ensures.bound c.requires.bound)

pub returns-then-width-gt-MAX_ROW_BYTES : goal.returns-then-width-gt-MAX_ROW_BYTES
unfolding with_field
returns-then-width-gt-MAX_ROW_BYTES c = search rules

pub invariant_of-columns-2 : goal.invariant_of-columns-2
invariant_of-columns-2 c =
    let one : c.bytes_of.result ≤ c.bytes_of.result * c.args.count = le-mul_of_pos_right c.bytes_of.result c.requires.some in
    record {
      narrow = omega arith;
      inside = rw c.in_ok-push.ensures.items (lie_in_wider c.args.columns.now.list.items _ c.args.columns.now.width _ (omega arith) c.args.columns.now.inside (omega arith));
    }

pub returns : goal.returns
returns c =
    let old = c.args.columns.now in
    let wide = old.width + c.bytes_of.result * c.args.count in
    let column : Column = record { name = c.args.n.name; kind = c.args.kind; offset = old.width; is_array = c.args.is_array } in
    let grown : fields_of c.push.new.self.items ≡ fields_of old.list.items ++ fields_of (column ∷ []) = ap fields_of c.in_ok-push.ensures.items ∙ map-append field_of old.list.items (column ∷ []) in
    let same : old.width + bytes_of c.args.kind * c.args.count ≡ wide = ap (λ (b : ℕ). old.width + b * c.args.count) (sym c.bytes_of.ensures.value) in
    with_one_more (row_of old) c.args.kind (name_of c.args.n) c.args.count c.args.is_array wide same (omega arith) ∙ ap (λ (fs : List Field). Ok (record { fields = fs; width = wide })) (sym grown)
