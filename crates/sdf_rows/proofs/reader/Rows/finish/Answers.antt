use Rattle.std.proofs.Common.{ℕ, ◌+◌, Ok, Err, ap, sym, ◌∙◌, arith}
use Rattle.sdf_rows.specs.declared.raw_row.RowFault.TheVariants.{Truncated}
use Rattle.sdf_rows.specs.Rows.{row_number}
use Rattle.sdf_rows.specs.Reading.{RowsValue}
use Rattle.sdf_rows.proofs.Ends.{ends_full, ends_counted}
use Rattle.sdf_rows.proofs.reader.Rows.finish.Goals as goal

-- all stated rows and no byte more end well
pub returns-then-is_full : goal.returns-then-is_full
returns-then-is_full c = record {
  ending = λ bytes is.
      let full = sym (c.is_full.ensures bytes is) ∙ c.if-is_full.true in
      let width = ap (λ (v : RowsValue). v.layout.width) c.self.view_is in
      let within = sym (ap (λ (v : RowsValue). v.beyond) (c.self.view_is ∙ is)) ∙ c.if-self.false in
      ap (λ (v : RowsValue). Ok v.given) (c.self.view_is ∙ is)
      ∙ sym (ends_full c.args.self.now.layout c.args.self.now.first bytes (omega (arith, width, c.self.invariant.0.some_bytes)) full within);
}

-- where a stated row lacks, the next row is cut short
pub returns-then-is_counted : goal.returns-then-is_counted
returns-then-is_counted c = record {
  ending = λ bytes is.
      let lacks = sym (c.is_full.ensures bytes is) ∙ c.if-is_full.false in
      let width = ap (λ (v : RowsValue). v.layout.width) c.self.view_is in
      let counted = sym c.is_counted.ensures ∙ c.if-is_counted.true in
      ap (λ (n : ℕ). Err (Truncated n)) c.number.ensures
      ∙ ap (λ (v : RowsValue). Err (Truncated (row_number (v.first + v.given)))) is
      ∙ sym (ends_counted c.args.self.now.layout c.args.self.now.first bytes (omega (arith, width, c.self.invariant.0.some_bytes)) counted lacks);
}
