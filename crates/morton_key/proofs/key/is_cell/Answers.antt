use Rattle.std.proofs.lemmas.Bool.{eq-eqb, eqb-true}
use Rattle.morton_key.proofs.Numbers.{cell_of_top, top_of_cell}
use Rattle.morton_key.proofs.key.is_cell.Goals as goal

-- of a number above 0 the test holds exactly where it is a cell key
pub returns-then-key-ne0 : goal.returns-then-key-ne0
returns-then-key-ne0 c =
    let key = c.args.key in
    let top = c.ilog2.result in
    let low = c.ilog2.ensures.power_le in
    let high = c.ilog2.ensures.next_power_gt in
    record {
      value = (λ t. cell_of_top key top c.ilog2.ensures.bound low high (eqb-true _ _ t), λ i. eq-eqb _ _ (top_of_cell key top i low high));
    }
