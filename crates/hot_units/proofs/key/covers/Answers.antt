use Rattle.std.proofs.Common.{◌≡◌, leb, true}
use Rattle.std.proofs.lemmas.Bool.{le-leb}
use Rattle.hot_units.proofs.Digits.{covers-by}
use Rattle.hot_units.proofs.key.covers.Goals as goal

-- where the cell's highest bit is at most the key's, the answer is what `covers` says
pub returns-then-upper-lower : goal.returns-then-upper-lower
returns-then-upper-lower c =
    let t : leb c.ilog2-upper.result c.ilog2-lower.result ≡ true = le-leb _ _ c.if-upper-lower.true in
    record { value = rw t at (covers-by c.args.cell c.args.key c.ilog2-upper.result c.ilog2-lower.result c.requires.cell c.requires.key c.ilog2-upper.ensures.power_le c.ilog2-upper.ensures.next_power_gt c.ilog2-lower.ensures.power_le c.ilog2-lower.ensures.next_power_gt) }
