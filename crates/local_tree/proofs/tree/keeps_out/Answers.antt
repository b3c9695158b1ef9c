use Rattle.std.proofs.Common.{arith}
use Rattle.morton_key.specs.Ranges.{IsBodyKey}
use Rattle.local_tree.proofs.tree.keeps_out.Goals as goal

pub covers-requires-clause-key : goal.covers-requires-clause-key
covers-requires-clause-key c =
    let h : IsBodyKey c.in-Some.key = rw c.in-Some.is at c.requires.neighbour in
    (21, omega arith, h)
