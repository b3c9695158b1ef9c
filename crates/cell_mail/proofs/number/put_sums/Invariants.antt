use Rattle.std.proofs.Common.{◌≡◌, ◌++◌, take}
use Rattle.std.specs.List.{flat_map}
use Rattle.cell_mail.specs.Spelling.{number}
use Rattle.cell_mail.proofs.number.put_sums.Given as goal

abbrev pub invariant-loop-sum : goal.invariant-loop-sum
invariant-loop-sum l = l.out.items ≡ l.fn.out.items ++ flat_map (number 16) (take l.sum-index l.sums)
