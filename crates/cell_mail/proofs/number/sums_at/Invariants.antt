use Rattle.std.proofs.Common.{◌≡◌, ◌-◌, length, take}
use Rattle.cell_mail.specs.Reading.{number_at, many}
use Rattle.cell_mail.proofs.Loop.{with_front}
use Rattle.cell_mail.proofs.number.sums_at.Given as goal

abbrev pub invariant-loop-i : goal.invariant-loop-i
invariant-loop-i l = record {
  sized : length l.sums ≡ 9;
  so_far : with_front (take l.i l.sums) (many (number_at 16) (9 - l.i) l.rest) ≡ many (number_at 16) 9 l.bytes;
}
