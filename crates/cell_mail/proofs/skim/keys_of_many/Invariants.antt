use Rattle.std.proofs.Common.{◌≡◌, ◌-◌}
use Rattle.cell_mail.specs.Reading.{many}
use Rattle.cell_mail.proofs.Loop.{with_front}
use Rattle.cell_mail.proofs.skim.keys_of_many.Given as goal

abbrev pub invariant-loop : goal.invariant-loop
invariant-loop g l = with_front l.keys (many g.T.Skim.key_at (l.count - l.counter) l.rest) ≡ many g.T.Skim.key_at l.count l.bytes
