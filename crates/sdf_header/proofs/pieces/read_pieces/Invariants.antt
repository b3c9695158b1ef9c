use Rattle.std.proofs.Common.{◌≡◌, ◌++◌, drop}
use Rattle.sdf_header.specs.Verdict.{verdict}
use Rattle.sdf_header.specs.Reading.{joined}
use Rattle.sdf_header.proofs.pieces.read_pieces.Given as goal

abbrev pub invariant-loop-piece : goal.invariant-loop-piece
invariant-loop-piece l = verdict (l.reader ++ joined (drop l.piece-index l.pieces)) ≡ verdict (joined l.pieces)
