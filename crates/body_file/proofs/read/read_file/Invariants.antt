use Rattle.std.proofs.Common.{◌≡◌, ℕ, ◌+◌, ◌-◌, List, true}
use Rattle.std.specs.Io.KnownBytes.{Consumes}
use Rattle.body_file.specs.Reading.{count_of, file_limit, HasTaken, given_to}
use Rattle.body_file.proofs.read.read_file.Given as goal

-- the source is open and has not failed, and the reader was given the bytes that it gave
abbrev pub invariant-pieces : goal.invariant-pieces
invariant-pieces g l = record {
  unfailed : g.S.Source.faults l.source ≡ 0;
  opened : g.S.Source.is_open l.source ≡ true;
  once : g.S.Source.opens l.source ≡ g.S.Source.opens l.fn.source + 1;
  files : g.S.Source.file l.source ≡ g.S.Source.file l.fn.source;
  names : g.S.Source.allows l.source ≡ g.S.Source.allows l.fn.source;
  taken : (bytes : List ℕ) × HasTaken l.fn.before l.reader bytes × Consumes (g.S.Source.file l.fn.source l.name) (g.S.Source.left l.source) bytes;
}

-- how many bytes the reader is from the limit
abbrev pub decreases-pieces : goal.decreases-pieces
decreases-pieces g l = file_limit (count_of l.fn.before) - given_to l.reader
