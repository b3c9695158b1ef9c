use Rattle.std.proofs.Common.{◌≡◌, ℕ, List, length, map}
use Rattle.body_file.specs.Reading.{AreRead}
use Rattle.body_file.proofs.files.read_bodies.Given as goal

-- the files counted so far were read, one after another
abbrev pub invariant-files : goal.invariant-files
invariant-files g l = record {
  counted : l.count ≡ l.name-index;
  read : (whole : List (List ℕ)) × (length whole ≡ l.count) × AreRead g.S.Source (map (λ name. name.now) l.fn.names) whole l.fn.source l.source l.set;
}
