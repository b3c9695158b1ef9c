use Rattle.std.proofs.Common.{◌≡◌, map, string_bytes}
use Rattle.hot.proofs.start.words_behind_name.Given as goal

-- the words are the texts of the arguments so far
abbrev pub invariant-words : goal.invariant-words
invariant-words l = l.words ≡ map string_bytes l.yielded
