use Rattle.std.proofs.Common.{◌≡◌, ◌-◌, map}
use Rattle.hot_words.specs.Names.{names_at}
use Rattle.hot.proofs.names.list_names.Given as goal

-- the names are the words from the first on, as far as this place
abbrev pub invariant-names : goal.invariant-names
invariant-names l = map (λ name. name.now) l.names.items ≡ names_at l.first (l.place - l.first) l.words
