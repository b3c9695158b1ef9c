use Rattle.std.proofs.Common.{List, [], ◌∷◌, Some, None, sym, ap, subst}
use Rattle.hot_units.specs.Values.{BodyValue}
use Rattle.rank_tests.specs.Worlds.{two}
use Rattle.rank_core.specs.Standing.{IsHere}
use Rattle.rank_tests.proofs.Worlds.{here_second}
use Rattle.rank_tests.proofs.samples.second.Goals as goal

pub new-requires-clause-fits : goal.new-requires-clause-fits
new-requires-clause-fits g c κs within =
    (two, subst (λ (xs : List BodyValue). IsHere two 1 2 xs (Some 9223372036854775808) None 8) (sym (ap (λ (b : BodyValue). b ∷ []) c.body.ensures.value)) here_second)

pub returns-clause-stands : goal.returns-clause-stands
returns-clause-stands g c =
    let stands = rw c.expect.ensures at c.new.ensures.stands in
    stands two (subst (λ (xs : List BodyValue). IsHere two 1 2 xs (Some 9223372036854775808) None 8) (sym (ap (λ (b : BodyValue). b ∷ []) c.body.ensures.value)) here_second)
