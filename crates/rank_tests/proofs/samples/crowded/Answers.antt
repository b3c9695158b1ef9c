use Rattle.std.proofs.Common.{◌≡◌, List, [], ◌∷◌, None, sym, subst}
use Rattle.hot_units.specs.Values.{BodyValue}
use Rattle.rank_tests.specs.Worlds.{crowd, five}
use Rattle.rank_core.specs.Standing.{IsHere}
use Rattle.rank_tests.proofs.Worlds.{here_crowd}
use Rattle.rank_tests.proofs.samples.crowded.Goals as goal

pub new-requires-clause-fits : goal.new-requires-clause-fits
new-requires-clause-fits g c κs within =
    let e : (c.at_point.result ∷ c.at_point-2.result ∷ c.at_point-3.result ∷ c.at_point-4.result ∷ c.at_point-5.result ∷ []) ≡ crowd = cc in
    (five, subst (λ (xs : List BodyValue). IsHere five 0 3 xs None None 8) (sym e) here_crowd)

pub returns-clause-stands : goal.returns-clause-stands
returns-clause-stands g c =
    let e : (c.at_point.result ∷ c.at_point-2.result ∷ c.at_point-3.result ∷ c.at_point-4.result ∷ c.at_point-5.result ∷ []) ≡ crowd = cc in
    let stands = rw c.expect.ensures at c.new.ensures.stands in
    stands five (subst (λ (xs : List BodyValue). IsHere five 0 3 xs None None 8) (sym e) here_crowd)
