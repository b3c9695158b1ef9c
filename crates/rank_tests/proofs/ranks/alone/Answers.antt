use Rattle.std.proofs.Common.{List, [], ◌∷◌, None, sym, ap, ◌∙◌, subst}
use Rattle.hot_units.specs.Values.{BodyValue}
use Rattle.rank_tests.specs.Worlds.{one, near}
use Rattle.rank_core.specs.Standing.{IsHere}
use Rattle.rank_tests.proofs.Worlds.{here_alone}
use Rattle.rank_tests.proofs.ranks.alone.Goals as goal

pub new-requires-clause-fits : goal.new-requires-clause-fits
new-requires-clause-fits g c κs within =
    let e = ap (λ (b : BodyValue). b ∷ c.body-2.result ∷ []) c.body.ensures.value ∙ ap (λ (b : BodyValue). near ∷ b ∷ []) c.body-2.ensures.value in
    (one, subst (λ (xs : List BodyValue). IsHere one 0 1 xs None None 8) (sym e) here_alone)

pub step-requires-clause-fits : goal.step-requires-clause-fits
step-requires-clause-fits g c κs within =
    let e = ap (λ (b : BodyValue). b ∷ c.body-2.result ∷ []) c.body.ensures.value ∙ ap (λ (b : BodyValue). near ∷ b ∷ []) c.body-2.ensures.value in
    let stands = rw c.expect-rank.ensures at c.new.ensures.stands in
    (one, stands one (subst (λ (xs : List BodyValue). IsHere one 0 1 xs None None 8) (sym e) here_alone))
