use Rattle.std.proofs.Common.{◌≡◌, [], ◌∷◌, rules, refl, ◌∙◌}
use Rattle.rank_tests.specs.Worlds.{two}
use Rattle.rank_core.specs.Standing.{StandsIn}
use Rattle.rank_tests.proofs.Worlds.{here_first}
use Rattle.rank_tests.proofs.Couples.{both_new, both_together}
use Rattle.rank_tests.proofs.rounds.whole.Goals as goal

-- there are a visit and a good world for which the two ranks are together
pub run-requires-clause-together : goal.run-requires-clause-together
run-requires-clause-together g c κs within =
    let e : c.push-2.new.self.items ≡ c.first.result ∷ c.second.result ∷ [] = search rules in
    (c.args.visit, two, both_together (StandsIn g.V.Visit g.V.Acc.Seen) c.args.visit two c.first.result c.second.result c.push-2.new.self.items e here_first.good refl c.first.ensures.stands c.second.ensures.stands c.first.ensures.visit (c.second.ensures.visit ∙ c.requires.same))

-- the two ranks are new
pub run-requires-clause-new : goal.run-requires-clause-new
run-requires-clause-new g c κs within =
    let e : c.push-2.new.self.items ≡ c.first.result ∷ c.second.result ∷ [] = search rules in
    both_new c.first.result c.second.result c.push-2.new.self.items e c.first.ensures.new c.second.ensures.new
