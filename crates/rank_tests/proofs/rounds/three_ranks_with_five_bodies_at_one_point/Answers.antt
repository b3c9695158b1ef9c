use Rattle.std.proofs.Common.{◌≡◌, [], ◌∷◌, rules, refl}
use Rattle.rank_tests.specs.Worlds.{five}
use Rattle.rank_tests.proofs.Worlds.{five_good}
use Rattle.rank_tests.proofs.Couples.{three_new, three_together}
use Rattle.rank_tests.proofs.rounds.three_ranks_with_five_bodies_at_one_point.Goals as goal

-- there are a visit and a good world for which the three ranks are together
pub run-requires-clause-together : goal.run-requires-clause-together
run-requires-clause-together c κs within =
    let e : κs.push-3.new.self.items ≡ κs.crowded.result ∷ κs.empty.result ∷ κs.empty-2.result ∷ [] = search rules in
    (κs.gravity-visit.result, five, three_together _ κs.gravity-visit.result five κs.crowded.result κs.empty.result κs.empty-2.result κs.push-3.new.self.items e five_good refl κs.crowded.ensures.stands κs.empty.ensures.stands κs.empty-2.ensures.stands κs.crowded.ensures.visit κs.empty.ensures.visit κs.empty-2.ensures.visit)

-- the three ranks are new
pub run-requires-clause-new : goal.run-requires-clause-new
run-requires-clause-new c κs within =
    let e : κs.push-3.new.self.items ≡ κs.crowded.result ∷ κs.empty.result ∷ κs.empty-2.result ∷ [] = search rules in
    three_new κs.crowded.result κs.empty.result κs.empty-2.result κs.push-3.new.self.items e κs.crowded.ensures.new κs.empty.ensures.new κs.empty-2.ensures.new
