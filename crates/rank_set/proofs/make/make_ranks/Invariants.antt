use Rattle.std.proofs.Common.{◌≡◌, ◌<◌, length}
use Rattle.rank_model.specs.World.{IsGood}
use Rattle.rank_core.specs.Standing.{StandsIn}
use Rattle.rank_set.specs.Sharings.{shared}
use Rattle.rank_set.proofs.Making.{AllMade}
use Rattle.rank_set.proofs.make.make_ranks.Given as goal

-- the ranks so far are made for the world of the set, and after one of them it is good
abbrev pub invariant-loop-q : goal.invariant-loop-q
invariant-loop-q g l = record {
  long : length l.ranks.items ≡ l.q;
  made : AllMade (StandsIn g.V.Visit g.V.Acc.Seen) l.visit (shared l.set l.sharing) l.ranks.items;
  good : 0 < l.q → IsGood (shared l.set l.sharing);
}
