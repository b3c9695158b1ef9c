use Rattle.std.proofs.Common.{◌≡◌, ◌++◌, length}
use Rattle.rank_model.specs.World.{World}
use Rattle.rank_core.specs.Standing.{StandsIn, meant_by}
use Rattle.protocol.specs.Ranks.{Together}
use Rattle.rank_set.specs.Efforts.{AreFindsTo}
use Rattle.rank_set.proofs.found.gather.Given as goal

-- what was found is what the ranks so far find, in each world for which all stand together
abbrev pub invariant-loop-rank : goal.invariant-loop-rank
invariant-loop-rank g l = record {
  all : l.yielded ++ l.rank-iterator.rest.items ≡ l.fn.ranks.items;
  finds : (v : _) (w : World) → Together (StandsIn g.V.Visit g.V.Acc.Seen) v w l.fn.ranks.items → AreFindsTo (meant_by g.V.Visit g.V.Acc.Seen v) w (length l.yielded) l.found.accs.items l.found.efforts.items l.found.opened.items;
  rounds : l.found.rounds ≡ l.fn.rounds;
}
