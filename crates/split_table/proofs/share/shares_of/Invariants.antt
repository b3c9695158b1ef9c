use Rattle.std.proofs.Common.{◌≡◌, map}
use Rattle.hot_units.specs.Numbers.{numbers_below}
use Rattle.split_table.specs.Table.{share_of}
use Rattle.split_table.proofs.share.shares_of.Given as goal

-- the shares are those of the ranks so far
abbrev pub invariant-loop-q : goal.invariant-loop-q
invariant-loop-q l = l.shares.items ≡ map (share_of l.set l.ranks) (numbers_below l.q)
