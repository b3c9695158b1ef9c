use Rattle.std.proofs.Common.{List, ap, sym, length}
use Rattle.defer_walk.specs.declared.asks.AskedCell.{AskedCell}
use Rattle.defer_walk.specs.Waiting.{all_waiting}
use Rattle.defer_walk.proofs.Placed.{empty_placed}
use Rattle.defer_walk.proofs.asks.Asks.new.Goals as goal

pub invariant_of-result : goal.invariant_of-result
invariant_of-result c = (
  empty_placed c.in_ok-new.field-0 c.new.result.items c.in_ok-new.ensures.value c.new.ensures.items,
  sym (ap (λ (cs : List AskedCell). length (all_waiting cs)) c.new.ensures.items),
)
