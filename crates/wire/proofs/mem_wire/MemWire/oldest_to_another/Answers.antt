use Rattle.std.proofs.Common.{rules, tests, sym}
use Rattle.std.proofs.lemmas.Iterator.Search.{position_from_yields_List}
use Rattle.std.proofs.lemmas.Iterator.Consumers.{YieldsList-from_deque}
use Rattle.wire.specs.declared.mem_wire.Waiting.{Waiting}
use Rattle.wire.specs.Starving.{is_to_another}
use Rattle.wire.proofs.Lists.{position-map}
use Rattle.wire.proofs.mem_wire.MemWire.oldest_to_another.Goals as goal

-- the place is that of the oldest pending letter to another rank, where there is one
pub returns : goal.returns
returns c =
    rw (sym c.self.view_is) (rw (position-map (is_to_another c.args.rank) (λ (h : Waiting). h.letter) c.self.inside.waiting.items) (record {
      place = position_from_yields_List (λ (h : Waiting). is_to_another c.args.rank h.letter) _ _ c.position.result c.position.ensures.ran (YieldsList-from_deque _ c.iter.ensures.rest) (λ x b q k. search (rules, tests));
    }))
