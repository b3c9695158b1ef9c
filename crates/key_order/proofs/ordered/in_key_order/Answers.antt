use Rattle.std.proofs.Common.{◌≡◌, rules, refl}
use Rattle.std.specs.Ordering.{is_lt}
use Rattle.std.proofs.lemmas.Fn.{always_returns_same}
use Rattle.hot_units.specs.Order.{IsInOrder, before}
use Rattle.hot_units.proofs.Bodies.{before_orders}
use Rattle.key_order.proofs.Sortings.{sorted_is_ordered, one_each, ordered_set}
use Rattle.key_order.proofs.ordered.in_key_order.Goals as goal

-- the sorted bodies with idents and weights are an ordered set
pub invariant_of-result : goal.invariant_of-result
invariant_of-result c =
    let up : IsInOrder c.sort_unstable_by.new.self.items = c.sort_unstable_by.ensures.sorted before before_orders (always_returns_same _ (λ a r. is_lt r ≡ before a.0.now a.1.0.now) _ (λ a r q k. search rules)) in
    ordered_set c.args.bodies.items c.sort_unstable_by.new.self.items c.args.idents.items c.args.weights.items c.requires.set c.sort_unstable_by.ensures.permutation up

-- the sorted bodies are the ordered list of the bodies
pub returns : goal.returns
returns c =
    let up : IsInOrder c.sort_unstable_by.new.self.items = c.sort_unstable_by.ensures.sorted before before_orders (always_returns_same _ (λ a r. is_lt r ≡ before a.0.now a.1.0.now) _ (λ a r q k. search rules)) in
    let e = sorted_is_ordered c.args.bodies.items c.sort_unstable_by.new.self.items (one_each c.args.bodies.items c.requires.set.rows) c.sort_unstable_by.ensures.permutation up in
    record { ordered = rw e refl }
