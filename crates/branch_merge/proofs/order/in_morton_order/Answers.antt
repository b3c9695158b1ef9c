use Rattle.std.proofs.Common.{◌≡◌, rules, ltb}
use Rattle.std.specs.Ordering.{is_lt}
use Rattle.std.proofs.lemmas.Fn.{always_returns_same}
use Rattle.std.proofs.lemmas.List.Sorted.{IsStrictWeakOrder-by_number}
use Rattle.branch_merge.specs.Merged.{first_of}
use Rattle.branch_merge.proofs.Gathering.{order_from_sort}
use Rattle.branch_merge.proofs.order.in_morton_order.Goals as goal

pub returns-clause-order : goal.returns-clause-order
returns-clause-order c =
    order_from_sort c.sort_unstable_by.new.self.items
    (c.sort_unstable_by.ensures.sorted (λ x y. ltb (first_of x) (first_of y)) (IsStrictWeakOrder-by_number first_of) (always_returns_same _ (λ a r. is_lt r ≡ ltb (first_of a.0.now) (first_of a.1.0.now)) _ (λ a r q k. search rules)))
