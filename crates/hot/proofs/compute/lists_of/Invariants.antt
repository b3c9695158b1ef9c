use Rattle.std.proofs.Common.{◌≡◌, ◌++◌, map}
use Rattle.hot.proofs.compute.lists_of.Given as goal

-- the lists are those of the accumulators so far
abbrev pub invariant-accs : goal.invariant-accs
invariant-accs l = record {
  all : l.yielded ++ l.acc-iterator.rest.items ≡ l.fn.accs.items;
  lists : map (λ rows. rows.items) l.lists.items ≡ map (λ a. a.rows) l.yielded;
}
