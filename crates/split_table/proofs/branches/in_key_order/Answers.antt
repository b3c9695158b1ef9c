use Rattle.std.proofs.Common.{◌≡◌, ltb, rules}
use Rattle.std.specs.Ordering.{is_lt}
use Rattle.std.proofs.lemmas.Bool.{ltb-false}
use Rattle.std.proofs.lemmas.Fn.{always_returns_same}
use Rattle.std.proofs.lemmas.List.Sorted.{sorted_far, IsStrictWeakOrder-by_number}
use Rattle.branch_merge.specs.declared.listed.Listed.{Listed}
use Rattle.split_table.proofs.branches.in_key_order.Goals as goal

-- the sorted records are the same ones, by ascending key
pub returns : goal.returns
returns c =
    let key = λ (x : Listed). x.rec.key in
    let up = c.sort_unstable_by.ensures.sorted (λ x y. ltb (key x) (key y)) (IsStrictWeakOrder-by_number key) (always_returns_same _ (λ a r. is_lt r ≡ ltb (key a.0.now) (key a.1.0.now)) _ (λ a r q k. search rules)) in
    record {
      order = record {
        same = c.sort_unstable_by.ensures.permutation;
        rising = λ i j d h l. ltb-false _ _ (sorted_far (λ x y. ltb (key x) (key y)) (IsStrictWeakOrder-by_number key) c.sort_unstable_by.new.self.items up i j d h l);
      };
    }
