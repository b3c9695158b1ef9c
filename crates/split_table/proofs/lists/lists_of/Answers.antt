use Rattle.std.proofs.Common.{◌≡◌, ℕ, map, ap, ◌∙◌, sym, arith}
use Rattle.hot_units.specs.Numbers.{numbers_below}
use Rattle.rank_model.specs.Branches.{branch_records}
use Rattle.work_split.specs.Splits.{world_of}
use Rattle.split_table.proofs.Parts.{items-next, items-none}
use Rattle.split_table.proofs.lists.lists_of.Goals as goal

-- at first there is the list of no rank
pub loop-q-init : goal.loop-q-init
loop-q-init c = record {
  lists = c.in_ok-lists.ensures.items ∙ sym (items-none (branch_records (world_of c.args.set.now c.args.ranks)));
  good = λ h. absurd (omega (arith, h));
}

-- with the list of the next rank there are those of one rank more
pub loop-q-preserved : goal.loop-q-preserved
loop-q-preserved c = record {
  lists = items-next (branch_records (world_of c.args.set.now c.args.ranks)) c.loop-q.q c.in_ok-list_of.field-0 c.loop-q.lists.items c.push.new.self.items c.in_ok-push.ensures.items c.loop-q.invariant.lists c.in_ok-list_of.ensures.value;
  good = λ h. c.in_ok-list_of.ensures.good;
}

-- the lists are those of all ranks, in a good world
pub returns : goal.returns
returns c =
    let all : c.loop-q.q ≡ c.args.ranks = omega arith in
    record {
      lists = record {
        good = c.loop-q.invariant.good (omega (arith, c.requires.split.one));
        many = c.requires.split.many;
        lists_are = c.loop-q.invariant.lists ∙ ap (λ (n : ℕ). map (branch_records (world_of c.args.set.now c.args.ranks)) (numbers_below n)) all;
      };
    }
