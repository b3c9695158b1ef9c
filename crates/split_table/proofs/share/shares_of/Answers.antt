use Rattle.std.proofs.Common.{◌≡◌, ℕ, length, map, ap, ◌∙◌, sym, arith}
use Rattle.hot_units.specs.Numbers.{numbers_below}
use Rattle.work_split.specs.Splits.{pieces_of, ranks_of}
use Rattle.split_table.specs.Table.{share_of}
use Rattle.split_table.proofs.Parts.{items-next, items-none, share, share-is}
use Rattle.split_table.proofs.share.shares_of.Goals as goal

-- at first there is the share of no rank
pub loop-q-init : goal.loop-q-init
loop-q-init c = c.in_ok-shares.ensures.items ∙ sym (items-none (share_of c.args.set.now c.args.ranks))

-- with the share of the next rank there are those of one rank more
pub loop-q-preserved : goal.loop-q-preserved
loop-q-preserved c =
    let set = c.args.set.now in
    let ranks = c.args.ranks in
    let q = c.loop-q.q in
    let pieces = c.args.pieces.now in
    let same : pieces ≡ pieces_of set (ranks_of pieces) = c.requires.split.pieces_are ∙ ap (pieces_of set) (sym c.requires.split.ranks_are) in
    let one = share-is set ranks q pieces c.bodies_of.result.now c.weight.result c.len.result c.args.lists.now c.index-lists-q.result c.loop-q-test.true c.requires.split.ranks_are
    c.bodies_of.ensures.value (c.weight.ensures.piece set same) c.requires.lists c.index-lists-q.is c.len.ensures.length in
    items-next (share_of set ranks) q (share q (length c.bodies_of.result.now) c.weight.result c.len.result) c.loop-q.shares.items c.push.new.self.items c.in_ok-push.ensures.items c.loop-q.invariant one

-- the shares are those of all ranks
pub returns : goal.returns
returns c =
    let all : c.loop-q.q ≡ c.args.ranks = omega arith in
    record { value = c.loop-q.invariant ∙ ap (λ (n : ℕ). map (share_of c.args.set.now c.args.ranks) (numbers_below n)) all }
