use Rattle.std.proofs.Common.{◌≡◌, ◌+◌, vec_len, ap, ◌∙◌, sym, subst, arith}
use Rattle.branch_merge.specs.Listing.{CanMerge}
use Rattle.branch_merge.proofs.Merging.{true_lists_merge}
use Rattle.split_table.proofs.TopRecords.{first_records, keys_short, records-next, records-all}
use Rattle.split_table.proofs.tops.top_records.Goals as goal

-- the branch lists of the ranks of a good world can be merged
pub merge-requires : goal.merge-requires
merge-requires c =
    let w = c.requires.lists.0 in
    let l = c.requires.lists.1 in
    record { lists = subst CanMerge (sym l.lists_are) (true_lists_merge w l.good l.many) }

-- each record listed brings the most top cells nearer
pub loop-cell-smaller : goal.loop-cell-smaller
loop-cell-smaller c =
    let found = c.in-Some.ensures.cell in
    let short = keys_short c.requires.lists.0 c.args.lists.now c.in_ok-top.top found.0 c.requires.lists.1 c.in_ok-top.ensures.merged found.1 in
    omega (arith, short, found.2.0, c.len.ensures, c.in_ok-push.ensures.len)

-- with the record of the next top cell there are those of one more
pub loop-cell-preserved : goal.loop-cell-preserved
loop-cell-preserved c = λ w l.
    let found = c.in-Some.ensures.cell in
    let n = c.len.result in
    let more : n + 1 ≡ vec_len c.push.new.self = omega (arith, c.len.ensures, c.in_ok-push.ensures.len) in
    let before : c.loop-cell.records.items ≡ first_records w n = c.loop-cell.invariant w l ∙ ap (first_records w) (sym c.len.ensures) in
    records-next w c.args.lists.now c.in_ok-top.top found.0 n c.in-Some.cell.now.rec c.loop-cell.records.items c.push.new.self.items l c.in_ok-top.ensures.merged found.1 found.2.0 found.2.1.rec before c.in_ok-push.ensures.items
    ∙ ap (first_records w) more

-- past the last top cell the records of all are listed
pub returns : goal.returns
returns c = record {
  value = λ w l.
      let past = c.in_default.ensures.cell in
      c.loop-cell.invariant w l
      ∙ (ap (first_records w) (sym c.len.ensures) ∙ records-all w c.args.lists.now c.in_ok-top.top past.0 c.len.result l c.in_ok-top.ensures.merged past.1 past.2);
}
