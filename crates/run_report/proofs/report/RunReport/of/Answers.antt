use Rattle.std.proofs.Common.{length, ap, ◌∙◌, arith}
use Rattle.rank_set.proofs.Making.{shared_good}
use Rattle.run_report.proofs.Reports.{efforts_few, report_is, counted_on}
use Rattle.run_report.proofs.report.RunReport.of.Goals as goal

-- there are no more efforts than there may be ranks
pub invariant_of-result : goal.invariant_of-result
invariant_of-result g c =
    let items = ap length (c.in_ok-efforts.ensures.items ∙ c.deref-3.ensures.value) in
    let few = efforts_few c.requires.found.0 c.args.set.now c.args.sharing _ _ _ c.requires.found.1 in
    let many = c.args.sharing.many in
    omega (arith, items, few, many)

-- the report is that of the run, for each log with these letters and rounds
pub returns : goal.returns
returns g c = record {
  value = λ v log finds letters rounds.
      report_is v c.args.set.now c.args.sharing log _ c.args.found.now.efforts.items c.in_ok-efforts.efforts.items c.args.found.now.opened.items c.in_ok-branches.branches.items c.args.letters c.args.found.now.rounds c.in_ok-cells.cells c.bound_of.result
      (shared_good c.args.set.now c.args.sharing c.bodies-in_order.ensures.facts c.args.sharing.one) finds (c.in_ok-efforts.ensures.items ∙ c.deref-3.ensures.value) c.in_ok-branches.ensures.value letters rounds
      (counted_on _ _ _ _ c.in_ok-cells.cells c.deref.ensures.value c.deref-2.ensures.value c.in_ok-cells.ensures.count) c.bound_of.ensures.value;
}
