use Rattle.std.proofs.Common.{ℕ, ◌-◌, subst}
use Rattle.morton_key.specs.Ranges.{first_key, last_key}
use Rattle.branch_merge.specs.Merged.{IsCountTo}
use Rattle.branch_merge.proofs.Runs.{run_is}
use Rattle.branch_merge.proofs.run.run.Goals as goal

pub returns : goal.returns
returns c =
    let xs = c.args.listed.now in
    let low : IsCountTo xs (first_key c.args.cell - 1) c.count_to-from.result = subst (λ (k : ℕ). IsCountTo xs (k - 1) c.count_to-from.result) c.first_key.ensures.value c.count_to-from.ensures.value in
    let high : IsCountTo xs (last_key c.args.cell) c.count_to-to.result = subst (λ (k : ℕ). IsCountTo xs k c.count_to-to.result) c.last_key.ensures.value c.count_to-to.ensures.value in
    let r = run_is xs c.args.cell c.count_to-from.result c.count_to-to.result c.requires.sorted c.requires.cell c.requires.outside low high in
    record { covered = r.covered; ascending = r.ascending; within = r.within }
