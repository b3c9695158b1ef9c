use Rattle.std.proofs.Common.{◌++◌, ap, ◌∙◌, sym, arith}
use Rattle.rank_core.specs.Seats.{seat_of}
use Rattle.rank_set.proofs.Finds.{finds-more}
use Rattle.rank_set.proofs.found.add_rank.Goals as goal

-- what a rank found is put behind what the ranks below it found
pub returns-clause-added : goal.returns-clause-added
returns-clause-added g c =
    let r = c.in_ok-result.result in
    let told = c.in_ok-result.ensures in
    λ w st f. finds-more _ w (seat_of c.args.rank).me c.me-me.result c.len.result c.args.found.now.accs.items c.args.found.now.efforts.items c.args.found.now.opened.items r.accs.items r.opened r.asks r.cells _ _ _
    f (told.folds w st) (told.opened w st) (told.asks w st) (told.cells w st)
    c.in_ok-append.ensures.items c.me-me.ensures.value (let n = r.accs.ok.0 in let l = c.len.ensures in omega arith) c.in_ok-push.ensures.items (c.in_ok-extend_from_slice.ensures.items ∙ ap (λ l. c.args.found.now.opened.items ++ l) c.as_slice.ensures.items)
