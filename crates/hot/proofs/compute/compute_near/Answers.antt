use Rattle.std.proofs.Common.{◌≡◌, ap, ◌∙◌, sym, subst, length, map, List}
use Rattle.hot_units.specs.Values.{BodyValue}
use Rattle.key_order.specs.Ordered.{OrderedValue}
use Rattle.hot_words.specs.Commands.{job_value}
use Rattle.rank_set.specs.Places.{ArePlaced}
use Rattle.hot.specs.Runs.{near_run}
use Rattle.hot.specs.Texts.{neighbours_of}
use Rattle.hot.proofs.FileBodies.{file_rows, idents_long}
use Rattle.hot.proofs.Walks.{ran_left, ran_err}
use Rattle.hot.proofs.Neighbours.{near_placed, lists_long}
use Rattle.hot.proofs.compute.compute_near.Goals as goal

-- where memory lacks for putting the rows back, the wire was not used, or is left as by a begun run
pub returns-in_err-placed : goal.returns-in_err-placed
returns-in_err-placed g c = record {
  computed =
      let w = c.in_ok-found.ensures.walked in
      ran_err g.M.Wire.desk (near_run c.args.radius (job_value c.args.job.now)) c.args.set c.in_ok-ordered.ordered c.args.wire.now c.walk_near.new.wire c.in_ok-ordered.ensures.ordered c.in_ok-found.found c.from_residual-in_err-placed.result _ w.0 c.from_residual-in_err-placed.ensures.0 w.1 w.2;
}

-- and so where it lacks for the lists
pub returns-in_err-lists : goal.returns-in_err-lists
returns-in_err-lists g c = record {
  computed =
      let w = c.in_ok-found.ensures.walked in
      ran_err g.M.Wire.desk (near_run c.args.radius (job_value c.args.job.now)) c.args.set c.in_ok-ordered.ordered c.args.wire.now c.walk_near.new.wire c.in_ok-ordered.ensures.ordered c.in_ok-found.found c.from_residual-in_err-lists.result _ w.0 c.from_residual-in_err-lists.ensures.0 w.1 w.2;
}

-- there is a list for each ident
pub invariant_of-result : goal.invariant_of-result
invariant_of-result g c =
    let w = c.in_ok-found.ensures.walked in
    let placed : ArePlaced c.in_ok-ordered.ordered.bodies c.in_ok-found.found.accs.items c.in_ok-placed.placed.items =
    subst (λ (l : List BodyValue). ArePlaced l c.in_ok-found.found.accs.items c.in_ok-placed.placed.items) c.bodies.ensures.value c.in_ok-placed.ensures.placed in
    let rows = file_rows c.requires.of_files.0 c.args.set c.requires.of_files.1 in
    let lists : map (λ rows. rows.items) c.in_ok-lists.lists.items ≡ neighbours_of c.args.radius c.args.set.bodies =
    c.in_ok-lists.ensures.lists
    ∙ near_placed c.args.radius (near_run c.args.radius (job_value c.args.job.now)) c.args.set c.in_ok-ordered.ordered c.in_ok-found.found.accs.items c.in_ok-placed.placed.items c.in_ok-ordered.ensures.ordered c.bodies.ensures.facts rows w.3.finds.accs_are placed in
    record {
      paired = ap length (ap (λ (o : OrderedValue). o.idents) c.in_ok-ordered.ensures.ordered)
          ∙ idents_long c.requires.of_files.0 c.args.set c.requires.of_files.1
          ∙ sym (lists_long (λ rows. rows.items) c.in_ok-lists.lists.items c.args.radius c.args.set.bodies lists);
    }

-- idents and lists are those of the bodies, in their order, and the run came to its end on the wire
pub returns : goal.returns
returns g c = record {
  computed =
      let w = c.in_ok-found.ensures.walked in
      let placed : ArePlaced c.in_ok-ordered.ordered.bodies c.in_ok-found.found.accs.items c.in_ok-placed.placed.items =
      subst (λ (l : List BodyValue). ArePlaced l c.in_ok-found.found.accs.items c.in_ok-placed.placed.items) c.bodies.ensures.value c.in_ok-placed.ensures.placed in
      let rows = file_rows c.requires.of_files.0 c.args.set c.requires.of_files.1 in
      let lists : map (λ rows. rows.items) c.in_ok-lists.lists.items ≡ neighbours_of c.args.radius c.args.set.bodies =
      c.in_ok-lists.ensures.lists
      ∙ near_placed c.args.radius (near_run c.args.radius (job_value c.args.job.now)) c.args.set c.in_ok-ordered.ordered c.in_ok-found.found.accs.items c.in_ok-placed.placed.items c.in_ok-ordered.ensures.ordered c.bodies.ensures.facts rows w.3.finds.accs_are placed in (
        w.0,
        w.1,
        ran_left g.M.Wire.desk (near_run c.args.radius (job_value c.args.job.now)) c.args.set c.in_ok-ordered.ordered c.args.wire.now c.walk_near.new.wire c.in_ok-ordered.ensures.ordered c.in_ok-found.found w.0 w.2,
        record { idents = ap (λ (o : OrderedValue). o.idents) c.in_ok-ordered.ensures.ordered; lists = lists },
      );
}
