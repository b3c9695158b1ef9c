use Rattle.std.proofs.Common.{◌≡◌, ℕ, ◌≤◌, List, length, sym, subst, arith, false}
use Rattle.hot_units.specs.Limits.{max_bodies}
use Rattle.hot_units.specs.Values.{BodyValue}
use Rattle.rank_model.specs.Pairs.{PairValue}
use Rattle.defer_walk.specs.Grouping.{group, places_to}
use Rattle.defer_walk.specs.Standing.{VisitOf, meaning, pairs_in}
use Rattle.defer_walk.specs.Turning.{Runs}
use Rattle.defer_walk.proofs.Slots.{extends_same, extends_trans}
use Rattle.defer_walk.proofs.Turnings.{filter_short}
use Rattle.defer_walk.proofs.Advances.{root_comes, roots_group, chunk_group}
use Rattle.defer_walk.proofs.stages.begin.Goals as goal

pub overflow_cast-to : goal.overflow_cast-to
overflow_cast-to g c =
    let q = c.requires.fits in
    let short : length c.args.piece.now ≤ length q.0.bodies = subst (λ (xs : List BodyValue). length xs ≤ length q.0.bodies) (sym q.5) (filter_short _ q.0.bodies) in
    let few : length q.0.bodies ≤ max_bodies = q.4.few in
    omega (arith, short, few)

pub loop-to-init : goal.loop-to-init
loop-to-init g c = record {
  runs = λ w me start stands good own first root r.
      let v : VisitOf g.row.V-Acc.Denot = meaning g.V.Visit.zero_of g.V.Visit.adds g.V.Visit.opens_by g.V.Acc.Seen.seen_of c.args.visit.now in
      subst (λ (ps : List PairValue). Runs v w me start c.args.piece.now c.args.accs.now c.args.tally.now c.args.asks.now.slots ps (pairs_in w c.args.asks.now.pairs)) (roots_group w c.args.root root (length c.args.piece.now)) r;
  extends = extends_same c.args.asks.now.slots;
}

pub returns-in_err-places-clause-stored : goal.returns-in_err-places-clause-stored
returns-in_err-places-clause-stored g c = λ w me start stands good own first root r. (c.loop-to.invariant.runs w me start stands good own first root r).keeps.store

pub descend-requires-clause-fits : goal.descend-requires-clause-fits
descend-requires-clause-fits g c κs within =
    let v : VisitOf g.row.V-Acc.Denot = meaning g.V.Visit.zero_of g.V.Visit.adds g.V.Visit.opens_by g.V.Acc.Seen.seen_of c.args.visit.now in
    let q = c.requires.fits in
    let w = q.0 in
    let me = q.1 in
    let start = q.2 in
    let stands = q.3 in
    let good = q.4 in
    let own = q.5 in
    let first = q.7 in
    let root = q.8 in
    let keep = group false c.args.root (places_to c.saturating_sub-from.result) in
    let comes = root_comes w me start c.args.root start.advanced false first root in
    let runs = subst (λ (ps : List PairValue). Runs v w me start c.args.piece.now c.loop-to.accs c.loop-to.tally c.loop-to.asks.slots ps (pairs_in w c.loop-to.asks.pairs))
    (chunk_group c.args.root c.saturating_sub-from.result c.loop-to.to c.in_ok-places.places.items c.in_ok-places.ensures.value) (c.loop-to.invariant.runs w me start stands good own first root q.6) in
    (w, me, start, keep, stands, good, own, comes, runs)

pub returns-in_err-descend-clause-stored : goal.returns-in_err-descend-clause-stored
returns-in_err-descend-clause-stored g c = λ w me start stands good own first root r.
    let v : VisitOf g.row.V-Acc.Denot = meaning g.V.Visit.zero_of g.V.Visit.adds g.V.Visit.opens_by g.V.Acc.Seen.seen_of c.args.visit.now in
    let keep = group false c.args.root (places_to c.saturating_sub-from.result) in
    let comes = root_comes w me start c.args.root start.advanced false first root in
    let runs = subst (λ (ps : List PairValue). Runs v w me start c.args.piece.now c.loop-to.accs c.loop-to.tally c.loop-to.asks.slots ps (pairs_in w c.loop-to.asks.pairs))
    (chunk_group c.args.root c.saturating_sub-from.result c.loop-to.to c.in_ok-places.places.items c.in_ok-places.ensures.value) (c.loop-to.invariant.runs w me start stands good own first root r) in
    c.in_err-descend.ensures.stored w me start keep stands good own comes runs

pub returns-in_err-descend-clause-extends : goal.returns-in_err-descend-clause-extends
returns-in_err-descend-clause-extends g c = extends_trans c.args.asks.now.slots c.loop-to.asks.slots c.descend.new.asks.slots c.loop-to.invariant.extends c.in_err-descend.ensures.extends

pub loop-to-preserved : goal.loop-to-preserved
loop-to-preserved g c = record {
  runs = λ w me start stands good own first root r.
      let v : VisitOf g.row.V-Acc.Denot = meaning g.V.Visit.zero_of g.V.Visit.adds g.V.Visit.opens_by g.V.Acc.Seen.seen_of c.args.visit.now in
      let keep = group false c.args.root (places_to c.saturating_sub-from.result) in
      let comes = root_comes w me start c.args.root start.advanced false first root in
      let runs = subst (λ (ps : List PairValue). Runs v w me start c.args.piece.now c.loop-to.accs c.loop-to.tally c.loop-to.asks.slots ps (pairs_in w c.loop-to.asks.pairs))
      (chunk_group c.args.root c.saturating_sub-from.result c.loop-to.to c.in_ok-places.places.items c.in_ok-places.ensures.value) (c.loop-to.invariant.runs w me start stands good own first root r) in
      c.in_ok-descend.ensures.runs w me start keep stands good own comes runs;
  extends = extends_trans c.args.asks.now.slots c.loop-to.asks.slots c.descend.new.asks.slots c.loop-to.invariant.extends c.in_ok-descend.ensures.extends;
}

pub returns-clause-stored : goal.returns-clause-stored
returns-clause-stored g c = λ w me start stands good own first root r. (c.loop-to.invariant.runs w me start stands good own first root r).keeps.store

pub returns-clause-runs : goal.returns-clause-runs
returns-clause-runs g c = λ w me start stands good own first root r.
    let v : VisitOf g.row.V-Acc.Denot = meaning g.V.Visit.zero_of g.V.Visit.adds g.V.Visit.opens_by g.V.Acc.Seen.seen_of c.args.visit.now in
    let none : c.loop-to.to ≡ 0 = omega arith in
    subst (λ (n : ℕ). Runs v w me start c.args.piece.now c.loop-to.accs c.loop-to.tally c.loop-to.asks.slots (group false c.args.root (places_to n)) (pairs_in w c.loop-to.asks.pairs)) none (c.loop-to.invariant.runs w me start stands good own first root r)

pub returns-in_err-places-clause-extends : goal.returns-in_err-places-clause-extends
returns-in_err-places-clause-extends g c = c.loop-to.invariant.extends

pub returns-clause-extends : goal.returns-clause-extends
returns-clause-extends g c = c.loop-to.invariant.extends
