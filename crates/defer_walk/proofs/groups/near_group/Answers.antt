use Rattle.std.proofs.Common.{rules, ◌≡◌, ℕ, ◌<◌, length, get_or, sym, subst, Some, arith}
use Rattle.std.specs.Prelude.{slice_get}
use Rattle.std.proofs.lemmas.Option.{slice_get-get_or}
use Rattle.defer_walk.specs.Grouping.{opened_keys}
use Rattle.defer_walk.specs.Standing.{VisitOf, meaning}
use Rattle.defer_walk.specs.Tallies.{noted}
use Rattle.defer_walk.proofs.Turnings.{got}
use Rattle.defer_walk.proofs.Blocks.{leaf_more, next_body, next_leaf_fits, drop_end}
use Rattle.defer_walk.proofs.groups.near_group.Goals as goal

pub bounds-piece-at : goal.bounds-piece-at
bounds-piece-at g c =
    let laws = g.met.V.Visit g.world.𝓛 g.world.𝓜 g.world.𝓡 ((λ s x. x), (λ x. x), (λ x. x), λ x. x) in
    let v : VisitOf g.row.V-Acc.Denot = meaning g.V.Visit.zero_of g.V.Visit.adds g.V.Visit.opens_by g.V.Acc.Seen.seen_of c.args.visit.now in
    let r = c.requires.fits in
    let i = c.loop-body.body-index in
    let j = get_or c.args.bodies.now i 0 in
    let at : slice_get c.args.bodies.now i ≡ Some j = slice_get-get_or c.args.bodies.now i 0 c.loop-body-test.true in
    next_body v r.0 r.1 c.args.piece.now (λ b. record { swaps = λ a s t. laws.swaps c.args.visit.now b a s t }) c.loop-body.accs (noted (opened_keys r.5 r.6.key) r.2 i) r.3 r.4 r.5 r.6 c.args.bodies.now i j at (c.loop-body.invariant r.0 r.1 r.2 r.3 r.4 r.5 r.6 r.7)

pub offset_bounds-accs-at : goal.offset_bounds-accs-at
offset_bounds-accs-at g c =
    let laws = g.met.V.Visit g.world.𝓛 g.world.𝓜 g.world.𝓡 ((λ s x. x), (λ x. x), (λ x. x), λ x. x) in
    let v : VisitOf g.row.V-Acc.Denot = meaning g.V.Visit.zero_of g.V.Visit.adds g.V.Visit.opens_by g.V.Acc.Seen.seen_of c.args.visit.now in
    let r = c.requires.fits in
    let i = c.loop-body.body-index in
    let j = get_or c.args.bodies.now i 0 in
    let at : slice_get c.args.bodies.now i ≡ Some j = slice_get-get_or c.args.bodies.now i 0 c.loop-body-test.true in
    let k = c.loop-body.invariant r.0 r.1 r.2 r.3 r.4 r.5 r.6 r.7 in
    let within : j < length c.loop-body.accs = subst (λ (n : ℕ). j < n) (sym k.balance.long) (next_body v r.0 r.1 c.args.piece.now (λ b. record { swaps = λ a s t. laws.swaps c.args.visit.now b a s t }) c.loop-body.accs (noted (opened_keys r.5 r.6.key) r.2 i) r.3 r.4 r.5 r.6 c.args.bodies.now i j at k) in
    search rules

pub bounds-accs-at : goal.bounds-accs-at
bounds-accs-at g c =
    let laws = g.met.V.Visit g.world.𝓛 g.world.𝓜 g.world.𝓡 ((λ s x. x), (λ x. x), (λ x. x), λ x. x) in
    let v : VisitOf g.row.V-Acc.Denot = meaning g.V.Visit.zero_of g.V.Visit.adds g.V.Visit.opens_by g.V.Acc.Seen.seen_of c.args.visit.now in
    let r = c.requires.fits in
    let i = c.loop-body.body-index in
    let j = get_or c.args.bodies.now i 0 in
    let at : slice_get c.args.bodies.now i ≡ Some j = slice_get-get_or c.args.bodies.now i 0 c.loop-body-test.true in
    let k = c.loop-body.invariant r.0 r.1 r.2 r.3 r.4 r.5 r.6 r.7 in
    subst (λ (n : ℕ). j < n) (sym k.balance.long) (next_body v r.0 r.1 c.args.piece.now (λ b. record { swaps = λ a s t. laws.swaps c.args.visit.now b a s t }) c.loop-body.accs (noted (opened_keys r.5 r.6.key) r.2 i) r.3 r.4 r.5 r.6 c.args.bodies.now i j at k)

pub near_all-requires-clause-room : goal.near_all-requires-clause-room
near_all-requires-clause-room g c κs l =
    let laws = g.met.V.Visit g.world.𝓛 g.world.𝓜 g.world.𝓡 ((λ s x. x), (λ x. x), (λ x. x), λ x. x) in
    let v : VisitOf g.row.V-Acc.Denot = meaning g.V.Visit.zero_of g.V.Visit.adds g.V.Visit.opens_by g.V.Acc.Seen.seen_of c.args.visit.now in
    let r = c.requires.fits in
    let i = c.loop-body.body-index in
    let j = get_or c.args.bodies.now i 0 in
    let at : slice_get c.args.bodies.now i ≡ Some j = slice_get-get_or c.args.bodies.now i 0 c.loop-body-test.true in
    let k = c.loop-body.invariant r.0 r.1 r.2 r.3 r.4 r.5 r.6 r.7 in
    let within = next_body v r.0 r.1 c.args.piece.now (λ b. record { swaps = λ a s t. laws.swaps c.args.visit.now b a s t }) c.loop-body.accs (noted (opened_keys r.5 r.6.key) r.2 i) r.3 r.4 r.5 r.6 c.args.bodies.now i j at k in
    let pb : slice_get c.args.piece.now j ≡ Some c.index-piece-at.result = got c.args.piece.now j c.index-piece-at.result within c.index-piece-at.is in
    let pa : slice_get c.loop-body.accs j ≡ Some (get_or c.loop-body.accs j c.index-accs-at.result) = slice_get-get_or c.loop-body.accs j c.index-accs-at.result (subst (λ (n : ℕ). j < n) (sym k.balance.long) within) in
    next_leaf_fits v r.0 r.1 c.args.piece.now (λ b. record { swaps = λ a s t. laws.swaps c.args.visit.now b a s t }) c.loop-body.accs (noted (opened_keys r.5 r.6.key) r.2 i) r.3 r.4 r.5 r.6 c.args.bodies.now i j at k c.args.others.now r.7.others_are
    (λ b a t. laws.sees c.args.visit.now b a t) r.7.good c.index-piece-at.result (get_or c.loop-body.accs j c.index-accs-at.result) pb pa

pub loop-body-preserved : goal.loop-body-preserved
loop-body-preserved g c = λ w me tally slots keep whole rec h.
    let laws = g.met.V.Visit g.world.𝓛 g.world.𝓜 g.world.𝓡 ((λ s x. x), (λ x. x), (λ x. x), λ x. x) in
    let v : VisitOf g.row.V-Acc.Denot = meaning g.V.Visit.zero_of g.V.Visit.adds g.V.Visit.opens_by g.V.Acc.Seen.seen_of c.args.visit.now in
    let i = c.loop-body.body-index in
    let j = get_or c.args.bodies.now i 0 in
    let at : slice_get c.args.bodies.now i ≡ Some j = slice_get-get_or c.args.bodies.now i 0 c.loop-body-test.true in
    let k = c.loop-body.invariant w me tally slots keep whole rec h in
    let within = next_body v w me c.args.piece.now (λ b. record { swaps = λ a s t. laws.swaps c.args.visit.now b a s t }) c.loop-body.accs (noted (opened_keys whole rec.key) tally i) slots keep whole rec c.args.bodies.now i j at k in
    let pb : slice_get c.args.piece.now j ≡ Some c.index-piece-at.result = got c.args.piece.now j c.index-piece-at.result within c.index-piece-at.is in
    let pa : slice_get c.loop-body.accs j ≡ Some (get_or c.loop-body.accs j c.index-accs-at.result) = slice_get-get_or c.loop-body.accs j c.index-accs-at.result (subst (λ (n : ℕ). j < n) (sym k.balance.long) within) in
    leaf_more v w me c.args.piece.now (λ b. record { swaps = λ a s t. laws.swaps c.args.visit.now b a s t }) c.loop-body.accs tally slots keep whole rec c.args.bodies.now c.args.others.now i j c.index-piece-at.result (get_or c.loop-body.accs j c.index-accs-at.result) c.near_all.new.acc
    at pb pa c.in_ok-near_all.ensures.value h.leaf h.others_are h.opened h.asked k

pub returns : goal.returns
returns g c = record {
  settled = λ w me tally slots keep whole rec h.
      let v : VisitOf g.row.V-Acc.Denot = meaning g.V.Visit.zero_of g.V.Visit.adds g.V.Visit.opens_by g.V.Acc.Seen.seen_of c.args.visit.now in
      drop_end v w me c.args.piece.now c.loop-body.accs tally slots keep whole rec c.args.bodies.now c.loop-body.body-index c.loop-body.auto.body-index-end (omega (arith, c.loop-body-test.false)) (c.loop-body.invariant w me tally slots keep whole rec h);
}
