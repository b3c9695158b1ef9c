use Rattle.std.proofs.Common.{◌≡◌, ℕ, ◌+◌, ◌*◌, ◌^◌, ◌<◌, ◌++◌, List, length, sym, ap, subst, ◌∙◌, false}
use Rattle.std.specs.Prelude.{All}
use Rattle.std.proofs.lemmas.List.Elements.{All-nil}
use Rattle.hot_units.specs.Values.{CellValue}
use Rattle.hot_model.specs.Trees.{cell_record}
use Rattle.rank_model.specs.Pairs.{pair_with}
use Rattle.defer_walk.specs.Tallies.{IsSameTally, noted}
use Rattle.defer_walk.specs.Grouping.{opened_keys, by_children}
use Rattle.defer_walk.specs.Standing.{VisitOf, meaning}
use Rattle.defer_walk.specs.Turning.{ComesFrom, Keeps, Runs, IsLeafGroup}
use Rattle.defer_walk.proofs.Turnings.{keeps_room}
use Rattle.defer_walk.proofs.Blocks.{same_ok}
use Rattle.defer_walk.proofs.Descents.{noted_opened}
use Rattle.defer_walk.proofs.Advances.{woken_leaf, woken_done, woken_keeps, woken_parted, woken_comes}
use Rattle.defer_walk.proofs.stages.wake.Goals as goal

pub near_group-requires-clause-fits : goal.near_group-requires-clause-fits
near_group-requires-clause-fits g c κs within =
    let laws = g.met.V.Visit g.world.𝓛 g.world.𝓜 g.world.𝓡 ((λ s x. x), (λ x. x), (λ x. x), λ x. x) in
    let v : VisitOf g.row.V-Acc.Denot = meaning g.V.Visit.zero_of g.V.Visit.adds g.V.Visit.opens_by g.V.Acc.Seen.seen_of c.args.visit.now in
    let q = c.requires.fits in
    let w = q.0 in
    let me = q.1 in
    let start = q.2 in
    let slots = q.3 in
    let keep = q.4 in
    let waiting = q.5 in
    let good = q.6 in
    let own = q.7 in
    let got = q.8 in
    let waited = q.9 in
    let r = q.12 in
    let key = c.args.waits.now.key in
    let whole = c.args.waits.now.whole in
    let bs = c.args.waits.now.bodies.items in
    let rec : CellValue = cell_record w.bodies key in
    let leaf0 = woken_leaf v w me start c.args.piece.now (λ b. record { swaps = λ a s t. laws.swaps c.args.visit.now b a s t }) c.args.accs.now c.args.tally.now slots keep waiting c.args.waits.now.key c.args.waits.now.whole c.args.waits.now.bodies.items c.args.answer.now got waited r good c.in-Bodies.others c.as_slice-in-Bodies.result.now c.in-Bodies.is c.as_slice-in-Bodies.ensures.items in
    let leaf = subst (λ (xs : List ℕ). IsLeafGroup v w me c.args.piece.now c.args.accs.now c.args.tally.now slots (waiting ++ keep) whole rec xs c.as_slice-in-Bodies.result.now) (sym c.as_slice.ensures) leaf0 in
    (w, me, c.args.tally.now, slots, waiting ++ keep, whole, rec, leaf)

pub note_all-requires : goal.note_all-requires
note_all-requires g c =
    let laws = g.met.V.Visit g.world.𝓛 g.world.𝓜 g.world.𝓡 ((λ s x. x), (λ x. x), (λ x. x), λ x. x) in
    let v : VisitOf g.row.V-Acc.Denot = meaning g.V.Visit.zero_of g.V.Visit.adds g.V.Visit.opens_by g.V.Acc.Seen.seen_of c.args.visit.now in
    let q = c.requires.fits in
    let w = q.0 in
    let me = q.1 in
    let start = q.2 in
    let slots = q.3 in
    let keep = q.4 in
    let waiting = q.5 in
    let good = q.6 in
    let own = q.7 in
    let got = q.8 in
    let waited = q.9 in
    let r = q.12 in
    let key = c.args.waits.now.key in
    let whole = c.args.waits.now.whole in
    let bs = c.args.waits.now.bodies.items in
    let rec : CellValue = cell_record w.bodies key in
    let leaf0 = woken_leaf v w me start c.args.piece.now (λ b. record { swaps = λ a s t. laws.swaps c.args.visit.now b a s t }) c.args.accs.now c.args.tally.now slots keep waiting c.args.waits.now.key c.args.waits.now.whole c.args.waits.now.bodies.items c.args.answer.now got waited r good c.in-Bodies.others c.as_slice-in-Bodies.result.now c.in-Bodies.is c.as_slice-in-Bodies.ensures.items in
    let leaf = subst (λ (xs : List ℕ). IsLeafGroup v w me c.args.piece.now c.args.accs.now c.args.tally.now slots (waiting ++ keep) whole rec xs c.as_slice-in-Bodies.result.now) (sym c.as_slice.ensures) leaf0 in
    let k = subst (λ (xs : List ℕ). Keeps v w me c.args.piece.now c.near_group.new.accs (noted (opened_keys whole key) c.args.tally.now (length xs)) slots (waiting ++ keep)) c.as_slice.ensures (c.in_ok-near_group-in-Bodies.ensures.settled w me c.args.tally.now slots (waiting ++ keep) whole rec leaf) in
    let keys = opened_keys whole key in
    let room = subst (λ (m : ℕ). m < 2 ^ 64) (noted_opened keys c.args.tally.now (length bs)) (keeps_room v w me c.args.piece.now c.near_group.new.accs (noted keys c.args.tally.now (length bs)) slots (waiting ++ keep) k good own) in
    record { room = subst (λ (n : ℕ). c.args.tally.now.opened + n * length keys < 2 ^ 64) (sym c.len.ensures.value) room }

pub note_all-requires-in-Children : goal.note_all-requires-in-Children
note_all-requires-in-Children g c =
    let laws = g.met.V.Visit g.world.𝓛 g.world.𝓜 g.world.𝓡 ((λ s x. x), (λ x. x), (λ x. x), λ x. x) in
    let v : VisitOf g.row.V-Acc.Denot = meaning g.V.Visit.zero_of g.V.Visit.adds g.V.Visit.opens_by g.V.Acc.Seen.seen_of c.args.visit.now in
    let q = c.requires.fits in
    let w = q.0 in
    let me = q.1 in
    let start = q.2 in
    let slots = q.3 in
    let keep = q.4 in
    let waiting = q.5 in
    let good = q.6 in
    let own = q.7 in
    let got = q.8 in
    let waited = q.9 in
    let r = q.12 in
    let key = c.args.waits.now.key in
    let whole = c.args.waits.now.whole in
    let bs = c.args.waits.now.bodies.items in
    let k = woken_keeps v w me start c.args.piece.now (λ b. record { swaps = λ a s t. laws.swaps c.args.visit.now b a s t }) c.args.accs.now c.args.tally.now slots keep waiting c.args.waits.now.key c.args.waits.now.whole c.args.waits.now.bodies.items c.args.answer.now got waited r c.in-Children.children c.in-Children.is in
    let keys = opened_keys whole key in
    let room = subst (λ (m : ℕ). m < 2 ^ 64) (noted_opened keys c.args.tally.now (length bs)) (keeps_room v w me c.args.piece.now c.args.accs.now (noted keys c.args.tally.now (length bs)) slots ((waiting ++ keep) ++ by_children false bs c.in-Children.children) k good own) in
    record { room = subst (λ (n : ℕ). c.args.tally.now.opened + n * length keys < 2 ^ 64) (sym c.len-in-Children.ensures.value) room }

pub returns-in_ok-near_group-in-Bodies : goal.returns-in_ok-near_group-in-Bodies
returns-in_ok-near_group-in-Bodies g c =
    let laws = g.met.V.Visit g.world.𝓛 g.world.𝓜 g.world.𝓡 ((λ s x. x), (λ x. x), (λ x. x), λ x. x) in
    let v : VisitOf g.row.V-Acc.Denot = meaning g.V.Visit.zero_of g.V.Visit.adds g.V.Visit.opens_by g.V.Acc.Seen.seen_of c.args.visit.now in
    let key = c.args.waits.now.key in
    let whole = c.args.waits.now.whole in
    let bs = c.args.waits.now.bodies.items in
    record {
      woken = same_ok c.note_all.result _ _ (λ noted_as w me start slots keep waiting good own got waited late awake r.
          let rec : CellValue = cell_record w.bodies key in
          let leaf0 = woken_leaf v w me start c.args.piece.now (λ b. record { swaps = λ a s t. laws.swaps c.args.visit.now b a s t }) c.args.accs.now c.args.tally.now slots keep waiting c.args.waits.now.key c.args.waits.now.whole c.args.waits.now.bodies.items c.args.answer.now got waited r good c.in-Bodies.others c.as_slice-in-Bodies.result.now c.in-Bodies.is c.as_slice-in-Bodies.ensures.items in
          let leaf = subst (λ (xs : List ℕ). IsLeafGroup v w me c.args.piece.now c.args.accs.now c.args.tally.now slots (waiting ++ keep) whole rec xs c.as_slice-in-Bodies.result.now) (sym c.as_slice.ensures) leaf0 in
          let k = subst (λ (xs : List ℕ). Keeps v w me c.args.piece.now c.near_group.new.accs (noted (opened_keys whole key) c.args.tally.now (length xs)) slots (waiting ++ keep)) c.as_slice.ensures (c.in_ok-near_group-in-Bodies.ensures.settled w me c.args.tally.now slots (waiting ++ keep) whole rec leaf) in
          let same = subst (λ (n : ℕ). IsSameTally (noted (opened_keys whole key) c.args.tally.now n) c.note_all.new.tally) c.len.ensures.value noted_as in (
            subst (λ (rs : List CellValue). Runs v w me start c.args.piece.now c.near_group.new.accs c.note_all.new.tally slots (keep ++ by_children false bs rs) waiting) (sym c.clear.ensures.items) (woken_done v w me start c.args.piece.now (λ b. record { swaps = λ a s t. laws.swaps c.args.visit.now b a s t }) c.args.accs.now c.args.tally.now slots keep waiting c.args.waits.now.key c.args.waits.now.whole c.args.waits.now.bodies.items c.args.answer.now got waited r c.near_group.new.accs c.note_all.new.tally same k),
            subst (All (λ (r : CellValue). ComesFrom start.advanced w me start (pair_with 0 false r))) (sym c.clear.ensures.items) (All-nil (λ (r : CellValue). ComesFrom start.advanced w me start (pair_with 0 false r))),
          )) c.note_all.ensures.noted;
    }

pub returns-in_ok-extend_from_slice-in-Children : goal.returns-in_ok-extend_from_slice-in-Children
returns-in_ok-extend_from_slice-in-Children g c =
    let laws = g.met.V.Visit g.world.𝓛 g.world.𝓜 g.world.𝓡 ((λ s x. x), (λ x. x), (λ x. x), λ x. x) in
    let v : VisitOf g.row.V-Acc.Denot = meaning g.V.Visit.zero_of g.V.Visit.adds g.V.Visit.opens_by g.V.Acc.Seen.seen_of c.args.visit.now in
    let key = c.args.waits.now.key in
    let whole = c.args.waits.now.whole in
    let bs = c.args.waits.now.bodies.items in
    let xs = c.in-Children.children in
    let e : c.extend_from_slice.new.self.items ≡ xs = c.in_ok-extend_from_slice-in-Children.ensures.items ∙ ap (λ (ys : List CellValue). ys ++ c.as_slice-in-Children.result.now) c.clear.ensures.items ∙ c.as_slice-in-Children.ensures.items in
    record {
      woken = same_ok c.note_all-in-Children.result _ _ (λ noted_as w me start slots keep waiting good own got waited late awake r.
          let same = subst (λ (n : ℕ). IsSameTally (noted (opened_keys whole key) c.args.tally.now n) c.note_all-in-Children.new.tally) c.len-in-Children.ensures.value noted_as in (
            subst (λ (rs : List CellValue). Runs v w me start c.args.piece.now c.args.accs.now c.note_all-in-Children.new.tally slots (keep ++ by_children false bs rs) waiting) (sym e) (woken_parted v w me start c.args.piece.now (λ b. record { swaps = λ a s t. laws.swaps c.args.visit.now b a s t }) c.args.accs.now c.args.tally.now slots keep waiting c.args.waits.now.key c.args.waits.now.whole c.args.waits.now.bodies.items c.args.answer.now got waited r c.note_all-in-Children.new.tally xs same (woken_keeps v w me start c.args.piece.now (λ b. record { swaps = λ a s t. laws.swaps c.args.visit.now b a s t }) c.args.accs.now c.args.tally.now slots keep waiting c.args.waits.now.key c.args.waits.now.whole c.args.waits.now.bodies.items c.args.answer.now got waited r xs c.in-Children.is)),
            subst (All (λ (r : CellValue). ComesFrom start.advanced w me start (pair_with 0 false r))) (sym e) (woken_comes v w me start c.args.piece.now (λ b. record { swaps = λ a s t. laws.swaps c.args.visit.now b a s t }) c.args.accs.now c.args.tally.now slots keep waiting c.args.waits.now.key c.args.waits.now.whole c.args.waits.now.bodies.items c.args.answer.now got waited r xs c.in-Children.is late awake),
          )) c.note_all-in-Children.ensures.noted;
    }
