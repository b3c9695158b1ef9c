-- What a finished rank gives, in two worlds for which it stands.
use Rattle.std.proofs.Common.{ℕ, ◌≡◌, ◌+◌, true, false, List, [], length, map, sum_by, sym, ap, ◌∙◌, subst, inl, inr, arith, Some}
use Rattle.std.specs.Prelude.{Contains, ◌↔◌}
use Rattle.std.proofs.lemmas.Option.{slice_get-get_or}
use Rattle.hot_units.specs.Values.{BodyValue}
use Rattle.hot_units.proofs.Members.{nil_has}
use Rattle.hot_units.proofs.Sorts.{ascends_same}
use Rattle.hot_model.specs.declared.visit.Visit as visits
use Rattle.hot_model.specs.declared.visit.Seen as seens
use Rattle.rank_model.specs.World.{World, piece}
use Rattle.rank_model.specs.Needs.{Needs, needed}
use Rattle.rank_model.specs.Pairs.{PairValue, rests_at, still_asked}
use Rattle.rank_model.proofs.Demands.{needs-are-asks}
use Rattle.rank_model.proofs.Counts.{needed-are, needed_ascend}
use Rattle.defer_walk.specs.declared.listed.Listed.{Listed}
use Rattle.defer_walk.specs.Asked.{asked_keys}
use Rattle.defer_walk.specs.Standing.{VisitOf, WalkState, fold_in, opened_by, left_to_open, pairs_in}
use Rattle.defer_walk.specs.Standing as walks
use Rattle.defer_walk.proofs.Walking.{folds_are, opened_are}
use Rattle.rank_core.specs.Seat.{Finished}
use Rattle.rank_core.specs.Seats.{seat_of, visit_of, IsFinished}
use Rattle.rank_core.specs.Standing.{RankState, StandsIn, meant_by}
use Rattle.rank_core.specs.Truth.{AllTrue}
use Rattle.rank_core.specs.Laws.{Event, taken_in, Lead, SameResults}
use Rattle.rank_core.proofs.Results.{cells_here}
use Rattle.rank_core.proofs.Finishing.{finished_of, seat_finished}
use Rattle.rank_core.proofs.Calls.{stays_true}

-- a walk that is done, in one world
module _ {V A : Type 0} (v : VisitOf A) (w : World) (s : WalkState V A) (h : walks.Stands v w s) (started : s.started ≡ true) (fed : s.starved ≡ false) (over : s.pairs ≡ []) where
  none_rests : (rest : PairValue → List ℕ) (i k : ℕ) → Contains (rests_at rest i (pairs_in w s.pairs)) k → ⊥
  none_rests rest i k m = nil_has k (subst (λ (ls : List Listed). Contains (rests_at rest i (pairs_in w ls)) k) over m)

  -- the cells that it asked for are those that are needed
  asked_needed : (k : ℕ) → Contains (asked_keys s.slots) k → Needs v.opens w s.me k
  asked_needed k m =
      let x = (h.count started fed).asks.sound k m in
      (needs-are-asks v.opens w s.me k).1 (x.0, subst (λ (xs : List BodyValue). Contains xs x.0) h.bodies x.1, x.2)

  needed_asked : (k : ℕ) → Needs v.opens w s.me k → Contains (asked_keys s.slots) k
  needed_asked k n =
      let x = (needs-are-asks v.opens w s.me k).0 n in
      let at = subst (λ (xs : List BodyValue). Contains xs x.0) (sym h.bodies) x.1 in
      elim ((h.count started fed).asks.complete at.0 x.0 k (slice_get-get_or s.piece at.0 x.0 at.1 ∙ ap Some at.2) x.2) [
        | inl f ↦ f
        | inr f ↦ absurd (none_rests (still_asked (v.opens x.0) w s.me) at.0 k f)
      ]

  folds_here : s.accs ≡ map (fold_in v w) (piece w s.me)
  folds_here = folds_are v w s h started fed over ∙ ap (map (fold_in v w)) h.bodies

  opened_here : s.tally.opened ≡ sum_by (λ b. length (opened_by v w b)) (piece w s.me)
  opened_here =
      let a : s.tally.opened + 0 ≡ sum_by (λ b. length (opened_by v w b)) s.piece =
      subst (λ (ls : List Listed). s.tally.opened + sum_by (left_to_open v w s.piece) (pairs_in w ls) ≡ sum_by (λ b. length (opened_by v w b)) s.piece) over (h.count started fed).opened in
      let b = ap (λ (bs : List BodyValue). sum_by (λ b. length (opened_by v w b)) bs) h.bodies in
      omega (arith, a, b)

  cells_are : (k : ℕ) → Contains s.tally.cells k ↔ ((b : BodyValue) × Contains (piece w s.me) b × Contains (opened_by v w b) k)
  cells_are = cells_here v w s.piece (piece w s.me) s.tally.cells h.bodies (opened_are v w s h started fed over)

-- and in two
same_results : {V A : Type 0} (v : VisitOf A) (w u : World) (s : WalkState V A) → walks.Stands v w s → walks.Stands v u s → s.started ≡ true → s.starved ≡ false → s.pairs ≡ [] → SameResults v s.me w u
same_results v w u s h k started fed over = record {
  folds = sym (folds_here v w s h started fed over) ∙ folds_here v u s k started fed over;
  opened = sym (opened_here v w s h started fed over) ∙ opened_here v u s k started fed over;
  asks = ascends_same (needed v.opens w s.me) (needed v.opens u s.me) (needed_ascend v.opens w s.me h.good) (needed_ascend v.opens u s.me k.good)
      (λ c m. (needed-are v.opens u s.me c).1 (asked_needed v u s k started fed over c (needed_asked v w s h started fed over c ((needed-are v.opens w s.me c).0 m))))
      (λ c m. (needed-are v.opens w s.me c).1 (asked_needed v w s h started fed over c (needed_asked v u s k started fed over c ((needed-are v.opens u s.me c).0 m))));
  cells = λ c.
      let x = cells_are v w s h started fed over c in
      let y = cells_are v u s k started fed over c in
      ((λ m. y.0 (x.1 m)), (λ m. x.0 (y.1 m)));
}

-- what a finished rank gives is the same in all worlds of which the letters that it took are true
pub rests_on_letters : {V A : Type 0} (v : visits.Ghosts V A) (a : seens.Ghosts A) (w u : World) (es : List Event) (s t : RankState V A) → StandsIn v a w s → StandsIn v a u s
    → AllTrue w (taken_in es) → AllTrue u (taken_in es) → Lead v a es s t → IsFinished t → SameResults (meant_by v a (visit_of s)) (seat_of s).me w u
unfolding StandsIn seat_of visit_of
rests_on_letters {V} {A} v a w u es s t h k told also lead f =
    let x = stays_true v a w es s t h told lead in
    let y = stays_true v a u es s t k also lead in
    let r = same_results (meant_by v a t.walk.visit) w u t.walk x.stands.holds.walks y.stands.holds.walks f.started f.awake f.none in
    subst (λ (q : ℕ). SameResults (meant_by v a s.walk.visit) q w u) (x.stands.holds.same ∙ x.me) (subst (λ (z : V). SameResults (meant_by v a z) t.walk.me w u) x.visit r)

-- a rank that stands for a world is finished exactly where its seat is
pub seats_tell : {V A : Type 0} (v : visits.Ghosts V A) (a : seens.Ghosts A) (w : World) (s : RankState V A) → StandsIn v a w s → IsFinished s ↔ Finished (seat_of s)
unfolding StandsIn
seats_tell v a w s h = ((λ f. seat_finished (meant_by v a s.walk.visit) w s h f), (λ f. finished_of (meant_by v a s.walk.visit) w s h f))
