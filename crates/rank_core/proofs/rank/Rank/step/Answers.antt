use Rattle.std.proofs.Common.{sym, ap, ◌∙◌, subst}
use Rattle.rank_core.specs.declared.place.Place.{Place}
use Rattle.rank_core.specs.declared.state.State.{State}
use Rattle.rank_core.specs.Standing.{RankState, StandsIn}
use Rattle.rank_core.specs.Seats.{Stepped, seat_of, visit_of}
use Rattle.rank_core.proofs.Walks.{holds_starved}
use Rattle.rank_core.proofs.Moving.{moves_starved}
use Rattle.rank_core.proofs.Results.{on_fine}
use Rattle.rank_core.proofs.rank.Rank.step.Goals as goal

pub work-done-requires-clause-fits : goal.work-done-requires-clause-fits
unfolding StandsIn
work-done-requires-clause-fits g c κs within =
    let f = c.requires.fits in
    (f.0, (subst (λ (x : RankState g.row.V.Denot g.row.V-Acc.Denot). StandsIn g.V.Visit g.V.Acc.Seen f.0 x) (sym c.self.view_is) f.1).holds)

pub work-done-requires-clause-awake : goal.work-done-requires-clause-awake
unfolding StandsIn
work-done-requires-clause-awake g c κs within =
    let f = c.requires.fits in
    (subst (λ (x : RankState g.row.V.Denot g.row.V-Acc.Denot). StandsIn g.V.Visit g.V.Acc.Seen f.0 x) (sym c.self.view_is) f.1).awake c.if-self.false

pub returns-clause-step : goal.returns-clause-step
unfolding StandsIn seat_of visit_of
returns-clause-step g c =
    let t : State = record c.work-done.new.state { starved = c.is_err-self-inside.result } in
    let new : RankState g.row.V.Denot g.row.V-Acc.Denot = record { state = t; walk = c.work-done.new.walk } in
    subst (λ (x : RankState g.row.V.Denot g.row.V-Acc.Denot). Stepped g.V.Visit.opens_by (StandsIn g.V.Visit g.V.Acc.Seen) x new) c.self.view_is
    (record {
      kept = λ w h. record {
        holds = holds_starved _ w c.work-done.new.state c.work-done.new.walk c.is_err-self-inside.result (c.work-done.ensures.holds w h.holds);
        awake = λ e. (
            let a = on_fine c.work-done.result (sym c.is_err-self-inside.ensures.value ∙ e) c.work-done.ensures.awake in
            record { runs = record { awake = a.runs.awake; started = a.runs.started }; given = a.given });
      };
      moves = λ w h e.
          moves_starved _ w c.self.inside.state c.work-done.new.state c.self.inside.walk c.work-done.new.walk c.is_err-self-inside.result
          (on_fine c.work-done.result (sym c.is_err-self-inside.ensures.value ∙ e) (c.work-done.ensures.moves w h.holds));
      visit = c.work-done.ensures.visit;
      me = ap (λ (p : Place). p.me) c.work-done.ensures.place;
      ranks = ap (λ (p : Place). p.ranks) c.work-done.ensures.place;
    })
