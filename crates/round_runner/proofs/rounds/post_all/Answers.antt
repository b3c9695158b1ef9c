use Rattle.std.proofs.Common.{ℕ, sym, subst, ◌∙◌, arith, inl, inr}
use Rattle.protocol.proofs.Weights.{same_or_not}
use Rattle.protocol.proofs.Places.{get_within}
use Rattle.protocol.specs.Ranks.{seats}
use Rattle.round_runner.specs.Running.{QuietAt}
use Rattle.protocol.proofs.Ranks.{seats_len}
use Rattle.round_runner.proofs.Runs.{frame_on, quiet_elsewhere}
use Rattle.round_runner.proofs.rounds.post_all.Goals as goal

-- where a posting is refused, the log is legal
pub returns-in_err-post_rank-clause-legal : goal.returns-in_err-post_rank-clause-legal
returns-in_err-post_rank-clause-legal g c = λ v w j. c.in_err-post_rank.ensures.legal v w (c.loop-q.invariant.kept v w j)

-- where a posting is refused, each rank is as a step leaves it, if all were so
pub returns-in_err-post_rank-clause-worked : goal.returns-in_err-post_rank-clause-worked
returns-in_err-post_rank-clause-worked g c = λ wk. c.in_err-post_rank.ensures.worked (c.loop-q.invariant.worked wk)

-- where a posting is refused, the ranks have their numbers
pub returns-in_err-post_rank-clause-places : goal.returns-in_err-post_rank-clause-places
returns-in_err-post_rank-clause-places g c = c.in_err-post_rank.ensures.places ∙ c.loop-q.invariant.places

-- with the letters of one more rank posted, what holds in the loop holds again
pub loop-q-preserved : goal.loop-q-preserved
loop-q-preserved g c =
    let i = c.loop-q.invariant in let e = c.in_ok-post_rank.ensures in
    record {
      kept = λ v w j. e.kept v w (i.kept v w j);
      worked = λ wk. e.worked (i.worked wk);
      quiet = λ p lt. elim (same_or_not p c.loop-q.q) [
        | inl x ↦ subst (λ (y : ℕ). QuietAt (seats c.post_rank.new.ranks) y) (sym x) e.quiet
        | inr ne ↦ quiet_elsewhere c.loop-q.ranks c.post_rank.new.ranks p (e.others p ne) (i.quiet p (omega arith))
      ];
      places = e.places ∙ i.places;
      frame = frame_on c.args.ranks.now (g.M.Wire.desk c.args.wire.now) c.loop-q.ranks (g.M.Wire.desk c.loop-q.wire) c.post_rank.new.ranks (g.M.Wire.desk c.post_rank.new.wire) i.frame e.frame;
      turn = e.turn ∙ i.turn;
    }

-- at the end all outboxes are empty
pub returns-clause-quiet : goal.returns-clause-quiet
returns-clause-quiet g c = λ q s gs. c.loop-q.invariant.quiet q (let lt = get_within (seats c.loop-q.ranks) q s gs in omega (arith, seats_len c.loop-q.ranks)) s gs

-- at the end the log is legal
pub returns-clause-legal : goal.returns-clause-legal
returns-clause-legal g c = λ v w j. (c.loop-q.invariant.kept v w j).joint.legal
