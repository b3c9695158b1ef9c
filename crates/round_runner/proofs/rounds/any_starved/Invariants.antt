use Rattle.std.proofs.Common.{◌≡◌, ℕ, ◌<◌, Some, slice_get, false}
use Rattle.rank_core.specs.Seats.{seat_of}
use Rattle.round_runner.proofs.rounds.any_starved.Given as goal

-- no rank before this place is starved
abbrev pub invariant-loop-rank : goal.invariant-loop-rank
invariant-loop-rank g l = (q : ℕ) (r : _) → q < l.rank-index → slice_get l.ranks q ≡ Some r → (seat_of r).starved ≡ false
