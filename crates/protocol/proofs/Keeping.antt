-- Each event keeps what holds of all ranks and the wire together.
use Rattle.std.proofs.Common.{◌≡◌, ◌⊎◌, ℕ, zero, suc, ◌≤◌, refl, arith, subst, inl, inr}
use Rattle.rank_model.specs.Needs.{IsForeign}
use Rattle.rank_model.proofs.Bounds.{needs_bound}
use Rattle.protocol.specs.Counts.{in_posted, asks_by, answers_to}
use Rattle.protocol.specs.Laws.{StartHolds, StepKeeps, PostKeeps, TakeKeeps, TurnKeeps, RoundKeeps, OneState, OwnFresh, QuietEnds, SameNotes, TakenOnce, AsksExactly, FewNeeds, FewLetters, FewRounds, RoundsLeft, StepDeepens, PostDeep, TakeDeep, TurnDeep, RoundDeep, BranchesFirst, AsksFirst}
use Rattle.protocol.proofs.Following.{told_before, asked_before}
use Rattle.protocol.proofs.Weights.{has_or_not}
use Rattle.protocol.proofs.Counting.{same_note-decides, taken_most}
use Rattle.protocol.proofs.Starting.{new_joint, new_quiet, new_start, new_deep}
use Rattle.protocol.proofs.Ending.{all_finished, complete}
use Rattle.protocol.proofs.Bounds.{asked_needed, few_letters, few_rounds, joint_rounds}
use Rattle.protocol.proofs.Deepening.{deep_step, deep_post, deep_take, deep_turned, deep_round}
use Rattle.protocol.proofs.Stepping.{joint_step, worked_step}
use Rattle.protocol.proofs.Posting.{allowed_post, joint_post}
use Rattle.protocol.proofs.Taking.{taken_true, to_me, fresh_here, legal_take, joint_take, joint_turned, joint_round, start_round}

-- all holds together for new ranks of a good world and a wire that was begun
pub start_holds : StartHolds
start_holds opens w ss d g len new b = (new_joint opens w g ss d len new b, new_quiet opens w g ss d len new b, new_start opens w g ss d len new b, new_deep opens w g ss d len new b)

-- each rank steps, and all still holds together
pub step_keeps : StepKeeps
step_keeps opens w ss ts d j quiet un len step = (joint_step opens w ss ts d j quiet un len step, worked_step opens w ss ts d j quiet un len step)

-- the oldest letter of an outbox may be posted, and all still holds together
pub post_keeps : PostKeeps
post_keeps opens w ss d q s t l j gs first rest = (allowed_post opens w ss d q s t l j gs first rest, joint_post opens w ss d q s t l j gs first rest)

-- what the wire gives is true, its receiver may take it, and then all still holds together
pub take_keeps : TakeKeeps
take_keeps opens w ss d e l s j tk gs = (taken_true opens w ss d e l j tk, to_me opens w ss d e l j tk s gs, fresh_here opens w ss d e l j tk s gs, legal_take opens w ss d e l j tk, λ t is. joint_take opens w ss d e l j tk s gs t is)

-- a change of the turn keeps what holds together
pub turn_keeps : TurnKeeps
turn_keeps opens w ss d t j = joint_turned opens w ss d t j

-- a round in which a letter was taken may end, and all still holds together
pub round_keeps : RoundKeeps
round_keeps opens w ss d j t = (joint_round opens w ss d j t, start_round d)

-- a rank asks for another's cell at most once; its ask or answer is in one place or was read
pub one_state : OneState
one_state opens w ss d q p c sq sp j gq gp ne own =
    let t = j.trails q p c sq sp gq gp ne own in
    let t1 = t.asked in let t2 = t.came in let t3 = t.answered in
    let m1 = j.mailbox (asks_by q c) in let m2 = j.mailbox (answers_to q c) in
    ((j.each q sq gq).once c, omega arith)

-- a rank asks for no cell of its own, or of no rank
pub own_fresh : OwnFresh
own_fresh opens w ss d q c sq j gq ours =
    elim (has_or_not c sq.asked) [
      | inl m ↦ absurd (ours (subst (λ (p : ℕ). IsForeign w p c) (j.place q sq gq) ((j.each q sq gq).needed c m).0))
      | inr z ↦ z
    ]

-- a round after whose posting nothing is pending leaves all finished, and the log complete
pub quiet_ends : QuietEnds
quiet_ends opens w ss d j wk qt pe = (all_finished opens w ss d j wk qt pe, (j.legal, tt, j.wet), complete opens w ss d j wk qt pe)

zero_or_some : (n : ℕ) → (n ≡ 0) ⊎ (1 ≤ n)
zero_or_some zero = inl refl
zero_or_some (suc n) = inr (omega arith)

-- in a legal and complete log a rank asks for exactly the cells that it needs, each once
pub asks_exactly : AsksExactly
asks_exactly opens w log h k q c = (
  k.asked q c,
  λ no. elim (zero_or_some (in_posted (asks_by q c) log)) [
    | inl e ↦ e
    | inr o ↦ absurd (no (asked_needed opens w log h q c o))
  ],
)

-- two notes are the same where their test is true
pub same_notes : SameNotes
same_notes m n = same_note-decides m n

-- in each front of a legal log a note was taken at most as often as it was posted
pub taken_once : TakenOnce
taken_once opens w later front n h = taken_most opens w later front n h

-- in a front of a legal log a rank that asked for a cell has taken all others' branches
pub branches_first : BranchesFirst
branches_first opens w later front q c p h u n o = told_before opens w later front q c p h u n o

-- in a front of a legal log an ask for a cell that was answered to a rank was taken
pub asks_first : AsksFirst
asks_first opens w later front q c h o = asked_before opens w later front q c h o

-- in a good world all ranks together need at most the met cells times all ranks but one
pub few_needs : FewNeeds
few_needs opens w g = needs_bound opens w g

-- a legal log has at most one letter for each rank and another, and two for each needed cell
pub few_letters_of : FewLetters
few_letters_of opens w log h = few_letters opens w log h

-- a legal log of a good world has at most as many rounds as the bound
pub few_rounds_of : FewRounds
few_rounds_of opens w log g h = few_rounds opens w g log h

-- where all holds together the rounds are at most the letters, and below the bound
pub rounds_left : RoundsLeft
rounds_left opens w ss d j = joint_rounds opens w ss d j

-- where the log is prompt, a step of all ranks makes the letters of the next round
pub step_deepens : StepDeepens
step_deepens opens w ss ts d j quiet start len step prompt n deep = deep_step opens w ss ts d j quiet start len step prompt n deep

-- a letter that is posted leaves in the boxes letters of the same round
pub post_deep : PostDeep
post_deep ss d n q s t l gs first rest deep = deep_post ss d n q s t l gs first rest deep

-- a letter that is taken leaves in the boxes letters of the same round
pub take_deep : TakeDeep
take_deep opens w ss d e l n s t j tk gs is deep = deep_take opens w ss d e l n s t j tk gs is deep

-- a change of the turn leaves in the boxes letters of the same round
pub turn_deep : TurnDeep
turn_deep ss d n t deep = deep_turned ss d n t deep

-- the end of a round in which a letter was taken leaves in the boxes letters of that round
pub round_deep : RoundDeep
round_deep ss d n e t deep = deep_round ss d n e t deep
