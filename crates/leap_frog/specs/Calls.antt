-- The calls of an engine that a step makes.
use Rattle.std.specs.Prelude.{◌≡◌, ℕ, ◌-◌, ◌<◌, zero, suc, List, [], ◌∷◌, ◌++◌, take, Result, Ok, Err, Some, slice_get}
use Rattle.hot_units.specs.Values.{BodyValue}
use Rattle.leap_frog.specs.declared.refused.StepRefused.{StepRefused}
use Rattle.leap_frog.specs.declared.refused.StepRefused.TheVariants.{Leaves, Memory}
use Rattle.leap_frog.specs.declared.refused.StepsRefused.{StepsRefused}
use Rattle.leap_frog.specs.declared.refused.StepsRefused.TheVariants as many
use Rattle.leap_frog.specs.Leap.{Moving, ForceLaw, Leaver, bodies_of, kicked, drifted, leavers, step, steps}

-- what a call leaves: engine and link before, the bodies, and engine and link after
abbrev pub CallOf : Type 0 → Type 0 → Type 1
CallOf E L = E → L → List BodyValue → E → L → Type 0

-- what an engine promises: which links it may be handed, what an answer leaves and what a refusal leaves
pub record Rules (E L : Type 0) : Type 1 where
  pub is_ready : E → L → Type 0
  pub answers : CallOf E L
  pub refuses : CallOf E L

-- calls over these lists of bodies, one after the other, were answered
abbrev pub Answered : {E L : Type 0} → CallOf E L → List (List BodyValue) → E → L → E → L → Type 0
Answered answers [] e l f k = (f ≡ e) × (k ≡ l)
Answered {E} {L} answers (bodies ∷ more) e l f k = (d : E) × (j : L) × answers e l bodies d j × Answered answers more d j f k

-- calls were answered, and then one over these bodies was refused
abbrev pub RefusedAt : {E L : Type 0} → Rules E L → List (List BodyValue) → List BodyValue → E → L → E → L → Type 0
RefusedAt {E} {L} rules lists bodies e l f k =
    (d : E) × (j : L) × Answered rules.answers lists e l d j × rules.refuses d j bodies f k

-- these bodies, unless one leaves the cube
abbrev pub unless_left : List Leaver → List BodyValue → List (List BodyValue)
unless_left [] bodies = bodies ∷ []
unless_left (l ∷ ls) bodies = []

-- for whom the engine is asked in a step: the bodies of the state, and where the drift keeps all in the cube those
-- behind it
abbrev pub asked_for : ForceLaw → List Moving → List (List BodyValue)
asked_for law s = bodies_of s ∷ unless_left (leavers (kicked law s)) (bodies_of (drifted (kicked law s)))

-- some of these calls were answered, in order, and perhaps the next one was refused
pub data Broke {E L : Type 0} (rules : Rules E L) (lists : List (List BodyValue)) (e : E) (l : L) (f : E) (k : L) : Type 0 where
  AfterAnswers : (n : ℕ) → Answered rules.answers (take n lists) e l f k → Broke rules lists e l f k
  AtRefusal : (n : ℕ) (bodies : List BodyValue) → slice_get lists n ≡ Some bodies → RefusedAt rules (take n lists) bodies e l f k → Broke rules lists e l f k

-- what a step leaves of engine and link: both calls were answered, and the link is ready; or the first alone, where a
-- body leaves the cube; or some, and perhaps the next was refused
abbrev pub StepLeaves : {E L : Type 0} → Rules E L → List (List BodyValue) → Result (Unit {0}) StepRefused → E → L → E → L → Type 0
StepLeaves rules lists (Ok done) e l f k = Answered rules.answers lists e l f k × rules.is_ready f k
StepLeaves rules lists (Err (Leaves row axis)) e l f k = Answered rules.answers lists e l f k × rules.is_ready f k
StepLeaves rules lists (Err Memory) e l f k = Broke rules lists e l f k

-- the lists of bodies for which the engine is asked in n steps: two a step, and one where a body leaves the cube
unfoldable pub asked_in : ForceLaw → ℕ → List Moving → List (List BodyValue)
asked_in law zero s = []
asked_in law (suc n) s = elim (step law s) [
  | Ok t ↦ asked_for law s ++ asked_in law n t
  | Err l ↦ asked_for law s
]

-- so many steps as a call is to make by a law, the state before it and the one that it leaves
pub record Course : Type 0 where
  pub law : ForceLaw
  pub count : ℕ
  pub first : List Moving
  pub last : List Moving

-- fewer steps were made, and then memory ran out in or behind a call of the next one
pub record BrokeIn {E L : Type 0} (rules : Rules E L) (c : Course) (e : E) (l : L) (f : E) (k : L) : Type 0 where
  pub made : ℕ
  pub fewer : made < c.count
  pub steps : steps c.law made c.first ≡ Ok c.last
  pub engine : E
  pub link : L
  pub answered : Answered rules.answers (asked_in c.law made c.first) e l engine link
  pub broke : Broke rules (asked_for c.law c.last) engine link f k

-- what some steps leave of engine and link
abbrev pub StepsLeave : {E L : Type 0} → Rules E L → Course → Result (Unit {0}) StepsRefused → E → L → E → L → Type 0
StepsLeave rules c (Ok done) e l f k = Answered rules.answers (asked_in c.law c.count c.first) e l f k × rules.is_ready f k
StepsLeave rules c (Err (many.Leaves number row axis)) e l f k = Answered rules.answers (asked_in c.law c.count c.first) e l f k × rules.is_ready f k
StepsLeave rules c (Err many.Memory) e l f k = BrokeIn rules c e l f k

-- a call that makes some steps answers so: where it is refused, the state is that of the steps before
abbrev pub StepsAnswer : Course → Result (Unit {0}) StepsRefused → Type 0
StepsAnswer c (Ok done) = steps c.law c.count c.first ≡ Ok c.last
StepsAnswer c (Err (many.Leaves number row axis)) =
    (steps c.law c.count c.first ≡ Err (record { number = number; leaver = record { row = row; axis = axis } }))
    × (steps c.law (number - 1) c.first ≡ Ok c.last)
StepsAnswer c (Err many.Memory) = (made : ℕ) × (made < c.count) × (steps c.law made c.first ≡ Ok c.last)

-- the refusal of the step of this number
abbrev pub at_step : ℕ → StepRefused → StepsRefused
at_step number (Leaves row axis) = many.Leaves number row axis
at_step number Memory = many.Memory
