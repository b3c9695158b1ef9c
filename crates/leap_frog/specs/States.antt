-- What a state keeps: a list of bodies and a list of velocities.
use Rattle.std.specs.Prelude.{◌≡◌, ℕ, ◌^◌, ◌≤◌, ℤ, pos, nat_abs, List, [], ◌∷◌, length, All, Result, Ok, Err, Some, slice_get, slice_index_or}
use Rattle.hot_units.specs.Limits.{max_bodies, max_all_mass}
use Rattle.hot_units.specs.Values.{BodyValue, Vector, Acc3Value}
use Rattle.hot_units.specs.Bodies.{RowsCount, mass_of, IsBody}
use Rattle.hot_model.specs.Kernel.{plus}
use Rattle.leap_frog.specs.declared.refused.StepRefused.{StepRefused}
use Rattle.leap_frog.specs.declared.refused.StepRefused.TheVariants.{Leaves, Memory}
use Rattle.leap_frog.specs.Leap.{Moving, ForceLaw, Leaver, bodies_of, drifted, leavers, step}

-- the largest velocity of a body on an axis, in size
abbrev pub max_speed : ℕ
max_speed = 2 ^ 81

-- the largest force on a body on an axis, in size
abbrev pub max_force : ℕ
max_force = 2 ^ 80

-- more than any velocity between the two kicks of a step
abbrev pub max_kicked : ℕ
max_kicked = 2 ^ 82

-- the largest velocity that keeps a body in the cube, in size
abbrev pub max_inside : ℕ
max_inside = 2 ^ 50

-- on each axis the velocity is at most so large in size
pub record IsWithin (most : ℕ) (v : Vector) : Type 0 where
  pub x : nat_abs v.x ≤ most
  pub y : nat_abs v.y ≤ most
  pub z : nat_abs v.z ≤ most

-- three numbers as a vector
abbrev pub vector_of : List ℤ → Vector
vector_of v = record { x = slice_index_or v 0 (pos 0); y = slice_index_or v 1 (pos 0); z = slice_index_or v 2 (pos 0) }

-- the force in an accumulator
abbrev pub force_in : Acc3Value → Vector
force_in a = record { x = a.ax; y = a.ay; z = a.az }

-- bodies with their velocities
unfoldable pub moving : List BodyValue → List Vector → List Moving
moving [] vs = []
moving (b ∷ bs) [] = []
moving (b ∷ bs) (v ∷ vs) = record { body = b; velocity = v } ∷ moving bs vs

-- what holds of each state: each body has its place as its row and has a velocity, which is not too large
pub record IsState (bodies : List BodyValue) (velocities : List Vector) : Type 0 where
  pub sound : All IsBody bodies
  pub rows : RowsCount bodies
  pub few : length bodies ≤ max_bodies
  pub light : mass_of bodies ≤ max_all_mass
  pub velocities_too : length velocities ≡ length bodies
  pub slow : All (IsWithin max_speed) velocities

-- the sums of two lists of vectors, one by one
unfoldable pub sums : List Vector → List Vector → List Vector
sums [] more = []
sums (v ∷ vs) [] = []
sums (v ∷ vs) (w ∷ ws) = plus v w ∷ sums vs ws

-- a call stops at the first of these, or for want of memory
abbrev pub StopsAt : List Leaver → StepRefused → Type 0
StopsAt ls (Leaves row axis) = slice_get ls 0 ≡ Some (record { row = row; axis = axis })
StopsAt ls Memory = Unit {0}

-- nobody leaves the cube, and these are the bodies behind the drift
pub record IsDrifted (s : List Moving) (after : List BodyValue) : Type 0 where
  pub none : leavers s ≡ []
  pub bodies : after ≡ bodies_of (drifted s)

-- the bodies behind a drift of these bodies with these velocities, and the velocities between the two kicks
pub record IsHalfway (bodies after : List BodyValue) (halfway : List Vector) : Type 0 where
  pub drifted : IsDrifted (moving bodies halfway) after
  pub long : length halfway ≡ length bodies
  pub slow : All (IsWithin max_inside) halfway

-- a call that makes one step by this law answers so: the state is the one that the step gives, or unchanged
abbrev pub StepAnswers : ForceLaw → List Moving → List Moving → Result (Unit {0}) StepRefused → Type 0
StepAnswers law s t (Ok done) = step law s ≡ Ok t
StepAnswers law s t (Err (Leaves row axis)) = (step law s ≡ Err (record { row = row; axis = axis })) × (t ≡ s)
StepAnswers law s t (Err Memory) = t ≡ s
