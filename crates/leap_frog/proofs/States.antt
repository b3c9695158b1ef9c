-- Bodies with their velocities.
use Rattle.std.proofs.Common.{◌≡◌, ℕ, suc, ◌+◌, ◌<◌, ◌≤◌, List, [], ◌∷◌, ◌++◌, length, get_or, take, drop, ℤ, inl, inr, refl, sym, ◌∙◌, ap, arith}
use Rattle.std.specs.Prelude.{All, map, Result, Ok, Err, MatchResult}
use Rattle.std.proofs.lemmas.Bool.{cases_lt}
use Rattle.std.proofs.lemmas.List.{get_or_append_left, get_or_push, length-append, length-map}
use Rattle.std.proofs.lemmas.Grind.{common_steps}
use Rattle.std.proofs.lemmas.Int.{ints}
use Rattle.hot_units.specs.Limits.{max_bodies, max_all_mass}
use Rattle.hot_units.specs.Values.{components, BodyValue, Vector}
use Rattle.hot_units.specs.Bodies.{mass_of, mass_of_body, RowsCount, IsBody}
use Rattle.std.proofs.lemmas.List.Sums.{sum_by_push}
use Rattle.std.proofs.lemmas.List.Elements.{All-push, All-get_or, All-map, All-weaker}
use Rattle.leap_frog.specs.Leap.{Moving, bodies_of, opposite, turned}
use Rattle.leap_frog.specs.States.{moving, IsState, IsWithin, max_speed}

-- the bodies are the first list
pub bodies-moving : (bs : List BodyValue) (vs : List Vector) → length vs ≡ length bs → bodies_of (moving bs vs) ≡ bs
unfolding moving
bodies-moving [] vs h = refl
bodies-moving (b ∷ bs) [] h = absurd (omega arith)
bodies-moving (b ∷ bs) (v ∷ vs) h = ap (λ (x : List BodyValue). b ∷ x) (bodies-moving bs vs (omega arith))

-- the velocities are the second list
pub velocities-moving : (bs : List BodyValue) (vs : List Vector) → length vs ≡ length bs → map (λ m. m.velocity) (moving bs vs) ≡ vs
unfolding moving
velocities-moving [] [] h = refl
velocities-moving [] (v ∷ vs) h = absurd (omega arith)
velocities-moving (b ∷ bs) [] h = absurd (omega arith)
velocities-moving (b ∷ bs) (v ∷ vs) h = ap (λ (x : List Vector). v ∷ x) (velocities-moving bs vs (omega arith))

-- there are as many as bodies
pub length-moving : (bs : List BodyValue) (vs : List Vector) → length vs ≡ length bs → length (moving bs vs) ≡ length bs
unfolding moving
length-moving [] vs h = refl
length-moving (b ∷ bs) [] h = absurd (omega arith)
length-moving (b ∷ bs) (v ∷ vs) h = ap suc (length-moving bs vs (omega arith))

-- one more body with its velocity at the end
pub moving-push : (bs : List BodyValue) (vs : List Vector) (b : BodyValue) (v : Vector) → length vs ≡ length bs → moving (bs ++ b ∷ []) (vs ++ v ∷ []) ≡ moving bs vs ++ record { body = b; velocity = v } ∷ []
unfolding moving
moving-push [] [] b v h = refl
moving-push [] (w ∷ vs) b v h = absurd (omega arith)
moving-push (c ∷ bs) [] b v h = absurd (omega arith)
moving-push (c ∷ bs) (w ∷ vs) b v h = ap (λ (x : List Moving). record { body = c; velocity = w } ∷ x) (moving-push bs vs b v (omega arith))

-- opposite velocities turn the state
pub moving-opposite : (bs : List BodyValue) (vs : List Vector) → moving bs (map opposite vs) ≡ turned (moving bs vs)
unfolding moving
moving-opposite [] vs = refl
moving-opposite (b ∷ bs) [] = refl
moving-opposite (b ∷ bs) (v ∷ vs) = ap (λ (x : List Moving). record { body = b; velocity = opposite v } ∷ x) (moving-opposite bs vs)

-- no bodies and no velocities are no state
pub empty : moving [] [] ≡ []
unfolding moving
empty = refl

-- what the calls of a state need of its two lists
pub ruleset on_states = (bodies-moving, length-moving, moving-push, moving-opposite, empty)

-- the mass with one more body
mass_more : (xs : List BodyValue) (b : BodyValue) → mass_of (xs ++ b ∷ []) ≡ mass_of xs + b.mass
mass_more xs b = sum_by_push mass_of_body xs b

-- rows still count with one more body
rows_more : (xs : List BodyValue) (b : BodyValue) → RowsCount xs → b.row ≡ length xs → RowsCount (xs ++ b ∷ [])
rows_more xs b h e i d k =
    elim (cases_lt i (length xs)) [
      | inl p ↦ rw (get_or_append_left xs (b ∷ []) d i p) (h i d p)
      | inr p ↦ let q : i ≡ length xs = omega (arith, length-append xs (b ∷ [])) in rw (q, get_or_push) e
    ]

-- a state with one more body
pub state-push : (bs : List BodyValue) (vs : List Vector) (b : BodyValue) (v : Vector) → IsState bs vs → IsBody b → b.row ≡ length bs → length bs < max_bodies → mass_of bs + b.mass ≤ max_all_mass → IsWithin max_speed v → IsState (bs ++ b ∷ []) (vs ++ v ∷ [])
state-push bs vs b v s sound row few light slow = record {
  sound = All-push IsBody bs b s.sound sound;
  rows = rows_more bs b s.rows row;
  few = omega (arith, length-append bs (b ∷ []));
  light = rw (mass_more bs b) light;
  velocities_too = let e = s.velocities_too in omega (arith, length-append bs (b ∷ []), length-append vs (v ∷ []));
  slow = All-push (IsWithin max_speed) vs v s.slow slow;
}

-- a velocity of those not turned yet
pub still-within : (most i : ℕ) (f : Vector → Vector) (olds news : List Vector) (v : Vector) → All (IsWithin most) olds → i < length olds → news ≡ map f (take i olds) ++ drop i olds → v ≡ get_or news i v → IsWithin most (get_or news i v)
still-within most i f olds news v h lt e is =
    let old : get_or news i v ≡ get_or olds i v = rw e (grind (arith, common_steps)) in
    rw old (All-get_or (IsWithin most) olds i v lt h)

-- a list that is written over to its end
pub all-over : {X : Type 0} (f : X → X) (xs : List X) (i : ℕ) → length xs ≤ i → map f (take i xs) ++ drop i xs ≡ map f xs
all-over f xs i h = grind (arith, common_steps)

-- a list that is written over whole has nothing behind it
pub written-over : {X : Type 0} (f : X → X) (xs ys : List X) (n : ℕ) → ys ≡ map f xs → n ≡ length xs → take n (ys ++ drop (length ys) xs) ≡ map f xs
written-over f xs ys n e l = grind (arith, common_steps)

-- the opposite velocity is as large
within-opposite : (most : ℕ) (v : Vector) → IsWithin most v → IsWithin most (opposite v)
within-opposite most v h = record { x = let e = h.x in omega (arith, ints); y = let e = h.y in omega (arith, ints); z = let e = h.z in omega (arith, ints) }

-- a state with all velocities negated
pub state-turn : (bs : List BodyValue) (vs : List Vector) → IsState bs vs → IsState bs (map opposite vs)
state-turn bs vs s = record {
  sound = s.sound;
  rows = s.rows;
  few = s.few;
  light = s.light;
  velocities_too = length-map vs opposite ∙ s.velocities_too;
  slow = All-map (IsWithin max_speed) opposite vs (All-weaker (IsWithin max_speed) (λ v. IsWithin max_speed (opposite v)) (within-opposite max_speed) vs s.slow);
}

-- the components of the velocities, one by one
pub components-moving : (bs : List BodyValue) (vs : List Vector) → length vs ≡ length bs → map components vs ≡ map (λ (m : Moving). components m.velocity) (moving bs vs)
unfolding moving
components-moving [] [] h = refl
components-moving [] (v ∷ vs) h = absurd (omega arith)
components-moving (b ∷ bs) [] h = absurd (omega arith)
components-moving (b ∷ bs) (v ∷ vs) h = ap (λ (x : List (List ℤ)). components v ∷ x) (components-moving bs vs (omega arith))

-- what is known before a push: the lists of a state, and a body that fits behind it
pub record MayPush (bs : List BodyValue) (vs : List Vector) (s : List Moving) (b : BodyValue) (v : Vector) : Type 0 where
  pub view : moving bs vs ≡ s
  pub state : IsState bs vs
  pub sound : IsBody b
  pub row : b.row ≡ length s
  pub few : length s < max_bodies
  pub light : mass_of (bodies_of s) + b.mass ≤ max_all_mass
  pub slow : IsWithin max_speed v

-- the lists with one more body are those of a state
pushed-state : (bs nb : List BodyValue) (vs nv : List Vector) (s : List Moving) (b : BodyValue) (v : Vector) → MayPush bs vs s b v → nb ≡ bs ++ b ∷ [] → nv ≡ vs ++ v ∷ [] → IsState nb nv
pushed-state bs nb vs nv s b v m e g =
    let len = sym (length-moving bs vs m.state.velocities_too) ∙ ap length m.view in
    let all = sym (bodies-moving bs vs m.state.velocities_too) ∙ ap bodies_of m.view in
    rw (e, g) (state-push bs vs b v m.state m.sound (m.row ∙ sym len) (rw len m.few) (rw all m.light) m.slow)

-- the state with one more body
pushed-view : (bs nb : List BodyValue) (vs nv : List Vector) (s : List Moving) (b : BodyValue) (v : Vector) → MayPush bs vs s b v → nb ≡ bs ++ b ∷ [] → nv ≡ vs ++ v ∷ [] → moving nb nv ≡ s ++ record { body = b; velocity = v } ∷ []
pushed-view bs nb vs nv s b v m e g = rw (e, g) (moving-push bs vs b v m.state.velocities_too ∙ ap (λ (x : List Moving). x ++ record { body = b; velocity = v } ∷ []) m.view)

-- the lists behind a push are those of a state, whatever it answered
pub push-state : {E : Type 0} (r : Result (Unit {0}) E) (bs nb : List BodyValue) (vs nv : List Vector) (s : List Moving) (b : BodyValue) (v : Vector) → MayPush bs vs s b v → MatchResult r (λ _. nb ≡ bs ++ b ∷ []) (λ _. nb ≡ bs) → MatchResult r (λ _. nv ≡ vs ++ v ∷ []) (λ _. nv ≡ vs) → IsState nb nv
push-state (Ok u) bs nb vs nv s b v m e g = pushed-state bs nb vs nv s b v m e g
push-state (Err u) bs nb vs nv s b v m e g = rw (e, g) m.state

-- the state behind a push, whatever it answered
pub push-view : {E : Type 0} (r : Result (Unit {0}) E) (bs nb : List BodyValue) (vs nv : List Vector) (s : List Moving) (b : BodyValue) (v : Vector) → MayPush bs vs s b v → MatchResult r (λ _. nb ≡ bs ++ b ∷ []) (λ _. nb ≡ bs) → MatchResult r (λ _. nv ≡ vs ++ v ∷ []) (λ _. nv ≡ vs) → MatchResult r (λ _. moving nb nv ≡ s ++ record { body = b; velocity = v } ∷ []) (λ _. moving nb nv ≡ s)
push-view (Ok u) bs nb vs nv s b v m e g = pushed-view bs nb vs nv s b v m e g
push-view (Err u) bs nb vs nv s b v m e g = rw (e, g) m.view

-- a slice as long as a list, written back over the list
pub written-back : {X : Type 0} (xs ys : List X) (n : ℕ) → length ys ≡ length xs → n ≡ length xs → take n (ys ++ drop (length ys) xs) ≡ ys
written-back xs ys n e l = grind (arith, common_steps)
