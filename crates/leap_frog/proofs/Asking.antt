-- The calls of an engine that a step makes.
use Rattle.std.proofs.Common.{◌≡◌, List, [], ◌∷◌, Ok, Err, refl, sym, subst, ap}
use Rattle.hot_units.specs.Values.{BodyValue}
use Rattle.leap_frog.specs.declared.refused.StepRefused.{StepRefused}
use Rattle.leap_frog.specs.declared.refused.StepRefused.TheVariants.{Leaves, Memory}
use Rattle.leap_frog.specs.Leap.{Moving, ForceLaw, Leaver, bodies_of, kicked, drifted, leavers, if_none_leaves, step}
use Rattle.leap_frog.specs.States.{StepAnswers}
use Rattle.leap_frog.specs.Calls.{Rules, Answered, Broke, AfterAnswers, AtRefusal, StepLeaves, asked_for, unless_left}

-- where somebody leaves the cube there is no second list
no-second : (ls : List Leaver) (s : List Moving) (bodies : List BodyValue) (l : Leaver) → if_none_leaves ls s ≡ Err l → unless_left ls bodies ≡ []
no-second [] s bodies l h = cc
no-second (m ∷ ls) s bodies l h = refl

-- where a step is not made the engine is asked once
pub asked-once : (law : ForceLaw) (s : List Moving) (l : Leaver) → step law s ≡ Err l → asked_for law s ≡ bodies_of s ∷ []
unfolding step
asked-once law s l h = ap (λ (x : List (List BodyValue)). bodies_of s ∷ x) (no-second (leavers (kicked law s)) _ _ l h)

-- where nobody leaves the cube it is asked twice
pub asked-twice : (law : ForceLaw) (s : List Moving) → leavers (kicked law s) ≡ [] → asked_for law s ≡ bodies_of s ∷ bodies_of (drifted (kicked law s)) ∷ []
asked-twice law s none = ap (λ (x : List Leaver). bodies_of s ∷ unless_left x (bodies_of (drifted (kicked law s)))) none

-- the first call was answered, and no other was made
pub after-first : {E L : Type 0} (rules : Rules E L) (law : ForceLaw) (s : List Moving) (x : StepRefused) (e : E) (l : L) (f : E) (k : L) → StepAnswers law s s (Err x) → rules.answers e l (bodies_of s) f k → rules.is_ready f k → StepLeaves rules (asked_for law s) (Err x) e l f k
after-first {E} {L} rules law s (Leaves row axis) e l f k st a r =
    let P : List (List BodyValue) → Type 0 = λ y. Answered rules.answers y e l f k in
    (subst P (sym (asked-once law s _ st.0)) (f, k, a, (refl, refl)), r)
after-first rules law s Memory e l f k st a r = AfterAnswers 1 (f, k, a, (refl, refl))

-- the first call was refused
pub first-refused : {E L : Type 0} (rules : Rules E L) (law : ForceLaw) (s : List Moving) (e : E) (l : L) (f : E) (k : L) → rules.refuses e l (bodies_of s) f k → Broke rules (asked_for law s) e l f k
first-refused rules law s e l f k r = AtRefusal 0 (bodies_of s) refl (e, l, (refl, refl), r)

-- the second call was refused
pub second-refused : {E L : Type 0} (rules : Rules E L) (law : ForceLaw) (s : List Moving) (e : E) (l : L) (d : E) (j : L) (f : E) (k : L) → leavers (kicked law s) ≡ [] → rules.answers e l (bodies_of s) d j → rules.refuses d j (bodies_of (drifted (kicked law s))) f k → Broke rules (asked_for law s) e l f k
second-refused {E} {L} rules law s e l d j f k none a r =
    let P : List (List BodyValue) → Type 0 = λ y. Broke rules y e l f k in
    subst P (sym (asked-twice law s none)) (AtRefusal 1 (bodies_of (drifted (kicked law s))) refl (d, j, (d, j, a, (refl, refl)), r))

-- both calls were answered
pub both-answered : {E L : Type 0} (rules : Rules E L) (law : ForceLaw) (s : List Moving) (e : E) (l : L) (d : E) (j : L) (f : E) (k : L) → leavers (kicked law s) ≡ [] → rules.answers e l (bodies_of s) d j → rules.answers d j (bodies_of (drifted (kicked law s))) f k → Answered rules.answers (asked_for law s) e l f k
both-answered {E} {L} rules law s e l d j f k none a b =
    let P : List (List BodyValue) → Type 0 = λ y. Answered rules.answers y e l f k in
    subst P (sym (asked-twice law s none)) (d, j, a, (f, k, b, (refl, refl)))
