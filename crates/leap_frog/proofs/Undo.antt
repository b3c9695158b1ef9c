-- A step can be taken back.
use Rattle.std.proofs.Common.{◌≡◌, ℕ, zero, suc, ◌/◌, ◌^◌, ◌<◌, Bool, true, false, List, [], ◌∷◌, ◌++◌, Ok, Err, ℤ, pos, negsuc, ◌+ℤ◌, neg_ℤ, nat_abs, refl, sym, ◌∙◌, ap, append_assoc, arith}
use Rattle.std.specs.Prelude.{All, map}
use Rattle.std.proofs.lemmas.Int.{ints}
use Rattle.std.proofs.lemmas.List.Elements.{All-nil, All-cons, All-head, All-tail}
use Rattle.std.proofs.lemmas.List.{append-nil}
use Rattle.std.proofs.lemmas.Bool.{lt-ltb, ltb-true, le-leb}
use Rattle.std.proofs.Math.IntN.{neg_ℤ-neg_ℤ}
use Rattle.hot_units.specs.Limits.{fine_bits}
use Rattle.hot_units.specs.Values.{BodyValue, Vector}
use Rattle.hot_units.specs.declared.cube.Axis.TheVariants.{X, Y, Z}
use Rattle.leap_frog.specs.Leap.{Moving, ForceLaw, Leaver, velocity_bits, bodies_of, kicked_by, kicked, carried, place_after, is_fine, put, drifted, unless, outside, leaving, leavers, if_none_leaves, step, steps_from, turn, turned, IsPlaced}
use Rattle.leap_frog.specs.Laws.{StepsUndo}

-- ---- numbers

-- the way back is as long
pub carried-neg : (v : ℤ) → carried (neg_ℤ v) ≡ neg_ℤ (carried v)
carried-neg (pos zero) = refl
carried-neg (pos (suc n)) = refl
carried-neg (negsuc n) = sym (neg_ℤ-neg_ℤ (pos (suc n / 2 ^ velocity_bits)))

-- a kick of the opposite velocity takes the kick back
kick-back : (v a : ℤ) → neg_ℤ (v +ℤ a) +ℤ a ≡ neg_ℤ v
kick-back v a = omega (arith, ints)

-- a coordinate in the cube, as a natural number
pub fine-is : (z : ℤ) → is_fine z ≡ true → pos (nat_abs z) ≡ z
fine-is (pos n) h = refl
fine-is (negsuc n) h = cc

-- a coordinate in the cube is below its edge
pub fine-below : (z : ℤ) → is_fine z ≡ true → nat_abs z < 2 ^ fine_bits
fine-below (pos n) h = ltb-true n (2 ^ fine_bits) (rw (le-leb 0 n (omega arith)) at h)
fine-below (negsuc n) h = cc

-- what is below the edge is in the cube
pub below-fine : (n : ℕ) → n < 2 ^ fine_bits → is_fine (pos n) ≡ true
below-fine n h = rw (le-leb 0 n (omega arith), lt-ltb n (2 ^ fine_bits) h) refl

-- a drift by the opposite velocity takes the drift back
drift-back : (x : ℕ) (v : ℤ) → is_fine (pos x +ℤ carried v) ≡ true → pos (nat_abs (pos x +ℤ carried v)) +ℤ carried (neg_ℤ v) ≡ pos x
drift-back x v h =
    let e = fine-is (pos x +ℤ carried v) h in
    rw (e, carried-neg v) (omega (arith, ints))

-- ---- one body

-- turned and kicked again, a kicked body is the body turned
turn-kick : (m : Moving) (a : Vector) → kicked_by a (turn (kicked_by a m)) ≡ turn m
turn-kick m a = rw (kick-back m.velocity.x a.x, kick-back m.velocity.y a.y, kick-back m.velocity.z a.z) refl

-- who turns twice goes on as before
turn-turn : (m : Moving) → turn (turn m) ≡ m
turn-turn m = rw (neg_ℤ-neg_ℤ m.velocity.x, neg_ℤ-neg_ℤ m.velocity.y, neg_ℤ-neg_ℤ m.velocity.z) refl

-- a place in the cube
pub record IsInside (p : Vector) : Type 0 where
  pub x_in : is_fine p.x ≡ true
  pub y_in : is_fine p.y ≡ true
  pub z_in : is_fine p.z ≡ true

-- a body where its velocity carries it
abbrev pub moved : Moving → Moving
moved m = put (place_after m) m

-- where a body comes from
place-back : (m : Moving) → IsInside (place_after m) → place_after (turn (moved m)) ≡ record { x = pos m.body.x; y = pos m.body.y; z = pos m.body.z }
place-back m i = rw (drift-back m.body.x m.velocity.x i.x_in, drift-back m.body.y m.velocity.y i.y_in, drift-back m.body.z m.velocity.z i.z_in) refl

-- a body that turns round comes back
moved-back : (m : Moving) → IsInside (place_after m) → moved (turn (moved m)) ≡ turn m
moved-back m i = ap (λ (p : Vector). put p (turn (moved m))) (place-back m i)

-- a body that stays leaves on no axis
nobody : (row : ℕ) (p : Vector) → IsInside p → outside row p ≡ []
nobody row p i = rw (i.x_in, i.y_in, i.z_in) refl

-- a body in the cube stands inside
placed-inside : (m : Moving) → IsPlaced m → IsInside (record { x = pos m.body.x; y = pos m.body.y; z = pos m.body.z })
placed-inside m i = record { x_in = below-fine m.body.x i.x_in; y_in = below-fine m.body.y i.y_in; z_in = below-fine m.body.z i.z_in }

-- who turns round does not leave the cube
back-inside : (m : Moving) → IsPlaced m → IsInside (place_after m) → leaving (turn (moved m)) ≡ []
back-inside m p i = ap (λ (q : Vector). outside m.body.row q) (place-back m i) ∙ nobody m.body.row _ (placed-inside m p)

-- a body that stays is in the cube
moved-placed : (m : Moving) → IsInside (place_after m) → IsPlaced (moved m)
moved-placed m i = record {
  x_in = fine-below (place_after m).x i.x_in;
  y_in = fine-below (place_after m).y i.y_in;
  z_in = fine-below (place_after m).z i.z_in;
}

-- a test that nobody fails
pub unless-passed : (b : Bool) (l : Leaver) (more : List Leaver) → unless b l ++ more ≡ [] → (b ≡ true) × (more ≡ [])
unless-passed true l more h = (refl, h)
unless-passed false l more h = cc

-- who leaves on no axis stays inside
pub stays : (m : Moving) → leaving m ≡ [] → IsInside (place_after m)
stays m h =
    let p = place_after m in
    let z_out = unless (is_fine p.z) (record { row = m.body.row; axis = Z }) in
    let y_out = unless (is_fine p.y) (record { row = m.body.row; axis = Y }) in
    let first = unless-passed (is_fine p.x) (record { row = m.body.row; axis = X }) (y_out ++ z_out) (sym (append_assoc _ y_out z_out) ∙ h) in
    let second = unless-passed (is_fine p.y) (record { row = m.body.row; axis = Y }) z_out first.1 in
    let third = unless-passed (is_fine p.z) (record { row = m.body.row; axis = Z }) [] (append-nil z_out ∙ second.1) in
    record { x_in = first.0; y_in = second.0; z_in = third.0 }

-- two lists without an element
pub append_nothing : {X : Type 0} (xs ys : List X) → xs ++ ys ≡ [] → (xs ≡ []) × (ys ≡ [])
append_nothing [] ys h = (refl, h)
append_nothing (x ∷ xs) ys h = cc

-- ---- all bodies

-- the forces that a kick adds, each found for the list of bodies
abbrev given : (BodyValue → Vector) → List Moving → List Moving
given force s = map (λ m. kicked_by (force m.body) m) s

-- a kick moves no body
bodies-given : (force : BodyValue → Vector) (s : List Moving) → bodies_of (given force s) ≡ bodies_of s
bodies-given force [] = refl
bodies-given force (m ∷ s) = ap (λ (bs : List BodyValue). m.body ∷ bs) (bodies-given force s)

-- to turn moves no body
bodies-turned : (s : List Moving) → bodies_of (turned s) ≡ bodies_of s
bodies-turned [] = refl
bodies-turned (m ∷ s) = ap (λ (bs : List BodyValue). m.body ∷ bs) (bodies-turned s)

-- kicked, turned and kicked again by the same forces is turned
given-back : (force : BodyValue → Vector) (s : List Moving) → given force (turned (given force s)) ≡ turned s
given-back force [] = refl
given-back force (m ∷ s) = rw (turn-kick m (force m.body), given-back force s) refl

-- all turned twice is the state
pub turned-turned : (s : List Moving) → turned (turned s) ≡ s
turned-turned [] = refl
turned-turned (m ∷ s) = rw (turn-turn m, turned-turned s) refl

-- kicked, turned and kicked again is turned
kicked-back : (law : ForceLaw) (s : List Moving) → kicked law (turned (kicked law s)) ≡ turned s
kicked-back law s =
    let same = bodies-turned (kicked law s) ∙ bodies-given (law (bodies_of s)) s in
    ap (λ (bs : List BodyValue). given (law bs) (turned (kicked law s))) same ∙ given-back (law (bodies_of s)) s

-- drifted, turned and drifted again is turned
drifted-back : (s : List Moving) → leavers s ≡ [] → drifted (turned (drifted s)) ≡ turned s
drifted-back [] h = refl
drifted-back (m ∷ s) h =
    let parts = append_nothing (leaving m) (leavers s) h in
    rw (moved-back m (stays m parts.0), drifted-back s parts.1) refl

-- on the way back nobody leaves the cube
none-back : (s : List Moving) → All IsPlaced s → leavers s ≡ [] → leavers (turned (drifted s)) ≡ []
none-back [] p h = refl
none-back (m ∷ s) p h =
    let parts = append_nothing (leaving m) (leavers s) h in
    rw (back-inside m (All-head IsPlaced m s p) (stays m parts.0), none-back s (All-tail IsPlaced m s p) parts.1) refl

-- who stays in a drift is in the cube
drifted-placed : (s : List Moving) → leavers s ≡ [] → All IsPlaced (drifted s)
drifted-placed [] h = All-nil IsPlaced
drifted-placed (m ∷ s) h =
    let parts = append_nothing (leaving m) (leavers s) h in
    All-cons IsPlaced (moved m) (drifted s) (moved-placed m (stays m parts.0)) (drifted-placed s parts.1)

-- a kick keeps all in the cube
given-placed : (force : BodyValue → Vector) (s : List Moving) → All IsPlaced s → All IsPlaced (given force s)
given-placed force [] p = All-nil IsPlaced
given-placed force (m ∷ s) p =
    let head = All-head IsPlaced m s p in
    All-cons IsPlaced _ _ (record { x_in = head.x_in; y_in = head.y_in; z_in = head.z_in }) (given-placed force s (All-tail IsPlaced m s p))

-- ---- a step

-- what one step is, where it is made
pub record Steps (law : ForceLaw) (s t : List Moving) : Type 0 where
  pub nobody_leaves : leavers (kicked law s) ≡ []
  pub is : t ≡ kicked law (drifted (kicked law s))

-- a step that is made has nobody that leaves
made : (ls : List Leaver) (s t : List Moving) → if_none_leaves ls s ≡ Ok t → (ls ≡ []) × (t ≡ s)
made [] s t h = (refl, cc)
made (l ∷ ls) s t h = cc

-- what is known of a step that is made
pub steps-is : (law : ForceLaw) (s t : List Moving) → step law s ≡ Ok t → Steps law s t
unfolding step
steps-is law s t h = let m = made _ _ t h in record { nobody_leaves = m.0; is = m.1 }

-- and from that it is made
pub step-of : (law : ForceLaw) (s t : List Moving) → Steps law s t → step law s ≡ Ok t
unfolding step
step-of law s t h = rw h.nobody_leaves (ap (λ (x : List Moving). Ok x) (sym h.is))

-- a step keeps all in the cube
pub step-placed : (law : ForceLaw) (s t : List Moving) → step law s ≡ Ok t → All IsPlaced t
step-placed law s t h =
    let made = steps-is law s t h in
    rw made.is (given-placed _ _ (drifted-placed _ made.nobody_leaves))

-- One step back.
pub step-back : (law : ForceLaw) (s t : List Moving) → All IsPlaced s → step law s ≡ Ok t → step law (turned t) ≡ Ok (turned s)
step-back law s t p h =
    let made = steps-is law s t h in
    let k = kicked law s in
    let d = drifted k in
    let again : kicked law (turned t) ≡ turned d = ap (λ (x : List Moving). kicked law (turned x)) made.is ∙ kicked-back law d in
    let back : drifted (kicked law (turned t)) ≡ turned k = ap drifted again ∙ drifted-back k made.nobody_leaves in
    step-of law (turned t) (turned s) (record {
      nobody_leaves = ap leavers again ∙ none-back k (given-placed _ s p) made.nobody_leaves;
      is = sym (ap (kicked law) back ∙ kicked-back law s);
    })

-- ---- steps

-- the first of some steps, and the others
pub record Parts (law : ForceLaw) (k n : ℕ) (s t : List Moving) : Type 0 where
  pub between : List Moving
  pub first : step law s ≡ Ok between
  pub others : steps_from law (suc k) n between ≡ Ok t

-- some steps are a first one and the others
pub parts : (law : ForceLaw) (k n : ℕ) (s t : List Moving) → steps_from law k (suc n) s ≡ Ok t → Parts law k n s t
unfolding steps_from
parts law k n s t h = elim (step law s) as (λ r. (step law s ≡ r) → (elim r [ Ok u ↦ steps_from law (suc k) n u | Err l ↦ Err (record { number = k; leaver = l }) ]) ≡ Ok t → Parts law k n s t) [
  | Ok u ↦ λ e g. record { between = u; first = e; others = g }
  | Err l ↦ λ e g. cc
] refl h

-- a first step and others
joined : (law : ForceLaw) (k n : ℕ) (s t : List Moving) → Parts law k n s t → steps_from law k (suc n) s ≡ Ok t
unfolding steps_from
joined law k n s t p = rw (p.first, steps_from) p.others

-- some steps and a last one
pub one-more : (law : ForceLaw) (k n : ℕ) (s t u : List Moving) → steps_from law k n s ≡ Ok t → step law t ≡ Ok u → steps_from law k (suc n) s ≡ Ok u
unfolding steps_from
one-more law k zero s t u h e =
    let same : s ≡ t = cc in
    joined law k zero s u (record { between = u; first = ap (step law) same ∙ e; others = refl })
one-more law k (suc n) s t u h e =
    let p = parts law k n s t h in
    joined law k (suc n) s u (record { between = p.between; first = p.first; others = one-more law (suc k) n p.between t u p.others e })

-- The number of the first step matters only where one is not made.
numbered : (law : ForceLaw) (j k n : ℕ) (s t : List Moving) → steps_from law j n s ≡ Ok t → steps_from law k n s ≡ Ok t
unfolding steps_from
numbered law j k zero s t h = h
numbered law j k (suc n) s t h =
    let p = parts law j n s t h in
    joined law k n s t (record { between = p.between; first = p.first; others = numbered law (suc j) (suc k) n p.between t p.others })

-- Steps back.
back-from : (law : ForceLaw) (k n : ℕ) (s t : List Moving) → All IsPlaced s → steps_from law k n s ≡ Ok t → steps_from law k n (turned t) ≡ Ok (turned s)
unfolding steps_from
back-from law k zero s t p h = let same : s ≡ t = cc in ap (λ (x : List Moving). Ok (turned x)) (sym same)
back-from law k (suc n) s t p h =
    let m = parts law k n s t h in
    let placed = step-placed law s m.between m.first in
    let rest = numbered law (suc k) k n _ _ (back-from law (suc k) n m.between t placed m.others) in
    one-more law k n (turned t) (turned m.between) (turned s) rest (step-back law s m.between p m.first)

-- Steps and the same steps back.
pub steps-undo : StepsUndo
steps-undo law n s t p h = rw (back-from law 1 n s t p h) (ap (λ (x : List Moving). Ok x) (turned-turned s))
