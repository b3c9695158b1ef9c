-- Bodies that drift one after the other.
use Rattle.std.proofs.Common.{◌≡◌, ℕ, zero, suc, ◌+◌, ◌<◌, ◌≤◌, List, [], ◌∷◌, ◌++◌, length, get_or, take, drop, map, true, take_all, ℤ, pos, ◌+ℤ◌, nat_abs, refl, sym, subst, ◌∙◌, ap, drop-cons, arith}
use Rattle.std.proofs.lemmas.List.{map_more, take_more, take-append-drop}
use Rattle.std.proofs.lemmas.Grind.{flat_map-append}
use Rattle.hot_units.specs.Values.{BodyValue, Vector}
use Rattle.leap_frog.specs.declared.refused.StepRefused.{StepRefused}
use Rattle.leap_frog.specs.declared.refused.StepRefused.TheVariants.{Leaves, Memory}
use Rattle.leap_frog.specs.Leap.{Moving, Leaver, bodies_of, drifted, leavers, leaving, put, place_after, is_fine, carried}
use Rattle.leap_frog.specs.States.{moving, IsDrifted, StopsAt}
use Rattle.leap_frog.proofs.States.{length-moving}

-- a body with its velocity, by its place
pub moving-at : (bs : List BodyValue) (vs : List Vector) (i : ℕ) (b : BodyValue) (v : Vector) (d : Moving) → i < length bs → i < length vs → b ≡ get_or bs i b → v ≡ get_or vs i v → get_or (moving bs vs) i d ≡ record { body = b; velocity = v }
unfolding moving
moving-at [] vs i b v d p q e f = absurd (omega arith)
moving-at (c ∷ bs) [] i b v d p q e f = absurd (omega arith)
moving-at (c ∷ bs) (w ∷ vs) zero b v d p q e f = rw (← e, ← f) refl
moving-at (c ∷ bs) (w ∷ vs) (suc i) b v d p q e f = moving-at bs vs i b v d (omega arith) (omega arith) e f

-- the body where its velocity carries it
abbrev pub after_drift : Moving → BodyValue
after_drift m = (put (place_after m) m).body

-- the bodies behind a drift, one by one
pub bodies-drifted : (s : List Moving) → bodies_of (drifted s) ≡ map after_drift s
bodies-drifted [] = refl
bodies-drifted (m ∷ s) = ap (λ (x : List BodyValue). after_drift m ∷ x) (bodies-drifted s)

-- of no bodies none leaves
pub drifted-none : (after : List BodyValue) → after ≡ [] → IsDrifted [] after
drifted-none after e = record { none = refl; bodies = e }

-- those who leave of two lists, joined
leavers-append : (s t : List Moving) → leavers (s ++ t) ≡ leavers s ++ leavers t
leavers-append s t = flat_map-append leaving s t

-- one more body that stays in the cube
pub drifted-one : (s : List Moving) (i : ℕ) (m : Moving) (after : List BodyValue) → i < length s → get_or s i m ≡ m → IsDrifted (take i s) after → leaving m ≡ [] → IsDrifted (take (i + 1) s) (after ++ after_drift m ∷ [])
drifted-one s i m after lt at h stays =
    let more : take (i + 1) s ≡ take i s ++ m ∷ [] = take_more s i m lt ∙ ap (λ (x : Moving). take i s ++ x ∷ []) at in
    record {
      none = ap leavers more ∙ (leavers-append (take i s) (m ∷ []) ∙ rw (h.none, stays) refl);
      bodies =
          rw h.bodies (ap (λ (x : List BodyValue). x ++ after_drift m ∷ []) (bodies-drifted (take i s))
          ∙ (ap (λ (x : Moving). map after_drift (take i s) ++ after_drift x ∷ []) (sym at)
          ∙ (sym (map_more after_drift s i m lt) ∙ sym (bodies-drifted (take (i + 1) s)))));
    }

-- the first of a list is the first of a longer one
stops-append : (ls rest : List Leaver) (e : StepRefused) → StopsAt ls e → StopsAt (ls ++ rest) e
stops-append [] rest (Leaves row axis) h = cc
stops-append (l ∷ ls) rest (Leaves row axis) h = h
stops-append ls rest Memory h = tt

-- the first body that leaves is the first of all
pub stops-at : (s : List Moving) (i : ℕ) (m : Moving) (after : List BodyValue) (e : StepRefused) → i < length s → get_or s i m ≡ m → IsDrifted (take i s) after → StopsAt (leaving m) e → StopsAt (leavers s) e
stops-at s i m after e lt at h stop =
    let rest = drop (suc i) s in
    let parts : s ≡ take i s ++ m ∷ rest = sym (take-append-drop i s) ∙ ap (λ (x : List Moving). take i s ++ x) (drop-cons s i m lt ∙ ap (λ (x : Moving). x ∷ rest) at) in
    let all : leavers s ≡ leaving m ++ leavers rest = ap leavers parts ∙ (leavers-append (take i s) (m ∷ rest) ∙ rw h.none refl) in
    let P : List Leaver → Type 0 = λ ls. StopsAt ls e in
    subst P (sym all) (stops-append (leaving m) (leavers rest) e stop)

-- a coordinate behind a drift in the cube
abbrev pub Drifts : ℕ → ℤ → ℕ → Type 0
Drifts x v n = (is_fine (pos x +ℤ carried v) ≡ true) × (n ≡ nat_abs (pos x +ℤ carried v))

-- what is known of each coordinate gives the body behind the drift
pub drift-answer : (b : BodyValue) (v : Vector) (x y z : ℕ) (r : BodyValue) → Drifts b.x v.x x → Drifts b.y v.y y → Drifts b.z v.z z → r ≡ record { x = x; y = y; z = z; mass = b.mass; row = b.row } → (leaving (record { body = b; velocity = v }) ≡ []) × (r ≡ after_drift (record { body = b; velocity = v }))
drift-answer b v x y z r dx dy dz e = (rw (dx.0, dy.0, dz.0) refl, rw (e, dx.1, dy.1, dz.1) refl)

-- ---- the loop over all bodies

-- the loop of a drift goes on by one body
pub drifts-on : (bs : List BodyValue) (vs : List Vector) (i : ℕ) (b : BodyValue) (v : Vector) (after now : List BodyValue) (r : BodyValue) → length vs ≡ length bs → i < length bs → b ≡ get_or bs i b → v ≡ get_or vs i v → IsDrifted (take i (moving bs vs)) after → (leaving (record { body = b; velocity = v }) ≡ []) × (r ≡ after_drift (record { body = b; velocity = v })) → now ≡ after ++ r ∷ [] → IsDrifted (take (i + 1) (moving bs vs)) now
drifts-on bs vs i b v after now r same lt e f h stays is =
    let m : Moving = record { body = b; velocity = v } in
    let long = length-moving bs vs same in
    rw (is, stays.1) (drifted-one (moving bs vs) i m after (omega arith) (moving-at bs vs i b v m lt (omega arith) e f) h stays.0)

-- the loop of a drift stops at a body that leaves, or for want of memory
pub drifts-stop : (bs : List BodyValue) (vs : List Vector) (i : ℕ) (b : BodyValue) (v : Vector) (after : List BodyValue) (e : StepRefused) → length vs ≡ length bs → i < length bs → b ≡ get_or bs i b → v ≡ get_or vs i v → IsDrifted (take i (moving bs vs)) after → StopsAt (leaving (record { body = b; velocity = v })) e → StopsAt (leavers (moving bs vs)) e
drifts-stop bs vs i b v after r same lt e f h stop =
    let m : Moving = record { body = b; velocity = v } in
    let long = length-moving bs vs same in
    stops-at (moving bs vs) i m after r (omega arith) (moving-at bs vs i b v m lt (omega arith) e f) h stop

-- at the end of its loop all bodies have drifted
pub drifted-end : (bs : List BodyValue) (vs : List Vector) (i : ℕ) (after : List BodyValue) → length vs ≡ length bs → length bs ≤ i → IsDrifted (take i (moving bs vs)) after → IsDrifted (moving bs vs) after
drifted-end bs vs i after same le h =
    let long = length-moving bs vs same in
    let all : take i (moving bs vs) ≡ moving bs vs = take_all i (moving bs vs) (omega arith) in
    rw all at h
