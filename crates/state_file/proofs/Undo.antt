-- Steps of a file, and the same steps back.
use Rattle.std.proofs.Common.{◌≡◌, ℕ, zero, suc, ◌-◌, ◌^◌, ◌≤◌, Bool, true, List, [], ◌∷◌, ◌++◌, length, map, Ok, Err, ℤ, pos, negsuc, refl, sym, subst, ◌∙◌, ap, append_assoc, arith}
use Rattle.std.specs.Prelude.{All, flat_map, Result}
use Rattle.std.proofs.lemmas.Int.{ints}
use Rattle.std.proofs.lemmas.List.{append-nil, length-map}
use Rattle.std.proofs.lemmas.Bool.{leb-true}
use Rattle.std.proofs.Math.Bool.{and-true}
use Rattle.std.proofs.Math.Dec.{leb}
use Rattle.std.proofs.lemmas.List.Elements.{All-nil, All-cons, All-head, All-tail}
use Rattle.std.proofs.lemmas.List.Sums.{sum_by-cons}
use Rattle.hot_units.specs.Values.{BodyValue, Vector}
use Rattle.hot_units.specs.Limits.{max_all_mass}
use Rattle.hot_units.specs.Bodies.{IsBody, mass_of, mass_of_body}
use Rattle.hot_units.specs.declared.cube.Axis.TheVariants.{X, Y, Z}
use Rattle.sdf_header.specs.Layouts.{LayoutValue}
use Rattle.body_set.specs.Sets.{SetValue}
use Rattle.leap_frog.specs.Leap.{Moving, ForceLaw, Leaver, Stop, bodies_of, unless, kicked_by, kicked, drifted, leaving, leavers, put, place_after, step, steps, steps_from, steps_back, IsPlaced}
use Rattle.leap_frog.proofs.Undo.{steps-undo, append_nothing, unless-passed, parts, steps-is}
use Rattle.leap_frog.proofs.Steps.{sound-one, same-rows, row_of}
use Rattle.state_file.specs.Texts.{StateFile, HasState, CanBeWritten, IsSigned, IsWritable, state_text, state_of_set, is_unsigned}
use Rattle.state_file.specs.Commands.{is_signed, past_63, if_none_past, with_state, file_after, FilesUndo}
use Rattle.state_file.proofs.Files.{states-read-back}
use Rattle.state_file.proofs.Readings.{IsRead, is-read}

-- ---- one file has one state

-- two files with the same parts are one
same-file : (f g : StateFile) → f.unsigned ≡ g.unsigned → f.state ≡ g.state → f.idents ≡ g.idents → f ≡ g
same-file f g u s i =
    ap (λ (x : Bool). record f { unsigned = x }) u
    ∙ ap (λ (x : List Moving). record f { unsigned = g.unsigned; state = x }) s
    ∙ ap (λ (x : List ℤ). record f { unsigned = g.unsigned; state = g.state; idents = x }) i

-- one text has one layout
same-layout : (bytes : List ℕ) (f g : StateFile) (a : HasState bytes f) (b : HasState bytes g) → a.layout ≡ b.layout
same-layout bytes f g a b = let x = a.header in let y = b.header in cc

-- one text has one set
same-set : (bytes : List ℕ) (f g : StateFile) (a : HasState bytes f) (b : HasState bytes g) → a.set ≡ b.set
same-set bytes f g a b = let x = a.read.are in let y = b.read.are in cc

-- one text has one state
pub one-state : (bytes : List ℕ) (f g : StateFile) → HasState bytes f → HasState bytes g → f ≡ g
one-state bytes f g a b =
    let same = same-set bytes f g a b in
    same-file f g
    (a.unsigned ∙ (ap (λ (l : LayoutValue). is_unsigned l.ident) (same-layout bytes f g a b) ∙ sym b.unsigned))
    (a.state ∙ (ap state_of_set same ∙ sym b.state))
    (a.idents ∙ (ap (λ (s : SetValue). s.idents) same ∙ sym b.idents))

-- ---- velocities that can be written

-- a number that passes the test fits 8 signed bytes
signed-is : (z : ℤ) → is_signed z ≡ true → IsSigned z
signed-is (pos n) h = let le = leb-true n (2 ^ 63 - 1) h in (omega (arith, ints), omega (arith, ints))
signed-is (negsuc n) h = let le = leb-true n (2 ^ 63 - 1) (sym (and-true (leb n (2 ^ 63 - 1))) ∙ h) in (omega (arith, ints), omega (arith, ints))

-- a velocity that is not past 63 bits can be written
writable : (m : Moving) → past_63 m ≡ [] → IsWritable m
writable m h =
    let z_out = unless (is_signed m.velocity.z) (record { row = m.body.row; axis = Z }) in
    let y_out = unless (is_signed m.velocity.y) (record { row = m.body.row; axis = Y }) in
    let first = unless-passed (is_signed m.velocity.x) (record { row = m.body.row; axis = X }) (y_out ++ z_out) (sym (append_assoc _ y_out z_out) ∙ h) in
    let second = unless-passed (is_signed m.velocity.y) (record { row = m.body.row; axis = Y }) z_out first.1 in
    let third = unless-passed (is_signed m.velocity.z) (record { row = m.body.row; axis = Z }) [] (append-nil z_out ∙ second.1) in
    record { x = signed-is m.velocity.x first.0; y = signed-is m.velocity.y second.0; z = signed-is m.velocity.z third.0 }

-- velocities that are not past 63 bits can be written
pub all-writable : (s : List Moving) → flat_map past_63 s ≡ [] → All IsWritable s
all-writable [] h = All-nil IsWritable
all-writable (m ∷ s) h =
    let both = append_nothing (past_63 m) (flat_map past_63 s) h in
    All-cons IsWritable m s (writable m both.0) (all-writable s both.1)

-- ---- what steps keep

-- bodies stay sound, and keep their rows and all mass
pub record Keeps (s t : List Moving) : Type 0 where
  pub sound : All IsBody (bodies_of s) → All IsBody (bodies_of t)
  pub rows : map row_of (bodies_of t) ≡ map row_of (bodies_of s)
  pub mass : mass_of (bodies_of t) ≡ mass_of (bodies_of s)

-- a drift in the cube keeps bodies sound
drifted-sound : (s : List Moving) → leavers s ≡ [] → All IsBody (bodies_of s) → All IsBody (bodies_of (drifted s))
drifted-sound [] h b = All-nil IsBody
drifted-sound (m ∷ s) h b =
    let both = append_nothing (leaving m) (leavers s) h in
    All-cons IsBody _ _ (sound-one m.body m.velocity (All-head IsBody m.body (bodies_of s) b) both.0) (drifted-sound s both.1 (All-tail IsBody m.body (bodies_of s) b))

-- a drift keeps rows
drifted-rows : (s : List Moving) → map row_of (bodies_of (drifted s)) ≡ map row_of (bodies_of s)
drifted-rows [] = refl
drifted-rows (m ∷ s) = ap (λ (x : List ℕ). m.body.row ∷ x) (drifted-rows s)

-- a drift keeps all mass
drifted-mass : (s : List Moving) → mass_of (bodies_of (drifted s)) ≡ mass_of (bodies_of s)
drifted-mass [] = refl
drifted-mass (m ∷ s) =
    let moved : BodyValue = (put (place_after m) m).body in
    omega (arith, sum_by-cons mass_of_body m.body (bodies_of s), sum_by-cons mass_of_body moved (bodies_of (drifted s)), drifted-mass s)

-- a kick keeps the bodies
kicked-bodies : (f : BodyValue → Vector) (s : List Moving) → bodies_of (map (λ (m : Moving). kicked_by (f m.body) m) s) ≡ bodies_of s
kicked-bodies f [] = refl
kicked-bodies f (m ∷ s) = ap (λ (x : List BodyValue). m.body ∷ x) (kicked-bodies f s)

-- a step keeps bodies sound, and rows and all mass
step-keeps : (law : ForceLaw) (s t : List Moving) → step law s ≡ Ok t → Keeps s t
step-keeps law s t h =
    let made = steps-is law s t h in
    let k = kicked law s in
    let d = drifted k in
    let first : bodies_of k ≡ bodies_of s = kicked-bodies (law (bodies_of s)) s in
    let last : bodies_of t ≡ bodies_of d = ap bodies_of made.is ∙ kicked-bodies (law (bodies_of d)) d in
    let P : List BodyValue → Type 0 = λ x. All IsBody x in
    record {
      sound = λ b. subst P (sym last) (drifted-sound k made.nobody_leaves (subst P (sym first) b));
      rows = ap (map row_of) last ∙ (drifted-rows k ∙ ap (map row_of) first);
      mass = ap mass_of last ∙ (drifted-mass k ∙ ap mass_of first);
    }

-- steps keep bodies sound, and rows and all mass
steps-keep : (law : ForceLaw) (k n : ℕ) (s t : List Moving) → steps_from law k n s ≡ Ok t → Keeps s t
unfolding steps_from
steps-keep law k zero s t h = let same : s ≡ t = cc in let P : List Moving → Type 0 = λ x. Keeps s x in subst P same (record { sound = λ b. b; rows = refl; mass = refl })
steps-keep law k (suc n) s t h =
    let p = parts law k n s t h in
    let one = step-keeps law s p.between p.first in
    let more = steps-keep law (suc k) n p.between t p.others in
    record { sound = λ b. more.sound (one.sound b); rows = more.rows ∙ one.rows; mass = more.mass ∙ one.mass }

-- sound bodies are in the cube
placed : (s : List Moving) → All IsBody (bodies_of s) → All IsPlaced s
placed [] b = All-nil IsPlaced
placed (m ∷ s) b =
    let head = All-head IsBody m.body (bodies_of s) b in
    All-cons IsPlaced m s (record { x_in = head.x_in; y_in = head.y_in; z_in = head.z_in }) (placed s (All-tail IsBody m.body (bodies_of s) b))

-- ---- the file after steps

-- the state of a file that was made
pub record Made (f g : StateFile) (t : List Moving) : Type 0 where
  pub none_past : flat_map past_63 t ≡ []
  pub is : g ≡ record f { state = t }

-- a file that is made has nobody past 63 bits
by-list : (ls : List Leaver) (f g : StateFile) → if_none_past ls f ≡ Ok g → (ls ≡ []) × (g ≡ f)
by-list [] f g h = (refl, cc)
by-list (l ∷ ls) f g h = cc

-- a file that is made has the state that was reached
made-state : (f g : StateFile) (r : Result (List Moving) Stop) → with_state f r ≡ Ok g → (t : List Moving) × (r ≡ Ok t) × Made f g t
made-state f g (Ok t) h = let both = by-list (flat_map past_63 t) (record f { state = t }) g h in (t, refl, record { none_past = both.0; is = both.1 })
made-state f g (Err stop) h = cc

-- and from that it is made
made-file : (f : StateFile) (t : List Moving) (r : Result (List Moving) Stop) → r ≡ Ok t → flat_map past_63 t ≡ [] → with_state f r ≡ Ok (record f { state = t })
made-file f t r e none = rw (e, none) refl

-- as many rows as bodies
length-rows : (s : List Moving) → length (map row_of (bodies_of s)) ≡ length s
length-rows s = length-map (bodies_of s) row_of ∙ length-map s _

-- what steps make of a file that was read can be written
can-be-written : (f : StateFile) (t : List Moving) → IsRead f → Keeps f.state t → flat_map past_63 t ≡ [] → CanBeWritten (record f { state = t })
can-be-written f t r k none =
    let long : length t ≡ length f.state = sym (length-rows t) ∙ (ap length k.rows ∙ length-rows f.state) in
    let few = r.few in
    let Q : ℕ → Type 0 = λ n. n ≤ max_all_mass in
    record {
      sound = k.sound r.sound;
      rows = same-rows (bodies_of t) (bodies_of f.state) k.rows r.rows;
      few = omega arith;
      light = subst Q (sym k.mass) r.light;
      idents_too = r.idents_too ∙ sym long;
      named = r.named;
      slow = all-writable t none;
    }

-- the steps back from the second file give the third
undo-of : (law : ForceLaw) (n : ℕ) (f second third : StateFile) (t : List Moving) → IsRead f → steps law n f.state ≡ Ok t → Made f second t → flat_map past_63 f.state ≡ [] → third ≡ f → file_after law true n second ≡ Ok third
undo-of law n f second third t r h made none e =
    let back : steps_back law n t ≡ Ok f.state = steps-undo law n f.state t (placed f.state r.sound) h in
    let P : StateFile → Type 0 = λ g. file_after law true n g ≡ Ok third in
    subst P (sym made.is) (made-file (record f { state = t }) f.state (steps_back law n t) back none ∙ ap (λ (x : StateFile). Ok x) (sym e))

-- Steps of a file, and the same steps back.
pub files-undo : FilesUndo
unfolding steps_from
files-undo law n first f second third bytes has forward still =
    let read = is-read first f bytes has in
    let made = made-state f second (steps law n f.state) forward in
    let stays = by-list (flat_map past_63 f.state) f third still in
    let t = made.0 in
    let keeps = steps-keep law 1 n f.state t made.1 in
    let P : StateFile → Type 0 = λ g. HasState (state_text g) g in
    let back = undo-of law n f second third t read made.1 made.2 stays.0 stays.1 in
    let holds = subst P (sym made.2.is) (states-read-back (record f { state = t }) (can-be-written f t read keeps made.2.none_past)) in
    let Q : StateFile → Type 0 = λ g. file_after law true n g ≡ Ok third in
    (holds, λ g has-g. subst Q (one-state (state_text second) second g holds has-g) back)
