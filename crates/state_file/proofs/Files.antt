-- The file of a state has no fault and holds the state.
use Rattle.std.proofs.Common.{◌≡◌, ℕ, suc, ◌+◌, ◌*◌, ◌^◌, ◌<◌, ◌≤◌, Bool, true, false, List, [], ◌∷◌, ◌++◌, length, get_or, drop, map, Some, None, Ok, ℤ, pos, refl, sym, ap, ◌∙◌, arith}
use Rattle.std.specs.Prelude.{All, nat_le}
use Rattle.std.proofs.lemmas.Bool.{lt-ltb, le-ltb, le-leb}
use Rattle.std.proofs.lemmas.List.{length-append}
use Rattle.std.proofs.lemmas.List.Elements.{All-head, All-tail}
use Rattle.std.proofs.lemmas.List.Sums.{sum_by-cons}
use Rattle.std.proofs.Math.Seq.{drop-append_seam}
use Rattle.hot_units.specs.Limits.{max_bodies, max_body_mass, max_all_mass}
use Rattle.hot_units.specs.Values.{BodyValue, CubeValue}
use Rattle.hot_units.specs.Bodies.{IsBody, mass_of, mass_of_body}
use Rattle.sdf_header.specs.Extent.{Extent, Faulty, Ends, Open, extent}
use Rattle.sdf_header.specs.Verdict.{verdict}
use Rattle.sdf_header.specs.Layouts.{LayoutValue}
use Rattle.hot_units.specs.declared.raw_row.RawRow.{RawRow}
use Rattle.sdf_rows.specs.Rows.{rows, ending, is_cut_at, is_beyond_at}
use Rattle.body_set.specs.Rows.{body_of_row, velocity_of_row, fine, is_inside, is_between}
use Rattle.body_set.specs.Sets.{SetValue, bodies_from, set_of_rows, with_rows, empty_set}
use Rattle.body_set.proofs.Adding.{rows_add_up}
use Rattle.body_set.proofs.FirstFault.{first_by_tests}
use Rattle.body_set.proofs.Growing.{mass_more}
use Rattle.body_file.specs.Faults.{row_fault, first_refused, ended_by, is_known, decided, decided_behind}
use Rattle.body_file.specs.Files.{fault_from, fault_of, set_of_files, HasBodies}
use Rattle.leap_frog.specs.Leap.{Moving, bodies_of}
use Rattle.leap_frog.specs.States.{moving}
use Rattle.state_file.specs.Headers.{state_header, state_layout}
use Rattle.state_file.specs.Texts.{StateFile, state_text, rows_text, HasState, CanBeWritten, FitsIdent, IsWritable, StatesReadBack}
use Rattle.state_file.proofs.StateHeader.{header_reads}
use Rattle.state_file.proofs.Rows.{raw_of, raws_of, rows-back, length-rows}

-- the cube of the file
abbrev whole_cube : CubeValue
whole_cube = record { bits = 29; x0 = pos 0; y0 = pos 0; z0 = pos 0 }

-- ---- no row has a fault

-- a fine coordinate is in the cube of the file
inside-is : (x : ℕ) → x < 2 ^ 29 → is_inside 29 (pos 0) (pos x) ≡ true
inside-is x h = rw (le-leb 0 x (omega arith), lt-ltb x (2 ^ 29) h) refl

-- a sound mass is between its limits
mass-is : (m : ℕ) → 1 ≤ m → m ≤ max_body_mass → is_between (pos 1) (pos max_body_mass) (pos m) ≡ true
mass-is m lo hi = rw (le-leb 1 m lo, le-leb m max_body_mass hi) refl

-- so much mass is allowed
sum-is : (n : ℕ) → n ≤ max_all_mass → nat_le n max_all_mass ≡ true
sum-is n le = le-leb n max_all_mass le

-- the row of a sound body has no fault
row-good : (before : List BodyValue) (m : Moving) (ident : ℤ) → length before < max_bodies → mass_of before + m.body.mass ≤ max_all_mass → IsBody m.body → row_fault whole_cube before (raw_of m ident) ≡ None
row-good before m ident lt light b =
    rw (first_by_tests whole_cube (length before) (mass_of before) (raw_of m ident), lt-ltb (length before) max_bodies lt, inside-is m.body.x b.x_in, inside-is m.body.y b.y_in, inside-is m.body.z b.z_in, mass-is m.body.mass b.weighs b.light, sum-is (mass_of before + m.body.mass) light) refl

-- the rows of sound bodies have no fault
rows-good : (before : List BodyValue) (s : List Moving) (idents : List ℤ) → length before + length s ≤ max_bodies → mass_of before + mass_of (bodies_of s) ≤ max_all_mass → All IsBody (bodies_of s) → first_refused whole_cube before (raws_of s idents) ≡ None
unfolding first_refused raws_of
rows-good before [] idents le light b = refl
rows-good before (m ∷ s) [] le light b = refl
rows-good before (m ∷ s) (ident ∷ idents) le light b =
    let next = body_of_row whole_cube (length before) (raw_of m ident) in
    let long = length-append before (next ∷ []) in
    let heavy : mass_of (before ++ next ∷ []) ≡ mass_of before + m.body.mass = mass_more before next in
    let parts : mass_of (bodies_of (m ∷ s)) ≡ m.body.mass + mass_of (bodies_of s) = sum_by-cons mass_of_body m.body (bodies_of s) in
    rw (row-good before m ident (omega arith) (omega arith) (All-head IsBody m.body (bodies_of s) b)) (rows-good (before ++ next ∷ []) s idents (omega arith) (omega arith) (All-tail IsBody m.body (bodies_of s) b))

-- ---- the lists of the rows

-- a fine coordinate is read as itself
fine-is : (x : ℕ) → fine 29 (pos 0) (pos x) ≡ x
fine-is x = omega arith

-- the body of a row is read as itself
body-is : (k : ℕ) (m : Moving) (ident : ℤ) → m.body.row ≡ k → body_of_row whole_cube k (raw_of m ident) ≡ m.body
body-is k m ident e = rw (fine-is m.body.x, fine-is m.body.y, fine-is m.body.z, ← e) refl

-- rows are numbered from k on
abbrev RowsFrom : ℕ → List BodyValue → Type 0
RowsFrom k bodies = (i : ℕ) (d : BodyValue) → i < length bodies → (get_or bodies i d).row ≡ k + i

-- the others are numbered from the next on
rows-tail : (k : ℕ) (b : BodyValue) (bs : List BodyValue) → RowsFrom k (b ∷ bs) → RowsFrom (suc k) bs
rows-tail k b bs h i d lt = h (suc i) d (omega arith) ∙ omega arith

-- the bodies of all rows are read
bodies-are : (k : ℕ) (s : List Moving) (idents : List ℤ) → length idents ≡ length s → RowsFrom k (bodies_of s) → bodies_from whole_cube k (raws_of s idents) ≡ bodies_of s
unfolding bodies_from raws_of
bodies-are k [] idents same h = refl
bodies-are k (m ∷ s) [] same h = absurd (omega arith)
bodies-are k (m ∷ s) (ident ∷ idents) same h =
    let row : m.body.row ≡ k = h 0 m.body (omega arith) ∙ omega arith in
    rw (body-is k m ident row, bodies-are (suc k) s idents (omega arith) (rows-tail k m.body (bodies_of s) h)) refl

-- the idents of all rows are read
idents-are : (s : List Moving) (idents : List ℤ) → length idents ≡ length s → idents ≡ map (λ raw. raw.ident) (raws_of s idents)
unfolding raws_of
idents-are [] [] same = refl
idents-are [] (ident ∷ idents) same = absurd (omega arith)
idents-are (m ∷ s) [] same = absurd (omega arith)
idents-are (m ∷ s) (ident ∷ idents) same = ap (λ (x : List ℤ). ident ∷ x) (idents-are s idents (omega arith))

-- bodies and velocities of all rows are the state
state-is : (s : List Moving) (idents : List ℤ) → length idents ≡ length s → s ≡ moving (bodies_of s) (map velocity_of_row (raws_of s idents))
unfolding raws_of moving
state-is [] idents same = refl
state-is (m ∷ s) [] same = absurd (omega arith)
state-is (m ∷ s) (ident ∷ idents) same = ap (λ (x : List Moving). m ∷ x) (state-is s idents (omega arith))

-- ---- the end of the rows

-- so many bytes are whole rows, and none too many
ends-well : (n len : ℕ) → len ≡ n * 48 → (is_cut_at (Some n) 48 len ≡ false) × (is_beyond_at (Some n) 48 len ≡ false)
ends-well n len e = (le-ltb len (n * 48) (omega arith), le-ltb (n * 48) len (omega arith))

-- the rows end well
end-good : (unsigned : Bool) (s : List Moving) (idents : List ℤ) → length idents ≡ length s → ended_by (ending (state_layout unsigned (length s)) (rows_text s idents)) ≡ None
end-good unsigned s idents same =
    let ends = ends-well (length s) (length (rows_text s idents)) (length-rows s idents same) in
    rw (ends.0, ends.1) refl

-- ---- the file

-- at the end of a file the verdict of its header is known
pub known_at_end : (e : Extent) → is_known true e ≡ true
known_at_end (Faulty f) = refl
known_at_end (Ends text len) = refl
known_at_end Open = refl

-- behind the header of a state its rows stand
behind-header : (f : StateFile) → drop (state_layout f.unsigned (length f.state)).header_len (state_text f) ≡ rows_text f.state f.idents
behind-header f = drop-append_seam (state_header f.unsigned (length f.state)) (rows_text f.state f.idents)

-- the verdict of the header that is written
header-is : (f : StateFile) → CanBeWritten f → verdict (state_text f) ≡ Ok (state_layout f.unsigned (length f.state))
header-is f c = header_reads f.unsigned (length f.state) c.few (rows_text f.state f.idents)

-- the rows of the file
all-rows : (f : StateFile) → CanBeWritten f → rows (state_layout f.unsigned (length f.state)) (drop (state_layout f.unsigned (length f.state)).header_len (state_text f)) ≡ raws_of f.state f.idents
all-rows f c = ap (rows (state_layout f.unsigned (length f.state))) (behind-header f) ∙ rows-back f.unsigned f.state f.idents c.idents_too c.sound c.named c.slow

-- the file has no fault
file-good : (f : StateFile) → CanBeWritten f → decided true (state_text f) ≡ None
unfolding decided_behind
file-good f c =
    let few = c.few in
    let light = c.light in
    rw (known_at_end (extent (state_text f)), header-is f c, behind-header f, rows-back f.unsigned f.state f.idents c.idents_too c.sound c.named c.slow, rows-good [] f.state f.idents (omega arith) (omega arith) c.sound) (end-good f.unsigned f.state f.idents c.idents_too)

-- ---- alone in a list of files

-- a file without a fault has none alone in a list
pub good_alone : (bytes : List ℕ) → decided true bytes ≡ None → fault_of (bytes ∷ []) ≡ None
unfolding fault_from
good_alone bytes h = rw h refl

-- rows that are added to no rows are all rows
rows_alone : (cube : CubeValue) (raws : List RawRow) → with_rows (empty_set cube) raws ≡ set_of_rows cube raws
rows_alone cube raws = ap (λ (set : SetValue). with_rows set raws) (sym (rows_add_up.none cube)) ∙ rows_add_up.more cube [] raws

-- the bodies of a file that is alone in a list are those of its rows
pub bodies_alone : (bytes : List ℕ) (l : LayoutValue) → verdict bytes ≡ Ok l → set_of_files None (bytes ∷ []) ≡ Some (set_of_rows l.cube (rows l (drop l.header_len bytes)))
unfolding set_of_files
bodies_alone bytes l h = rw h (ap Some (rows_alone l.cube (rows l (drop l.header_len bytes))))

-- so it holds these
pub has_alone : (bytes : List ℕ) (l : LayoutValue) → verdict bytes ≡ Ok l → fault_of (bytes ∷ []) ≡ None → HasBodies (bytes ∷ []) (set_of_rows l.cube (rows l (drop l.header_len bytes)))
has_alone bytes l h good = record { good = good; are = bodies_alone bytes l h }

-- the type of its ident column
unsigned-is : (unsigned : Bool) (n : ℕ) → unsigned ≡ Rattle.state_file.specs.Texts.is_unsigned (state_layout unsigned n).ident
unsigned-is true n = refl
unsigned-is false n = refl

-- The file of a state is read back.
pub states-read-back : StatesReadBack
states-read-back f c =
    let l = state_layout f.unsigned (length f.state) in
    record {
      layout = l;
      header = header-is f c;
      set = set_of_rows l.cube (rows l (drop l.header_len (state_text f)));
      read = has_alone (state_text f) l (header-is f c) (good_alone (state_text f) (file-good f c));
      unsigned = unsigned-is f.unsigned (length f.state);
      state = rw (all-rows f c, bodies-are 0 f.state f.idents c.idents_too (λ i d lt. c.rows i d lt ∙ omega arith)) (state-is f.state f.idents c.idents_too);
      idents = idents-are f.state f.idents c.idents_too ∙ ap (map (λ (raw : RawRow). raw.ident)) (sym (all-rows f c));
    }
