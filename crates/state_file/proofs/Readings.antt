-- What holds of the state of every body file without a fault.
use Rattle.std.proofs.Common.{◌≡◌, ℕ, zero, suc, ◌+◌, ◌*◌, ◌^◌, ◌<◌, ◌≤◌, Bool, true, false, cond, List, [], ◌∷◌, ◌++◌, length, get_or, take, drop, map, Option, Some, None, Ok, Err, ℤ, pos, negsuc, ◌-ℤ◌, nat_abs, inl, inr, refl, sym, subst, ◌∙◌, ap, arith}
use Rattle.std.specs.Prelude.{All, Result, nat_le, nat_lt, ◌&&◌, if◌then◌else◌, codes, ◌⊎◌}
use Rattle.std.proofs.lemmas.Bool.{ltb-true, ltb-false, leb-true}
use Rattle.std.proofs.lemmas.Int.{ints}
use Rattle.std.proofs.lemmas.List.Elements.{All-nil, All-cons, All-push}
use Rattle.std.proofs.lemmas.List.Sums.{sum_by-cons}
use Rattle.std.proofs.lemmas.List.{length-append, length-map, map-append}
use Rattle.byteorder.specs.Numbers.{little_from-lt, big_from-lt}
use Rattle.sdf_header.specs.declared.kind.Whole.{Whole}
use Rattle.sdf_header.specs.declared.kind.Whole.TheVariants as wholes
use Rattle.sdf_header.specs.declared.layout.Order.{Order}
use Rattle.sdf_header.specs.declared.layout.Order.TheVariants.{Least, Most}
use Rattle.sdf_header.specs.declared.layout.Col.{Col}
use Rattle.sdf_header.specs.Types.{whole_bytes}
use Rattle.sdf_rows.specs.Columns.{whole_value, number_of, value_or}
use Rattle.sdf_rows.specs.Rows.{rows, rows_in, row_at, row_number, first_rows}
use Rattle.leap_frog.specs.Leap.{bodies_of}
use Rattle.leap_frog.specs.States.{moving}
use Rattle.leap_frog.proofs.States.{bodies-moving, length-moving}
use Rattle.state_file.specs.Texts.{StateFile, FilesHaveStates, state_of_set, HasState, FitsIdent, IsSigned, is_unsigned, is_u64}
use Rattle.state_file.specs.Commands.{AreBytes}
use Rattle.hot_units.specs.Limits.{max_bodies, max_body_mass, max_all_mass, max_work, fine_bits}
use Rattle.hot_units.specs.Values.{BodyValue, CubeValue}
use Rattle.hot_units.specs.Bodies.{IsBody, RowsCount, mass_of as all_mass, mass_of_body}
use Rattle.hot_units.specs.declared.cube.Axis.TheVariants.{X, Y, Z}
use Rattle.sdf_header.specs.declared.header_fault.HeaderFault.{HeaderFault}
use Rattle.sdf_header.specs.declared.header_fault.HeaderFault.TheVariants as faults
use Rattle.sdf_header.specs.declared.header_fault.ColName.TheVariants as columns
use Rattle.sdf_header.specs.declared.header_fault.ParamName.{ParamName}
use Rattle.sdf_header.specs.declared.header_fault.ParamName.TheVariants as names
use Rattle.sdf_header.specs.declared.document.Value.{Value}
use Rattle.sdf_header.specs.declared.document.Value.TheVariants as values
use Rattle.sdf_header.specs.Layouts.{LayoutValue}
use Rattle.sdf_header.specs.Statements.{Header, header_in}
use Rattle.sdf_header.specs.Extent.{Extent, Faulty, Ends, Open, extent}
use Rattle.sdf_header.specs.Verdict.{or_fault, column, axes_of, optional_of, order_of, whole_param, bad, small_param, cube_of, mass_of, count_of, layout_of, placed, verdict_from, judged, verdict}
use Rattle.hot_units.specs.declared.raw_row.RawRow.{RawRow}
use Rattle.body_set.specs.declared.fault.PushError.{PushError}
use Rattle.body_set.specs.declared.fault.PushError.TheVariants.{TooMany, Outside, MassRange, WorkRange, MassSum}
use Rattle.body_set.specs.Rows.{body_of_row, velocity_of_row, fine, is_inside, is_between}
use Rattle.body_set.specs.Sets.{SetValue, bodies_from, set_of_rows}
use Rattle.body_set.proofs.Adding.{bodies-length}
use Rattle.body_set.proofs.FirstFault.{first_by_tests}
use Rattle.body_set.proofs.Growing.{mass_more}
use Rattle.body_set.proofs.Coordinates.{scaled_within}
use Rattle.body_file.specs.declared.fault.FileFault.{FileFault}
use Rattle.body_file.specs.declared.fault.FoundFault.{FoundFault}
use Rattle.body_file.specs.Faults.{named, row_fault, first_refused, first_of, decided, decided_behind}
use Rattle.body_file.specs.Files.{found_in, first_found, fault_from, fault_of}
use Rattle.state_file.proofs.Files.{known_at_end, bodies_alone, has_alone}

-- where both hold the second does
second-true : (a b : Bool) → (a && b) ≡ true → b ≡ true
second-true true b h = h
second-true false b h = absurd cc

-- where both hold the first does
first-true : (a b : Bool) → (a && b) ≡ true → a ≡ true
first-true true b h = refl
first-true false b h = absurd cc

-- ---- the cube

-- an answer is one of two
split : {A : Type 0} (r : Result A HeaderFault) → ((x : A) × (r ≡ Ok x)) ⊎ ((f : HeaderFault) × (r ≡ Err f))
split (Ok x) = inl (x, refl)
split (Err f) = inr (f, refl)

-- a fault is no good answer
fault-ok : {A : Type 0} {f : HeaderFault} {x : A} → ◌≡◌ {A = Result A HeaderFault} (Err f) (Ok x) → ⊥
fault-ok h = cc

-- a number that passes the test of a limit is within it
limited : (b : Bool) (n limit : ℕ) (name : ParamName) (m : ℕ) → (nat_le 1 n && nat_le n limit) ≡ b → (if b then Ok n else bad name) ≡ Ok m → m ≤ limit
limited true n limit name m e h =
    let same : n ≡ m = cc in
    let le = leb-true n limit (second-true (nat_le 1 n) (nat_le n limit) e) in
    omega arith
limited false n limit name m e h = absurd cc

-- a small parameter is within its limit
small-limited : (name : ParamName) (limit default : ℕ) (v : Option Value) (m : ℕ) → default ≤ limit → small_param name limit default v ≡ Ok m → m ≤ limit
unfolding small_param
small-limited name limit default None m le h = let e : default ≡ m = cc in omega arith
small-limited name limit default (Some values.Other) m le h = absurd cc
small-limited name limit default (Some (values.Whole (negsuc n))) m le h = absurd cc
small-limited name limit default (Some (values.Whole (pos n))) m le h = limited (nat_le 1 n && nat_le n limit) n limit name m refl h

-- the cube of an answer
abbrev cube_of_layout : CubeValue → Result LayoutValue HeaderFault → CubeValue
cube_of_layout default (Ok l) = l.cube
cube_of_layout default (Err f) = default

-- the bits of a cube, 0 for a fault
abbrev bits_of_cube : Result CubeValue HeaderFault → ℕ
bits_of_cube (Ok c) = c.bits
bits_of_cube (Err f) = 0

-- the cube of a header has at most so many bits
cube-bits : (given : List ℕ → Option Value) (c : CubeValue) → cube_of given ≡ Ok c → c.bits ≤ fine_bits
unfolding cube_of
cube-bits given c h =
    elim (split (small_param names.CubeBits fine_bits 21 (given (codes "cube_bits")))) [
      | inr w ↦ absurd (fault-ok (rw w.1 at h))
      | inl bits ↦ let h0 = rw bits.1 at h in
          elim (split (whole_param names.CubeX0 (given (codes "cube_x0")))) [
            | inr w ↦ absurd (fault-ok (rw w.1 at h0))
            | inl x ↦ let h1 = rw x.1 at h0 in
                elim (split (whole_param names.CubeY0 (given (codes "cube_y0")))) [
                  | inr w ↦ absurd (fault-ok (rw w.1 at h1))
                  | inl y ↦ let h2 = rw y.1 at h1 in
                      elim (split (whole_param names.CubeZ0 (given (codes "cube_z0")))) [
                        | inr w ↦ absurd (fault-ok (rw w.1 at h2))
                        | inl z ↦ let h3 = rw z.1 at h2 in
                            let same : bits.0 ≡ c.bits = ap bits_of_cube h3 in
                            rw (← same) (small-limited names.CubeBits fine_bits 21 (given (codes "cube_bits")) bits.0 (omega arith) bits.1)
                      ]
                ]
          ]
    ]

-- so has that of a layout
layout-bits : (len : ℕ) (h : Header) (l : LayoutValue) → layout_of len h ≡ Ok l → l.cube.bits ≤ fine_bits
unfolding layout_of
layout-bits len h l e =
    elim (split (or_fault faults.NoStruct h.table)) [
      | inr w ↦ absurd (fault-ok (rw w.1 at e))
      | inl t ↦ let e0 = rw t.1 at e in
          elim (split (axes_of t.0.row.fields)) [
            | inr w ↦ absurd (fault-ok (rw w.1 at e0))
            | inl axes ↦ let e1 = rw axes.1 at e0 in
                elim (split (optional_of columns.Mass (column (codes "mass") t.0.row.fields))) [
                  | inr w ↦ absurd (fault-ok (rw w.1 at e1))
                  | inl mass ↦ let e2 = rw mass.1 at e1 in
                      elim (split (optional_of columns.Ident (column (codes "ident") t.0.row.fields))) [
                        | inr w ↦ absurd (fault-ok (rw w.1 at e2))
                        | inl ident ↦ let e3 = rw ident.1 at e2 in
                            elim (split (optional_of columns.Work (column (codes "work") t.0.row.fields))) [
                              | inr w ↦ absurd (fault-ok (rw w.1 at e3))
                              | inl work ↦ let e4 = rw work.1 at e3 in
                                  elim (split (order_of (h.given (codes "byteorder")))) [
                                    | inr w ↦ absurd (fault-ok (rw w.1 at e4))
                                    | inl order ↦ let e5 = rw order.1 at e4 in
                                        elim (split (cube_of h.given)) [
                                          | inr w ↦ absurd (fault-ok (rw w.1 at e5))
                                          | inl cube ↦ let e6 = rw cube.1 at e5 in
                                              elim (split (mass_of mass.0 (h.given (codes "mass")))) [
                                                | inr w ↦ absurd (fault-ok (rw w.1 at e6))
                                                | inl default ↦ let e7 = rw default.1 at e6 in
                                                    elim (split (count_of t.0.size)) [
                                                      | inr w ↦ absurd (fault-ok (rw w.1 at e7))
                                                      | inl count ↦ let e8 = rw count.1 at e7 in
                                                          let same : cube.0 ≡ l.cube = ap (λ (x : Result LayoutValue HeaderFault). cube_of_layout cube.0 x) e8 in rw (← same) (cube-bits h.given cube.0 cube.1)
                                                    ]
                                              ]
                                        ]
                                  ]
                            ]
                      ]
                ]
          ]
    ]

-- so has that of a header that is judged
judged-bits : (len : ℕ) (text : List ℕ) (l : LayoutValue) → judged len text ≡ Ok l → l.cube.bits ≤ fine_bits
unfolding judged
judged-bits len text l h =
    elim (split (placed (length text) (header_in text))) [
      | inr w ↦ absurd (fault-ok (rw w.1 at h))
      | inl header ↦ layout-bits len header.0 l (rw header.1 at h)
    ]

-- so has that of a verdict by an extent
from-bits : (bytes : List ℕ) (x : Extent) (l : LayoutValue) → verdict_from bytes x ≡ Ok l → l.cube.bits ≤ fine_bits
from-bits bytes (Faulty f) l h = absurd cc
from-bits bytes Open l h = absurd cc
from-bits bytes (Ends text len) l h = judged-bits len (take text bytes) l h

-- the cube of a file has at most as many bits as a fine coordinate
pub verdict-bits : (bytes : List ℕ) (l : LayoutValue) → verdict bytes ≡ Ok l → l.cube.bits ≤ fine_bits
unfolding verdict
verdict-bits bytes l h = from-bits bytes (extent bytes) l h

-- ---- a row without a fault

-- the tests that come after one that is passed
passed : (t : Bool) (o : Option PushError) (f : PushError) (g : FileFault) → named (Some f) ≡ Some g → named (cond t o (Some f)) ≡ None → (t ≡ true) × (named o ≡ None)
passed true o f g e h = (refl, h)
passed false o f g e h = absurd cc

-- what a row without a fault meets
pub record Meets (cube : CubeValue) (before : List BodyValue) (raw : RawRow) : Type 0 where
  pub room : length before < max_bodies
  pub x : is_inside cube.bits cube.x0 raw.x ≡ true
  pub y : is_inside cube.bits cube.y0 raw.y ≡ true
  pub z : is_inside cube.bits cube.z0 raw.z ≡ true
  pub mass : is_between (pos 1) (pos max_body_mass) raw.mass ≡ true
  pub sum : all_mass before + nat_abs raw.mass ≤ max_all_mass

-- what holds of a row without a fault
row-meets : (cube : CubeValue) (before : List BodyValue) (raw : RawRow) → row_fault cube before raw ≡ None → Meets cube before raw
row-meets cube before raw h =
    let k = length before in
    let all = sym (ap named (first_by_tests cube k (all_mass before) raw)) ∙ h in
    let room = passed (nat_lt k max_bodies) _ TooMany _ refl all in
    let x = passed (is_inside cube.bits cube.x0 raw.x) _ (Outside k X) _ refl room.1 in
    let y = passed (is_inside cube.bits cube.y0 raw.y) _ (Outside k Y) _ refl x.1 in
    let z = passed (is_inside cube.bits cube.z0 raw.z) _ (Outside k Z) _ refl y.1 in
    let mass = passed (is_between (pos 1) (pos max_body_mass) raw.mass) _ (MassRange k) _ refl z.1 in
    let work = passed (is_between (pos 0) (pos max_work) raw.work) _ (WorkRange k) _ refl mass.1 in
    let sum = passed (nat_le (all_mass before + nat_abs raw.mass) max_all_mass) _ (MassSum k) _ refl work.1 in
    record { room = ltb-true k max_bodies room.0; x = x.0; y = y.0; z = z.0; mass = mass.0; sum = leb-true (all_mass before + nat_abs raw.mass) max_all_mass sum.0 }

-- a coordinate inside the cube is within its edge
inside-near : (bits : ℕ) (corner at : ℤ) → is_inside bits corner at ≡ true → nat_abs (at -ℤ corner) < 2 ^ bits
inside-near bits corner at h = grind (arith, ints)

-- its fine coordinate is below 2^29
fine-within : (bits : ℕ) (corner at : ℤ) → bits ≤ 29 → is_inside bits corner at ≡ true → fine bits corner at < 2 ^ 29
fine-within bits corner at le h = scaled_within bits (nat_abs (at -ℤ corner)) le (inside-near bits corner at h)

-- a mass between its limits is sound
mass-within : (mass : ℤ) → is_between (pos 1) (pos max_body_mass) mass ≡ true → (1 ≤ nat_abs mass) × (nat_abs mass ≤ max_body_mass)
mass-within (pos n) h = (leb-true 1 n (first-true _ _ h), leb-true n max_body_mass (second-true _ _ h))
mass-within (negsuc n) h = absurd cc

-- a row without a fault gives a sound body
row-sound : (cube : CubeValue) (before : List BodyValue) (raw : RawRow) → cube.bits ≤ fine_bits → Meets cube before raw → IsBody (body_of_row cube (length before) raw)
row-sound cube before raw le m =
    let mass = mass-within raw.mass m.mass in
    record { x_in = fine-within cube.bits cube.x0 raw.x le m.x; y_in = fine-within cube.bits cube.y0 raw.y le m.y; z_in = fine-within cube.bits cube.z0 raw.z le m.z; weighs = mass.0; light = mass.1 }

-- where the first of two faults is none there is neither
none-of : (a b : Option FileFault) → first_of a b ≡ None → (a ≡ None) × (b ≡ None)
none-of None b h = (refl, h)
none-of (Some f) b h = absurd cc

-- these bodies and that of one more row
abbrev and_next : CubeValue → List BodyValue → RawRow → List BodyValue
and_next cube before raw = before ++ body_of_row cube (length before) raw ∷ []

-- they are one more
length-next : (cube : CubeValue) (before : List BodyValue) (raw : RawRow) → length (and_next cube before raw) ≡ suc (length before)
length-next cube before raw = let e = length-append before (body_of_row cube (length before) raw ∷ []) in omega arith

-- rows without a fault give sound bodies
pub rows-sound : (cube : CubeValue) (before : List BodyValue) (raws : List RawRow) → cube.bits ≤ fine_bits → first_refused cube before raws ≡ None → All IsBody (bodies_from cube (length before) raws)
unfolding first_refused bodies_from
rows-sound cube before [] le h = All-nil IsBody
rows-sound cube before (raw ∷ raws) le h =
    let both = none-of (row_fault cube before raw) (first_refused cube (and_next cube before raw) raws) h in
    let P : ℕ → Type 0 = λ k. All IsBody (bodies_from cube k raws) in
    let rest = subst P (length-next cube before raw) (rows-sound cube (and_next cube before raw) raws le both.1) in
    All-cons IsBody _ _ (row-sound cube before raw le (row-meets cube before raw both.0)) rest

-- rows without a fault are few
pub rows-few : (cube : CubeValue) (before : List BodyValue) (raws : List RawRow) → length before ≤ max_bodies → first_refused cube before raws ≡ None → length before + length raws ≤ max_bodies
unfolding first_refused
rows-few cube before [] le h = omega arith
rows-few cube before (raw ∷ raws) le h =
    let both = none-of (row_fault cube before raw) (first_refused cube (and_next cube before raw) raws) h in
    let m = row-meets cube before raw both.0 in
    let room = m.room in
    let long = length-next cube before raw in
    let rest = rows-few cube (and_next cube before raw) raws (omega arith) both.1 in
    omega arith

-- and they are not too heavy together
pub rows-light : (cube : CubeValue) (before : List BodyValue) (raws : List RawRow) → all_mass before ≤ max_all_mass → first_refused cube before raws ≡ None → all_mass before + all_mass (bodies_from cube (length before) raws) ≤ max_all_mass
unfolding first_refused bodies_from
rows-light cube before [] le h = omega arith
rows-light cube before (raw ∷ raws) le h =
    let next = body_of_row cube (length before) raw in
    let both = none-of (row_fault cube before raw) (first_refused cube (and_next cube before raw) raws) h in
    let m = row-meets cube before raw both.0 in
    let sum = m.sum in
    let heavy : all_mass (and_next cube before raw) ≡ all_mass before + nat_abs raw.mass = mass_more before next in
    let parts : all_mass (bodies_from cube (length before) (raw ∷ raws)) ≡ nat_abs raw.mass + all_mass (bodies_from cube (suc (length before)) raws) = sum_by-cons mass_of_body next (bodies_from cube (suc (length before)) raws) in
    let P : ℕ → Type 0 = λ k. all_mass (and_next cube before raw) + all_mass (bodies_from cube k raws) ≤ max_all_mass in
    let rest = subst P (length-next cube before raw) (rows-light cube (and_next cube before raw) raws (omega arith) both.1) in
    omega arith

-- the bodies of rows are numbered by their places
pub rows-count : (cube : CubeValue) (k : ℕ) (raws : List RawRow) (i : ℕ) (d : BodyValue) → i < length (bodies_from cube k raws) → (get_or (bodies_from cube k raws) i d).row ≡ k + i
unfolding bodies_from
rows-count cube k [] i d lt = absurd (omega arith)
rows-count cube k (raw ∷ raws) zero d lt = omega arith
rows-count cube k (raw ∷ raws) (suc i) d lt = rows-count cube (suc k) raws i d (omega arith) ∙ omega arith

-- ---- idents

-- a back of bytes has bytes
bytes-drop : (n : ℕ) (xs : List ℕ) → AreBytes xs → AreBytes (drop n xs)
bytes-drop zero xs h i = h i
bytes-drop (suc n) [] h i = omega arith
bytes-drop (suc n) (x ∷ xs) h i = bytes-drop n xs (λ j. h (suc j)) i

-- a front of bytes has bytes
bytes-take : (n : ℕ) (xs : List ℕ) → AreBytes xs → AreBytes (take n xs)
bytes-take zero xs h i = omega arith
bytes-take (suc n) [] h i = omega arith
bytes-take (suc n) (x ∷ xs) h zero = h 0
bytes-take (suc n) (x ∷ xs) h (suc i) = bytes-take n xs (λ j. h (suc j)) i

-- the number of n bytes is below 256^n
number-below : (order : Order) (n : ℕ) (xs : List ℕ) → AreBytes xs → number_of order n xs < 256 ^ n
number-below Least n xs h = little_from-lt 0 n xs h
number-below Most n xs h = big_from-lt 0 n xs h

-- a signed number fits 8 signed bytes
twos-fits : (half n : ℕ) (b : Bool) → half ≤ 2 ^ 63 → n < 2 * half → nat_lt n half ≡ b → IsSigned (if b then pos n else pos n -ℤ pos (2 * half))
twos-fits half n true le lt e = let below = ltb-true n half e in (omega (arith, ints), omega (arith, ints))
twos-fits half n false le lt e = let above = ltb-false n half e in (omega (arith, ints), omega (arith, ints))

-- a small number fits 8 signed bytes
pos-fits : (n : ℕ) → n < 2 ^ 63 → IsSigned (pos n)
pos-fits n lt = (omega (arith, ints), omega (arith, ints))

-- a number fits its column
whole-fits : (kind : Whole) (n : ℕ) → n < 256 ^ whole_bytes kind → FitsIdent (is_u64 kind) (whole_value kind n)
whole-fits wholes.I8 n lt = twos-fits (2 ^ 7) n (nat_lt n (2 ^ 7)) (omega arith) (omega arith) refl
whole-fits wholes.U8 n lt = pos-fits n (omega arith)
whole-fits wholes.I16 n lt = twos-fits (2 ^ 15) n (nat_lt n (2 ^ 15)) (omega arith) (omega arith) refl
whole-fits wholes.U16 n lt = pos-fits n (omega arith)
whole-fits wholes.I32 n lt = twos-fits (2 ^ 31) n (nat_lt n (2 ^ 31)) (omega arith) (omega arith) refl
whole-fits wholes.U32 n lt = pos-fits n (omega arith)
whole-fits wholes.I64 n lt = twos-fits (2 ^ 63) n (nat_lt n (2 ^ 63)) (omega arith) (omega arith) refl
whole-fits wholes.U64 n lt = (omega (arith, ints), omega (arith, ints))

-- the ident of a row fits its column
ident-fits : (order : Order) (column : Option Col) (number : ℕ) (row : List ℕ) → number < 2 ^ 63 → AreBytes row → FitsIdent (is_unsigned column) (value_or number order column row)
ident-fits order None number row lt h = pos-fits number lt
ident-fits order (Some col) number row lt h = whole-fits col.kind (number_of order (whole_bytes col.kind) (drop col.offset row)) (number-below order (whole_bytes col.kind) (drop col.offset row) (bytes-drop col.offset row h))

-- the ident of the row at a place fits its column
row-ident : (l : LayoutValue) (bytes : List ℕ) (k : ℕ) → k < max_bodies → AreBytes bytes → FitsIdent (is_unsigned l.ident) (row_at l bytes k).ident
row-ident l bytes k lt h = ident-fits l.order l.ident (row_number (0 + k)) (take l.width (drop (k * l.width) bytes)) (omega arith) (bytes-take l.width (drop (k * l.width) bytes) (bytes-drop (k * l.width) bytes h))

-- the ident of a row
abbrev ident_of : RawRow → ℤ
ident_of raw = raw.ident

-- the idents of the first rows fit their column
first-idents : (l : LayoutValue) (bytes : List ℕ) (n : ℕ) → n ≤ max_bodies → AreBytes bytes → All (FitsIdent (is_unsigned l.ident)) (map ident_of (first_rows l bytes n))
first-idents l bytes zero le h = All-nil (FitsIdent (is_unsigned l.ident))
first-idents l bytes (suc n) le h =
    let P : List ℤ → Type 0 = λ x. All (FitsIdent (is_unsigned l.ident)) x in
    subst P (sym (map-append ident_of (first_rows l bytes n) (row_at l bytes n ∷ [])))
    (All-push (FitsIdent (is_unsigned l.ident)) (map ident_of (first_rows l bytes n)) (row_at l bytes n).ident (first-idents l bytes n (omega arith) h) (row-ident l bytes n (omega arith) h))

-- as many first rows as were taken
first-length : (l : LayoutValue) (bytes : List ℕ) (n : ℕ) → length (first_rows l bytes n) ≡ n
first-length l bytes zero = refl
first-length l bytes (suc n) =
    let e = length-append (first_rows l bytes n) (row_at l bytes n ∷ []) in
    let before = first-length l bytes n in
    omega arith

-- ---- the file

-- what holds of the state of every body file that has no fault
pub record IsRead (f : StateFile) : Type 0 where
  pub sound : All IsBody (bodies_of f.state)
  pub rows : RowsCount (bodies_of f.state)
  pub few : length f.state ≤ max_bodies
  pub light : all_mass (bodies_of f.state) ≤ max_all_mass
  pub idents_too : length f.idents ≡ length f.state
  pub named : All (FitsIdent f.unsigned) f.idents

-- a file that is found to have no fault has none
none-found : (o : Option FileFault) → found_in 1 o ≡ None → o ≡ None
none-found None h = refl
none-found (Some f) h = absurd cc

-- where the first of two is none there is neither
neither : (a b : Option FoundFault) → first_found a b ≡ None → a ≡ None
neither None b h = refl
neither (Some f) b h = absurd cc

-- a file that has no fault alone in a list has none
alone : (bytes : List ℕ) → fault_of (bytes ∷ []) ≡ None → decided true bytes ≡ None
unfolding fault_from
alone bytes h = none-found (decided true bytes) (neither (found_in 1 (decided true bytes)) None h)

-- no row of a file without a fault is refused
no-refusal : (bytes : List ℕ) (f : StateFile) (h : HasState bytes f) → first_refused h.layout.cube [] (rows h.layout (drop h.layout.header_len bytes)) ≡ None
unfolding decided_behind
no-refusal bytes f h = (none-of _ _ (rw (known_at_end (extent bytes), h.header) at (alone bytes h.read.good))).0

-- the set of a file that is alone in a list is that of its rows
set-is : (bytes : List ℕ) (f : StateFile) (h : HasState bytes f) → h.set ≡ set_of_rows h.layout.cube (rows h.layout (drop h.layout.header_len bytes))
set-is bytes f h = let x = h.read.are in let y = bodies_alone bytes h.layout h.header in cc

-- what holds of the state of a file without a fault
pub is-read : (bytes : List ℕ) (f : StateFile) → AreBytes bytes → HasState bytes f → IsRead f
is-read bytes f b h =
    let l = h.layout in
    let body = drop l.header_len bytes in
    let raws = rows l body in
    let good = no-refusal bytes f h in
    let few = rows-few l.cube [] raws (omega arith) good in
    let light = rows-light l.cube [] raws (omega arith) good in
    let long-bodies = bodies-length l.cube 0 raws in
    let long-speeds : length (map velocity_of_row raws) ≡ length (bodies_from l.cube 0 raws) = length-map raws velocity_of_row ∙ sym long-bodies in
    let same = set-is bytes f h in
    let state : f.state ≡ moving (bodies_from l.cube 0 raws) (map velocity_of_row raws) = h.state ∙ ap state_of_set same in
    let idents-of : f.idents ≡ map ident_of raws = h.idents ∙ ap (λ (s : SetValue). s.idents) same in
    let bodies : bodies_of f.state ≡ bodies_from l.cube 0 raws = ap bodies_of state ∙ bodies-moving (bodies_from l.cube 0 raws) (map velocity_of_row raws) long-speeds in
    let long-state : length f.state ≡ length raws = ap length state ∙ (length-moving (bodies_from l.cube 0 raws) (map velocity_of_row raws) long-speeds ∙ long-bodies) in
    let P : List BodyValue → Type 0 = λ x. All IsBody x in
    let Q : List BodyValue → Type 0 = λ x. RowsCount x in
    let count = first-length l body (rows_in l (length body)) in
    let idents : All (FitsIdent (is_unsigned l.ident)) (map ident_of raws) = first-idents l body (rows_in l (length body)) (omega arith) (bytes-drop l.header_len bytes b) in
    let R : List ℤ → Type 0 = λ x. All (FitsIdent (is_unsigned l.ident)) x in
    let S : Bool → Type 0 = λ x. All (FitsIdent x) f.idents in
    let T : List BodyValue → Type 0 = λ x. all_mass x ≤ max_all_mass in
    record {
      sound = subst P (sym bodies) (rows-sound l.cube [] raws (verdict-bits bytes l h.header) good);
      rows = subst Q (sym bodies) (λ i d lt. rows-count l.cube 0 raws i d lt ∙ omega arith);
      few = omega arith;
      light = subst T (sym bodies) (omega arith);
      idents_too = ap length idents-of ∙ (length-map raws ident_of ∙ sym long-state);
      named = subst S (sym h.unsigned) (subst R (sym idents-of) idents);
    }

-- ---- a file without a fault has a state

-- a file without a fault has a state, by the verdict of its header
by-verdict : (bytes : List ℕ) (v : Result LayoutValue HeaderFault) → verdict bytes ≡ v → fault_of (bytes ∷ []) ≡ None → (f : StateFile) × HasState bytes f
unfolding decided_behind
by-verdict bytes (Ok l) e h =
    let set = set_of_rows l.cube (rows l (drop l.header_len bytes)) in (
      record { unsigned = is_unsigned l.ident; state = state_of_set set; idents = set.idents },
      record { layout = l; header = e; set = set; read = has_alone bytes l e h; unsigned = refl; state = refl; idents = refl },
    )
by-verdict bytes (Err f) e h = absurd (cc (rw (known_at_end (extent bytes), e) at (alone bytes h)))

-- A file without a fault has a state.
pub files-have-states : FilesHaveStates
files-have-states bytes h = by-verdict bytes (verdict bytes) refl h
