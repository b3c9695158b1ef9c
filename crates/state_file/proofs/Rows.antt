-- The rows of a state are read back.
use Rattle.std.proofs.Common.{◌≡◌, ℕ, zero, suc, ◌+◌, ◌*◌, ◌/◌, ◌^◌, ◌<◌, ◌≤◌, Bool, true, false, List, [], ◌∷◌, ◌++◌, length, get_or, take, take_all, drop, Option, Some, ℤ, pos, refl, sym, ap, ◌∙◌, arith}
use Rattle.std.specs.Prelude.{All, min}
use Rattle.std.proofs.lemmas.List.{take_more, drop-drop, length-append, append-nil}
use Rattle.std.proofs.lemmas.List.Elements.{All-head, All-tail}
use Rattle.std.proofs.Math.Nat.{min-eq_left}
use Rattle.byteorder.specs.Endian.{little_bytes, little_number, twos_complement}
use Rattle.hot_units.specs.Bodies.{IsBody}
use Rattle.hot_units.specs.declared.raw_row.RawRow.{RawRow}
use Rattle.sdf_rows.specs.Columns.{whole_value}
use Rattle.sdf_rows.specs.Rows.{row_of, row_at, first_rows, rows, rows_in, row_number}
use Rattle.leap_frog.specs.Leap.{Moving, bodies_of}
use Rattle.state_file.specs.Headers.{ident_kind, state_layout}
use Rattle.state_file.specs.Texts.{bits_of, row_text, rows_text, FitsIdent, IsWritable, IsSigned}
use Rattle.state_file.proofs.Numbers.{number-back, bits-below, signed-back, unsigned-below, unsigned-back, small-back}

-- ---- one row

-- what a row of the file gives
abbrev pub raw_of : Moving → ℤ → RawRow
raw_of m ident = record {
  x = pos m.body.x;
  y = pos m.body.y;
  z = pos m.body.z;
  mass = pos m.body.mass;
  ident = ident;
  work = pos 1;
  vx = Some m.velocity.x;
  vy = Some m.velocity.y;
  vz = Some m.velocity.z;
}

-- a signed number is read back in front of more
signed-at : (z : ℤ) (rest : List ℕ) → IsSigned z → twos_complement 8 (little_number 8 (little_bytes 8 (bits_of z) ++ rest)) ≡ z
signed-at z rest h = rw (number-back 8 (bits_of z) rest (bits-below z h)) (signed-back z h)

-- a coordinate is read back in front of more
small-at : (n : ℕ) (rest : List ℕ) → n < 2 ^ 29 → twos_complement 4 (little_number 4 (little_bytes 4 n ++ rest)) ≡ pos n
small-at n rest h = rw (number-back 4 n rest (omega arith)) (small-back n (omega arith))

-- an ident is read back in front of more
ident-at : (unsigned : Bool) (z : ℤ) (rest : List ℕ) → FitsIdent unsigned z → whole_value (ident_kind unsigned) (little_number 8 (little_bytes 8 (bits_of z) ++ rest)) ≡ z
ident-at true z rest h = rw (number-back 8 (bits_of z) rest (unsigned-below z h)) (unsigned-back z h)
ident-at false z rest h = signed-at z rest h

-- the parts of a row behind its first numbers
abbrev speeds : Moving → List ℕ
speeds m = little_bytes 8 (bits_of m.velocity.x) ++ little_bytes 8 (bits_of m.velocity.y) ++ little_bytes 8 (bits_of m.velocity.z)

-- the bytes of a row behind its mass
abbrev behind_mass : Moving → ℤ → List ℕ
behind_mass m ident = little_bytes 8 (bits_of ident) ++ speeds m

-- the bytes behind z
abbrev behind_z : Moving → ℤ → List ℕ
behind_z m ident = little_bytes 4 m.body.mass ++ behind_mass m ident

-- the bytes behind y
abbrev behind_y : Moving → ℤ → List ℕ
behind_y m ident = little_bytes 4 m.body.z ++ behind_z m ident

-- the bytes behind x
abbrev behind_x : Moving → ℤ → List ℕ
behind_x m ident = little_bytes 4 m.body.y ++ behind_y m ident

-- nothing follows the last number
last-at : (m : Moving) → IsWritable m → twos_complement 8 (little_number 8 (little_bytes 8 (bits_of m.velocity.z))) ≡ m.velocity.z
last-at m w = ap (λ (x : List ℕ). twos_complement 8 (little_number 8 x)) (sym (append-nil (little_bytes 8 (bits_of m.velocity.z)))) ∙ signed-at m.velocity.z [] w.z

-- two rows with the same numbers are one
raw-same : (r s : RawRow) → r.x ≡ s.x → r.y ≡ s.y → r.z ≡ s.z → r.mass ≡ s.mass → r.ident ≡ s.ident → r.work ≡ s.work → r.vx ≡ s.vx → r.vy ≡ s.vy → r.vz ≡ s.vz → r ≡ s
raw-same r s ex ey ez emass eident ework evx evy evz =
    ap (λ (v : ℤ). record r { x = v }) ex
    ∙ ap (λ (v : ℤ). record r { x = s.x; y = v }) ey
    ∙ ap (λ (v : ℤ). record r { x = s.x; y = s.y; z = v }) ez
    ∙ ap (λ (v : ℤ). record r { x = s.x; y = s.y; z = s.z; mass = v }) emass
    ∙ ap (λ (v : ℤ). record r { x = s.x; y = s.y; z = s.z; mass = s.mass; ident = v }) eident
    ∙ ap (λ (v : ℤ). record r { x = s.x; y = s.y; z = s.z; mass = s.mass; ident = s.ident; work = v }) ework
    ∙ ap (λ (v : Option ℤ). record r { x = s.x; y = s.y; z = s.z; mass = s.mass; ident = s.ident; work = s.work; vx = v }) evx
    ∙ ap (λ (v : Option ℤ). record r { x = s.x; y = s.y; z = s.z; mass = s.mass; ident = s.ident; work = s.work; vx = s.vx; vy = v }) evy
    ∙ ap (λ (v : Option ℤ). record r { x = s.x; y = s.y; z = s.z; mass = s.mass; ident = s.ident; work = s.work; vx = s.vx; vy = s.vy; vz = v }) evz

-- the ident of a row is read back
ident-column : (unsigned : Bool) (n k : ℕ) (m : Moving) (ident : ℤ) → FitsIdent unsigned ident → (row_of (state_layout unsigned n) k (row_text m ident)).ident ≡ ident
ident-column true n k m ident i = ident-at true ident (speeds m) i
ident-column false n k m ident i = ident-at false ident (speeds m) i

-- the row of a body is read back
pub row-back : (unsigned : Bool) (n k : ℕ) (m : Moving) (ident : ℤ) → IsBody m.body → FitsIdent unsigned ident → IsWritable m → row_of (state_layout unsigned n) k (row_text m ident) ≡ raw_of m ident
row-back unsigned n k m ident b i w =
    let light = b.light in
    raw-same (row_of (state_layout unsigned n) k (row_text m ident)) (raw_of m ident)
    (small-at m.body.x (behind_x m ident) b.x_in) (small-at m.body.y (behind_y m ident) b.y_in) (small-at m.body.z (behind_z m ident) b.z_in)
    (ap pos (number-back 4 m.body.mass (behind_mass m ident) (omega arith)))
    (ident-column unsigned n k m ident i) refl
    (ap Some (signed-at m.velocity.x (little_bytes 8 (bits_of m.velocity.y) ++ little_bytes 8 (bits_of m.velocity.z)) w.x)) (ap Some (signed-at m.velocity.y (little_bytes 8 (bits_of m.velocity.z)) w.y)) (ap Some (last-at m w))

-- ---- all rows

-- what the rows of the file give
unfoldable pub raws_of : List Moving → List ℤ → List RawRow
raws_of [] idents = []
raws_of (m ∷ s) [] = []
raws_of (m ∷ s) (ident ∷ idents) = raw_of m ident ∷ raws_of s idents

-- the length of the rows
pub length-rows : (s : List Moving) (idents : List ℤ) → length idents ≡ length s → length (rows_text s idents) ≡ length s * 48
unfolding rows_text
length-rows [] idents same = refl
length-rows (m ∷ s) [] same = absurd (omega arith)
length-rows (m ∷ s) (ident ∷ idents) same =
    let rest = length-rows s idents (omega arith) in
    let all = length-append (row_text m ident) (rows_text s idents) in
    omega arith

-- as many rows as bodies
pub length-raws : (s : List Moving) (idents : List ℤ) → length idents ≡ length s → length (raws_of s idents) ≡ length s
unfolding raws_of
length-raws [] idents same = refl
length-raws (m ∷ s) [] same = absurd (omega arith)
length-raws (m ∷ s) (ident ∷ idents) same = ap suc (length-raws s idents (omega arith))

-- a row of 48 bytes in front of others
drop-row : (m : Moving) (ident : ℤ) (rest : List ℕ) (k : ℕ) → drop (suc k * 48) (row_text m ident ++ rest) ≡ drop (k * 48) rest
drop-row m ident rest k =
    let e : suc k * 48 ≡ 48 + k * 48 = omega arith in
    rw e (sym (drop-drop (k * 48) 48 (row_text m ident ++ rest)))

-- the first row
take-row : (m : Moving) (ident : ℤ) (rest : List ℕ) → take 48 (drop (0 * 48) (row_text m ident ++ rest)) ≡ row_text m ident
take-row m ident rest = refl

-- the row at a place is read back
pub row-at : (unsigned : Bool) (n number : ℕ) (s : List Moving) (idents : List ℤ) (k : ℕ) (d : RawRow) → length idents ≡ length s → All IsBody (bodies_of s) → All (FitsIdent unsigned) idents → All IsWritable s → k < length s → row_of (state_layout unsigned n) number (take 48 (drop (k * 48) (rows_text s idents))) ≡ get_or (raws_of s idents) k d
unfolding rows_text raws_of
row-at unsigned n number [] idents k d same b i w lt = absurd (omega arith)
row-at unsigned n number (m ∷ s) [] k d same b i w lt = absurd (omega arith)
row-at unsigned n number (m ∷ s) (ident ∷ idents) zero d same b i w lt =
    ap (row_of (state_layout unsigned n) number) (take-row m ident (rows_text s idents))
    ∙ row-back unsigned n number m ident (All-head IsBody m.body (bodies_of s) b) (All-head (FitsIdent unsigned) ident idents i) (All-head IsWritable m s w)
row-at unsigned n number (m ∷ s) (ident ∷ idents) (suc k) d same b i w lt =
    ap (λ (x : List ℕ). row_of (state_layout unsigned n) number (take 48 x)) (drop-row m ident (rows_text s idents) k)
    ∙ row-at unsigned n number s idents k d (omega arith) (All-tail IsBody m.body (bodies_of s) b) (All-tail (FitsIdent unsigned) ident idents i) (All-tail IsWritable m s w) (omega arith)

-- the first rows are read back
first-back : (unsigned : Bool) (n : ℕ) (s : List Moving) (idents : List ℤ) (j : ℕ) → length idents ≡ length s → All IsBody (bodies_of s) → All (FitsIdent unsigned) idents → All IsWritable s → j ≤ length s → first_rows (state_layout unsigned n) (rows_text s idents) j ≡ take j (raws_of s idents)
first-back unsigned n s idents zero same b i w le = refl
first-back unsigned n s idents (suc j) same b i w le =
    let before = first-back unsigned n s idents j same b i w (omega arith) in
    let raws = raws_of s idents in
    let long = length-raws s idents same in
    let d = row_of (state_layout unsigned n) 0 [] in
    let here = row-at unsigned n (row_number j) s idents j d same b i w (omega arith) in
    let e : suc j ≡ j + 1 = omega arith in
    ap (λ (x : List RawRow). x ++ row_at (state_layout unsigned n) (rows_text s idents) j ∷ []) before
    ∙ (ap (λ (x : RawRow). take j raws ++ x ∷ []) here ∙ rw e (sym (take_more raws j d (omega arith))))

-- how many rows so many bytes hold
count-is : (n len : ℕ) → len ≡ n * 48 → min n (len / 48) ≡ n
count-is n len e =
    let q : len / 48 ≡ n = omega arith in
    rw q (min-eq_left (omega arith))

-- all rows are read back
pub rows-back : (unsigned : Bool) (s : List Moving) (idents : List ℤ) → length idents ≡ length s → All IsBody (bodies_of s) → All (FitsIdent unsigned) idents → All IsWritable s → rows (state_layout unsigned (length s)) (rows_text s idents) ≡ raws_of s idents
rows-back unsigned s idents same b i w =
    let n = length s in
    let count : rows_in (state_layout unsigned n) (length (rows_text s idents)) ≡ n = count-is n (length (rows_text s idents)) (length-rows s idents same) in
    let long = length-raws s idents same in
    ap (first_rows (state_layout unsigned n) (rows_text s idents)) count
    ∙ (first-back unsigned n s idents n same b i w (omega arith) ∙ take_all n (raws_of s idents) (omega arith))
