-- The file of a state is written part by part.
use Rattle.std.proofs.Common.{◌≡◌, ℕ, zero, suc, ◌+◌, ◌<◌, Bool, true, false, List, [], ◌∷◌, ◌++◌, length, take, get_or, map, Option, Some, None, ℤ, pos, Bor, refl, sym, ap, ◌∙◌, append_assoc, append-nil, subst, rules, arith}
use Rattle.std.specs.Prelude.{codes, slice_get, All, IsSome}
use Rattle.std.specs.Option.{option_copied}
use Rattle.std.proofs.lemmas.Option.{slice_get-get_or}
use Rattle.std.proofs.lemmas.List.{length-map}
use Rattle.std.proofs.lemmas.List.Elements.{All-get_or}
use Rattle.std.specs.Fmt.{decimal}
use Rattle.byteorder.specs.Endian.{little_bytes}
use Rattle.hot_io.specs.Writing.{Passes}
use Rattle.hot_io.proofs.Blocks.{SendsFront, passes_added, cut_before}
use Rattle.hot_units.specs.Values.{BodyValue, components}
use Rattle.leap_frog.specs.States.{vector_of}
use Rattle.leap_frog.specs.Leap.{Moving, bodies_of}
use Rattle.state_file.specs.Headers.{ident_line, state_header}
use Rattle.state_file.specs.Texts.{bits_of, row_text, rows_text, IsWritable}
use Rattle.state_file.proofs.StateHeader.{text_1}

-- the header before the line of the ident column
abbrev pub header_front : List ℕ
header_front = codes "# SDF\nparameter byteorder = 0x78563412;\nint cube_bits = 29;\nstruct {\n  int32_t x, y, z;\n  uint32_t mass;\n"

-- the header between that line and the number of rows
abbrev pub header_middle : List ℕ
header_middle = codes "\n  int64_t vx, vy, vz;\n}["

-- the header behind the number of rows
abbrev pub header_end : List ℕ
header_end = codes "];\n# SDF-EOH\n"

-- the parts are the header
parts-are : (unsigned : Bool) (n : ℕ) → header_front ++ (ident_line unsigned ++ (header_middle ++ (decimal n ++ header_end))) ≡ state_header unsigned n
parts-are true n = ap (text_1 true) (sym (append_assoc (decimal n) (codes "];") (codes "\n# SDF-EOH\n")))
parts-are false n = ap (text_1 false) (sym (append_assoc (decimal n) (codes "];") (codes "\n# SDF-EOH\n")))

-- parts behind nothing are joined from the right
from-right : (a b c d e : List ℕ) → a ++ b ++ c ++ d ++ e ≡ a ++ (b ++ (c ++ (d ++ e)))
from-right a b c d e = simp append_assoc

-- the parts that are added to nothing are the header
pub header-added : (unsigned : Bool) (n : ℕ) (none one line two three four : List ℕ) → none ≡ [] → one ≡ none ++ header_front → line ≡ ident_line unsigned → two ≡ one ++ line → three ≡ two ++ header_middle ++ decimal n → four ≡ three ++ header_end
    → four ≡ state_header unsigned n
header-added unsigned n none one line two three four a b c d e f =
    rw (f, e, d, c, b, a) (from-right header_front (ident_line unsigned) header_middle (decimal n) header_end ∙ parts-are unsigned n)

-- eight parts behind a front
eight-joined : (o a b c d e f g h : List ℕ) → o ++ a ++ b ++ c ++ d ++ e ++ f ++ g ++ h ≡ o ++ (a ++ b ++ c ++ d ++ e ++ f ++ g ++ h)
eight-joined o a b c d e f g h = simp append_assoc

-- the parts that are added are the row
pub row-added : (m : Moving) (ident : ℤ) (old x y z mass i vx vy vz r1 r2 r3 r4 r5 r6 r7 r8 : List ℕ) → x ≡ little_bytes 4 m.body.x → y ≡ little_bytes 4 m.body.y → z ≡ little_bytes 4 m.body.z → mass ≡ little_bytes 4 m.body.mass → i ≡ little_bytes 8 (bits_of ident) → vx ≡ little_bytes 8 (bits_of m.velocity.x) → vy ≡ little_bytes 8 (bits_of m.velocity.y) → vz ≡ little_bytes 8 (bits_of m.velocity.z)
    → r1 ≡ old ++ x → r2 ≡ r1 ++ y → r3 ≡ r2 ++ z → r4 ≡ r3 ++ mass → r5 ≡ r4 ++ i → r6 ≡ r5 ++ vx → r7 ≡ r6 ++ vy → r8 ≡ r7 ++ vz → r8 ≡ old ++ row_text m ident
row-added m ident old x y z mass i vx vy vz r1 r2 r3 r4 r5 r6 r7 r8 a b c d e f g h p1 p2 p3 p4 p5 p6 p7 p8 =
    rw (p8, p7, p6, p5, p4, p3, p2, p1, a, b, c, d, e, f, g, h)
    (eight-joined old (little_bytes 4 m.body.x) (little_bytes 4 m.body.y) (little_bytes 4 m.body.z) (little_bytes 4 m.body.mass) (little_bytes 8 (bits_of ident)) (little_bytes 8 (bits_of m.velocity.x)) (little_bytes 8 (bits_of m.velocity.y)) (little_bytes 8 (bits_of m.velocity.z)))

-- ---- rows

-- a body with its velocity, by what a state tells of a row
pub row-of-state : (s : List Moving) (i : ℕ) (b : BodyValue) (v : List ℤ) → Some b ≡ slice_get (bodies_of s) i → Some v ≡ slice_get (map (λ (m : Moving). components m.velocity) s) i → record { body = b; velocity = vector_of v } ≡ get_or s i (record { body = b; velocity = vector_of v })
row-of-state [] i b v e f = cc
row-of-state (m ∷ s) zero b v e f =
    let body : b ≡ m.body = cc in
    let speed : v ≡ components m.velocity = cc in
    rw (body, speed) refl
row-of-state (m ∷ s) (suc i) b v e f = row-of-state s i b v e f

-- the rows before a place, and those behind
rows-front : (s : List Moving) (idents : List ℤ) (i : ℕ) → (rest : List ℕ) × (rows_text s idents ≡ rows_text (take i s) (take i idents) ++ rest)
unfolding rows_text
rows-front [] idents zero = ([], refl)
rows-front [] idents (suc i) = ([], refl)
rows-front (x ∷ s) [] zero = ([], refl)
rows-front (x ∷ s) [] (suc i) = ([], refl)
rows-front (x ∷ s) (y ∷ idents) zero = (rows_text (x ∷ s) (y ∷ idents), refl)
rows-front (x ∷ s) (y ∷ idents) (suc i) =
    let r = rows-front s idents i in
    (r.0, ap (λ (l : List ℕ). row_text x y ++ l) r.1 ∙ sym (append_assoc (row_text x y) (rows_text (take i s) (take i idents)) r.0))

-- the rows of one body more are those before it and its own
rows-next : (s : List Moving) (idents : List ℤ) (i : ℕ) (m : Moving) (n : ℤ) → i < length s → i < length idents → m ≡ get_or s i m → n ≡ get_or idents i (pos 0)
    → rows_text (take (suc i) s) (take (suc i) idents) ≡ rows_text (take i s) (take i idents) ++ row_text m n
unfolding rows_text
rows-next [] idents i m n h k d e = absurd (omega arith)
rows-next (x ∷ s) [] i m n h k d e = absurd (omega arith)
rows-next (x ∷ s) (y ∷ idents) zero m n h k d e = rw (d, e) (append-nil (row_text x y))
rows-next (x ∷ s) (y ∷ idents) (suc i) m n h k d e =
    ap (λ (l : List ℕ). row_text x y ++ l) (rows-next s idents i m n (omega arith) (omega arith) d e) ∙ sym (append_assoc (row_text x y) (rows_text (take i s) (take i idents)) (row_text m n))

pub rows-take : (s : List Moving) (idents : List ℤ) (i : ℕ) (m : Moving) (n : ℤ) → i < length s → i < length idents → m ≡ get_or s i m → n ≡ get_or idents i (pos 0) → rows_text (take (i + 1) s) (take (i + 1) idents) ≡ rows_text (take i s) (take i idents) ++ row_text m n
rows-take s idents i m n h k d e = let z : i + 1 ≡ suc i = omega arith in rw z (rows-next s idents i m n h k d e)

-- a front of the rows before a body was sent
pub cut-in-rows : (s : List Moving) (idents : List ℤ) (k : ℕ) (a b c : Option (List ℕ)) (h i : List ℕ)
    → Passes a h b i (rows_text (take k s) (take k idents)) → SendsFront b i c [] → SendsFront a h c (rows_text s idents)
cut-in-rows s idents k a b c h i =
    let r = rows-front s idents k in
    cut_before a b c h i (rows_text s idents) (rows_text (take k s) (take k idents)) r.0 r.1

-- ---- what a state tells of a row that it has

-- what is copied is there
pub copied-some : {T : Type 0} (o : Option (Bor T)) (x : T) → option_copied o ≡ Some x → IsSome o
copied-some (Some r) x h = search rules
copied-some None x h = absurd cc

-- a state has a body in each row
pub body-there : (s : List Moving) (i : ℕ) (o : Option (Bor BodyValue)) (d : Moving) → option_copied o ≡ slice_get (bodies_of s) i → i < length s → IsSome o
body-there s i o d e lt =
    copied-some o (get_or (bodies_of s) i d.body) (e ∙ slice_get-get_or (bodies_of s) i d.body (omega (arith, length-map s (λ (m : Moving). m.body))))

-- a state has a velocity in each row
pub velocity-there : (s : List Moving) (i : ℕ) (o : Option (List ℤ)) → o ≡ slice_get (map (λ (m : Moving). components m.velocity) s) i → i < length s → IsSome o
velocity-there s i o e lt =
    let P : Option (List ℤ) → Type 0 = λ x. IsSome x in
    subst P (sym (e ∙ slice_get-get_or (map (λ (m : Moving). components m.velocity) s) i [] (omega (arith, length-map s (λ (m : Moving). components m.velocity))))) (search rules)

-- each velocity of a list can be written
pub writable-at : (s : List Moving) (i : ℕ) (m : Moving) → All IsWritable s → i < length s → m ≡ get_or s i m → IsWritable m
writable-at s i m h lt e = rw e (All-get_or IsWritable s i m lt h)

-- no row is on its way yet
pub rows-none : (a : Option (List ℕ)) (held : List ℕ) → Passes a held a held (rows_text [] [])
unfolding rows_text
rows-none a held = passes_added a held held [] (sym (append-nil held))
