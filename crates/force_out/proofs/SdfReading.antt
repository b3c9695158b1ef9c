-- A reader has the values back.
use Rattle.std.proofs.Common.{◌≡◌, ◌+◌, ◌*◌, ◌^◌, ◌+ℤ◌, ◌*ℤ◌, ℕ, zero, suc, ℤ, pos, List, [], ◌∷◌, ◌++◌, length, drop, Some, refl, sym, ap, ◌∙◌, subst, arith, append_assoc, length-append, FitsSigned}
use Rattle.std.specs.List.{slice_get}
use Rattle.std.proofs.lemmas.List.{drop-drop, drop_at}
use mir.Syntax.{w64, w128}
use Rattle.std.specs.Int.{cast_unsigned}
use Rattle.byteorder.specs.Endian.{little_bytes, little_number, twos_complement}
use Rattle.byteorder.specs.Numbers.{little_number-reads_back}
use Rattle.hot_units.specs.Values.{Acc3Value}
use Rattle.force_out.specs.ForcesSdf.{high_half, low_half, body_row, body_rows, header, forces_sdf}
use Rattle.force_out.specs.SdfReader.{value_of, row_place, TellsBody, Are128Bits}
use Rattle.force_out.proofs.Halves.{halves-join, high_half-fits, twos_complement-back, unsigned-fits}

-- the bytes of the two columns of a value
abbrev pub value_bytes : ℤ → List ℕ
value_bytes value = little_bytes 8 (cast_unsigned w64 (high_half value)) ++ little_bytes 8 (low_half value)

-- a value is read back, whatever follows
value_of-back : (value : ℤ) (rest : List ℕ) → FitsSigned w128 value → value_of (value_bytes value ++ rest) ≡ value
value_of-back value rest f =
    let whole = halves-join value in
    let fits = high_half-fits value f in
    let high : little_number 8 (value_bytes value ++ rest) ≡ cast_unsigned w64 (high_half value) =
    little_number-reads_back 8 (cast_unsigned w64 (high_half value)) (little_bytes 8 (low_half value) ++ rest) (unsigned-fits (high_half value) fits) in
    let low : little_number 8 (little_bytes 8 (low_half value) ++ rest) ≡ low_half value = little_number-reads_back 8 (low_half value) rest whole.below in
    ap (λ (n : ℕ). (twos_complement 8 n *ℤ pos (2 ^ 64)) +ℤ pos (little_number 8 (little_bytes 8 (low_half value) ++ rest))) high
    ∙ ap (λ (n : ℕ). (twos_complement 8 (cast_unsigned w64 (high_half value)) *ℤ pos (2 ^ 64)) +ℤ pos n) low
    ∙ ap (λ (hi : ℤ). (hi *ℤ pos (2 ^ 64)) +ℤ pos (low_half value)) (twos_complement-back (high_half value) fits)
    ∙ sym whole.joined

-- the row of body k stands behind the rows before it
row-at : (idents : List ℤ) (forces : List Acc3Value) (k : ℕ) (n : ℤ) (f : Acc3Value) → slice_get idents k ≡ Some n → slice_get forces k ≡ Some f
    → (front : List ℕ) × (rest : List ℕ) × (body_rows idents forces ≡ front ++ (body_row (n, f) ++ rest)) × (length front ≡ 64 * k)
row-at [] forces k n f d e = absurd (cc)
row-at (m ∷ idents) [] k n f d e = absurd (cc)
row-at (m ∷ idents) (a ∷ forces) zero n f d e =
    let name : m ≡ n = cc in
    let force : a ≡ f = cc in
    ([], body_rows idents forces, ap (λ (x : ℤ). body_row (x, a) ++ body_rows idents forces) name ∙ ap (λ (x : Acc3Value). body_row (n, x) ++ body_rows idents forces) force, omega arith)
row-at (m ∷ idents) (a ∷ forces) (suc k) n f d e =
    let r = row-at idents forces k n f d e in
    let size : length (body_row (m, a)) ≡ 64 = refl in
    let long = r.3 in (
      body_row (m, a) ++ r.0,
      r.1,
      ap (λ (l : List ℕ). body_row (m, a) ++ l) r.2 ∙ sym (append_assoc (body_row (m, a)) r.0 (body_row (n, f) ++ r.1)),
      length-append (body_row (m, a)) r.0 ∙ omega arith,
    )

-- bytes behind a front
drop-behind : (front bytes : List ℕ) (n m : ℕ) → length front ≡ n → drop (n + m) (front ++ bytes) ≡ drop m bytes
drop-behind front bytes n m e = sym (drop-drop m n (front ++ bytes)) ∙ ap (drop m) (drop_at front bytes n e)

-- a row tells of its body, wherever it stands
row-tells : (front rest : List ℕ) (place : ℕ) (n : ℤ) (f : Acc3Value) → length front ≡ place → Are128Bits n f → TellsBody (front ++ (body_row (n, f) ++ rest)) place n f
row-tells front rest place n f e are =
    let row = body_row (n, f) ++ rest in
    record {
      ident = ap value_of (drop_at front row place e) ∙ value_of-back n (value_bytes f.ax ++ (value_bytes f.ay ++ (value_bytes f.az ++ rest))) are.ident;
      ax = ap value_of (drop-behind front row place 16 e) ∙ value_of-back f.ax (value_bytes f.ay ++ (value_bytes f.az ++ rest)) are.ax;
      ay = ap value_of (drop-behind front row place 32 e) ∙ value_of-back f.ay (value_bytes f.az ++ rest) are.ay;
      az = ap value_of (drop-behind front row place 48 e) ∙ value_of-back f.az rest are.az;
    }

-- row k tells the ident of body k and the force on it, where these are numbers of 128 bits
pub all-told : (idents : List ℤ) (forces : List Acc3Value) (k : ℕ) (ident : ℤ) (force : Acc3Value) → slice_get idents k ≡ Some ident → slice_get forces k ≡ Some force → Are128Bits ident force
    → TellsBody (forces_sdf idents forces) (row_place (length forces) k) ident force
all-told idents forces k ident force d e are =
    let r = row-at idents forces k ident force d e in
    let head = header (length forces) in
    let file : forces_sdf idents forces ≡ (head ++ r.0) ++ (body_row (ident, force) ++ r.1) =
    ap (λ (l : List ℕ). head ++ l) r.2 ∙ sym (append_assoc head r.0 (body_row (ident, force) ++ r.1)) in
    let long : length (head ++ r.0) ≡ row_place (length forces) k = length-append head r.0 ∙ ap (λ (n : ℕ). length head + n) r.3 in
    subst (λ (l : List ℕ). TellsBody l (row_place (length forces) k) ident force) (sym file) (row-tells (head ++ r.0) r.1 (row_place (length forces) k) ident force long are)
