-- The first fault of rows that grow.
use Rattle.std.proofs.Common.{◌≡◌, ℕ, zero, suc, ◌+◌, ◌-◌, ◌/◌, ◌≤◌, List, [], ◌∷◌, ◌++◌, length, Option, Some, None, refl, sym, ap, ◌∙◌, arith, length-append, append-nil, append_assoc}
use Rattle.sdf_header.specs.Layouts.{LayoutValue}
use Rattle.hot_units.specs.declared.raw_row.RawRow.{RawRow}
use Rattle.sdf_rows.specs.Rows.{row_from, first_rows_from, rows_from, rows_in, at_most}
use Rattle.sdf_rows.proofs.Places.{more_rows}
use Rattle.sdf_rows.proofs.Steps.{first_rows_same, counted_lie}
use Rattle.body_set.specs.Rows.{body_of_row}
use Rattle.body_set.specs.Sets.{SetValue, with_row, with_rows}
use Rattle.body_file.specs.declared.fault.FileFault.{FileFault}
use Rattle.body_file.specs.Faults.{first_of, row_fault, first_refused}

-- ---- lists of rows

first_of_three : (a b c : Option FileFault) → first_of a (first_of b c) ≡ first_of (first_of a b) c
first_of_three None b c = refl
first_of_three (Some a) b c = refl

first_alone : (f : Option FileFault) → first_of f None ≡ f
first_alone None = refl
first_alone (Some f) = refl

-- the first fault of these rows behind those of a set
abbrev pub refused_behind : SetValue → List RawRow → Option FileFault
refused_behind before raws = first_refused before.cube before.bodies raws

-- the first fault of two lists of rows, one behind the other
pub refused_append : (before : SetValue) (raws more : List RawRow) → refused_behind before (raws ++ more) ≡ first_of (refused_behind before raws) (refused_behind (with_rows before raws) more)
unfolding first_refused with_rows
refused_append before [] more = refl
refused_append before (raw ∷ raws) more =
    let next = with_row before raw in
    ap (first_of (row_fault before.cube before.bodies raw)) (refused_append next raws more)
    ∙ first_of_three (row_fault before.cube before.bodies raw) (refused_behind next raws) (refused_behind (with_rows next raws) more)

-- the first fault of rows with one more
pub refused_push : (before : SetValue) (raws : List RawRow) (raw : RawRow) → refused_behind before (raws ++ raw ∷ []) ≡ first_of (refused_behind before raws) (row_fault (with_rows before raws).cube (with_rows before raws).bodies raw)
unfolding first_refused
refused_push before raws raw =
    refused_append before raws (raw ∷ [])
    ∙ ap (first_of (refused_behind before raws)) (first_alone (row_fault (with_rows before raws).cube (with_rows before raws).bodies raw))

-- ---- the whole rows of bytes

-- the rows of these bytes, numbered from those of a set on
abbrev pub rows_behind : SetValue → LayoutValue → List ℕ → List RawRow
rows_behind before l bytes = rows_from l (length before.bodies) bytes

-- the list of the first n rows has length n
pub first_length : (l : LayoutValue) (first : ℕ) (bytes : List ℕ) (n : ℕ) → length (first_rows_from l first bytes n) ≡ n
first_length l first bytes zero = refl
first_length l first bytes (suc n) =
    let e = length-append (first_rows_from l first bytes n) (row_from l first bytes n ∷ []) in
    let before = first_length l first bytes n in
    omega arith

first_more : (l : LayoutValue) (first : ℕ) (bytes : List ℕ) (n m : ℕ) → (extra : List RawRow) × (first_rows_from l first bytes (m + n) ≡ first_rows_from l first bytes n ++ extra)
first_more l first bytes n zero = let e : 0 + n ≡ n = omega arith in ([], rw e (sym (append-nil (first_rows_from l first bytes n))))
first_more l first bytes n (suc m) =
    let before = first_more l first bytes n m in
    let e : suc m + n ≡ suc (m + n) = omega arith in
    rw e (before.0 ++ row_from l first bytes (m + n) ∷ [], ap (λ (r : List RawRow). r ++ row_from l first bytes (m + n) ∷ []) before.1 ∙ append_assoc (first_rows_from l first bytes n) before.0 _)

-- more bytes hold no fewer rows
counts_grow : (count : Option ℕ) (a b : ℕ) → a ≤ b → at_most count a ≤ at_most count b
counts_grow None a b le = le
counts_grow (Some n) a b le = omega (arith, le)

rows_grow : (l : LayoutValue) (len more : ℕ) → 1 ≤ l.width → rows_in l len ≤ rows_in l (len + more)
rows_grow l len more some = counts_grow l.count (len / l.width) ((len + more) / l.width) (more_rows len more l.width some)

-- the rows of bytes stay, and more follow
pub rows_prefix : (l : LayoutValue) (first : ℕ) (bytes more : List ℕ) → 1 ≤ l.width → (extra : List RawRow) × (rows_from l first (bytes ++ more) ≡ rows_from l first bytes ++ extra)
rows_prefix l first bytes more some =
    let n = rows_in l (length bytes) in
    let sum = length-append bytes more in
    let le : n ≤ rows_in l (length (bytes ++ more)) = rw sum (rows_grow l (length bytes) (length more) some) in
    let m = rows_in l (length (bytes ++ more)) - n in
    let whole : m + n ≡ rows_in l (length (bytes ++ more)) = omega (arith, le) in
    let parts = first_more l first (bytes ++ more) n m in
    let same = first_rows_same l first bytes more n (counted_lie l.count l.width (length bytes)) in
    (parts.0, ap (first_rows_from l first (bytes ++ more)) (sym whole) ∙ parts.1 ∙ ap (λ (r : List RawRow). r ++ parts.0) same)

-- ---- sets with rows

-- a row behind some is the last of them
pub rows_one_more : (set : SetValue) (raws : List RawRow) (raw : RawRow) → with_row (with_rows set raws) raw ≡ with_rows set (raws ++ raw ∷ [])
unfolding with_rows
rows_one_more set [] raw = refl
rows_one_more set (first ∷ raws) raw = rows_one_more (with_row set first) raws raw

-- no row leaves the set
pub rows_none : (set : SetValue) → with_rows set [] ≡ set
unfolding with_rows
rows_none set = refl

-- a set with rows has as many bodies more
pub with_length : (set : SetValue) (raws : List RawRow) → length (with_rows set raws).bodies ≡ length set.bodies + length raws
unfolding with_rows
with_length set [] = omega arith
with_length set (raw ∷ raws) =
    let one = length-append set.bodies (body_of_row set.cube (length set.bodies) raw ∷ []) in
    let rest = with_length (with_row set raw) raws in
    omega (arith, one, rest)
