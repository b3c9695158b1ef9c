-- What a piece does to the rows of the bytes before it.
use Rattle.std.proofs.Common.{◌≡◌, ℕ, zero, suc, ◌+◌, ◌-◌, ◌*◌, ◌/◌, ◌^◌, ◌<◌, ◌≤◌, Bool, true, false, List, [], ◌∷◌, ◌++◌, length, take, drop, min, Option, Some, None, nat_le, refl, sym, ap, ◌∙◌, arith, length-append, length-drop, if◌then◌else◌, add-one}
use Rattle.std.proofs.lemmas.List.{take-append-le, drop-append-le, take_all, drop_all}
use Rattle.std.proofs.lemmas.Bool.{leb-false, leb-true, le-leb, lt-ltb, le-ltb}
use Rattle.std.proofs.Math.Seq.{take-append-add}
use Rattle.std.proofs.Math.Nat.{min-eq_left, min-eq_right, min-le_right, mul-le-mul_right}
use Rattle.sdf_header.specs.Layouts.{LayoutValue}
use Rattle.sdf_rows.specs.Rows.{row_of, row_number, row_bytes, first_rows_from, at_most, rows_from, is_beyond_at}
use Rattle.sdf_rows.specs.Reading.{RowsValue, is_full_at, is_full, part_behind, reader_from, IsBehind}
use Rattle.sdf_rows.proofs.Places.{same_rows, one_row_more, more_rows, rows_lie, rows_there}

-- ---- the stated number

-- while not all stated rows are there, no whole row is left out
pub all_counted : (count : Option ℕ) (w len : ℕ) → is_full_at count w len ≡ false → at_most count (len / w) ≡ len / w
all_counted None w len lacks = refl
all_counted (Some n) w len lacks =
    let below : len / w < n = leb-false n (len / w) lacks in
    min-eq_right (omega arith)

-- nor is the next one
pub next_counted : (count : Option ℕ) (w len : ℕ) → is_full_at count w len ≡ false → at_most count (len / w + 1) ≡ len / w + 1
next_counted None w len lacks = refl
next_counted (Some n) w len lacks =
    let below : len / w < n = leb-false n (len / w) lacks in
    min-eq_right (omega arith)

-- and no byte lies behind the last row, up to the end of the current one
pub none_beyond : (count : Option ℕ) (w len m : ℕ) → is_full_at count w len ≡ false → m ≤ (len / w + 1) * w → is_beyond_at count w m ≡ false
none_beyond None w len m lacks within = refl
none_beyond (Some n) w len m lacks within =
    let below : len / w < n = leb-false n (len / w) lacks in
    let scaled : (len / w + 1) * w ≤ n * w = mul-le-mul_right w (omega arith) in
    le-ltb (n * w) m (omega arith)

-- where all stated rows are there, they are there with more bytes too
pub still_full : (count : Option ℕ) (w len t : ℕ) → 1 ≤ w → is_full_at count w len ≡ true → is_full_at count w (len + t) ≡ true
still_full None w len t some full = full
still_full (Some n) w len t some full =
    let there : n ≤ len / w = leb-true n (len / w) full in
    let more = more_rows len t w some in
    le-leb n ((len + t) / w) (omega arith)

-- and their number stays
pub full_count : (count : Option ℕ) (w len t : ℕ) → 1 ≤ w → is_full_at count w len ≡ true → at_most count ((len + t) / w) ≡ at_most count (len / w)
full_count None w len t some full = absurd (cc full)
full_count (Some n) w len t some full =
    let there : n ≤ len / w = leb-true n (len / w) full in
    let more = more_rows len t w some in
    min-eq_left (omega arith) ∙ sym (min-eq_left there)

-- each further byte lies behind the last row
pub all_beyond : (count : Option ℕ) (w len t : ℕ) → 1 ≤ t → is_full_at count w len ≡ true → is_beyond_at count w (len + t) ≡ true
all_beyond None w len t some full = full
all_beyond (Some n) w len t some full =
    let there : n ≤ len / w = leb-true n (len / w) full in
    let bytes = rows_there n len w there in
    lt-ltb (n * w) (len + t) (omega arith)

-- ---- rows

-- a row that is there is the same with more bytes
pub row_bytes_same : (l : LayoutValue) (bytes more : List ℕ) (k : ℕ) → (k + 1) * l.width ≤ length bytes → row_bytes l (bytes ++ more) k ≡ row_bytes l bytes k
row_bytes_same l bytes more k there =
    let next : (k + 1) * l.width ≡ k * l.width + l.width = omega arith in
    let behind = length-drop (k * l.width) bytes in
    let begins : k * l.width ≤ length bytes = omega arith in
    let fits : l.width ≤ length (drop (k * l.width) bytes) = omega arith in
    ap (take l.width) (drop-append-le (k * l.width) bytes more begins) ∙ take-append-le l.width (drop (k * l.width) bytes) more fits

-- the first rows, where they are there, are the same with more bytes
pub first_rows_same : (l : LayoutValue) (first : ℕ) (bytes more : List ℕ) (n : ℕ) → n * l.width ≤ length bytes → first_rows_from l first (bytes ++ more) n ≡ first_rows_from l first bytes n
first_rows_same l first bytes more zero there = refl
first_rows_same l first bytes more (suc n) there =
    let next : suc n * l.width ≡ n * l.width + l.width = omega arith in
    let turned : (n + 1) * l.width ≡ n * l.width + l.width = omega arith in
    let before = first_rows_same l first bytes more n (omega arith) in
    let same = row_bytes_same l bytes more n (omega arith) in
    rw (before, same) refl

-- ---- what is kept of the bytes

-- the row that is not whole is short
pub part_length : (l : LayoutValue) (bytes : List ℕ) → length (part_behind l bytes) ≡ length bytes - length bytes / l.width * l.width
part_length l bytes = length-drop (length bytes / l.width * l.width) bytes

-- as many rows, so as many of the stated ones
pub full_alike : (count : Option ℕ) (w len m : ℕ) → m / w ≡ len / w → is_full_at count w m ≡ is_full_at count w len
full_alike None w len m same = refl
full_alike (Some n) w len m same = ap (λ (k : ℕ). nat_le n k) same

-- never more than there are
pub counted_below : (count : Option ℕ) (k : ℕ) → at_most count k ≤ k
counted_below None k = omega arith
counted_below (Some n) k = min-le_right n k

-- the rows that count lie within the bytes
pub counted_lie : (count : Option ℕ) (w len : ℕ) → at_most count (len / w) * w ≤ len
counted_lie count w len =
    let below = counted_below count (len / w) in
    let scaled : at_most count (len / w) * w ≤ len / w * w = mul-le-mul_right w below in
    let there = rows_lie len w in
    omega arith

-- one row more, and at the end of 64 bits still as many
pub number_step : (k m : ℕ) → min (min k m + 1) m ≡ min (k + 1) m
number_step k m = omega arith

-- a number that goes on from a count of rows is that of all of them
pub number_from : (first k : ℕ) → row_number (first + row_number k) ≡ row_number (first + k)
number_from first k = omega arith

-- what is empty stays so, whether it is left out or not
pub either_way : (b : Bool) (xs : List ℕ) → xs ≡ [] → (if b then [] else xs) ≡ []
either_way true xs none = refl
either_way false xs none = none

-- ---- the three steps

-- a byte behind the last stated row
pub full_step : (l : LayoutValue) (first : ℕ) (bytes piece : List ℕ) → 1 ≤ l.width → 1 ≤ length piece → is_full l bytes ≡ true → record (reader_from l first bytes) { beyond = true } ≡ reader_from l first (bytes ++ piece)
full_step l first bytes piece some more full =
    let sum = length-append bytes piece in
    let still = still_full l.count l.width (length bytes) (length piece) some full in
    let count = full_count l.count l.width (length bytes) (length piece) some full in
    let beyond = all_beyond l.count l.width (length bytes) (length piece) more full in
    rw (sum, full, still, count, beyond) refl

-- behind all stated rows more bytes give no row
pub full_rows : (l : LayoutValue) (first : ℕ) (bytes piece : List ℕ) → 1 ≤ l.width → is_full l bytes ≡ true → rows_from l first (bytes ++ piece) ≡ rows_from l first bytes
full_rows l first bytes piece some full =
    let sum = length-append bytes piece in
    let count = full_count l.count l.width (length bytes) (length piece) some full in
    let there = counted_lie l.count l.width (length bytes) in
    let same = first_rows_same l first bytes piece (at_most l.count (length bytes / l.width)) there in
    rw (sum, count) same

-- bytes that do not end the row
pub kept_step : (l : LayoutValue) (first : ℕ) (bytes piece : List ℕ) → is_full l bytes ≡ false → length (part_behind l bytes) + length piece < l.width → record (reader_from l first bytes) { held = (reader_from l first bytes).held ++ piece } ≡ reader_from l first (bytes ++ piece)
kept_step l first bytes piece lacks short =
    let sum = length-append bytes piece in
    let part = part_length l bytes in
    let same = same_rows (length bytes) (length piece) l.width (omega arith) in
    let still = full_alike l.count l.width (length bytes) (length bytes + length piece) same ∙ lacks in
    let there = rows_lie (length bytes) l.width in
    let next : (length bytes / l.width + 1) * l.width ≡ length bytes / l.width * l.width + l.width = omega arith in
    let before = none_beyond l.count l.width (length bytes) (length bytes) lacks (omega arith) in
    let after = none_beyond l.count l.width (length bytes) (length bytes + length piece) lacks (omega arith) in
    let joined = drop-append-le (length bytes / l.width * l.width) bytes piece there in
    rw (sum, still, lacks, before, after, same, joined) refl

-- bytes that do not end the row give no row
pub kept_rows : (l : LayoutValue) (first : ℕ) (bytes piece : List ℕ) → length (part_behind l bytes) + length piece < l.width → rows_from l first (bytes ++ piece) ≡ rows_from l first bytes
kept_rows l first bytes piece short =
    let sum = length-append bytes piece in
    let part = part_length l bytes in
    let quotient = same_rows (length bytes) (length piece) l.width (omega arith) in
    let there = counted_lie l.count l.width (length bytes) in
    let same = first_rows_same l first bytes piece (at_most l.count (length bytes / l.width)) there in
    rw (sum, quotient) same

-- bytes that end the row
pub ended_step : (l : LayoutValue) (first : ℕ) (bytes rest : List ℕ) → 1 ≤ l.width → is_full l bytes ≡ false → length (part_behind l bytes) + length rest ≡ l.width → record (reader_from l first bytes) { given = min ((reader_from l first bytes).given + 1) (2 ^ 64 - 1); held = [] } ≡ reader_from l first (bytes ++ rest)
ended_step l first bytes rest some lacks ends =
    let sum = length-append bytes rest in
    let part = part_length l bytes in
    let there = rows_lie (length bytes) l.width in
    let next : (length bytes / l.width + 1) * l.width ≡ length bytes / l.width * l.width + l.width = omega arith in
    let more = one_row_more (length bytes) (length rest) l.width some (omega arith) in
    let counted = all_counted l.count l.width (length bytes) lacks in
    let counted' = next_counted l.count l.width (length bytes) lacks in
    let before = none_beyond l.count l.width (length bytes) (length bytes) lacks (omega arith) in
    let after = none_beyond l.count l.width (length bytes) (length bytes + length rest) lacks (omega arith) in
    let none = drop_all ((length bytes / l.width + 1) * l.width) (bytes ++ rest) (omega arith) in
    let held = either_way (is_full_at l.count l.width (length bytes + length rest)) (drop ((length bytes / l.width + 1) * l.width) (bytes ++ rest)) none in
    let number = number_step (length bytes / l.width) (2 ^ 64 - 1) in
    rw (sum, more, held, counted, counted', before, after, number) refl

-- the bytes of the row that they end
pub ended_bytes : (l : LayoutValue) (bytes piece : List ℕ) (wanted : ℕ) → length (part_behind l bytes) + wanted ≡ l.width → row_bytes l (bytes ++ piece) (length bytes / l.width) ≡ part_behind l bytes ++ take wanted piece
ended_bytes l bytes piece wanted ends =
    let there = rows_lie (length bytes) l.width in
    ap (take l.width) (drop-append-le (length bytes / l.width * l.width) bytes piece there)
    ∙ ap (λ (n : ℕ). take n (part_behind l bytes ++ piece)) (sym ends)
    ∙ take-append-add (part_behind l bytes) piece wanted

-- bytes that end the row give that row behind those before
pub ended_rows : (l : LayoutValue) (first : ℕ) (bytes rest : List ℕ) → 1 ≤ l.width → is_full l bytes ≡ false → length (part_behind l bytes) + length rest ≡ l.width → rows_from l first (bytes ++ rest) ≡ rows_from l first bytes ++ row_of l (row_number (first + length bytes / l.width)) (part_behind l bytes ++ rest) ∷ []
ended_rows l first bytes rest some lacks ends =
    let sum = length-append bytes rest in
    let part = part_length l bytes in
    let there = rows_lie (length bytes) l.width in
    let more = one_row_more (length bytes) (length rest) l.width some (omega arith) in
    let counted = all_counted l.count l.width (length bytes) lacks in
    let counted' = next_counted l.count l.width (length bytes) lacks in
    let same = first_rows_same l first bytes rest (length bytes / l.width) there in
    let last = ended_bytes l bytes rest (length rest) ends ∙ ap (λ (t : List ℕ). part_behind l bytes ++ t) (take_all (length rest) rest (omega arith)) in
    rw (sum, more, counted, counted', add-one) (rw (same, last) refl)

-- while not all stated rows are there, the reader keeps the row that is not whole, and counts the whole ones
pub held_part : (l : LayoutValue) (first : ℕ) (bytes : List ℕ) → is_full l bytes ≡ false → (reader_from l first bytes).held ≡ part_behind l bytes
held_part l first bytes lacks = rw lacks refl

-- and it has given as many rows as there are whole ones
pub given_number : (l : LayoutValue) (first : ℕ) (bytes : List ℕ) → is_full l bytes ≡ false → (reader_from l first bytes).given ≡ row_number (length bytes / l.width)
given_number l first bytes lacks = ap row_number (all_counted l.count l.width (length bytes) lacks)

-- a reader that keeps what one of this layout and this first number keeps has both
pub own_layout : (r : RowsValue) (l : LayoutValue) (first : ℕ) (bytes : List ℕ) → r ≡ reader_from l first bytes → IsBehind r bytes
own_layout r l first bytes e =
    e ∙ ap (λ (m : LayoutValue). reader_from m first bytes) (sym (ap (λ (v : RowsValue). v.layout) e))
    ∙ ap (λ (n : ℕ). reader_from r.layout n bytes) (sym (ap (λ (v : RowsValue). v.first) e))
