-- How the bytes end that a reader of rows was given.
use Rattle.std.proofs.Common.{◌≡◌, ℕ, ◌+◌, ◌-◌, ◌*◌, ◌/◌, ◌<◌, ◌≤◌, true, false, List, length, Option, Some, None, is_some, Ok, Err, refl, arith}
use Rattle.std.proofs.lemmas.Bool.{leb-false, leb-true, ltb-true, ltb-false, lt-ltb, le-ltb}
use Rattle.std.proofs.Math.Nat.{min-eq_right}
use Rattle.sdf_header.specs.Layouts.{LayoutValue}
use Rattle.sdf_rows.specs.declared.raw_row.RowFault.TheVariants.{Truncated, Trailing}
use Rattle.sdf_rows.specs.Rows.{at_most, row_number, is_cut_at, is_beyond_at, ending_from}
use Rattle.sdf_rows.specs.Reading.{is_full_at, is_full, part_behind, reader_from}
use Rattle.sdf_rows.proofs.Places.{rows_lie, rows_there, rows_lack, le_rows}
use Rattle.sdf_rows.proofs.Steps.{part_length, all_counted, number_from}

-- bytes too many are no cut row
pub beyond_uncut : (count : Option ℕ) (w len : ℕ) → is_beyond_at count w len ≡ true → is_cut_at count w len ≡ false
beyond_uncut None w len beyond = absurd (cc beyond)
beyond_uncut (Some n) w len beyond =
    let more : n * w < len = ltb-true (n * w) len beyond in
    le-ltb len (n * w) (omega arith)

-- with all stated rows no row is cut
pub full_uncut : (count : Option ℕ) (w len : ℕ) → is_full_at count w len ≡ true → is_cut_at count w len ≡ false
full_uncut None w len full = absurd (cc full)
full_uncut (Some n) w len full =
    let there = rows_there n len w (leb-true n (len / w) full) in
    le-ltb len (n * w) there

-- and with no byte more, the rows in the bytes are those
pub full_exact : (count : Option ℕ) (w len : ℕ) → 1 ≤ w → is_full_at count w len ≡ true → is_beyond_at count w len ≡ false → at_most count (len / w) ≡ len / w
full_exact None w len some full within = refl
full_exact (Some n) w len some full within =
    let short : len ≤ n * w = ltb-false (n * w) len within in
    let there = rows_lie len w in
    min-eq_right (le_rows n (len / w) w some (omega arith))

-- while a stated row lacks, the bytes are cut
pub lacks_cut : (count : Option ℕ) (w len : ℕ) → 1 ≤ w → is_some count ≡ true → is_full_at count w len ≡ false → is_cut_at count w len ≡ true
lacks_cut None w len some counted lacks = absurd (cc counted)
lacks_cut (Some n) w len some counted lacks =
    lt-ltb len (n * w) (rows_lack n len w some (leb-false n (len / w) lacks))

-- with no stated number they are cut within a row
pub part_cut : (count : Option ℕ) (w len : ℕ) → is_some count ≡ false → 1 ≤ len - len / w * w → is_cut_at count w len ≡ true
part_cut None w len free part = lt-ltb (len / w * w) len (omega arith)
part_cut (Some n) w len free part = absurd (cc free)

-- and behind a row they are not
pub whole_uncut : (count : Option ℕ) (w len : ℕ) → is_some count ≡ false → len - len / w * w ≡ 0 → is_cut_at count w len ≡ false
whole_uncut None w len free whole = le-ltb (len / w * w) len (omega arith)
whole_uncut (Some n) w len free whole = absurd (cc free)

-- without a stated number no byte lies behind the last row
pub free_within : (count : Option ℕ) (w len : ℕ) → is_some count ≡ false → is_beyond_at count w len ≡ false
free_within None w len free = refl
free_within (Some n) w len free = absurd (cc free)

-- ---- the answers at the end

-- where a byte came behind the last stated row, the rows end with bytes too many
pub ends_beyond : (l : LayoutValue) (first : ℕ) (bytes : List ℕ) → (reader_from l first bytes).beyond ≡ true → ending_from l first bytes ≡ Err Trailing
ends_beyond l first bytes beyond = rw (beyond_uncut l.count l.width (length bytes) beyond, beyond) refl

-- all stated rows and no byte more end well, with the number of rows given
pub ends_full : (l : LayoutValue) (first : ℕ) (bytes : List ℕ) → 1 ≤ l.width → is_full l bytes ≡ true → (reader_from l first bytes).beyond ≡ false → ending_from l first bytes ≡ Ok (reader_from l first bytes).given
ends_full l first bytes some full within =
    let uncut = full_uncut l.count l.width (length bytes) full in
    let exact = full_exact l.count l.width (length bytes) some full within in
    rw (uncut, within, exact) refl

-- while a stated row lacks, the rows end with the next one cut short
pub ends_counted : (l : LayoutValue) (first : ℕ) (bytes : List ℕ) → 1 ≤ l.width → is_some l.count ≡ true → is_full l bytes ≡ false → ending_from l first bytes ≡ Err (Truncated (row_number (first + (reader_from l first bytes).given)))
ends_counted l first bytes some counted lacks =
    let cut = lacks_cut l.count l.width (length bytes) some counted lacks in
    let exact = all_counted l.count l.width (length bytes) lacks in
    let number = number_from first (length bytes / l.width) in
    rw (cut, exact, number) refl

-- without a stated number, bytes behind the last whole row are a row that is cut short
pub ends_part : (l : LayoutValue) (first : ℕ) (bytes : List ℕ) → is_some l.count ≡ false → is_full l bytes ≡ false → 1 ≤ length (part_behind l bytes) → ending_from l first bytes ≡ Err (Truncated (row_number (first + (reader_from l first bytes).given)))
ends_part l first bytes free lacks part =
    let held = part_length l bytes in
    let cut = part_cut l.count l.width (length bytes) free (omega arith) in
    let exact = all_counted l.count l.width (length bytes) lacks in
    let number = number_from first (length bytes / l.width) in
    rw (cut, exact, number) refl

-- without a stated number, bytes that end with a row end well, with the rows given
pub ends_whole : (l : LayoutValue) (first : ℕ) (bytes : List ℕ) → is_some l.count ≡ false → is_full l bytes ≡ false → length (part_behind l bytes) ≡ 0 → ending_from l first bytes ≡ Ok (reader_from l first bytes).given
ends_whole l first bytes free lacks whole =
    let held = part_length l bytes in
    let uncut = whole_uncut l.count l.width (length bytes) free (omega arith) in
    let within = free_within l.count l.width (length bytes) free in
    let exact = all_counted l.count l.width (length bytes) lacks in
    rw (uncut, within, exact) refl
