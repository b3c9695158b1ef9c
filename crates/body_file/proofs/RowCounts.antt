-- How many bytes rows without a fault have.
use Rattle.std.proofs.Common.{◌≡◌, ℕ, ◌+◌, ◌-◌, ◌*◌, ◌/◌, ◌≤◌, ◌<◌, Bool, true, false, cond, List, [], ◌∷◌, ◌++◌, length, min, Option, Some, None, Ok, Err, refl, sym, ap, ◌∙◌, arith, inl, inr, length-append}
use Rattle.std.proofs.Math.Nat.{min-eq_left, mul-le-mul_right, mul-le-mul_left}
use Rattle.std.proofs.lemmas.Nat.{le-div}
use Rattle.std.proofs.lemmas.Bool.{ltb-true, ltb-false, leb-true, le-leb, cases_Bool}
use Rattle.std.specs.Prelude.{nat_lt, if◌then◌else◌}
use Rattle.hot_units.specs.Limits.{max_bodies, max_row_bytes}
use Rattle.hot_units.specs.Values.{BodyValue, CubeValue}
use Rattle.sdf_header.specs.Layouts.{LayoutValue}
use Rattle.hot_units.specs.declared.raw_row.RawRow.{RawRow}
use Rattle.sdf_rows.specs.declared.raw_row.RowFault.{RowFault}
use Rattle.sdf_rows.specs.declared.raw_row.RowFault.TheVariants.{Trailing}
use Rattle.sdf_rows.specs.Rows.{rows_in, row_number, at_most, is_cut_at, is_beyond_at, ending_from}
use Rattle.sdf_rows.specs.Reading.{is_full_at, is_full, reader_from}
use Rattle.sdf_rows.proofs.Places.{rows_lie, rows_there, part_short}
use Rattle.sdf_rows.proofs.Steps.{all_counted, part_length}
use Rattle.body_set.specs.declared.fault.PushError.{PushError}
use Rattle.body_set.specs.declared.fault.PushError.TheVariants.{TooMany}
use Rattle.hot_units.specs.Bodies.{mass_of}
use Rattle.body_set.specs.Rows.{body_of_row}
use Rattle.body_set.specs.Sets.{SetValue}
use Rattle.body_set.proofs.FirstFault.{first_by_tests}
use Rattle.body_file.specs.declared.fault.FileFault.TheVariants.{End}
use Rattle.body_file.specs.Faults.{named, row_fault, first_refused, rows_fault}
use Rattle.body_file.proofs.RowLists.{first_length, rows_behind}
use Rattle.body_file.proofs.RowSteps.{none_of, rows_good, none_too_many}

room_by : (t : Bool) (o : Option PushError) → named (cond t o (Some TooMany)) ≡ None → t ≡ true
room_by true o e = refl
room_by false o e = absurd cc

-- a row without a fault is one of those that there may be
row_room : (cube : CubeValue) (before : List BodyValue) (raw : RawRow) → row_fault cube before raw ≡ None → length before < max_bodies
row_room cube before raw e = ltb-true _ _ (room_by (nat_lt (length before) max_bodies) _ (sym (ap named (first_by_tests cube (length before) (mass_of before) raw)) ∙ e))

rows_few_from : (cube : CubeValue) (before : List BodyValue) (raws : List RawRow) → length before ≤ max_bodies → first_refused cube before raws ≡ None → length before + length raws ≤ max_bodies
unfolding first_refused
rows_few_from cube before [] room e = omega (arith, room)
rows_few_from cube before (raw ∷ raws) room e =
    let next = before ++ body_of_row cube (length before) raw ∷ [] in
    let parts = none_of (row_fault cube before raw) (first_refused cube next raws) e in
    let here = row_room cube before raw parts.0 in
    let one = length-append before (body_of_row cube (length before) raw ∷ []) in
    let rest = rows_few_from cube next raws (omega (arith, here, one)) parts.1 in
    omega (arith, rest, one)

-- rows without a fault are as few, with those before
pub rows_few : (before : SetValue) (l : LayoutValue) (bytes : List ℕ) → length before.bodies ≤ max_bodies → rows_fault before false l bytes ≡ None → length before.bodies + rows_in l (length bytes) ≤ max_bodies
rows_few before l bytes room e =
    let few = rows_few_from before.cube before.bodies (rows_behind before l bytes) room (rows_good before l bytes e) in
    let count : length (rows_behind before l bytes) ≡ rows_in l (length bytes) = first_length l (length before.bodies) bytes (rows_in l (length bytes)) in
    omega (arith, few, count)

within_by : (b : Bool) → (if b then Some (End Trailing) else None) ≡ None → b ≡ false
within_by true e = absurd cc
within_by false e = refl

-- bytes without a fault have none too many
pub none_beyond_now : (before : SetValue) (l : LayoutValue) (bytes : List ℕ) → rows_fault before false l bytes ≡ None → is_beyond_at l.count l.width (length bytes) ≡ false
none_beyond_now before l bytes e = within_by (is_beyond_at l.count l.width (length bytes)) (none_too_many before l bytes e)

full_length : (count : Option ℕ) (w len : ℕ) → is_full_at count w len ≡ true → is_beyond_at count w len ≡ false → at_most count (len / w) * w ≡ len
full_length None w len full within = absurd (cc full)
full_length (Some n) w len full within =
    let le : n ≤ len / w = leb-true n (len / w) full in
    let there = rows_there n len w le in
    let short : len ≤ n * w = ltb-false (n * w) len within in
    let all : min n (len / w) ≡ n = min-eq_left le in
    rw all (omega (arith, there, short))

number_small : (k : ℕ) → k ≤ max_bodies → row_number k ≡ k
number_small k few = min-eq_left (omega (arith, few))

-- the reader of rows knows how many bytes it was given
pub fed_length : (before : SetValue) (l : LayoutValue) (bytes : List ℕ) → length before.bodies ≤ max_bodies → 1 ≤ l.width → rows_fault before false l bytes ≡ None → (reader_from l (length before.bodies) bytes).given * l.width + length (reader_from l (length before.bodies) bytes).held ≡ length bytes
fed_length before l bytes room wide good = elim (cases_Bool (is_full l bytes)) [
  | inl full ↦
      let few = number_small (rows_in l (length bytes)) (omega (arith, rows_few before l bytes room good)) in
      let all = full_length l.count l.width (length bytes) full (none_beyond_now before l bytes good) in
      rw (full, few) (omega (arith, all))
  | inr lacks ↦
      let few = number_small (rows_in l (length bytes)) (omega (arith, rows_few before l bytes room good)) in
      let all = all_counted l.count l.width (length bytes) lacks in
      let part = part_length l bytes in
      let there = rows_lie (length bytes) l.width in
      rw (lacks, few, all) (omega (arith, part, there))
]

-- so many rows and a part of the next have fewer bytes than one row more
below_next : (n m w len : ℕ) → n ≤ m → w ≤ max_row_bytes → len < (n + 1) * w → len < (m + 1) * max_row_bytes
below_next n m w len few narrow below =
    let scaled : (n + 1) * w ≤ (m + 1) * w = mul-le-mul_right w (omega (arith, few)) in
    let wider : (m + 1) * w ≤ (m + 1) * max_row_bytes = mul-le-mul_left (m + 1) narrow in
    omega (arith, below, scaled, wider)

-- rows without a fault end within the row behind the last that there may be
pub rows_short : (before : SetValue) (l : LayoutValue) (bytes : List ℕ) → length before.bodies ≤ max_bodies → 1 ≤ l.width → l.width ≤ max_row_bytes → rows_fault before false l bytes ≡ None → length bytes < (max_bodies + 1 - length before.bodies) * max_row_bytes
rows_short before l bytes room wide narrow good =
    let few = rows_few before l bytes room good in
    let n = rows_in l (length bytes) in
    let next : (n + 1) * l.width ≡ n * l.width + l.width = omega arith in
    let below : length bytes < (n + 1) * l.width = elim (cases_Bool (is_full l bytes)) [
      | inl full ↦
          let all = full_length l.count l.width (length bytes) full (none_beyond_now before l bytes good) in
          omega (arith, all, next)
      | inr lacks ↦
          let all : n ≡ length bytes / l.width = all_counted l.count l.width (length bytes) lacks in
          let short = part_short (length bytes) l.width wide in
          let there = rows_lie (length bytes) l.width in
          let same : n * l.width ≡ length bytes / l.width * l.width = ap (λ (k : ℕ). k * l.width) all in
          omega (arith, short, there, same, next)
    ] in
    let left : max_bodies + 1 - length before.bodies ≡ (max_bodies - length before.bodies) + 1 = omega (arith, room) in
    rw left (below_next n (max_bodies - length before.bodies) l.width (length bytes) (omega (arith, few)) narrow below)

exact_by : (cut beyond : Bool) (k n : ℕ) (f : RowFault) → (if cut then Err f else if beyond then Err Trailing else Ok k) ≡ Ok n → (cut ≡ false) × (beyond ≡ false)
exact_by true beyond k n f e = absurd cc
exact_by false true k n f e = absurd cc
exact_by false false k n f e = (refl, refl)

exact_length : (count : Option ℕ) (w len : ℕ) → 1 ≤ w → is_cut_at count w len ≡ false → is_beyond_at count w len ≡ false → len ≤ at_most count (len / w) * w
exact_length None w len wide uncut within = ltb-false (len / w * w) len uncut
exact_length (Some n) w len wide uncut within =
    let there : n * w ≤ len = ltb-false len (n * w) uncut in
    let le : n ≤ len / w = le-div n len w (omega arith) (omega arith) in
    let all = full_length (Some n) w len (le-leb n (len / w) le) within in
    omega (arith, all)

-- bytes that end with their rows are these rows
pub rows_exact : (first : ℕ) (l : LayoutValue) (bytes : List ℕ) (n : ℕ) → 1 ≤ l.width → l.width ≤ max_row_bytes → ending_from l first bytes ≡ Ok n → length bytes ≤ rows_in l (length bytes) * max_row_bytes
rows_exact first l bytes n wide narrow e =
    let parts = exact_by (is_cut_at l.count l.width (length bytes)) (is_beyond_at l.count l.width (length bytes)) _ n _ e in
    let exact = exact_length l.count l.width (length bytes) wide parts.0 parts.1 in
    let wider : rows_in l (length bytes) * l.width ≤ rows_in l (length bytes) * max_row_bytes = mul-le-mul_left (rows_in l (length bytes)) narrow in
    omega (arith, exact, wider)
