-- What a reader of a body file was given.
use Rattle.std.proofs.Common.{◌≡◌, ℕ, ◌+◌, ◌-◌, ◌*◌, ◌/◌, ◌≤◌, ◌<◌, Bool, true, false, List, [], ◌++◌, length, Option, Some, None, refl, sym, ap, ◌∙◌, arith, append_assoc, append-nil, length-append, subst, All, if◌then◌else◌}
use Rattle.std.proofs.lemmas.Bool.{le-ltb, leb-false}
use Rattle.std.proofs.lemmas.List.Elements.{All-nil}
use Rattle.std.specs.Prelude.{nat_le}
use Rattle.hot_units.specs.Limits.{max_header_bytes, max_bodies, max_row_bytes}
use Rattle.sdf_header.specs.Layouts.{LayoutValue, IsLayout}
use Rattle.sdf_header.specs.declared.header_fault.HeaderFault.TheVariants.{NoMagic, TooLong}
use Rattle.sdf_header.specs.Extent.{Faulty, Ends, Open, extent, extent_from, agrees, magic, ending}
use Rattle.sdf_header.proofs.Known.{within}
use Rattle.sdf_rows.specs.Columns.{Is64Bits}
use Rattle.sdf_rows.specs.Rows as rows
use Rattle.sdf_rows.specs.Reading.{RowsValue, reader_from}
use Rattle.sdf_rows.proofs.Steps.{counted_below}
use Rattle.hot_units.specs.Values.{CubeValue}
use Rattle.body_set.specs.Sets.{SetValue, with_rows}
use Rattle.body_file.specs.declared.fault.FileError.{FileError}
use Rattle.body_file.specs.declared.fault.FileError.TheVariants.{Broken, Refused, Memory}
use Rattle.body_file.specs.declared.reader.BodyReader.{BodyReader}
use Rattle.body_file.specs.declared.reader.BodyReader.TheVariants as stage
use Rattle.body_file.specs.Faults.{first_refused, differs, set_before, decided_behind}
use Rattle.body_file.specs.Files.{Is64BitVelocity}
use Rattle.body_file.specs.Reading.{IsSetBefore, AreBefore, count_of, file_limit, IsAt, StopsRows, IsWholeHeader, IsHeader, IsBehindHeader, HasTaken, Stops, given_to}
use Rattle.body_file.proofs.Headers.{decided_by_rows, open_undecided}
use Rattle.body_file.proofs.RowLists.{rows_behind, rows_none}
use Rattle.body_file.proofs.RowCounts.{fed_length, rows_short}

-- ---- the beginning of the rows

no_rows_in : (count : Option ℕ) (w : ℕ) → rows.at_most count (0 / w) ≡ 0
no_rows_in count w = let few = counted_below count (0 / w) in omega (arith, few)

none_stated : (count : Option ℕ) (w : ℕ) → rows.is_beyond_at count w 0 ≡ false
none_stated None w = refl
none_stated (Some n) w = le-ltb (n * w) 0 (omega arith)

-- a reader of rows that was given nothing, and the set before
pub rows_begin : (before : SetValue) (l : LayoutValue) (r : RowsValue) (set : SetValue) → IsSetBefore before → IsLayout l → r ≡ reader_from l (length before.bodies) [] → set ≡ before → IsAt before l r set []
unfolding first_refused
rows_begin before l r set old sound e f =
    let none : rows_behind before l [] ≡ [] = ap (rows.first_rows_from l (length before.bodies) []) (no_rows_in l.count l.width) in
    let layout : r.layout ≡ l = ap (λ (v : RowsValue). v.layout) e in
    let first : r.first ≡ length before.bodies = ap (λ (v : RowsValue). v.first) e in
    record {
      layout = layout;
      first = first;
      sound = sound;
      few = old.few;
      behind = e ∙ ap (λ (m : LayoutValue). reader_from m (length before.bodies) []) (sym layout) ∙ ap (λ (n : ℕ). reader_from r.layout n []) (sym first);
      bodies = f ∙ sym (rows_none before) ∙ ap (with_rows before) (sym none);
      good = rw (none, none_stated l.count l.width) refl;
      named = subst (λ (v : SetValue). All Is64Bits v.idents) (sym f) old.named;
      slow = subst (λ (v : SetValue). All Is64BitVelocity v.velocities) (sym f) old.slow;
    }

-- the set that the rows of a file follow stands as one before it
pub begun_behind : (before : Option SetValue) (cube : CubeValue) → AreBefore before → IsSetBefore (set_before before cube)
begun_behind None cube h = record { few = omega arith; named = All-nil Is64Bits; slow = All-nil Is64BitVelocity }
begun_behind (Some set) cube h = h

-- it has the bodies of the files before
pub counted_before : (before : Option SetValue) (cube : CubeValue) → length (set_before before cube).bodies ≡ count_of before
counted_before None cube = refl
counted_before (Some set) cube = refl

-- what a header begins whose cube is that of the files before
pub rows_begun : (before : Option SetValue) (l : LayoutValue) (cube : CubeValue) (r : RowsValue) (set : SetValue) (n : ℕ) → cube ≡ l.cube → AreBefore before → IsLayout l → (differs before cube ≡ false) × (set ≡ set_before before cube) → n ≡ length set.bodies → r ≡ reader_from l n [] → (differs before l.cube ≡ false) × IsAt (set_before before l.cube) l r set []
rows_begun before l cube r set n is old sound given count e =
    let same : differs before l.cube ≡ false = ap (differs before) (sym is) ∙ given.0 in
    let begun : set ≡ set_before before l.cube = given.1 ∙ ap (set_before before) is in
    let first : n ≡ length (set_before before l.cube).bodies = count ∙ ap (λ (v : SetValue). length v.bodies) begun in
    (same, rows_begin (set_before before l.cube) l r set (begun_behind before l.cube old) sound (e ∙ ap (λ (k : ℕ). reader_from l k []) first) begun)

-- ---- rows behind a header

-- what stops the rows stops the file
pub rows_stop : (before : Option SetValue) (l : LayoutValue) (front body piece bytes : List ℕ) (e : FileError) → IsHeader l front → differs before l.cube ≡ false → bytes ≡ front ++ body → StopsRows (set_before before l.cube) l (body ++ piece) e → Stops before false (bytes ++ piece) e
rows_stop before l front body piece bytes (Refused f) h same all stops = λ more ended.
    let moved : (bytes ++ piece) ++ more ≡ front ++ ((body ++ piece) ++ more) = rw all (ap (λ (b : List ℕ). b ++ more) (append_assoc front body piece) ∙ append_assoc front (body ++ piece) more) in
    ap (decided_behind before ended) moved ∙ decided_by_rows before l front ((body ++ piece) ++ more) ended h same ∙ stops more ended
rows_stop before l front body piece bytes Memory h same all stops = tt
rows_stop before l front body piece bytes Broken h same all stops = absurd stops

-- the reader with one more piece
pub rows_go_on : (before : Option SetValue) (r r' : RowsValue) (set set' : SetValue) (bytes piece : List ℕ) (b : IsBehindHeader before r set bytes) → IsAt (set_before before b.layout.cube) b.layout r' set' (b.body ++ piece) → IsBehindHeader before r' set' (bytes ++ piece)
rows_go_on before r r' set set' bytes piece b at = record {
  layout = b.layout;
  front = b.front;
  body = b.body ++ piece;
  all = ap (λ (x : List ℕ). x ++ piece) b.all ∙ append_assoc b.front b.body piece;
  header = b.header;
  same = b.same;
  rows = at;
}

-- ---- how much was given

ended_not_open : (b : Bool) (text len : ℕ) → (if b then Ends text len else Faulty TooLong) ≡ Open → ⊥
ended_not_open true text len e = absurd cc
ended_not_open false text len e = absurd cc

open_when : (b : Bool) → (if b then Faulty TooLong else Open) ≡ Open → b ≡ false
open_when true e = absurd cc
open_when false e = refl

short_from : (len : ℕ) (e : Option (ℕ × ℕ)) → extent_from len e ≡ Open → len < max_header_bytes
short_from len None h = leb-false max_header_bytes len (open_when (nat_le max_header_bytes len) h)
short_from len (Some e) h = absurd (ended_not_open (nat_le e.1 max_header_bytes) e.0 e.1 h)

short_by : (len : ℕ) (agreed : Bool) (e : Option (ℕ × ℕ)) → (if agreed then extent_from len e else Faulty NoMagic) ≡ Open → len < max_header_bytes
short_by len true e h = short_from len e h
short_by len false e h = absurd cc

-- a header that goes on is short
open_short : (bytes : List ℕ) → extent bytes ≡ Open → length bytes < max_header_bytes
unfolding extent
open_short bytes h = short_by (length bytes) (agrees magic bytes) (ending bytes) h

-- so is a whole one
pub front_short : (text : ℕ) (front : List ℕ) → IsWholeHeader text front → length front ≤ max_header_bytes
front_short text front whole = (within front text (length front) (ap extent (sym (append-nil front)) ∙ (whole []).0)).1

-- the reader decided nothing yet
pub undecided : (before : Option SetValue) (reader : BodyReader) (bytes : List ℕ) → HasTaken before reader bytes → decided_behind before false bytes ≡ None
undecided before (stage.Header h set) bytes t = open_undecided before bytes t.2
undecided before (stage.Rows r set) bytes t = ap (decided_behind before false) t.all ∙ decided_by_rows before t.layout t.front t.body false t.header t.same ∙ t.rows.good

-- it knows how many bytes it was given
pub given_all : (before : Option SetValue) (reader : BodyReader) (bytes : List ℕ) → HasTaken before reader bytes → given_to reader ≡ length bytes
given_all before (stage.Header h set) bytes t = ap (λ (x : List ℕ). length x) t.0
given_all before (stage.Rows r set) bytes t =
    let old = set_before before t.layout.cube in
    let fed = fed_length old t.layout t.body t.rows.few t.rows.sound.some_bytes t.rows.good in
    let same : r ≡ reader_from t.layout (length old.bodies) t.body =
    t.rows.behind ∙ ap (λ (l : LayoutValue). reader_from l r.first t.body) t.rows.layout ∙ ap (λ (n : ℕ). reader_from t.layout n t.body) t.rows.first in
    let head = t.header.len in
    let size = ap (λ (x : List ℕ). length x) t.all in
    let sum = length-append t.front t.body in
    rw same (omega (arith, fed, head, size, sum))

-- fewer than the limit
pub in_time : (before : Option SetValue) (reader : BodyReader) (bytes : List ℕ) → HasTaken before reader bytes → length bytes < file_limit (count_of before)
in_time before (stage.Header h set) bytes t =
    let short = open_short bytes t.2 in
    omega (arith, short)
in_time before (stage.Rows r set) bytes t =
    let head = front_short t.header.text t.front t.header.whole in
    let body = rows_short (set_before before t.layout.cube) t.layout t.body t.rows.few t.rows.sound.some_bytes t.rows.sound.narrow t.rows.good in
    let count = counted_before before t.layout.cube in
    let body' : length t.body < (max_bodies + 1 - count_of before) * max_row_bytes = rw count at body in
    let size = ap (λ (x : List ℕ). length x) t.all in
    let sum = length-append t.front t.body in
    omega (arith, head, body', size, sum)
