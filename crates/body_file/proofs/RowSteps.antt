-- One answer of the reader of rows, and what it does to the bodies.
use Rattle.std.proofs.Common.{◌≡◌, ℕ, ◌+◌, ◌*◌, ◌/◌, ◌≤◌, ◌⊎◌, inl, inr, Bool, true, false, List, [], ◌∷◌, ◌++◌, length, take, drop, ℤ, Option, Some, None, Result, Ok, Err, refl, sym, ap, ◌∙◌, arith, nat_lt, if◌then◌else◌, length-append, length-take, append_assoc, append-nil, subst, All}
use Rattle.std.proofs.lemmas.Bool.{cases_Bool, ltb-true}
use Rattle.std.proofs.lemmas.Int.{ints}
use Rattle.sdf_header.specs.Layouts.{LayoutValue}
use Rattle.hot_units.specs.declared.raw_row.RawRow.{RawRow}
use Rattle.sdf_rows.specs.declared.raw_row.RowFault.{RowFault}
use Rattle.sdf_rows.specs.declared.raw_row.RowFault.TheVariants.{Trailing}
use Rattle.sdf_rows.specs.declared.raw_row.RowStep.{RowStep}
use Rattle.std.proofs.lemmas.List.Elements.{All-push}
use Rattle.sdf_rows.specs.Columns.{Is64Bits, Are64Bits}
use Rattle.sdf_rows.specs.Rows.{Has64Bits, rows_from, is_beyond_at}
use Rattle.sdf_rows.specs.Reading.{RowsValue, IsBehind, is_full, wanted, answer_from, row_list}
use Rattle.sdf_header.proofs.Known.{split_piece}
use Rattle.sdf_rows.proofs.Places.{part_short, rows_lie}
use Rattle.sdf_rows.proofs.Steps.{none_beyond, part_length, full_rows, all_beyond}
use Rattle.sdf_rows.proofs.Ends.{ends_beyond}
use Rattle.std.specs.Prelude.{MatchOption}
use Rattle.std.specs.Result.{IsOkUnless}
use Rattle.body_set.specs.declared.fault.PushError.{PushError}
use Rattle.body_set.specs.declared.fault.PushError.TheVariants as push
use Rattle.body_set.specs.Rows.{first_fault, or_zero, velocity_of_row}
use Rattle.body_set.specs.Sets.{SetValue, with_row, with_rows}
use Rattle.body_file.specs.declared.fault.FileFault.{FileFault}
use Rattle.body_file.specs.declared.fault.FileFault.TheVariants.{End}
use Rattle.body_file.specs.declared.fault.FileError.{FileError}
use Rattle.body_file.specs.declared.fault.FileError.TheVariants.{Broken, Refused, Memory}
use Rattle.body_file.specs.Faults.{first_of, row_error, named, row_fault, ended_by, end_fault, rows_fault}
use Rattle.body_file.specs.Files.{Is64BitVelocity}
use Rattle.body_file.specs.Reading.{IsAt, PushesRow, StopsRows}
use Rattle.body_file.proofs.RowLists.{refused_behind, refused_append, refused_push, rows_behind, rows_prefix, rows_one_more}

-- ---- the answer

abbrev answer_by : Bool → Bool → ℕ → ℕ → RawRow → Result RowStep RowFault
answer_by full short n w row = if full then Err Trailing else if short then Ok (record { taken = n; row = None }) else Ok (record { taken = w; row = Some row })

taken_by : (short : Bool) (n w : ℕ) (row : RawRow) (step : RowStep) → answer_by false short n w row ≡ Ok step → step.taken ≡ (if short then n else w)
taken_by true n w row step e = cc
taken_by false n w row step e = cc

ok_by : (full : Bool) (n w : ℕ) (row : RawRow) (step : RowStep) → answer_by full (nat_lt n w) n w row ≡ Ok step → (full ≡ false) × ((step.taken ≡ n) ⊎ (step.taken ≡ w)) × (step.taken ≤ w)
ok_by true n w row step e = absurd cc
ok_by false n w row step e = elim (cases_Bool (nat_lt n w)) [
  | inl short ↦
      let less = ltb-true n w short in
      let same : step.taken ≡ n = taken_by true n w row step (rw short at e) in
      (refl, inl same, omega (arith, same, less))
  | inr long ↦
      let same : step.taken ≡ w = taken_by false n w row step (rw long at e) in
      (refl, inr same, omega (arith, same))
]

err_by : (full short : Bool) (n w : ℕ) (row : RawRow) (fault : RowFault) → answer_by full short n w row ≡ Err fault → (full ≡ true) × (fault ≡ Trailing)
err_by true short n w row fault e = (refl, cc)
err_by false true n w row fault e = absurd cc
err_by false false n w row fault e = absurd cc

-- while a row is wanted, at least one byte is taken
pub takes_some : (l : LayoutValue) (first : ℕ) (bytes piece : List ℕ) (step : RowStep) → 1 ≤ l.width → 1 ≤ length piece → answer_from l first bytes piece ≡ Ok step → 1 ≤ step.taken
takes_some l first bytes piece step wide some e =
    let part = part_length l bytes in
    let short = part_short (length bytes) l.width wide in
    elim ((ok_by (is_full l bytes) (length piece) (wanted l bytes) _ step e).1) [
      | inl n ↦ omega (arith, n)
      | inr w ↦ omega (arith, w, part, short)
    ]

-- ---- faults that stay

-- where the first of two faults is none, neither is there
pub none_of : (a b : Option FileFault) → first_of a b ≡ None → (a ≡ None) × (b ≡ None)
none_of None b e = (refl, e)
none_of (Some f) b e = absurd cc

-- bytes without a fault have no row at fault
pub rows_good : (before : SetValue) (l : LayoutValue) (bytes : List ℕ) → rows_fault before false l bytes ≡ None → refused_behind before (rows_behind before l bytes) ≡ None
rows_good before l bytes e = (none_of (refused_behind before (rows_behind before l bytes)) (end_fault (length before.bodies) false l bytes) e).0

-- nor a byte too many
pub none_too_many : (before : SetValue) (l : LayoutValue) (bytes : List ℕ) → rows_fault before false l bytes ≡ None → end_fault (length before.bodies) false l bytes ≡ None
none_too_many before l bytes e = (none_of (refused_behind before (rows_behind before l bytes)) (end_fault (length before.bodies) false l bytes) e).1

-- a row at fault stays the first, whatever follows
pub refused_stays : (before : SetValue) (l : LayoutValue) (bytes more : List ℕ) (ended : Bool) (f : FileFault) → 1 ≤ l.width → refused_behind before (rows_behind before l bytes) ≡ Some f → rows_fault before ended l (bytes ++ more) ≡ Some f
refused_stays before l bytes more ended f wide e =
    let p = rows_prefix l (length before.bodies) bytes more wide in
    let rest = end_fault (length before.bodies) ended l (bytes ++ more) in
    ap (λ (r : List RawRow). first_of (refused_behind before r) rest) p.1
    ∙ ap (λ (o : Option FileFault). first_of o rest) (refused_append before (rows_behind before l bytes) p.0)
    ∙ ap (λ (o : Option FileFault). first_of (first_of o (refused_behind (with_rows before (rows_behind before l bytes)) p.0)) rest) e

end_beyond : (first : ℕ) (ended : Bool) (l : LayoutValue) (bytes : List ℕ) → is_beyond_at l.count l.width (length bytes) ≡ true → end_fault first ended l bytes ≡ Some (End Trailing)
end_beyond first true l bytes h = ap ended_by (ends_beyond l first bytes h)
end_beyond first false l bytes h = rw h refl

-- so does a byte too many
pub trailing_stays : (before : SetValue) (l : LayoutValue) (bytes piece more : List ℕ) (ended : Bool) → 1 ≤ l.width → 1 ≤ length piece → is_full l bytes ≡ true → refused_behind before (rows_behind before l bytes) ≡ None → rows_fault before ended l ((bytes ++ piece) ++ more) ≡ Some (End Trailing)
trailing_stays before l bytes piece more ended wide some full good =
    let first = length before.bodies in
    let all = append_assoc bytes piece more in
    let sum = length-append bytes (piece ++ more) in
    let sum' = length-append piece more in
    let beyond : is_beyond_at l.count l.width (length (bytes ++ (piece ++ more))) ≡ true = rw sum (all_beyond l.count l.width (length bytes) (length (piece ++ more)) (omega arith) full) in
    ap (rows_fault before ended l) all
    ∙ ap (λ (r : List RawRow). first_of (refused_behind before r) (end_fault first ended l (bytes ++ (piece ++ more)))) (full_rows l first bytes (piece ++ more) wide full)
    ∙ ap (λ (o : Option FileFault). first_of o (end_fault first ended l (bytes ++ (piece ++ more)))) good
    ∙ end_beyond first ended l (bytes ++ (piece ++ more)) beyond

-- ---- a row that is refused

-- the answer for a refused row says of this fault what it says of the row
abbrev TellsFault : Option FileFault → FileError → Type 0
TellsFault fault (Refused f) = fault ≡ Some f
TellsFault fault Memory = Unit {0}
TellsFault fault Broken = ⊥

tells_by : (e : PushError) → TellsFault (named (Some e)) (row_error e)
tells_by push.TooMany = refl
tells_by (push.Outside row axis) = refl
tells_by (push.MassRange row) = refl
tells_by (push.WorkRange row) = refl
tells_by (push.MassSum row) = refl
tells_by push.Memory = tt

tells_fault : (o : Option PushError) (e : PushError) → MatchOption o (IsOkUnless {T = Unit {0}} (Err e) push.Memory) (λ f. ◌≡◌ {A = Result (Unit {0}) PushError} (Err e) (Err f)) → TellsFault (named o) (row_error e)
tells_fault None e h = let m : e ≡ push.Memory = h in rw m tt
tells_fault (Some f) e h = let m : e ≡ f = cc in rw m (tells_by f)

says_so : (old new : SetValue) (raw : RawRow) (e : FileError) → TellsFault (row_fault old.cube old.bodies raw) e → PushesRow old new raw (Err e)
says_so old new raw (Refused f) h = h
says_so old new raw Memory h = tt
says_so old new raw Broken h = absurd h

-- a row that a set refuses is answered by its fault
pub row_refused : (old new : SetValue) (raw : RawRow) (e : PushError) → MatchOption (first_fault old.cube old.bodies raw) (IsOkUnless {T = Unit {0}} (Err e) push.Memory) (λ f. ◌≡◌ {A = Result (Unit {0}) PushError} (Err e) (Err f)) → PushesRow old new raw (Err (row_error e))
row_refused old new raw e h = says_so old new raw (row_error e) (tells_fault (first_fault old.cube old.bodies raw) e h)

-- ---- steps

-- the reader of rows took the front of a piece, up to the end of the current row
pub record Stepped (before : SetValue) (l : LayoutValue) (r : RowsValue) (bytes piece : List ℕ) (step : RowStep) : Type 0 where
  pub layout : r.layout ≡ l
  pub first : r.first ≡ length before.bodies
  pub lacks : is_full l bytes ≡ false
  pub few : step.taken ≤ wanted l bytes
  pub behind : IsBehind r (bytes ++ take step.taken piece)
  pub grown : rows_behind before l (bytes ++ take step.taken piece) ≡ rows_behind before l bytes ++ row_list step.row

-- no byte too many was taken
within_step : (first : ℕ) (l : LayoutValue) (bytes piece : List ℕ) (t : ℕ) → 1 ≤ l.width → is_full l bytes ≡ false → t ≤ wanted l bytes → end_fault first false l (bytes ++ take t piece) ≡ None
within_step first l bytes piece t wide lacks few =
    let sum = length-append bytes (take t piece) in
    let cut = length-take t piece in
    let part = part_length l bytes in
    let there = rows_lie (length bytes) l.width in
    let short = part_short (length bytes) l.width wide in
    let next : (length bytes / l.width + 1) * l.width ≡ length bytes / l.width * l.width + l.width = omega arith in
    let within = none_beyond l.count l.width (length bytes) (length (bytes ++ take t piece)) lacks (omega arith) in
    rw within refl

-- a step that ends no row
pub step_kept : (before : SetValue) (l : LayoutValue) (r r' : RowsValue) (set : SetValue) (bytes piece : List ℕ) (step : RowStep) → IsAt before l r set bytes → Stepped before l r' bytes piece step → step.row ≡ None → IsAt before l r' set (bytes ++ take step.taken piece)
step_kept before l r r' set bytes piece step at s none =
    let old = rows_behind before l bytes in
    let end = end_fault (length before.bodies) false l (bytes ++ take step.taken piece) in
    let same : rows_behind before l (bytes ++ take step.taken piece) ≡ old = s.grown ∙ ap (λ (o : Option RawRow). old ++ row_list o) none ∙ append-nil old in
    let wide : 1 ≤ l.width = at.sound.some_bytes in
    record {
      layout = s.layout;
      first = s.first;
      sound = at.sound;
      few = at.few;
      behind = s.behind;
      bodies = at.bodies ∙ ap (with_rows before) (sym same);
      good = ap (λ (a : List RawRow). first_of (refused_behind before a) end) same
          ∙ ap (λ (o : Option FileFault). first_of o end) (rows_good before l bytes at.good)
          ∙ within_step (length before.bodies) l bytes piece step.taken wide s.lacks s.few;
      named = at.named;
      slow = at.slow;
    }

-- the fault of the next row of a set
next_fault : (before set : SetValue) (raws : List RawRow) (raw : RawRow) (o : Option FileFault) → set ≡ with_rows before raws → refused_behind before raws ≡ None → row_fault set.cube set.bodies raw ≡ o → refused_behind before (raws ++ raw ∷ []) ≡ o
next_fault before set raws raw o e good f =
    refused_push before raws raw
    ∙ ap (λ (p : Option FileFault). first_of p (row_fault (with_rows before raws).cube (with_rows before raws).bodies raw)) good
    ∙ sym (ap (λ (v : SetValue). row_fault v.cube v.bodies raw) e)
    ∙ f

-- a column's number fits 64 bits, and so does 0 where there is none
small_or_zero : (o : Option ℤ) → Are64Bits o → Is64Bits (or_zero o)
small_or_zero None h = (omega (arith, ints), omega (arith, ints))
small_or_zero (Some z) h = h

-- the velocity of a row whose numbers fit 64 bits
small_velocity : (raw : RawRow) → Has64Bits raw → Is64BitVelocity (velocity_of_row raw)
small_velocity raw h = record { x = small_or_zero raw.vx h.vx; y = small_or_zero raw.vy h.vy; z = small_or_zero raw.vz h.vz }

-- a step that ends a row, which was added
pub step_added : (before : SetValue) (l : LayoutValue) (r r' : RowsValue) (set set' : SetValue) (bytes piece : List ℕ) (step : RowStep) (raw : RawRow) → IsAt before l r set bytes → Stepped before l r' bytes piece step → step.row ≡ Some raw → Has64Bits raw → row_fault set.cube set.bodies raw ≡ None → set' ≡ with_row set raw → IsAt before l r' set' (bytes ++ take step.taken piece)
step_added before l r r' set set' bytes piece step raw at s given small good added =
    let old = rows_behind before l bytes in
    let end = end_fault (length before.bodies) false l (bytes ++ take step.taken piece) in
    let grown : rows_behind before l (bytes ++ take step.taken piece) ≡ old ++ raw ∷ [] = s.grown ∙ ap (λ (o : Option RawRow). old ++ row_list o) given in
    let wide : 1 ≤ l.width = at.sound.some_bytes in
    record {
      layout = s.layout;
      first = s.first;
      sound = at.sound;
      few = at.few;
      behind = s.behind;
      bodies = added ∙ ap (λ (v : SetValue). with_row v raw) at.bodies ∙ rows_one_more before old raw ∙ ap (with_rows before) (sym grown);
      good = ap (λ (a : List RawRow). first_of (refused_behind before a) end) grown
          ∙ ap (λ (o : Option FileFault). first_of o end) (next_fault before set old raw None at.bodies (rows_good before l bytes at.good) good)
          ∙ within_step (length before.bodies) l bytes piece step.taken wide s.lacks s.few;
      named = subst (λ (v : SetValue). All Is64Bits v.idents) (sym added) (All-push Is64Bits set.idents raw.ident at.named small.ident);
      slow = subst (λ (v : SetValue). All Is64BitVelocity v.velocities) (sym added) (All-push Is64BitVelocity set.velocities (velocity_of_row raw) at.slow (small_velocity raw small));
    }

-- a step that ends a row at fault
pub step_refused : (before : SetValue) (l : LayoutValue) (r r' : RowsValue) (set : SetValue) (bytes piece : List ℕ) (step : RowStep) (raw : RawRow) (f : FileFault) → IsAt before l r set bytes → Stepped before l r' bytes piece step → step.row ≡ Some raw → row_fault set.cube set.bodies raw ≡ Some f → StopsRows before l (bytes ++ piece) (Refused f)
step_refused before l r r' set bytes piece step raw f at s given bad more ended =
    let old = rows_behind before l bytes in
    let grown : rows_behind before l (bytes ++ take step.taken piece) ≡ old ++ raw ∷ [] = s.grown ∙ ap (λ (o : Option RawRow). old ++ row_list o) given in
    let wide : 1 ≤ l.width = at.sound.some_bytes in
    ap (rows_fault before ended l) (split_piece bytes piece more step.taken)
    ∙ refused_stays before l (bytes ++ take step.taken piece) (drop step.taken piece ++ more) ended f wide
    (ap (refused_behind before) grown ∙ next_fault before set old raw (Some f) at.bodies (rows_good before l bytes at.good) bad)

-- ---- the answers of the reader of rows

-- what the reader of rows says of an answer that is no fault
pub record SaysStep (r r' : RowsValue) (piece : List ℕ) (step : RowStep) : Type 0 where
  pub answer : (bytes : List ℕ) → IsBehind r bytes → Ok step ≡ answer_from r.layout r.first bytes piece
  pub after : (bytes : List ℕ) → IsBehind r bytes → IsBehind r' (bytes ++ take step.taken piece)
  pub rows : (bytes : List ℕ) → IsBehind r bytes → rows_from r.layout r.first (bytes ++ take step.taken piece) ≡ rows_from r.layout r.first bytes ++ row_list step.row
  pub layout : r'.layout ≡ r.layout
  pub first : r'.first ≡ r.first

-- what is said at the layout and the first row of a reader, said of these
at_reader : (P : LayoutValue → ℕ → Type 0) (before : SetValue) (l : LayoutValue) (r : RowsValue) (set : SetValue) (bytes : List ℕ) → IsAt before l r set bytes → P r.layout r.first → P l (length before.bodies)
at_reader P before l r set bytes at h = subst (λ (m : LayoutValue). P m (length before.bodies)) at.layout (subst (P r.layout) at.first h)

-- an answer that is no fault takes the piece up to the end of the current row at most
pub stepped : (before : SetValue) (l : LayoutValue) (r r' : RowsValue) (set : SetValue) (bytes piece : List ℕ) (step : RowStep) → IsAt before l r set bytes → SaysStep r r' piece step → Stepped before l r' bytes piece step
stepped before l r r' set bytes piece step at says =
    let answer = at_reader (λ m n. Ok step ≡ answer_from m n bytes piece) before l r set bytes at (says.answer bytes at.behind) in
    let by = ok_by (is_full l bytes) (length piece) (wanted l bytes) _ step (sym answer) in
    record {
      layout = says.layout ∙ at.layout;
      first = says.first ∙ at.first;
      lacks = by.0;
      few = by.2;
      behind = says.after bytes at.behind;
      grown = at_reader (λ m n. rows_from m n (bytes ++ take step.taken piece) ≡ rows_from m n bytes ++ row_list step.row) before l r set bytes at (says.rows bytes at.behind);
    }

-- at least one byte is taken
pub some_taken : (before : SetValue) (l : LayoutValue) (r r' : RowsValue) (set : SetValue) (bytes piece : List ℕ) (step : RowStep) → IsAt before l r set bytes → SaysStep r r' piece step → 1 ≤ length piece → 1 ≤ step.taken
some_taken before l r r' set bytes piece step at says some =
    takes_some l (length before.bodies) bytes piece step at.sound.some_bytes some (sym (at_reader (λ m n. Ok step ≡ answer_from m n bytes piece) before l r set bytes at (says.answer bytes at.behind)))

-- a row that was not added
pub row_stops : (before : SetValue) (l : LayoutValue) (r r' : RowsValue) (set set' : SetValue) (bytes piece : List ℕ) (step : RowStep) (raw : RawRow) (e : FileError) → IsAt before l r set bytes → SaysStep r r' piece step → step.row ≡ Some raw → PushesRow set set' raw (Err e) → StopsRows before l (bytes ++ piece) e
row_stops before l r r' set set' bytes piece step raw (Refused f) at says given bad = step_refused before l r r' set bytes piece step raw f at (stepped before l r r' set bytes piece step at says) given bad
row_stops before l r r' set set' bytes piece step raw Memory at says given bad = tt
row_stops before l r r' set set' bytes piece step raw Broken at says given bad = absurd bad

-- a byte too many
pub trailing_stops : (before : SetValue) (l : LayoutValue) (r : RowsValue) (set : SetValue) (bytes piece : List ℕ) (fault : RowFault) → IsAt before l r set bytes → ((bytes : List ℕ) → IsBehind r bytes → Err fault ≡ answer_from r.layout r.first bytes piece) → 1 ≤ length piece → StopsRows before l (bytes ++ piece) (Refused (End fault))
trailing_stops before l r set bytes piece fault at answer some = λ more ended.
    let by = err_by (is_full l bytes) _ _ _ _ fault (sym (at_reader (λ m n. Err fault ≡ answer_from m n bytes piece) before l r set bytes at (answer bytes at.behind))) in
    trailing_stays before l bytes piece more ended at.sound.some_bytes some by.0 (rows_good before l bytes at.good)
    ∙ ap (λ (f : RowFault). Some (End f)) (sym by.1)
