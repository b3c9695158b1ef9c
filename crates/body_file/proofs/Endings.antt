-- How a file ends, and what it holds.
use Rattle.std.proofs.Common.{◌≡◌, ℕ, ◌+◌, ◌-◌, true, false, List, ◌++◌, length, drop, Option, Some, None, Result, Ok, Err, sym, ap, ◌∙◌, arith, length-append}
use Rattle.std.proofs.Math.Seq.{drop-append_seam}
use Rattle.sdf_header.specs.Layouts.{LayoutValue}
use Rattle.sdf_header.specs.Verdict.{verdict}
use Rattle.sdf_rows.specs.declared.raw_row.RowFault.{RowFault}
use Rattle.sdf_rows.specs.Rows.{ending_from, rows_in}
use Rattle.sdf_rows.specs.Reading.{RowsValue, IsBehind}
use Rattle.body_set.specs.Sets.{SetValue}
use Rattle.body_file.specs.declared.fault.FileFault.{FileFault}
use Rattle.body_file.specs.declared.fault.FileFault.TheVariants.{End}
use Rattle.body_file.specs.Faults.{first_of, set_before, ended_by, rows_fault, decided_behind}
use Rattle.body_file.specs.Files.{with_file, set_by, set_behind}
use Rattle.body_file.specs.Reading.{count_of, IsAt, IsBehindHeader, HasFile}
use Rattle.body_file.proofs.Headers.{decided_by_rows}
use Rattle.body_file.proofs.RowLists.{rows_behind, first_length, with_length}
use Rattle.body_file.proofs.RowSteps.{rows_good}
use Rattle.body_file.proofs.RowCounts.{rows_few, rows_exact}
use Rattle.body_file.proofs.Takings.{counted_before, front_short}

-- what the reader of rows says of the end, said of its layout and first row
ending_at : (before : SetValue) (l : LayoutValue) (r : RowsValue) (set : SetValue) (bytes : List ℕ) (e : Result ℕ RowFault) → IsAt before l r set bytes → ((bytes : List ℕ) → IsBehind r bytes → e ≡ ending_from r.layout r.first bytes) → e ≡ ending_from l (length before.bodies) bytes
ending_at before l r set bytes e at ends =
    ends bytes at.behind ∙ ap (λ (m : LayoutValue). ending_from m r.first bytes) at.layout ∙ ap (λ (n : ℕ). ending_from l n bytes) at.first

-- rows that end so have this fault, or none
end_found : (before : SetValue) (l : LayoutValue) (bytes : List ℕ) (e : Result ℕ RowFault) → rows_fault before false l bytes ≡ None → e ≡ ending_from l (length before.bodies) bytes → rows_fault before true l bytes ≡ ended_by e
end_found before l bytes e good is =
    ap (λ (o : Option FileFault). first_of o (ended_by (ending_from l (length before.bodies) bytes))) (rows_good before l bytes good) ∙ ap ended_by (sym is)

-- the file ends with this fault, or with none
file_ended : (before : Option SetValue) (r : RowsValue) (set : SetValue) (bytes : List ℕ) (e : Result ℕ RowFault) → IsBehindHeader before r set bytes → ((bytes : List ℕ) → IsBehind r bytes → e ≡ ending_from r.layout r.first bytes) → decided_behind before true bytes ≡ ended_by e
file_ended before r set bytes e b ends =
    let old = set_before before b.layout.cube in
    ap (decided_behind before true) b.all ∙ decided_by_rows before b.layout b.front b.body true b.header b.same
    ∙ end_found old b.layout b.body e b.rows.good (ending_at old b.layout r set b.body e b.rows ends)

-- the file ends within its rows
pub file_refused : (before : Option SetValue) (r : RowsValue) (set : SetValue) (bytes : List ℕ) (f : RowFault) → IsBehindHeader before r set bytes → ((bytes : List ℕ) → IsBehind r bytes → Err f ≡ ending_from r.layout r.first bytes) → decided_behind before true bytes ≡ Some (End f)
file_refused before r set bytes f b ends = file_ended before r set bytes (Err f) b ends

-- the set of the files before and of this one
set_read : (before : Option SetValue) (r : RowsValue) (set : SetValue) (bytes : List ℕ) (b : IsBehindHeader before r set bytes) → set_behind before bytes ≡ Some set
set_read before r set bytes b =
    let l = b.layout in
    let old = set_before before l.cube in
    let header : verdict bytes ≡ Ok l = ap verdict b.all ∙ (b.header.whole b.body).1 ∙ b.header.gives in
    let rest : drop l.header_len bytes ≡ b.body = ap (drop l.header_len) b.all ∙ ap (λ (k : ℕ). drop k (b.front ++ b.body)) b.header.len ∙ drop-append_seam b.front b.body in
    ap (set_by before bytes) header ∙ ap (λ (x : List ℕ). Some (with_file old l x)) rest ∙ ap Some (sym b.rows.bodies)

-- how many bodies it has
bodies_read : (before : Option SetValue) (r : RowsValue) (set : SetValue) (bytes : List ℕ) (b : IsBehindHeader before r set bytes) → length set.bodies ≡ count_of before + rows_in b.layout (length b.body)
bodies_read before r set bytes b =
    let l = b.layout in
    let old = set_before before l.cube in
    let count = counted_before before l.cube in
    ap (λ (v : SetValue). length v.bodies) b.rows.bodies
    ∙ with_length old (rows_behind old l b.body)
    ∙ ap (λ (n : ℕ). n + length (rows_behind old l b.body)) count
    ∙ ap (λ (n : ℕ). count_of before + n) (first_length l (length old.bodies) b.body (rows_in l (length b.body)))

-- the file ends with its rows
pub file_read : (before : Option SetValue) (r : RowsValue) (set : SetValue) (bytes : List ℕ) (n : ℕ) → IsBehindHeader before r set bytes → ((bytes : List ℕ) → IsBehind r bytes → Ok n ≡ ending_from r.layout r.first bytes) → HasFile before bytes set
file_read before r set bytes n b ends =
    let l = b.layout in
    let old = set_before before l.cube in
    let bodies = bodies_read before r set bytes b in
    let count = counted_before before l.cube in
    let few = rows_few old l b.body b.rows.few b.rows.good in
    let exact = rows_exact (length old.bodies) l b.body n b.rows.sound.some_bytes b.rows.sound.narrow (sym (ending_at old l r set b.body (Ok n) b.rows ends)) in
    let head = front_short b.header.text b.front b.header.whole in
    let size = ap (λ (x : List ℕ). length x) b.all in
    let sum = length-append b.front b.body in
    let left : length set.bodies - count_of before ≡ rows_in l (length b.body) = omega (arith, bodies) in
    record {
      good = file_ended before r set bytes (Ok n) b ends;
      are = set_read before r set bytes b;
      after = record { few = omega (arith, bodies, count, few); named = b.rows.named; slow = b.rows.slow };
      more = omega (arith, bodies);
      short = rw left (omega (arith, exact, head, size, sum));
    }
