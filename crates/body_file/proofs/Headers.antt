-- What a header decides.
use Rattle.std.proofs.Common.{◌≡◌, ℕ, ◌-◌, ◌≤◌, Bool, true, false, List, [], ◌++◌, length, take, drop, Option, Some, None, Ok, Err, refl, sym, ap, ◌∙◌, arith, append_assoc, length-append}
use Rattle.std.proofs.Math.Seq.{drop-append_seam}
use Rattle.std.proofs.lemmas.List.{take-append-drop}
use Rattle.sdf_header.specs.declared.header_fault.HeaderFault.{HeaderFault}
use Rattle.sdf_header.specs.declared.reader.Fed.TheVariants.{More, Ended}
use Rattle.sdf_header.specs.declared.layout.HeaderError.{HeaderError}
use Rattle.sdf_header.specs.declared.layout.HeaderError.TheVariants as header
use Rattle.sdf_header.specs.Layouts.{LayoutValue}
use Rattle.sdf_header.specs.Extent.{Extent, Faulty, Ends, Open, extent}
use Rattle.sdf_header.specs.Verdict.{Gives, verdict}
use Rattle.sdf_header.specs.Reading.{told, Settled, ReadAlike}
use Rattle.body_file.specs.declared.fault.FileFault.TheVariants.{Header, OtherCube}
use Rattle.body_file.specs.declared.fault.FileError.TheVariants.{Refused}
use Rattle.body_set.specs.Sets.{SetValue}
use Rattle.body_file.specs.Faults.{differs, set_before, rows_fault, decided_behind, header_error}
use Rattle.body_file.specs.Reading.{IsWholeHeader, IsHeader, Stops}

-- behind a header, whose cube is that of the files before, the rows decide
pub decided_by_rows : (before : Option SetValue) (l : LayoutValue) (front body : List ℕ) (ended : Bool) → IsHeader l front → differs before l.cube ≡ false → decided_behind before ended (front ++ body) ≡ rows_fault (set_before before l.cube) ended l body
unfolding decided_behind
decided_by_rows before l front body ended h same =
    let whole = (h.whole body).0 in
    let gives = (h.whole body).1 ∙ h.gives in
    let rest : drop l.header_len (front ++ body) ≡ body = ap (λ (n : ℕ). drop n (front ++ body)) h.len ∙ drop-append_seam front body in
    rw (whole, gives, same, rest) refl

-- another cube decides
pub cube_decides : (before : Option SetValue) (l : LayoutValue) (front more : List ℕ) (ended : Bool) → IsHeader l front → differs before l.cube ≡ true → decided_behind before ended (front ++ more) ≡ Some OtherCube
unfolding decided_behind
cube_decides before l front more ended h other =
    let whole = (h.whole more).0 in
    let gives = (h.whole more).1 ∙ h.gives in
    rw (whole, gives, other) refl

-- a whole header at fault decides
pub header_decides : (before : Option SetValue) (text : ℕ) (front more : List ℕ) (ended : Bool) (f : HeaderFault) → IsWholeHeader text front → verdict front ≡ Err f → decided_behind before ended (front ++ more) ≡ Some (Header f)
unfolding decided_behind
header_decides before text front more ended f h e =
    let whole = (h more).0 in
    let fault = (h more).1 ∙ e in
    rw (whole, fault) refl

-- so do bytes that begin no header, or one that is too long
pub fault_decides : (before : Option SetValue) (bytes : List ℕ) (ended : Bool) (f : HeaderFault) → extent bytes ≡ Faulty f → verdict bytes ≡ Err f → decided_behind before ended bytes ≡ Some (Header f)
unfolding decided_behind
fault_decides before bytes ended f e v = rw (e, v) refl

-- a header that goes on decides nothing
pub open_undecided : (before : Option SetValue) (bytes : List ℕ) → extent bytes ≡ Open → decided_behind before false bytes ≡ None
unfolding decided_behind
open_undecided before bytes e = rw e refl

-- unless the bytes end
pub open_ended : (before : Option SetValue) (bytes : List ℕ) (f : HeaderFault) → extent bytes ≡ Open → verdict bytes ≡ Err f → decided_behind before true bytes ≡ Some (Header f)
unfolding decided_behind
open_ended before bytes f e v = rw (e, v) refl

-- bytes whose header goes on give no layout
pub open_refused : (bytes : List ℕ) (l : LayoutValue) → extent bytes ≡ Open → verdict bytes ≡ Ok l → ⊥
unfolding verdict
open_refused bytes l e v = absurd (cc (rw e at v))

-- with no bytes at all the header goes on
pub nothing_open : extent [] ≡ Open
unfolding extent
nothing_open = refl

-- ---- the answers to a piece

-- more is asked for only where the header goes on
pub told_more : (e : Extent) (n : ℕ) → Ok More ≡ told e n → e ≡ Open
told_more (Faulty f) n h = absurd cc
told_more Open n h = refl
told_more (Ends text len) n h = absurd cc

-- a fault is told only where it is the one that the bytes so far decide
pub told_fault : (e : Extent) (n : ℕ) (f : HeaderFault) → Err f ≡ told e n → e ≡ Faulty f
told_fault (Faulty g) n f h = cc
told_fault Open n f h = absurd cc
told_fault (Ends text len) n f h = absurd cc

-- an end is told only where the header ends, with its length less the bytes before
pub told_end : (e : Extent) (n k : ℕ) → Ok (Ended k) ≡ told e n → (text : ℕ) × (len : ℕ) × (e ≡ Ends text len) × (k ≡ len - n)
told_end (Faulty f) n k h = absurd cc
told_end Open n k h = absurd cc
told_end (Ends text len) n k h = (text, len, refl, cc)

-- an end tells the header's length
pub ends_len : (t u m n : ℕ) → Ends t m ≡ Ends u n → m ≡ n
ends_len t u m n e = cc

-- the header takes no more of a piece than there is
pub ended_within : (old new piece : List ℕ) (n text : ℕ) → Ok (Ended n) ≡ told (extent (old ++ piece)) (length old) → new ≡ old ++ take n piece → IsWholeHeader text new → n ≤ length piece
ended_within old new piece n text h e whole =
    let t = told_end (extent (old ++ piece)) (length old) n h in
    let parts : old ++ piece ≡ new ++ drop n piece = ap (λ (p : List ℕ). old ++ p) (sym (take-append-drop n piece)) ∙ sym (append_assoc old (take n piece) (drop n piece)) ∙ ap (λ (b : List ℕ). b ++ drop n piece) (sym e) in
    let len : t.1 ≡ length new = ends_len t.0 text t.1 (length new) (sym t.2 ∙ ap extent parts ∙ (whole (drop n piece)).0) in
    let size = ap (λ (b : List ℕ). length b) parts in
    let sums = length-append old piece in
    let sums' = length-append new (drop n piece) in
    omega (arith, t.3, len, size, sums, sums')

-- a fault that comes with a piece
pub fed_fault : (before : Option SetValue) (old new piece : List ℕ) (f : HeaderFault) → Err f ≡ told (extent (old ++ piece)) (length old) → Settled (Err f) new → ReadAlike new (old ++ piece) → Stops before false (old ++ piece) (Refused (Header f))
fed_fault before old new piece f h settled same more ended =
    fault_decides before ((old ++ piece) ++ more) ended f (sym (same more).0 ∙ (settled more).0) (sym (same more).1 ∙ (settled more).1)

-- a whole header that gives no layout
pub whole_refused : (before : Option SetValue) (text : ℕ) (front more : List ℕ) (e : HeaderError) → IsWholeHeader text front → Gives {Y = LayoutValue} (Err e) (verdict front) → Stops before false (front ++ more) (header_error e)
whole_refused before text front more (header.Fault f) whole gives = λ rest ended.
    ap (decided_behind before ended) (append_assoc front more rest) ∙ header_decides before text front (more ++ rest) ended f whole gives
whole_refused before text front more header.Memory whole gives = tt

-- a whole header with another cube
pub cube_refused : (before : Option SetValue) (l : LayoutValue) (front more : List ℕ) → IsHeader l front → differs before l.cube ≡ true → Stops before false (front ++ more) (Refused OtherCube)
cube_refused before l front more h other rest ended =
    ap (decided_behind before ended) (append_assoc front more rest) ∙ cube_decides before l front (more ++ rest) ended h other

-- the end of a header that goes on
pub open_stops : (before : Option SetValue) (bytes : List ℕ) (error : HeaderError) → extent bytes ≡ Open → Gives {Y = LayoutValue} (Err error) (verdict bytes) → Stops before true bytes (header_error error)
open_stops before bytes (header.Fault f) e gives = open_ended before bytes f e gives
open_stops before bytes header.Memory e gives = tt
