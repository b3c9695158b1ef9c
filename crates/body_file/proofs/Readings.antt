-- How far a file was read when the reading ended.
use Rattle.std.proofs.Common.{◌≡◌, ℕ, ◌-◌, ◌≤◌, ◌<◌, Bool, true, false, List, [], ◌++◌, length, Option, Some, None, Result, Ok, Err, MatchResult, take, drop, subst, refl, sym, ap, ◌∙◌, arith, append-nil, length-append}
use Rattle.std.proofs.lemmas.List.{take-append-le, take-append-drop}
use Rattle.std.specs.Io.KnownBytes.{Consumes, IsAtEnd}
use Rattle.hot_io.specs.Reading.{Reading, ended, taken, has_ended, has_failed, IsAll}
use Rattle.body_file.specs.declared.fault.FileError.{FileError}
use Rattle.body_file.specs.declared.fault.FileError.TheVariants.{Broken, Refused, Memory}
use Rattle.body_file.specs.declared.reader.BodyReader.{BodyReader}
use Rattle.body_set.specs.Sets.{SetValue}
use Rattle.body_file.specs.Faults.{decided_behind}
use Rattle.body_file.specs.Files.{piece_bytes, but_a_piece}
use Rattle.body_file.specs.Reading.{count_of, file_limit, HasTaken, HasFile, Stops, IsPromptBehind, ReadsFile, StopsFile, given_to}
use Rattle.body_file.proofs.Headers.{nothing_open, open_undecided}
use Rattle.body_file.proofs.Fronts.{front_undecided}
use Rattle.body_file.proofs.Takings.{in_time, given_all}

-- what was taken up to the end is all
pub all_taken : (file left end : Option (List ℕ)) (t : List ℕ) → Consumes file left t → Consumes left end [] → IsAtEnd end → IsAll file t
all_taken None left end t p q e = tt
all_taken (Some all) None end t p q e = absurd p
all_taken (Some all) (Some rest) None t p q e = absurd q
all_taken (Some all) (Some rest) (Some more) t p q e = sym (p ∙ ap (λ l. t ++ l) (q ∙ e) ∙ append-nil t)

-- the last read gave this piece
pub prompt_more : (before : Option SetValue) (input : Reading) (reader : BodyReader) (bytes piece : List ℕ) → HasTaken before reader bytes → taken input ≡ bytes ++ piece → length piece ≤ piece_bytes → IsPromptBehind before input
prompt_more before input reader bytes piece t e short =
    let sum = length-append bytes piece in
    let size = ap (λ (l : List ℕ). length l) e in
    let k = length (bytes ++ piece) - piece_bytes in
    let front : k ≤ length bytes = omega (arith, sum, short) in
    let parts : HasTaken before reader (take k bytes ++ drop k bytes) = subst (HasTaken before reader) (sym (take-append-drop k bytes)) t in
    let time = in_time before reader bytes t in
    record {
      early = ap (λ (l : List ℕ). decided_behind before false (but_a_piece l)) e ∙ ap (decided_behind before false) (take-append-le k bytes piece front) ∙ front_undecided before reader (take k bytes) (drop k bytes) parts;
      few = omega (arith, size, sum, short, time);
    }

-- it gave nothing
pub prompt_now : (before : Option SetValue) (input : Reading) (reader : BodyReader) (bytes : List ℕ) → HasTaken before reader bytes → taken input ≡ bytes → IsPromptBehind before input
prompt_now before input reader bytes t e = prompt_more before input reader bytes [] t (e ∙ sym (append-nil bytes)) (omega arith)

-- there was no read
pub nothing_undecided : (before : Option SetValue) → decided_behind before false [] ≡ None
nothing_undecided before = open_undecided before [] nothing_open

-- a reading that took no byte is prompt
pub prompt_begin : (before : Option SetValue) (input : Reading) → taken input ≡ [] → IsPromptBehind before input
prompt_begin before input e =
    let size = ap (λ (l : List ℕ). length l) e in
    record { early = ap (λ (l : List ℕ). decided_behind before false (but_a_piece l)) e ∙ nothing_undecided before; few = omega (arith, size) }

-- what stops the reader stops the reading
pub stopped_by : (before : Option SetValue) (input : Reading) (bytes : List ℕ) (at_end : Bool) (e : FileError) → has_failed input ≡ false → has_ended input ≡ at_end → taken input ≡ bytes → Stops before at_end bytes e → StopsFile before input e
stopped_by before input bytes at_end (Refused f) well last all stops = rw (last, all) (well, stops)
stopped_by before input bytes at_end Memory well last all stops = well
stopped_by before input bytes at_end Broken well last all stops = absurd stops

-- a piece brings the limit nearer
pub nearer : (before : Option SetValue) (reader reader' : BodyReader) (bytes piece : List ℕ) → HasTaken before reader bytes → HasTaken before reader' (bytes ++ piece) → 1 ≤ length piece → file_limit (count_of before) - given_to reader' < file_limit (count_of before) - given_to reader
nearer before reader reader' bytes piece t t' some =
    let given = given_all before reader bytes t in
    let given' = given_all before reader' (bytes ++ piece) t' in
    let short = in_time before reader bytes t in
    let sum = length-append bytes piece in
    omega (arith, given, given', short, sum, some)

-- a reading that ended with these bytes, of which the reader says what they hold
pub ended_with : (before : Option SetValue) (bytes : List ℕ) (r : Result SetValue FileError) → MatchResult r (HasFile before bytes) (Stops before true bytes) → MatchResult r (ReadsFile before (ended bytes)) (StopsFile before (ended bytes))
ended_with before bytes (Ok set) h = record { bytes = bytes; all = refl; has = h }
ended_with before bytes (Err e) h = stopped_by before (ended bytes) bytes true e refl refl refl h

-- the bytes that a read gave with the end
pub end_taken : (file left end : Option (List ℕ)) (t buf : List ℕ) (n : ℕ) → n ≡ 0 → 0 < length buf → Consumes file left t → Consumes left end (take n buf) → (n ≡ 0 → 0 < length buf → IsAtEnd end) → IsAll file t
end_taken file left end t buf n none room p q e = all_taken file left end t p (subst (λ k. Consumes left end (take k buf)) none q) (e none room)
