-- What the bytes that are kept say of all bytes.
use Rattle.std.proofs.Common.{◌≡◌, ℕ, ◌+◌, ◌-◌, ◌≤◌, Bool, true, false, cond, nat_le, List, [], ◌∷◌, ◌++◌, length, take, drop, Option, Some, None, Result, Ok, Err, IfOk, refl, sym, ap, subst, ◌∙◌, append_assoc, arith}
use Rattle.std.proofs.lemmas.List.{length-append, append-nil, length-take-le, take-append-le, take-append-drop}
use Rattle.std.proofs.lemmas.Bool.{lt-leb, leb-true}
use Rattle.hot_units.specs.Limits.{max_header_bytes}
use Rattle.sdf_header.specs.declared.header_fault.HeaderFault.{HeaderFault}
use Rattle.sdf_header.specs.declared.header_fault.HeaderFault.TheVariants.{NoMagic, TooLong}
use Rattle.sdf_header.specs.Extent.{agrees, magic, is_ending, whole_lines, first_ending, ending, Extent, Faulty, Ends, Open, extent_from, extent, Shows, Scans, Stands}
use Rattle.sdf_header.specs.Verdict.{verdict, judged, unended}
use Rattle.sdf_header.specs.Reading.{told, taken_of, Settled, ReadAlike, is_open, answer_of}
use Rattle.std.proofs.Math.Seq.{take-length}

-- bytes that are scanned have shown nothing so far
pub open_now : (bytes : List ℕ) (line : ℕ) → Scans bytes line → extent bytes ≡ Open
unfolding extent
open_now bytes line s =
    let none : ending bytes ≡ None = ap ending (sym (append-nil bytes)) ∙ s.ends [] in
    rw (s.begins, none, lt-leb max_header_bytes (length bytes) s.short) refl

-- what is shown however the bytes go on is shown now
pub shows_now : (bytes : List ℕ) (e : Extent) → Shows bytes e → extent bytes ≡ e
shows_now bytes e h = ap extent (sym (append-nil bytes)) ∙ h []

-- ---- the end place lies within the header

pair : ℕ × ℕ → Option (ℕ × ℕ)
pair x = Some x

pair_is : (x y : ℕ × ℕ) → pair x ≡ pair y → x ≡ y
unfolding pair
pair_is x y e = cc

inside_line : (t : Bool) (place len : ℕ) (others : Option (ℕ × ℕ)) (e : ℕ × ℕ) → ((others ≡ Some e) → e.0 ≤ e.1) → cond t (Some (place, place + len + 1)) others ≡ Some e → e.0 ≤ e.1
unfolding pair
inside_line true place len others e more h =
    let same = pair_is (place, place + len + 1) e h in
    subst (λ (x : ℕ × ℕ). x.0 ≤ x.1) same (omega arith)
inside_line false place len others e more h = more h

inside : (lines : List (List ℕ)) (place : ℕ) (e : ℕ × ℕ) → first_ending place lines ≡ Some e → e.0 ≤ e.1
inside [] place e h = absurd cc
inside (line ∷ lines) place e h = inside_line (is_ending line) place (length line) (first_ending (place + length line + 1) lines) e (λ k. inside lines (place + length line + 1) e k) h

ends : ℕ → ℕ → Extent
ends t n = Ends t n

ends_are : (a b t n : ℕ) → ends a b ≡ ends t n → (a ≡ t) × (b ≡ n)
unfolding ends
ends_are a b t n e = (cc, cc)

from_line : (c : Bool) (a b t n : ℕ) → a ≤ b → (c ≡ true → b ≤ max_header_bytes) → cond c (Ends a b) (Faulty TooLong) ≡ Ends t n → (t ≤ n) × (n ≤ max_header_bytes)
unfolding ends
from_line true a b t n le small h = let same = ends_are a b t n h in (omega (arith, same.0, same.1), omega (arith, same.1, small refl))
from_line false a b t n le small h = absurd cc

from_none : (c : Bool) (t n : ℕ) → cond c (Faulty TooLong) Open ≡ Ends t n → (t ≤ n) × (n ≤ max_header_bytes)
from_none true t n h = absurd cc
from_none false t n h = absurd cc

from_inside : (size : ℕ) (r : Option (ℕ × ℕ)) (t n : ℕ) → ((e : ℕ × ℕ) → r ≡ Some e → e.0 ≤ e.1) → extent_from size r ≡ Ends t n → (t ≤ n) × (n ≤ max_header_bytes)
from_inside size None t n le h = from_none (nat_le max_header_bytes size) t n h
from_inside size (Some e) t n le h = from_line (nat_le e.1 max_header_bytes) e.0 e.1 t n (le e refl) (λ k. leb-true e.1 max_header_bytes k) h

from_magic : (c : Bool) (x : Extent) (t n : ℕ) → (x ≡ Ends t n → (t ≤ n) × (n ≤ max_header_bytes)) → cond c x (Faulty NoMagic) ≡ Ends t n → (t ≤ n) × (n ≤ max_header_bytes)
from_magic true x t n f h = f h
from_magic false x t n f h = absurd cc

-- a header ends within its longest length
pub within : (bytes : List ℕ) (t n : ℕ) → extent bytes ≡ Ends t n → (t ≤ n) × (n ≤ max_header_bytes)
unfolding extent
within bytes t n h = from_magic (agrees magic bytes) (extent_from (length bytes) (ending bytes)) t n (λ k. from_inside (length bytes) (ending bytes) t n (λ e w. inside (whole_lines [] bytes) 0 e w) k) h

-- ---- the same verdict, whatever follows

-- a fault that is shown is the verdict however the bytes go on
pub same_fault : (bytes : List ℕ) (f : HeaderFault) → Shows bytes (Faulty f) → (more : List ℕ) → verdict (bytes ++ more) ≡ Err f
unfolding verdict
same_fault bytes f h more = rw (h more) refl

-- a header that has ended has one verdict, whatever follows
pub same_end : (bytes : List ℕ) (t : ℕ) → Shows bytes (Ends t (length bytes)) → (more others : List ℕ) → verdict (bytes ++ more) ≡ verdict (bytes ++ others)
unfolding verdict
same_end bytes t h more others =
    let le = (within bytes t (length bytes) (shows_now bytes (Ends t (length bytes)) h)).0 in
    rw (h more, h others, take-append-le t bytes more le, take-append-le t bytes others le) refl

-- where nothing is found yet, the bytes are scanned
pub open_scans : (found : Result (Option ℕ) HeaderFault) (bytes : List ℕ) (line : ℕ) → is_open found ≡ true → Stands found bytes line → Scans bytes line
open_scans (Ok None) bytes line e h = h
open_scans (Ok (Some text)) bytes line e h = absurd cc
open_scans (Err f) bytes line e h = absurd cc

-- what was decided stays so
same_extent_closed : (found : Result (Option ℕ) HeaderFault) (bytes piece : List ℕ) (line : ℕ) → is_open found ≡ false → Stands found bytes line → (more : List ℕ) → extent (bytes ++ more) ≡ extent ((bytes ++ piece) ++ more)
same_extent_closed (Ok None) bytes piece line e h more = absurd cc
same_extent_closed (Ok (Some text)) bytes piece line e h more = h more ∙ sym (ap extent (append_assoc bytes piece more) ∙ h (piece ++ more))
same_extent_closed (Err f) bytes piece line e h more = h more ∙ sym (ap extent (append_assoc bytes piece more) ∙ h (piece ++ more))

same_verdict_closed : (found : Result (Option ℕ) HeaderFault) (bytes piece : List ℕ) (line : ℕ) → is_open found ≡ false → Stands found bytes line → (more : List ℕ) → verdict (bytes ++ more) ≡ verdict ((bytes ++ piece) ++ more)
same_verdict_closed (Ok None) bytes piece line e h more = absurd cc
same_verdict_closed (Ok (Some text)) bytes piece line e h more = rw append_assoc (same_end bytes text h more (piece ++ more))
same_verdict_closed (Err f) bytes piece line e h more = rw append_assoc (same_fault bytes f h more ∙ sym (same_fault bytes f h (piece ++ more)))

-- what was decided does not change with a further piece
pub same_closed : (found : Result (Option ℕ) HeaderFault) (bytes piece : List ℕ) (line : ℕ) → is_open found ≡ false → Stands found bytes line → ReadAlike bytes (bytes ++ piece)
same_closed found bytes piece line e h more = (same_extent_closed found bytes piece line e h more, same_verdict_closed found bytes piece line e h more)

-- the answer that was given is told again
pub told_closed : (found : Result (Option ℕ) HeaderFault) (bytes piece : List ℕ) (line : ℕ) → is_open found ≡ false → Stands found bytes line → answer_of found 0 ≡ told (extent (bytes ++ piece)) (length bytes)
told_closed (Ok None) bytes piece line e h = absurd cc
told_closed (Ok (Some text)) bytes piece line e h = rw (h piece) (let none : length bytes - length bytes ≡ 0 = omega arith in rw none refl)
told_closed (Err f) bytes piece line e h = rw (h piece) refl

-- and nothing of the piece is taken
pub taken_closed : (found : Result (Option ℕ) HeaderFault) (bytes piece : List ℕ) → is_open found ≡ false → IfOk (answer_of found 0) (λ fed. bytes ≡ bytes ++ taken_of fed piece)
taken_closed (Ok None) bytes piece e = absurd cc
taken_closed (Ok (Some text)) bytes piece e = sym (append-nil bytes)
taken_closed (Err f) bytes piece e = tt

-- what stands is settled
pub settled : (found : Result (Option ℕ) HeaderFault) (bytes : List ℕ) (line taken : ℕ) → Stands found bytes line → Settled (answer_of found taken) bytes
settled (Ok None) bytes line taken h = tt
settled (Ok (Some text)) bytes line taken h = (text, λ more. (h more, same_end bytes text h more [] ∙ ap verdict (append-nil bytes)))
settled (Err f) bytes line taken h = λ more. (h more, same_fault bytes f h more)

-- a piece is what was taken of it and the rest
pub split_piece : (bytes piece more : List ℕ) (taken : ℕ) → (bytes ++ piece) ++ more ≡ (bytes ++ take taken piece) ++ (drop taken piece ++ more)
split_piece bytes piece more taken =
    let parts : piece ≡ take taken piece ++ drop taken piece = sym (take-append-drop taken piece) in
    ap (λ (x : List ℕ). (bytes ++ x) ++ more) parts ∙ simp append_assoc

-- a piece that was taken whole is all of it
pub all_taken : (bytes piece : List ℕ) (taken : ℕ) → taken ≡ length piece → bytes ++ take taken piece ≡ bytes ++ piece
all_taken bytes piece taken e = rw (e, take-length piece) refl

-- the piece, as far as it was taken and behind that
split : (bytes piece kept : List ℕ) (taken : ℕ) → kept ≡ bytes ++ take taken piece → bytes ++ piece ≡ kept ++ drop taken piece
split bytes piece kept taken e = ap (λ (x : List ℕ). bytes ++ x) (sym (take-append-drop taken piece)) ∙ sym (append_assoc bytes (take taken piece) (drop taken piece)) ∙ ap (λ (x : List ℕ). x ++ drop taken piece) (sym e)

split_more : (bytes piece kept more : List ℕ) (taken : ℕ) → kept ≡ bytes ++ take taken piece → (bytes ++ piece) ++ more ≡ kept ++ (drop taken piece ++ more)
split_more bytes piece kept more taken e = split_piece bytes piece more taken ∙ ap (λ (x : List ℕ). x ++ (drop taken piece ++ more)) (sym e)

-- the answer behind the bytes taken is that of the whole piece
pub told_open : (found : Result (Option ℕ) HeaderFault) (bytes piece kept : List ℕ) (line taken : ℕ) → kept ≡ bytes ++ take taken piece → taken ≤ length piece → (found ≡ Ok None → taken ≡ length piece) → Stands found kept line → answer_of found taken ≡ told (extent (bytes ++ piece)) (length bytes)
told_open (Ok None) bytes piece kept line taken e le all h =
    let whole : kept ≡ bytes ++ piece = e ∙ all_taken bytes piece taken (all refl) in
    rw (ap extent (sym whole) ∙ open_now kept line h) refl
told_open (Ok (Some text)) bytes piece kept line taken e le all h =
    let count : length kept - length bytes ≡ taken = omega (arith, ap length e, length-append bytes (take taken piece), length-take-le taken piece le) in
    rw (ap extent (split bytes piece kept taken e) ∙ h (drop taken piece), count) refl
told_open (Err f) bytes piece kept line taken e le all h =
    rw (ap extent (split bytes piece kept taken e) ∙ h (drop taken piece)) refl

-- what is kept grew by what was taken
pub taken_open : (found : Result (Option ℕ) HeaderFault) (bytes piece kept : List ℕ) (taken : ℕ) → kept ≡ bytes ++ take taken piece → (found ≡ Ok None → taken ≡ length piece) → IfOk (answer_of found taken) (λ fed. kept ≡ bytes ++ taken_of fed piece)
taken_open (Ok None) bytes piece kept taken e all = e ∙ all_taken bytes piece taken (all refl)
taken_open (Ok (Some text)) bytes piece kept taken e all = e
taken_open (Err f) bytes piece kept taken e all = tt

same_extent_open : (found : Result (Option ℕ) HeaderFault) (bytes piece kept : List ℕ) (line taken : ℕ) → kept ≡ bytes ++ take taken piece → (found ≡ Ok None → taken ≡ length piece) → Stands found kept line → (more : List ℕ) → extent (kept ++ more) ≡ extent ((bytes ++ piece) ++ more)
same_extent_open (Ok None) bytes piece kept line taken e all h more =
    ap (λ (x : List ℕ). extent (x ++ more)) (e ∙ all_taken bytes piece taken (all refl))
same_extent_open (Ok (Some text)) bytes piece kept line taken e all h more =
    h more ∙ sym (ap extent (split_more bytes piece kept more taken e) ∙ h (drop taken piece ++ more))
same_extent_open (Err f) bytes piece kept line taken e all h more =
    h more ∙ sym (ap extent (split_more bytes piece kept more taken e) ∙ h (drop taken piece ++ more))

same_verdict_open : (found : Result (Option ℕ) HeaderFault) (bytes piece kept : List ℕ) (line taken : ℕ) → kept ≡ bytes ++ take taken piece → (found ≡ Ok None → taken ≡ length piece) → Stands found kept line → (more : List ℕ) → verdict (kept ++ more) ≡ verdict ((bytes ++ piece) ++ more)
same_verdict_open (Ok None) bytes piece kept line taken e all h more =
    ap (λ (x : List ℕ). verdict (x ++ more)) (e ∙ all_taken bytes piece taken (all refl))
same_verdict_open (Ok (Some text)) bytes piece kept line taken e all h more =
    same_end kept text h more (drop taken piece ++ more) ∙ ap verdict (sym (split_more bytes piece kept more taken e))
same_verdict_open (Err f) bytes piece kept line taken e all h more =
    same_fault kept f h more ∙ sym (same_fault kept f h (drop taken piece ++ more)) ∙ ap verdict (sym (split_more bytes piece kept more taken e))

-- what is kept reads like all bytes joined
pub same_open : (found : Result (Option ℕ) HeaderFault) (bytes piece kept : List ℕ) (line taken : ℕ) → kept ≡ bytes ++ take taken piece → (found ≡ Ok None → taken ≡ length piece) → Stands found kept line → ReadAlike kept (bytes ++ piece)
same_open found bytes piece kept line taken e all h more = (same_extent_open found bytes piece kept line taken e all h more, same_verdict_open found bytes piece kept line taken e all h more)

-- ---- the verdict of what is kept

-- a fault that was found is the verdict
pub is_failed : (found : Result (Option ℕ) HeaderFault) (bytes : List ℕ) (line : ℕ) (f : HeaderFault) → found ≡ Err f → Stands found bytes line → verdict bytes ≡ Err f
is_failed found bytes line f e h =
    let shows : Shows bytes (Faulty f) = subst (λ (r : Result (Option ℕ) HeaderFault). Stands r bytes line) e h in
    ap verdict (sym (append-nil bytes)) ∙ same_fault bytes f shows []

-- bytes without an end have the verdict for that
pub is_unended : (found : Result (Option ℕ) HeaderFault) (bytes : List ℕ) (line : ℕ) → found ≡ Ok None → Stands found bytes line → verdict bytes ≡ Err (unended (length bytes))
unfolding verdict
is_unended found bytes line e h =
    let scans : Scans bytes line = subst (λ (r : Result (Option ℕ) HeaderFault). Stands r bytes line) e h in
    rw (open_now bytes line scans) refl

-- an end that was found gives the verdict of the text before it
pub is_ended : (found : Result (Option ℕ) HeaderFault) (bytes : List ℕ) (line t : ℕ) → found ≡ Ok (Some t) → Stands found bytes line → (verdict bytes ≡ judged (length bytes) (take t bytes)) × (t ≤ length bytes) × (length bytes ≤ max_header_bytes)
unfolding verdict
is_ended found bytes line t e h =
    let shows : Shows bytes (Ends t (length bytes)) = subst (λ (r : Result (Option ℕ) HeaderFault). Stands r bytes line) e h in
    let now = shows_now bytes (Ends t (length bytes)) shows in
    let bounds = within bytes t (length bytes) now in
    (rw now refl, bounds.0, bounds.1)
