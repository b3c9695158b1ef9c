-- What a front of the bytes that a reader was given decides.
use Rattle.std.proofs.Common.{◌≡◌, ℕ, ◌*◌, ◌≤◌, false, List, [], ◌∷◌, ◌++◌, length, take, drop, Option, Some, None, refl, sym, ap, subst, ◌∙◌, arith, inl, inr, append_assoc, append-nil, length-append}
use Rattle.std.specs.Prelude.{nat_le}
use Rattle.std.proofs.Math.Seq.{take-append_seam, drop-append_seam}
use Rattle.std.proofs.lemmas.List.{take-append-le, drop-append-le, take-append-drop}
use Rattle.std.proofs.lemmas.Bool.{cases_Bool, leb-true, leb-false, ltb-false, le-ltb}
use Rattle.hot_units.specs.Limits.{max_header_bytes}
use Rattle.sdf_header.specs.declared.header_fault.HeaderFault.{HeaderFault}
use Rattle.sdf_header.specs.declared.header_fault.HeaderFault.TheVariants.{NoMagic, TooLong}
use Rattle.sdf_header.specs.Layouts.{LayoutValue}
use Rattle.sdf_header.specs.Extent.{Extent, Faulty, Ends, Open, extent, agrees, magic, closes, line_behind, Shows, Scans}
use Rattle.sdf_header.proofs.Bytes.{scans_none, no_magic, has_ended, is_full, still_open}
use Rattle.sdf_header.proofs.Known.{open_now}
use Rattle.sdf_rows.specs.Rows.{is_beyond_at}
use Rattle.sdf_rows.specs.Reading.{RowsValue}
use Rattle.body_set.specs.Sets.{SetValue, with_rows}
use Rattle.body_file.specs.declared.fault.FileFault.{FileFault}
use Rattle.body_file.specs.declared.reader.BodyReader.{BodyReader}
use Rattle.body_file.specs.declared.reader.BodyReader.TheVariants as stage
use Rattle.body_file.specs.Faults.{first_of, set_before, end_fault, rows_fault, decided_behind}
use Rattle.body_file.specs.Reading.{IsWholeHeader, IsBehindHeader, HasTaken}
use Rattle.body_file.proofs.Headers.{decided_by_rows, open_undecided, ends_len}
use Rattle.body_file.proofs.RowLists.{rows_behind, rows_prefix, refused_behind, refused_append}
use Rattle.body_file.proofs.RowSteps.{none_of, rows_good}
use Rattle.body_file.proofs.RowCounts.{none_beyond_now}

-- ---- the header

-- bytes are scanned and show nothing yet, or a front of them shows an end or a fault, however it goes on
data Shown (bytes : List ℕ) : Type 0 where
  goes : (line : ℕ) → Scans bytes line → Shown bytes
  ends : (front rest : List ℕ) (text : ℕ) → bytes ≡ front ++ rest → Shows front (Ends text (length front)) → Shown bytes
  fails : (front rest : List ℕ) (fault : HeaderFault) → bytes ≡ front ++ rest → Shows front (Faulty fault) → Shown bytes

-- the same with one byte more
one_more : (bytes : List ℕ) (b : ℕ) → Shown bytes → Shown (bytes ++ b ∷ [])
one_more bytes b (goes line s) =
    let all = bytes ++ b ∷ [] in
    let itself : all ≡ all ++ [] = sym (append-nil all) in
    elim (cases_Bool (agrees magic all)) [
      | inr isnt ↦ fails all [] NoMagic itself (no_magic all isnt)
      | inl begins ↦ elim (cases_Bool (closes b (drop line bytes))) [
        | inl is ↦ ends all [] line itself (has_ended bytes line b s is begins)
        | inr isnt ↦ elim (cases_Bool (nat_le max_header_bytes (length all))) [
          | inl long ↦ fails all [] TooLong itself (is_full bytes line b s isnt begins (omega (arith, leb-true max_header_bytes (length all) long, s.short, length-append bytes (b ∷ []))))
          | inr short ↦ goes (line_behind line b (length all)) (still_open bytes line b s isnt begins (λ full. let less = leb-false max_header_bytes (length all) short in omega (arith, full, less)))
        ]
      ]
    ]
one_more bytes b (ends front rest text e h) = ends front (rest ++ b ∷ []) text (ap (λ (l : List ℕ). l ++ b ∷ []) e ∙ append_assoc front rest (b ∷ [])) h
one_more bytes b (fails front rest fault e h) = fails front (rest ++ b ∷ []) fault (ap (λ (l : List ℕ). l ++ b ∷ []) e ∙ append_assoc front rest (b ∷ [])) h

shown_behind : (bytes more : List ℕ) → Shown bytes → Shown (bytes ++ more)
shown_behind bytes [] h = subst Shown (sym (append-nil bytes)) h
shown_behind bytes (b ∷ more) h = subst Shown (append_assoc bytes (b ∷ []) more) (shown_behind (bytes ++ b ∷ []) more (one_more bytes b h))

-- so stand all bytes
all_shown : (bytes : List ℕ) → Shown bytes
all_shown bytes = shown_behind [] bytes (goes 0 scans_none)

-- what a front shows, all bytes show
all_show : (front rest more bytes : List ℕ) (e : Extent) → bytes ≡ front ++ rest → Shows front e → extent (bytes ++ more) ≡ e
all_show front rest more bytes e is h = ap extent (ap (λ (l : List ℕ). l ++ more) is ∙ append_assoc front rest more) ∙ h (rest ++ more)

no_end : {B : Type 0} (e : Extent) (text len : ℕ) → e ≡ Ends text len → e ≡ Open → B
no_end e text len a b = let both : Ends text len ≡ Open = sym a ∙ b in absurd (cc)

no_fault : {B : Type 0} (e : Extent) (fault : HeaderFault) → e ≡ Faulty fault → e ≡ Open → B
no_fault e fault a b = let both : Faulty fault ≡ Open = sym a ∙ b in absurd (cc)

fault_ends : {B : Type 0} (e : Extent) (fault : HeaderFault) (text len : ℕ) → e ≡ Faulty fault → e ≡ Ends text len → B
fault_ends e fault text len a b = let both : Faulty fault ≡ Ends text len = sym a ∙ b in absurd (cc)

-- where the header goes on behind all bytes, it goes on behind each front of them
open_front : (bytes more : List ℕ) → extent (bytes ++ more) ≡ Open → extent bytes ≡ Open
open_front bytes more goes_on = by (all_shown bytes)
  where
    by : Shown bytes → extent bytes ≡ Open
    by (goes line s) = open_now bytes line s
    by (ends front rest text is h) = no_end (extent (bytes ++ more)) text (length front) (all_show front rest more bytes (Ends text (length front)) is h) goes_on
    by (fails front rest fault is h) = no_fault (extent (bytes ++ more)) fault (all_show front rest more bytes (Faulty fault) is h) goes_on

-- a header goes on up to its last byte
header_front : (text : ℕ) (bytes more : List ℕ) → IsWholeHeader text (bytes ++ more) → 1 ≤ length more → extent bytes ≡ Open
header_front text bytes more whole some = by (all_shown bytes)
  where
    end : extent ((bytes ++ more) ++ []) ≡ Ends text (length (bytes ++ more))
    end = (whole []).0

    -- (all that follows is what is left of the header)
    shows : (front rest : List ℕ) (e : Extent) → bytes ≡ front ++ rest → Shows front e → extent ((bytes ++ more) ++ []) ≡ e
    shows front rest e is h = ap extent (append_assoc bytes more []) ∙ all_show front rest (more ++ []) bytes e is h

    by : Shown bytes → extent bytes ≡ Open
    by (goes line s) = open_now bytes line s
    by (ends front rest other is h) =
        let len : length front ≡ length (bytes ++ more) = ends_len other text (length front) (length (bytes ++ more)) (sym (shows front rest (Ends other (length front)) is h) ∙ end) in
        let size = ap (λ (l : List ℕ). length l) is in
        absurd (omega (arith, len, size, length-append front rest, length-append bytes more, some))
    by (fails front rest fault is h) = fault_ends (extent ((bytes ++ more) ++ [])) fault text (length (bytes ++ more)) (shows front rest (Faulty fault) is h) end

-- ---- the rows

within_front : (count : Option ℕ) (w a b : ℕ) → a ≤ b → is_beyond_at count w b ≡ false → is_beyond_at count w a ≡ false
within_front None w a b le e = refl
within_front (Some n) w a b le e = let short = ltb-false (n * w) b e in le-ltb (n * w) a (omega (arith, le, short))

end_good : (first : ℕ) (l : LayoutValue) (bytes : List ℕ) → is_beyond_at l.count l.width (length bytes) ≡ false → end_fault first false l bytes ≡ None
end_good first l bytes within = rw within refl

-- where rows decide no fault, no front of them does
rows_front : (before : SetValue) (l : LayoutValue) (bytes more : List ℕ) → 1 ≤ l.width → rows_fault before false l (bytes ++ more) ≡ None → rows_fault before false l bytes ≡ None
rows_front before l bytes more wide good =
    let first = length before.bodies in
    let old = rows_behind before l bytes in
    let p = rows_prefix l first bytes more wide in
    let all : refused_behind before (old ++ p.0) ≡ None = ap (refused_behind before) (sym p.1) ∙ rows_good before l (bytes ++ more) good in
    let parts = none_of (refused_behind before old) (refused_behind (with_rows before old) p.0) (sym (refused_append before old p.0) ∙ all) in
    let le : length bytes ≤ length (bytes ++ more) = omega (arith, length-append bytes more) in
    let within = within_front l.count l.width (length bytes) (length (bytes ++ more)) le (none_beyond_now before l (bytes ++ more) good) in
    ap (λ (o : Option FileFault). first_of o (end_fault first false l bytes)) parts.0 ∙ end_good first l bytes within

-- ---- the file

-- where two cuts of one list lie
record Cut (a b c d : List ℕ) : Type 0 where
  middle : List ℕ
  longer : a ≡ c ++ middle
  shorter : d ≡ middle ++ b

cut_at : (a b c d : List ℕ) → a ++ b ≡ c ++ d → length c ≤ length a → Cut a b c d
cut_at a b c d e le =
    let front : take (length c) a ≡ c = sym (take-append-le (length c) a b le) ∙ ap (take (length c)) e ∙ take-append_seam c d in
    record {
      middle = drop (length c) a;
      longer = sym (take-append-drop (length c) a) ∙ ap (λ (l : List ℕ). l ++ drop (length c) a) front;
      shorter = sym (drop-append_seam c d) ∙ ap (drop (length c)) (sym e) ∙ drop-append-le (length c) a b le;
    }

-- a front of a header and rows without a fault decides none
behind_front : (before : Option SetValue) (r : RowsValue) (set : SetValue) (bytes more : List ℕ) → IsBehindHeader before r set (bytes ++ more) → decided_behind before false bytes ≡ None
behind_front before r set bytes more t =
    let old = set_before before t.layout.cube in
    elim (cases_Bool (nat_le (length t.front) (length bytes))) [
      | inl whole ↦
          let cut = cut_at bytes more t.front t.body t.all (leb-true (length t.front) (length bytes) whole) in
          let good : rows_fault old false t.layout (cut.middle ++ more) ≡ None = subst (λ (l : List ℕ). rows_fault old false t.layout l ≡ None) cut.shorter t.rows.good in
          ap (decided_behind before false) cut.longer ∙ decided_by_rows before t.layout t.front cut.middle false t.header t.same ∙ rows_front old t.layout cut.middle more t.rows.sound.some_bytes good
      | inr part ↦
          let less = leb-false (length t.front) (length bytes) part in
          let cut = cut_at t.front t.body bytes more (sym t.all) (omega (arith, less)) in
          let size = ap (λ (l : List ℕ). length l) cut.longer in
          let whole : IsWholeHeader t.header.text (bytes ++ cut.middle) = subst (IsWholeHeader t.header.text) cut.longer t.header.whole in
          open_undecided before bytes (header_front t.header.text bytes cut.middle whole (omega (arith, less, size, length-append bytes cut.middle)))
    ]

-- a front of what the reader was given decides no fault
pub front_undecided : (before : Option SetValue) (reader : BodyReader) (bytes more : List ℕ) → HasTaken before reader (bytes ++ more) → decided_behind before false bytes ≡ None
front_undecided before (stage.Header h set) bytes more t = open_undecided before bytes (open_front bytes more t.2)
front_undecided before (stage.Rows r set) bytes more t = behind_front before r set bytes more t
