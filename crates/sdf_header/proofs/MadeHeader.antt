-- The header of generated bodies is read token by token, whatever spells the number of rows and whatever follows.
use Rattle.std.proofs.Common.{◌≡◌, ℕ, suc, ◌+◌, ◌^◌, ◌<◌, ◌≤◌, ◌||◌, ◌==◌, true, false, List, [], ◌∷◌, ◌++◌, length, take, Option, Some, None, Ok, ℤ, pos, inl, inr, refl, sym, subst, ◌∙◌, ap, append_assoc, arith}
use Rattle.std.specs.Prelude.{codes, if◌then◌else◌, nat_le}
use Rattle.std.specs.List.{prefix_len}
use Rattle.std.specs.Char.{is_ascii_digit}
use Rattle.std.specs.Str.{all_ascii_digits}
use Rattle.std.specs.Str.Parse.{digits_value}
use Rattle.std.specs.Fmt.{decimal as printed}
use Rattle.std.proofs.lemmas.Bool.{cases_lt, lt-ltb, ne_eqb, le-leb, le-ltb}
use Rattle.std.proofs.lemmas.Fmt.{decimal_nonempty, digits_decimal, digits_value-decimal, length-decimal-le}
use Rattle.std.proofs.lemmas.List.{append-nil, length-append}
use Rattle.std.proofs.lemmas.Str.Parse.{tells_all_ascii_digits, IsNumeralModel, numerals_by_value}
use Rattle.std.proofs.Math.Seq.{take-append_seam, drop-append_seam}
use Rattle.hot_units.specs.Limits.{max_bodies, max_header_bytes}
use Rattle.sdf_header.specs.declared.kind.Whole.TheVariants as wholes
use Rattle.sdf_header.specs.declared.kind.Kind.TheVariants as kinds
use Rattle.sdf_header.specs.declared.document.Value.TheVariants as values
use Rattle.sdf_header.specs.declared.layout.Order.TheVariants.{Least}
use Rattle.sdf_header.specs.Extent.{whole_lines, first_ending, ending, extent, Ends}
use Rattle.sdf_tokens.specs.Numbers.{magnitude, hexadecimal, behind_exponent, behind_mantissa, decimal, with_sign, number, begins_with, goes_on_number, ◌>>=◌ as ◌>>=o◌}
use Rattle.sdf_tokens.specs.Tokens.{behind_close, blank_at, past_blanks, behind_text, token_at, next, number_lex, Lex, Word}
use Rattle.sdf_header.specs.Parts.{sign_at, word_at, new_name, size_at, type_at}
use Rattle.sdf_header.specs.Fields.{Row, with_field, array_at, item_at, items_at, line_at, lines_at, struct_at, no_fields}
use Rattle.sdf_header.specs.Statements.{Header, nothing_given, with_param, with_struct, param_end, parameter_at, text_at, value_at, declaration_at, statement_at, statements_at, header_in, is_end}
use Rattle.sdf_header.specs.Verdict.{verdict, judged, layout_of, axes_of, optional_of, order_of, whole_param, small_param, cube_of, mass_of, count_of}
use Rattle.sdf_header.specs.Generated.{generated_header, GeneratedHeaderReads}
use Rattle.sdf_tokens.proofs.Numbers.{fits}

abbrev fields_xyz : Row
fields_xyz = record {
  fields = record { name = codes "x"; kind = kinds.Whole wholes.I32; offset = 0; is_array = false } ∷ record { name = codes "y"; kind = kinds.Whole wholes.I32; offset = 4; is_array = false } ∷ record { name = codes "z"; kind = kinds.Whole wholes.I32; offset = 8; is_array = false } ∷ [];
  width = 12;
}

abbrev brace : List ℕ → List ℕ
brace mid = codes " {" ++ 10 ∷ codes "  int32_t x, y, z;" ++ 10 ∷ codes "}[" ++ mid

abbrev inside : List ℕ → List ℕ
inside mid = 10 ∷ codes "  int32_t x, y, z;" ++ 10 ∷ codes "}[" ++ mid

at_brace : (mid : List ℕ) → sign_at 123 (brace mid) ≡ Ok (inside mid)
unfolding magnitude hexadecimal behind_exponent behind_mantissa decimal with_sign number behind_close blank_at past_blanks behind_text token_at next sign_at word_at new_name size_at type_at param_end parameter_at text_at value_at declaration_at with_field array_at item_at items_at line_at lines_at
at_brace mid = refl

the_lines : (mid : List ℕ) → lines_at (suc (length (inside mid))) no_fields (inside mid) ≡ Ok (fields_xyz, 91 ∷ mid)
unfolding magnitude hexadecimal behind_exponent behind_mantissa decimal with_sign number behind_close blank_at past_blanks behind_text token_at next sign_at word_at new_name size_at type_at param_end parameter_at text_at value_at declaration_at with_field array_at item_at items_at line_at lines_at
the_lines mid = refl

pub at_bracket : (mid : List ℕ) → sign_at 91 (91 ∷ mid) ≡ Ok mid
unfolding magnitude hexadecimal behind_exponent behind_mantissa decimal with_sign number behind_close blank_at past_blanks behind_text token_at next sign_at word_at new_name size_at type_at param_end parameter_at text_at value_at declaration_at with_field array_at item_at items_at line_at lines_at
at_bracket mid = refl

pub at_end : (tail : List ℕ) → sign_at 59 (59 ∷ tail) ≡ Ok tail
unfolding magnitude hexadecimal behind_exponent behind_mantissa decimal with_sign number behind_close blank_at past_blanks behind_text token_at next sign_at word_at new_name size_at type_at param_end parameter_at text_at value_at declaration_at with_field array_at item_at items_at line_at lines_at
at_end tail = refl

-- the struct, whatever spells its number of rows
struct_made : (mid tail : List ℕ) (n : ℕ) → size_at mid ≡ Ok (Some n, 59 ∷ tail) → struct_at (brace mid) ≡ Ok (record { row = fields_xyz; size = Some n }, tail)
unfolding struct_at
struct_made mid tail n h = rw (at_brace mid, the_lines mid, at_bracket mid, h, at_end tail) refl

abbrev pub lex_word : List ℕ → List ℕ → Lex
lex_word w rest = record { lexeme = Word w; start = w ++ rest; rest = rest }

abbrev pub h0 : Header
h0 = nothing_given

abbrev h1 : Header
h1 = with_param h0 (record { name = codes "byteorder"; value = values.Whole (pos 0x78563412) })

abbrev h2 : Header
h2 = with_param h1 (record { name = codes "cube_bits"; value = values.Whole (pos 21) })

abbrev made : ℕ → Header
made n = with_struct h2 (record { row = fields_xyz; size = Some n })

abbrev text_3 : List ℕ → List ℕ
text_3 mid = 10 ∷ codes "struct" ++ brace mid

abbrev text_2 : List ℕ → List ℕ
text_2 mid = 10 ∷ codes "int cube_bits = 21;" ++ text_3 mid

abbrev text_1 : List ℕ → List ℕ
text_1 mid = codes "# SDF" ++ 10 ∷ codes "parameter byteorder = 0x78563412;" ++ text_2 mid

next_1 : (mid : List ℕ) → next (text_1 mid) ≡ Ok (lex_word (codes "parameter") (codes " byteorder = 0x78563412;" ++ text_2 mid))
unfolding magnitude hexadecimal behind_exponent behind_mantissa decimal with_sign number behind_close blank_at past_blanks behind_text token_at next sign_at word_at new_name size_at type_at param_end parameter_at text_at value_at declaration_at with_field array_at item_at items_at line_at lines_at
next_1 mid = refl

next_2 : (mid : List ℕ) → next (text_2 mid) ≡ Ok (lex_word (codes "int") (codes " cube_bits = 21;" ++ text_3 mid))
unfolding magnitude hexadecimal behind_exponent behind_mantissa decimal with_sign number behind_close blank_at past_blanks behind_text token_at next sign_at word_at new_name size_at type_at param_end parameter_at text_at value_at declaration_at with_field array_at item_at items_at line_at lines_at
next_2 mid = refl

next_3 : (mid : List ℕ) → next (text_3 mid) ≡ Ok (lex_word (codes "struct") (brace mid))
unfolding magnitude hexadecimal behind_exponent behind_mantissa decimal with_sign number behind_close blank_at past_blanks behind_text token_at next sign_at word_at new_name size_at type_at param_end parameter_at text_at value_at declaration_at with_field array_at item_at items_at line_at lines_at
next_3 mid = refl

step_1 : (tail : List ℕ) → statement_at h0 (lex_word (codes "parameter") (codes " byteorder = 0x78563412;" ++ tail)) ≡ Ok (h1, tail)
unfolding magnitude hexadecimal behind_exponent behind_mantissa decimal with_sign number behind_close blank_at past_blanks behind_text token_at next sign_at word_at new_name size_at type_at param_end parameter_at text_at value_at declaration_at with_field array_at item_at items_at line_at lines_at statement_at
step_1 tail = refl

step_2 : (tail : List ℕ) → statement_at h1 (lex_word (codes "int") (codes " cube_bits = 21;" ++ tail)) ≡ Ok (h2, tail)
unfolding magnitude hexadecimal behind_exponent behind_mantissa decimal with_sign number behind_close blank_at past_blanks behind_text token_at next sign_at word_at new_name size_at type_at param_end parameter_at text_at value_at declaration_at with_field array_at item_at items_at line_at lines_at statement_at
step_2 tail = refl

step_3 : (mid tail : List ℕ) (n : ℕ) → size_at mid ≡ Ok (Some n, 59 ∷ tail) → statement_at h2 (lex_word (codes "struct") (brace mid)) ≡ Ok (made n, tail)
unfolding statement_at
step_3 mid tail n h = rw (struct_made mid tail n h) refl

pub one_more : (n : ℕ) (h t : Header) (bytes after : List ℕ) (l : Lex) → next bytes ≡ Ok l → is_end l.lexeme ≡ false → statement_at h l ≡ Ok (t, after) → statements_at (suc n) h bytes ≡ statements_at n t after
unfolding statements_at
one_more n h t bytes after l x isnt i = rw (x, isnt, i) refl

pub no_more : (n : ℕ) (h : Header) → statements_at (suc n) h (10 ∷ []) ≡ Ok h
unfolding statements_at magnitude hexadecimal behind_exponent behind_mantissa decimal with_sign number behind_close blank_at past_blanks behind_text token_at next sign_at word_at new_name size_at type_at param_end parameter_at text_at value_at declaration_at with_field array_at item_at items_at line_at lines_at
no_more n h = refl

-- The text in front of the number of rows, whatever spells the number.
text_made : (mid : List ℕ) (n : ℕ) → size_at mid ≡ Ok (Some n, 59 ∷ 10 ∷ []) → header_in (text_1 mid) ≡ Ok (made n)
unfolding header_in
text_made mid n h =
    let k = length (codes "DF" ++ 10 ∷ codes "parameter byteorder = 0x78563412;" ++ text_2 mid) in
    one_more (suc (suc (suc k))) h0 h1 (text_1 mid) (text_2 mid) _ (next_1 mid) refl (step_1 (text_2 mid))
    ∙ one_more (suc (suc k)) h1 h2 (text_2 mid) (text_3 mid) _ (next_2 mid) refl (step_2 (text_3 mid))
    ∙ one_more (suc k) h2 (made n) (text_3 mid) (10 ∷ []) _ (next_3 mid) refl (step_3 mid (10 ∷ []) n h)
    ∙ no_more k (made n)

-- ---- the digits

digit_is : (P : ℕ → Type 0) (d : ℕ) → 48 ≤ d → d ≤ 57 → P 48 → P 49 → P 50 → P 51 → P 52 → P 53 → P 54 → P 55 → P 56 → P 57 → P d
digit_is P d lo hi p0 p1 p2 p3 p4 p5 p6 p7 p8 p9 =
    elim (cases_lt d 49) [
      | inl a0 ↦ (let e : 48 ≡ d = omega arith in subst P e p0)
      | inr b0 ↦
          elim (cases_lt d 50) [
            | inl a1 ↦ (let e : 49 ≡ d = omega arith in subst P e p1)
            | inr b1 ↦
                elim (cases_lt d 51) [
                  | inl a2 ↦ (let e : 50 ≡ d = omega arith in subst P e p2)
                  | inr b2 ↦
                      elim (cases_lt d 52) [
                        | inl a3 ↦ (let e : 51 ≡ d = omega arith in subst P e p3)
                        | inr b3 ↦
                            elim (cases_lt d 53) [
                              | inl a4 ↦ (let e : 52 ≡ d = omega arith in subst P e p4)
                              | inr b4 ↦
                                  elim (cases_lt d 54) [
                                    | inl a5 ↦ (let e : 53 ≡ d = omega arith in subst P e p5)
                                    | inr b5 ↦
                                        elim (cases_lt d 55) [
                                          | inl a6 ↦ (let e : 54 ≡ d = omega arith in subst P e p6)
                                          | inr b6 ↦
                                              elim (cases_lt d 56) [
                                                | inl a7 ↦ (let e : 55 ≡ d = omega arith in subst P e p7)
                                                | inr b7 ↦
                                                    elim (cases_lt d 57) [
                                                      | inl a8 ↦ (let e : 56 ≡ d = omega arith in subst P e p8)
                                                      | inr b8 ↦
                                                          (let e : 57 ≡ d = omega arith in subst P e p9)
                                                    ]
                                              ]
                                        ]
                                  ]
                            ]
                      ]
                ]
          ]
    ]

abbrev pub AllAre : List ℕ → Type 0
AllAre ds = all_ascii_digits ds ≡ true

run_digits : (ds more : List ℕ) → AllAre ds → prefix_len is_ascii_digit (ds ++ 93 ∷ more) ≡ length ds
run_digits [] more e = refl
run_digits (d ∷ ds) more e =
    let p = tells_all_ascii_digits.parts d ds e in
    let rest = run_digits ds more p.1 in
    let is : is_ascii_digit d ≡ true = digit_is (λ x. is_ascii_digit x ≡ true) d (omega (arith, p.0)) (omega (arith, p.0)) refl refl refl refl refl refl refl refl refl refl in
    rw (is, rest) (omega arith)

-- a digit begins a number
digit_next : (d : ℕ) (xs : List ℕ) → 48 ≤ d → d ≤ 57 → next (d ∷ xs) ≡ number_lex (d ∷ xs) (number (d ∷ xs))
unfolding next past_blanks blank_at token_at
digit_next d xs lo hi = digit_is (λ x. next (x ∷ xs) ≡ number_lex (x ∷ xs) (number (x ∷ xs))) d lo hi refl refl refl refl refl refl refl refl refl refl

abbrev plain : Option (Option ℕ × List ℕ) → Option (Option ℤ × List ℕ)
plain o = o >>=o λ size. with_sign false size.0 >>=o λ value. if goes_on_number size.1 then None else Some (value, size.1)

not_x : (ds more : List ℕ) → AllAre ds → (begins_with 120 (ds ++ 93 ∷ more) || begins_with 88 (ds ++ 93 ∷ more)) ≡ false
not_x [] more e = refl
not_x (d ∷ ds) more e =
    let p = tells_all_ascii_digits.parts d ds e in
    digit_is (λ x. (begins_with 120 (x ∷ ds ++ 93 ∷ more) || begins_with 88 (x ∷ ds ++ 93 ∷ more)) ≡ false) d (omega (arith, p.0)) (omega (arith, p.0)) refl refl refl refl refl refl refl refl refl refl

digit_number : (d : ℕ) (ds more : List ℕ) → 48 ≤ d → d ≤ 57 → AllAre ds → number (d ∷ ds ++ 93 ∷ more) ≡ plain (decimal (d ∷ ds ++ 93 ∷ more))
unfolding number
digit_number d ds more lo hi e = digit_is (λ x. number (x ∷ ds ++ 93 ∷ more) ≡ plain (decimal (x ∷ ds ++ 93 ∷ more))) d lo hi (rw (not_x ds more e) refl) refl refl refl refl refl refl refl refl refl

mantissa : (ds more : List ℕ) → 0 < length ds → AllAre ds → behind_mantissa (ds ++ 93 ∷ more) ≡ Some (93 ∷ more)
unfolding behind_mantissa
mantissa ds more some e =
    let some_digits : (length ds == 0) ≡ false = ne_eqb (length ds) 0 (λ z. omega (arith, z)) in
    rw (run_digits ds more e, take-append_seam ds (93 ∷ more), drop-append_seam ds (93 ∷ more), some_digits) refl

exponent : (more : List ℕ) → behind_exponent (93 ∷ more) ≡ Some (93 ∷ more)
unfolding behind_exponent
exponent more = refl

decimal_read : (ds more : List ℕ) (n : ℕ) → 0 < length ds → AllAre ds → n < 2 ^ 64 → n ≡ digits_value 10 ds → decimal (ds ++ 93 ∷ more) ≡ Some (Some n, 93 ∷ more)
unfolding decimal
decimal_read ds more n some e lt v =
    rw (mantissa ds more some e, exponent more, run_digits ds more e, take-append_seam ds (93 ∷ more), drop-append_seam ds (93 ∷ more), fits 10 ds n lt v) refl

close : (tail : List ℕ) → sign_at 93 (93 ∷ tail) ≡ Ok tail
unfolding sign_at next past_blanks blank_at token_at
close tail = refl

-- the number of rows, as it is printed
digits_read : (d : ℕ) (ds tail : List ℕ) (n : ℕ) → 48 ≤ d → d ≤ 57 → AllAre ds → AllAre (d ∷ ds) → n < 2 ^ 64 → n ≡ digits_value 10 (d ∷ ds) → size_at (d ∷ ds ++ 93 ∷ tail) ≡ Ok (Some n, tail)
unfolding size_at with_sign
digits_read d ds tail n lo hi e all lt v =
    let read = decimal_read (d ∷ ds) tail n (omega arith) all lt v in
    let num : number (d ∷ ds ++ 93 ∷ tail) ≡ Some (Some (pos n), 93 ∷ tail) = digit_number d ds tail lo hi e ∙ rw read refl in
    rw (digit_next d (ds ++ 93 ∷ tail) lo hi, num, lt-ltb n (2 ^ 64) lt) (rw (close tail) refl)

pub size_read : (ds tail : List ℕ) (n : ℕ) → 0 < length ds → AllAre ds → n < 2 ^ 64 → n ≡ digits_value 10 ds → size_at (ds ++ 93 ∷ tail) ≡ Ok (Some n, tail)
size_read [] tail n some e lt v = absurd (omega arith)
size_read (d ∷ ds) tail n some e lt v =
    let p = tells_all_ascii_digits.parts d ds e in
    digits_read d ds tail n (omega (arith, p.0)) (omega (arith, p.0)) p.1 e lt v

pub own : IsNumeralModel AllAre (digits_value 10)
own = numerals_by_value AllAre tells_all_ascii_digits

-- The text that `make` writes for any number of rows says this of them.
make_reads : (n : ℕ) → n < 2 ^ 64 → header_in (text_1 (printed n ++ 93 ∷ 59 ∷ 10 ∷ [])) ≡ Ok (made n)
make_reads n lt =
    text_made (printed n ++ 93 ∷ 59 ∷ 10 ∷ []) n (size_read (printed n) (59 ∷ 10 ∷ []) n (decimal_nonempty n lt) (digits_decimal own n lt) lt (sym (digits_value-decimal own n lt)))

-- ---- where it ends

pub past_digits : (ds part more : List ℕ) → AllAre ds → whole_lines part (ds ++ more) ≡ whole_lines (part ++ ds) more
past_digits [] part more e = ap (λ (x : List ℕ). whole_lines x more) (sym (append-nil part))
past_digits (d ∷ ds) part more e =
    let p = tells_all_ascii_digits.parts d ds e in
    let isnt : (d == 10) ≡ false = digit_is (λ x. (x == 10) ≡ false) d (omega (arith, p.0)) (omega (arith, p.0)) refl refl refl refl refl refl refl refl refl refl in
    rw isnt (past_digits ds (part ++ d ∷ []) more p.1 ∙ ap (λ (x : List ℕ). whole_lines x more) (append_assoc part (d ∷ []) ds))

to_bracket : (mid : List ℕ) → ending (text_1 mid) ≡ first_ending 88 (whole_lines (codes "}[") mid)
to_bracket mid = refl

abbrev pub last_line : List ℕ → List ℕ
last_line rows = codes "# SDF-EOH" ++ 10 ∷ rows

made_ends : (ds rows : List ℕ) → AllAre ds → ending (text_1 (ds ++ 93 ∷ 59 ∷ 10 ∷ last_line rows)) ≡ Some (88 + length (((codes "}[" ++ ds) ++ 93 ∷ []) ++ 59 ∷ []) + 1, 88 + length (((codes "}[" ++ ds) ++ 93 ∷ []) ++ 59 ∷ []) + 1 + 9 + 1)
made_ends ds rows e = to_bracket (ds ++ 93 ∷ 59 ∷ 10 ∷ last_line rows) ∙ ap (λ (x : List (List ℕ)). first_ending 88 x) (past_digits ds (codes "}[") (93 ∷ 59 ∷ 10 ∷ last_line rows) e)

two_parts : (ds rows : List ℕ) → text_1 (ds ++ 93 ∷ 59 ∷ 10 ∷ last_line rows) ≡ text_1 (ds ++ 93 ∷ 59 ∷ 10 ∷ []) ++ last_line rows
two_parts ds rows = ap text_1 (sym (append_assoc ds (93 ∷ 59 ∷ 10 ∷ []) (last_line rows)))

text_len : (ds : List ℕ) → length (text_1 (ds ++ 93 ∷ 59 ∷ 10 ∷ [])) ≡ 88 + length (((codes "}[" ++ ds) ++ 93 ∷ []) ++ 59 ∷ []) + 1
text_len ds = omega (arith, length-append ds (93 ∷ 59 ∷ 10 ∷ []), length-append ((codes "}[" ++ ds) ++ 93 ∷ []) (59 ∷ []), length-append (codes "}[" ++ ds) (93 ∷ []), length-append (codes "}[") ds)

made_extent : (ds rows : List ℕ) → AllAre ds → length ds ≤ 7 → extent (text_1 (ds ++ 93 ∷ 59 ∷ 10 ∷ last_line rows)) ≡ Ends (length (text_1 (ds ++ 93 ∷ 59 ∷ 10 ∷ []))) (length (text_1 (ds ++ 93 ∷ 59 ∷ 10 ∷ [])) + 9 + 1)
unfolding extent
made_extent ds rows e le =
    let len = text_len ds in
    let short : nat_le (length (text_1 (ds ++ 93 ∷ 59 ∷ 10 ∷ [])) + 9 + 1) max_header_bytes ≡ true = le-leb _ _ (omega (arith, length-append ds (93 ∷ 59 ∷ 10 ∷ []))) in
    let found : ending (text_1 (ds ++ 93 ∷ 59 ∷ 10 ∷ last_line rows)) ≡ Some (length (text_1 (ds ++ 93 ∷ 59 ∷ 10 ∷ [])), length (text_1 (ds ++ 93 ∷ 59 ∷ 10 ∷ [])) + 9 + 1) = rw len (made_ends ds rows e) in
    rw (found, short) refl

-- The header that `make` writes, for any number of rows that may be there and whatever rows follow.
make_verdict : (n : ℕ) (rows : List ℕ) → n ≤ max_bodies → verdict (text_1 (printed n ++ 93 ∷ 59 ∷ 10 ∷ last_line rows)) ≡ layout_of (length (text_1 (printed n ++ 93 ∷ 59 ∷ 10 ∷ [])) + 9 + 1) (made n)
unfolding verdict judged
make_verdict n rows le =
    let lt : n < 2 ^ 64 = omega arith in
    let short = length-decimal-le 7 n (omega arith) (omega arith) lt in
    let front_is = ap (take (length (text_1 (printed n ++ 93 ∷ 59 ∷ 10 ∷ [])))) (two_parts (printed n) rows) ∙ take-append_seam (text_1 (printed n ++ 93 ∷ 59 ∷ 10 ∷ [])) (last_line rows) in
    rw (made_extent (printed n) rows (digits_decimal own n lt) short, front_is, make_reads n lt) refl

made_layout : (len n : ℕ) → n ≤ max_bodies → layout_of len (made n) ≡ Ok (record {
  header_len = len;
  width = 12;
  count = Some n;
  order = Least;
  cube = record { bits = 21; x0 = pos 0; y0 = pos 0; z0 = pos 0 };
  mass_default = 1;
  x = record { kind = wholes.I32; offset = 0 };
  y = record { kind = wholes.I32; offset = 4 };
  z = record { kind = wholes.I32; offset = 8 };
  mass = None;
  ident = None;
  work = None;
  vx = None;
  vy = None;
  vz = None;
})
unfolding layout_of axes_of optional_of order_of whole_param small_param cube_of mass_of count_of
made_layout len n le = rw (le-ltb max_bodies n le) refl

same_text : (ds rows : List ℕ) → ((ds ++ codes "];") ++ 10 ∷ last_line []) ++ rows ≡ ds ++ 93 ∷ 59 ∷ 10 ∷ last_line rows
same_text ds rows = append_assoc (ds ++ codes "];") (10 ∷ last_line []) rows ∙ append_assoc ds (codes "];") (10 ∷ last_line rows)

same_len : (ds : List ℕ) → length (text_1 ((ds ++ codes "];") ++ 10 ∷ last_line [])) ≡ length (text_1 (ds ++ 93 ∷ 59 ∷ 10 ∷ [])) + 9 + 1
same_len ds = omega (arith, length-append ds (93 ∷ 59 ∷ 10 ∷ []), length-append (ds ++ codes "];") (10 ∷ last_line []), length-append ds (codes "];"))

-- The header of so many generated bodies has their layout.
pub generated_reads : (n : ℕ) → n ≤ max_bodies → GeneratedHeaderReads n
generated_reads n le rows =
    ap verdict (ap text_1 (same_text (printed n) rows))
    ∙ make_verdict n rows le
    ∙ (rw (← same_len (printed n)) (made_layout (length (generated_header n)) n le))
