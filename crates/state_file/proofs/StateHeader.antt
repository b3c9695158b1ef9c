-- The header of a state is read token by token, whatever spells the number of rows and whatever follows.
use Rattle.std.proofs.Common.{◌≡◌, ℕ, suc, ◌+◌, ◌^◌, ◌<◌, ◌≤◌, true, false, List, [], ◌∷◌, ◌++◌, length, take, Some, None, Ok, pos, refl, sym, ◌∙◌, ap, append_assoc, arith}
use Rattle.std.specs.Prelude.{Bool, codes, nat_le}
use Rattle.std.specs.Fmt.{decimal as printed}
use Rattle.std.proofs.lemmas.Bool.{le-leb, le-ltb}
use Rattle.std.proofs.lemmas.Fmt.{decimal_nonempty, digits_decimal, digits_value-decimal, length-decimal-le}
use Rattle.std.proofs.lemmas.List.{length-append}
use Rattle.std.proofs.Math.Seq.{take-append_seam}
use Rattle.hot_units.specs.Limits.{max_bodies, max_header_bytes}
use Rattle.sdf_header.specs.declared.kind.Whole.TheVariants as wholes
use Rattle.sdf_header.specs.declared.kind.Kind.TheVariants as kinds
use Rattle.sdf_header.specs.declared.document.Value.TheVariants as values
use Rattle.sdf_header.specs.declared.layout.Order.TheVariants.{Least}
use Rattle.sdf_header.specs.Extent.{whole_lines, first_ending, ending, extent, Ends}
use Rattle.sdf_tokens.specs.Numbers.{magnitude, hexadecimal, behind_exponent, behind_mantissa, decimal, with_sign, number}
use Rattle.sdf_tokens.specs.Tokens.{behind_close, blank_at, past_blanks, behind_text, token_at, next}
use Rattle.sdf_header.specs.Parts.{sign_at, word_at, new_name, size_at, type_at}
use Rattle.sdf_header.specs.Fields.{Row, with_field, array_at, item_at, items_at, line_at, lines_at, struct_at, no_fields}
use Rattle.sdf_header.specs.Statements.{Header, with_param, with_struct, param_end, parameter_at, text_at, value_at, declaration_at, statement_at, header_in}
use Rattle.sdf_header.specs.Verdict.{verdict, judged, layout_of, axes_of, optional_of, order_of, whole_param, small_param, cube_of, mass_of, count_of}
use Rattle.state_file.specs.Headers.{ident_line, ident_kind, state_header, StateHeaderReads}
use Rattle.sdf_header.proofs.MadeHeader.{at_bracket, at_end, one_more, no_more, size_read, own, past_digits, lex_word, h0, AllAre, last_line}

-- the columns of the struct
abbrev the_fields : Bool → Row
the_fields unsigned = record {
  fields =
      record { name = codes "x"; kind = kinds.Whole wholes.I32; offset = 0; is_array = false }
      ∷ record { name = codes "y"; kind = kinds.Whole wholes.I32; offset = 4; is_array = false }
      ∷ record { name = codes "z"; kind = kinds.Whole wholes.I32; offset = 8; is_array = false }
      ∷ record { name = codes "mass"; kind = kinds.Whole wholes.U32; offset = 12; is_array = false }
      ∷ record { name = codes "ident"; kind = kinds.Whole (ident_kind unsigned); offset = 16; is_array = false }
      ∷ record { name = codes "vx"; kind = kinds.Whole wholes.I64; offset = 24; is_array = false }
      ∷ record { name = codes "vy"; kind = kinds.Whole wholes.I64; offset = 32; is_array = false }
      ∷ record { name = codes "vz"; kind = kinds.Whole wholes.I64; offset = 40; is_array = false } ∷ [];
  width = 48;
}

-- the text behind the opening brace
abbrev pub inside : Bool → List ℕ → List ℕ
inside unsigned mid = 10 ∷ codes "  int32_t x, y, z;" ++ 10 ∷ codes "  uint32_t mass;" ++ 10 ∷ ident_line unsigned ++ 10 ∷ codes "  int64_t vx, vy, vz;" ++ 10 ∷ codes "}[" ++ mid

-- the text from the brace on
abbrev pub brace : Bool → List ℕ → List ℕ
brace unsigned mid = codes " {" ++ inside unsigned mid

-- the brace opens
at_brace : (unsigned : Bool) (mid : List ℕ) → sign_at 123 (brace unsigned mid) ≡ Ok (inside unsigned mid)
unfolding magnitude hexadecimal behind_exponent behind_mantissa decimal with_sign number behind_close blank_at past_blanks behind_text token_at next sign_at word_at new_name size_at type_at param_end parameter_at text_at value_at declaration_at with_field array_at item_at items_at line_at lines_at
at_brace true mid = refl
at_brace false mid = refl

-- the lines of the struct give its columns, whatever follows
the_lines : (unsigned : Bool) (mid : List ℕ) → lines_at (suc (length (inside unsigned mid))) no_fields (inside unsigned mid) ≡ Ok (the_fields unsigned, 91 ∷ mid)
unfolding magnitude hexadecimal behind_exponent behind_mantissa decimal with_sign number behind_close blank_at past_blanks behind_text token_at next sign_at word_at new_name size_at type_at param_end parameter_at text_at value_at declaration_at with_field array_at item_at items_at line_at lines_at
the_lines true mid = refl
the_lines false mid = refl

-- the struct, whatever spells its number of rows
struct_made : (unsigned : Bool) (mid tail : List ℕ) (n : ℕ) → size_at mid ≡ Ok (Some n, 59 ∷ tail) → struct_at (brace unsigned mid) ≡ Ok (record { row = the_fields unsigned; size = Some n }, tail)
unfolding struct_at
struct_made unsigned mid tail n h = rw (at_brace unsigned mid, the_lines unsigned mid, at_bracket mid, h, at_end tail) refl

-- the order of bytes is given
abbrev h1 : Header
h1 = with_param h0 (record { name = codes "byteorder"; value = values.Whole (pos 0x78563412) })

-- the bits of the cube are given
abbrev h2 : Header
h2 = with_param h1 (record { name = codes "cube_bits"; value = values.Whole (pos 29) })

-- the struct is given
abbrev made : Bool → ℕ → Header
made unsigned n = with_struct h2 (record { row = the_fields unsigned; size = Some n })

-- the text from the struct on
abbrev pub text_3 : Bool → List ℕ → List ℕ
text_3 unsigned mid = 10 ∷ codes "struct" ++ brace unsigned mid

-- the text from the second line on
abbrev pub text_2 : Bool → List ℕ → List ℕ
text_2 unsigned mid = 10 ∷ codes "int cube_bits = 29;" ++ text_3 unsigned mid

-- the whole text behind the first line
abbrev pub text_1 : Bool → List ℕ → List ℕ
text_1 unsigned mid = codes "# SDF" ++ 10 ∷ codes "parameter byteorder = 0x78563412;" ++ text_2 unsigned mid

-- the first word of the second line
next_1 : (unsigned : Bool) (mid : List ℕ) → next (text_1 unsigned mid) ≡ Ok (lex_word (codes "parameter") (codes " byteorder = 0x78563412;" ++ text_2 unsigned mid))
unfolding magnitude hexadecimal behind_exponent behind_mantissa decimal with_sign number behind_close blank_at past_blanks behind_text token_at next sign_at word_at new_name size_at type_at param_end parameter_at text_at value_at declaration_at with_field array_at item_at items_at line_at lines_at
next_1 true mid = refl
next_1 false mid = refl

-- the first word of the third line
next_2 : (unsigned : Bool) (mid : List ℕ) → next (text_2 unsigned mid) ≡ Ok (lex_word (codes "int") (codes " cube_bits = 29;" ++ text_3 unsigned mid))
unfolding magnitude hexadecimal behind_exponent behind_mantissa decimal with_sign number behind_close blank_at past_blanks behind_text token_at next sign_at word_at new_name size_at type_at param_end parameter_at text_at value_at declaration_at with_field array_at item_at items_at line_at lines_at
next_2 true mid = refl
next_2 false mid = refl

-- the first word of the struct
next_3 : (unsigned : Bool) (mid : List ℕ) → next (text_3 unsigned mid) ≡ Ok (lex_word (codes "struct") (brace unsigned mid))
unfolding magnitude hexadecimal behind_exponent behind_mantissa decimal with_sign number behind_close blank_at past_blanks behind_text token_at next sign_at word_at new_name size_at type_at param_end parameter_at text_at value_at declaration_at with_field array_at item_at items_at line_at lines_at
next_3 true mid = refl
next_3 false mid = refl

-- the statement of the second line
step_1 : (tail : List ℕ) → statement_at h0 (lex_word (codes "parameter") (codes " byteorder = 0x78563412;" ++ tail)) ≡ Ok (h1, tail)
unfolding magnitude hexadecimal behind_exponent behind_mantissa decimal with_sign number behind_close blank_at past_blanks behind_text token_at next sign_at word_at new_name size_at type_at param_end parameter_at text_at value_at declaration_at with_field array_at item_at items_at line_at lines_at statement_at
step_1 tail = refl

-- the statement of the third line
step_2 : (tail : List ℕ) → statement_at h1 (lex_word (codes "int") (codes " cube_bits = 29;" ++ tail)) ≡ Ok (h2, tail)
unfolding magnitude hexadecimal behind_exponent behind_mantissa decimal with_sign number behind_close blank_at past_blanks behind_text token_at next sign_at word_at new_name size_at type_at param_end parameter_at text_at value_at declaration_at with_field array_at item_at items_at line_at lines_at statement_at
step_2 tail = refl

-- the statement of the struct
step_3 : (unsigned : Bool) (mid tail : List ℕ) (n : ℕ) → size_at mid ≡ Ok (Some n, 59 ∷ tail) → statement_at h2 (lex_word (codes "struct") (brace unsigned mid)) ≡ Ok (made unsigned n, tail)
unfolding statement_at
step_3 unsigned mid tail n h = rw (struct_made unsigned mid tail n h) refl

-- The text in front of the number of rows, whatever spells the number.
text_made : (unsigned : Bool) (mid : List ℕ) (n : ℕ) → size_at mid ≡ Ok (Some n, 59 ∷ 10 ∷ []) → header_in (text_1 unsigned mid) ≡ Ok (made unsigned n)
unfolding header_in
text_made unsigned mid n h =
    let k = length (codes "DF" ++ 10 ∷ codes "parameter byteorder = 0x78563412;" ++ text_2 unsigned mid) in
    one_more (suc (suc (suc k))) h0 h1 (text_1 unsigned mid) (text_2 unsigned mid) _ (next_1 unsigned mid) refl (step_1 (text_2 unsigned mid))
    ∙ one_more (suc (suc k)) h1 h2 (text_2 unsigned mid) (text_3 unsigned mid) _ (next_2 unsigned mid) refl (step_2 (text_3 unsigned mid))
    ∙ one_more (suc k) h2 (made unsigned n) (text_3 unsigned mid) (10 ∷ []) _ (next_3 unsigned mid) refl (step_3 unsigned mid (10 ∷ []) n h)
    ∙ no_more k (made unsigned n)

-- The text that is written for any number of rows says this of them.
reads : (unsigned : Bool) (n : ℕ) → n < 2 ^ 64 → header_in (text_1 unsigned (printed n ++ 93 ∷ 59 ∷ 10 ∷ [])) ≡ Ok (made unsigned n)
reads unsigned n lt =
    text_made unsigned (printed n ++ 93 ∷ 59 ∷ 10 ∷ []) n (size_read (printed n) (59 ∷ 10 ∷ []) n (decimal_nonempty n lt) (digits_decimal own n lt) lt (sym (digits_value-decimal own n lt)))

-- ---- where it ends

-- how many bytes stand before the line with the number of rows
abbrev front : Bool → ℕ
front true = 145
front false = 144

-- the search for the last line comes to the number of rows
to_bracket : (unsigned : Bool) (mid : List ℕ) → ending (text_1 unsigned mid) ≡ first_ending (front unsigned) (whole_lines (codes "}[") mid)
to_bracket true mid = refl
to_bracket false mid = refl

-- the line with the number of rows, without its newline
abbrev count_line : List ℕ → List ℕ
count_line ds = ((codes "}[" ++ ds) ++ 93 ∷ []) ++ 59 ∷ []

-- and behind it finds the last line
ends_at : (at : ℕ) (ds rows : List ℕ) → AllAre ds → first_ending at (whole_lines (codes "}[") (ds ++ 93 ∷ 59 ∷ 10 ∷ last_line rows)) ≡ Some (at + length (count_line ds) + 1, at + length (count_line ds) + 1 + 9 + 1)
ends_at at ds rows e = ap (λ (x : List (List ℕ)). first_ending at x) (past_digits ds (codes "}[") (93 ∷ 59 ∷ 10 ∷ last_line rows) e)

-- where the header ends
made_ends : (unsigned : Bool) (ds rows : List ℕ) → AllAre ds → ending (text_1 unsigned (ds ++ 93 ∷ 59 ∷ 10 ∷ last_line rows)) ≡ Some (front unsigned + length (count_line ds) + 1, front unsigned + length (count_line ds) + 1 + 9 + 1)
made_ends unsigned ds rows e = to_bracket unsigned (ds ++ 93 ∷ 59 ∷ 10 ∷ last_line rows) ∙ ends_at (front unsigned) ds rows e

-- the text up to the last line, and that line
two_parts : (unsigned : Bool) (ds rows : List ℕ) → text_1 unsigned (ds ++ 93 ∷ 59 ∷ 10 ∷ last_line rows) ≡ text_1 unsigned (ds ++ 93 ∷ 59 ∷ 10 ∷ []) ++ last_line rows
two_parts true ds rows = ap (text_1 true) (sym (append_assoc ds (93 ∷ 59 ∷ 10 ∷ []) (last_line rows)))
two_parts false ds rows = ap (text_1 false) (sym (append_assoc ds (93 ∷ 59 ∷ 10 ∷ []) (last_line rows)))

-- the length of the text up to the last line
text_len : (unsigned : Bool) (ds : List ℕ) → length (text_1 unsigned (ds ++ 93 ∷ 59 ∷ 10 ∷ [])) ≡ front unsigned + length (count_line ds) + 1
text_len true ds = omega (arith, length-append ds (93 ∷ 59 ∷ 10 ∷ []), length-append ((codes "}[" ++ ds) ++ 93 ∷ []) (59 ∷ []), length-append (codes "}[" ++ ds) (93 ∷ []), length-append (codes "}[") ds)
text_len false ds = omega (arith, length-append ds (93 ∷ 59 ∷ 10 ∷ []), length-append ((codes "}[" ++ ds) ++ 93 ∷ []) (59 ∷ []), length-append (codes "}[" ++ ds) (93 ∷ []), length-append (codes "}[") ds)

-- the header is short enough
text_short : (unsigned : Bool) (ds : List ℕ) → length ds ≤ 7 → length (text_1 unsigned (ds ++ 93 ∷ 59 ∷ 10 ∷ [])) + 9 + 1 ≤ max_header_bytes
text_short true ds le = omega (arith, length-append ds (93 ∷ 59 ∷ 10 ∷ []))
text_short false ds le = omega (arith, length-append ds (93 ∷ 59 ∷ 10 ∷ []))

-- the header ends with its last line, whatever rows follow
made_extent : (unsigned : Bool) (ds rows : List ℕ) → AllAre ds → length ds ≤ 7 → extent (text_1 unsigned (ds ++ 93 ∷ 59 ∷ 10 ∷ last_line rows)) ≡ Ends (length (text_1 unsigned (ds ++ 93 ∷ 59 ∷ 10 ∷ []))) (length (text_1 unsigned (ds ++ 93 ∷ 59 ∷ 10 ∷ [])) + 9 + 1)
unfolding extent
made_extent unsigned ds rows e le =
    let len = text_len unsigned ds in
    let short : nat_le (length (text_1 unsigned (ds ++ 93 ∷ 59 ∷ 10 ∷ [])) + 9 + 1) max_header_bytes ≡ true = le-leb _ _ (text_short unsigned ds le) in
    let found : ending (text_1 unsigned (ds ++ 93 ∷ 59 ∷ 10 ∷ last_line rows)) ≡ Some (length (text_1 unsigned (ds ++ 93 ∷ 59 ∷ 10 ∷ [])), length (text_1 unsigned (ds ++ 93 ∷ 59 ∷ 10 ∷ [])) + 9 + 1) = rw len (made_ends unsigned ds rows e) in
    rw (found, short) refl

-- The verdict of the header, for any number of rows that may be there and whatever rows follow.
made_verdict : (unsigned : Bool) (n : ℕ) (rows : List ℕ) → n ≤ max_bodies → verdict (text_1 unsigned (printed n ++ 93 ∷ 59 ∷ 10 ∷ last_line rows)) ≡ layout_of (length (text_1 unsigned (printed n ++ 93 ∷ 59 ∷ 10 ∷ [])) + 9 + 1) (made unsigned n)
unfolding verdict judged
made_verdict unsigned n rows le =
    let lt : n < 2 ^ 64 = omega arith in
    let short = length-decimal-le 7 n (omega arith) (omega arith) lt in
    let front_is = ap (take (length (text_1 unsigned (printed n ++ 93 ∷ 59 ∷ 10 ∷ [])))) (two_parts unsigned (printed n) rows) ∙ take-append_seam (text_1 unsigned (printed n ++ 93 ∷ 59 ∷ 10 ∷ [])) (last_line rows) in
    rw (made_extent unsigned (printed n) rows (digits_decimal own n lt) short, front_is, reads unsigned n lt) refl

-- the layout of what is given
made_layout : (unsigned : Bool) (len n : ℕ) → n ≤ max_bodies → layout_of len (made unsigned n) ≡ Ok (record {
  header_len = len;
  width = 48;
  count = Some n;
  order = Least;
  cube = record { bits = 29; x0 = pos 0; y0 = pos 0; z0 = pos 0 };
  mass_default = 1;
  x = record { kind = wholes.I32; offset = 0 };
  y = record { kind = wholes.I32; offset = 4 };
  z = record { kind = wholes.I32; offset = 8 };
  mass = Some (record { kind = wholes.U32; offset = 12 });
  ident = Some (record { kind = ident_kind unsigned; offset = 16 });
  work = None;
  vx = Some (record { kind = wholes.I64; offset = 24 });
  vy = Some (record { kind = wholes.I64; offset = 32 });
  vz = Some (record { kind = wholes.I64; offset = 40 });
})
unfolding layout_of axes_of optional_of order_of whole_param small_param cube_of mass_of count_of
made_layout true len n le = rw (le-ltb max_bodies n le) refl
made_layout false len n le = rw (le-ltb max_bodies n le) refl

-- the text with rows behind it, joined otherwise
same_text : (ds rows : List ℕ) → ((ds ++ codes "];") ++ 10 ∷ last_line []) ++ rows ≡ ds ++ 93 ∷ 59 ∷ 10 ∷ last_line rows
same_text ds rows = append_assoc (ds ++ codes "];") (10 ∷ last_line []) rows ∙ append_assoc ds (codes "];") (10 ∷ last_line rows)

-- the length of the text joined otherwise
same_len : (unsigned : Bool) (ds : List ℕ) → length (text_1 unsigned ((ds ++ codes "];") ++ 10 ∷ last_line [])) ≡ length (text_1 unsigned (ds ++ 93 ∷ 59 ∷ 10 ∷ [])) + 9 + 1
same_len true ds = omega (arith, length-append ds (93 ∷ 59 ∷ 10 ∷ []), length-append (ds ++ codes "];") (10 ∷ last_line []), length-append ds (codes "];"))
same_len false ds = omega (arith, length-append ds (93 ∷ 59 ∷ 10 ∷ []), length-append (ds ++ codes "];") (10 ∷ last_line []), length-append ds (codes "];"))

-- the header with rows behind it, as that text
pub header_text : (unsigned : Bool) (n : ℕ) (rows : List ℕ) → state_header unsigned n ++ rows ≡ text_1 unsigned (((printed n ++ codes "];") ++ 10 ∷ last_line []) ++ rows)
header_text true n rows = refl
header_text false n rows = refl

-- the length of the header
header_len : (unsigned : Bool) (n : ℕ) → length (state_header unsigned n) ≡ length (text_1 unsigned ((printed n ++ codes "];") ++ 10 ∷ last_line []))
header_len true n = refl
header_len false n = refl

-- The header of the file of so many bodies has their layout.
pub header_reads : (unsigned : Bool) (n : ℕ) → n ≤ max_bodies → StateHeaderReads unsigned n
header_reads unsigned n le rows =
    ap verdict (header_text unsigned n rows ∙ ap (text_1 unsigned) (same_text (printed n) rows))
    ∙ made_verdict unsigned n rows le
    ∙ (rw (← same_len unsigned (printed n), ← header_len unsigned n) (made_layout unsigned (length (state_header unsigned n)) n le))
