-- The next token of a text is the first of its list of tokens.
use Rattle.std.proofs.Common.{◌≡◌, ℕ, zero, suc, ◌+◌, ◌-◌, ◌<◌, ◌≤◌, Bool, true, false, cond, ◌&&◌, ◌||◌, ◌==◌, inl, inr, List, [], ◌∷◌, length, take, drop, Option, Some, None, Result, Ok, Err, ℤ, refl, sym, ap, subst, ◌∙◌, arith, length-drop}
use Rattle.std.specs.Prelude.{option_and_then, nat_le}
use Rattle.std.specs.List.{prefix_len}
use Rattle.std.specs.Int.{is_in_range}
use Rattle.std.specs.Char.{is_ascii_digit, is_ascii_hexdigit}
use Rattle.std.proofs.lemmas.Bool.{cases_Bool}
use Rattle.std.proofs.Math.Seq.{drop-nil}
use Rattle.sdf_tokens.specs.declared.fault.Fault.{Fault}
use Rattle.sdf_tokens.specs.declared.fault.FaultKind.TheVariants.{Syntax}
use Rattle.sdf_tokens.specs.Limits.{max_text_bytes}
use Rattle.sdf_tokens.specs.Numbers.{begins_with, goes_on_word, in_line, in_text, run, is_empty, magnitude, hexadecimal, behind_sign, behind_exponent, behind_mantissa, is_fraction, decimal, is_hexadecimal, goes_on_number, with_sign, number, ◌>>=◌ as ◌>>=o◌}
use Rattle.sdf_tokens.specs.Tokens.{Lexeme, Word, Number, Text, Sign, End, Lex, is_blank, begins_word, is_sign, behind_close, comment_end, blank_at, or_here, past_blanks, behind_text, text_lex, number_lex, token_at, next, syntax_at, ◌>>=◌}
use Rattle.header_grammar.specs.TokenList.{Token, token, Piece, Blank, Whole, NoForm, token_piece, piece, piece_at, tokens_behind}
use Rattle.sdf_header.proofs.Choices.{either, none_some, some_is}

-- what is left behind a piece
pub record Tail (rest bytes : List ℕ) : Type 0 where
  pub by : ℕ
  pub is : rest ≡ drop by bytes

drop_drop : (j k : ℕ) (bytes : List ℕ) → drop k (drop j bytes) ≡ drop (j + k) bytes
drop_drop zero k bytes = ap (λ n. drop n bytes) (omega arith)
drop_drop (suc j) k [] = drop-nil k ∙ sym (drop-nil (suc j + k))
drop_drop (suc j) k (b ∷ bytes) = drop_drop j k bytes ∙ (let e : suc j + k ≡ suc (j + k) = omega arith in rw e refl)

tail_of_tail : (a b c : List ℕ) → Tail a b → Tail b c → Tail a c
tail_of_tail a b c s t = record { by = t.by + s.by; is = s.is ∙ ap (λ x. drop s.by x) t.is ∙ drop_drop t.by s.by c }

itself : (bytes : List ℕ) → Tail bytes bytes
itself bytes = record { by = 0; is = refl }

dropped : (n : ℕ) (bytes : List ℕ) → Tail (drop n bytes) bytes
dropped n bytes = record { by = n; is = refl }

-- the bytes behind the piece are left where the piece is passed over
pub passed : (size : ℕ) (bytes : List ℕ) (n : ℕ) → tokens_behind size bytes n ≡ tokens_behind size (drop n bytes) 0
unfolding tokens_behind
passed size [] zero = refl
passed size [] (suc n) = refl
passed size (b ∷ bytes) zero = refl
passed size (b ∷ bytes) (suc n) = passed size bytes n

beyond : (n : ℕ) (bytes : List ℕ) → drop (length bytes - length (drop n bytes)) bytes ≡ drop n bytes
beyond zero bytes = (let e : length bytes - length bytes ≡ 0 = omega arith in rw e refl)
beyond (suc n) [] = refl
beyond (suc n) (b ∷ bytes) =
    (let le : length (drop n bytes) ≤ length bytes = omega (arith, length-drop n bytes) in
    let e : suc (length bytes) - length (drop n bytes) ≡ suc (length bytes - length (drop n bytes)) = omega arith in
    rw e (beyond n bytes))

-- the tokens behind a place are those of the bytes from there on
pub behind : (size : ℕ) (rest bytes : List ℕ) → Tail rest bytes → tokens_behind size bytes (length bytes - length rest) ≡ tokens_behind size rest 0
behind size rest bytes t =
    passed size bytes (length bytes - length rest)
    ∙ ap (λ x. tokens_behind size x 0) (ap (λ x. drop (length bytes - length x) bytes) t.is ∙ beyond t.by bytes ∙ sym t.is)

-- ---- what each piece leaves is behind its first byte

ok_is : {A : Type 0} (x y : A) → ◌≡◌ {A = Result A Fault} (Ok x) (Ok y) → x ≡ y
ok_is x y e = cc

err_ok : {A B : Type 0} (f : Fault) (x : A) → ◌≡◌ {A = Result A Fault} (Err f) (Ok x) → B
err_ok f x e = absurd cc

err_is : {A : Type 0} (f g : Fault) → ◌≡◌ {A = Result A Fault} (Err f) (Err g) → f ≡ g
err_is f g e = cc

ok_err : {A B : Type 0} (f : Fault) (x : A) → ◌≡◌ {A = Result A Fault} (Ok x) (Err f) → B
ok_err f x e = absurd cc

-- a step that is taken gives what it found
taken : {A B : Type 0} (f : A → Option B) (o : Option A) (y : B) → option_and_then f o ≡ Some y → (x : A) × (o ≡ Some x) × (f x ≡ Some y)
taken f None y e = none_some y e
taken f (Some x) y e = (x, refl, e)

-- what is left is a tail, and so is what is behind a byte more
record Within (rest bytes : List ℕ) : Type 0 where
  pub by : ℕ
  pub is : rest ≡ drop (suc by) bytes

within_tail : (a b c : List ℕ) → Tail a b → Within b c → Within a c
within_tail a b c s t = record { by = t.by + s.by; is = s.is ∙ ap (λ x. drop s.by x) t.is ∙ drop_drop (suc t.by) s.by c ∙ (let e : suc t.by + s.by ≡ suc (t.by + s.by) = omega arith in rw e refl) }

tail_within : (a b c : List ℕ) → Within a b → Tail b c → Within a c
tail_within a b c s t = record { by = t.by + s.by; is = s.is ∙ ap (λ x. drop (suc s.by) x) t.is ∙ drop_drop t.by (suc s.by) c ∙ (let e : t.by + suc s.by ≡ suc (t.by + s.by) = omega arith in rw e refl) }

behind_first : (rest : List ℕ) (b : ℕ) (bytes : List ℕ) → Within rest (b ∷ bytes) → Tail rest bytes
behind_first rest b bytes w = record { by = w.by; is = w.is }

-- behind at least one byte
behind_some : (p : ℕ → Bool) (bytes : List ℕ) → (length (run p bytes).0 == 0) ≡ false → Within (run p bytes).1 bytes
behind_some p [] e = absurd cc
behind_some p (b ∷ bytes) e =
    elim (cases_Bool (p b)) [
      | inl t ↦ record { by = prefix_len p bytes; is = rw t (let s : 1 + prefix_len p bytes ≡ suc (prefix_len p bytes) = omega arith in rw s refl) }
      | inr f ↦ absurd (let z : (length (take (prefix_len p (b ∷ bytes)) (b ∷ bytes)) == 0) ≡ true = rw f refl in cc)
    ]

run_tail : (p : ℕ → Bool) (bytes : List ℕ) → Tail (run p bytes).1 bytes
run_tail p bytes = dropped (prefix_len p bytes) bytes

sign_tail : (bytes : List ℕ) → Tail (behind_sign bytes) bytes
sign_tail bytes =
    elim (cases_Bool (begins_with 43 bytes || begins_with 45 bytes)) [
      | inl t ↦ rw t (dropped 1 bytes)
      | inr f ↦ rw f (itself bytes)
    ]

exponent_tail : (bytes rest : List ℕ) → behind_exponent bytes ≡ Some rest → Tail rest bytes
unfolding behind_exponent
exponent_tail bytes rest h =
    let after = behind_sign (drop 1 bytes) in
    elim (either (begins_with 101 bytes || begins_with 69 bytes) (cond (is_empty (run is_ascii_digit after).0) None (Some (run is_ascii_digit after).1)) (Some bytes) (Some rest) h) [
      | inl a ↦
          elim (either (is_empty (run is_ascii_digit after).0) None (Some (run is_ascii_digit after).1) (Some rest) a.1) [
            | inl b ↦ none_some rest b.1
            | inr b ↦ subst (λ x. Tail x bytes) (some_is _ _ b.1) (tail_of_tail _ _ _ (run_tail is_ascii_digit after) (tail_of_tail _ _ _ (sign_tail (drop 1 bytes)) (dropped 1 bytes)))
          ]
      | inr a ↦ subst (λ x. Tail x bytes) (some_is _ _ a.1) (itself bytes)
    ]

mantissa_tail : (bytes rest : List ℕ) → behind_mantissa bytes ≡ Some rest → Within rest bytes
unfolding behind_mantissa
mantissa_tail bytes rest h =
    let front = run is_ascii_digit bytes in
    let back = run is_ascii_digit (drop 1 front.1) in
    elim (either (begins_with 46 front.1) (cond (is_empty front.0 && is_empty back.0) None (Some back.1)) (cond (is_empty front.0) None (Some front.1)) (Some rest) h) [
      | inl a ↦
          elim (either (is_empty front.0 && is_empty back.0) None (Some back.1) (Some rest) a.1) [
            | inl b ↦ none_some rest b.1
            | inr b ↦ subst (λ x. Within x bytes) (some_is _ _ b.1) (within_tail _ _ _ (run_tail is_ascii_digit (drop 1 front.1)) (tail_within _ _ _ (record { by = 0; is = refl }) (run_tail is_ascii_digit bytes)))
          ]
      | inr a ↦
          elim (either (is_empty front.0) None (Some front.1) (Some rest) a.1) [
            | inl b ↦ none_some rest b.1
            | inr b ↦ subst (λ x. Within x bytes) (some_is _ _ b.1) (behind_some is_ascii_digit bytes b.0)
          ]
    ]

hexadecimal_tail : (bytes : List ℕ) (x : Option ℕ × List ℕ) → hexadecimal bytes ≡ Some x → Tail x.1 bytes
unfolding hexadecimal
hexadecimal_tail bytes x h =
    let parts = run is_ascii_hexdigit bytes in
    let v = taken (λ value. cond (is_empty parts.0) None (Some (Some value, parts.1))) (magnitude 16 parts.0) x h in
    elim (either (is_empty parts.0) None (Some (Some v.0, parts.1)) (Some x) v.2) [
      | inl b ↦ none_some x b.1
      | inr b ↦ subst (λ (y : Option ℕ × List ℕ). Tail y.1 bytes) (some_is _ _ b.1) (run_tail is_ascii_hexdigit bytes)
    ]

decimal_tail : (bytes : List ℕ) (x : Option ℕ × List ℕ) → decimal bytes ≡ Some x → Within x.1 bytes
unfolding decimal
decimal_tail bytes x h =
    let digits = run is_ascii_digit bytes in
    let m = taken (λ after. behind_exponent after >>=o λ rest. cond (is_fraction digits.1) (Some (None, rest)) (magnitude 10 digits.0 >>=o λ value. Some (Some value, rest))) (behind_mantissa bytes) x h in
    let r = taken (λ rest. cond (is_fraction digits.1) (Some (None, rest)) (magnitude 10 digits.0 >>=o λ value. Some (Some value, rest))) (behind_exponent m.0) x m.2 in
    let w : Within r.0 bytes = within_tail _ _ _ (exponent_tail m.0 r.0 r.1) (mantissa_tail bytes m.0 m.1) in
    elim (either (is_fraction digits.1) (Some (None, r.0)) (magnitude 10 digits.0 >>=o λ value. Some (Some value, r.0)) (Some x) r.2) [
      | inl b ↦ subst (λ (y : Option ℕ × List ℕ). Within y.1 bytes) (some_is _ _ b.1) w
      | inr b ↦
          (let v = taken (λ value. Some (Some value, r.0)) (magnitude 10 digits.0) x b.1 in
          subst (λ (y : Option ℕ × List ℕ). Within y.1 bytes) (some_is _ _ v.2) w)
    ]

number_tail : (bytes : List ℕ) (x : Option ℤ × List ℕ) → number bytes ≡ Some x → Within x.1 bytes
unfolding number
number_tail bytes x h =
    let body = behind_sign bytes in
    let negative = begins_with 45 bytes in
    let s = taken (λ size. with_sign negative size.0 >>=o λ value. cond (goes_on_number size.1) None (Some (value, size.1))) (cond (is_hexadecimal body) (hexadecimal (drop 2 body)) (decimal body)) x h in
    let v = taken (λ value. cond (goes_on_number s.0.1) None (Some (value, s.0.1))) (with_sign negative s.0.0) x s.2 in
    let w : Within s.0.1 bytes =
    elim (either (is_hexadecimal body) (hexadecimal (drop 2 body)) (decimal body) (Some s.0) s.1) [
      | inl b ↦ tail_within _ _ _ (within_tail _ _ _ (hexadecimal_tail (drop 2 body) s.0 b.1) (record { by = 1; is = refl })) (sign_tail bytes)
      | inr b ↦ tail_within _ _ _ (decimal_tail body s.0 b.1) (sign_tail bytes)
    ] in
    elim (either (goes_on_number s.0.1) None (Some (v.0, s.0.1)) (Some x) v.2) [
      | inl b ↦ none_some x b.1
      | inr b ↦ subst (λ (y : Option ℤ × List ℕ). Within y.1 bytes) (some_is _ _ b.1) w
    ]

close_tail : (bytes rest : List ℕ) → behind_close bytes ≡ Some rest → Tail rest bytes
unfolding behind_close
close_tail [] rest h = none_some rest h
close_tail (b ∷ bytes) rest h =
    elim (either (b == 42 && begins_with 47 bytes) (Some (drop 1 bytes)) (behind_close bytes) (Some rest) h) [
      | inl a ↦ subst (λ x. Tail x (b ∷ bytes)) (some_is _ _ a.1) (tail_of_tail _ _ _ (dropped 1 bytes) (record { by = 1; is = refl }))
      | inr a ↦ tail_of_tail _ _ _ (close_tail bytes rest a.1) (record { by = 1; is = refl })
    ]

-- ---- blanks

-- what is known of a blank: it is passed, or the fault is at its first byte
abbrev FactsOfBlank : ℕ → List ℕ → Result (Option (List ℕ)) Fault → Type 0
FactsOfBlank b bytes (Err f) = f ≡ syntax_at (b ∷ bytes)
FactsOfBlank b bytes (Ok None) = Unit {0}
FactsOfBlank b bytes (Ok (Some rest)) = Tail rest bytes

close_facts : (b : ℕ) (bytes after : List ℕ) (o : Option (List ℕ)) → behind_close after ≡ o → Tail after bytes → FactsOfBlank b bytes (comment_end (b ∷ bytes) o)
close_facts b bytes after None e t = refl
close_facts b bytes after (Some rest) e t = tail_of_tail _ _ _ (close_tail after rest e) t

blank_facts : (b : ℕ) (bytes : List ℕ) → FactsOfBlank b bytes (blank_at (b ∷ bytes))
unfolding blank_at
blank_facts b bytes =
    elim (cases_Bool (is_blank b)) [
      | inl t ↦ rw t (itself bytes)
      | inr f ↦ rw f (
          elim (cases_Bool (b == 35)) [
            | inl t ↦ rw t (comment_facts b bytes t)
            | inr f ↦ rw f (
                elim (cases_Bool (b == 47 && begins_with 42 bytes)) [
                  | inl t ↦ rw t (close_facts b bytes (drop 1 bytes) (behind_close (drop 1 bytes)) refl (dropped 1 bytes))
                  | inr f ↦ rw f tt
                ])
          ])
    ]
  where
    comment_facts : (b : ℕ) (bytes : List ℕ) → (b == 35) ≡ true → Tail (run in_line bytes).1 bytes
    comment_facts b bytes t = run_tail in_line bytes

-- ---- tokens

-- what is known of a token: where it begins and ends, and that it is not the end; or the fault is at its first byte
abbrev FactsOfToken : ℕ → List ℕ → Result Lex Fault → Type 0
FactsOfToken b bytes (Err f) = f ≡ syntax_at (b ∷ bytes)
FactsOfToken b bytes (Ok l) = (l.start ≡ b ∷ bytes) × Tail l.rest bytes × (l.lexeme ≡ End → ⊥)

is_word : Lexeme → Bool
is_word (Word w) = true
is_word (Number n) = true
is_word Text = true
is_word (Sign s) = true
is_word End = false

word_not_end : (w : List ℕ) → Word w ≡ End → ⊥
unfolding is_word
word_not_end w e = absurd (let h : true ≡ false = ap is_word e in cc)

number_not_end : (n : Option ℤ) → Number n ≡ End → ⊥
unfolding is_word
number_not_end n e = absurd (let h : true ≡ false = ap is_word e in cc)

text_not_end : Text ≡ End → ⊥
unfolding is_word
text_not_end e = absurd (let h : true ≡ false = ap is_word e in cc)

sign_not_end : (s : ℕ) → Sign s ≡ End → ⊥
unfolding is_word
sign_not_end s e = absurd (let h : true ≡ false = ap is_word e in cc)

or_more : (p q r s : Bool) → ((q || r) || s) ≡ true → (((p || q) || r) || s) ≡ true
or_more true q r s e = refl
or_more false q r s e = e

goes_on : (b : ℕ) → begins_word b ≡ true → goes_on_word b ≡ true
goes_on b t = or_more (is_in_range 48 57 b) (is_in_range 65 90 b) (is_in_range 97 122 b) (b == 95) t

word_tail : (b : ℕ) (bytes : List ℕ) → begins_word b ≡ true → Tail (run goes_on_word (b ∷ bytes)).1 bytes
word_tail b bytes t =
    record { by = prefix_len goes_on_word bytes; is = rw (goes_on b t) (let s : 1 + prefix_len goes_on_word bytes ≡ suc (prefix_len goes_on_word bytes) = omega arith in rw s refl) }

text_tail : (bytes rest : List ℕ) → behind_text bytes ≡ Some rest → Tail rest bytes
unfolding behind_text
text_tail bytes rest h =
    let parts = run in_text bytes in
    elim (either (begins_with 34 parts.1 && nat_le (length parts.0) max_text_bytes) (Some (drop 1 parts.1)) None (Some rest) h) [
      | inl a ↦ subst (λ x. Tail x bytes) (some_is _ _ a.1) (tail_of_tail _ _ _ (dropped 1 parts.1) (run_tail in_text bytes))
      | inr a ↦ none_some rest a.1
    ]

text_facts : (b : ℕ) (bytes : List ℕ) (o : Option (List ℕ)) → behind_text bytes ≡ o → FactsOfToken b bytes (text_lex (b ∷ bytes) o)
text_facts b bytes None e = refl
text_facts b bytes (Some rest) e = (refl, text_tail bytes rest e, text_not_end)

number_facts : (b : ℕ) (bytes : List ℕ) (o : Option (Option ℤ × List ℕ)) → number (b ∷ bytes) ≡ o → FactsOfToken b bytes (number_lex (b ∷ bytes) o)
number_facts b bytes None e = refl
number_facts b bytes (Some x) e = (refl, behind_first x.1 b bytes (number_tail (b ∷ bytes) x e), number_not_end x.0)

token_facts : (b : ℕ) (bytes : List ℕ) → FactsOfToken b bytes (token_at (b ∷ bytes))
unfolding token_at
token_facts b bytes =
    elim (cases_Bool (begins_word b)) [
      | inl t ↦ rw t (refl, word_tail b bytes t, word_not_end _)
      | inr f ↦ rw f (
          elim (cases_Bool (is_sign b)) [
            | inl t ↦ rw t (refl, itself bytes, sign_not_end b)
            | inr f ↦ rw f (
                elim (cases_Bool (b == 34)) [
                  | inl t ↦ rw t (text_facts b bytes (behind_text bytes) refl)
                  | inr f ↦ rw f (number_facts b bytes (number (b ∷ bytes)) refl)
                ])
          ])
    ]

-- ---- the next token

-- the place where no token stands
abbrev pub none_at : ℕ → ℕ → Token
none_at size left = record { lexeme = None; place = size - left }

-- the list of tokens, by its first one
abbrev pub listed_behind : ℕ → List ℕ → Lexeme → List Token
listed_behind size rest End = []
listed_behind size rest (Word w) = tokens_behind size rest 0
listed_behind size rest (Number n) = tokens_behind size rest 0
listed_behind size rest Text = tokens_behind size rest 0
listed_behind size rest (Sign s) = tokens_behind size rest 0

-- the first token and those behind it
abbrev pub listed : ℕ → Result Lex Fault → List Token
listed size (Err f) = none_at size f.left ∷ []
listed size (Ok l) = token size (Some l.lexeme) l.start ∷ listed_behind size l.rest l.lexeme

not_end : (size : ℕ) (rest : List ℕ) (l : Lexeme) → (l ≡ End → ⊥) → tokens_behind size rest 0 ≡ listed_behind size rest l
not_end size rest End h = absurd (h refl)
not_end size rest (Word w) h = refl
not_end size rest (Number n) h = refl
not_end size rest Text h = refl
not_end size rest (Sign s) h = refl

abbrev by_piece : ℕ → ℕ → List ℕ → Piece → List Token
by_piece size b bytes (Blank n) = tokens_behind size bytes n
by_piece size b bytes (Whole lexeme n) = token size (Some lexeme) (b ∷ bytes) ∷ tokens_behind size bytes n
by_piece size b bytes NoForm = token size None (b ∷ bytes) ∷ []

first_piece : (size b : ℕ) (bytes : List ℕ) → tokens_behind size (b ∷ bytes) 0 ≡ by_piece size b bytes (piece_at b bytes)
unfolding tokens_behind
first_piece size b bytes = refl

at_token : (size b : ℕ) (bytes : List ℕ) (r : Result Lex Fault) → FactsOfToken b bytes r → by_piece size b bytes (token_piece bytes r) ≡ listed size r
at_token size b bytes (Err f) e = ap (λ (x : Fault). none_at size x.left ∷ []) (sym e)
at_token size b bytes (Ok l) e = ap (λ x. token size (Some l.lexeme) x ∷ tokens_behind size bytes (length bytes - length l.rest)) (sym e.0) ∙ ap (λ x. token size (Some l.lexeme) l.start ∷ x) (behind size l.rest bytes e.1 ∙ not_end size l.rest l.lexeme e.2)

tail_le : (rest bytes : List ℕ) → Tail rest bytes → length rest ≤ length bytes
tail_le rest bytes t = omega (arith, ap length t.is, length-drop t.by bytes)

at_end : (size : ℕ) → tokens_behind size [] 0 ≡ token size (Some End) [] ∷ []
unfolding tokens_behind
at_end size = refl

next_is : (n size : ℕ) (bytes : List ℕ) → length bytes < n → tokens_behind size bytes 0 ≡ listed size (past_blanks n bytes >>= token_at)
unfolding past_blanks blank_at token_at
next_is zero size bytes lt = absurd (omega arith)
next_is (suc n) size [] lt = at_end size
next_is (suc n) size (b ∷ bytes) lt = first_piece size b bytes ∙ go (blank_at (b ∷ bytes)) (blank_facts b bytes) (λ rest le. next_is n size rest le)
  where
    go : (r : Result (Option (List ℕ)) Fault) → FactsOfBlank b bytes r → ((rest : List ℕ) → length rest < n → tokens_behind size rest 0 ≡ listed size (past_blanks n rest >>= token_at)) → by_piece size b bytes (piece b bytes r) ≡ listed size ((r >>= λ found. or_here found (Ok (b ∷ bytes)) (past_blanks n)) >>= token_at)
    go (Err f) e ih = ap (λ (x : Fault). none_at size x.left ∷ []) (sym e)
    go (Ok None) e ih = at_token size b bytes (token_at (b ∷ bytes)) (token_facts b bytes)
    go (Ok (Some rest)) t ih = behind size rest bytes t ∙ ih rest (omega (arith, tail_le rest bytes t))

-- the tokens are the next one and those behind it
pub first_token : (size : ℕ) (bytes : List ℕ) → tokens_behind size bytes 0 ≡ listed size (next bytes)
unfolding next
first_token size bytes = next_is (suc (length bytes)) size bytes (omega arith)

-- a piece of no form is a fault of the syntax
abbrev pub IsSyntax : Result Lex Fault → Type 0
IsSyntax (Ok l) = Unit {0}
IsSyntax (Err f) = f.kind ≡ Syntax

token_syntax : (b : ℕ) (bytes : List ℕ) (r : Result Lex Fault) → FactsOfToken b bytes r → IsSyntax r
token_syntax b bytes (Ok l) e = tt
token_syntax b bytes (Err f) e = ap (λ (x : Fault). x.kind) e

syntax_is : (n : ℕ) (bytes : List ℕ) → length bytes < n → IsSyntax (past_blanks n bytes >>= token_at)
unfolding past_blanks blank_at token_at
syntax_is zero bytes lt = absurd (omega arith)
syntax_is (suc n) [] lt = tt
syntax_is (suc n) (b ∷ bytes) lt = go (blank_at (b ∷ bytes)) (blank_facts b bytes) (λ rest le. syntax_is n rest le)
  where
    go : (r : Result (Option (List ℕ)) Fault) → FactsOfBlank b bytes r → ((rest : List ℕ) → length rest < n → IsSyntax (past_blanks n rest >>= token_at)) → IsSyntax ((r >>= λ found. or_here found (Ok (b ∷ bytes)) (past_blanks n)) >>= token_at)
    go (Err f) e ih = ap (λ (x : Fault). x.kind) e
    go (Ok None) e ih = token_syntax b bytes (token_at (b ∷ bytes)) (token_facts b bytes)
    go (Ok (Some rest)) t ih = ih rest (omega (arith, tail_le rest bytes t))

-- the next token fails by a fault of the syntax alone
pub next_syntax : (bytes : List ℕ) → IsSyntax (next bytes)
unfolding next
next_syntax bytes = syntax_is (suc (length bytes)) bytes (omega arith)

-- a token takes a byte or more
abbrev pub LeavesLess : ℕ → Result Lex Fault → Type 0
LeavesLess n (Ok l) = (l.lexeme ≡ End → ⊥) → length l.rest < n
LeavesLess n (Err f) = Unit {0}

token_less : (b n : ℕ) (bytes : List ℕ) (r : Result Lex Fault) → length bytes < n → FactsOfToken b bytes r → LeavesLess n r
token_less b n bytes (Ok l) lt e = λ not_end. omega (arith, tail_le l.rest bytes e.1)
token_less b n bytes (Err f) lt e = tt

less_is : (n m : ℕ) (bytes : List ℕ) → length bytes < n → length bytes ≤ m → LeavesLess m (past_blanks n bytes >>= token_at)
unfolding past_blanks blank_at token_at
less_is zero m bytes lt le = absurd (omega arith)
less_is (suc n) m [] lt le = λ not_end. absurd (not_end refl)
less_is (suc n) m (b ∷ bytes) lt le = go (blank_at (b ∷ bytes)) (blank_facts b bytes) (λ rest lt le. less_is n m rest lt le)
  where
    go : (r : Result (Option (List ℕ)) Fault) → FactsOfBlank b bytes r → ((rest : List ℕ) → length rest < n → length rest ≤ m → LeavesLess m (past_blanks n rest >>= token_at)) → LeavesLess m ((r >>= λ found. or_here found (Ok (b ∷ bytes)) (past_blanks n)) >>= token_at)
    go (Err f) e ih = tt
    go (Ok None) e ih = token_less b m bytes (token_at (b ∷ bytes)) (omega arith) (token_facts b bytes)
    go (Ok (Some rest)) t ih = ih rest (omega (arith, tail_le rest bytes t)) (omega (arith, tail_le rest bytes t))

-- the next token leaves fewer bytes, or it is the end
pub next_less : (bytes : List ℕ) → LeavesLess (length bytes) (next bytes)
unfolding next
next_less bytes = less_is (suc (length bytes)) (length bytes) bytes (omega arith) (omega arith)
