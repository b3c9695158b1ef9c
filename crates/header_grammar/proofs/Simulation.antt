-- Reading a text is a run of its tokens.
use Rattle.std.proofs.Common.{◌≡◌, ℕ, zero, suc, ◌+◌, ◌-◌, ◌*◌, ◌<◌, Bool, true, false, ◌&&◌, inl, inr, List, [], ◌∷◌, length, Option, Some, None, Result, Ok, Err, refl, sym, ap, ◌∙◌, arith}
use Rattle.std.specs.Prelude.{option_and_then, if◌then◌else◌, is_some, codes, nat_lt, ◌==◌}
use Rattle.std.specs.Str.{bytes_eq}
use Rattle.std.proofs.lemmas.Bool.{cases_Bool}
use Rattle.hot_units.specs.Limits.{max_columns, max_row_bytes}
use Rattle.sdf_tokens.specs.declared.fault.Fault.{Fault}
use Rattle.sdf_tokens.specs.declared.fault.FaultKind.{FaultKind}
use Rattle.sdf_tokens.specs.declared.fault.FaultKind.TheVariants as faults
use Rattle.sdf_header.specs.declared.kind.Kind.{Kind}
use Rattle.sdf_header.specs.declared.document.Value.{Value}
use Rattle.sdf_header.specs.declared.document.Value.TheVariants as values
use Rattle.sdf_tokens.specs.Tokens.{Lexeme, Word, Number, Text, Sign, End, Lex, next, syntax_at, ◌>>=◌, or_here}
use Rattle.header_grammar.specs.TokenList.{Token, token, tokens_behind}
use Rattle.sdf_header.specs.Types.{kind_named, unsigned_kind, bytes_of, is_char}
use Rattle.sdf_header.specs.Parts.{or_fault, is_the, sign_at, Name, word_of, named, word_at, new_name, size_of, size_at, unsigned_type, unsigned_end, unknown_type_at, name_twice_at, type_at}
use Rattle.sdf_header.specs.Fields.{Row, Struct, has_field, with_field, length_of, array_at, bracket_in, item_at, items_at, line_at, lines_at, no_fields, struct_at, too_wide_at}
use Rattle.sdf_header.specs.Statements.{Header, Param, with_param, with_struct, value_of, number_for, is_text, is_end, param_end, parameter_at, text_at, value_at, declaration_at, second_struct_at, statement_at, statements_at, nothing_given, header_in}
use Rattle.header_grammar.proofs.TokenList.{none_at, listed, listed_behind, first_token, IsSyntax, next_syntax, LeavesLess, next_less}
use Rattle.header_grammar.proofs.Shorter.{Under, item_less, line_less, statement_less}
use Rattle.header_grammar.proofs.Machine.{Halt, halt, State, Done, Start, Wants, ParamName, ParamValue, Unsigned, Typed, Named, NumberFor, TextSize, TextValue, Fields, FieldUnsigned, Item, ItemName, Length, ItemEnd, StructSize, wanted, has, word_in, widened, or_halt, given, closed, on_type, on_statement, on_name, on_item_end, on_item, step, and_then, goes}

-- what was read goes on like this; a fault ends the run
abbrev pub onward : {A : Type 0} → ℕ → (A → Result State Halt) → Result A Fault → Result State Halt
onward z g (Ok a) = g a
onward z g (Err f) = halt f.kind (z - f.left)

chain : {A B : Type 0} (z : ℕ) (m : Result A Fault) (k : A → Result B Fault) (g : A → Result State Halt) (g' : B → Result State Halt) (r : Result State Halt)
    → r ≡ onward z g m → ((a : A) → g a ≡ onward z g' (k a)) → r ≡ onward z g' (m >>= k)
chain z (Ok a) k g g' r e h = e ∙ h a
chain z (Err f) k g g' r e h = e

-- from a state on, the tokens of these bytes
abbrev from : ℕ → State → List ℕ → Result State Halt
from z s bytes = goes s (tokens_behind z bytes 0)

-- from a state on, this token and those behind it
abbrev at : ℕ → State → Lexeme → List ℕ → List ℕ → Result State Halt
at z s x start rest = goes s (token z (Some x) start ∷ listed_behind z rest x)

abbrev no_token : ℕ → Token
no_token place = record { lexeme = None; place = place }

first : (z : ℕ) (s : State) (bytes : List ℕ) → ((place : ℕ) → step s (no_token place) ≡ halt faults.Syntax place) → from z s bytes ≡ onward z (λ l. at z s l.lexeme l.start l.rest) (next bytes)
unfolding goes
first z s bytes h = ap (goes s) (first_token z bytes) ∙ go (next bytes) (next_syntax bytes)
  where
    go : (r : Result Lex Fault) → IsSyntax r → goes s (listed z r) ≡ onward z (λ l. at z s l.lexeme l.start l.rest) r
    go (Ok l) e = refl
    go (Err f) e = ap (λ r. and_then r (λ s. goes s [])) (h (z - f.left)) ∙ ap (λ k. halt k (z - f.left)) (sym e)

-- ---- signs

sign_lex : (z s : ℕ) (after : State) (x : Lexeme) (start rest : List ℕ) → at z (Wants s after) x start rest ≡ onward z (λ rest. from z after rest) (if is_the s x then Ok rest else Err (syntax_at start))
unfolding goes
sign_lex z s after (Word w) start rest = refl
sign_lex z s after (Number n) start rest = refl
sign_lex z s after Text start rest = refl
sign_lex z s after (Sign t) start rest =
    elim (cases_Bool (t == s)) [
      | inl e ↦ rw e refl
      | inr e ↦ rw e refl
    ]
sign_lex z s after End start rest = refl

sign : (z s : ℕ) (after : State) (bytes : List ℕ) → from z (Wants s after) bytes ≡ onward z (λ rest. from z after rest) (sign_at s bytes)
unfolding sign_at
sign z s after bytes = chain z (next bytes) _ _ _ _ (first z (Wants s after) bytes (λ place. refl)) (λ l. sign_lex z s after l.lexeme l.start l.rest)

-- ---- what a token may be

-- the sign is no end
listed_sign : (z s : ℕ) (x : Lexeme) (rest : List ℕ) → is_the s x ≡ true → listed_behind z rest x ≡ tokens_behind z rest 0
listed_sign z s (Word w) rest e = refl
listed_sign z s (Number n) rest e = refl
listed_sign z s Text rest e = refl
listed_sign z s (Sign t) rest e = refl
listed_sign z s End rest e = absurd cc

push : {A : Type 0} (place : ℕ) (o : Option A) (f : A → Result State Halt) (ts : List Token) → and_then (wanted place o f) (λ s. goes s ts) ≡ wanted place o (λ a. and_then (f a) (λ s. goes s ts))
push place None f ts = refl
push place (Some a) f ts = refl

by_option : {A : Type 0} (z : ℕ) (s : State) (x : Lexeme) (start rest : List ℕ) (o : Lexeme → Option A) (f : A → Result State Halt)
    → step s (token z (Some x) start) ≡ wanted (z - length start) (o x) f → o End ≡ None → at z s x start rest ≡ wanted (z - length start) (o x) (λ a. and_then (f a) (λ s. from z s rest))
unfolding goes
by_option z s (Word w) start rest o f e n = ap (λ r. and_then r (λ s. from z s rest)) e ∙ push (z - length start) (o (Word w)) f (tokens_behind z rest 0)
by_option z s (Number v) start rest o f e n = ap (λ r. and_then r (λ s. from z s rest)) e ∙ push (z - length start) (o (Number v)) f (tokens_behind z rest 0)
by_option z s Text start rest o f e n = ap (λ r. and_then r (λ s. from z s rest)) e ∙ push (z - length start) (o Text) f (tokens_behind z rest 0)
by_option z s (Sign t) start rest o f e n = ap (λ r. and_then r (λ s. from z s rest)) e ∙ push (z - length start) (o (Sign t)) f (tokens_behind z rest 0)
by_option z s End start rest o f e n = ap (λ r. and_then r (λ s. goes s [])) e ∙ rw n refl

fault_or : {A B : Type 0} (z : ℕ) (start : List ℕ) (o : Option A) (k : A → Result B Fault) (g : B → Result State Halt) (f : A → Result State Halt)
    → ((a : A) → f a ≡ onward z g (k a)) → wanted (z - length start) o f ≡ onward z g (or_fault (syntax_at start) o >>= k)
fault_or z start None k g f h = refl
fault_or z start (Some a) k g f h = h a

-- ---- words

word_is : (l : Lex) → named l ≡ (or_fault (syntax_at l.start) (word_of l.lexeme) >>= λ w. Ok (record { name = w; start = l.start; rest = l.rest }))
word_is l = refl

word_lex : (z : ℕ) (s : State) (f : ℕ → List ℕ → Result State Halt) (l : Lex) → step s (token z (Some l.lexeme) l.start) ≡ wanted (z - length l.start) (word_of l.lexeme) (f (z - length l.start))
    → at z s l.lexeme l.start l.rest ≡ onward z (λ n. and_then (f (z - length n.start) n.name) (λ s. from z s n.rest)) (named l)
word_lex z s f l h =
    by_option z s l.lexeme l.start l.rest word_of (f (z - length l.start)) h refl
    ∙ fault_or z l.start (word_of l.lexeme) (λ w. Ok (record { name = w; start = l.start; rest = l.rest })) (λ n. and_then (f (z - length n.start) n.name) (λ s. from z s n.rest)) (λ w. and_then (f (z - length l.start) w) (λ s. from z s l.rest)) (λ w. refl)

word : (z : ℕ) (s : State) (f : ℕ → List ℕ → Result State Halt) (bytes : List ℕ) → ((t : Token) → step s t ≡ wanted t.place (word_in t.lexeme) (f t.place))
    → from z s bytes ≡ onward z (λ n. and_then (f (z - length n.start) n.name) (λ s. from z s n.rest)) (word_at bytes)
unfolding word_at
word z s f bytes h = chain z (next bytes) _ _ _ _ (first z s bytes (λ place. h (no_token place))) (λ l. word_lex z s f l (h (token z (Some l.lexeme) l.start)))

fresh : (z : ℕ) (h : Header) (s : State) (named : List ℕ → State) (bytes : List ℕ) → ((t : Token) → step s t ≡ wanted t.place (word_in t.lexeme) (on_name h t.place named))
    → from z s bytes ≡ onward z (λ n. from z (named n.name) n.rest) (new_name h.given bytes)
unfolding new_name
fresh z h s named bytes e = chain z (word_at bytes) _ _ _ _ (word z s (λ place. on_name h place named) bytes e) (λ n. go n)
  where
    go : (n : Name) → and_then (on_name h (z - length n.start) named n.name) (λ s. from z s n.rest) ≡ onward z (λ n. from z (named n.name) n.rest) (if is_some (h.given n.name) then Err (name_twice_at n.start) else Ok n)
    go n = elim (cases_Bool (is_some (h.given n.name))) [
      | inl t ↦ rw t refl
      | inr t ↦ rw t refl
    ]

-- ---- types

kind_is : (z : ℕ) (start rest : List ℕ) (typed : Kind → State) (o : Option Kind) → and_then (or_halt faults.UnknownType (z - length start) o (λ kind. Ok (typed kind))) (λ s. from z s rest) ≡ onward z (λ (x : Kind × List ℕ). from z (typed x.0) x.1) (or_fault (unknown_type_at start) o >>= λ kind. Ok (kind, rest))
kind_is z start rest typed None = refl
kind_is z start rest typed (Some kind) = refl

unsigned_lex : (z : ℕ) (start : List ℕ) (typed : Kind → State) (u : State) (x : Lexeme) (from_here rest : List ℕ) → ((t : Token) → step u t ≡ or_halt faults.UnknownType (z - length start) (option_and_then unsigned_type t.lexeme) (λ kind. Ok (typed kind)))
    → at z u x from_here rest ≡ onward z (λ (x : Kind × List ℕ). from z (typed x.0) x.1) (or_fault (unknown_type_at start) (unsigned_type x) >>= λ kind. Ok (kind, rest))
unfolding goes
unsigned_lex z start typed u (Word w) from_here rest h = rw (h (token z (Some (Word w)) from_here)) (kind_is z start rest typed (unsigned_kind w))
unsigned_lex z start typed u (Number n) from_here rest h = rw (h (token z (Some (Number n)) from_here)) refl
unsigned_lex z start typed u Text from_here rest h = rw (h (token z (Some Text) from_here)) refl
unsigned_lex z start typed u (Sign s) from_here rest h = rw (h (token z (Some (Sign s)) from_here)) refl
unsigned_lex z start typed u End from_here rest h = rw (h (token z (Some End) from_here)) refl

unsigned : (z : ℕ) (start bytes : List ℕ) (typed : Kind → State) (u : State) → ((t : Token) → step u t ≡ or_halt faults.UnknownType (z - length start) (option_and_then unsigned_type t.lexeme) (λ kind. Ok (typed kind)))
    → from z u bytes ≡ onward z (λ (x : Kind × List ℕ). from z (typed x.0) x.1) (unsigned_end start (next bytes))
unfolding goes
unsigned z start bytes typed u h = ap (goes u) (first_token z bytes) ∙ go (next bytes)
  where
    go : (r : Result Lex Fault) → goes u (listed z r) ≡ onward z (λ (x : Kind × List ℕ). from z (typed x.0) x.1) (unsigned_end start r)
    go (Err f) = rw (h (none_at z f.left)) refl
    go (Ok l) = unsigned_lex z start typed u l.lexeme l.start l.rest h

type : (z : ℕ) (n : Name) (typed : Kind → State) (u : State) → ((t : Token) → step u t ≡ or_halt faults.UnknownType (z - length n.start) (option_and_then unsigned_type t.lexeme) (λ kind. Ok (typed kind)))
    → and_then (on_type (z - length n.start) typed u n.name) (λ s. from z s n.rest) ≡ onward z (λ (x : Kind × List ℕ). from z (typed x.0) x.1) (type_at n)
unfolding type_at
type z n typed u h =
    elim (cases_Bool (bytes_eq n.name (codes "unsigned"))) [
      | inl t ↦ rw t (unsigned z n.start n.rest typed u h)
      | inr t ↦ rw t (kind_is z n.start n.rest typed (kind_named n.name))
    ]

-- ---- statements that give a name

value_end : (z : ℕ) (h : Header) (name : List ℕ) (value : Value) (bytes : List ℕ) → from z (given h name value) bytes ≡ onward z (λ (x : Param × List ℕ). from z (Start (with_param h x.0)) x.1) (param_end name value bytes)
unfolding param_end
value_end z h name value bytes = chain z (sign_at 59 bytes) _ _ _ _ (sign z 59 (Start (with_param h (record { name = name; value = value }))) bytes) (λ rest. refl)

-- the value of a name, by what the token may be
value_then : (z : ℕ) (h : Header) (name : List ℕ) (s : State) (o : Lexeme → Option Value) (bytes : List ℕ) → ((t : Token) → step s t ≡ wanted t.place (option_and_then o t.lexeme) (λ v. Ok (given h name v))) → o End ≡ None
    → from z s bytes ≡ onward z (λ (x : Param × List ℕ). from z (Start (with_param h x.0)) x.1) (next bytes >>= λ l. or_fault (syntax_at l.start) (o l.lexeme) >>= λ value. param_end name value l.rest)
value_then z h name s o bytes e n =
    chain z (next bytes) _ _ _ _ (first z s bytes (λ place. e (no_token place)))
    (λ l. by_option z s l.lexeme l.start l.rest o (λ v. Ok (given h name v)) (e (token z (Some l.lexeme) l.start)) n
    ∙ fault_or z l.start (o l.lexeme) (λ value. param_end name value l.rest) (λ (x : Param × List ℕ). from z (Start (with_param h x.0)) x.1) (λ v. from z (given h name v) l.rest) (λ v. value_end z h name v l.rest))

parameter : (z : ℕ) (h : Header) (bytes : List ℕ) → from z (ParamName h) bytes ≡ onward z (λ (x : Param × List ℕ). from z (Start (with_param h x.0)) x.1) (parameter_at h.given bytes)
unfolding parameter_at
parameter z h bytes =
    chain z (new_name h.given bytes) _ _ _ _ (fresh z h (ParamName h) (λ w. Wants 61 (ParamValue h w)) bytes (λ t. refl))
    (λ n. chain z (sign_at 61 n.rest) _ _ _ _ (sign z 61 (ParamValue h n.name) n.rest)
    (λ after. value_then z h n.name (ParamValue h n.name) value_of after (λ t. refl) refl))

value : (z : ℕ) (h : Header) (kind : Kind) (name : List ℕ) (bytes : List ℕ) → from z (NumberFor h kind name) bytes ≡ onward z (λ (x : Param × List ℕ). from z (Start (with_param h x.0)) x.1) (value_at kind name bytes)
unfolding value_at
value z h kind name bytes = value_then z h name (NumberFor h kind name) (number_for kind) bytes (λ t. refl) refl

size_lex : (z : ℕ) (s : State) (sized : Option ℕ → State) (x : Lexeme) (start rest : List ℕ)
    → ((t : Token) → step s t ≡ (if has 93 t.lexeme then Ok (sized None) else wanted t.place (option_and_then size_of t.lexeme) (λ n. Ok (Wants 93 (sized (Some n))))))
    → at z s x start rest ≡ onward z (λ (x : Option ℕ × List ℕ). from z (sized x.0) x.1) (if is_the 93 x then Ok (None, rest) else (or_fault (syntax_at start) (size_of x) >>= λ n. sign_at 93 rest >>= λ rest. Ok (Some n, rest)))
unfolding goes
size_lex z s sized x start rest e =
    elim (cases_Bool (is_the 93 x)) [
      | inl t ↦ rw (e (token z (Some x) start), t, listed_sign z 93 x rest t) refl
      | inr t ↦ rw t (
          by_option z s x start rest size_of (λ n. Ok (Wants 93 (sized (Some n)))) (e (token z (Some x) start) ∙ rw t refl) refl
          ∙ fault_or z start (size_of x) (λ n. sign_at 93 rest >>= λ rest. Ok (Some n, rest)) (λ (x : Option ℕ × List ℕ). from z (sized x.0) x.1) (λ n. from z (Wants 93 (sized (Some n))) rest)
          (λ n. chain z (sign_at 93 rest) _ _ _ _ (sign z 93 (sized (Some n)) rest) (λ rest. refl)))
    ]

size : (z : ℕ) (s : State) (sized : Option ℕ → State) (bytes : List ℕ)
    → ((t : Token) → step s t ≡ (if has 93 t.lexeme then Ok (sized None) else wanted t.place (option_and_then size_of t.lexeme) (λ n. Ok (Wants 93 (sized (Some n))))))
    → from z s bytes ≡ onward z (λ (x : Option ℕ × List ℕ). from z (sized x.0) x.1) (size_at bytes)
unfolding size_at
size z s sized bytes e = chain z (next bytes) _ _ _ _ (first z s bytes (λ place. e (no_token place))) (λ l. size_lex z s sized l.lexeme l.start l.rest e)

-- ---- texts and declarations

text_lex : (z : ℕ) (h : Header) (name : List ℕ) (x : Lexeme) (start rest : List ℕ) → at z (TextValue h name) x start rest ≡ onward z (λ (x : Param × List ℕ). from z (Start (with_param h x.0)) x.1) (if is_text x then param_end name values.Other rest else Err (syntax_at start))
unfolding goes
text_lex z h name (Word w) start rest = refl
text_lex z h name (Number n) start rest = refl
text_lex z h name Text start rest = value_end z h name values.Other rest
text_lex z h name (Sign t) start rest = refl
text_lex z h name End start rest = refl

text : (z : ℕ) (h : Header) (name bytes : List ℕ) → from z (TextSize h name) bytes ≡ onward z (λ (x : Param × List ℕ). from z (Start (with_param h x.0)) x.1) (text_at name bytes)
unfolding text_at
text z h name bytes =
    chain z (size_at bytes) _ _ _ _ (size z (TextSize h name) (λ o. Wants 61 (TextValue h name)) bytes (λ t. refl))
    (λ x. chain z (sign_at 61 x.1) _ _ _ _ (sign z 61 (TextValue h name) x.1)
    (λ after. chain z (next after) _ _ _ _ (first z (TextValue h name) after (λ place. refl)) (λ l. text_lex z h name l.lexeme l.start l.rest)))

declared_lex : (z : ℕ) (h : Header) (kind : Kind) (name : List ℕ) (x : Lexeme) (start rest : List ℕ)
    → at z (Named h kind name) x start rest ≡ onward z (λ (x : Param × List ℕ). from z (Start (with_param h x.0)) x.1) (if is_the 61 x then value_at kind name rest else if is_the 91 x && is_char kind then text_at name rest else Err (syntax_at start))
unfolding goes
declared_lex z h kind name (Word w) start rest = refl
declared_lex z h kind name (Number n) start rest = refl
declared_lex z h kind name Text start rest = refl
declared_lex z h kind name End start rest = refl
declared_lex z h kind name (Sign t) start rest =
    elim (cases_Bool (t == 61)) [
      | inl e ↦ rw e (value z h kind name rest)
      | inr e ↦ rw e (
          elim (cases_Bool (t == 91 && is_char kind)) [
            | inl e ↦ rw e (text z h name rest)
            | inr e ↦ rw e refl
          ])
    ]

declaration : (z : ℕ) (h : Header) (kind : Kind) (bytes : List ℕ) → from z (Typed h kind) bytes ≡ onward z (λ (x : Param × List ℕ). from z (Start (with_param h x.0)) x.1) (declaration_at kind h.given bytes)
unfolding declaration_at
declaration z h kind bytes =
    chain z (new_name h.given bytes) _ _ _ _ (fresh z h (Typed h kind) (λ w. Named h kind w) bytes (λ t. refl))
    (λ n. chain z (next n.rest) _ _ _ _ (first z (Named h kind n.name) n.rest (λ place. refl)) (λ l. declared_lex z h kind n.name l.lexeme l.start l.rest))

-- ---- items

wide : (z : ℕ) (row : Row) (kind : Kind) (n : Name) (count : ℕ) (is_array : Bool) (f : Row → Result State Halt)
    → or_halt faults.TooWide (z - length n.start) (widened row kind n.name count is_array) f ≡ onward z f (with_field row kind n count is_array)
unfolding with_field
wide z row kind n count is_array f =
    elim (cases_Bool (nat_lt max_row_bytes (row.width + bytes_of kind * count))) [
      | inl e ↦ rw e refl
      | inr e ↦ rw e refl
    ]

push_wide : {A : Type 0} (kind : FaultKind) (place : ℕ) (o : Option A) (f : A → Result State Halt) (ts : List Token) → and_then (or_halt kind place o f) (λ s. goes s ts) ≡ or_halt kind place o (λ a. and_then (f a) (λ s. goes s ts))
push_wide kind place None f ts = refl
push_wide kind place (Some a) f ts = refl

array : (z : ℕ) (h : Header) (row : Row) (kind : Kind) (n : Name) (bytes : List ℕ) → from z (Length h row kind n.name (z - length n.start)) bytes ≡ onward z (λ (x : Row × List ℕ). from z (ItemEnd h x.0 kind) x.1) (array_at row kind n bytes)
unfolding array_at
array z h row kind n bytes =
    chain z (next bytes) _ _ _ _ (first z (Length h row kind n.name (z - length n.start)) bytes (λ place. refl))
    (λ l. by_option z (Length h row kind n.name (z - length n.start)) l.lexeme l.start l.rest length_of (λ count. or_halt faults.TooWide (z - length n.start) (widened row kind n.name count true) (λ wider. Ok (Wants 93 (ItemEnd h wider kind)))) refl refl
    ∙ fault_or z l.start (length_of l.lexeme) (λ count. with_field row kind n count true >>= λ wider. sign_at 93 l.rest >>= λ rest. Ok (wider, rest)) (λ (x : Row × List ℕ). from z (ItemEnd h x.0 kind) x.1) (λ count. and_then (or_halt faults.TooWide (z - length n.start) (widened row kind n.name count true) (λ wider. Ok (Wants 93 (ItemEnd h wider kind)))) (λ s. from z s l.rest))
    (λ count. push_wide faults.TooWide (z - length n.start) (widened row kind n.name count true) (λ wider. Ok (Wants 93 (ItemEnd h wider kind))) (tokens_behind z l.rest 0)
    ∙ chain z (with_field row kind n count true) _ (λ wider. from z (Wants 93 (ItemEnd h wider kind)) l.rest) _ _ (wide z row kind n count true (λ wider. from z (Wants 93 (ItemEnd h wider kind)) l.rest))
    (λ wider. chain z (sign_at 93 l.rest) _ _ _ _ (sign z 93 (ItemEnd h wider kind) l.rest) (λ rest. refl))))

-- an item without a length ends where the next token is no bracket
plain_wide : (z : ℕ) (h : Header) (kind : Kind) (place : ℕ) (t : Token) (ts : List Token) (o : Option Row) → and_then (or_halt faults.TooWide place o (λ wider. on_item_end h wider kind t)) (λ s. goes s ts) ≡ or_halt faults.TooWide place o (λ wider. goes (ItemEnd h wider kind) (t ∷ ts))
unfolding goes
plain_wide z h kind place t ts None = refl
plain_wide z h kind place t ts (Some wider) = refl

plain : (z : ℕ) (h : Header) (row : Row) (kind : Kind) (n : Name) (t : Token) (ts : List Token) → has 91 t.lexeme ≡ false → tokens_behind z n.rest 0 ≡ t ∷ ts
    → goes (ItemName h row kind n.name (z - length n.start)) (t ∷ ts) ≡ onward z (λ (x : Row × List ℕ). from z (ItemEnd h x.0 kind) x.1) (with_field row kind n 1 false >>= λ wider. Ok (wider, n.rest))
unfolding goes
plain z h row kind n t ts isnt e =
    rw isnt (
    plain_wide z h kind (z - length n.start) t ts (widened row kind n.name 1 false)
    ∙ chain z (with_field row kind n 1 false) _ (λ wider. goes (ItemEnd h wider kind) (t ∷ ts)) _ _ (wide z row kind n 1 false (λ wider. goes (ItemEnd h wider kind) (t ∷ ts)))
    (λ wider. ap (goes (ItemEnd h wider kind)) (sym e)))

bracket : (z : ℕ) (h : Header) (row : Row) (kind : Kind) (n : Name) (r : Result Lex Fault) → tokens_behind z n.rest 0 ≡ listed z r
    → goes (ItemName h row kind n.name (z - length n.start)) (listed z r) ≡ onward z (λ (x : Row × List ℕ). from z (ItemEnd h x.0 kind) x.1) (or_here (bracket_in r) (with_field row kind n 1 false >>= λ wider. Ok (wider, n.rest)) (array_at row kind n))
unfolding goes
bracket z h row kind n (Err f) e = plain z h row kind n (none_at z f.left) [] refl e
bracket z h row kind n (Ok l) e =
    elim (cases_Bool (is_the 91 l.lexeme)) [
      | inl t ↦ rw (t, listed_sign z 91 l.lexeme l.rest t) (array z h row kind n l.rest)
      | inr t ↦ plain z h row kind n (token z (Some l.lexeme) l.start) (listed_behind z l.rest l.lexeme) t e ∙ rw t refl
    ]

named_item : (z : ℕ) (h : Header) (row : Row) (kind : Kind) (n : Name)
    → and_then (on_item h row kind (z - length n.start) n.name) (λ s. from z s n.rest) ≡ onward z (λ (x : Row × List ℕ). from z (ItemEnd h x.0 kind) x.1) (if has_field n.name row.fields then Err (name_twice_at n.start) else if length row.fields == max_columns then Err (too_wide_at n.start) else or_here (bracket_in (next n.rest)) (with_field row kind n 1 false >>= λ wider. Ok (wider, n.rest)) (array_at row kind n))
named_item z h row kind n =
    elim (cases_Bool (has_field n.name row.fields)) [
      | inl t ↦ rw t refl
      | inr t ↦ rw t (
          elim (cases_Bool (length row.fields == max_columns)) [
            | inl t ↦ rw t refl
            | inr t ↦ rw t (ap (goes (ItemName h row kind n.name (z - length n.start))) (first_token z n.rest) ∙ bracket z h row kind n (next n.rest) (first_token z n.rest))
          ])
    ]

item : (z : ℕ) (h : Header) (row : Row) (kind : Kind) (bytes : List ℕ) → from z (Item h row kind) bytes ≡ onward z (λ (x : Row × List ℕ). from z (ItemEnd h x.0 kind) x.1) (item_at row kind bytes)
unfolding item_at
item z h row kind bytes = chain z (word_at bytes) _ _ _ _ (word z (Item h row kind) (on_item h row kind) bytes (λ t. refl)) (λ n. named_item z h row kind n)

-- ---- lists of items, field lines and statements

chain_less : {A B : Type 0} (z n : ℕ) (v : A → List ℕ) (m : Result A Fault) (k : A → Result B Fault) (g : A → Result State Halt) (g' : B → Result State Halt) (r : Result State Halt)
    → Under n v m → r ≡ onward z g m → ((a : A) → length (v a) < n → g a ≡ onward z g' (k a)) → r ≡ onward z g' (m >>= k)
chain_less z n v (Ok a) k g g' r less e h = e ∙ h a less
chain_less z n v (Err f) k g g' r less e h = e

chain_next : {B : Type 0} (z : ℕ) (bytes : List ℕ) (k : Lex → Result B Fault) (g : Lex → Result State Halt) (g' : B → Result State Halt) (r : Result State Halt)
    → r ≡ onward z g (next bytes) → ((l : Lex) → ((l.lexeme ≡ End → ⊥) → length l.rest < length bytes) → g l ≡ onward z g' (k l)) → r ≡ onward z g' (next bytes >>= k)
chain_next z bytes k g g' r e h = go (next bytes) (next_less bytes) e
  where
    go : (m : Result Lex Fault) → LeavesLess (length bytes) m → r ≡ onward z g m → r ≡ onward z g' (m >>= k)
    go (Ok l) less e = e ∙ h l less
    go (Err f) less e = e

sign_no_end : (s : ℕ) (x : Lexeme) → is_the s x ≡ true → x ≡ End → ⊥
sign_no_end s x e is = (let h : is_the s x ≡ false = ap (is_the s) is in absurd cc)

item_end_lex : (z : ℕ) (h : Header) (row : Row) (kind : Kind) (l : Lex) (total : Result (Row × List ℕ) Fault)
    → (is_the 44 l.lexeme ≡ true → from z (Item h row kind) l.rest ≡ onward z (λ (x : Row × List ℕ). from z (Fields h x.0) x.1) total)
    → at z (ItemEnd h row kind) l.lexeme l.start l.rest ≡ onward z (λ (x : Row × List ℕ). from z (Fields h x.0) x.1) (if is_the 59 l.lexeme then Ok (row, l.rest) else if is_the 44 l.lexeme then total else Err (syntax_at l.start))
unfolding goes
item_end_lex z h row kind l total ih =
    elim (cases_Bool (is_the 59 l.lexeme)) [
      | inl t ↦ rw (t, listed_sign z 59 l.lexeme l.rest t) refl
      | inr f ↦
          elim (cases_Bool (is_the 44 l.lexeme)) [
            | inl t ↦ rw (f, t, listed_sign z 44 l.lexeme l.rest t) (ih t)
            | inr g ↦ rw (f, g) refl
          ]
    ]

items : (n z : ℕ) (h : Header) (kind : Kind) (row : Row) (bytes : List ℕ) → length bytes < n → from z (Item h row kind) bytes ≡ onward z (λ (x : Row × List ℕ). from z (Fields h x.0) x.1) (items_at n kind row bytes)
unfolding items_at
items zero z h kind row bytes lt = absurd (omega arith)
items (suc n) z h kind row bytes lt =
    chain_less z (length bytes) (λ (x : Row × List ℕ). x.1) (item_at row kind bytes) _ _ _ _ (item_less (length bytes) row kind bytes (omega arith)) (item z h row kind bytes) (λ one less.
    chain_next z one.1 _ _ _ _ (first z (ItemEnd h one.0 kind) one.1 (λ place. refl)) (λ l fewer.
    item_end_lex z h one.0 kind l (items_at n kind one.0 l.rest) (λ e. (let after = fewer (sign_no_end 44 l.lexeme e) in items n z h kind one.0 l.rest (omega (arith, after, less, lt))))))

line : (z : ℕ) (h : Header) (row : Row) (l : Lex) → is_the 125 l.lexeme ≡ false → at z (Fields h row) l.lexeme l.start l.rest ≡ onward z (λ (x : Row × List ℕ). from z (Fields h x.0) x.1) (line_at row l)
unfolding line_at
line z h row l isnt =
    chain z (named l) _ _ _ _ (word_lex z (Fields h row) (λ place. on_type place (Item h row) (FieldUnsigned h row place)) l (rw isnt refl)) (λ n.
    chain z (type_at n) _ _ _ _ (type z n (Item h row) (FieldUnsigned h row (z - length n.start)) (λ t. refl)) (λ kind.
    items (suc (length kind.1)) z h kind.0 row kind.1 (omega arith)))

fields_lex : (z : ℕ) (h : Header) (row : Row) (l : Lex) (k : Row × List ℕ → Result (Row × List ℕ) Fault)
    → (is_the 125 l.lexeme ≡ false → at z (Fields h row) l.lexeme l.start l.rest ≡ onward z (λ (x : Row × List ℕ). from z (Wants 91 (StructSize h x.0)) x.1) (line_at row l >>= k))
    → at z (Fields h row) l.lexeme l.start l.rest ≡ onward z (λ (x : Row × List ℕ). from z (Wants 91 (StructSize h x.0)) x.1) (if is_the 125 l.lexeme then Ok (row, l.rest) else (line_at row l >>= k))
unfolding goes
fields_lex z h row l k other =
    elim (cases_Bool (is_the 125 l.lexeme)) [
      | inl t ↦ rw (t, listed_sign z 125 l.lexeme l.rest t) refl
      | inr f ↦ other f ∙ rw f refl
    ]

lines : (n z : ℕ) (h : Header) (row : Row) (bytes : List ℕ) → length bytes < n → from z (Fields h row) bytes ≡ onward z (λ (x : Row × List ℕ). from z (Wants 91 (StructSize h x.0)) x.1) (lines_at n row bytes)
unfolding lines_at
lines zero z h row bytes lt = absurd (omega arith)
lines (suc n) z h row bytes lt =
    chain_next z bytes _ _ _ _ (first z (Fields h row) bytes (λ place. refl)) (λ l less.
    fields_lex z h row l _ (λ isnt.
    chain_less z (length bytes) (λ (x : Row × List ℕ). x.1) (line_at row l) _ _ _ _ (line_less (length bytes) row l less) (line z h row l isnt) (λ one less.
    lines n z h one.0 one.1 (omega arith))))

struct : (z : ℕ) (h : Header) (bytes : List ℕ) → from z (Wants 123 (Fields h no_fields)) bytes ≡ onward z (λ (x : Struct × List ℕ). from z (Start (with_struct h x.0)) x.1) (struct_at bytes)
unfolding struct_at
struct z h bytes =
    chain z (sign_at 123 bytes) _ _ _ _ (sign z 123 (Fields h no_fields) bytes) (λ inside.
    chain z (lines_at (suc (length inside)) no_fields inside) _ _ _ _ (lines (suc (length inside)) z h no_fields inside (omega arith)) (λ row.
    chain z (sign_at 91 row.1) _ _ _ _ (sign z 91 (StructSize h row.0) row.1) (λ bracket.
    chain z (size_at bracket) _ _ _ _ (size z (StructSize h row.0) (closed h row.0) bracket (λ t. refl)) (λ size.
    chain z (sign_at 59 size.1) _ _ _ _ (sign z 59 (Start (with_struct h (record { row = row.0; size = size.0 }))) size.1) (λ rest. refl)))))

abbrev then_start : ℕ → Header × List ℕ → Result State Halt
then_start z x = from z (Start x.0) x.1

named_statement : (z : ℕ) (h : Header) (n : Name) → and_then (on_statement h (z - length n.start) n.name) (λ s. from z s n.rest) ≡ onward z (then_start z) (
    if bytes_eq n.name (codes "parameter") then (parameter_at h.given n.rest >>= λ p. Ok (with_param h p.0, p.1))
    else if bytes_eq n.name (codes "struct") then
    (if is_some h.table then Err (second_struct_at n.start) else (struct_at n.rest >>= λ t. Ok (with_struct h t.0, t.1)))
    else (type_at n >>= λ kind. declaration_at kind.0 h.given kind.1 >>= λ p. Ok (with_param h p.0, p.1)))
named_statement z h n =
    elim (cases_Bool (bytes_eq n.name (codes "parameter"))) [
      | inl t ↦ rw t (chain z (parameter_at h.given n.rest) _ _ _ _ (parameter z h n.rest) (λ p. refl))
      | inr f ↦
          elim (cases_Bool (bytes_eq n.name (codes "struct"))) [
            | inl t ↦
                elim (cases_Bool (is_some h.table)) [
                  | inl u ↦ rw (f, t, u) refl
                  | inr u ↦ rw (f, t, u) (chain z (struct_at n.rest) _ _ _ _ (struct z h n.rest) (λ t. refl))
                ]
            | inr t ↦ rw (f, t) (chain z (type_at n) _ _ _ _ (type z n (Typed h) (Unsigned h (z - length n.start)) (λ t. refl)) (λ kind.
                chain z (declaration_at kind.0 h.given kind.1) _ _ _ _ (declaration z h kind.0 kind.1) (λ p. refl)))
          ]
    ]

statement : (z : ℕ) (h : Header) (l : Lex) → is_end l.lexeme ≡ false → at z (Start h) l.lexeme l.start l.rest ≡ onward z (then_start z) (statement_at h l)
unfolding statement_at
statement z h l isnt = chain z (named l) _ _ _ _ (word_lex z (Start h) (on_statement h) l (rw isnt refl)) (λ n. named_statement z h n)

-- the run is over, with this header
abbrev pub done : Header → Result State Halt
done h = Ok (Done h)

end_lex : (z : ℕ) (h : Header) (x : Lexeme) (start rest : List ℕ) → is_end x ≡ true → at z (Start h) x start rest ≡ done h
unfolding goes
end_lex z h (Word w) start rest e = absurd cc
end_lex z h (Number n) start rest e = absurd cc
end_lex z h Text start rest e = absurd cc
end_lex z h (Sign s) start rest e = absurd cc
end_lex z h End start rest e = refl

no_end : (x : Lexeme) → is_end x ≡ false → x ≡ End → ⊥
no_end x e is = (let h : is_end x ≡ true = ap is_end is in absurd cc)

start_lex : (z : ℕ) (h : Header) (l : Lex) (k : Header × List ℕ → Result Header Fault)
    → (is_end l.lexeme ≡ false → at z (Start h) l.lexeme l.start l.rest ≡ onward z done (statement_at h l >>= k))
    → at z (Start h) l.lexeme l.start l.rest ≡ onward z done (if is_end l.lexeme then Ok h else (statement_at h l >>= k))
start_lex z h l k other =
    elim (cases_Bool (is_end l.lexeme)) [
      | inl t ↦ end_lex z h l.lexeme l.start l.rest t ∙ rw t refl
      | inr f ↦ other f ∙ rw f refl
    ]

statements : (n z : ℕ) (h : Header) (bytes : List ℕ) → length bytes < n → from z (Start h) bytes ≡ onward z done (statements_at n h bytes)
unfolding statements_at
statements zero z h bytes lt = absurd (omega arith)
statements (suc n) z h bytes lt =
    chain_next z bytes _ _ _ _ (first z (Start h) bytes (λ place. refl)) (λ l less.
    start_lex z h l _ (λ isnt.
    chain_less z (length bytes) (λ (x : Header × List ℕ). x.1) (statement_at h l) _ _ _ _ (statement_less (length bytes) h l less) (statement z h l isnt) (λ one less.
    statements n z one.0 one.1 (omega arith))))

-- the header of a text is what its tokens lead to
pub header_goes : (z : ℕ) (text : List ℕ) → goes (Start nothing_given) (tokens_behind z text 0) ≡ onward z done (header_in text)
unfolding header_in
header_goes z text = statements (suc (length text)) z nothing_given text (omega arith)
