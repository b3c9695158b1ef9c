-- What is read leaves fewer bytes.
use Rattle.std.proofs.Common.{◌≡◌, ℕ, zero, suc, ◌<◌, ◌≤◌, Bool, true, false, ◌&&◌, inl, inr, List, length, Option, Some, None, Result, Ok, Err, refl, sym, ap, ◌∙◌, arith}
use Rattle.std.specs.Prelude.{if◌then◌else◌, is_some, codes, ◌==◌}
use Rattle.std.specs.Str.{bytes_eq}
use Rattle.std.proofs.lemmas.Bool.{cases_Bool}
use Rattle.hot_units.specs.Limits.{max_columns}
use Rattle.sdf_tokens.specs.declared.fault.Fault.{Fault}
use Rattle.sdf_header.specs.declared.kind.Kind.{Kind}
use Rattle.sdf_header.specs.declared.document.Value.{Value}
use Rattle.sdf_header.specs.declared.document.Value.TheVariants as values
use Rattle.sdf_tokens.specs.Tokens.{Lexeme, End, Lex, next, syntax_at, ◌>>=◌, or_here}
use Rattle.sdf_header.specs.Types.{kind_named, is_char}
use Rattle.sdf_header.specs.Parts.{or_fault, is_the, sign_at, Name, word_of, named, word_at, Names, new_name, size_of, size_at, unsigned_type, unsigned_end, unknown_type_at, name_twice_at, type_at}
use Rattle.sdf_header.specs.Fields.{Row, Struct, has_field, with_field, length_of, array_at, bracket_in, item_at, items_at, line_at, lines_at, no_fields, struct_at}
use Rattle.sdf_header.specs.Statements.{Header, Param, value_of, number_for, is_text, param_end, parameter_at, text_at, value_at, declaration_at, statement_at}
use Rattle.header_grammar.proofs.TokenList.{LeavesLess, next_less}

-- fewer than so many bytes are left
abbrev pub Under : {A : Type 0} → ℕ → (A → List ℕ) → Result A Fault → Type 0
Under n v (Ok a) = length (v a) < n
Under n v (Err f) = Unit {0}

chain : {A B : Type 0} (n : ℕ) (m : Result A Fault) (v : A → List ℕ) (k : A → Result B Fault) (w : B → List ℕ) → Under n v m → ((a : A) → length (v a) < n → Under n w (k a)) → Under n w (m >>= k)
chain n (Ok a) v k w lt h = h a lt
chain n (Err f) v k w lt h = tt

whatever : {A B : Type 0} (n : ℕ) (m : Result A Fault) (k : A → Result B Fault) (w : B → List ℕ) → ((a : A) → Under n w (k a)) → Under n w (m >>= k)
whatever n (Ok a) k w h = h a
whatever n (Err f) k w h = tt

wider : {A : Type 0} (m n : ℕ) (r : Result A Fault) (v : A → List ℕ) → m ≤ n → Under m v r → Under n v r
wider m n (Ok a) v le lt = omega arith
wider m n (Err f) v le lt = tt

chosen : {A : Type 0} (n : ℕ) (b : Bool) (x y : Result A Fault) (v : A → List ℕ) → (b ≡ true → Under n v x) → (b ≡ false → Under n v y) → Under n v (if b then x else y)
chosen n true x y v h k = h refl
chosen n false x y v h k = k refl

token_then : {A : Type 0} (n : ℕ) (bytes : List ℕ) (k : Lex → Result A Fault) (w : A → List ℕ) → length bytes ≤ n → ((l : Lex) → ((l.lexeme ≡ End → ⊥) → length l.rest < n) → Under n w (k l)) → Under n w (next bytes >>= k)
token_then n bytes k w le h = go (next bytes) (next_less bytes)
  where
    go : (r : Result Lex Fault) → LeavesLess (length bytes) r → Under n w (r >>= k)
    go (Ok l) less = h l (λ e. (let lt = less e in omega (arith, lt)))
    go (Err f) less = tt

sign_not_end : (s : ℕ) (x : Lexeme) → is_the s x ≡ true → x ≡ End → ⊥
sign_not_end s x e is = (let h : is_the s x ≡ false = ap (is_the s) is in absurd cc)

is_none : {A : Type 0} → (a : A) → ◌≡◌ {A = Option A} (Some a) None → ⊥
is_none a e = absurd cc

option_then : {A B : Type 0} (n : ℕ) (l : Lex) (f : Fault) (o : Lexeme → Option A) (k : A → Result B Fault) (w : B → List ℕ) → o End ≡ None → ((l.lexeme ≡ End → ⊥) → length l.rest < n) → ((a : A) → length l.rest < n → Under n w (k a)) → Under n w (or_fault f (o l.lexeme) >>= k)
option_then n l f o k w none less h = go (o l.lexeme) refl
  where
    go : (x : Option _) → o l.lexeme ≡ x → Under n w (or_fault f x >>= k)
    go None e = tt
    go (Some a) e = h a (less (λ is. is_none a (sym e ∙ ap o is ∙ none)))

-- behind a sign fewer bytes are left
pub sign_less : (n s : ℕ) (bytes : List ℕ) → length bytes ≤ n → Under n (λ rest. rest) (sign_at s bytes)
unfolding sign_at
sign_less n s bytes le = token_then n bytes _ (λ rest. rest) le (λ l less. chosen n (is_the s l.lexeme) (Ok l.rest) (Err (syntax_at l.start)) (λ rest. rest) (λ e. less (sign_not_end s l.lexeme e)) (λ e. tt))

sign_then : {A : Type 0} (n s : ℕ) (bytes : List ℕ) (k : List ℕ → Result A Fault) (w : A → List ℕ) → length bytes ≤ n → ((rest : List ℕ) → length rest < n → Under n w (k rest)) → Under n w (sign_at s bytes >>= k)
sign_then n s bytes k w le h = chain n (sign_at s bytes) (λ rest. rest) k w (sign_less n s bytes le) h

-- behind a word fewer bytes are left
pub word_less : (n : ℕ) (bytes : List ℕ) → length bytes ≤ n → Under n (λ (x : Name). x.rest) (word_at bytes)
unfolding word_at
word_less n bytes le = token_then n bytes named (λ (x : Name). x.rest) le (λ l less. option_then n l (syntax_at l.start) word_of (λ w. Ok (record { name = w; start = l.start; rest = l.rest })) (λ (x : Name). x.rest) refl less (λ w lt. lt))

name_less : (n : ℕ) (given : Names) (bytes : List ℕ) → length bytes ≤ n → Under n (λ (x : Name). x.rest) (new_name given bytes)
unfolding new_name
name_less n given bytes le = chain n (word_at bytes) (λ (x : Name). x.rest) _ (λ (x : Name). x.rest) (word_less n bytes le) (λ x lt. chosen n (is_some (given x.name)) (Err (name_twice_at x.start)) (Ok x) (λ (x : Name). x.rest) (λ e. tt) (λ e. lt))

-- behind a type fewer bytes are left
pub type_less : (n : ℕ) (x : Name) → length x.rest < n → Under n (λ (y : Kind × List ℕ). y.1) (type_at x)
unfolding type_at
type_less n x lt = chosen n (bytes_eq x.name (codes "unsigned")) (unsigned_end x.start (next x.rest)) (or_fault (unknown_type_at x.start) (kind_named x.name) >>= λ kind. Ok (kind, x.rest)) (λ (y : Kind × List ℕ). y.1)
    (λ e. go (next x.rest) (next_less x.rest))
    (λ e. whatever n (or_fault (unknown_type_at x.start) (kind_named x.name)) (λ kind. Ok (kind, x.rest)) (λ (y : Kind × List ℕ). y.1) (λ kind. lt))
  where
    go : (r : Result Lex Fault) → LeavesLess (length x.rest) r → Under n (λ (y : Kind × List ℕ). y.1) (unsigned_end x.start r)
    go (Err f) less = tt
    go (Ok l) less = option_then n l (unknown_type_at x.start) unsigned_type (λ kind. Ok (kind, l.rest)) (λ (y : Kind × List ℕ). y.1) refl (λ e. (let h = less e in omega (arith, h))) (λ kind lt. lt)

size_less : (n : ℕ) (bytes : List ℕ) → length bytes ≤ n → Under n (λ (y : Option ℕ × List ℕ). y.1) (size_at bytes)
unfolding size_at
size_less n bytes le = token_then n bytes _ (λ (y : Option ℕ × List ℕ). y.1) le (λ l less.
    chosen n (is_the 93 l.lexeme) (Ok (None, l.rest)) (or_fault (syntax_at l.start) (size_of l.lexeme) >>= λ x. sign_at 93 l.rest >>= λ rest. Ok (Some x, rest)) (λ (y : Option ℕ × List ℕ). y.1)
    (λ e. less (sign_not_end 93 l.lexeme e))
    (λ e. option_then n l (syntax_at l.start) size_of (λ x. sign_at 93 l.rest >>= λ rest. Ok (Some x, rest)) (λ (y : Option ℕ × List ℕ). y.1) refl less
    (λ x lt. sign_then n 93 l.rest (λ rest. Ok (Some x, rest)) (λ (y : Option ℕ × List ℕ). y.1) (omega arith) (λ rest lt. lt))))

abbrev behind_param : Param × List ℕ → List ℕ
behind_param y = y.1

end_less : (n : ℕ) (name : List ℕ) (value : Value) (bytes : List ℕ) → length bytes ≤ n → Under n behind_param (param_end name value bytes)
unfolding param_end
end_less n name value bytes le = sign_then n 59 bytes _ behind_param le (λ rest lt. lt)

value_then_less : (n : ℕ) (name bytes : List ℕ) (o : Lexeme → Option Value) → o End ≡ None → length bytes ≤ n → Under n behind_param (next bytes >>= λ l. or_fault (syntax_at l.start) (o l.lexeme) >>= λ value. param_end name value l.rest)
value_then_less n name bytes o none le = token_then n bytes _ behind_param le (λ l less. option_then n l (syntax_at l.start) o (λ value. param_end name value l.rest) behind_param none less (λ value lt. end_less n name value l.rest (omega arith)))

parameter_less : (n : ℕ) (given : Names) (bytes : List ℕ) → length bytes ≤ n → Under n behind_param (parameter_at given bytes)
unfolding parameter_at
parameter_less n given bytes le =
    chain n (new_name given bytes) (λ (x : Name). x.rest) _ behind_param (name_less n given bytes le) (λ x lt.
    sign_then n 61 x.rest _ behind_param (omega arith) (λ after lt. value_then_less n x.name after value_of refl (omega arith)))

text_less : (n : ℕ) (name bytes : List ℕ) → length bytes ≤ n → Under n behind_param (text_at name bytes)
unfolding text_at
text_less n name bytes le =
    chain n (size_at bytes) (λ (y : Option ℕ × List ℕ). y.1) _ behind_param (size_less n bytes le) (λ x lt.
    sign_then n 61 x.1 _ behind_param (omega arith) (λ after lt.
    token_then n after _ behind_param (omega arith) (λ l less.
    chosen n (is_text l.lexeme) (param_end name values.Other l.rest) (Err (syntax_at l.start)) behind_param (λ e. (let lt = less (text_not_end l.lexeme e) in end_less n name values.Other l.rest (omega (arith, lt)))) (λ e. tt))))
  where
    text_not_end : (x : Lexeme) → is_text x ≡ true → x ≡ End → ⊥
    text_not_end x e is = (let h : is_text x ≡ false = ap is_text is in absurd cc)

declaration_less : (n : ℕ) (kind : Kind) (given : Names) (bytes : List ℕ) → length bytes ≤ n → Under n behind_param (declaration_at kind given bytes)
unfolding declaration_at value_at
declaration_less n kind given bytes le =
    chain n (new_name given bytes) (λ (x : Name). x.rest) _ behind_param (name_less n given bytes le) (λ x lt.
    token_then n x.rest _ behind_param (omega arith) (λ l less.
    chosen n (is_the 61 l.lexeme) _ _ behind_param
    (λ e. (let lt = less (sign_not_end 61 l.lexeme e) in value_then_less n x.name l.rest (number_for kind) refl (omega (arith, lt))))
    (λ e. chosen n (is_the 91 l.lexeme && is_char kind) (text_at x.name l.rest) (Err (syntax_at l.start)) behind_param
    (λ e. (let lt = less (sign_not_end 91 l.lexeme (left (is_the 91 l.lexeme) (is_char kind) e)) in text_less n x.name l.rest (omega (arith, lt))))
    (λ e. tt))))
  where
    left : (a b : Bool) → (a && b) ≡ true → a ≡ true
    left true b e = refl
    left false b e = absurd cc

-- ---- the struct

abbrev behind_row : Row × List ℕ → List ℕ
behind_row y = y.1

array_less : (n : ℕ) (row : Row) (kind : Kind) (x : Name) (bytes : List ℕ) → length bytes ≤ n → Under n behind_row (array_at row kind x bytes)
unfolding array_at
array_less n row kind x bytes le =
    token_then n bytes _ behind_row le (λ l less.
    option_then n l (syntax_at l.start) length_of _ behind_row refl less (λ count lt.
    whatever n (with_field row kind x count true) _ behind_row (λ wide.
    sign_then n 93 l.rest _ behind_row (omega arith) (λ rest lt. lt))))

bracket_less : (n : ℕ) (row : Row) (kind : Kind) (x : Name) (r : Result Lex Fault) → length x.rest < n → LeavesLess (length x.rest) r → Under n behind_row (or_here (bracket_in r) (with_field row kind x 1 false >>= λ wide. Ok (wide, x.rest)) (array_at row kind x))
bracket_less n row kind x (Err f) lt less = whatever n (with_field row kind x 1 false) _ behind_row (λ wide. lt)
bracket_less n row kind x (Ok l) lt less =
    elim (cases_Bool (is_the 91 l.lexeme)) [
      | inl e ↦ (let h = less (sign_not_end 91 l.lexeme e) in rw e (array_less n row kind x l.rest (omega (arith, h))))
      | inr e ↦ rw e (whatever n (with_field row kind x 1 false) _ behind_row (λ wide. lt))
    ]

-- behind an item fewer bytes are left
pub item_less : (n : ℕ) (row : Row) (kind : Kind) (bytes : List ℕ) → length bytes ≤ n → Under n behind_row (item_at row kind bytes)
unfolding item_at
item_less n row kind bytes le =
    chain n (word_at bytes) (λ (x : Name). x.rest) _ behind_row (word_less n bytes le) (λ x lt.
    chosen n (has_field x.name row.fields) _ _ behind_row (λ e. tt) (λ e.
    chosen n (length row.fields == max_columns) _ _ behind_row (λ e. tt) (λ e.
    bracket_less n row kind x (next x.rest) lt (next_less x.rest))))

-- behind the items of a line fewer bytes are left
pub items_less : (fuel n : ℕ) (kind : Kind) (row : Row) (bytes : List ℕ) → length bytes < n → Under n behind_row (items_at fuel kind row bytes)
unfolding items_at
items_less zero n kind row bytes lt = lt
items_less (suc fuel) n kind row bytes lt =
    chain n (item_at row kind bytes) behind_row _ behind_row (item_less n row kind bytes (omega arith)) (λ one lt.
    token_then n one.1 _ behind_row (omega arith) (λ l less.
    chosen n (is_the 59 l.lexeme) _ _ behind_row (λ e. less (sign_not_end 59 l.lexeme e)) (λ e.
    chosen n (is_the 44 l.lexeme) _ _ behind_row (λ e. (let lt = less (sign_not_end 44 l.lexeme e) in items_less fuel n kind one.0 l.rest lt)) (λ e. tt))))

-- behind a field line fewer bytes are left
pub line_less : (n : ℕ) (row : Row) (l : Lex) → ((l.lexeme ≡ End → ⊥) → length l.rest < n) → Under n behind_row (line_at row l)
unfolding line_at
line_less n row l less =
    chain n (named l) (λ (x : Name). x.rest) _ behind_row (option_then n l (syntax_at l.start) word_of (λ w. Ok (record { name = w; start = l.start; rest = l.rest })) (λ (x : Name). x.rest) refl less (λ w lt. lt)) (λ x lt.
    chain n (type_at x) (λ (y : Kind × List ℕ). y.1) _ behind_row (type_less n x lt) (λ y lt. items_less (suc (length y.1)) n y.0 row y.1 lt))

-- behind the field lines fewer bytes are left
pub lines_less : (fuel n : ℕ) (row : Row) (bytes : List ℕ) → length bytes < n → Under n behind_row (lines_at fuel row bytes)
unfolding lines_at
lines_less zero n row bytes lt = lt
lines_less (suc fuel) n row bytes lt =
    token_then n bytes _ behind_row (omega arith) (λ l less.
    chosen n (is_the 125 l.lexeme) _ _ behind_row (λ e. less (sign_not_end 125 l.lexeme e)) (λ e.
    chain n (line_at row l) behind_row _ behind_row (line_less n row l less) (λ one lt. lines_less fuel n one.0 one.1 lt)))

struct_less : (n : ℕ) (bytes : List ℕ) → length bytes ≤ n → Under n (λ (y : Struct × List ℕ). y.1) (struct_at bytes)
unfolding struct_at
struct_less n bytes le =
    sign_then n 123 bytes _ (λ (y : Struct × List ℕ). y.1) le (λ inside lt.
    chain n (lines_at (suc (length inside)) no_fields inside) behind_row _ (λ (y : Struct × List ℕ). y.1) (lines_less (suc (length inside)) n no_fields inside lt) (λ row lt.
    sign_then n 91 row.1 _ (λ (y : Struct × List ℕ). y.1) (omega arith) (λ bracket lt.
    chain n (size_at bracket) (λ (y : Option ℕ × List ℕ). y.1) _ (λ (y : Struct × List ℕ). y.1) (size_less n bracket (omega arith)) (λ size lt.
    sign_then n 59 size.1 _ (λ (y : Struct × List ℕ). y.1) (omega arith) (λ rest lt. lt)))))

-- behind a statement fewer bytes are left
pub statement_less : (n : ℕ) (h : Header) (l : Lex) → ((l.lexeme ≡ End → ⊥) → length l.rest < n) → Under n (λ (y : Header × List ℕ). y.1) (statement_at h l)
unfolding statement_at
statement_less n h l less =
    chain n (named l) (λ (x : Name). x.rest) _ (λ (y : Header × List ℕ). y.1) (option_then n l (syntax_at l.start) word_of (λ w. Ok (record { name = w; start = l.start; rest = l.rest })) (λ (x : Name). x.rest) refl less (λ w lt. lt)) (λ x lt.
    chosen n (bytes_eq x.name (codes "parameter")) _ _ (λ (y : Header × List ℕ). y.1)
    (λ e. chain n (parameter_at h.given x.rest) behind_param _ (λ (y : Header × List ℕ). y.1) (parameter_less n h.given x.rest (omega arith)) (λ p lt. lt))
    (λ e. chosen n (bytes_eq x.name (codes "struct")) _ _ (λ (y : Header × List ℕ). y.1)
    (λ e. chosen n (is_some h.table) _ _ (λ (y : Header × List ℕ). y.1) (λ e. tt)
    (λ e. chain n (struct_at x.rest) (λ (y : Struct × List ℕ). y.1) _ (λ (y : Header × List ℕ). y.1) (struct_less n x.rest (omega arith)) (λ t lt. lt)))
    (λ e. chain n (type_at x) (λ (y : Kind × List ℕ). y.1) _ (λ (y : Header × List ℕ). y.1) (type_less n x lt) (λ kind lt.
    chain n (declaration_at kind.0 h.given kind.1) behind_param _ (λ (y : Header × List ℕ). y.1) (declaration_less n kind.0 h.given kind.1 (omega arith)) (λ p lt. lt)))))
