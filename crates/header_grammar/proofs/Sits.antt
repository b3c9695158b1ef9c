-- What the tokens so far spell, at each state.
use Rattle.std.proofs.Common.{◌≡◌, ℕ, ◌+◌, ◌*◌, ◌<◌, ◌≤◌, ◌^◌, Bool, true, false, cond, ◌&&◌, ◌⊎◌, inl, inr, List, [], ◌∷◌, ◌++◌, length, Option, Some, None, Result, Ok, pos, negsuc, refl, sym, ap, subst, ◌∙◌, append_assoc}
use Rattle.std.specs.Prelude.{option_and_then, is_some, codes, nat_lt, nat_le, ◌==◌}
use Rattle.std.specs.Str.{bytes_eq}
use Rattle.std.proofs.lemmas.Bool.{leb-true, ltb-true, eqb-true}
use Rattle.std.proofs.lemmas.Slice.Eq.{bytes_eq-Decides}
use Rattle.hot_units.specs.Limits.{max_columns, max_row_bytes}
use Rattle.sdf_tokens.specs.declared.fault.FaultKind.{FaultKind}
use Rattle.sdf_tokens.specs.declared.fault.FaultKind.TheVariants as faults
use Rattle.sdf_header.specs.declared.kind.Kind.{Kind}
use Rattle.sdf_header.specs.declared.document.Value.{Value}
use Rattle.sdf_header.specs.declared.document.Value.TheVariants as values
use Rattle.sdf_header.specs.Limits.{max_array_length}
use Rattle.sdf_tokens.specs.Tokens.{Lexeme, Word, Number, Text, Sign, End}
use Rattle.sdf_header.specs.Types.{kind_named, bytes_of, is_char}
use Rattle.sdf_header.specs.Parts.{size_of, unsigned_type}
use Rattle.sdf_header.specs.Fields.{Row, has_field, length_of, no_fields}
use Rattle.sdf_header.specs.Statements.{Header, with_param, with_struct, nothing_given, value_of, number_for}
use Rattle.header_grammar.specs.Grammar.{Spelling, word, sign, count, TypeName, types, type_in, IsType, Item, FieldLine, Statement, Parameter, Constant, Label, Struct, IsSize, IsLength, AreItems, AreLines, IsStatement, AreStatements, spell_type, spell_size, spell_item, spell_earlier, spell_line, spell_lines, spell, spell_each, and_item, ItemFits, and_items, ItemsFit, and_line, and_lines, LinesFit, and_statement, Fits, and_statements, AllFit, said}
use Rattle.header_grammar.proofs.Machine.{Halt, halt, State, Done, Start, Wants, ParamName, ParamValue, Unsigned, Typed, Named, NumberFor, TextSize, TextValue, Fields, FieldUnsigned, Item as AtItem, ItemName, Length, ItemEnd, StructSize, wanted, has, ends, word_in, widened, or_halt, given, closed, on_type, on_statement, on_name, on_item, on_item_end, text_in, step}
use Rattle.sdf_header.proofs.Choices.{either, none_some, some_is, and_true}

-- ---- one more at the end

-- statements with one more, spelled
pub spell_each-one : (ss : List Statement) (s : Statement) (rest : Spelling) → spell_each (ss ++ s ∷ []) rest ≡ spell_each ss (spell s rest)
spell_each-one [] s rest = refl
spell_each-one (s' ∷ ss) s rest = ap (spell s') (spell_each-one ss s rest)

-- field lines with one more, spelled
pub spell_lines-one : (ls : List FieldLine) (l : FieldLine) (rest : Spelling) → spell_lines (ls ++ l ∷ []) rest ≡ spell_lines ls (spell_line l rest)
spell_lines-one [] l rest = refl
spell_lines-one (l' ∷ ls) l rest = ap (spell_line l') (spell_lines-one ls l rest)

-- items with commas, and one more, spelled
pub spell_earlier-one : (items : List Item) (i : Item) (rest : Spelling) → spell_earlier (items ++ i ∷ []) rest ≡ spell_earlier items (spell_item i (sign 44 ∷ rest))
spell_earlier-one [] i rest = refl
spell_earlier-one (i' ∷ items) i rest = ap (λ x. spell_item i' (sign 44 ∷ x)) (spell_earlier-one items i rest)

-- statements with one more are statements
pub are_statements-one : (ss : List Statement) (s : Statement) → AreStatements ss → IsStatement s → AreStatements (ss ++ s ∷ [])
are_statements-one [] s are is = (is, tt)
are_statements-one (s' ∷ ss) s are is = (are.0, are_statements-one ss s are.1 is)

-- field lines with one more are field lines
pub are_lines-one : (ls : List FieldLine) (l : FieldLine) → AreLines ls → IsType l.type × AreItems l.earlier × IsLength l.last.length → AreLines (ls ++ l ∷ [])
are_lines-one [] l are is = (is, tt)
are_lines-one (l' ∷ ls) l are is = (are.0, are_lines-one ls l are.1 is)

-- items with one more are items
pub are_items-one : (items : List Item) (i : Item) → AreItems items → IsLength i.length → AreItems (items ++ i ∷ [])
are_items-one [] i are is = (is, tt)
are_items-one (i' ∷ items) i are is = (are.0, are_items-one items i are.1 is)

-- what statements with one more say
pub and_statements-one : (h : Header) (ss : List Statement) (s : Statement) → and_statements h (ss ++ s ∷ []) ≡ and_statement (and_statements h ss) s
and_statements-one h [] s = refl
and_statements-one h (s' ∷ ss) s = and_statements-one (and_statement h s') ss s

-- the row of field lines with one more
pub and_lines-one : (row : Row) (ls : List FieldLine) (l : FieldLine) → and_lines row (ls ++ l ∷ []) ≡ and_line (and_lines row ls) l
and_lines-one row [] l = refl
and_lines-one row (l' ∷ ls) l = and_lines-one (and_line row l') ls l

-- the row of items with one more
pub and_items-one : (kind : Kind) (row : Row) (items : List Item) (i : Item) → and_items kind row (items ++ i ∷ []) ≡ and_item kind (and_items kind row items) i
and_items-one kind row [] i = refl
and_items-one kind row (i' ∷ items) i = and_items-one kind (and_item kind row i') items i

-- statements with one more that fits fit
pub all_fit-one : (h : Header) (ss : List Statement) (s : Statement) → AllFit h ss → Fits (and_statements h ss) s → AllFit h (ss ++ s ∷ [])
all_fit-one h [] s fit fits = (fits, tt)
all_fit-one h (s' ∷ ss) s fit fits = (fit.0, all_fit-one (and_statement h s') ss s fit.1 fits)

-- field lines with one more that fits fit
pub lines_fit-one : (row : Row) (ls : List FieldLine) (l : FieldLine) → LinesFit row ls → ItemsFit l.type.kind (and_lines row ls) l.earlier × ItemFits l.type.kind (and_items l.type.kind (and_lines row ls) l.earlier) l.last → LinesFit row (ls ++ l ∷ [])
lines_fit-one row [] l fit fits = (fits, tt)
lines_fit-one row (l' ∷ ls) l fit fits = (fit.0, lines_fit-one (and_line row l') ls l fit.1 fits)

-- items with one more that fits fit
pub items_fit-one : (kind : Kind) (row : Row) (items : List Item) (i : Item) → ItemsFit kind row items → ItemFits kind (and_items kind row items) i → ItemsFit kind row (items ++ i ∷ [])
items_fit-one kind row [] i fit fits = (fits, tt)
items_fit-one kind row (i' ∷ items) i fit fits = (fit.0, items_fit-one kind (and_item kind row i') items i fit.1 fits)

-- ---- what the tokens so far spell: whole statements, and a part of one in front of what follows

-- whole statements that say h, in front of a part of the next
pub record Before (h : Header) (b : Spelling) (part : Spelling → Spelling) : Type 0 where
  pub statements : List Statement
  pub are : AreStatements statements
  pub fit : AllFit nothing_given statements
  pub say : said statements ≡ h
  pub spelled : (rest : Spelling) → b ++ rest ≡ spell_each statements (part rest)

-- whole statements that say h, and the end
pub record Whole (h : Header) (b : Spelling) : Type 0 where
  pub statements : List Statement
  pub are : AreStatements statements
  pub fit : AllFit nothing_given statements
  pub say : said statements ≡ h
  pub spelled : b ≡ spell_each statements (Some End ∷ [])

-- behind the type of a statement
pub record InType (h : Header) (kind : Kind) (b : Spelling) (part : Spelling → Spelling) : Type 0 where
  pub type : TypeName
  pub is : IsType type
  pub kind_is : type.kind ≡ kind
  pub before : Before h b (λ rest. spell_type type (part rest))

-- within a struct, behind field lines that give the row
pub record InStruct (h : Header) (row : Row) (b : Spelling) (part : Spelling → Spelling) : Type 0 where
  pub lines : List FieldLine
  pub are : AreLines lines
  pub fit : LinesFit no_fields lines
  pub say : and_lines no_fields lines ≡ row
  pub none : is_some h.table ≡ false
  pub before : Before h b (λ rest. word (codes "struct") ∷ sign 123 ∷ spell_lines lines (part rest))

-- within a field line, behind items that give the row
pub record InLine (h : Header) (row : Row) (kind : Kind) (b : Spelling) (part : Spelling → Spelling) : Type 0 where
  pub first : Row
  pub type : TypeName
  pub is : IsType type
  pub kind_is : type.kind ≡ kind
  pub earlier : List Item
  pub are : AreItems earlier
  pub fit : ItemsFit type.kind first earlier
  pub say : and_items type.kind first earlier ≡ row
  pub struct : InStruct h first b (λ rest. spell_type type (spell_earlier earlier (part rest)))

-- at an item with a new name, for which there is room
pub record NewItem (h : Header) (row : Row) (kind : Kind) (name : List ℕ) (b : Spelling) (part : Spelling → Spelling) : Type 0 where
  pub new : has_field name row.fields ≡ false
  pub room : (length row.fields == max_columns) ≡ false
  pub line : InLine h row kind b part

-- behind an item that gives the row
pub record ItemRead (h : Header) (row : Row) (kind : Kind) (b : Spelling) : Type 0 where
  pub narrower : Row
  pub item : Item
  pub is : IsLength item.length
  pub fits : ItemFits kind narrower item
  pub say : and_item kind narrower item ≡ row
  pub line : InLine h narrower kind b (λ rest. spell_item item rest)

-- at the size of a text
pub record InText (h : Header) (name : List ℕ) (b : Spelling) (part : Spelling → Spelling) : Type 0 where
  pub new : is_some (h.given name) ≡ false
  pub kind : Kind
  pub char : is_char kind ≡ true
  pub type : InType h kind b (λ rest. word name ∷ sign 91 ∷ part rest)

-- behind the size of a text
pub record InTextBehind (h : Header) (name : List ℕ) (b : Spelling) : Type 0 where
  pub size : Option ℕ
  pub is : IsSize size
  pub text : InText h name b (λ rest. spell_size size (sign 93 ∷ sign 61 ∷ rest))

-- what the tokens so far spell, at each state
abbrev pub Sits : State → Spelling → Type 0
Sits (Done h) b = Whole h b
Sits (Start h) b = Before h b (λ rest. rest)
Sits (Wants s after) b = Sits after (b ++ sign s ∷ [])
Sits (ParamName h) b = Before h b (λ rest. word (codes "parameter") ∷ rest)
Sits (ParamValue h name) b = (is_some (h.given name) ≡ false) × Before h b (λ rest. word (codes "parameter") ∷ word name ∷ sign 61 ∷ rest)
Sits (Unsigned h p) b = Before h b (λ rest. word (codes "unsigned") ∷ rest)
Sits (Typed h kind) b = InType h kind b (λ rest. rest)
Sits (Named h kind name) b = (is_some (h.given name) ≡ false) × InType h kind b (λ rest. word name ∷ rest)
Sits (NumberFor h kind name) b = (is_some (h.given name) ≡ false) × InType h kind b (λ rest. word name ∷ sign 61 ∷ rest)
Sits (TextSize h name) b = InText h name b (λ rest. rest)
Sits (TextValue h name) b = InTextBehind h name b
Sits (Fields h row) b = InStruct h row b (λ rest. rest)
Sits (FieldUnsigned h row p) b = InStruct h row b (λ rest. word (codes "unsigned") ∷ rest)
Sits (AtItem h row kind) b = InLine h row kind b (λ rest. rest)
Sits (ItemName h row kind name p) b = NewItem h row kind name b (λ rest. word name ∷ rest)
Sits (Length h row kind name p) b = NewItem h row kind name b (λ rest. word name ∷ sign 91 ∷ rest)
Sits (ItemEnd h row kind) b = ItemRead h row kind b
Sits (StructSize h row) b = InStruct h row b (λ rest. sign 125 ∷ sign 91 ∷ rest)

-- ---- one more token

shift : (h : Header) (b : Spelling) (f g : Spelling → Spelling) (x : Option Lexeme) → Before h b f → ((rest : Spelling) → f (x ∷ rest) ≡ g rest) → Before h (b ++ x ∷ []) g
shift h b f g x s e = record { statements = s.statements; are = s.are; fit = s.fit; say = s.say; spelled = λ rest. append_assoc b (x ∷ []) rest ∙ s.spelled (x ∷ rest) ∙ ap (spell_each s.statements) (e rest) }

shift_type : (h : Header) (kind : Kind) (b : Spelling) (f g : Spelling → Spelling) (x : Option Lexeme) → InType h kind b f → ((rest : Spelling) → f (x ∷ rest) ≡ g rest) → InType h kind (b ++ x ∷ []) g
shift_type h kind b f g x s e = record { type = s.type; is = s.is; kind_is = s.kind_is; before = shift h b _ _ x s.before (λ rest. ap (spell_type s.type) (e rest)) }

shift_struct : (h : Header) (row : Row) (b : Spelling) (f g : Spelling → Spelling) (x : Option Lexeme) → InStruct h row b f → ((rest : Spelling) → f (x ∷ rest) ≡ g rest) → InStruct h row (b ++ x ∷ []) g
shift_struct h row b f g x s e = record { lines = s.lines; are = s.are; fit = s.fit; say = s.say; none = s.none; before = shift h b _ _ x s.before (λ rest. ap (λ y. word (codes "struct") ∷ sign 123 ∷ spell_lines s.lines y) (e rest)) }

shift_line : (h : Header) (row : Row) (kind : Kind) (b : Spelling) (f g : Spelling → Spelling) (x : Option Lexeme) → InLine h row kind b f → ((rest : Spelling) → f (x ∷ rest) ≡ g rest) → InLine h row kind (b ++ x ∷ []) g
shift_line h row kind b f g x s e = record { first = s.first; type = s.type; is = s.is; kind_is = s.kind_is; earlier = s.earlier; are = s.are; fit = s.fit; say = s.say; struct = shift_struct h s.first b _ _ x s.struct (λ rest. ap (λ y. spell_type s.type (spell_earlier s.earlier y)) (e rest)) }

-- a statement is whole
whole : (h : Header) (b : Spelling) (f : Spelling → Spelling) (s : Statement) → (p : Before h b f) → IsStatement s → Fits h s → ((rest : Spelling) → f rest ≡ spell s rest) → Before (and_statement h s) b (λ rest. rest)
whole h b f s p is fits e = record {
  statements = p.statements ++ s ∷ [];
  are = are_statements-one p.statements s p.are is;
  fit = all_fit-one nothing_given p.statements s p.fit (subst (λ x. Fits x s) (sym p.say) fits);
  say = and_statements-one nothing_given p.statements s ∙ ap (λ x. and_statement x s) p.say;
  spelled = λ rest. p.spelled rest ∙ ap (spell_each p.statements) (e rest) ∙ sym (spell_each-one p.statements s rest);
}

-- ---- what the token is

err_ok : {B : Type 0} (k : FaultKind) (p : ℕ) (s : State) → halt k p ≡ Ok s → B
err_ok k p s e = absurd cc

-- what was wanted was there
pub wanted_is : {A : Type 0} (p : ℕ) (o : Option A) (f : A → Result State Halt) (s : State) → wanted p o f ≡ Ok s → (a : A) × (o ≡ Some a) × (f a ≡ Ok s)
wanted_is p None f s e = err_ok faults.Syntax p s e
wanted_is p (Some a) f s e = (a, refl, e)

-- where no halt came, what was asked for was there
pub or_halt_is : {A : Type 0} (k : FaultKind) (p : ℕ) (o : Option A) (f : A → Result State Halt) (s : State) → or_halt k p o f ≡ Ok s → (a : A) × (o ≡ Some a) × (f a ≡ Ok s)
or_halt_is k p None f s e = err_ok k p s e
or_halt_is k p (Some a) f s e = (a, refl, e)

lands : (s s1 : State) (b : Spelling) → ◌≡◌ {A = Result State Halt} (Ok s) (Ok s1) → Sits s b → Sits s1 b
lands s s1 b e sits = subst (λ s. Sits s b) (ok_is s s1 e) sits
  where
    ok_is : (s s1 : State) → ◌≡◌ {A = Result State Halt} (Ok s) (Ok s1) → s ≡ s1
    ok_is s s1 e = cc

-- a token that is a sign is that sign
pub sign_is : (s : ℕ) (x : Option Lexeme) → has s x ≡ true → x ≡ sign s
sign_is s None e = absurd cc
sign_is s (Some (Word w)) e = absurd cc
sign_is s (Some (Number n)) e = absurd cc
sign_is s (Some Text) e = absurd cc
sign_is s (Some (Sign t)) e = ap (λ n. sign n) (eqb-true t s e)
sign_is s (Some End) e = absurd cc

-- a token that is a word is that word
pub word_is : (x : Option Lexeme) (w : List ℕ) → word_in x ≡ Some w → x ≡ word w
word_is None w e = none_some w e
word_is (Some (Word v)) w e = ap (λ n. word n) (some_is v w e)
word_is (Some (Number n)) w e = none_some w e
word_is (Some Text) w e = none_some w e
word_is (Some (Sign t)) w e = none_some w e
word_is (Some End) w e = none_some w e

end_is : (x : Option Lexeme) → ends x ≡ true → x ≡ Some End
end_is None e = absurd cc
end_is (Some (Word v)) e = absurd cc
end_is (Some (Number n)) e = absurd cc
end_is (Some Text) e = absurd cc
end_is (Some (Sign t)) e = absurd cc
end_is (Some End) e = refl

text_is : (x : Option Lexeme) (v : Unit {0}) → option_and_then text_in x ≡ Some v → x ≡ Some Text
text_is None v e = none_some v e
text_is (Some (Word w)) v e = none_some v e
text_is (Some (Number n)) v e = none_some v e
text_is (Some Text) v e = refl
text_is (Some (Sign t)) v e = none_some v e
text_is (Some End) v e = none_some v e

-- the token that a function takes
pub token_is : {A : Type 0} (f : Lexeme → Option A) (x : Option Lexeme) (a : A) → option_and_then f x ≡ Some a → (l : Lexeme) × (x ≡ Some l) × (f l ≡ Some a)
token_is f None a e = none_some a e
token_is f (Some l) a e = (l, refl, e)

size_is : (l : Lexeme) (n : ℕ) → size_of l ≡ Some n → (Some l ≡ count n) × (n < 2 ^ 64)
size_is (Word w) n e = none_some n e
size_is (Number None) n e = none_some n e
size_is (Number (Some (negsuc m))) n e = none_some n e
size_is (Number (Some (pos m))) n e =
    elim (either (nat_lt m (2 ^ 64)) (Some m) None (Some n) e) [
      | inl h ↦ (ap (λ k. count k) (some_is m n h.1), subst (λ k. k < 2 ^ 64) (some_is m n h.1) (ltb-true m (2 ^ 64) h.0))
      | inr h ↦ none_some n h.1
    ]
size_is Text n e = none_some n e
size_is (Sign t) n e = none_some n e
size_is End n e = none_some n e

-- a good length is a count within its limits
pub length_is : (l : Lexeme) (n : ℕ) → length_of l ≡ Some n → (Some l ≡ count n) × ((1 ≤ n) × (n ≤ max_array_length))
length_is (Word w) n e = none_some n e
length_is (Number None) n e = none_some n e
length_is (Number (Some (negsuc m))) n e = none_some n e
length_is (Number (Some (pos m))) n e =
    elim (either (nat_le 1 m && nat_le m max_array_length) (Some m) None (Some n) e) [
      | inl h ↦ (let both = and_true (nat_le 1 m) (nat_le m max_array_length) h.0 in let same = some_is m n h.1 in
          (ap (λ k. count k) same, subst (λ k. (1 ≤ k) × (k ≤ max_array_length)) same (leb-true 1 m both.0, leb-true m max_array_length both.1)))
      | inr h ↦ none_some n h.1
    ]
length_is Text n e = none_some n e
length_is (Sign t) n e = none_some n e
length_is End n e = none_some n e

-- a word behind `unsigned` that gives a type is one of its words
pub unsigned_is : (x : Option Lexeme) (kind : Kind) → option_and_then unsigned_type x ≡ Some kind → (w : List ℕ) × (x ≡ word w) × (type_in types true w ≡ Some kind)
unsigned_is None kind e = none_some kind e
unsigned_is (Some (Word w)) kind e = (w, refl, e)
unsigned_is (Some (Number n)) kind e = none_some kind e
unsigned_is (Some Text) kind e = none_some kind e
unsigned_is (Some (Sign t)) kind e = none_some kind e
unsigned_is (Some End) kind e = none_some kind e

-- a word at a type's place
pub type_is : (p : ℕ) (typed : Kind → State) (u : State) (w : List ℕ) (s : State) → on_type p typed u w ≡ Ok s
    → ((w ≡ codes "unsigned") × (◌≡◌ {A = Result State Halt} (Ok u) (Ok s))) ⊎ ((kind : Kind) × (type_in types false w ≡ Some kind) × (◌≡◌ {A = Result State Halt} (Ok (typed kind)) (Ok s)))
type_is p typed u w s e =
    elim (either (bytes_eq w (codes "unsigned")) (Ok u) (or_halt faults.UnknownType p (kind_named w) (λ kind. Ok (typed kind))) (Ok s) e) [
      | inl h ↦ inl ((bytes_eq-Decides w (codes "unsigned")).0 h.0, h.1)
      | inr h ↦ inr (or_halt_is faults.UnknownType p (kind_named w) (λ kind. Ok (typed kind)) s h.1)
    ]

-- ---- where a token leads

lands_at : (s s1 : State) (b : Spelling) (x y : Option Lexeme) → x ≡ y → ◌≡◌ {A = Result State Halt} (Ok s) (Ok s1) → Sits s (b ++ y ∷ []) → Sits s1 (b ++ x ∷ [])
lands_at s s1 b x y same e sits = subst (λ z. Sits s1 (b ++ z ∷ [])) (sym same) (lands s s1 (b ++ y ∷ []) e sits)

-- a name that was not given
pub fresh_is : (h : Header) (p : ℕ) (named : List ℕ → State) (x : Option Lexeme) (s : State) → wanted p (word_in x) (on_name h p named) ≡ Ok s → (w : List ℕ) × (x ≡ word w) × (is_some (h.given w) ≡ false) × (◌≡◌ {A = Result State Halt} (Ok (named w)) (Ok s))
fresh_is h p named x s e =
    let w = wanted_is p (word_in x) (on_name h p named) s e in
    elim (either (is_some (h.given w.0)) (halt faults.NameTwice p) (Ok (named w.0)) (Ok s) w.2) [
      | inl t ↦ err_ok faults.NameTwice p s t.1
      | inr f ↦ (w.0, word_is x w.0 w.1, f.0, f.1)
    ]

-- a statement that gives a name is whole behind its semicolon
given_sits : (h : Header) (b : Spelling) (f : Spelling → Spelling) (s : Statement) (name : List ℕ) (value : Value) → (p : Before h b f) → IsStatement s → Fits h s → and_statement h s ≡ with_param h (record { name = name; value = value })
    → ((rest : Spelling) → f (sign 59 ∷ rest) ≡ spell s rest) → Before (with_param h (record { name = name; value = value })) (b ++ sign 59 ∷ []) (λ rest. rest)
given_sits h b f s name value p is fits says e =
    subst (λ z. Before z (b ++ sign 59 ∷ []) (λ rest. rest)) says (whole h (b ++ sign 59 ∷ []) (λ rest. spell s rest) s (shift h b f (λ rest. spell s rest) (sign 59) p e) is fits (λ rest. refl))

on_type_sits : (h : Header) (b : Spelling) (p : ℕ) (w : List ℕ) (s1 : State) → on_type p (Typed h) (Unsigned h p) w ≡ Ok s1 → Before h b (λ rest. rest) → Sits s1 (b ++ word w ∷ [])
on_type_sits h b p w s1 e sits =
    elim (type_is p (Typed h) (Unsigned h p) w s1 e) [
      | inl u ↦ lands_at (Unsigned h p) s1 b (word w) (word (codes "unsigned")) (ap (λ n. word n) u.0) u.1 (shift h b _ _ (word (codes "unsigned")) sits (λ rest. refl))
      | inr k ↦ lands (Typed h k.0) s1 (b ++ word w ∷ []) k.2 (record { type = record { unsigned = false; word = w; kind = k.0 }; is = k.1; kind_is = refl; before = shift h b _ _ (word w) sits (λ rest. refl) })
    ]

statement_sits : (h : Header) (b : Spelling) (p : ℕ) (w : List ℕ) (s1 : State) → on_statement h p w ≡ Ok s1 → Before h b (λ rest. rest) → Sits s1 (b ++ word w ∷ [])
statement_sits h b p w s1 e sits =
    elim (either (bytes_eq w (codes "parameter")) (Ok (ParamName h)) (cond (bytes_eq w (codes "struct")) (cond (is_some h.table) (halt faults.SecondStruct p) (Ok (Wants 123 (Fields h no_fields)))) (on_type p (Typed h) (Unsigned h p) w)) (Ok s1) e) [
      | inl t ↦ lands_at (ParamName h) s1 b (word w) (word (codes "parameter")) (ap (λ n. word n) ((bytes_eq-Decides w (codes "parameter")).0 t.0)) t.1 (shift h b _ _ (word (codes "parameter")) sits (λ rest. refl))
      | inr f ↦
          elim (either (bytes_eq w (codes "struct")) (cond (is_some h.table) (halt faults.SecondStruct p) (Ok (Wants 123 (Fields h no_fields)))) (on_type p (Typed h) (Unsigned h p) w) (Ok s1) f.1) [
            | inl t ↦
                elim (either (is_some h.table) (halt faults.SecondStruct p) (Ok (Wants 123 (Fields h no_fields))) (Ok s1) t.1) [
                  | inl second ↦ err_ok faults.SecondStruct p s1 second.1
                  | inr first ↦ lands_at (Wants 123 (Fields h no_fields)) s1 b (word w) (word (codes "struct")) (ap (λ n. word n) ((bytes_eq-Decides w (codes "struct")).0 t.0)) first.1
                      (record { lines = []; are = tt; fit = tt; say = refl; none = first.0; before = shift h (b ++ word (codes "struct") ∷ []) _ _ (sign 123) (shift h b _ (λ rest. word (codes "struct") ∷ rest) (word (codes "struct")) sits (λ rest. refl)) (λ rest. refl) })
                ]
            | inr g ↦ on_type_sits h b p w s1 g.1 sits
          ]
    ]

-- a field line is whole
line_whole : (h : Header) (row : Row) (kind : Kind) (b : Spelling) → ItemRead h row kind b → InStruct h row (b ++ sign 59 ∷ []) (λ rest. rest)
line_whole h row kind b r =
    let l = r.line in
    let s = l.struct in
    let line : FieldLine = record { type = l.type; earlier = l.earlier; last = r.item } in
    let fits : ItemFits l.type.kind (and_items l.type.kind l.first l.earlier) r.item = subst (λ x. ItemFits l.type.kind x r.item) (sym l.say) (subst (λ k. ItemFits k r.narrower r.item) (sym l.kind_is) r.fits) in
    let both : ItemsFit l.type.kind (and_lines no_fields s.lines) l.earlier × ItemFits l.type.kind (and_items l.type.kind (and_lines no_fields s.lines) l.earlier) r.item =
    subst (λ x. ItemsFit l.type.kind x l.earlier × ItemFits l.type.kind (and_items l.type.kind x l.earlier) r.item) (sym s.say) (l.fit, fits) in
    record {
      lines = s.lines ++ line ∷ [];
      are = are_lines-one s.lines line s.are (l.is, l.are, r.is);
      fit = lines_fit-one no_fields s.lines line s.fit both;
      say = and_lines-one no_fields s.lines line ∙ ap (λ x. and_line x line) s.say ∙ ap (λ x. and_item l.type.kind x r.item) l.say ∙ ap (λ k. and_item k r.narrower r.item) l.kind_is ∙ r.say;
      none = s.none;
      before = shift h b _ _ (sign 59) s.before (λ rest. ap (λ x. word (codes "struct") ∷ sign 123 ∷ x) (sym (spell_lines-one s.lines line rest)));
    }

-- an item with a comma behind it
item_whole : (h : Header) (row : Row) (kind : Kind) (b : Spelling) → ItemRead h row kind b → InLine h row kind (b ++ sign 44 ∷ []) (λ rest. rest)
item_whole h row kind b r =
    let l = r.line in
    let s = l.struct in
    let fits : ItemFits l.type.kind (and_items l.type.kind l.first l.earlier) r.item = subst (λ x. ItemFits l.type.kind x r.item) (sym l.say) (subst (λ k. ItemFits k r.narrower r.item) (sym l.kind_is) r.fits) in
    record {
      first = l.first;
      type = l.type;
      is = l.is;
      kind_is = l.kind_is;
      earlier = l.earlier ++ r.item ∷ [];
      are = are_items-one l.earlier r.item l.are r.is;
      fit = items_fit-one l.type.kind l.first l.earlier r.item l.fit fits;
      say = and_items-one l.type.kind l.first l.earlier r.item ∙ ap (λ x. and_item l.type.kind x r.item) l.say ∙ ap (λ k. and_item k r.narrower r.item) l.kind_is ∙ r.say;
      struct = shift_struct h l.first b _ _ (sign 44) s (λ rest. ap (λ x. spell_type l.type x) (sym (spell_earlier-one l.earlier r.item rest)));
    }

item_end_sits : (h : Header) (row : Row) (kind : Kind) (b : Spelling) (x : Option Lexeme) (p : ℕ) (s1 : State) → on_item_end h row kind (record { lexeme = x; place = p }) ≡ Ok s1 → ItemRead h row kind b → Sits s1 (b ++ x ∷ [])
item_end_sits h row kind b x p s1 e r =
    elim (either (has 59 x) (Ok (Fields h row)) (cond (has 44 x) (Ok (AtItem h row kind)) (halt faults.Syntax p)) (Ok s1) e) [
      | inl t ↦ lands_at (Fields h row) s1 b x (sign 59) (sign_is 59 x t.0) t.1 (line_whole h row kind b r)
      | inr f ↦
          elim (either (has 44 x) (Ok (AtItem h row kind)) (halt faults.Syntax p) (Ok s1) f.1) [
            | inl t ↦ lands_at (AtItem h row kind) s1 b x (sign 44) (sign_is 44 x t.0) t.1 (item_whole h row kind b r)
            | inr g ↦ err_ok faults.Syntax p s1 g.1
          ]
    ]

-- a row that took one more column was not too wide for it
pub wide_is : (row : Row) (kind : Kind) (name : List ℕ) (n : ℕ) (is_array : Bool) (wider : Row) → widened row kind name n is_array ≡ Some wider
    → (nat_lt max_row_bytes (row.width + bytes_of kind * n) ≡ false) × (◌≡◌ {A = Row} (record { fields = row.fields ++ record { name = name; kind = kind; offset = row.width; is_array = is_array } ∷ []; width = row.width + bytes_of kind * n }) wider)
wide_is row kind name n is_array wider e =
    elim (either (nat_lt max_row_bytes (row.width + bytes_of kind * n)) None (Some (record { fields = row.fields ++ record { name = name; kind = kind; offset = row.width; is_array = is_array } ∷ []; width = row.width + bytes_of kind * n })) (Some wider) e) [
      | inl t ↦ none_some wider t.1
      | inr f ↦ (f.0, some_is _ _ f.1)
    ]

-- one more token
pub sits_on : (s s1 : State) (b : Spelling) (x : Option Lexeme) (p : ℕ) → step s (record { lexeme = x; place = p }) ≡ Ok s1 → Sits s b → Sits s1 (b ++ x ∷ [])
sits_on (Done h) s1 b x p e sits = err_ok faults.Syntax p s1 e
sits_on (Start h) s1 b x p e sits =
    elim (either (ends x) (Ok (Done h)) (wanted p (word_in x) (on_statement h p)) (Ok s1) e) [
      | inl t ↦ lands_at (Done h) s1 b x (Some End) (end_is x t.0) t.1 (record { statements = sits.statements; are = sits.are; fit = sits.fit; say = sits.say; spelled = sits.spelled (Some End ∷ []) })
      | inr f ↦
          (let w = wanted_is p (word_in x) (on_statement h p) s1 f.1 in
          subst (λ z. Sits s1 (b ++ z ∷ [])) (sym (word_is x w.0 w.1)) (statement_sits h b p w.0 s1 w.2 sits))
    ]
sits_on (Wants s after) s1 b x p e sits =
    elim (either (has s x) (Ok after) (halt faults.Syntax p) (Ok s1) e) [
      | inl t ↦ lands_at after s1 b x (sign s) (sign_is s x t.0) t.1 sits
      | inr f ↦ err_ok faults.Syntax p s1 f.1
    ]
sits_on (ParamName h) s1 b x p e sits =
    (let w = fresh_is h p (λ w. Wants 61 (ParamValue h w)) x s1 e in
    lands_at (Wants 61 (ParamValue h w.0)) s1 b x (word w.0) w.1 w.3 (w.2, shift h (b ++ word w.0 ∷ []) _ _ (sign 61) (shift h b _ (λ rest. word (codes "parameter") ∷ word w.0 ∷ rest) (word w.0) sits (λ rest. refl)) (λ rest. refl)))
sits_on (ParamValue h name) s1 b x p e sits =
    (let w = wanted_is p (option_and_then value_of x) (λ v. Ok (given h name v)) s1 e in
    let l = token_is value_of x w.0 w.1 in
    lands_at (given h name w.0) s1 b x (Some l.0) l.1 w.2
    (given_sits h (b ++ Some l.0 ∷ []) (λ rest. word (codes "parameter") ∷ word name ∷ sign 61 ∷ Some l.0 ∷ rest) (Parameter name l.0 w.0) name w.0 (shift h b _ _ (Some l.0) sits.1 (λ rest. refl)) l.2 sits.0 refl (λ rest. refl)))
sits_on (Unsigned h q) s1 b x p e sits =
    (let k = or_halt_is faults.UnknownType q (option_and_then unsigned_type x) (λ kind. Ok (Typed h kind)) s1 e in
    let w = unsigned_is x k.0 k.1 in
    lands_at (Typed h k.0) s1 b x (word w.0) w.1 k.2 (record { type = record { unsigned = true; word = w.0; kind = k.0 }; is = w.2; kind_is = refl; before = shift h b _ _ (word w.0) sits (λ rest. refl) }))
sits_on (Typed h kind) s1 b x p e sits =
    (let w = fresh_is h p (λ w. Named h kind w) x s1 e in
    lands_at (Named h kind w.0) s1 b x (word w.0) w.1 w.3 (w.2, shift_type h kind b _ _ (word w.0) sits (λ rest. refl)))
sits_on (Named h kind name) s1 b x p e sits =
    elim (either (has 61 x) (Ok (NumberFor h kind name)) (cond (has 91 x && is_char kind) (Ok (TextSize h name)) (halt faults.Syntax p)) (Ok s1) e) [
      | inl t ↦ lands_at (NumberFor h kind name) s1 b x (sign 61) (sign_is 61 x t.0) t.1 (sits.0, shift_type h kind b _ _ (sign 61) sits.1 (λ rest. refl))
      | inr f ↦
          elim (either (has 91 x && is_char kind) (Ok (TextSize h name)) (halt faults.Syntax p) (Ok s1) f.1) [
            | inl t ↦
                (let both = and_true (has 91 x) (is_char kind) t.0 in
                lands_at (TextSize h name) s1 b x (sign 91) (sign_is 91 x both.0) t.1 (record { new = sits.0; kind = kind; char = both.1; type = shift_type h kind b _ _ (sign 91) sits.1 (λ rest. refl) }))
            | inr g ↦ err_ok faults.Syntax p s1 g.1
          ]
    ]
sits_on (NumberFor h kind name) s1 b x p e sits =
    (let w = wanted_is p (option_and_then (number_for kind) x) (λ v. Ok (given h name v)) s1 e in
    let l = token_is (number_for kind) x w.0 w.1 in
    let t = sits.1 in
    let number : number_for t.type.kind l.0 ≡ Some w.0 = ap (λ k. number_for k l.0) t.kind_is ∙ l.2 in
    lands_at (given h name w.0) s1 b x (Some l.0) l.1 w.2
    (given_sits h (b ++ Some l.0 ∷ []) (λ rest. spell_type t.type (word name ∷ sign 61 ∷ Some l.0 ∷ rest)) (Constant t.type name l.0 w.0) name w.0 (shift h b _ _ (Some l.0) t.before (λ rest. refl)) (t.is, number) sits.0 refl (λ rest. refl)))
sits_on (TextSize h name) s1 b x p e sits =
    elim (either (has 93 x) (Ok (Wants 61 (TextValue h name))) (wanted p (option_and_then size_of x) (λ n. Ok (Wants 93 (Wants 61 (TextValue h name))))) (Ok s1) e) [
      | inl t ↦ lands_at (Wants 61 (TextValue h name)) s1 b x (sign 93) (sign_is 93 x t.0) t.1
          (record { size = None; is = tt; text = record { new = sits.new; kind = sits.kind; char = sits.char; type = shift_type h sits.kind (b ++ sign 93 ∷ []) _ _ (sign 61) (shift_type h sits.kind b _ (λ rest. word name ∷ sign 91 ∷ sign 93 ∷ rest) (sign 93) sits.type (λ rest. refl)) (λ rest. refl) } })
      | inr f ↦
          (let n = wanted_is p (option_and_then size_of x) (λ n. Ok (Wants 93 (Wants 61 (TextValue h name)))) s1 f.1 in
          let l = token_is size_of x n.0 n.1 in
          let size = size_is l.0 n.0 l.2 in
          lands_at (Wants 93 (Wants 61 (TextValue h name))) s1 b x (count n.0) (l.1 ∙ size.0) n.2
          (record {
            size = Some n.0;
            is = size.1;
            text = record {
              new = sits.new;
              kind = sits.kind;
              char = sits.char;
              type = shift_type h sits.kind ((b ++ count n.0 ∷ []) ++ sign 93 ∷ []) _ _ (sign 61) (shift_type h sits.kind (b ++ count n.0 ∷ []) _ (λ rest. word name ∷ sign 91 ∷ count n.0 ∷ sign 93 ∷ rest) (sign 93) (shift_type h sits.kind b _ (λ rest. word name ∷ sign 91 ∷ count n.0 ∷ rest) (count n.0) sits.type (λ rest. refl)) (λ rest. refl)) (λ rest. refl);
            };
          }))
    ]
sits_on (TextValue h name) s1 b x p e sits =
    (let w = wanted_is p (option_and_then text_in x) (λ v. Ok (given h name values.Other)) s1 e in
    let text = sits.text in
    let t = text.type in
    let char : is_char t.type.kind ≡ true = ap is_char t.kind_is ∙ text.char in
    lands_at (given h name values.Other) s1 b x (Some Text) (text_is x w.0 w.1) w.2
    (given_sits h (b ++ Some Text ∷ []) (λ rest. spell_type t.type (word name ∷ sign 91 ∷ spell_size sits.size (sign 93 ∷ sign 61 ∷ Some Text ∷ rest))) (Label t.type name sits.size) name values.Other (shift h b _ _ (Some Text) t.before (λ rest. refl)) (t.is, char, sits.is) text.new refl (λ rest. refl)))
sits_on (Fields h row) s1 b x p e sits =
    elim (either (has 125 x) (Ok (Wants 91 (StructSize h row))) (wanted p (word_in x) (on_type p (AtItem h row) (FieldUnsigned h row p))) (Ok s1) e) [
      | inl t ↦ lands_at (Wants 91 (StructSize h row)) s1 b x (sign 125) (sign_is 125 x t.0) t.1 (shift_struct h row (b ++ sign 125 ∷ []) _ _ (sign 91) (shift_struct h row b _ (λ rest. sign 125 ∷ rest) (sign 125) sits (λ rest. refl)) (λ rest. refl))
      | inr f ↦
          (let w = wanted_is p (word_in x) (on_type p (AtItem h row) (FieldUnsigned h row p)) s1 f.1 in
          subst (λ z. Sits s1 (b ++ z ∷ [])) (sym (word_is x w.0 w.1)) (
          elim (type_is p (AtItem h row) (FieldUnsigned h row p) w.0 s1 w.2) [
            | inl u ↦ lands_at (FieldUnsigned h row p) s1 b (word w.0) (word (codes "unsigned")) (ap (λ n. word n) u.0) u.1 (shift_struct h row b _ _ (word (codes "unsigned")) sits (λ rest. refl))
            | inr k ↦ lands (AtItem h row k.0) s1 (b ++ word w.0 ∷ []) k.2 (record { first = row; type = record { unsigned = false; word = w.0; kind = k.0 }; is = k.1; kind_is = refl; earlier = []; are = tt; fit = tt; say = refl; struct = shift_struct h row b _ _ (word w.0) sits (λ rest. refl) })
          ]))
    ]
sits_on (FieldUnsigned h row q) s1 b x p e sits =
    (let k = or_halt_is faults.UnknownType q (option_and_then unsigned_type x) (λ kind. Ok (AtItem h row kind)) s1 e in
    let w = unsigned_is x k.0 k.1 in
    lands_at (AtItem h row k.0) s1 b x (word w.0) w.1 k.2 (record { first = row; type = record { unsigned = true; word = w.0; kind = k.0 }; is = w.2; kind_is = refl; earlier = []; are = tt; fit = tt; say = refl; struct = shift_struct h row b _ _ (word w.0) sits (λ rest. refl) }))
sits_on (AtItem h row kind) s1 b x p e sits =
    (let w = wanted_is p (word_in x) (on_item h row kind p) s1 e in
    elim (either (has_field w.0 row.fields) (halt faults.NameTwice p) (cond (length row.fields == max_columns) (halt faults.TooWide p) (Ok (ItemName h row kind w.0 p))) (Ok s1) w.2) [
      | inl t ↦ err_ok faults.NameTwice p s1 t.1
      | inr f ↦
          elim (either (length row.fields == max_columns) (halt faults.TooWide p) (Ok (ItemName h row kind w.0 p)) (Ok s1) f.1) [
            | inl t ↦ err_ok faults.TooWide p s1 t.1
            | inr g ↦ lands_at (ItemName h row kind w.0 p) s1 b x (word w.0) (word_is x w.0 w.1) g.1 (record { new = f.0; room = g.0; line = shift_line h row kind b _ _ (word w.0) sits (λ rest. refl) })
          ]
    ])
sits_on (ItemName h row kind name q) s1 b x p e sits =
    elim (either (has 91 x) (Ok (Length h row kind name q)) (or_halt faults.TooWide q (widened row kind name 1 false) (λ wider. on_item_end h wider kind (record { lexeme = x; place = p }))) (Ok s1) e) [
      | inl t ↦ lands_at (Length h row kind name q) s1 b x (sign 91) (sign_is 91 x t.0) t.1 (record { new = sits.new; room = sits.room; line = shift_line h row kind b _ _ (sign 91) sits.line (λ rest. refl) })
      | inr f ↦
          (let w = or_halt_is faults.TooWide q (widened row kind name 1 false) (λ wider. on_item_end h wider kind (record { lexeme = x; place = p })) s1 f.1 in
          let wide = wide_is row kind name 1 false w.0 w.1 in
          item_end_sits h w.0 kind b x p s1 w.2 (record { narrower = row; item = record { name = name; length = None }; is = tt; fits = record { new = sits.new; room = sits.room; narrow = wide.0 }; say = wide.1; line = sits.line }))
    ]
sits_on (Length h row kind name q) s1 b x p e sits =
    (let n = wanted_is p (option_and_then length_of x) (λ n. or_halt faults.TooWide q (widened row kind name n true) (λ wider. Ok (Wants 93 (ItemEnd h wider kind)))) s1 e in
    let l = token_is length_of x n.0 n.1 in
    let len = length_is l.0 n.0 l.2 in
    let w = or_halt_is faults.TooWide q (widened row kind name n.0 true) (λ wider. Ok (Wants 93 (ItemEnd h wider kind))) s1 n.2 in
    let wide = wide_is row kind name n.0 true w.0 w.1 in
    lands_at (Wants 93 (ItemEnd h w.0 kind)) s1 b x (count n.0) (l.1 ∙ len.0) w.2
    (record {
      narrower = row;
      item = record { name = name; length = Some n.0 };
      is = len.1;
      fits = record { new = sits.new; room = sits.room; narrow = wide.0 };
      say = wide.1;
      line = shift_line h row kind (b ++ count n.0 ∷ []) _ _ (sign 93) (shift_line h row kind b _ (λ rest. word name ∷ sign 91 ∷ count n.0 ∷ rest) (count n.0) sits.line (λ rest. refl)) (λ rest. refl);
    }))
sits_on (ItemEnd h row kind) s1 b x p e sits = item_end_sits h row kind b x p s1 e sits
sits_on (StructSize h row) s1 b x p e sits =
    elim (either (has 93 x) (Ok (closed h row None)) (wanted p (option_and_then size_of x) (λ n. Ok (Wants 93 (closed h row (Some n))))) (Ok s1) e) [
      | inl t ↦ lands_at (closed h row None) s1 b x (sign 93) (sign_is 93 x t.0) t.1 (closed_sits h row None (b ++ sign 93 ∷ []) tt (shift_struct h row b _ _ (sign 93) sits (λ rest. refl)))
      | inr f ↦
          (let n = wanted_is p (option_and_then size_of x) (λ n. Ok (Wants 93 (closed h row (Some n)))) s1 f.1 in
          let l = token_is size_of x n.0 n.1 in
          let size = size_is l.0 n.0 l.2 in
          lands_at (Wants 93 (closed h row (Some n.0))) s1 b x (count n.0) (l.1 ∙ size.0) n.2
          (closed_sits h row (Some n.0) ((b ++ count n.0 ∷ []) ++ sign 93 ∷ []) size.1 (shift_struct h row (b ++ count n.0 ∷ []) _ _ (sign 93) (shift_struct h row b _ (λ rest. sign 125 ∷ sign 91 ∷ count n.0 ∷ rest) (count n.0) sits (λ rest. refl)) (λ rest. refl))))
    ]
  where
    closed_sits : (h : Header) (row : Row) (size : Option ℕ) (b : Spelling) → IsSize size → InStruct h row b (λ rest. sign 125 ∷ sign 91 ∷ spell_size size (sign 93 ∷ rest)) → Before (with_struct h (record { row = row; size = size })) (b ++ sign 59 ∷ []) (λ rest. rest)
    closed_sits h row size b is s =
        subst (λ r. Before (with_struct h (record { row = r; size = size })) (b ++ sign 59 ∷ []) (λ rest. rest)) s.say
        (whole h (b ++ sign 59 ∷ []) (λ rest. spell (Struct s.lines size) rest) (Struct s.lines size) (shift h b _ _ (sign 59) s.before (λ rest. refl)) (s.are, is) (s.none, s.fit) (λ rest. refl))
