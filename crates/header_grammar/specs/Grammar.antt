-- The statements of a header, and the tokens that spell them. A spelling is the list of the tokens, where a
-- piece of no form is None; each part of a header is spelled in front of what follows it.
use Rattle.std.specs.Prelude.{◌≡◌, ℕ, ◌+◌, ◌*◌, ◌<◌, ◌≤◌, ◌^◌, Bool, true, false, ◌&&◌, List, [], ◌∷◌, ◌++◌, length, map, Option, Some, None, is_some, pos, nat_lt, ◌==◌, if◌then◌else◌, codes}
use Rattle.std.specs.Bool.{beq}
use Rattle.std.specs.Str.{bytes_eq}
use Rattle.hot_units.specs.Limits.{max_columns, max_row_bytes}
use Rattle.sdf_header.specs.declared.kind.Kind.{Kind}
use Rattle.sdf_header.specs.declared.kind.Kind.TheVariants as kinds
use Rattle.sdf_header.specs.declared.kind.Whole.TheVariants as wholes
use Rattle.sdf_header.specs.declared.document.Value.{Value}
use Rattle.sdf_header.specs.declared.document.Value.TheVariants as values
use Rattle.sdf_header.specs.Limits.{max_array_length}
use Rattle.sdf_tokens.specs.Tokens.{Lexeme, Word, Number, Text, Sign, End}
use Rattle.header_grammar.specs.TokenList.{Token}
use Rattle.sdf_header.specs.Types.{bytes_of, is_char}
use Rattle.sdf_header.specs.Fields.{Row, has_field, no_fields}
use Rattle.sdf_header.specs.Statements.{Header, with_param, with_struct, nothing_given, value_of, number_for}

-- tokens without their places; None is a piece of no form
abbrev pub Spelling : Type 0
Spelling = List (Option Lexeme)

-- what the tokens are, without their places
abbrev pub spelling : List Token → Spelling
spelling tokens = map (λ (t : Token). t.lexeme) tokens

-- a word
abbrev pub word : List ℕ → Option Lexeme
word w = Some (Word w)

-- a sign, by its byte
abbrev pub sign : ℕ → Option Lexeme
sign s = Some (Sign s)

-- a whole number of 0 or more
abbrev pub count : ℕ → Option Lexeme
count n = Some (Number (Some (pos n)))

-- ---- types

-- a name of a type, with `unsigned` in front of its word or not, and the type
pub record TypeName : Type 0 where
  pub unsigned : Bool
  pub word : List ℕ
  pub kind : Kind

-- all names of types
abbrev pub types : List TypeName
types =
    record { unsigned = false; word = codes "char"; kind = kinds.Char }
    ∷ record { unsigned = false; word = codes "int8_t"; kind = kinds.Whole wholes.I8 }
    ∷ record { unsigned = true; word = codes "char"; kind = kinds.Whole wholes.U8 }
    ∷ record { unsigned = false; word = codes "uint8_t"; kind = kinds.Whole wholes.U8 }
    ∷ record { unsigned = false; word = codes "short"; kind = kinds.Whole wholes.I16 }
    ∷ record { unsigned = false; word = codes "int16_t"; kind = kinds.Whole wholes.I16 }
    ∷ record { unsigned = true; word = codes "short"; kind = kinds.Whole wholes.U16 }
    ∷ record { unsigned = false; word = codes "uint16_t"; kind = kinds.Whole wholes.U16 }
    ∷ record { unsigned = false; word = codes "int"; kind = kinds.Whole wholes.I32 }
    ∷ record { unsigned = false; word = codes "int32_t"; kind = kinds.Whole wholes.I32 }
    ∷ record { unsigned = true; word = codes "int"; kind = kinds.Whole wholes.U32 }
    ∷ record { unsigned = false; word = codes "uint32_t"; kind = kinds.Whole wholes.U32 }
    ∷ record { unsigned = false; word = codes "int64_t"; kind = kinds.Whole wholes.I64 }
    ∷ record { unsigned = false; word = codes "uint64_t"; kind = kinds.Whole wholes.U64 }
    ∷ record { unsigned = false; word = codes "float"; kind = kinds.Float }
    ∷ record { unsigned = false; word = codes "double"; kind = kinds.Double }
    ∷ []

-- the type that stands beside this name in the list
abbrev pub type_in : List TypeName → Bool → List ℕ → Option Kind
type_in [] unsigned w = None
type_in (t ∷ ts) unsigned w = if beq t.unsigned unsigned && bytes_eq w t.word then Some t.kind else type_in ts unsigned w

-- it is one of all names of types
abbrev pub IsType : TypeName → Type 0
IsType t = type_in types t.unsigned t.word ≡ Some t.kind

-- ---- statements

-- a column: its name, and its length where it has one
pub record Item : Type 0 where
  pub name : List ℕ
  pub length : Option ℕ

-- a type and one or more items: those with a comma behind them, and the last one
pub record FieldLine : Type 0 where
  pub type : TypeName
  pub earlier : List Item
  pub last : Item

-- parameter NAME = TOKEN; with the value that the token is
-- TYPE NAME = TOKEN; likewise
-- char NAME [SIZE] = "text";
-- struct { FIELDS }[SIZE];
pub data Statement : Type 0 where
  Parameter : List ℕ → Lexeme → Value → Statement
  Constant : TypeName → List ℕ → Lexeme → Value → Statement
  Label : TypeName → List ℕ → Option ℕ → Statement
  Struct : List FieldLine → Option ℕ → Statement

-- ---- what makes up a statement

-- a whole number of 0 or more, or nothing
abbrev pub IsSize : Option ℕ → Type 0
IsSize None = Unit {0}
IsSize (Some n) = n < 2 ^ 64

-- a whole number of 1 to 1,024, or nothing
abbrev pub IsLength : Option ℕ → Type 0
IsLength None = Unit {0}
IsLength (Some n) = (1 ≤ n) × (n ≤ max_array_length)

-- each of its items has a good length
abbrev pub AreItems : List Item → Type 0
AreItems [] = Unit {0}
AreItems (i ∷ items) = IsLength i.length × AreItems items

-- each field line has a type and good lengths
abbrev pub AreLines : List FieldLine → Type 0
AreLines [] = Unit {0}
AreLines (l ∷ lines) = (IsType l.type × AreItems l.earlier × IsLength l.last.length) × AreLines lines

-- a parameter takes a number, a text or a word; a value statement a number, which is whole where the type is;
-- a text stands behind `char`
abbrev pub IsStatement : Statement → Type 0
IsStatement (Parameter name token value) = value_of token ≡ Some value
IsStatement (Constant type name token value) = IsType type × (number_for type.kind token ≡ Some value)
IsStatement (Label type name size) = IsType type × (is_char type.kind ≡ true) × IsSize size
IsStatement (Struct lines size) = AreLines lines × IsSize size

-- each of them is a statement
abbrev pub AreStatements : List Statement → Type 0
AreStatements [] = Unit {0}
AreStatements (s ∷ ss) = IsStatement s × AreStatements ss

-- ---- how they are spelled: { is 123, } is 125, [ is 91, ] is 93, ; is 59, = is 61 and , is 44

-- the words of a type
abbrev pub spell_type : TypeName → Spelling → Spelling
spell_type t rest = if t.unsigned then word (codes "unsigned") ∷ word t.word ∷ rest else word t.word ∷ rest

-- a size, or nothing
abbrev pub spell_size : Option ℕ → Spelling → Spelling
spell_size None rest = rest
spell_size (Some n) rest = count n ∷ rest

-- a length in brackets, or nothing
abbrev pub spell_length : Option ℕ → Spelling → Spelling
spell_length None rest = rest
spell_length (Some n) rest = sign 91 ∷ count n ∷ sign 93 ∷ rest

-- a name, and its length if it has one
abbrev pub spell_item : Item → Spelling → Spelling
spell_item i rest = word i.name ∷ spell_length i.length rest

-- items with a comma behind each
abbrev pub spell_earlier : List Item → Spelling → Spelling
spell_earlier [] rest = rest
spell_earlier (i ∷ items) rest = spell_item i (sign 44 ∷ spell_earlier items rest)

-- a type, its items, and the semicolon
abbrev pub spell_line : FieldLine → Spelling → Spelling
spell_line l rest = spell_type l.type (spell_earlier l.earlier (spell_item l.last (sign 59 ∷ rest)))

-- one field line behind the other
abbrev pub spell_lines : List FieldLine → Spelling → Spelling
spell_lines [] rest = rest
spell_lines (l ∷ lines) rest = spell_line l (spell_lines lines rest)

-- the tokens of a statement, by its form
abbrev pub spell : Statement → Spelling → Spelling
spell (Parameter name token value) rest = word (codes "parameter") ∷ word name ∷ sign 61 ∷ Some token ∷ sign 59 ∷ rest
spell (Constant type name token value) rest = spell_type type (word name ∷ sign 61 ∷ Some token ∷ sign 59 ∷ rest)
spell (Label type name size) rest = spell_type type (word name ∷ sign 91 ∷ spell_size size (sign 93 ∷ sign 61 ∷ Some Text ∷ sign 59 ∷ rest))
spell (Struct lines size) rest = word (codes "struct") ∷ sign 123 ∷ spell_lines lines (sign 125 ∷ sign 91 ∷ spell_size size (sign 93 ∷ sign 59 ∷ rest))

-- one statement behind the other
abbrev pub spell_each : List Statement → Spelling → Spelling
spell_each [] rest = rest
spell_each (s ∷ ss) rest = spell s (spell_each ss rest)

-- the tokens are these statements and the end
pub record Spells (tokens : Spelling) (statements : List Statement) : Type 0 where
  pub are : AreStatements statements
  pub spelled : tokens ≡ spell_each statements (Some End ∷ [])

-- ---- what statements say

-- how many values an item has
abbrev pub values_of : Option ℕ → ℕ
values_of None = 1
values_of (Some n) = n

-- the row with one more column, which stands directly behind the one before it
abbrev pub and_item : Kind → Row → Item → Row
and_item kind row i = record {
  fields = row.fields ++ record { name = i.name; kind = kind; offset = row.width; is_array = is_some i.length } ∷ [];
  width = row.width + bytes_of kind * values_of i.length;
}

-- a column has a new name, it is not the 65th, and the row stays within 1,024 bytes
pub record ItemFits (kind : Kind) (row : Row) (i : Item) : Type 0 where
  pub new : has_field i.name row.fields ≡ false
  pub room : (length row.fields == max_columns) ≡ false
  pub narrow : nat_lt max_row_bytes (row.width + bytes_of kind * values_of i.length) ≡ false

-- the row with these columns more
abbrev pub and_items : Kind → Row → List Item → Row
and_items kind row [] = row
and_items kind row (i ∷ items) = and_items kind (and_item kind row i) items

-- each column fits the row of those before it
abbrev pub ItemsFit : Kind → Row → List Item → Type 0
ItemsFit kind row [] = Unit {0}
ItemsFit kind row (i ∷ items) = ItemFits kind row i × ItemsFit kind (and_item kind row i) items

-- the row with the columns of one more field line
abbrev pub and_line : Row → FieldLine → Row
and_line row l = and_item l.type.kind (and_items l.type.kind row l.earlier) l.last

-- the row with the columns of these field lines more
abbrev pub and_lines : Row → List FieldLine → Row
and_lines row [] = row
and_lines row (l ∷ lines) = and_lines (and_line row l) lines

-- each field line fits the row of those before it
abbrev pub LinesFit : Row → List FieldLine → Type 0
LinesFit row [] = Unit {0}
LinesFit row (l ∷ lines) = (ItemsFit l.type.kind row l.earlier × ItemFits l.type.kind (and_items l.type.kind row l.earlier) l.last) × LinesFit (and_line row l) lines

-- what a header says with one more statement
abbrev pub and_statement : Header → Statement → Header
and_statement h (Parameter name token value) = with_param h (record { name = name; value = value })
and_statement h (Constant type name token value) = with_param h (record { name = name; value = value })
and_statement h (Label type name size) = with_param h (record { name = name; value = values.Other })
and_statement h (Struct lines size) = with_struct h (record { row = and_lines no_fields lines; size = size })

-- a statement gives a new name, or is the first struct and its columns fit
abbrev pub Fits : Header → Statement → Type 0
Fits h (Parameter name token value) = is_some (h.given name) ≡ false
Fits h (Constant type name token value) = is_some (h.given name) ≡ false
Fits h (Label type name size) = is_some (h.given name) ≡ false
Fits h (Struct lines size) = (is_some h.table ≡ false) × LinesFit no_fields lines

-- what a header says with these statements more
abbrev pub and_statements : Header → List Statement → Header
and_statements h [] = h
and_statements h (s ∷ ss) = and_statements (and_statement h s) ss

-- each statement fits what those before it say
abbrev pub AllFit : Header → List Statement → Type 0
AllFit h [] = Unit {0}
AllFit h (s ∷ ss) = Fits h s × AllFit (and_statement h s) ss

-- what a header of these statements says
abbrev pub said : List Statement → Header
said ss = and_statements nothing_given ss
