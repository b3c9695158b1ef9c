-- The token that decides a fault of the text, by the tokens before it and behind it.
use Rattle.std.specs.Prelude.{◌≡◌, ℕ, ◌+◌, ◌*◌, true, false, List, [], ◌∷◌, ◌++◌, ◌⊎◌, length, Option, Some, is_some, nat_lt, ◌==◌, codes}
use Rattle.hot_units.specs.Limits.{max_columns, max_row_bytes}
use Rattle.sdf_tokens.specs.declared.fault.FaultKind.{FaultKind}
use Rattle.sdf_tokens.specs.declared.fault.FaultKind.TheVariants as faults
use Rattle.sdf_tokens.specs.Tokens.{Lexeme}
use Rattle.header_grammar.specs.TokenList.{Token, tokens}
use Rattle.sdf_header.specs.Types.{bytes_of}
use Rattle.sdf_header.specs.Fields.{Row, has_field, no_fields}
use Rattle.sdf_header.specs.Statements.{Header, nothing_given}
use Rattle.header_grammar.specs.Grammar.{Spelling, spelling, word, sign, count, TypeName, IsType, Item, FieldLine, Statement, IsLength, AreItems, AreLines, AreStatements, spell_type, spell_earlier, spell_lines, spell_each, Spells, and_items, ItemsFit, and_lines, LinesFit, AllFit, said}

-- the tokens can go on to statements
pub record Continues (tokens : Spelling) : Type 0 where
  pub more : Spelling
  pub statements : List Statement
  pub spells : Spells (tokens ++ more) statements

-- the tokens can go on to statements, but not with this one
abbrev pub Stops : Spelling → Option Lexeme → Type 0
Stops before x = Continues before × (Continues (before ++ x ∷ []) → ⊥)

-- a type can stand behind the tokens
abbrev pub TypeWanted : Spelling → Type 0
TypeWanted before = Continues (before ++ word (codes "unsigned") ∷ word (codes "int") ∷ [])

-- the last of the tokens is `unsigned`, where a type is wanted
abbrev pub BehindUnsigned : Spelling → Type 0
BehindUnsigned before = (front : Spelling) × (before ≡ front ++ word (codes "unsigned") ∷ []) × TypeWanted front

-- a word stands where a type is wanted
abbrev pub IsTypeWord : Spelling → Option Lexeme → Type 0
IsTypeWord before x = (w : List ℕ) × (x ≡ word w) × TypeWanted before

-- the tokens are whole statements that fit, and a part of one more
pub record StandsBehind (before : Spelling) (statements : List Statement) (part : Spelling) : Type 0 where
  pub are : AreStatements statements
  pub fit : AllFit nothing_given statements
  pub spelled : before ≡ spell_each statements part

-- `parameter` or a type, behind which the name of a statement stands
abbrev pub IsLead : Spelling → Type 0
IsLead part = (part ≡ word (codes "parameter") ∷ []) ⊎ ((type : TypeName) × IsType type × (part ≡ spell_type type []))

-- the name of a statement stands behind the tokens, and the statements before gave it
pub record NameGiven (before : Spelling) (name : List ℕ) : Type 0 where
  pub statements : List Statement
  pub part : Spelling
  pub lead : IsLead part
  pub behind : StandsBehind before statements part
  pub given : is_some ((said statements).given name) ≡ true

-- the name of a column of this type stands behind the tokens, and the columns before it make this row
pub record ColumnStands (before : Spelling) (type : TypeName) (row : Row) : Type 0 where
  pub statements : List Statement
  pub lines : List FieldLine
  pub earlier : List Item
  pub behind : StandsBehind before statements (word (codes "struct") ∷ sign 123 ∷ spell_lines lines (spell_type type (spell_earlier earlier [])))
  pub first : is_some (said statements).table ≡ false
  pub is : IsType type
  pub lines_are : AreLines lines
  pub lines_fit : LinesFit no_fields lines
  pub items_are : AreItems earlier
  pub items_fit : ItemsFit type.kind (and_lines no_fields lines) earlier
  pub row_is : and_items type.kind (and_lines no_fields lines) earlier ≡ row

-- a column with these tokens behind its name has so many values: one where no bracket stands there, and else
-- its length, if that is good
pub data HasValues : Spelling → ℕ → Type 0 where
  Plain : (x : Option Lexeme) (more : Spelling) → (x ≡ sign 91 → ⊥) → HasValues (x ∷ more) 1
  Array : (n : ℕ) (more : Spelling) → IsLength (Some n) → HasValues (sign 91 ∷ count n ∷ more) n

-- the name is the 65th column's, or that of one with which the row has more than 1,024 bytes
pub record IsTooWide (before after : Spelling) (name : List ℕ) : Type 0 where
  pub type : TypeName
  pub row : Row
  pub column : ColumnStands before type row
  pub new : has_field name row.fields ≡ false
  pub wide : ((length row.fields == max_columns) ≡ true) ⊎ ((n : ℕ) × HasValues after n × (nat_lt max_row_bytes (row.width + bytes_of type.kind * n) ≡ true))

-- a word stops where a type is wanted; or `unsigned` stands there, and the token behind it stops
abbrev pub IsNoType : Spelling → Option Lexeme → Spelling → Type 0
IsNoType before x after =
    (Stops before x × IsTypeWord before x × (BehindUnsigned before → ⊥))
    ⊎ ((x ≡ word (codes "unsigned")) × TypeWanted before × (y : Option Lexeme) × (more : Spelling) × (after ≡ y ∷ more) × Stops (before ++ x ∷ []) y)

-- the token decides a fault of this kind; of the syntax where it stops and that is no fault of a type
abbrev pub Decides : FaultKind → Spelling → Option Lexeme → Spelling → Type 0
Decides faults.Syntax before x after = Stops before x × (IsTypeWord before x → ⊥) × (BehindUnsigned before → ⊥)
Decides faults.UnknownType before x after = IsNoType before x after
Decides faults.NameTwice before x after = (name : List ℕ) × (x ≡ word name) × (NameGiven before name ⊎ ((type : TypeName) × (row : Row) × ColumnStands before type row × (has_field name row.fields ≡ true)))
Decides faults.SecondStruct before x after = (x ≡ word (codes "struct")) × (statements : List Statement) × StandsBehind before statements [] × (is_some (said statements).table ≡ true)
Decides faults.TooWide before x after = (name : List ℕ) × (x ≡ word name) × IsTooWide before after name

-- a token of the text at this place decides a fault of this kind
pub record FaultAt (text : List ℕ) (kind : FaultKind) (place : ℕ) : Type 0 where
  pub before : List Token
  pub token : Token
  pub after : List Token
  pub is : tokens text ≡ before ++ token ∷ after
  pub stands : token.place ≡ place
  pub decides : Decides kind (spelling before) token.lexeme (spelling after)

-- the tokens of the text are statements that fit, and this is what they say
pub record IsHeader (text : List ℕ) (header : Header) : Type 0 where
  pub statements : List Statement
  pub spells : Spells (spelling (tokens text)) statements
  pub fit : AllFit nothing_given statements
  pub say : said statements ≡ header
