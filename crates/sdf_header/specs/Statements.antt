-- The statements of a header, read from the left up to the first fault.
use Rattle.std.specs.Prelude.{ℕ, zero, suc, Bool, true, false, ◌&&◌, List, length, Option, Some, None, is_some, Result, Ok, Err, ℤ, if◌then◌else◌, codes}
use Rattle.std.specs.Str.{bytes_eq}
use Rattle.std.specs.Borrow.{Bor}
use Rattle.sdf_tokens.specs.declared.fault.Fault.{Fault}
use Rattle.sdf_tokens.specs.declared.fault.FaultKind.TheVariants.{SecondStruct}
use Rattle.sdf_header.specs.declared.kind.Kind.{Kind}
use Rattle.sdf_header.specs.declared.document.Value.{Value}
use Rattle.sdf_header.specs.declared.document.Value.TheVariants as values
use Rattle.sdf_header.specs.declared.document.Given as declared_given
use Rattle.sdf_header.specs.declared.document.Table as declared_table
use Rattle.sdf_header.specs.declared.document.Document as declared_document
use Rattle.sdf_tokens.specs.Tokens.{Lexeme, Word, Number, Text, Sign, End, Lex, next, fault_at, syntax_at, ◌>>=◌}
use Rattle.sdf_header.specs.Types.{is_whole, is_char}
use Rattle.sdf_header.specs.Parts.{or_fault, is_the, sign_at, Name, named, Names, given_of, new_name, size_at, type_at}
use Rattle.sdf_header.specs.Fields.{Struct, struct_of, struct_at}

-- a name that a statement gives, with its value
pub record Param : Type 0 where
  pub name : List ℕ
  pub value : Value

-- the names given so far, and the struct if it was there
pub record Header : Type 0 where
  pub given : Names
  pub table : Option Struct

-- ---- how the code's values are seen

-- a name and value of the code
abbrev pub param_of : declared_given.Given → Param
param_of g = record { name = g.name.now; value = g.value }

-- a name and value of the code, and the text behind them
abbrev pub param_and_rest : declared_given.Given × Bor (List ℕ) → Param × List ℕ
param_and_rest x = (param_of x.0, x.1.now)

-- the struct of the code, if it is there
abbrev pub structs_of : Option declared_table.Table → Option Struct
structs_of None = None
structs_of (Some t) = Some (struct_of t)

-- the statements of the code
abbrev pub header_of : declared_document.Document → Header
header_of d = record { given = given_of d.given; table = structs_of d.table }

-- ---- statements that give a name

-- the value, and the semicolon
unfoldable pub param_end : List ℕ → Value → List ℕ → Result (Param × List ℕ) Fault
param_end name value bytes = do
  rest ← sign_at 59 bytes
  Ok (record { name = name; value = value }, rest)

-- the value of a number
abbrev pub number_value : Option ℤ → Value
number_value None = values.Other
number_value (Some n) = values.Whole n

-- a number, a text or a word
abbrev pub value_of : Lexeme → Option Value
value_of (Number n) = Some (number_value n)
value_of Text = Some values.Other
value_of (Word w) = Some values.Other
value_of (Sign t) = None
value_of End = None

-- behind the word `parameter`: name = value ;
unfoldable pub parameter_at : Names → List ℕ → Result (Param × List ℕ) Fault
parameter_at given bytes = do
  n ← new_name given bytes
  after ← sign_at 61 n.rest
  l ← next after
  value ← or_fault (syntax_at l.start) (value_of l.lexeme)
  param_end n.name value l.rest

-- a number, which is whole where the type is
abbrev pub number_for : Kind → Lexeme → Option Value
number_for kind (Number (Some n)) = Some (values.Whole n)
number_for kind (Number None) = if is_whole kind then None else Some values.Other
number_for kind (Word w) = None
number_for kind Text = None
number_for kind (Sign t) = None
number_for kind End = None

-- the token is a text
abbrev pub is_text : Lexeme → Bool
is_text Text = true
is_text (Word w) = false
is_text (Number n) = false
is_text (Sign t) = false
is_text End = false

-- behind the opening bracket of a text statement: size ] = text ;
unfoldable pub text_at : List ℕ → List ℕ → Result (Param × List ℕ) Fault
text_at name bytes = do
  size ← size_at bytes
  after ← sign_at 61 size.1
  l ← next after
  if is_text l.lexeme then param_end name values.Other l.rest else Err (syntax_at l.start)

-- behind the `=` of a value statement: number ;
unfoldable pub value_at : Kind → List ℕ → List ℕ → Result (Param × List ℕ) Fault
value_at kind name bytes = do
  l ← next bytes
  value ← or_fault (syntax_at l.start) (number_for kind l.lexeme)
  param_end name value l.rest

-- behind the type of a value or text statement
unfoldable pub declaration_at : Kind → Names → List ℕ → Result (Param × List ℕ) Fault
declaration_at kind given bytes = do
  n ← new_name given bytes
  l ← next n.rest
  if is_the 61 l.lexeme then value_at kind n.name l.rest
      else if is_the 91 l.lexeme && is_char kind then text_at n.name l.rest
      else Err (syntax_at l.start)

-- ---- the whole text

-- the names given so far, and this one
abbrev pub and_given : Names → Param → Names
and_given given p name = if bytes_eq p.name name then Some p.value else given name

-- the header so far, and one more name
abbrev pub with_param : Header → Param → Header
with_param h p = record { given = and_given h.given p; table = h.table }

-- the header so far, and the struct
abbrev pub with_struct : Header → Struct → Header
with_struct h t = record { given = h.given; table = Some t }

-- the word `struct` that stands here begins a second struct
abbrev pub second_struct_at : List ℕ → Fault
second_struct_at = fault_at SecondStruct

-- behind the word `parameter`: one more name
abbrev pub parameter_statement : Header → List ℕ → Result (Header × List ℕ) Fault
parameter_statement h bytes = parameter_at h.given bytes >>= λ p. Ok (with_param h p.0, p.1)

-- at the word `struct`: the struct, if none was there before
abbrev pub struct_statement : Header → Name → Result (Header × List ℕ) Fault
struct_statement h n =
    if is_some h.table then Err (second_struct_at n.start) else (struct_at n.rest >>= λ t. Ok (with_struct h t.0, t.1))

-- at the first word of a type: one more name
abbrev pub typed_statement : Header → Name → Result (Header × List ℕ) Fault
typed_statement h n = do
  kind ← type_at n
  p ← declaration_at kind.0 h.given kind.1
  Ok (with_param h p.0, p.1)

-- the statement whose first token is l
unfoldable pub statement_at : Header → Lex → Result (Header × List ℕ) Fault
statement_at h l = do
  n ← named l
  if bytes_eq n.name (codes "parameter") then parameter_statement h n.rest
      else if bytes_eq n.name (codes "struct") then struct_statement h n
      else typed_statement h n

-- the token is the end of the text
abbrev pub is_end : Lexeme → Bool
is_end End = true
is_end (Word w) = false
is_end (Number n) = false
is_end Text = false
is_end (Sign t) = false

-- statements, fewer than n, up to the end
unfoldable pub statements_at : ℕ → Header → List ℕ → Result Header Fault
statements_at zero h bytes = Ok h
statements_at (suc n) h bytes = do
  l ← next bytes
  if is_end l.lexeme then Ok h else (do
    one ← statement_at h l
    statements_at n one.0 one.1)

-- the header before the first statement
abbrev pub nothing_given : Header
nothing_given = record { given = λ name. None; table = None }

-- the header that a text is, or its first fault by place
unfoldable pub header_in : List ℕ → Result Header Fault
header_in text = statements_at (suc (length text)) nothing_given text
