-- What may follow the tokens so far. The tokens lead from state to state, up to the end or the first fault.
use Rattle.std.proofs.Common.{ℕ, ◌+◌, ◌*◌, Bool, true, false, ◌&&◌, List, [], ◌∷◌, ◌++◌, length, Option, Some, None, Result, Ok, Err}
use Rattle.std.specs.Prelude.{option_and_then, if◌then◌else◌, is_some, codes, nat_lt, ◌==◌}
use Rattle.std.specs.Str.{bytes_eq}
use Rattle.hot_units.specs.Limits.{max_columns, max_row_bytes}
use Rattle.sdf_tokens.specs.declared.fault.FaultKind.{FaultKind}
use Rattle.sdf_tokens.specs.declared.fault.FaultKind.TheVariants as faults
use Rattle.sdf_header.specs.declared.kind.Kind.{Kind}
use Rattle.sdf_header.specs.declared.document.Value.{Value}
use Rattle.sdf_header.specs.declared.document.Value.TheVariants as values
use Rattle.sdf_tokens.specs.Tokens.{Lexeme}
use Rattle.header_grammar.specs.TokenList.{Token}
use Rattle.sdf_header.specs.Types.{kind_named, bytes_of, is_char}
use Rattle.sdf_header.specs.Parts.{is_the, word_of, size_of, unsigned_type}
use Rattle.sdf_header.specs.Fields.{Row, has_field, length_of, no_fields}
use Rattle.sdf_header.specs.Statements.{Header, with_param, with_struct, value_of, number_for, is_text, is_end}

-- a fault and its place
pub record Halt : Type 0 where
  pub kind : FaultKind
  pub place : ℕ

-- what may follow: each state keeps what the tokens so far said
pub data State : Type 0 where
  Done : Header → State
  Start : Header → State
  Wants : ℕ → State → State
  ParamName : Header → State
  ParamValue : Header → List ℕ → State
  Unsigned : Header → ℕ → State
  Typed : Header → Kind → State
  Named : Header → Kind → List ℕ → State
  NumberFor : Header → Kind → List ℕ → State
  TextSize : Header → List ℕ → State
  TextValue : Header → List ℕ → State
  Fields : Header → Row → State
  FieldUnsigned : Header → Row → ℕ → State
  Item : Header → Row → Kind → State
  ItemName : Header → Row → Kind → List ℕ → ℕ → State
  Length : Header → Row → Kind → List ℕ → ℕ → State
  ItemEnd : Header → Row → Kind → State
  StructSize : Header → Row → State

-- a run halts by this fault at this place
abbrev pub halt : {A : Type 0} → FaultKind → ℕ → Result A Halt
halt kind place = Err (record { kind = kind; place = place })

-- what is wanted is there, or else this is a fault of the syntax
abbrev pub wanted : {A : Type 0} → ℕ → Option A → (A → Result State Halt) → Result State Halt
wanted place None f = halt faults.Syntax place
wanted place (Some x) f = f x

-- the token is this sign
abbrev pub has : ℕ → Option Lexeme → Bool
has s None = false
has s (Some x) = is_the s x

-- the token is the end
abbrev pub ends : Option Lexeme → Bool
ends None = false
ends (Some x) = is_end x

-- the word that a token is, if it is one
abbrev pub word_in : Option Lexeme → Option (List ℕ)
word_in x = option_and_then word_of x

-- the row with one more field, unless that makes it too wide
abbrev pub widened : Row → Kind → List ℕ → ℕ → Bool → Option Row
widened row kind name n is_array =
    if nat_lt max_row_bytes (row.width + bytes_of kind * n) then None
    else Some (record {
      fields = row.fields ++ record { name = name; kind = kind; offset = row.width; is_array = is_array } ∷ [];
      width = row.width + bytes_of kind * n;
    })

-- or else this fault
abbrev pub or_halt : {A : Type 0} → FaultKind → ℕ → Option A → (A → Result State Halt) → Result State Halt
or_halt kind place None f = halt kind place
or_halt kind place (Some x) f = f x

-- behind the value of a parameter or a declaration
abbrev pub given : Header → List ℕ → Value → State
given h name value = Wants 59 (Start (with_param h (record { name = name; value = value })))

-- behind the closing bracket of a struct
abbrev pub closed : Header → Row → Option ℕ → State
closed h row size = Wants 59 (Start (with_struct h (record { row = row; size = size })))

-- at a word that begins a type
abbrev pub on_type : ℕ → (Kind → State) → State → List ℕ → Result State Halt
on_type place typed unsigned w =
    if bytes_eq w (codes "unsigned") then Ok unsigned
    else or_halt faults.UnknownType place (kind_named w) (λ kind. Ok (typed kind))

-- at the first word of a statement
abbrev pub on_statement : Header → ℕ → List ℕ → Result State Halt
on_statement h place w =
    if bytes_eq w (codes "parameter") then Ok (ParamName h)
    else if bytes_eq w (codes "struct") then (if is_some h.table then halt faults.SecondStruct place else Ok (Wants 123 (Fields h no_fields)))
    else on_type place (Typed h) (Unsigned h place) w

-- at the name of a statement
abbrev pub on_name : Header → ℕ → (List ℕ → State) → List ℕ → Result State Halt
on_name h place named w = if is_some (h.given w) then halt faults.NameTwice place else Ok (named w)

-- behind an item: the semicolon or a comma
abbrev pub on_item_end : Header → Row → Kind → Token → Result State Halt
on_item_end h row kind t =
    if has 59 t.lexeme then Ok (Fields h row) else if has 44 t.lexeme then Ok (Item h row kind) else halt faults.Syntax t.place

-- at the name of a column
abbrev pub on_item : Header → Row → Kind → ℕ → List ℕ → Result State Halt
on_item h row kind place w =
    if has_field w row.fields then halt faults.NameTwice place
    else if length row.fields == max_columns then halt faults.TooWide place
    else Ok (ItemName h row kind w place)

-- a text, if the token is one
abbrev pub text_in : Lexeme → Option Unit
text_in x = if is_text x then Some tt else None

-- one token
abbrev pub step : State → Token → Result State Halt
step (Done h) t = halt faults.Syntax t.place
step (Start h) t = if ends t.lexeme then Ok (Done h) else wanted t.place (word_in t.lexeme) (on_statement h t.place)
step (Wants s after) t = if has s t.lexeme then Ok after else halt faults.Syntax t.place
step (ParamName h) t = wanted t.place (word_in t.lexeme) (on_name h t.place (λ w. Wants 61 (ParamValue h w)))
step (ParamValue h name) t = wanted t.place (option_and_then value_of t.lexeme) (λ v. Ok (given h name v))
step (Unsigned h place) t = or_halt faults.UnknownType place (option_and_then unsigned_type t.lexeme) (λ kind. Ok (Typed h kind))
step (Typed h kind) t = wanted t.place (word_in t.lexeme) (on_name h t.place (λ w. Named h kind w))
step (Named h kind name) t = if has 61 t.lexeme then Ok (NumberFor h kind name) else if has 91 t.lexeme && is_char kind then Ok (TextSize h name) else halt faults.Syntax t.place
step (NumberFor h kind name) t = wanted t.place (option_and_then (number_for kind) t.lexeme) (λ v. Ok (given h name v))
step (TextSize h name) t = if has 93 t.lexeme then Ok (Wants 61 (TextValue h name)) else wanted t.place (option_and_then size_of t.lexeme) (λ n. Ok (Wants 93 (Wants 61 (TextValue h name))))
step (TextValue h name) t = wanted t.place (option_and_then text_in t.lexeme) (λ v. Ok (given h name values.Other))
step (Fields h row) t = if has 125 t.lexeme then Ok (Wants 91 (StructSize h row)) else wanted t.place (word_in t.lexeme) (on_type t.place (Item h row) (FieldUnsigned h row t.place))
step (FieldUnsigned h row place) t = or_halt faults.UnknownType place (option_and_then unsigned_type t.lexeme) (λ kind. Ok (Item h row kind))
step (Item h row kind) t = wanted t.place (word_in t.lexeme) (on_item h row kind t.place)
step (ItemName h row kind name place) t =
    if has 91 t.lexeme then Ok (Length h row kind name place)
    else or_halt faults.TooWide place (widened row kind name 1 false) (λ wider. on_item_end h wider kind t)
step (Length h row kind name place) t =
    wanted t.place (option_and_then length_of t.lexeme) (λ n. or_halt faults.TooWide place (widened row kind name n true) (λ wider. Ok (Wants 93 (ItemEnd h wider kind))))
step (ItemEnd h row kind) t = on_item_end h row kind t
step (StructSize h row) t = if has 93 t.lexeme then Ok (closed h row None) else wanted t.place (option_and_then size_of t.lexeme) (λ n. Ok (Wants 93 (closed h row (Some n))))

-- a step and those behind it
abbrev pub and_then : Result State Halt → (State → Result State Halt) → Result State Halt
and_then (Ok s) f = f s
and_then (Err e) f = Err e

-- all tokens
unfoldable pub goes : State → List Token → Result State Halt
goes s [] = Ok s
goes s (t ∷ ts) = and_then (step s t) (λ s. goes s ts)
