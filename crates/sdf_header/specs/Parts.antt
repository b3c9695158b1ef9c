-- The parts that statements are made of. Each function takes the text from a place on, and gives what stands
-- there and the text behind it, or the first fault.
use Rattle.std.specs.Prelude.{◌≡◌, ℕ, ◌^◌, Bool, false, List, Option, Some, None, is_some, Result, Ok, Err, pos, negsuc, nat_lt, ◌==◌, if◌then◌else◌, codes}
use Rattle.std.specs.Str.{bytes_eq}
use Rattle.std.specs.Borrow.{Bor}
use Rattle.std.specs.BTreeMap as tree
use Rattle.std.specs.BTreeMap.{BTreeMap}
use Rattle.std.specs.Cmp.Lexicographic.{slice_cmp}
use Rattle.std.specs.Ordering.{nat_cmp}
use Rattle.sdf_tokens.specs.declared.fault.Fault.{Fault}
use Rattle.sdf_tokens.specs.declared.fault.FaultKind.TheVariants.{UnknownType, NameTwice}
use Rattle.sdf_header.specs.declared.fault.Stop.{Stop}
use Rattle.sdf_header.specs.declared.fault.Stop.TheVariants as stops
use Rattle.sdf_header.specs.declared.kind.Kind.{Kind}
use Rattle.sdf_header.specs.declared.document.Named.{Named}
use Rattle.sdf_header.specs.declared.document.Value.{Value}
use Rattle.sdf_tokens.specs.Tokens.{Lexeme, Word, Number, Text, Sign, End, Lex, next, fault_at, syntax_at, ◌>>=◌}
use Rattle.sdf_header.specs.Types.{kind_named, unsigned_kind}

-- ---- faults at a place

-- the word that stands here begins no type
abbrev pub unknown_type_at : List ℕ → Fault
unknown_type_at = fault_at UnknownType

-- the name that stands here was given before
abbrev pub name_twice_at : List ℕ → Fault
name_twice_at = fault_at NameTwice

-- what is there, or else this fault
abbrev pub or_fault : {A : Type 0} → Fault → Option A → Result A Fault
or_fault f None = Err f
or_fault f (Some x) = Ok x

-- ---- what a function returned

-- it failed for want of memory, or with the fault that is read here
abbrev pub Fails : {Y : Type 0} → Stop → Result Y Fault → Type 0
Fails stops.Memory read = Unit {0}
Fails (stops.Fault f) read = read ≡ Err f

-- seen by view, it is what is read here, unless memory ran out
abbrev pub Gives : {X Y : Type 0} → (X → Y) → Result X Stop → Result Y Fault → Type 0
Gives view (Ok x) read = read ≡ Ok (view x)
Gives view (Err e) read = Fails e read

-- ---- signs, words and names

-- the token is this sign
abbrev pub is_the : ℕ → Lexeme → Bool
is_the s (Sign t) = t == s
is_the s (Word w) = false
is_the s (Number n) = false
is_the s Text = false
is_the s End = false

-- the next token is this sign
unfoldable pub sign_at : ℕ → List ℕ → Result (List ℕ) Fault
sign_at s bytes = do
  l ← next bytes
  if is_the s l.lexeme then Ok l.rest else Err (syntax_at l.start)

-- a name, the text from its first byte on, and the text behind it
pub record Name : Type 0 where
  pub name : List ℕ
  pub start : List ℕ
  pub rest : List ℕ

-- a name of the code
abbrev pub name_of : Named → Name
name_of n = record { name = n.name.now; start = n.start.now; rest = n.rest.now }

-- the word, if the token is one
abbrev pub word_of : Lexeme → Option (List ℕ)
word_of (Word w) = Some w
word_of (Sign t) = None
word_of (Number n) = None
word_of Text = None
word_of End = None

-- the token is a word
abbrev pub named : Lex → Result Name Fault
named l = or_fault (syntax_at l.start) (word_of l.lexeme) >>= λ w. Ok (record { name = w; start = l.start; rest = l.rest })

-- the next token is a word
unfoldable pub word_at : List ℕ → Result Name Fault
word_at bytes = next bytes >>= named

-- what the names have been given so far: None where a name was not given
abbrev pub Names : Type 0
Names = List ℕ → Option Value

-- a map of the code, as what it gives to each name
abbrev pub given_of : BTreeMap (Bor (List ℕ)) Value → Names
given_of m name = tree.get_by (λ k. slice_cmp nat_cmp name k.now) m

-- the next token is a name that no statement gave before
unfoldable pub new_name : Names → List ℕ → Result Name Fault
new_name given bytes = do
  n ← word_at bytes
  if is_some (given n.name) then Err (name_twice_at n.start) else Ok n

-- ---- sizes

-- a whole number of 0 or more
abbrev pub size_of : Lexeme → Option ℕ
size_of (Number (Some (pos n))) = if nat_lt n (2 ^ 64) then Some n else None
size_of (Number (Some (negsuc n))) = None
size_of (Number None) = None
size_of (Word w) = None
size_of Text = None
size_of (Sign t) = None
size_of End = None

-- a size or nothing, and the closing bracket
unfoldable pub size_at : List ℕ → Result (Option ℕ × List ℕ) Fault
size_at bytes = do
  l ← next bytes
  if is_the 93 l.lexeme then Ok (None, l.rest) else (do
    n ← or_fault (syntax_at l.start) (size_of l.lexeme)
    rest ← sign_at 93 l.rest
    Ok (Some n, rest))

-- ---- types

-- the type of `unsigned` and this token
abbrev pub unsigned_type : Lexeme → Option Kind
unsigned_type (Word w) = unsigned_kind w
unsigned_type (Sign t) = None
unsigned_type (Number n) = None
unsigned_type Text = None
unsigned_type End = None

-- behind `unsigned`: the fault is at `unsigned`, also where what follows is no token
abbrev pub unsigned_end : List ℕ → Result Lex Fault → Result (Kind × List ℕ) Fault
unsigned_end start (Err f) = Err (unknown_type_at start)
unsigned_end start (Ok l) = or_fault (unknown_type_at start) (unsigned_type l.lexeme) >>= λ kind. Ok (kind, l.rest)

-- the type that a word begins, and what is behind it
unfoldable pub type_at : Name → Result (Kind × List ℕ) Fault
type_at n =
    if bytes_eq n.name (codes "unsigned") then unsigned_end n.start (next n.rest)
    else (or_fault (unknown_type_at n.start) (kind_named n.name) >>= λ kind. Ok (kind, n.rest))

-- what was read, and the text behind it
abbrev pub second_ref : {A : Type 0} → A × Bor (List ℕ) → A × List ℕ
second_ref x = (x.0, x.1.now)
