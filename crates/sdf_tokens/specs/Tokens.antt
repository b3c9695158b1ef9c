-- The tokens of a text. A text is the list of its bytes from a place to the end place, so a place is known
-- by the number of bytes that are left there.
use Rattle.std.specs.Prelude.{◌≡◌, ◌<◌, ◌≤◌, ℕ, zero, suc, Bool, ◌&&◌, ◌||◌, List, [], ◌∷◌, length, drop, Option, Some, None, Result, Ok, Err, ℤ, nat_le, ◌==◌, if◌then◌else◌}
use Rattle.std.specs.Char.{is_ascii_alphabetic}
use Rattle.sdf_tokens.specs.Limits.{max_text_bytes}
use Rattle.sdf_tokens.specs.Numbers.{begins_with, goes_on_word, in_line, in_text, run, number}
use Rattle.sdf_tokens.specs.declared.fault.Fault.{Fault}
use Rattle.sdf_tokens.specs.declared.fault.FaultKind.{FaultKind}
use Rattle.sdf_tokens.specs.declared.fault.FaultKind.TheVariants.{Syntax}
use Rattle.sdf_tokens.specs.declared.token.Token.{Token}
use Rattle.sdf_tokens.specs.declared.token.Token.TheVariants as declared
use Rattle.sdf_tokens.specs.declared.token.Lexed.{Lexed}

-- a word; a number, with its value where it is whole; a text; a sign; the end of the text
pub data Lexeme : Type 0 where
  Word : List ℕ → Lexeme
  Number : Option ℤ → Lexeme
  Text : Lexeme
  Sign : ℕ → Lexeme
  End : Lexeme

-- a token, the text from its first byte on, and the text behind it
pub record Lex : Type 0 where
  pub lexeme : Lexeme
  pub start : List ℕ
  pub rest : List ℕ

-- ---- how the code's values are seen

-- a token of the code
abbrev pub lexeme_of : Token → Lexeme
lexeme_of (declared.Word w) = Word w.now
lexeme_of (declared.Number n) = Number n
lexeme_of declared.Text = Text
lexeme_of (declared.Sign s) = Sign s
lexeme_of declared.End = End

-- a token of the code with its places
abbrev pub lex_of : Lexed → Lex
lex_of l = record { lexeme = lexeme_of l.token; start = l.start.now; rest = l.rest.now }

-- every token but the end takes a byte or more
abbrev pub Advances : Token → ℕ → ℕ → Type 0
Advances declared.End left before = left ≤ before
Advances (declared.Word w) left before = left < before
Advances (declared.Number n) left before = left < before
Advances declared.Text left before = left < before
Advances (declared.Sign s) left before = left < before

-- ---- steps that may fail

-- what a step reads is handed to the next step, and a fault ends the reading
infixl 10 ◌>>=◌
abbrev pub ◌>>=◌ : {A B : Type 0} → Result A Fault → (A → Result B Fault) → Result B Fault
(Ok x) >>= f = f x
(Err e) >>= f = Err e

-- What a function returned, seen by view, is exactly this.
abbrev pub Is : {X Y : Type 0} → (X → Y) → Result X Fault → Result Y Fault → Type 0
Is view (Ok x) read = read ≡ Ok (view x)
Is view (Err e) read = read ≡ Err e

-- a fault at the first of these bytes, which are left from its place on
abbrev pub fault_at : FaultKind → List ℕ → Fault
fault_at kind bytes = record { kind = kind; left = length bytes }

-- no token begins here, or the token that begins here cannot stand here
abbrev pub syntax_at : List ℕ → Fault
syntax_at = fault_at Syntax

-- ---- bytes

-- space, tab, carriage return, newline, form feed
abbrev pub is_blank : ℕ → Bool
is_blank b = b == 32 || b == 9 || b == 13 || b == 10 || b == 12

-- a letter or _
abbrev pub begins_word : ℕ → Bool
begins_word b = is_ascii_alphabetic b || b == 95

-- { } [ ] ; = ,
abbrev pub is_sign : ℕ → Bool
is_sign b = b == 123 || b == 125 || b == 91 || b == 93 || b == 59 || b == 61 || b == 44

-- ---- blanks and comments

-- behind the first */
unfoldable pub behind_close : List ℕ → Option (List ℕ)
behind_close [] = None
behind_close (b ∷ bytes) = if b == 42 && begins_with 47 bytes then Some (drop 1 bytes) else behind_close bytes

-- a comment that is not closed is a fault at its first byte
abbrev pub comment_end : List ℕ → Option (List ℕ) → Result (Option (List ℕ)) Fault
comment_end start None = Err (syntax_at start)
comment_end start (Some rest) = Ok (Some rest)

-- behind the blank or comment at the front, if there is one
unfoldable pub blank_at : List ℕ → Result (Option (List ℕ)) Fault
blank_at [] = Ok None
blank_at (b ∷ bytes) =
    if is_blank b then Ok (Some bytes)
    else if b == 35 then Ok (Some (run in_line bytes).1)
    else if b == 47 && begins_with 42 bytes then comment_end (b ∷ bytes) (behind_close (drop 1 bytes))
    else Ok None

-- what is there, or else this
abbrev pub or_here : {A B : Type 0} → Option A → B → (A → B) → B
or_here None here f = here
or_here (Some x) here f = f x

-- behind all blanks and comments, of which there are fewer than n
unfoldable pub past_blanks : ℕ → List ℕ → Result (List ℕ) Fault
past_blanks zero bytes = Ok bytes
past_blanks (suc n) bytes = do
  found ← blank_at bytes
  or_here found (Ok bytes) (past_blanks n)

-- ---- tokens

-- a text of at most 4,096 bytes, up to the closing quote
unfoldable pub behind_text : List ℕ → Option (List ℕ)
behind_text bytes =
    let parts = run in_text bytes in
    if begins_with 34 parts.1 && nat_le (length parts.0) max_text_bytes then Some (drop 1 parts.1) else None

-- a text that is not closed or too long is a fault at its quote
abbrev pub text_lex : List ℕ → Option (List ℕ) → Result Lex Fault
text_lex start None = Err (syntax_at start)
text_lex start (Some rest) = Ok (record { lexeme = Text; start = start; rest = rest })

-- a number that breaks a rule, and a byte that begins no token, is a fault there
abbrev pub number_lex : List ℕ → Option (Option ℤ × List ℕ) → Result Lex Fault
number_lex start None = Err (syntax_at start)
number_lex start (Some n) = Ok (record { lexeme = Number n.0; start = start; rest = n.1 })

-- the token whose first byte is the first here
unfoldable pub token_at : List ℕ → Result Lex Fault
token_at [] = Ok (record { lexeme = End; start = []; rest = [] })
token_at (b ∷ bytes) =
    if begins_word b then (let parts = run goes_on_word (b ∷ bytes) in Ok (record { lexeme = Word parts.0; start = b ∷ bytes; rest = parts.1 }))
    else if is_sign b then Ok (record { lexeme = Sign b; start = b ∷ bytes; rest = bytes })
    else if b == 34 then text_lex (b ∷ bytes) (behind_text bytes)
    else number_lex (b ∷ bytes) (number (b ∷ bytes))

-- the next token, behind blanks and comments
unfoldable pub next : List ℕ → Result Lex Fault
next bytes = past_blanks (suc (length bytes)) bytes >>= token_at
