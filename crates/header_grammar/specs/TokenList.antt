-- The tokens of a text as one list. Each token stands there with its place, which is the number of bytes in
-- front of it; the last one is the end of the text, or the first piece of no form.
use Rattle.std.specs.Prelude.{ℕ, zero, suc, ◌-◌, List, [], ◌∷◌, length, Option, Some, None, Result, Ok, Err}
use Rattle.sdf_tokens.specs.declared.fault.Fault.{Fault}
use Rattle.sdf_tokens.specs.Tokens.{Lexeme, End, Lex, blank_at, token_at}

-- a token and its place; a piece of no form is no lexeme
pub record Token : Type 0 where
  pub lexeme : Option Lexeme
  pub place : ℕ

-- what begins at a place, and how many bytes of it stand behind its first byte: a blank or a comment, a token,
-- or a piece of no form
pub data Piece : Type 0 where
  Blank : ℕ → Piece
  Whole : Lexeme → ℕ → Piece
  NoForm : Piece

-- the piece that a token is
abbrev pub token_piece : List ℕ → Result Lex Fault → Piece
token_piece bytes (Err f) = NoForm
token_piece bytes (Ok l) = Whole l.lexeme (length bytes - length l.rest)

-- the piece that begins with this byte, if it is a blank or comment, or else a token
abbrev pub piece : ℕ → List ℕ → Result (Option (List ℕ)) Fault → Piece
piece b bytes (Err f) = NoForm
piece b bytes (Ok (Some rest)) = Blank (length bytes - length rest)
piece b bytes (Ok None) = token_piece bytes (token_at (b ∷ bytes))

-- the piece that begins with this byte
abbrev pub piece_at : ℕ → List ℕ → Piece
piece_at b bytes = piece b bytes (blank_at (b ∷ bytes))

-- the token that begins here, in a text of this length
abbrev pub token : ℕ → Option Lexeme → List ℕ → Token
token size lexeme start = record { lexeme = lexeme; place = size - length start }

-- the tokens from here on, in a text of this length, where so many bytes still belong to the piece before
unfoldable pub tokens_behind : ℕ → List ℕ → ℕ → List Token
tokens_behind size [] inside = token size (Some End) [] ∷ []
tokens_behind size (b ∷ bytes) (suc inside) = tokens_behind size bytes inside
tokens_behind size (b ∷ bytes) zero =
    elim (piece_at b bytes) [
      | Blank n ↦ tokens_behind size bytes n
      | Whole lexeme n ↦ token size (Some lexeme) (b ∷ bytes) ∷ tokens_behind size bytes n
      | NoForm ↦ token size None (b ∷ bytes) ∷ []
    ]

-- the tokens of a text
abbrev pub tokens : List ℕ → List Token
tokens text = tokens_behind (length text) text 0
