-- The statements of a text, one at a time.
use Rattle.std.proofs.Common.{◌≡◌, ℕ, zero, suc, ◌<◌, true, false, None, Result, Ok, Err, List, length, refl, sym, ◌∙◌, arith}
use Rattle.std.specs.Borrow.{Bor}
use Rattle.std.specs.BTreeMap.{BTreeMap, IsEmpty}
use Rattle.sdf_header.specs.declared.document.Value.{Value}
use Rattle.sdf_tokens.specs.declared.fault.Fault.{Fault}
use Rattle.sdf_header.specs.declared.fault.Stop.{Stop}
use Rattle.sdf_header.specs.declared.fault.Stop.TheVariants as stops
use Rattle.sdf_tokens.specs.Tokens.{Lex, next}
use Rattle.sdf_header.specs.Parts.{Fails, given_of}
use Rattle.sdf_header.specs.Statements.{Header, nothing_given, is_end, statement_at, statements_at, header_in}

-- The statements of rest, behind those of s, end as total says.
pub record Goes (s : Header) (rest : List ℕ) (total : Result (Header) Fault) : Type 0 where
  pub fuel : ℕ
  pub enough : length rest < fuel
  pub same : statements_at fuel s rest ≡ total

-- at first all bytes are the rest
pub start : (s : Header) (bytes : List ℕ) → Goes s bytes (statements_at (suc (length bytes)) s bytes)
start s bytes = record { fuel = suc (length bytes); enough = omega arith; same = refl }

more_n : (n : ℕ) (s t : Header) (bytes after : List ℕ) (l : Lex) (total : Result (Header) Fault) → length bytes < n → statements_at n s bytes ≡ total
    → next bytes ≡ Ok l → is_end l.lexeme ≡ false → statement_at s l ≡ Ok (t, after) → length after < length bytes → Goes t after total
unfolding statements_at
more_n zero s t bytes after l total lt e x isnt i le = absurd (omega arith)
more_n (suc n) s t bytes after l total lt e x isnt i le = record { fuel = n; enough = omega arith; same = rw (x, isnt, i) at e }

-- behind a statement the rest ends as before
pub more : (s t : Header) (bytes after : List ℕ) (l : Lex) (total : Result (Header) Fault) → Goes s bytes total
    → next bytes ≡ Ok l → is_end l.lexeme ≡ false → statement_at s l ≡ Ok (t, after) → length after < length bytes → Goes t after total
more s t bytes after l total g x isnt i le = more_n g.fuel s t bytes after l total g.enough g.same x isnt i le

done_n : (n : ℕ) (s : Header) (bytes : List ℕ) (l : Lex) (total : Result (Header) Fault) → length bytes < n → statements_at n s bytes ≡ total
    → next bytes ≡ Ok l → is_end l.lexeme ≡ true → total ≡ Ok s
unfolding statements_at
done_n zero s bytes l total lt e x is = absurd (omega arith)
done_n (suc n) s bytes l total lt e x is = sym e ∙ rw (x, is) refl

-- the end of the text ends the statements
pub done : (s : Header) (bytes : List ℕ) (l : Lex) (total : Result (Header) Fault) → Goes s bytes total
    → next bytes ≡ Ok l → is_end l.lexeme ≡ true → total ≡ Ok s
done s bytes l total g x is = done_n g.fuel s bytes l total g.enough g.same x is

next_fails_n : (n : ℕ) (s : Header) (bytes : List ℕ) (f : Fault) (total : Result (Header) Fault) → length bytes < n → statements_at n s bytes ≡ total → next bytes ≡ Err f → total ≡ Err f
unfolding statements_at
next_fails_n zero s bytes f total lt e x = absurd (omega arith)
next_fails_n (suc n) s bytes f total lt e x = sym e ∙ rw x refl

-- a fault of the first token of a statement is the answer
pub next_fails : (s : Header) (bytes : List ℕ) (f : Fault) (total : Result (Header) Fault) → Goes s bytes total → next bytes ≡ Err f → total ≡ Err f
next_fails s bytes f total g x = next_fails_n g.fuel s bytes f total g.enough g.same x

step_fails_n : (n : ℕ) (s : Header) (bytes : List ℕ) (l : Lex) (f : Fault) (total : Result (Header) Fault) → length bytes < n → statements_at n s bytes ≡ total → next bytes ≡ Ok l → is_end l.lexeme ≡ false → statement_at s l ≡ Err f → total ≡ Err f
unfolding statements_at
step_fails_n zero s bytes l f total lt e x isnt i = absurd (omega arith)
step_fails_n (suc n) s bytes l f total lt e x isnt i = sym e ∙ rw (x, isnt, i) refl

-- a fault of a statement is the answer
pub step_fails : (s : Header) (bytes : List ℕ) (l : Lex) (f : Fault) (total : Result (Header) Fault) → Goes s bytes total → next bytes ≡ Ok l → is_end l.lexeme ≡ false → statement_at s l ≡ Err f → total ≡ Err f
step_fails s bytes l f total g x isnt i = step_fails_n g.fuel s bytes l f total g.enough g.same x isnt i

-- a statement that fails for any reason ends the statements so
pub step_ends : (e : Stop) (s : Header) (bytes : List ℕ) (l : Lex) (total : Result Header Fault) → Goes s bytes total → next bytes ≡ Ok l → is_end l.lexeme ≡ false → Fails e (statement_at s l) → Fails e total
step_ends stops.Memory s bytes l total g x isnt h = tt
step_ends (stops.Fault f) s bytes l total g x isnt h = step_fails s bytes l f total g x isnt h

-- at first nothing was given and all bytes are the rest
pub begin : (text : List ℕ) → Goes nothing_given text (header_in text)
unfolding header_in
begin text = start nothing_given text

-- an empty map gives nothing to any name
pub none_given : (m : BTreeMap (Bor (List ℕ)) Value) → IsEmpty m → (name : List ℕ) → given_of m name ≡ None
none_given m e name = rw e refl
