-- The field lines of a struct, one at a time.
use Rattle.std.proofs.Common.{◌≡◌, ℕ, zero, suc, ◌<◌, true, false, Result, Ok, Err, List, length, refl, sym, ◌∙◌, arith}
use Rattle.sdf_tokens.specs.declared.fault.Fault.{Fault}
use Rattle.sdf_header.specs.declared.fault.Stop.{Stop}
use Rattle.sdf_header.specs.declared.fault.Stop.TheVariants as stops
use Rattle.sdf_tokens.specs.Tokens.{Lex, next}
use Rattle.sdf_header.specs.Parts.{Fails, is_the}
use Rattle.sdf_header.specs.Fields.{Row, line_at, lines_at}

-- The field lines of rest, behind those of s, end as total says.
pub record Goes (s : Row) (rest : List ℕ) (total : Result (Row × List ℕ) Fault) : Type 0 where
  pub fuel : ℕ
  pub enough : length rest < fuel
  pub same : lines_at fuel s rest ≡ total

-- at first all bytes are the rest
pub start : (s : Row) (bytes : List ℕ) → Goes s bytes (lines_at (suc (length bytes)) s bytes)
start s bytes = record { fuel = suc (length bytes); enough = omega arith; same = refl }

more_n : (n : ℕ) (s t : Row) (bytes after : List ℕ) (l : Lex) (total : Result (Row × List ℕ) Fault) → length bytes < n → lines_at n s bytes ≡ total
    → next bytes ≡ Ok l → is_the 125 l.lexeme ≡ false → line_at s l ≡ Ok (t, after) → length after < length bytes → Goes t after total
unfolding lines_at
more_n zero s t bytes after l total lt e x isnt i le = absurd (omega arith)
more_n (suc n) s t bytes after l total lt e x isnt i le = record { fuel = n; enough = omega arith; same = rw (x, isnt, i) at e }

-- behind a field line the rest ends as before
pub more : (s t : Row) (bytes after : List ℕ) (l : Lex) (total : Result (Row × List ℕ) Fault) → Goes s bytes total
    → next bytes ≡ Ok l → is_the 125 l.lexeme ≡ false → line_at s l ≡ Ok (t, after) → length after < length bytes → Goes t after total
more s t bytes after l total g x isnt i le = more_n g.fuel s t bytes after l total g.enough g.same x isnt i le

done_n : (n : ℕ) (s : Row) (bytes : List ℕ) (l : Lex) (total : Result (Row × List ℕ) Fault) → length bytes < n → lines_at n s bytes ≡ total
    → next bytes ≡ Ok l → is_the 125 l.lexeme ≡ true → total ≡ Ok (s, l.rest)
unfolding lines_at
done_n zero s bytes l total lt e x is = absurd (omega arith)
done_n (suc n) s bytes l total lt e x is = sym e ∙ rw (x, is) refl

-- the closing brace ends the lines
pub done : (s : Row) (bytes : List ℕ) (l : Lex) (total : Result (Row × List ℕ) Fault) → Goes s bytes total
    → next bytes ≡ Ok l → is_the 125 l.lexeme ≡ true → total ≡ Ok (s, l.rest)
done s bytes l total g x is = done_n g.fuel s bytes l total g.enough g.same x is

next_fails_n : (n : ℕ) (s : Row) (bytes : List ℕ) (f : Fault) (total : Result (Row × List ℕ) Fault) → length bytes < n → lines_at n s bytes ≡ total → next bytes ≡ Err f → total ≡ Err f
unfolding lines_at
next_fails_n zero s bytes f total lt e x = absurd (omega arith)
next_fails_n (suc n) s bytes f total lt e x = sym e ∙ rw x refl

-- a fault of the first token of a line is the answer
pub next_fails : (s : Row) (bytes : List ℕ) (f : Fault) (total : Result (Row × List ℕ) Fault) → Goes s bytes total → next bytes ≡ Err f → total ≡ Err f
next_fails s bytes f total g x = next_fails_n g.fuel s bytes f total g.enough g.same x

step_fails_n : (n : ℕ) (s : Row) (bytes : List ℕ) (l : Lex) (f : Fault) (total : Result (Row × List ℕ) Fault) → length bytes < n → lines_at n s bytes ≡ total → next bytes ≡ Ok l → is_the 125 l.lexeme ≡ false → line_at s l ≡ Err f → total ≡ Err f
unfolding lines_at
step_fails_n zero s bytes l f total lt e x isnt i = absurd (omega arith)
step_fails_n (suc n) s bytes l f total lt e x isnt i = sym e ∙ rw (x, isnt, i) refl

-- a fault of a field line is the answer
pub step_fails : (s : Row) (bytes : List ℕ) (l : Lex) (f : Fault) (total : Result (Row × List ℕ) Fault) → Goes s bytes total → next bytes ≡ Ok l → is_the 125 l.lexeme ≡ false → line_at s l ≡ Err f → total ≡ Err f
step_fails s bytes l f total g x isnt i = step_fails_n g.fuel s bytes l f total g.enough g.same x isnt i

-- a field line that fails for any reason ends the lines so
pub step_ends : (e : Stop) (s : Row) (bytes : List ℕ) (l : Lex) (total : Result (Row × List ℕ) Fault) → Goes s bytes total → next bytes ≡ Ok l → is_the 125 l.lexeme ≡ false → Fails e (line_at s l) → Fails e total
step_ends stops.Memory s bytes l total g x isnt h = tt
step_ends (stops.Fault f) s bytes l total g x isnt h = step_fails s bytes l f total g x isnt h
