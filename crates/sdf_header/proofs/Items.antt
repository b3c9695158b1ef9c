-- The items of a field line, one at a time.
use Rattle.std.proofs.Common.{◌≡◌, ℕ, zero, suc, ◌<◌, true, false, Result, Ok, Err, List, length, refl, sym, ◌∙◌, arith}
use Rattle.sdf_tokens.specs.declared.fault.Fault.{Fault}
use Rattle.sdf_header.specs.declared.kind.Kind.{Kind}
use Rattle.sdf_header.specs.declared.fault.Stop.{Stop}
use Rattle.sdf_header.specs.declared.fault.Stop.TheVariants as stops
use Rattle.sdf_tokens.specs.Tokens.{Lex, next, syntax_at}
use Rattle.sdf_header.specs.Parts.{Fails, is_the}
use Rattle.sdf_header.specs.Fields.{Row, item_at, items_at}

-- The items of rest, behind those of row, end as total says.
pub record Goes (kind : Kind) (row : Row) (rest : List ℕ) (total : Result (Row × List ℕ) Fault) : Type 0 where
  pub fuel : ℕ
  pub enough : length rest < fuel
  pub same : items_at fuel kind row rest ≡ total

-- at first all bytes are the rest
pub start : (kind : Kind) (row : Row) (bytes : List ℕ) → Goes kind row bytes (items_at (suc (length bytes)) kind row bytes)
start kind row bytes = record { fuel = suc (length bytes); enough = omega arith; same = refl }

more_n : (n : ℕ) (kind : Kind) (row wider : Row) (bytes after : List ℕ) (l : Lex) (total : Result (Row × List ℕ) Fault) → length bytes < n → items_at n kind row bytes ≡ total
    → item_at row kind bytes ≡ Ok (wider, after) → next after ≡ Ok l → is_the 59 l.lexeme ≡ false → is_the 44 l.lexeme ≡ true → length l.rest < length bytes → Goes kind wider l.rest total
unfolding items_at
more_n zero kind row wider bytes after l total lt e i x isnt is le = absurd (omega arith)
more_n (suc n) kind row wider bytes after l total lt e i x isnt is le = record { fuel = n; enough = omega arith; same = rw (i, x, isnt, is) at e }

-- behind an item and a comma the rest ends as before
pub more : (kind : Kind) (row wider : Row) (bytes after : List ℕ) (l : Lex) (total : Result (Row × List ℕ) Fault) → Goes kind row bytes total
    → item_at row kind bytes ≡ Ok (wider, after) → next after ≡ Ok l → is_the 59 l.lexeme ≡ false → is_the 44 l.lexeme ≡ true → length l.rest < length bytes → Goes kind wider l.rest total
more kind row wider bytes after l total g i x isnt is le = more_n g.fuel kind row wider bytes after l total g.enough g.same i x isnt is le

done_n : (n : ℕ) (kind : Kind) (row wider : Row) (bytes after : List ℕ) (l : Lex) (total : Result (Row × List ℕ) Fault) → length bytes < n → items_at n kind row bytes ≡ total
    → item_at row kind bytes ≡ Ok (wider, after) → next after ≡ Ok l → is_the 59 l.lexeme ≡ true → total ≡ Ok (wider, l.rest)
unfolding items_at
done_n zero kind row wider bytes after l total lt e i x is = absurd (omega arith)
done_n (suc n) kind row wider bytes after l total lt e i x is = sym e ∙ rw (i, x, is) refl

-- an item and the semicolon are the answer
pub done : (kind : Kind) (row wider : Row) (bytes after : List ℕ) (l : Lex) (total : Result (Row × List ℕ) Fault) → Goes kind row bytes total
    → item_at row kind bytes ≡ Ok (wider, after) → next after ≡ Ok l → is_the 59 l.lexeme ≡ true → total ≡ Ok (wider, l.rest)
done kind row wider bytes after l total g i x is = done_n g.fuel kind row wider bytes after l total g.enough g.same i x is

no_sign_n : (n : ℕ) (kind : Kind) (row wider : Row) (bytes after : List ℕ) (l : Lex) (total : Result (Row × List ℕ) Fault) → length bytes < n → items_at n kind row bytes ≡ total
    → item_at row kind bytes ≡ Ok (wider, after) → next after ≡ Ok l → is_the 59 l.lexeme ≡ false → is_the 44 l.lexeme ≡ false → total ≡ Err (syntax_at l.start)
unfolding items_at
no_sign_n zero kind row wider bytes after l total lt e i x isnt neither = absurd (omega arith)
no_sign_n (suc n) kind row wider bytes after l total lt e i x isnt neither = sym e ∙ rw (i, x, isnt, neither) refl

-- an item without either sign behind it is a fault of the syntax
pub no_sign : (kind : Kind) (row wider : Row) (bytes after : List ℕ) (l : Lex) (total : Result (Row × List ℕ) Fault) → Goes kind row bytes total
    → item_at row kind bytes ≡ Ok (wider, after) → next after ≡ Ok l → is_the 59 l.lexeme ≡ false → is_the 44 l.lexeme ≡ false → total ≡ Err (syntax_at l.start)
no_sign kind row wider bytes after l total g i x isnt neither = no_sign_n g.fuel kind row wider bytes after l total g.enough g.same i x isnt neither

item_fails_n : (n : ℕ) (kind : Kind) (row : Row) (bytes : List ℕ) (f : Fault) (total : Result (Row × List ℕ) Fault) → length bytes < n → items_at n kind row bytes ≡ total → item_at row kind bytes ≡ Err f → total ≡ Err f
unfolding items_at
item_fails_n zero kind row bytes f total lt e i = absurd (omega arith)
item_fails_n (suc n) kind row bytes f total lt e i = sym e ∙ rw i refl

-- a fault of an item is the answer
pub item_fails : (kind : Kind) (row : Row) (bytes : List ℕ) (f : Fault) (total : Result (Row × List ℕ) Fault) → Goes kind row bytes total → item_at row kind bytes ≡ Err f → total ≡ Err f
item_fails kind row bytes f total g i = item_fails_n g.fuel kind row bytes f total g.enough g.same i

next_fails_n : (n : ℕ) (kind : Kind) (row wider : Row) (bytes after : List ℕ) (f : Fault) (total : Result (Row × List ℕ) Fault) → length bytes < n → items_at n kind row bytes ≡ total → item_at row kind bytes ≡ Ok (wider, after) → next after ≡ Err f → total ≡ Err f
unfolding items_at
next_fails_n zero kind row wider bytes after f total lt e i x = absurd (omega arith)
next_fails_n (suc n) kind row wider bytes after f total lt e i x = sym e ∙ rw (i, x) refl

-- a fault of the token behind an item is the answer
pub next_fails : (kind : Kind) (row wider : Row) (bytes after : List ℕ) (f : Fault) (total : Result (Row × List ℕ) Fault) → Goes kind row bytes total → item_at row kind bytes ≡ Ok (wider, after) → next after ≡ Err f → total ≡ Err f
next_fails kind row wider bytes after f total g i x = next_fails_n g.fuel kind row wider bytes after f total g.enough g.same i x

-- an item that fails for any reason ends the items so
pub item_ends : (e : Stop) (kind : Kind) (row : Row) (bytes : List ℕ) (total : Result (Row × List ℕ) Fault) → Goes kind row bytes total → Fails e (item_at row kind bytes) → Fails e total
item_ends stops.Memory kind row bytes total g h = tt
item_ends (stops.Fault f) kind row bytes total g h = item_fails kind row bytes f total g h
