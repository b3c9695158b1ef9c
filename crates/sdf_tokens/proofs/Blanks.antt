-- Going past blanks and comments, one at a time.
use Rattle.std.proofs.Common.{◌≡◌, ℕ, zero, suc, ◌<◌, Some, None, Result, Ok, Err, List, length, refl, sym, ◌∙◌, arith}
use Rattle.sdf_tokens.specs.declared.fault.Fault.{Fault}
use Rattle.sdf_tokens.specs.Tokens.{past_blanks, blank_at}

-- What stands behind the blanks of rest is total.
pub record Goes (rest : List ℕ) (total : Result (List ℕ) Fault) : Type 0 where
  pub fuel : ℕ
  pub enough : length rest < fuel
  pub same : past_blanks fuel rest ≡ total

-- at first all bytes are the rest
pub start : (bytes : List ℕ) → Goes bytes (past_blanks (suc (length bytes)) bytes)
start bytes = record { fuel = suc (length bytes); enough = omega arith; same = refl }

one_more : (n : ℕ) (bytes rest : List ℕ) (total : Result (List ℕ) Fault) → length bytes < n → past_blanks n bytes ≡ total → blank_at bytes ≡ Ok (Some rest) → length rest < length bytes → Goes rest total
unfolding past_blanks
one_more zero bytes rest total lt e is le = absurd (omega arith)
one_more (suc n) bytes rest total lt e is le = record { fuel = n; enough = omega arith; same = rw is at e }

-- behind one blank the rest ends as before
pub more : (bytes rest : List ℕ) (total : Result (List ℕ) Fault) → Goes bytes total → blank_at bytes ≡ Ok (Some rest) → length rest < length bytes → Goes rest total
more bytes rest total g is le = one_more g.fuel bytes rest total g.enough g.same is le

no_more : (n : ℕ) (bytes : List ℕ) (total : Result (List ℕ) Fault) → length bytes < n → past_blanks n bytes ≡ total → blank_at bytes ≡ Ok None → total ≡ Ok bytes
unfolding past_blanks
no_more zero bytes total lt e is = absurd (omega arith)
no_more (suc n) bytes total lt e is = sym e ∙ rw is refl

-- where no blank stands, the rest is the answer
pub done : (bytes : List ℕ) (total : Result (List ℕ) Fault) → Goes bytes total → blank_at bytes ≡ Ok None → total ≡ Ok bytes
done bytes total g is = no_more g.fuel bytes total g.enough g.same is

fails : (n : ℕ) (bytes : List ℕ) (f : Fault) (total : Result (List ℕ) Fault) → length bytes < n → past_blanks n bytes ≡ total → blank_at bytes ≡ Err f → total ≡ Err f
unfolding past_blanks
fails zero bytes f total lt e is = absurd (omega arith)
fails (suc n) bytes f total lt e is = sym e ∙ rw is refl

-- a fault of a blank is the answer
pub stopped : (bytes : List ℕ) (f : Fault) (total : Result (List ℕ) Fault) → Goes bytes total → blank_at bytes ≡ Err f → total ≡ Err f
stopped bytes f total g is = fails g.fuel bytes f total g.enough g.same is
