-- No token takes less than nothing.
use Rattle.std.proofs.Common.{ℕ, ◌≤◌, arith}
use Rattle.sdf_tokens.specs.declared.token.Token.{Token}
use Rattle.sdf_tokens.specs.declared.token.Token.TheVariants as declared
use Rattle.sdf_tokens.specs.Tokens.{Advances}

-- a token leaves no more bytes than there were
pub advances_le : (t : Token) (a b : ℕ) → Advances t a b → a ≤ b
advances_le declared.End a b h = h
advances_le (declared.Word w) a b h = omega arith
advances_le (declared.Number n) a b h = omega arith
advances_le declared.Text a b h = omega arith
advances_le (declared.Sign s) a b h = omega arith
