-- Texts that grow part by part.
use Rattle.std.proofs.Common.{◌≡◌, ℕ, List, [], ◌++◌, append_assoc, ◌∙◌}

-- three parts behind a front, each the same as another
pub three_added : (old one two three a b c d e f : List ℕ) → one ≡ old ++ a → two ≡ one ++ b → three ≡ two ++ c → a ≡ d → b ≡ e → c ≡ f → three ≡ old ++ (d ++ (e ++ f))
three_added old one two three a b c d e f p q r x y z = rw (r, q, p, x, y, z) (append_assoc (old ++ d) e f ∙ append_assoc old d (e ++ f))

-- a word and a number, and then a part, behind nothing
pub header_added : (none one two a b c : List ℕ) → none ≡ [] → one ≡ none ++ a ++ b → two ≡ one ++ c → two ≡ a ++ (b ++ c)
header_added none one two a b c d e f = rw (f, e, d) (append_assoc a b c)
