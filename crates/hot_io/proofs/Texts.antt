-- Texts that are written part by part and line by line.
use Rattle.std.proofs.Common.{◌≡◌, ℕ, ◌+◌, ◌<◌, List, [], ◌∷◌, ◌++◌, length, take, get_or, flat_map, Option, sym, ap, ◌∙◌, append_assoc, append-nil}
use Rattle.std.proofs.lemmas.List.{take_more}
use Rattle.std.proofs.lemmas.Grind.{flat_map-append}
use Rattle.std.specs.Io.KnownBytes.{Appends}
use Rattle.hot_io.specs.Writing.{IsFront}

-- a front of a text is a front of a longer one
pub front_longer : (front text more : List ℕ) → IsFront front text → IsFront front (text ++ more)
front_longer front text more f = (f.0 ++ more, ap (λ (l : List ℕ). l ++ more) f.1 ∙ append_assoc front f.0 more)

-- a front of what follows a text, behind the text
pub front_behind : (text front more : List ℕ) → IsFront front more → IsFront (text ++ front) (text ++ more)
front_behind text front more f = (f.0, ap (λ (l : List ℕ). text ++ l) f.1 ∙ sym (append_assoc text front f.0))

-- a front of the text was written, as a writer leaves it that failed
abbrev pub WritesFront : Option (List ℕ) → Option (List ℕ) → List ℕ → Type 0
WritesFront old new text = (front : List ℕ) × IsFront front text × Appends old new front

-- five parts, joined from the left, are joined behind the first, behind two and behind three
pub behind_one : (a b c d e : List ℕ) → a ++ b ++ c ++ d ++ e ≡ a ++ (b ++ (c ++ (d ++ e)))
behind_one a b c d e = simp append_assoc

-- five texts joined, behind the first two
pub behind_two : (a b c d e : List ℕ) → a ++ b ++ c ++ d ++ e ≡ (a ++ b) ++ (c ++ (d ++ e))
behind_two a b c d e = simp append_assoc

-- five texts joined, behind the first three
pub behind_three : (a b c d e : List ℕ) → a ++ b ++ c ++ d ++ e ≡ (a ++ b ++ c) ++ (d ++ e)
behind_three a b c d e = simp append_assoc

-- the lines of one item more
pub lines-take : {X : Type 0} (line : X → List ℕ) (xs : List X) (i : ℕ) (x : X) → i < length xs → x ≡ get_or xs i x
    → flat_map line (take (i + 1) xs) ≡ flat_map line (take i xs) ++ line x
lines-take line xs i x h e =
    ap (flat_map line) (take_more xs i x h) ∙ flat_map-append line (take i xs) (get_or xs i x ∷ [])
    ∙ ap (λ (l : List ℕ). flat_map line (take i xs) ++ l) (append-nil (line (get_or xs i x)) ∙ ap line (sym e))
