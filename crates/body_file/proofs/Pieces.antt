-- Pieces of a list of bytes.
use Rattle.std.proofs.Common.{◌≡◌, ℕ, ◌-◌, ◌<◌, ◌≤◌, true, false, List, [], ◌∷◌, ◌++◌, length, take, drop, ◌==◌, refl, sym, ap, ◌∙◌, arith, append_assoc, length-drop}
use Rattle.std.proofs.lemmas.Bool.Decides.{nat_tests}
use Rattle.std.proofs.lemmas.List.{take_all, take-append-drop}

-- a list of length 0 is empty
pub none_left : (xs : List ℕ) → true ≡ (length xs == 0) → xs ≡ []
none_left [] e = refl
none_left (x ∷ xs) e = absurd (grind (arith, nat_tests))

-- a list of another length has at least one byte
pub some_left : (xs : List ℕ) → false ≡ (length xs == 0) → 1 ≤ length xs
some_left [] e = absurd cc
some_left (x ∷ xs) e = omega arith

-- what a slice from a place on has
pub rest_all : (t : ℕ) (xs : List ℕ) → take (length xs - t) (drop t xs) ≡ drop t xs
rest_all t xs = take_all (length xs - t) (drop t xs) (omega (arith, length-drop t xs))

-- a piece whose rest goes on behind t bytes
pub goes_on : (piece front rest : List ℕ) (t : ℕ) → piece ≡ front ++ rest → piece ≡ (front ++ take t rest) ++ take (length rest - t) (drop t rest)
goes_on piece front rest t e =
    e ∙ ap (λ (p : List ℕ). front ++ p) (sym (take-append-drop t rest)) ∙ sym (append_assoc front (take t rest) (drop t rest))
    ∙ ap (λ (p : List ℕ). (front ++ take t rest) ++ p) (sym (rest_all t rest))

-- it is shorter
pub rest_shorter : (t : ℕ) (xs : List ℕ) → 1 ≤ t → t ≤ length xs → length (take (length xs - t) (drop t xs)) < length xs
rest_shorter t xs some within = rw (rest_all t xs) (omega (arith, length-drop t xs))

-- a list with a piece is the list with the front of the piece, and then the rest
pub two_pieces : (old new piece : List ℕ) (t : ℕ) → new ≡ old ++ take t piece → new ++ take (length piece - t) (drop t piece) ≡ old ++ piece
two_pieces old new piece t e =
    ap (λ (p : List ℕ). p ++ take (length piece - t) (drop t piece)) e ∙ append_assoc old (take t piece) (take (length piece - t) (drop t piece))
    ∙ ap (λ (p : List ℕ). old ++ (take t piece ++ p)) (rest_all t piece) ∙ ap (λ (p : List ℕ). old ++ p) (take-append-drop t piece)
