-- Pieces that are written one after another.
use Rattle.std.proofs.Common.{◌≡◌, ℕ, suc, ◌+◌, ◌<◌, List, [], ◌∷◌, ◌++◌, length, map, take, drop, get_or, Bor, Option, refl, sym, ap, ◌∙◌, append_assoc, append-nil, take-append-drop, drop-cons}
use Rattle.std.proofs.lemmas.List.{take_more}
use Rattle.hot_io.specs.Writing.{joined, Passes}
use Rattle.hot_io.proofs.Texts.{WritesFront}
use Rattle.hot_io.proofs.Blocks.{SendsFront, cut_behind}

-- the bytes of pieces
abbrev pub bytes_in : List (Bor (List ℕ)) → List ℕ
bytes_in pieces = joined (map (λ piece. piece.now) pieces)

-- the bytes of two lists of pieces are both joined
pub bytes_in-append : (xs ys : List (Bor (List ℕ))) → bytes_in (xs ++ ys) ≡ bytes_in xs ++ bytes_in ys
bytes_in-append [] ys = refl
bytes_in-append (x ∷ xs) ys = ap (λ l. x.now ++ l) (bytes_in-append xs ys) ∙ sym (append_assoc x.now (bytes_in xs) (bytes_in ys))

-- one piece more
pub bytes_in-take : (pieces : List (Bor (List ℕ))) (i : ℕ) (d : Bor (List ℕ)) → i < length pieces → bytes_in (take (i + 1) pieces) ≡ bytes_in (take i pieces) ++ (get_or pieces i d).now
bytes_in-take pieces i d h =
    ap bytes_in (take_more pieces i d h) ∙ bytes_in-append (take i pieces) (get_or pieces i d ∷ []) ∙ ap (λ l. bytes_in (take i pieces) ++ l) (append-nil (get_or pieces i d).now)

-- all pieces, at one of them
bytes_in-at : (pieces : List (Bor (List ℕ))) (i : ℕ) (d : Bor (List ℕ)) → i < length pieces
    → bytes_in pieces ≡ bytes_in (take i pieces) ++ ((get_or pieces i d).now ++ bytes_in (drop (suc i) pieces))
bytes_in-at pieces i d h =
    ap bytes_in (sym (take-append-drop i pieces)) ∙ bytes_in-append (take i pieces) (drop i pieces) ∙ ap (λ l. bytes_in (take i pieces) ++ bytes_in l) (drop-cons pieces i d h)

-- a sink that failed in a piece has a front of all
pub cut_at : (pieces : List (Bor (List ℕ))) (k : ℕ) (d : Bor (List ℕ)) (a b c : Option (List ℕ)) (i : List ℕ) → k < length pieces
    → Passes a [] b i (bytes_in (take k pieces)) → SendsFront b i c (get_or pieces k d).now → WritesFront a c (bytes_in pieces)
cut_at pieces k d a b c i h =
    cut_behind a b c [] i (bytes_in pieces) (bytes_in (take k pieces)) (get_or pieces k d).now (bytes_in (drop (suc k) pieces)) (bytes_in-at pieces k d h)
