-- What was taken of a piece, byte by byte.
use Rattle.std.proofs.Common.{◌≡◌, ℕ, ◌+◌, ◌<◌, List, [], ◌∷◌, ◌++◌, length, take, get_or, sym, ap, ◌∙◌, append_assoc}
use Rattle.std.proofs.lemmas.List.{take_more}

-- with one byte more, what is kept grew by what was taken and that byte
pub one_more_taken : (old kept grown piece : List ℕ) (i d : ℕ) → kept ≡ old ++ take i piece → i < length piece → grown ≡ kept ++ get_or piece i d ∷ [] → grown ≡ old ++ take (i + 1) piece
one_more_taken old kept grown piece i d was lt grew =
    grew ∙ ap (λ (xs : List ℕ). xs ++ get_or piece i d ∷ []) was ∙ append_assoc old (take i piece) (get_or piece i d ∷ []) ∙ ap (λ (xs : List ℕ). old ++ xs) (sym (take_more piece i d lt))
