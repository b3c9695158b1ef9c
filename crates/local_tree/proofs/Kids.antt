-- The children of a cell, one more at a time.
use Rattle.std.proofs.Common.{ℕ, ◌≡◌, ◌+◌, ◌<◌, List, [], ◌∷◌, ◌++◌, take, flat_map, ap, ◌∙◌}
use Rattle.std.proofs.lemmas.List.{take_more, append-nil}
use Rattle.std.proofs.lemmas.List.Concat.{flat_map-append}
use Rattle.hot_units.specs.Keys.{digits}
use Rattle.hot_model.proofs.Parts.{digits-at}

-- what one more digit adds to a list that is joined over digits
pub one_more_digit : {X : Type 0} (f : ℕ → List X) (d : ℕ) → d < 8 → flat_map f (take (d + 1) digits) ≡ flat_map f (take d digits) ++ f d
one_more_digit f d h =
    let e : take (d + 1) digits ≡ take d digits ++ d ∷ [] = take_more digits d 0 h ∙ ap (λ (k : ℕ). take d digits ++ k ∷ []) (digits-at d h) in
    ap (flat_map f) e ∙ (flat_map-append f (take d digits) (d ∷ []) ∙ ap (λ ys. flat_map f (take d digits) ++ ys) (append-nil (f d)))
