-- The lines of the bodies, one by one.
use Rattle.std.proofs.Common.{◌≡◌, ℕ, zero, suc, ◌+◌, ◌<◌, List, [], ◌∷◌, ◌++◌, length, take, get_or, Option, ℤ, pos, refl, ap, ◌∙◌, arith, flat_map, append-nil, add-one}
use Rattle.std.proofs.lemmas.Grind.{flat_map-append}
use Rattle.std.specs.List.{zip}
use Rattle.hot_io.specs.Writing.{Passes}
use Rattle.hot_io.proofs.Blocks.{SendsFront, passes_more, cut_before}
use Rattle.well_out.specs.EnergyText.{body_line, body_lines}

-- the pairs up to a place are those before it, and the one there
zip-take : (idents : List ℤ) (wells : List ℕ) (i : ℕ) (n : ℤ) (w : ℕ) → i < length idents → i < length wells → n ≡ get_or idents i (pos 0) → w ≡ get_or wells i w
    → zip (take (suc i) idents) (take (suc i) wells) ≡ zip (take i idents) (take i wells) ++ (n, w) ∷ []
zip-take [] wells i n w h k d e = absurd (omega (arith, h))
zip-take (m ∷ idents) [] i n w h k d e = absurd (omega (arith, k))
zip-take (m ∷ idents) (a ∷ wells) zero n w h k d e = rw (d, e) refl
zip-take (m ∷ idents) (a ∷ wells) (suc i) n w h k d e = ap (λ (l : List (ℤ × ℕ)). (m, a) ∷ l) (zip-take idents wells i n w (omega (arith, h)) (omega (arith, k)) d e)

-- all pairs are those before a place, and the rest
zip-front : (idents : List ℤ) (wells : List ℕ) (i : ℕ) → (rest : List (ℤ × ℕ)) × (zip idents wells ≡ zip (take i idents) (take i wells) ++ rest)
zip-front [] wells zero = ([], refl)
zip-front [] wells (suc i) = ([], refl)
zip-front (m ∷ idents) [] zero = ([], refl)
zip-front (m ∷ idents) [] (suc i) = ([], refl)
zip-front (m ∷ idents) (a ∷ wells) zero = (zip (m ∷ idents) (a ∷ wells), refl)
zip-front (m ∷ idents) (a ∷ wells) (suc i) =
    let r = zip-front idents wells i in
    (r.0, ap (λ (l : List (ℤ × ℕ)). (m, a) ∷ l) r.1)

-- the line of one body more is on its way
pub line_passes : (idents : List ℤ) (wells : List ℕ) (i : ℕ) (n : ℤ) (w : ℕ) (a b c : Option (List ℕ)) (h j k m : List ℕ) → i < length idents → i < length wells
    → n ≡ get_or idents i (pos 0) → w ≡ get_or wells i w → Passes a h b j (body_lines (take i idents) (take i wells)) → Passes b j c k [] → m ≡ k ++ body_line (n, w)
    → Passes a h c m (body_lines (take (i + 1) idents) (take (i + 1) wells))
line_passes idents wells i n w a b c h j k m u v d e p q t =
    let before = body_lines (take i idents) (take i wells) in
    let more : body_lines (take (i + 1) idents) (take (i + 1) wells) ≡ before ++ body_line (n, w) =
    rw (add-one, zip-take idents wells i n w u v d e, flat_map-append) (ap (λ (l : List ℕ). before ++ l) (append-nil (body_line (n, w)))) in
    rw more (passes_more a b c h j k m before (body_line (n, w)) p q t)

-- where the lines before a body are cut, so are the lines of all bodies
pub cut_in_lines : (idents : List ℤ) (wells : List ℕ) (i : ℕ) (a b c : Option (List ℕ)) (h j : List ℕ)
    → Passes a h b j (body_lines (take i idents) (take i wells)) → SendsFront b j c [] → SendsFront a h c (body_lines idents wells)
cut_in_lines idents wells i a b c h j =
    let r = zip-front idents wells i in
    cut_before a b c h j (body_lines idents wells) (body_lines (take i idents) (take i wells)) (flat_map body_line r.0)
    (ap (flat_map body_line) r.1 ∙ flat_map-append body_line (zip (take i idents) (take i wells)) r.0)
