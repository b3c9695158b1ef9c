-- Texts that are written part by part.
use Rattle.std.proofs.Common.{◌≡◌, ℕ, zero, suc, ◌+◌, ◌<◌, List, [], ◌∷◌, ◌++◌, length, take, get_or, codes, Option, ℤ, pos, refl, ap, ◌∙◌, arith, flat_map, append_assoc, append-nil, add-one}
use Rattle.std.proofs.lemmas.Grind.{flat_map-append}
use Rattle.std.specs.List.{zip}
use Rattle.std.specs.Fmt.{signed_decimal}
use Rattle.hot_io.specs.Writing.{line_end, Passes}
use Rattle.hot_io.proofs.Blocks.{SendsFront, passes_more, cut_before}
use Rattle.hot_units.specs.Values.{Acc3Value}
use Rattle.force_out.specs.ForcesText.{number_line}

-- the words and numbers of a body's line
pub line_joined : (a b c d : ℤ) (old la lb lc ld le : List ℕ) → la ≡ old ++ [] ++ signed_decimal a → lb ≡ la ++ codes " " ++ signed_decimal b → lc ≡ lb ++ codes " " ++ signed_decimal c → ld ≡ lc ++ codes " " ++ signed_decimal d → le ≡ ld ++ line_end
    → le ≡ old ++ number_line (a ∷ b ∷ c ∷ d ∷ [])
line_joined a b c d old la lb lc ld le e f g h k = rw (k, h, g, f, e) (simp append_assoc)

-- the pairs before a place, and the one there
zip-at : (idents : List ℤ) (forces : List Acc3Value) (i : ℕ) (n : ℤ) (f : Acc3Value) → i < length idents → i < length forces
    → n ≡ get_or idents i (pos 0) → f ≡ get_or forces i f
    → zip (take (suc i) idents) (take (suc i) forces) ≡ zip (take i idents) (take i forces) ++ (n, f) ∷ []
zip-at [] forces i n f h k d e = absurd (omega arith)
zip-at (m ∷ idents) [] i n f h k d e = absurd (omega arith)
zip-at (m ∷ idents) (a ∷ forces) zero n f h k d e = rw (d, e) refl
zip-at (m ∷ idents) (a ∷ forces) (suc i) n f h k d e = ap (λ (l : List (ℤ × Acc3Value)). (m, a) ∷ l) (zip-at idents forces i n f (omega arith) (omega arith) d e)

-- the pairs before a place, and those behind
zip-front : (idents : List ℤ) (forces : List Acc3Value) (i : ℕ) → (rest : List (ℤ × Acc3Value)) × (zip idents forces ≡ zip (take i idents) (take i forces) ++ rest)
zip-front [] forces zero = ([], refl)
zip-front [] forces (suc i) = ([], refl)
zip-front (m ∷ idents) [] zero = ([], refl)
zip-front (m ∷ idents) [] (suc i) = ([], refl)
zip-front (m ∷ idents) (a ∷ forces) zero = (zip (m ∷ idents) (a ∷ forces), refl)
zip-front (m ∷ idents) (a ∷ forces) (suc i) =
    let r = zip-front idents forces i in
    (r.0, ap (λ (l : List (ℤ × Acc3Value)). (m, a) ∷ l) r.1)

-- texts of one item for each body
module _ (line : ℤ × Acc3Value → List ℕ) where
  -- the texts of all bodies, in their order
  abbrev pub texts : List ℤ → List Acc3Value → List ℕ
  texts idents forces = flat_map line (zip idents forces)

  -- the text of one body more
  pub texts-take : (idents : List ℤ) (forces : List Acc3Value) (i : ℕ) (n : ℤ) (f : Acc3Value) → i < length idents → i < length forces
      → n ≡ get_or idents i (pos 0) → f ≡ get_or forces i f
      → texts (take (i + 1) idents) (take (i + 1) forces) ≡ texts (take i idents) (take i forces) ++ line (n, f)
  texts-take idents forces i n f h k d e =
      rw (add-one, zip-at idents forces i n f h k d e, flat_map-append) (ap (λ (l : List ℕ). texts (take i idents) (take i forces) ++ l) (append-nil (line (n, f))))

  -- the text of one body more is on its way
  pub text_passes : (idents : List ℤ) (forces : List Acc3Value) (k : ℕ) (n : ℤ) (f : Acc3Value) (a b c : Option (List ℕ)) (h i j m : List ℕ) → k < length idents → k < length forces
      → n ≡ get_or idents k (pos 0) → f ≡ get_or forces k f → Passes a h b i (texts (take k idents) (take k forces)) → Passes b i c j [] → m ≡ j ++ line (n, f)
      → Passes a h c m (texts (take (k + 1) idents) (take (k + 1) forces))
  text_passes idents forces k n f a b c h i j m x y d e p q t =
      rw (texts-take idents forces k n f x y d e) (passes_more a b c h i j m (texts (take k idents) (take k forces)) (line (n, f)) p q t)

  -- a front of the texts before a body was sent
  pub cut_in_texts : (idents : List ℤ) (forces : List Acc3Value) (k : ℕ) (a b c : Option (List ℕ)) (h i : List ℕ)
      → Passes a h b i (texts (take k idents) (take k forces)) → SendsFront b i c [] → SendsFront a h c (texts idents forces)
  cut_in_texts idents forces k a b c h i =
      let r = zip-front idents forces k in
      cut_before a b c h i (texts idents forces) (texts (take k idents) (take k forces)) (flat_map line r.0) (ap (flat_map line) r.1 ∙ flat_map-append line (zip (take k idents) (take k forces)) r.0)
