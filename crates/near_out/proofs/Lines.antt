-- The lines of the bodies, part by part.
use Rattle.std.proofs.Common.{◌≡◌, ℕ, zero, suc, ◌+◌, ◌<◌, List, [], ◌∷◌, ◌++◌, length, take, map, get_or, Option, ℤ, pos, refl, ap, ◌∙◌, arith, flat_map, append-nil, add-one}
use Rattle.std.proofs.lemmas.Grind.{flat_map-append}
use Rattle.std.specs.List.{zip}
use Rattle.hot_io.specs.Writing.{Passes}
use Rattle.hot_io.proofs.Blocks.{SendsFront, passes_next, cut_behind}
use Rattle.near_out.specs.NearText.{body_line, body_lines}

-- bodies with something that tells their rows
module _ {X : Type 0} (rows : X → List ℕ) where
  -- the pairs of the idents and the rows
  abbrev pairs : List ℤ → List X → List (ℤ × List ℕ)
  pairs idents xs = zip idents (map rows xs)

  -- the pairs up to a place are those before it, and the one there
  pairs-take : (idents : List ℤ) (xs : List X) (i : ℕ) (n : ℤ) (x : X) → i < length idents → i < length xs → n ≡ get_or idents i (pos 0) → x ≡ get_or xs i x
      → pairs (take (suc i) idents) (take (suc i) xs) ≡ pairs (take i idents) (take i xs) ++ (n, rows x) ∷ []
  pairs-take [] xs i n x h k d e = absurd (omega (arith, h))
  pairs-take (m ∷ idents) [] i n x h k d e = absurd (omega (arith, k))
  pairs-take (m ∷ idents) (a ∷ xs) zero n x h k d e = rw (d, e) refl
  pairs-take (m ∷ idents) (a ∷ xs) (suc i) n x h k d e = ap (λ (l : List (ℤ × List ℕ)). (m, rows a) ∷ l) (pairs-take idents xs i n x (omega (arith, h)) (omega (arith, k)) d e)

  -- all pairs are those before a place, the one there, and the rest
  pairs-parted : (idents : List ℤ) (xs : List X) (i : ℕ) (n : ℤ) (x : X) → i < length idents → i < length xs → n ≡ get_or idents i (pos 0) → x ≡ get_or xs i x
      → (rest : List (ℤ × List ℕ)) × (pairs idents xs ≡ pairs (take i idents) (take i xs) ++ (n, rows x) ∷ rest)
  pairs-parted [] xs i n x h k d e = absurd (omega (arith, h))
  pairs-parted (m ∷ idents) [] i n x h k d e = absurd (omega (arith, k))
  pairs-parted (m ∷ idents) (a ∷ xs) zero n x h k d e = (pairs idents xs, rw (d, e) refl)
  pairs-parted (m ∷ idents) (a ∷ xs) (suc i) n x h k d e =
      let r = pairs-parted idents xs i n x (omega (arith, h)) (omega (arith, k)) d e in
      (r.0, ap (λ (l : List (ℤ × List ℕ)). (m, rows a) ∷ l) r.1)

  -- the lines of all bodies, in their order
  abbrev pub lines : List ℤ → List X → List ℕ
  lines idents xs = body_lines idents (map rows xs)

  -- the line of one body more is on its way
  pub line_passes : (idents : List ℤ) (xs : List X) (i : ℕ) (n : ℤ) (x : X) (a b c : Option (List ℕ)) (h j k : List ℕ) → i < length idents → i < length xs
      → n ≡ get_or idents i (pos 0) → x ≡ get_or xs i x → Passes a h b j (lines (take i idents) (take i xs)) → Passes b j c k (body_line (n, rows x))
      → Passes a h c k (lines (take (i + 1) idents) (take (i + 1) xs))
  line_passes idents xs i n x a b c h j k u v d e p q =
      let before = lines (take i idents) (take i xs) in
      let more : lines (take (i + 1) idents) (take (i + 1) xs) ≡ before ++ body_line (n, rows x) =
      rw (add-one, pairs-take idents xs i n x u v d e, flat_map-append) (ap (λ (l : List ℕ). before ++ l) (append-nil (body_line (n, rows x)))) in
      rw more (passes_next a b c h j k before (body_line (n, rows x)) p q)

  -- where the line of a body is cut, so are the lines of all bodies
  pub cut_in_line : (idents : List ℤ) (xs : List X) (i : ℕ) (n : ℤ) (x : X) (a b c : Option (List ℕ)) (h j : List ℕ) → i < length idents → i < length xs
      → n ≡ get_or idents i (pos 0) → x ≡ get_or xs i x → Passes a h b j (lines (take i idents) (take i xs)) → SendsFront b j c (body_line (n, rows x))
      → SendsFront a h c (lines idents xs)
  cut_in_line idents xs i n x a b c h j u v d e =
      let r = pairs-parted idents xs i n x u v d e in
      cut_behind a b c h j (lines idents xs) (lines (take i idents) (take i xs)) (body_line (n, rows x)) (flat_map body_line r.0)
      (ap (flat_map body_line) r.1 ∙ flat_map-append body_line (pairs (take i idents) (take i xs)) ((n, rows x) ∷ r.0))
