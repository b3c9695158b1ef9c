-- Texts that go to a sink through a block.
use Rattle.std.proofs.Common.{◌≡◌, ℕ, ◌+◌, ◌<◌, ◌≤◌, List, [], ◌∷◌, ◌++◌, length, take, drop, get_or, flat_map, Option, Result, Ok, Err, refl, sym, ap, ◌∙◌, subst, append_assoc, append-nil, take-append-drop, arith}
use Rattle.std.proofs.lemmas.Grind.{flat_map-append}
use Rattle.std.proofs.KnownBytes.{Appends-nil, Appends-trans}
use Rattle.std.specs.Io.KnownBytes.{Appends}
use Rattle.hot_io.specs.Writing.{IsFront, Writes, Passes, Puts}
use Rattle.hot_io.proofs.Texts.{front_longer, front_behind, lines-take}

-- a front of what was held and of a text behind it was sent, as a writer leaves it that failed
abbrev pub SendsFront : Option (List ℕ) → List ℕ → Option (List ℕ) → List ℕ → Type 0
SendsFront old held new text = (front : List ℕ) × IsFront front (held ++ text) × Appends old new front

-- what was added to a block is on its way
pub passes_added : (a : Option (List ℕ)) (held new text : List ℕ) → new ≡ held ++ text → Passes a held a new text
passes_added a held new text e = ([], sym e, Appends-nil a)

-- a text on its way, and then one behind it
pub passes_next : (a b c : Option (List ℕ)) (h i j s t : List ℕ) → Passes a h b i s → Passes b i c j t → Passes a h c j (s ++ t)
passes_next a b c h i j s t p q = (
  p.0 ++ q.0,
  sym (append_assoc h s t) ∙ ap (λ (l : List ℕ). l ++ t) p.1 ∙ append_assoc p.0 i t ∙ ap (λ (l : List ℕ). p.0 ++ l) q.1 ∙ sym (append_assoc p.0 q.0 j),
  Appends-trans a b c p.0 q.0 p.2 q.2,
)

-- a text on its way, and then nothing more
pub passes_on : (a b c : Option (List ℕ)) (h i j s : List ℕ) → Passes a h b i s → Passes b i c j [] → Passes a h c j s
passes_on a b c h i j s p q = subst (λ (l : List ℕ). Passes a h c j l) (append-nil s) (passes_next a b c h i j s [] p q)

-- a text on its way, room for what follows, and then that
pub passes_more : (a b c : Option (List ℕ)) (h i j n s t : List ℕ) → Passes a h b i s → Passes b i c j [] → n ≡ j ++ t → Passes a h c n (s ++ t)
passes_more a b c h i j n s t p q e = passes_next a c c h j n s t (passes_on a b c h i j s p q) (passes_added c j n t e)

-- a text on its way, and then a front of what follows in the whole
pub cut_behind : (a b c : Option (List ℕ)) (h i whole s t rest : List ℕ) → whole ≡ s ++ (t ++ rest) → Passes a h b i s → SendsFront b i c t → SendsFront a h c whole
cut_behind a b c h i whole s t rest e p w =
    let longer = front_behind p.0 w.0 (i ++ t ++ rest) (front_longer w.0 (i ++ t) rest w.1) in
    let same : h ++ whole ≡ p.0 ++ (i ++ t ++ rest) =
    ap (λ (l : List ℕ). h ++ l) e ∙ sym (append_assoc h s (t ++ rest)) ∙ ap (λ (l : List ℕ). l ++ (t ++ rest)) p.1 ∙ append_assoc p.0 i (t ++ rest)
    ∙ ap (λ (l : List ℕ). p.0 ++ l) (sym (append_assoc i t rest)) in
    (p.0 ++ w.0, (longer.0, same ∙ longer.1), Appends-trans a b c p.0 w.0 p.2 w.2)

-- a text on its way, and then a front of what was held
pub cut_before : (a b c : Option (List ℕ)) (h i whole s rest : List ℕ) → whole ≡ s ++ rest → Passes a h b i s → SendsFront b i c [] → SendsFront a h c whole
cut_before a b c h i whole s rest e p w = cut_behind a b c h i whole s [] rest e p w

-- a front of what was held was sent, before a text
pub cut_first : (a b : Option (List ℕ)) (h text : List ℕ) → SendsFront a h b [] → SendsFront a h b text
cut_first a b h text w = cut_before a a b h h text [] text refl (passes_added a h h [] (sym (append-nil h))) w

-- a block in which all is free holds nothing
pub none_held : (k : List ℕ) (n : ℕ) → length k + n ≤ n → k ≡ []
none_held [] n h = refl
none_held (x ∷ k) n h = absurd (omega (arith, h))

-- all that was held was sent, and then a text past the block
pub sent_past : {E : Type 0} (a b c : Option (List ℕ)) (h k text : List ℕ) (result : Result (Unit {0}) E) → Passes a h b k [] → k ≡ [] → Writes b c result text → Puts a h c k result text
sent_past a b c h k text (Ok x) p e w =
    passes_next a b c h k k [] text p (text, ap (λ (l : List ℕ). l ++ text) e ∙ sym (ap (λ (l : List ℕ). text ++ l) e ∙ append-nil text), w)
sent_past a b c h k text (Err x) p e w =
    cut_behind a b c h k text [] text [] (sym (append-nil text)) p (w.0, (w.1.0, ap (λ (l : List ℕ). l ++ text) e ∙ w.1.1), w.2)

-- a text on its way, and then its end
pub ends : {E : Type 0} (a b c : Option (List ℕ)) (i text : List ℕ) (result : Result (Unit {0}) E) → Passes a [] b i text → Writes b c result i → Writes a c result text
ends a b c i text (Ok x) p w = subst (λ (l : List ℕ). Appends a c l) (sym p.1) (Appends-trans a b c p.0 i p.2 w)
ends a b c i text (Err x) p w =
    let longer = front_behind p.0 w.0 i w.1 in
    (p.0 ++ w.0, (longer.0, p.1 ∙ longer.1), Appends-trans a b c p.0 w.0 p.2 w.2)

-- the line of one item more is on its way
pub line_passes : {X : Type 0} (line : X → List ℕ) (xs : List X) (k : ℕ) (x : X) (a b c : Option (List ℕ)) (h i j n : List ℕ) → k < length xs → x ≡ get_or xs k x
    → Passes a h b i (flat_map line (take k xs)) → Passes b i c j [] → n ≡ j ++ line x → Passes a h c n (flat_map line (take (k + 1) xs))
line_passes line xs k x a b c h i j n lt e p q m =
    rw (lines-take line xs k x lt e) (passes_more a b c h i j n (flat_map line (take k xs)) (line x) p q m)

-- a front of the lines before an item was sent
pub cut_in_lines : {X : Type 0} (line : X → List ℕ) (xs : List X) (k : ℕ) (a b c : Option (List ℕ)) (h i : List ℕ)
    → Passes a h b i (flat_map line (take k xs)) → SendsFront b i c [] → SendsFront a h c (flat_map line xs)
cut_in_lines line xs k a b c h i =
    cut_before a b c h i (flat_map line xs) (flat_map line (take k xs)) (flat_map line (drop k xs))
    (ap (flat_map line) (sym (take-append-drop k xs)) ∙ flat_map-append line (take k xs) (drop k xs))
