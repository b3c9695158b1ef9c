-- Ranges of a list.
use Rattle.std.proofs.Common.{ℕ, ◌≡◌, ◌+◌, ◌-◌, ◌<◌, ◌≤◌, List, length, take, drop, get_or, sym, ap, ◌∙◌, arith, inl, inr, Some, None}
use Rattle.std.specs.Prelude.{slice_range, slice_get}
use Rattle.std.proofs.lemmas.List.{drop-take, length-drop, length-take, get_or-take, get_or-drop, get_or_default}
use Rattle.std.proofs.lemmas.Option.{slice_get_cases}
use Rattle.hot_units.specs.Values.{BodyValue}

-- a range, both ways
pub range-is : (lo hi : ℕ) (xs : List BodyValue) → lo ≤ hi → drop lo (take hi xs) ≡ slice_range xs lo hi
range-is lo hi xs h =
    let e : lo + (hi - lo) ≡ hi = omega (arith, h) in
    ap (λ (n : ℕ). drop lo (take n xs)) (sym e) ∙ drop-take lo (hi - lo) xs

-- how many stand in a range
pub range-length : (lo hi : ℕ) (xs : List BodyValue) → lo ≤ hi → hi ≤ length xs → length (slice_range xs lo hi) ≡ hi - lo
range-length lo hi xs h k = simp (length-take, length-drop) (omega (arith, h, k))

-- what stands in a list at a place
some-at : (ys : List BodyValue) (i : ℕ) (b : BodyValue) → i < length ys → b ≡ get_or ys i b → Some b ≡ slice_get ys i
some-at ys i b h e = elim (slice_get_cases ys i).1 [
  | inl p ↦ ap Some (e ∙ (get_or_default ys i b p.0 h ∙ p.3)) ∙ sym p.2
  | inr p ↦ absurd (omega (arith, h, p.0))
]

none-at : (ys : List BodyValue) (i : ℕ) → length ys ≤ i → None ≡ slice_get ys i
none-at ys i h = elim (slice_get_cases ys i).1 [
  | inl p ↦ absurd (omega (arith, h, p.1))
  | inr p ↦ sym p.1
]

-- what stands in a range at a place
pub range-some : (xs : List BodyValue) (lo hi i : ℕ) (b : BodyValue) → hi ≤ length xs → lo + i < hi → b ≡ get_or xs (lo + i) b → Some b ≡ slice_get (slice_range xs lo hi) i
range-some xs lo hi i b k h e =
    let n = range-length lo hi xs (omega (arith, h)) k in
    some-at (slice_range xs lo hi) i b (omega (arith, n, h)) (e ∙ sym (get_or-take (hi - lo) (drop lo xs) i b (omega (arith, h)) ∙ get_or-drop lo xs i b))

-- and past its end
pub range-none : (xs : List BodyValue) (lo hi i : ℕ) → lo ≤ hi → hi ≤ length xs → hi ≤ lo + i → None ≡ slice_get (slice_range xs lo hi) i
range-none xs lo hi i m k h =
    let n = range-length lo hi xs m k in
    none-at (slice_range xs lo hi) i (omega (arith, n, h))
