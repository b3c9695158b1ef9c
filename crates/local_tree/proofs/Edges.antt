-- Where the bodies of a cell and of its children stand.
use Rattle.std.proofs.Common.{ℕ, suc, ◌≡◌, ◌+◌, ◌-◌, ◌*◌, ◌^◌, ◌<◌, ◌≤◌, List, length, get_or, refl, sym, ap, ◌∙◌, arith, Some, None}
use Rattle.std.specs.Prelude.{slice_range, slice_get}
use Rattle.std.proofs.Math.Nat.{pow-succ', mul-le-mul_right}
use Rattle.hot_units.specs.Values.{BodyValue}
use Rattle.hot_units.specs.Keys.{IsCell, level, key_of_body, child}
use Rattle.hot_units.specs.Order.{IsInOrder}
use Rattle.hot_model.specs.Trees.{inside}
use Rattle.morton_key.specs.Ranges.{count_below, first_key, last_key}
use Rattle.morton_key.proofs.KeyLaws.{bodies_stand_together}
use Rattle.morton_key.proofs.Numbers.{first_is, last_is, child_lowers}
use Rattle.local_tree.specs.declared.spans.Span.{Span}
use Rattle.local_tree.specs.Spans.{IsSpan}
use Rattle.local_tree.proofs.Searches.{count-le, count-rises, places-rise, place-within}
use Rattle.local_tree.proofs.Running.{range-is, range-length, range-some, range-none}

-- the places are in the list
pub span-within : (xs : List BodyValue) (s : Span) → IsSpan xs s → s.to ≤ length xs
span-within xs s h = omega (arith, h.high, count-le (last_key s.key + 1) xs)

-- the bodies of a cell are those between its places
pub places-inside : (xs : List BodyValue) (c from to : ℕ) → IsInOrder xs → IsCell c → from ≡ count_below (first_key c) xs → to ≡ count_below (last_key c + 1) xs → from ≤ to → inside xs c ≡ slice_range xs from to
places-inside xs c from to o i low high rise = bodies_stand_together xs c i o ∙ (rw (← low, ← high) (range-is from to xs rise))

-- the same of a span
pub span-inside : (xs : List BodyValue) (s : Span) → IsInOrder xs → IsSpan xs s → inside xs s.key ≡ slice_range xs s.from s.to
span-inside xs s o h = places-inside xs s.key s.from s.to o h.cell h.low h.high (omega (arith, h.some))

-- a span has as many places as its cell has bodies
pub span-length : (xs : List BodyValue) (s : Span) → IsInOrder xs → IsSpan xs s → length (inside xs s.key) ≡ s.to - s.from
span-length xs s o h = ap (λ (ys : List BodyValue). length ys) (span-inside xs s o h) ∙ range-length s.from s.to xs (omega (arith, h.some)) (span-within xs s h)

-- there is one at least
pub span-some : (xs : List BodyValue) (s : Span) → IsInOrder xs → IsSpan xs s → 0 < length (inside xs s.key)
span-some xs s o h = omega (arith, span-length xs s o h, h.some)

-- the first key of the child d of a cell, which is the last key of the child before and 1
abbrev pub edge : ℕ → ℕ → ℕ
edge c d = (8 * c + d) * 8 ^ (20 - level c)

-- the first key of a child
pub child-first : (c d : ℕ) → IsCell c → level c < 21 → d < 8 → first_key (child c d) ≡ edge c d
child-first c d i h k =
    let n : 21 - level (child c d) ≡ 20 - level c = omega (arith, child_lowers c d i h k) in
    first_is (child c d) ∙ ap (λ (m : ℕ). child c d * 8 ^ m) n

-- the number behind the last key of a child
pub child-last : (c d : ℕ) → IsCell c → level c < 21 → d < 8 → last_key (child c d) + 1 ≡ edge c (d + 1)
child-last c d i h k =
    let n : 21 - level (child c d) ≡ 20 - level c = omega (arith, child_lowers c d i h k) in
    let m : child c d + 1 ≡ 8 * c + (d + 1) = omega arith in
    last_is (child c d) ∙ (ap (λ (e : ℕ). (child c d + 1) * 8 ^ e) n ∙ ap (λ (e : ℕ). e * 8 ^ (20 - level c)) m)

-- one level more
deeper : (c : ℕ) → level c < 21 → 8 ^ (21 - level c) ≡ 8 * 8 ^ (20 - level c)
deeper c h =
    let n : 21 - level c ≡ suc (20 - level c) = omega (arith, h) in
    ap (λ (m : ℕ). 8 ^ m) n ∙ pow-succ' 8 (20 - level c)

-- the first key of a cell is that of its first child
pub cell-first : (c : ℕ) → level c < 21 → first_key c ≡ edge c 0
cell-first c h = omega (arith, first_is c ∙ ap (λ (m : ℕ). c * m) (deeper c h))

-- the number behind the last key of a cell is that behind the last key of its last child
pub cell-last : (c : ℕ) → level c < 21 → last_key c + 1 ≡ edge c 8
cell-last c h = omega (arith, last_is c ∙ ap (λ (m : ℕ). (c + 1) * m) (deeper c h))

-- the edges rise
pub edges-rise : (c d e : ℕ) → d ≤ e → edge c d ≤ edge c e
edges-rise c d e h = mul-le-mul_right (8 ^ (20 - level c)) (omega (arith, h))

-- where the bodies of the first child begin
pub first-edge : (xs : List BodyValue) (s : Span) → IsSpan xs s → level s.key < 21 → s.from ≡ count_below (edge s.key 0) xs
first-edge xs s h l = h.low ∙ ap (λ (k : ℕ). count_below k xs) (cell-first s.key l)

-- the bodies of a child end from where they begin on
pub child-lower : (xs : List BodyValue) (c d key last from : ℕ) → IsCell c → level c < 21 → d < 8 → key ≡ child c d → last ≡ last_key key → from ≡ count_below (edge c d) xs → from ≤ count_below (last + 1) xs
child-lower xs c d key last from i l h k e f =
    let n : last + 1 ≡ edge c (d + 1) = rw (e, k) (child-last c d i l h) in
    rw n (omega (arith, f, count-rises (edge c d) (edge c (d + 1)) xs (edges-rise c d (d + 1) (omega arith))))

-- and not behind those of the cell
pub child-upper : (xs : List BodyValue) (s : Span) (d key last : ℕ) → IsSpan xs s → level s.key < 21 → d < 8 → key ≡ child s.key d → last ≡ last_key key → count_below (last + 1) xs ≤ s.to
child-upper xs s d key last g l h k e =
    let n : last + 1 ≡ edge s.key (d + 1) = rw (e, k) (child-last s.key d g.cell l h) in
    let m = count-rises (edge s.key (d + 1)) (edge s.key 8) xs (edges-rise s.key (d + 1) 8 (omega (arith, h))) in
    let top : s.to ≡ count_below (edge s.key 8) xs = g.high ∙ ap (λ (z : ℕ). count_below z xs) (cell-last s.key l) in
    rw n (omega (arith, m, top))

-- where they end, those of the next child begin
pub child-end : (xs : List BodyValue) (c d key last to : ℕ) → IsCell c → level c < 21 → d < 8 → key ≡ child c d → last ≡ last_key key → to ≡ count_below (last + 1) xs → to ≡ count_below (edge c (d + 1)) xs
child-end xs c d key last to i l h k e f =
    let n : last + 1 ≡ edge c (d + 1) = rw (e, k) (child-last c d i l h) in
    f ∙ ap (λ (z : ℕ). count_below z xs) n

-- so a child with bodies has a span
pub child-span : (xs : List BodyValue) (c d key last from to : ℕ) (s : Span) → IsCell c → level c < 21 → d < 8 → key ≡ child c d → IsCell key → last ≡ last_key key → from ≡ count_below (edge c d) xs → to ≡ count_below (last + 1) xs → from < to → s.key ≡ key → s.from ≡ from → s.to ≡ to → IsSpan xs s
child-span xs c d key last from to s i l h k j e f g some a b t =
    let first : first_key s.key ≡ edge c d = rw (a, k) (child-first c d i l h) in
    let end : last ≡ last_key s.key = e ∙ ap last_key (sym a) in
    record {
      cell = rw a j;
      low = b ∙ (f ∙ ap (λ (z : ℕ). count_below z xs) (sym first));
      high = t ∙ (g ∙ ap (λ (z : ℕ). count_below (z + 1) xs) end);
      some = omega (arith, b, t, some);
    }

-- the body at a place among those of a cell, where it has at most the last key of the cell
pub body-some : (xs : List BodyValue) (c from i : ℕ) (b : BodyValue) → IsInOrder xs → IsCell c → from ≡ count_below (first_key c) xs → from + i < length xs → b ≡ get_or xs (from + i) b → key_of_body b ≤ last_key c → Some b ≡ slice_get (inside xs c) i
body-some xs c from i b o k low h e l =
    let to = count_below (last_key c + 1) xs in
    let in' = place-within xs c (from + i) b o h e l in
    let rise : from ≤ to = omega (arith, low, places-rise xs c k) in
    rw (places-inside xs c from to o k low refl rise) (range-some xs from to i b (count-le (last_key c + 1) xs) (omega (arith, in')) e)

-- and none past them
pub body-none : (xs : List BodyValue) (c from i : ℕ) → IsInOrder xs → IsCell c → from ≡ count_below (first_key c) xs → count_below (last_key c + 1) xs ≤ from + i → None ≡ slice_get (inside xs c) i
body-none xs c from i o k low h =
    let to = count_below (last_key c + 1) xs in
    let rise : from ≤ to = omega (arith, low, places-rise xs c k) in
    rw (places-inside xs c from to o k low refl rise) (range-none xs from to i rise (count-le (last_key c + 1) xs) h)
