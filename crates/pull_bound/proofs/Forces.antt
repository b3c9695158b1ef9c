-- The force at ratio 0: the sizes of the bodies beyond, less those of the bodies before.
use Rattle.std.proofs.Common.{ℕ, zero, suc, ◌≡◌, ◌+◌, ◌-◌, ◌*◌, ◌<◌, ◌≤◌, Bool, true, false, not, ◌&&◌, ltb, leb, cond, List, [], ◌∷◌, length, map, sum_by, ℤ, pos, negsuc, ◌+ℤ◌, ◌-ℤ◌, ◌*ℤ◌, ◌≤ℤ◌, inl, inr, refl, ap, subst, arith, ◌∙◌}
use Rattle.std.proofs.lemmas.Bool.{cases_lt, lt-ltb, le-ltb, le-leb, lt-leb}
use Rattle.std.proofs.lemmas.Int.{ints}
use Rattle.std.proofs.lemmas.List.Elements.{All-filter}
use Rattle.std.proofs.Math.IntN.{pos-*ℤ-pos, pos-*ℤ-negsuc}
use Rattle.std.proofs.lemmas.List.Sums.{sum_by-cons}
use Rattle.hot_units.specs.Values.{BodyValue, CellValue, Vector, place}
use Rattle.hot_units.specs.Keys.{HasLevel, contains, side, digits, child}
use Rattle.hot_units.specs.declared.cube.Axis.{Axis}
use Rattle.hot_units.specs.declared.cube.Axis.TheVariants as axes
use Rattle.hot_units.proofs.Sorts.{sum_filter}
use Rattle.hot_model.specs.Kernel.{square, distance2, centre, toward, accepts, origin, plus}
use Rattle.hot_model.specs.Trees.{Settings, inside, cell_record, is_empty, total, pull_far, pull_near, opens_of, force_in, force}
use Rattle.hot_model.proofs.Parts.{children_share, child-level, inside-root}
use Rattle.hot_model.proofs.Ties.{at_cell_cases, nil-is_empty}
use Rattle.pull_bound.specs.Exact.{component, IsAtMost, IsAtLeast}
use Rattle.pull_bound.specs.Sums.{felt, spot, beyond, before, share_of, IsNearAlong}
use Rattle.pull_bound.proofs.Pulls.{component-is, size-none}
use Rattle.pull_bound.proofs.Sides.{size_by, sizes-most, sizes-least}

-- what a body adds to the sum of those beyond, and to that of those before
abbrev up_by : ℕ → Axis → BodyValue → BodyValue → ℕ
up_by eps a b o = cond (ltb (spot a b) (spot a o)) (size_by eps a b o) 0

abbrev down_by : ℕ → Axis → BodyValue → BodyValue → ℕ
down_by eps a b o = cond (ltb (spot a o) (spot a b)) (size_by eps a b o) 0

-- a number is what the bodies of a list pull along an axis
record IsPulled (eps : ℕ) (a : Axis) (b : BodyValue) (xs : List BodyValue) (n : ℤ) : Type 0 where
  is : n ≡ pos (sum_by (up_by eps a b) xs) -ℤ pos (sum_by (down_by eps a b) xs)

toward-parts : (p c n : ℕ) → (p ≡ c → n ≡ 0) → toward p c n ≡ pos (cond (ltb p c) n 0) -ℤ pos (cond (ltb c p) n 0)
toward-parts p c n h =
    elim (cases_lt c p) [
      | inl less ↦ rw (lt-leb p c less, lt-ltb c p less, le-ltb p c (omega arith)) (omega (arith, ints))
      | inr more ↦ elim (cases_lt p c) [
        | inl beyond ↦ rw (le-leb p c more, lt-ltb p c beyond, le-ltb c p more) (omega (arith, ints))
        | inr beside ↦ let e : n ≡ 0 = h (omega arith) in rw (le-leb p c more, le-ltb p c beside, le-ltb c p more) (omega (arith, ints, e))
      ]
    ]

-- one body
one-pulled : (eps : ℕ) (a : Axis) (b o : BodyValue) → component a (pull_near eps b o) ≡ pos (up_by eps a b o) -ℤ pos (down_by eps a b o)
one-pulled eps a b o =
    component-is eps (place b) (place o) o.mass a
    ∙ toward-parts (spot a b) (spot a o) (size_by eps a b o) (λ e. size-none (felt eps a b o) (omega (arith, e)))

component-origin : (a : Axis) → component a origin ≡ pos 0
component-origin axes.X = refl
component-origin axes.Y = refl
component-origin axes.Z = refl

component-plus : (a : Axis) (u v : Vector) → component a (plus u v) ≡ component a u +ℤ component a v
component-plus axes.X u v = refl
component-plus axes.Y u v = refl
component-plus axes.Z u v = refl

none-pulled : (eps : ℕ) (a : Axis) (b : BodyValue) (xs : List BodyValue) → is_empty xs ≡ true → IsPulled eps a b xs (component a origin)
none-pulled eps a b xs h = rw (nil-is_empty xs h) (record { is = component-origin a ∙ omega (arith, ints) })

-- the bodies of a list, one by one
list-pulled : (eps : ℕ) (a : Axis) (b : BodyValue) (xs : List BodyValue) → IsPulled eps a b xs (component a (total (map (pull_near eps b) xs)))
unfolding total
list-pulled eps a b [] = record { is = component-origin a ∙ omega (arith, ints) }
list-pulled eps a b (x ∷ xs) = record {
  is = omega (arith, ints, component-plus a (pull_near eps b x) (total (map (pull_near eps b) xs)), one-pulled eps a b x, (list-pulled eps a b xs).is, sum_by-cons (up_by eps a b) x xs, sum_by-cons (down_by eps a b) x xs);
}

-- at ratio 0 each cell is opened
all-opened : (s : Settings) (b : BodyValue) (c : CellValue) → s.num ≡ 0 → opens_of s b c ≡ true
unfolding accepts
all-opened s b c e =
    let far : ltb (square (side c.key) * square s.den) (square s.num * distance2 (place b) (centre c)) ≡ false = le-ltb _ _ (rw e (omega arith)) in
    rw far (shut (not (contains c.key b)))
  where
    shut : (t : Bool) → not (t && false) ≡ true
    shut true = refl
    shut false = refl

-- the sum over eight children
total-eight : (a : Axis) (f : ℕ → Vector) → component a (total (map f digits)) ≡ component a (f 0) +ℤ (component a (f 1) +ℤ (component a (f 2) +ℤ (component a (f 3) +ℤ (component a (f 4) +ℤ (component a (f 5) +ℤ (component a (f 6) +ℤ (component a (f 7) +ℤ pos 0)))))))
unfolding total
total-eight axes.X f = refl
total-eight axes.Y f = refl
total-eight axes.Z f = refl

-- the force from a cell is what its bodies pull
cell-pulled : (s : Settings) (a : Axis) (bodies : List BodyValue) (b : BodyValue) (deep c : ℕ) → s.num ≡ 0 → deep ≤ 21 → HasLevel c (21 - deep) → IsPulled s.eps a b (inside bodies c) (component a (force_in s bodies b deep c))
unfolding force_in
cell-pulled s a bodies b zero c e h k =
    at_cell_cases (λ v. IsPulled s.eps a b (inside bodies c) (component a v)) (is_empty (inside bodies c)) (opens_of s b (cell_record bodies c)) true
    origin (pull_far s.second s.eps b (cell_record bodies c)) (total (map (pull_near s.eps b) (inside bodies c))) origin
    (none-pulled s.eps a b (inside bodies c))
    (λ _ shut. absurd (let o = all-opened s b (cell_record bodies c) e in cc))
    (λ _ _ _. list-pulled s.eps a b (inside bodies c))
    (λ _ _ f. absurd cc)
cell-pulled s a bodies b (suc deep) c e h k =
    let l = 21 - suc deep in
    let same : suc l ≡ 21 - deep = omega arith in
    let f : ℕ → Vector = λ d. force_in s bodies b deep (child c d) in
    let deeper : (d : ℕ) → d < 8 → IsPulled s.eps a b (inside bodies (child c d)) (component a (f d)) =
    λ d m. cell-pulled s a bodies b deep (child c d) e (omega arith) (subst (λ (n : ℕ). HasLevel (child c d) n) same (child-level c l d k m)) in
    at_cell_cases (λ v. IsPulled s.eps a b (inside bodies c) (component a v)) (is_empty (inside bodies c)) (opens_of s b (cell_record bodies c)) (leb (length (inside bodies c)) s.leaf)
    origin (pull_far s.second s.eps b (cell_record bodies c)) (total (map (pull_near s.eps b) (inside bodies c))) (total (map f digits))
    (none-pulled s.eps a b (inside bodies c))
    (λ _ shut. absurd (let o = all-opened s b (cell_record bodies c) e in cc))
    (λ _ _ _. list-pulled s.eps a b (inside bodies c))
    (λ _ _ _. record {
      is = omega (arith, ints, total-eight a f, (deeper 0 (omega arith)).is, (deeper 1 (omega arith)).is, (deeper 2 (omega arith)).is, (deeper 3 (omega arith)).is, (deeper 4 (omega arith)).is, (deeper 5 (omega arith)).is, (deeper 6 (omega arith)).is, (deeper 7 (omega arith)).is, children_share (up_by s.eps a b) bodies c l (omega arith) k, children_share (down_by s.eps a b) bodies c l (omega arith) k);
    })

-- the force at ratio 0, by the sizes on both sides
force-parts : (s : Settings) (a : Axis) (bodies : List BodyValue) (b : BodyValue) → s.num ≡ 0 → component a (force s bodies b) ≡ pos (sum_by (size_by s.eps a b) (beyond a b bodies)) -ℤ pos (sum_by (size_by s.eps a b) (before a b bodies))
force-parts s a bodies b e =
    let all : IsPulled s.eps a b bodies (component a (force s bodies b)) =
    subst (λ xs. IsPulled s.eps a b xs (component a (force s bodies b))) (inside-root bodies) (cell-pulled s a bodies b 21 1 e (omega arith) (omega arith, omega arith)) in
    rw (sum_filter (size_by s.eps a b) (λ o. ltb (spot a b) (spot a o)) bodies, sum_filter (size_by s.eps a b) (λ o. ltb (spot a o) (spot a b)) bodies) all.is

times-sum : (q a b c : ℕ) → a + b ≡ c → q * a + q * b ≡ q * c
times-sum q a b c e = omega (arith, ap (λ (n : ℕ). q * n) e)

-- a number times a difference
times-difference : (q up down : ℕ) → pos q *ℤ (pos up -ℤ pos down) ≡ pos (q * up) -ℤ pos (q * down)
times-difference q up down =
    elim (cases_lt up down) [
      | inl less ↦
          let k = down - up - 1 in
          let d : pos up -ℤ pos down ≡ negsuc k = omega (arith, ints) in
          let s : suc k + up ≡ down = omega arith in
          let m = times-sum q (suc k) up down s in
          rw (d, pos-*ℤ-negsuc q k) (omega (arith, ints, m))
      | inr more ↦
          let k = up - down in
          let d : pos up -ℤ pos down ≡ pos k = omega (arith, ints) in
          let s : k + down ≡ up = omega arith in
          let m = times-sum q k down up s in
          rw (d, pos-*ℤ-pos q k) (omega (arith, ints, m))
    ]

sum-near : (q up down um us uc ul dm ds dc dl : ℕ) (n : ℤ) → n ≡ pos up -ℤ pos down → q * up ≤ um + us → ul ≤ q * up + q * uc → q * down ≤ dm + ds → dl ≤ q * down + q * dc → ((pos ul -ℤ pos (dm + ds + q * uc)) ≤ℤ (pos q *ℤ n)) × ((pos q *ℤ n) ≤ℤ (pos (um + us + q * dc) -ℤ pos dl))
sum-near q up down um us uc ul dm ds dc dl n e f g h k =
    let z : pos q *ℤ n ≡ pos (q * up) -ℤ pos (q * down) = rw e (times-difference q up down) in
    (omega (arith, ints, z), omega (arith, ints, z))

-- each component of the force is near the exact sum
pub force-near : (s : Settings) (bodies : List BodyValue) (b : BodyValue) (a : Axis) → s.num ≡ 0 → 1 ≤ s.eps → IsNearAlong s.eps a bodies b (component a (force s bodies b))
force-near s bodies b a e h = λ q least most f.
    let p : BodyValue → Bool = λ o. ltb (spot a b) (spot a o) in
    let r : BodyValue → Bool = λ o. ltb (spot a o) (spot a b) in
    let low : BodyValue → Type 0 = λ o. IsAtMost q (felt s.eps a b o) (least o) in
    let high : BodyValue → Type 0 = λ o. IsAtLeast q (felt s.eps a b o) (most o) in
    let up = beyond a b bodies in
    let down = before a b bodies in
    let both = sum-near q (sum_by (size_by s.eps a b) up) (sum_by (size_by s.eps a b) down) (sum_by most up) (sum_by (share_of s.eps a b most) up) (length up) (sum_by least up) (sum_by most down) (sum_by (share_of s.eps a b most) down) (length down) (sum_by least down) (component a (force s bodies b)) (force-parts s a bodies b e)
    (sizes-most q s.eps a b most up h (All-filter p high bodies f.above))
    (sizes-least q s.eps a b least up h (All-filter p low bodies f.below))
    (sizes-most q s.eps a b most down h (All-filter r high bodies f.above))
    (sizes-least q s.eps a b least down h (All-filter r low bodies f.below)) in
    record { from = both.0; to = both.1 }
