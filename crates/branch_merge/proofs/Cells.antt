-- Cells as ranges of body keys, and cells above others.
use Rattle.std.proofs.Common.{ℕ, zero, suc, ◌≡◌, ◌+◌, ◌-◌, ◌/◌, ◌^◌, ◌<◌, ◌≤◌, true, sym, ap, ◌∙◌, subst, inl, inr, arith}
use Rattle.std.specs.Prelude.{◌⊎◌}
use Rattle.std.proofs.lemmas.Bool.{cases_lt, cases_eq}
use Rattle.hot_units.specs.Keys.{HasLevel, IsCell, level, covers, child, parent}
use Rattle.hot_units.proofs.Digits.{level-is}
use Rattle.hot_model.proofs.Fronts.{covers_front, front_covers, drop_twice, covers_level, covers-trans, covers-parent, parent-covers, parent_of_child, covers-self, one_level, root_level}
use Rattle.rank_model.specs.Needs.{IsAbove}
use Rattle.morton_key.specs.Ranges.{IsBodyKey, first_key, last_key}
use Rattle.morton_key.proofs.Numbers.{is_least, is_greatest, child_has}
use Rattle.morton_key.proofs.KeyLaws.{range_of_a_cell}
use Rattle.branch_merge.specs.Merged.{IsProper}

-- a cell covers itself
pub self_covers : (c : ℕ) → IsCell c → covers c c ≡ true
self_covers c i = covers-self c i.0 i.1 i.2

-- of two cells with a common body key the upper one covers the lower one
meet_covers : (k c f : ℕ) (p : IsCell k) (q : IsCell c) → IsBodyKey f → p.0 ≤ q.0 → covers k f ≡ true → covers c f ≡ true → covers k c ≡ true
meet_covers k c f p q b h e g =
    let u = covers_front k f p.0 21 p.1 (omega arith) p.2 b e in
    let v = covers_front c f q.0 21 q.1 (omega arith) q.2 b g in
    let s : (21 - q.0) + (q.0 - p.0) ≡ 21 - p.0 = omega (arith, q.1, h) in
    front_covers k c p.0 q.0 h q.1 p.2 q.2
    (ap (λ (n : ℕ). n / 8 ^ (q.0 - p.0)) (sym v) ∙ (drop_twice f (21 - q.0) (q.0 - p.0) ∙ (ap (λ (n : ℕ). f / 8 ^ n) s ∙ u)))

-- the first key of a covered cell is one of the cell
pub covered_range : (c k : ℕ) → IsCell c → IsCell k → covers c k ≡ true → (first_key c ≤ first_key k) × (first_key k ≤ last_key c)
covered_range c k p q e =
    let l = is_least k q in
    let f : covers c (first_key k) ≡ true = covers-trans c k (first_key k) p q (21, omega arith, l.body) e l.within in
    ((is_least c p).least (first_key k) l.body f, (is_greatest c p).greatest (first_key k) l.body f)

-- a cell whose first key is one of another is in it or above it
pub in_range : (c k : ℕ) (p : IsCell c) (q : IsCell k) → first_key c ≤ first_key k → first_key k ≤ last_key c → (covers c k ≡ true) ⊎ IsAbove k c
in_range c k p q h i =
    let l = is_least k q in
    let f : covers c (first_key k) ≡ true = (range_of_a_cell c (first_key k) p l.body).1 (h, i) in
    elim (cases_lt q.0 p.0) [
      | inl less ↦ inr (
        meet_covers k c (first_key k) q p l.body (omega arith) l.within f,
        λ e. (let same = one_level c q.0 p.0 q.1 p.1 (subst (λ (n : ℕ). HasLevel n q.0) e q.2) p.2 in omega (arith, same, less)),
      )
      | inr more ↦ inl (meet_covers c k (first_key k) p q l.body more f l.within)
    ]

-- a cell above another has a smaller level
pub above_level : (k c : ℕ) (p : IsCell k) (q : IsCell c) → IsAbove k c → p.0 < q.0
above_level k c p q h =
    let le = covers_level k c p.0 q.0 p.1 q.1 p.2 q.2 h.0 in
    elim (cases_lt p.0 q.0) [
      | inl n ↦ n
      | inr n ↦
          let e : q.0 - p.0 ≡ 0 = omega (arith, n) in
          let f = covers_front k c p.0 q.0 p.1 q.1 p.2 q.2 h.0 in
          let g = rw e at f in
          absurd (h.1 (omega (arith, g)))
    ]

-- nothing is above the root
pub none_above_root : (c : ℕ) → IsProper c 1 → ⊥
none_above_root c h = let l = above_level c 1 h.0 (0, omega arith, root_level) h.1 in omega (arith, l)

-- a cell below the root, with its level
lower : (c : ℕ) → IsCell c → 1 ≤ level c → (l : ℕ) × (suc l ≤ 21) × HasLevel c (suc l)
lower c i h = by_level i.0 i.1 i.2
  where
    by_level : (l : ℕ) → l ≤ 21 → HasLevel c l → (m : ℕ) × (suc m ≤ 21) × HasLevel c (suc m)
    by_level zero p q = absurd (let e = level-is c 0 p q in omega (arith, e, h))
    by_level (suc m) p q = (m, p, q)

-- the parent covers a cell
pub parent_covers : (c k : ℕ) → IsCell c → k ≡ parent c → level c ≡ level k + 1 → covers k c ≡ true
parent_covers c k i e h =
    let u = lower c i (omega (arith, h)) in
    subst (λ (n : ℕ). covers n c ≡ true) (sym e) (parent-covers c u.0 u.1 u.2)

-- a cell above another is its parent or above that
pub step_up : (c below above : ℕ) → IsCell below → above ≡ parent below → level below ≡ level above + 1 → IsProper c below → (c ≡ above) ⊎ IsProper c above
step_up c below above i e h p =
    let u = lower below i (omega (arith, h)) in
    let l : p.0.0 < suc u.0 = above_level c below p.0 (suc u.0, u.1, u.2) p.1 in
    let cov : covers c above ≡ true = subst (λ (n : ℕ). covers c n ≡ true) (sym e) (covers-parent c below p.0.0 u.0 (omega (arith, l)) u.1 p.0.2 u.2 p.1.0) in
    elim (cases_eq c above) [
      | inl same ↦ inl same
      | inr differ ↦ inr (p.0, (cov, differ))
    ]

-- a cell above one that covers another is above that
pub further : (c k j : ℕ) → IsProper c k → IsCell k → IsCell j → covers k j ≡ true → IsProper c j
further c k j h q r e =
    let up = above_level c k h.0 q h.1 in
    let down = covers_level k j q.0 r.0 q.1 r.1 q.2 r.2 e in (
      h.0,
      (
        covers-trans c k j h.0 q r h.1.0 e,
        λ same. (let l = one_level j h.0.0 r.0 h.0.1 r.1 (subst (λ (n : ℕ). HasLevel n h.0.0) same h.0.2) r.2 in omega (arith, l, up, down)),
      ),
    )

-- a cell above a child covers the cell
pub above_child : (x c d : ℕ) → IsCell x → IsCell c → level c < 21 → d < 8 → IsAbove x (child c d) → covers x c ≡ true
above_child x c d p q h k a =
    let s : HasLevel (child c d) (suc (level c)) = child_has c d q k in
    let l : p.0 < suc (level c) = above_level x (child c d) p (suc (level c), h, s) a in
    subst (λ (n : ℕ). covers x n ≡ true) (parent_of_child c d k) (covers-parent x (child c d) p.0 (level c) (omega (arith, l)) h p.2 s a.0)

-- so nothing in a cell is above its child
pub none_above_child : (x c d : ℕ) → IsCell x → IsCell c → level c < 21 → d < 8 → IsAbove c x → IsAbove x (child c d) → ⊥
none_above_child x c d p q h k a b =
    let up = covers_level x c p.0 q.0 p.1 q.1 p.2 q.2 (above_child x c d p q h k b) in
    let down = above_level c x q p a in
    omega (arith, up, down)

-- a cell above another is above the last level
pub above_is_high : (c k : ℕ) → IsCell c → IsCell k → IsAbove c k → level c < 21
above_is_high c k p q a = let l = above_level c k p q a in omega (arith, level-is c p.0 p.1 p.2, l, q.1)

-- the bodies' range of a cell is not empty
pub first_below_last : (c : ℕ) → IsCell c → first_key c ≤ last_key c
first_below_last c i = (is_least c i).least (last_key c) (is_greatest c i).body (is_greatest c i).within

-- a cell that covers another has its first key in the other's range, or before it
pub covers_back : (c k : ℕ) → IsCell c → IsCell k → covers c k ≡ true → covers k c ≡ true → c ≡ k
covers_back c k p q e f =
    elim (cases_eq c k) [
      | inl same ↦ same
      | inr differ ↦
          let l = above_level c k p q (e, differ) in
          let m = covers_level k c q.0 p.0 q.1 p.1 q.2 p.2 f in
          absurd (omega (arith, l, m))
    ]

-- a cell covers its children
pub covers_child : (c d : ℕ) → IsCell c → level c < 21 → d < 8 → covers c (child c d) ≡ true
covers_child c d i h k =
    subst (λ (n : ℕ). covers n (child c d) ≡ true) (parent_of_child c d k) (parent-covers (child c d) (level c) h (child_has c d i k))
