-- Sums of sizes against sums of exact ones.
use Rattle.std.proofs.Common.{ℕ, ◌+◌, ◌*◌, ◌/◌, ◌<◌, ◌≤◌, List, [], ◌∷◌, length, sum_by, arith}
use Rattle.std.specs.Prelude.{All}
use Rattle.std.proofs.lemmas.Nat.{mul-le}
use Rattle.std.proofs.lemmas.List.Elements.{All-head, All-tail}
use Rattle.std.proofs.lemmas.List.Sums.{sum_by-cons}
use Rattle.std.proofs.Math.Nat.{div-mul-le_self}
use Rattle.hot_units.specs.Values.{BodyValue, place}
use Rattle.hot_units.specs.declared.cube.Axis.{Axis}
use Rattle.hot_model.proofs.Pulls.{soft2-above, soft2-is, root-above}
use Rattle.fixed_kernel.specs.Softened.{scaled_root}
use Rattle.pull_bound.specs.Exact.{Source, exact, IsAtMost, IsAtLeast}
use Rattle.pull_bound.specs.Sums.{felt, share_of}
use Rattle.pull_bound.proofs.Sizes.{cube-above, most-above, least-below}
use Rattle.pull_bound.proofs.Pulls.{size_of, root-some, size-near}

-- the printed size of the pull of the body o on b
abbrev pub size_by : ℕ → Axis → BodyValue → BodyValue → ℕ
size_by eps a b o = size_of (felt eps a b o)

-- one size is at most what is at least the exact one, with its share
one-most : (q : ℕ) (s : Source) (n : ℕ) → 0 < s.soft → IsAtLeast q s n → q * size_of s ≤ n + n / scaled_root s.soft
one-most q s n h k = most-above q (exact s) (s.soft * s.soft * s.soft) (size_of s) (scaled_root s.soft) n (cube-above s.soft h) (root-some s.soft h) (size-near s h).exceeds k

-- and one unit less than what is at most the exact one
one-least : (q : ℕ) (s : Source) (n : ℕ) → 0 < s.soft → IsAtMost q s n → n ≤ q * size_of s + q
one-least q s n h k = least-below q (exact s) (s.soft * s.soft * s.soft) (size_of s) n (cube-above s.soft h) (size-near s h).lacks k

-- the sizes of some bodies are at most what is at least the exact ones, with their shares
pub sizes-most : (q eps : ℕ) (a : Axis) (b : BodyValue) (most : BodyValue → ℕ) (xs : List BodyValue) → 1 ≤ eps → All (λ o. IsAtLeast q (felt eps a b o) (most o)) xs → q * sum_by (size_by eps a b) xs ≤ sum_by most xs + sum_by (share_of eps a b most) xs
sizes-most q eps a b most [] h k = omega arith
sizes-most q eps a b most (x ∷ xs) h k =
    let P : BodyValue → Type 0 = λ o. IsAtLeast q (felt eps a b o) (most o) in
    let one = one-most q (felt eps a b x) (most x) (soft2-above eps (place b) (place x) h) (All-head P x xs k) in
    rw (sum_by-cons (size_by eps a b) x xs, sum_by-cons most x xs, sum_by-cons (share_of eps a b most) x xs) (omega (arith, one, sizes-most q eps a b most xs h (All-tail P x xs k)))

-- and what is at most the exact ones is at most these and one unit a body
pub sizes-least : (q eps : ℕ) (a : Axis) (b : BodyValue) (least : BodyValue → ℕ) (xs : List BodyValue) → 1 ≤ eps → All (λ o. IsAtMost q (felt eps a b o) (least o)) xs → sum_by least xs ≤ q * sum_by (size_by eps a b) xs + q * length xs
sizes-least q eps a b least [] h k = omega arith
sizes-least q eps a b least (x ∷ xs) h k =
    let P : BodyValue → Type 0 = λ o. IsAtMost q (felt eps a b o) (least o) in
    let one = one-least q (felt eps a b x) (least x) (soft2-above eps (place b) (place x) h) (All-head P x xs k) in
    rw (sum_by-cons (size_by eps a b) x xs, sum_by-cons least x xs) (omega (arith, one, sizes-least q eps a b least xs h (All-tail P x xs k)))

-- a share is at most one part in 1,024 times the softening
one-share : (eps : ℕ) (a : Axis) (b o : BodyValue) (n : ℕ) → 1024 * eps * (n / scaled_root (felt eps a b o).soft) ≤ n
one-share eps a b o n =
    let s = scaled_root (felt eps a b o).soft in
    let near : 1024 * eps ≤ s = root-above (felt eps a b o).soft eps (omega (arith, soft2-is eps (place b) (place o))) in
    omega (arith, mul-le (1024 * eps) (n / s) s (n / s) near (omega arith), div-mul-le_self n s)

-- all shares together are at most the sizes over that
pub shares-small : (eps : ℕ) (a : Axis) (b : BodyValue) (most : BodyValue → ℕ) (xs : List BodyValue) → 1024 * eps * sum_by (share_of eps a b most) xs ≤ sum_by most xs
shares-small eps a b most [] = omega arith
shares-small eps a b most (x ∷ xs) =
    rw (sum_by-cons most x xs, sum_by-cons (share_of eps a b most) x xs) (omega (arith, one-share eps a b x (most x), shares-small eps a b most xs))
