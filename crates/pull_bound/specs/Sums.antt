-- Sums of exact pulls, by whole numbers between which the terms lie.
use Rattle.std.specs.Prelude.{ℕ, ◌*◌, ◌+◌, ◌/◌, ltb, List, length, filter, sum_by, All, ℤ, pos, ◌*ℤ◌, ◌-ℤ◌, ◌≤ℤ◌}
use Rattle.hot_units.specs.Values.{BodyValue, place}
use Rattle.hot_units.specs.declared.cube.Axis.{Axis}
use Rattle.fixed_kernel.specs.Softened.{scaled_root}
use Rattle.pull_bound.specs.Exact.{along, Source, source, IsAtMost, IsAtLeast}

-- what the body o is for the body b
abbrev pub felt : ℕ → Axis → BodyValue → BodyValue → Source
felt eps a b o = source eps a (place b) (place o) o.mass

-- in units of 1/q the exact pull of each body is from `least` to `most` of the body
pub record Brackets (q eps : ℕ) (a : Axis) (b : BodyValue) (least most : BodyValue → ℕ) (bodies : List BodyValue) : Type 0 where
  pub below : All (λ o. IsAtMost q (felt eps a b o) (least o)) bodies
  pub above : All (λ o. IsAtLeast q (felt eps a b o) (most o)) bodies

-- a coordinate of a body
abbrev pub spot : Axis → BodyValue → ℕ
spot a b = along a (place b)

-- the bodies beyond b along an axis, which pull it up, and those before it, which pull it down; those beside it do neither
abbrev pub beyond : Axis → BodyValue → List BodyValue → List BodyValue
beyond a b bodies = filter (λ o. ltb (spot a b) (spot a o)) bodies

-- and those before it
abbrev pub before : Axis → BodyValue → List BodyValue → List BodyValue
before a b bodies = filter (λ o. ltb (spot a o) (spot a b)) bodies

-- the sums of one side: how many bodies, what they pull at least and at most, and what the printed pulls may exceed that by
pub record Side : Type 0 where
  pub count : ℕ
  pub least : ℕ
  pub most : ℕ
  pub share : ℕ

-- the share of a body: one part in so many as its scaled root says
abbrev pub share_of : ℕ → Axis → BodyValue → (BodyValue → ℕ) → BodyValue → ℕ
share_of eps a b most o = most o / scaled_root (felt eps a b o).soft

-- the sums over some bodies
abbrev pub side_of : ℕ → Axis → BodyValue → (BodyValue → ℕ) → (BodyValue → ℕ) → List BodyValue → Side
side_of eps a b least most bodies =
    record { count = length bodies; least = sum_by least bodies; most = sum_by most bodies; share = sum_by (share_of eps a b most) bodies }

-- a printed sum n against the exact one, in units of 1/q: of what pulls it each way no more than one unit a body is missing,
-- and no more than the shares is too much
pub record IsNearSum (q : ℕ) (up down : Side) (n : ℤ) : Type 0 where
  pub from : (pos up.least -ℤ pos (down.most + down.share + q * up.count)) ≤ℤ (pos q *ℤ n)
  pub to : (pos q *ℤ n) ≤ℤ (pos (up.most + up.share + q * down.count) -ℤ pos down.least)

-- the same of the component of a force on b, whatever its exact terms lie between
abbrev pub IsNearAlong : ℕ → Axis → List BodyValue → BodyValue → ℤ → Type 0
IsNearAlong eps a bodies b n =
    (q : ℕ) (least most : BodyValue → ℕ)
    → Brackets q eps a b least most bodies
    → IsNearSum q (side_of eps a b least most (beyond a b bodies)) (side_of eps a b least most (before a b bodies)) n
