-- What `far` and `near` leave.
use Rattle.std.proofs.Common.{ℕ, Bool, ◌≡◌, ◌+◌, List, ℤ, pos, ◌+ℤ◌, slice_index_or, refl}
use Rattle.hot_units.specs.Values.{BodyValue, CellValue, Acc3Value, place, point_at, components, coordinates}
use Rattle.hot_model.specs.Kernel.{pull}
use Rattle.hot_model.specs.Trees.{Far, Near, pull_far}
use Rattle.hot_model.specs.Forces.{gravity_adds, term_pull}

-- an accumulator after the pull `by` of a mass
abbrev pub after_pull : Acc3Value → List ℤ → ℕ → Acc3Value
after_pull a by m = record {
  seen = a.seen + m;
  ax = a.ax +ℤ slice_index_or by 0 (pos 0);
  ay = a.ay +ℤ slice_index_or by 1 (pos 0);
  az = a.az +ℤ slice_index_or by 2 (pos 0);
}

-- a cell's pull and mass, added, leave what its term adds
pub far_adds : (second s : Bool) (eps e m : ℕ) (b : BodyValue) (c : CellValue) (a r : Acc3Value) (by : List ℤ) → s ≡ second → e ≡ eps → m ≡ c.mass → by ≡ components (pull_far s e b c) → r ≡ after_pull a by m → r ≡ gravity_adds second eps b a (Far c)
unfolding term_pull
far_adds second s eps e m b c a r by order soft mass pulled after = rw (after, pulled, mass, order, soft) refl

-- another body's pull and mass, added, leave what its term adds
pub near_adds : (second : Bool) (eps e m : ℕ) (b o : BodyValue) (a r : Acc3Value) (p q : List ℕ) (by : List ℤ) → e ≡ eps → m ≡ o.mass → p ≡ coordinates (place b) → q ≡ coordinates (place o) → by ≡ components (pull e (point_at p) (point_at q) m) → r ≡ after_pull a by m → r ≡ gravity_adds second eps b a (Near o)
unfolding term_pull
near_adds second eps e m b o a r p q by soft mass from at pulled after = rw (after, pulled, at, from, mass, soft) refl
