-- The first of the faults of a row.
use Rattle.std.proofs.Common.{◌≡◌, ◌<◌, ◌≤◌, ◌+◌, Bool, true, false, cond, ◌++◌, refl, sym, ◌∙◌, Option, Some, None, Result, Ok, Err, MatchOption}
use Rattle.std.proofs.lemmas.Bool.{ltb-true, leb-true}
use Rattle.std.specs.Prelude.{ℕ, pos, nat_abs, nat_lt, nat_le, slice_get}
use Rattle.hot_units.specs.Limits.{max_bodies, max_body_mass, max_all_mass, max_work}
use Rattle.hot_units.specs.Values.{CubeValue}
use Rattle.hot_units.specs.declared.cube.Axis.TheVariants.{X, Y, Z}
use Rattle.hot_units.specs.declared.raw_row.RawRow.{RawRow}
use Rattle.body_set.specs.declared.fault.PushError.{PushError}
use Rattle.body_set.specs.declared.fault.PushError.TheVariants.{TooMany, Outside, MassRange, WorkRange, MassSum}
use Rattle.body_set.specs.Rows.{unless, is_inside, is_between, first_after}

-- the first of seven faults is that of the first test that fails, and none where none fails
pub first_of_seven : (a b c d e f g : Bool) (p q r s t u v : PushError) → slice_get (unless a p ++ unless b q ++ unless c r ++ unless d s ++ unless e t ++ unless f u ++ unless g v) 0 ≡ cond a (cond b (cond c (cond d (cond e (cond f (cond g None (Some v)) (Some u)) (Some t)) (Some s)) (Some r)) (Some q)) (Some p)
first_of_seven false b c d e f g p q r s t u v = refl
first_of_seven true false c d e f g p q r s t u v = refl
first_of_seven true true false d e f g p q r s t u v = refl
first_of_seven true true true false e f g p q r s t u v = refl
first_of_seven true true true true false f g p q r s t u v = refl
first_of_seven true true true true true false g p q r s t u v = refl
first_of_seven true true true true true true false p q r s t u v = refl
first_of_seven true true true true true true true p q r s t u v = refl

-- the same at row k, where the rows before have this mass
pub first_by_tests : (cube : CubeValue) (k mass : ℕ) (raw : RawRow) → first_after cube k mass raw ≡ cond (nat_lt k max_bodies) (cond (is_inside cube.bits cube.x0 raw.x) (cond (is_inside cube.bits cube.y0 raw.y) (cond (is_inside cube.bits cube.z0 raw.z) (cond (is_between (pos 1) (pos max_body_mass) raw.mass) (cond (is_between (pos 0) (pos max_work) raw.work) (cond (nat_le (mass + nat_abs raw.mass) max_all_mass) None (Some (MassSum k))) (Some (WorkRange k))) (Some (MassRange k))) (Some (Outside k Z))) (Some (Outside k Y))) (Some (Outside k X))) (Some TooMany)
first_by_tests cube k mass raw = first_of_seven _ _ _ _ _ _ _ _ _ _ _ _ _ _

-- a test whose failure is a fault is passed where there is none, and what stands behind it has none
passed : (t : Bool) (o : Option PushError) (f : PushError) → cond t o (Some f) ≡ None → (t ≡ true) × (o ≡ None)
passed true o f e = (refl, e)
passed false o f e = absurd cc

-- a row without a fault finds room
pub few_of_none : (cube : CubeValue) (k mass : ℕ) (raw : RawRow) → first_after cube k mass raw ≡ None → k < max_bodies
few_of_none cube k mass raw e = ltb-true _ _ (passed (nat_lt k max_bodies) _ _ (sym (first_by_tests cube k mass raw) ∙ e)).0

-- a row without a fault keeps all mass within its limit
pub light_of_none : (cube : CubeValue) (k mass : ℕ) (raw : RawRow) → first_after cube k mass raw ≡ None → mass + nat_abs raw.mass ≤ max_all_mass
light_of_none cube k mass raw e =
    let a = passed (nat_lt k max_bodies) _ _ (sym (first_by_tests cube k mass raw) ∙ e) in
    let b = passed (is_inside cube.bits cube.x0 raw.x) _ _ a.1 in
    let c = passed (is_inside cube.bits cube.y0 raw.y) _ _ b.1 in
    let d = passed (is_inside cube.bits cube.z0 raw.z) _ _ c.1 in
    let f = passed (is_between (pos 1) (pos max_body_mass) raw.mass) _ _ d.1 in
    let g = passed (is_between (pos 0) (pos max_work) raw.work) _ _ f.1 in
    leb-true _ _ (passed (nat_le (mass + nat_abs raw.mass) max_all_mass) _ _ g.1).0

-- what an answer says of the first fault
pub accepted : {A : Type 0} (o : Option PushError) (p q : A) → MatchOption o (◌≡◌ {A = Result A PushError} (Ok p) (Ok q)) (λ f. Ok p ≡ Err f) → (o ≡ None) × (p ≡ q)
accepted None p q h = (refl, cc)
accepted (Some f) p q h = absurd cc
