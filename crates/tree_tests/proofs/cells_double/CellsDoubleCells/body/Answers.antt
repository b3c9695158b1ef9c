use Rattle.std.proofs.Common.{ℕ, ◌≡◌, ◌<◌, ◌≤◌, List, length, take, filter, get_or, rules, arith, subst, sym, ◌∙◌, ap, true, Some, None}
use Rattle.std.specs.Prelude.{slice_get}
use Rattle.std.proofs.lemmas.List.{take_all}
use Rattle.std.proofs.lemmas.Option.{slice_get_past}
use Rattle.hot_units.specs.Values.{BodyValue}
use Rattle.hot_units.specs.Keys.{contains}
use Rattle.rank_model.specs.World.{World, bodies_in}
use Rattle.tree_tests.proofs.Listings.{found}
use Rattle.tree_tests.proofs.cells_double.CellsDoubleCells.body.Goals as goal

pub returns-then-before-i : goal.returns-then-before-i
returns-then-before-i c =
    let xs : List BodyValue = c.args.self.now.bodies in
    let b : BodyValue = c.b-item.result in
    let same : c.deref-b-items.result.now ≡ xs = search rules in
    let at : b ≡ get_or xs c.loop-b.b-index b = rw same at c.b-item.is in
    let within : c.loop-b.b-index < length xs = search rules in
    let has : contains c.args.key (get_or xs c.loop-b.b-index b) ≡ true = subst (λ (z : BodyValue). contains c.args.key z ≡ true) at (let e : contains c.args.key b ≡ true = search rules in e) in
    let n : length (filter (contains c.args.key) (take c.loop-b.b-index xs)) ≡ c.args.i = sym c.loop-b.invariant.counted ∙ c.if-before-i.true in
    let f = subst (λ (k : ℕ). slice_get (filter (contains c.args.key) xs) k ≡ Some (get_or xs c.loop-b.b-index b)) n (found (contains c.args.key) xs c.loop-b.b-index b within has) in
    record { value = (λ w me s l. subst (λ (z : World). Some b ≡ slice_get (bodies_in z c.args.key) c.args.i) (sym s.0) (ap Some at ∙ sym f)) }

pub returns : goal.returns
returns c =
    let xs : List BodyValue = c.args.self.now.bodies in
    let all : take c.loop-b.b-index xs ≡ xs = take_all c.loop-b.b-index xs (search rules) in
    let n : length (filter (contains c.args.key) xs) ≤ c.args.i = subst (λ (zs : List BodyValue). length (filter (contains c.args.key) zs) ≤ c.args.i) all (let k = c.loop-b.invariant.counted in omega (arith, k, c.loop-b.invariant.low)) in
    record { value = (λ w me s l. subst (λ (z : World). None ≡ slice_get (bodies_in z c.args.key) c.args.i) (sym s.0) (sym (slice_get_past (filter (contains c.args.key) xs) c.args.i n))) }
