use Rattle.std.proofs.Common.{ℕ, ◌≡◌, ◌+◌, ap, ◌∙◌, arith}
use Rattle.morton_key.specs.Ranges.{count_below, last_key}
use Rattle.local_tree.proofs.Searches.{places-rise}
use Rattle.local_tree.proofs.Edges.{places-inside}
use Rattle.local_tree.proofs.places.places.Goals as goal

pub count_within-to-requires-clause-lower : goal.count_within-to-requires-clause-lower
count_within-to-requires-clause-lower c =
    rw (c.start_of-from.ensures.value, c.last_key.ensures.value) (places-rise c.args.bodies.now c.args.cell c.requires.cell)

pub returns-clause-inside : goal.returns-clause-inside
returns-clause-inside c =
    let xs = c.args.bodies.now in
    let to : c.count_within-to.result ≡ count_below (last_key c.args.cell + 1) xs = c.count_within-to.ensures.value ∙ ap (λ (k : ℕ). count_below (k + 1) xs) c.last_key.ensures.value in
    places-inside xs c.args.cell c.start_of-from.result c.count_within-to.result c.requires.order c.requires.cell c.start_of-from.ensures.value to
    (omega (arith, c.start_of-from.ensures.value, to, places-rise xs c.args.cell c.requires.cell))

pub returns-clause-ascending : goal.returns-clause-ascending
returns-clause-ascending c =
    let xs = c.args.bodies.now in
    let to : c.count_within-to.result ≡ count_below (last_key c.args.cell + 1) xs = c.count_within-to.ensures.value ∙ ap (λ (k : ℕ). count_below (k + 1) xs) c.last_key.ensures.value in
    omega (arith, c.start_of-from.ensures.value, to, places-rise xs c.args.cell c.requires.cell)
