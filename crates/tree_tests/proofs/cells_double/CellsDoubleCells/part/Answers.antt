use Rattle.std.proofs.Common.{◌≡◌, ◌<◌, List, length, rules, true, false}
use Rattle.hot_units.specs.Values.{BodyValue}
use Rattle.hot_units.specs.Keys.{contains}
use Rattle.defer_walk.specs.Listing.{world_of}
use Rattle.tree_tests.proofs.Listings.{scanned_step, scanned_skip}
use Rattle.tree_tests.proofs.cells_double.CellsDoubleCells.part.Goals.{then-has, else-has}
use Rattle.tree_tests.proofs.cells_double.CellsDoubleCells.part.Goals as goal

pub loop-b-preserved : goal.loop-b-preserved
loop-b-preserved c =
    let xs : List BodyValue = c.args.self.now.bodies in
    let b : BodyValue = c.b-item.result in
    let same : c.deref-b-items.result.now ≡ xs = search rules in
    let at = rw same at c.b-item.is in
    let within : c.loop-b.b-index < length xs = search rules in
    let old = c.loop-b.invariant.scanned in
    elim c.if-has.branch [
      | then-has t ↦ record {
        scanned = scanned_step (world_of c.args.self.now) (contains c.args.key) xs c.loop-b.b-index b c.loop-b.owner c.if-has.owner c.loop-b.one c.if-has.one c.loop-b.count c.if-has.count
            within at (let e : contains c.args.key b ≡ true = search rules in e) old (search rules) (search rules) (search rules);
        short = search rules;
      }
      | else-has t ↦ record {
        scanned = scanned_skip (world_of c.args.self.now) (contains c.args.key) xs c.loop-b.b-index b c.loop-b.owner c.if-has.owner c.loop-b.one c.if-has.one c.loop-b.count c.if-has.count
            within at (let e : contains c.args.key b ≡ false = search rules in e) old t.owner-is t.one-is t.count-is;
        short = search rules;
      }
    ]
