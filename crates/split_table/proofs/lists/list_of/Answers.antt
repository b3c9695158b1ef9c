use Rattle.std.proofs.Common.{◌≡◌, ℕ, List, length, ap, ◌∙◌, subst, sym, arith}
use Rattle.std.specs.Result.{IfOk}
use Rattle.hot_units.specs.Values.{CellValue}
use Rattle.hot_units.specs.Order.{IsInOrder}
use Rattle.rank_model.specs.World.{left_of, right_of}
use Rattle.rank_model.proofs.Worlds.{piece_in_order}
use Rattle.local_tree.specs.Pieces.{PieceValue}
use Rattle.work_split.specs.Splits.{world_of, ranks_of}
use Rattle.split_table.proofs.Parts.{piece_short, piece_light, left_is_key, right_is_key, branches-of_piece}
use Rattle.split_table.proofs.lists.list_of.Goals as goal

-- the bodies of a rank are in key order
pub build-requires-clause-order : goal.build-requires-clause-order
build-requires-clause-order c =
    let w = world_of c.args.set.now c.args.ranks in
    subst IsInOrder (sym c.bodies_of-bodies.ensures.value) (piece_in_order w c.args.q c.bodies_of-bodies.ensures.good)

-- the left neighbour is a body key
pub build-requires-clause-left : goal.build-requires-clause-left
build-requires-clause-left c = left_is_key (world_of c.args.set.now (ranks_of c.args.pieces.now)) c.args.q _ c.neighbours-left.ensures.left

-- the right neighbour is a body key
pub build-requires-clause-right : goal.build-requires-clause-right
build-requires-clause-right c = right_is_key (world_of c.args.set.now (ranks_of c.args.pieces.now)) c.args.q _ c.neighbours-left.ensures.right

-- a rank has no more bodies than there may be
pub build-requires-clause-few : goal.build-requires-clause-few
build-requires-clause-few c =
    let w = world_of c.args.set.now c.args.ranks in
    omega (arith, ap length c.bodies_of-bodies.ensures.value, piece_short w c.args.q, c.bodies_of-bodies.ensures.good.few)

-- a rank's bodies have no more mass than all may have
pub build-requires-clause-light : goal.build-requires-clause-light
build-requires-clause-light c =
    let w = world_of c.args.set.now c.args.ranks in
    rw c.bodies_of-bodies.ensures.value (piece_light w c.args.q c.bodies_of-bodies.ensures.good)

-- the branches of the piece's tree are those of the rank
pub returns : goal.returns
returns c =
    let set = c.args.set.now in
    let w = world_of set c.args.ranks in
    let tree = c.in_ok-tree.tree in
    let bodies = ap (λ (p : PieceValue). p.bodies) c.in_ok-tree.ensures.value ∙ c.bodies_of-bodies.ensures.value in
    let left = ap (λ (p : PieceValue). p.left) c.in_ok-tree.ensures.value ∙ c.neighbours-left.ensures.left ∙ ap (λ (n : ℕ). left_of (world_of set n) c.args.q) c.requires.split.ranks_are in
    let right = ap (λ (p : PieceValue). p.right) c.in_ok-tree.ensures.value ∙ c.neighbours-left.ensures.right ∙ ap (λ (n : ℕ). right_of (world_of set n) c.args.q) c.requires.split.ranks_are in
    record { good = c.bodies_of-bodies.ensures.good; value = subst (λ (recs : List CellValue). IfOk c.branches.result (λ l. l ≡ recs)) (branches-of_piece w c.args.q tree.bodies tree.left tree.right c.bodies_of-bodies.ensures.good bodies left right) c.branches.ensures.value }
