use Rattle.std.proofs.Common.{ℕ, ◌≡◌, ◌<◌, length, get_or, sym, ap, ◌∙◌, subst}
use Rattle.hot_units.specs.Keys.{key_of_body, IsCell, front, parent}
use Rattle.hot_model.specs.Trees.{cell_record, inside}
use Rattle.rank_model.specs.Homes.{is_home_branch}
use Rattle.local_tree.specs.Pieces.{PieceValue}
use Rattle.local_tree.proofs.Fronts.{front_of, front-cell, front-some, above-some, level-more, last-more}
use Rattle.local_tree.proofs.tree.LocalTree.add_level.Goals as goal

pub add_branch-requires-clause-cell : goal.add_branch-requires-clause-cell
add_branch-requires-clause-cell c =
    let b = c.b-item.result in
    let key : key_of_body b ≡ c.b.inside.key = sym (c.b.invariant.5 ∙ ap key_of_body c.b.view_is) in
    let cell : c.front-cell.result ≡ front_of c.args.level b = c.front-cell.ensures.value ∙ ap (front c.args.level) (sym key) in
    subst (λ (k : ℕ). IsCell k) (sym cell) (front-cell c.args.level b c.requires.level)

pub add_branch-requires-clause-some : goal.add_branch-requires-clause-some
add_branch-requires-clause-some c =
    let b = c.b-item.result in
    let xs = c.args.self.now.bodies in
    let same : c.deref-b-items.result.now ≡ xs = c.deref-b-items.ensures.value ∙ ap (λ (p : PieceValue). p.bodies) c.self.view_is in
    let at : b ≡ get_or xs c.loop-b.b-index b = rw same at c.b-item.is in
    let within : c.loop-b.b-index < length xs = rw same at c.loop-b-test.true in
    let key : key_of_body b ≡ c.b.inside.key = sym (c.b.invariant.5 ∙ ap key_of_body c.b.view_is) in
    let cell : c.front-cell.result ≡ front_of c.args.level b = c.front-cell.ensures.value ∙ ap (front c.args.level) (sym key) in
    subst (λ (k : ℕ). 0 < length (inside xs k)) (sym cell) (front-some c.args.level xs c.loop-b.b-index b c.requires.level within at)

pub add_branch-requires-clause-above : goal.add_branch-requires-clause-above
add_branch-requires-clause-above c =
    let b = c.b-item.result in
    let xs = c.args.self.now.bodies in
    let same : c.deref-b-items.result.now ≡ xs = c.deref-b-items.ensures.value ∙ ap (λ (p : PieceValue). p.bodies) c.self.view_is in
    let at : b ≡ get_or xs c.loop-b.b-index b = rw same at c.b-item.is in
    let within : c.loop-b.b-index < length xs = rw same at c.loop-b-test.true in
    let key : key_of_body b ≡ c.b.inside.key = sym (c.b.invariant.5 ∙ ap key_of_body c.b.view_is) in
    let cell : c.front-cell.result ≡ front_of c.args.level b = c.front-cell.ensures.value ∙ ap (front c.args.level) (sym key) in
    subst (λ (k : ℕ). (k ≡ 1 → ⊥) → 0 < length (inside xs (parent k))) (sym cell) (above-some c.args.level xs c.loop-b.b-index b c.requires.level within at)

pub loop-b-preserved : goal.loop-b-preserved
loop-b-preserved c =
    let b = c.b-item.result in
    let p = c.args.self.now in
    let xs = p.bodies in
    let same : c.deref-b-items.result.now ≡ xs = c.deref-b-items.ensures.value ∙ ap (λ (p : PieceValue). p.bodies) c.self.view_is in
    let at : b ≡ get_or xs c.loop-b.b-index b = rw same at c.b-item.is in
    let within : c.loop-b.b-index < length xs = rw same at c.loop-b-test.true in
    let key : key_of_body b ≡ c.b.inside.key = sym (c.b.invariant.5 ∙ ap key_of_body c.b.view_is) in
    let cell : c.front-cell.result ≡ front_of c.args.level b = c.front-cell.ensures.value ∙ ap (front c.args.level) (sym key) in
    record {
      listed = level-more (cell_record xs) (is_home_branch xs p.left p.right) c.args.level xs c.loop-b.b-index c.loop-b.last b c.args.list.now c.loop-b.list c.add_branch.new.list
          c.requires.level within at c.loop-b.invariant.last c.loop-b.invariant.listed (rw cell at c.in_ok-add_branch.ensures.value);
      last = cell ∙ last-more c.args.level xs c.loop-b.b-index b within at;
    }
