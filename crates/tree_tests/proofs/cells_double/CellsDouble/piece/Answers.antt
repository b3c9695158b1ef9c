use Rattle.std.proofs.Common.{◌≡◌, ◌<◌, ◌++◌, eqb, rules, Bool, true, false, List, [], ◌∷◌, length, sym, ap, ◌∙◌}
use Rattle.std.proofs.lemmas.Bool.{ne_eqb, eq-eqb}
use Rattle.hot_units.specs.Values.{BodyValue}
use Rattle.hot_units.specs.Keys.{key_of_body}
use Rattle.defer_walk.specs.Listing.{ListingValue, rank_by}
use Rattle.tree_tests.proofs.Listings.{more_true, more_false}
use Rattle.tree_tests.proofs.cells_double.CellsDouble.piece.Goals as goal
use Rattle.tree_tests.proofs.cells_double.CellsDouble.piece.Goals.{then-rank-self+in_ok-push, else-rank-self}

pub loop-b-preserved : goal.loop-b-preserved
loop-b-preserved c =
    let v : ListingValue = c.args.self.now in
    let b : BodyValue = c.b-item.result in
    let p : BodyValue → Bool = λ o. eqb (rank_by v.cuts (key_of_body o)) v.me in
    let same : c.deref-b-items.result.now ≡ v.bodies = search rules in
    let at = rw same at c.b-item.is in
    let within : c.loop-b.b-index < length v.bodies = search rules in
    let key : c.b.inside.key ≡ key_of_body b = c.b.invariant.5 ∙ ap key_of_body c.b.view_is in
    let rank : c.rank.result ≡ rank_by v.cuts (key_of_body b) = c.rank.ensures.value ∙ ap (rank_by v.cuts) key in
    let me : c.self.inside.me ≡ v.me = ap (λ (s : ListingValue). s.me) c.self.view_is in
    elim c.if-rank-self.branch [
      | then-rank-self+in_ok-push w ↦
          let items : c.if-rank-self.piece.items ≡ c.loop-b.piece.items ++ b ∷ [] = search rules in
          items
          ∙ ap (λ (os : List BodyValue). os ++ b ∷ []) c.loop-b.invariant
          ∙ sym (more_true p v.bodies c.loop-b.b-index b within at (eq-eqb (rank_by v.cuts (key_of_body b)) v.me (sym rank ∙ w.if-rank-self.true ∙ me)))
      | else-rank-self w ↦
          ap (λ z. z.items) w.piece-is
          ∙ c.loop-b.invariant
          ∙ sym (more_false p v.bodies c.loop-b.b-index b within at (ne_eqb (rank_by v.cuts (key_of_body b)) v.me (λ e. w.if-rank-self.false (rank ∙ e ∙ sym me))))
    ]
