use Rattle.std.proofs.Common.{ℕ, ◌++◌, ◌∷◌, [], List, ap, sym, ◌∙◌, add-one, append_assoc}
use Rattle.defer_walk.specs.Grouping.{places_to}
use Rattle.defer_walk.proofs.held.list_places.Goals as goal

pub loop-body-preserved : goal.loop-body-preserved
loop-body-preserved c =
    ap (λ (xs : List ℕ). places_to c.args.from ++ xs) c.in_ok-push.ensures.items
    ∙ sym (append_assoc (places_to c.args.from) c.loop-body.places.items (c.loop-body.body ∷ []))
    ∙ ap (λ (xs : List ℕ). xs ++ c.loop-body.body ∷ []) c.loop-body.invariant
    ∙ ap places_to (sym (add-one c.loop-body.body))
