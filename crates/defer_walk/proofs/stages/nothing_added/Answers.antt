use Rattle.std.proofs.Common.{◌≡◌, ◌∷◌, [], length, ap, sym, ◌∙◌, subst, arith}
use Rattle.std.specs.Prelude.{All}
use Rattle.std.proofs.lemmas.List.{length-append}
use Rattle.std.proofs.lemmas.List.Elements.{All-push}
use Rattle.defer_walk.proofs.stages.nothing_added.Goals as goal

pub loop-i-preserved : goal.loop-i-preserved
loop-i-preserved g c =
    let e = c.in_ok-push.ensures.items in
    record {
      long = ap length e ∙ length-append c.loop-i.accs.items (c.zero.result ∷ []) ∙ omega (arith, c.loop-i.invariant.long);
      each = subst (All (λ a. a ≡ g.V.Visit.zero_of c.args.visit.now)) (sym e) (All-push (λ a. a ≡ g.V.Visit.zero_of c.args.visit.now) c.loop-i.accs.items c.zero.result c.loop-i.invariant.each c.zero.ensures.value);
      none = subst (All (λ a. g.V.Acc.Seen.seen_of a ≡ 0)) (sym e) (All-push (λ a. g.V.Acc.Seen.seen_of a ≡ 0) c.loop-i.accs.items c.zero.result c.loop-i.invariant.none c.zero.ensures.none);
    }
