use Rattle.std.proofs.Common.{ℕ, ◌++◌, List, ◌∷◌, [], take, add-one, sym, ◌∙◌, ap, arith}
use Rattle.hot_units.specs.Values.{BodyValue}
use Rattle.rank_model.specs.World.{bodies_in}
use Rattle.defer_walk.proofs.Slots.{take_get}
use Rattle.defer_walk.proofs.Settles.{get_some}
use Rattle.std.proofs.lemmas.List.{take_all}
use Rattle.defer_walk.proofs.groups.read_leaf.Goals.{in-Some+in_ok-push, in_default}
use Rattle.defer_walk.proofs.groups.read_leaf.Goals as goal

pub loop-i-preserved : goal.loop-i-preserved
loop-i-preserved g c = λ w me stands part.
    elim c.match-body.branch [
      | in-Some+in_ok-push n ↦
          ap (λ v. v.items) n.leaf-is ∙ n.in_ok-push.ensures.items ∙ ap (λ (xs : List BodyValue). xs ++ n.in-Some.other ∷ []) (c.loop-i.invariant w me stands part)
          ∙ sym (take_get (bodies_in w c.args.key) c.loop-i.i n.in-Some.other (sym (c.body.ensures.value w me stands part) ∙ n.in-Some.is))
          ∙ ap (λ (k : ℕ). take k (bodies_in w c.args.key)) (sym (add-one c.loop-i.i))
      | in_default n ↦
          let r = c.requires.fits in
          let x = get_some (bodies_in r.0 c.args.key) c.loop-i.i (omega (arith, r.5)) in
          absurd (n.in_default.not-Some x.0 (c.body.ensures.value r.0 r.1 r.2 r.4 ∙ x.1))
    ]

pub loop-i-init : goal.loop-i-init
loop-i-init g c = λ w me stands part. c.clear.ensures.items

pub body-requires : goal.body-requires
body-requires g c = let r = c.requires.fits in record { fits = (r.0, r.1, r.2, r.3, r.4) }

pub returns : goal.returns
returns g c = record { value = λ w me stands part long. c.loop-i.invariant w me stands part ∙ take_all c.loop-i.i (bodies_in w c.args.key) (omega (arith, long, c.loop-i-test.false)) }
