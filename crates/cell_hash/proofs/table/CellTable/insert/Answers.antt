use Rattle.std.proofs.Common.{◌≡◌, [], ◌∷◌, ◌∙◌, true, false, refl, sym, ap, arith, length-append}
use Rattle.std.specs.Prelude.{Some, None, is_some}
use Rattle.std.specs.FinMap as map
use Rattle.std.proofs.lemmas.Option.{slice_get_read}
use Rattle.cell_hash.proofs.Entered.{get_absent, get_at, set_inserts, push_inserts, apart_grows}
use Rattle.cell_hash.proofs.table.CellTable.insert.Goals as goal

pub returns-in_err-add-in-None-clause-replaces : goal.returns-in_err-add-in-None-clause-replaces
returns-in_err-add-in-None-clause-replaces g c had =
    let none : map.get c.args.self.now c.args.key ≡ None = ap (λ m. map.get m c.args.key) (sym c.self.view_is) ∙ get_absent c.self.inside.chains c.self.inside.values.items c.args.key (c.in-None.ensures.none refl) in
    absurd (let no : false ≡ true = ap is_some (sym none) ∙ had in cc)

pub invariant_of-self-in-None : goal.invariant_of-self-in-None
invariant_of-self-in-None g c =
    let done = c.in_ok-add-in-None.ensures in (
      rw (done.key, done.value) (omega (arith, c.self.invariant.0, length-append c.self.inside.chains (c.args.key ∷ []), length-append c.self.inside.values.items (c.args.value ∷ []))),
      rw done.key (apart_grows c.self.inside.chains c.args.key c.self.invariant.1 (c.in-None.ensures.none refl)),
    )

pub returns-in-Some-clause-was : goal.returns-in-Some-clause-was
returns-in-Some-clause-was g c =
    let at = c.in-Some.ensures.found in
    ap (λ v. Some v) c.replace.ensures.value
    ∙ sym (ap (λ m. map.get m c.args.key) (sym c.self.view_is)
    ∙ get_at c.self.inside.chains c.self.inside.values.items c.in-Some.place c.args.key c.self.invariant.0 c.self.invariant.1 at
    ∙ slice_get_read c.self.inside.values.items _ _ _ refl (omega (arith, at.within, c.self.invariant.0)) c.index_mut.ensures.value)

pub returns-in-Some-clause-ok : goal.returns-in-Some-clause-ok
returns-in-Some-clause-ok g c =
    rw c.replace.ensures.after
    (set_inserts c.self.inside.chains c.self.inside.values.items c.in-Some.place c.args.key c.args.value c.self.invariant.0 c.self.invariant.1 c.in-Some.ensures.found
    ∙ ap (λ m. map.insert m c.args.key c.args.value) c.self.view_is)

pub returns-in_ok-add-in-None-clause-was : goal.returns-in_ok-add-in-None-clause-was
returns-in_ok-add-in-None-clause-was g c =
    sym (ap (λ m. map.get m c.args.key) (sym c.self.view_is) ∙ get_absent c.self.inside.chains c.self.inside.values.items c.args.key (c.in-None.ensures.none refl))

pub returns-in_ok-add-in-None-clause-ok : goal.returns-in_ok-add-in-None-clause-ok
returns-in_ok-add-in-None-clause-ok g c =
    let done = c.in_ok-add-in-None.ensures in
    rw (done.key, done.value)
    (push_inserts c.self.inside.chains c.self.inside.values.items c.args.key c.args.value c.self.invariant.0 (c.in-None.ensures.none refl)
    ∙ ap (λ m. map.insert m c.args.key c.args.value) c.self.view_is)
