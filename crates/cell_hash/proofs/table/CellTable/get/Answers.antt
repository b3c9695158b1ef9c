use Rattle.std.proofs.Common.{◌∙◌, refl, sym, ap, arith}
use Rattle.std.specs.FinMap as map
use Rattle.std.proofs.lemmas.Option.{slice_get_read}
use Rattle.cell_hash.proofs.Entered.{get_absent, get_at}
use Rattle.cell_hash.proofs.table.CellTable.get.Goals as goal

pub returns-in-None : goal.returns-in-None
returns-in-None g c = record {
  value = sym (ap (λ m. map.get m c.args.key) (sym c.self.view_is) ∙ get_absent c.self.inside.chains c.self.inside.values.items c.args.key (c.in-None.ensures.none refl));
}

pub returns-in-Some : goal.returns-in-Some
returns-in-Some g c =
    let at = c.in-Some.ensures.found in
    record {
      value = sym (ap (λ m. map.get m c.args.key) (sym c.self.view_is)
          ∙ get_at c.self.inside.chains c.self.inside.values.items c.in-Some.place c.args.key c.self.invariant.0 c.self.invariant.1 at
          ∙ slice_get_read c.self.inside.values.items _ _ _ refl (omega (arith, at.within, c.self.invariant.0)) c.index.ensures);
    }
