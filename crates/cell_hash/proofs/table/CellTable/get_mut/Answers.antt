use Rattle.std.proofs.Common.{◌∙◌, refl, sym, ap, inl, inr, arith}
use Rattle.std.specs.FinMap as map
use Rattle.std.proofs.lemmas.Option.{slice_get_read}
use Rattle.cell_hash.proofs.Entered.{get_absent, get_at, set_inserts}
use Rattle.cell_hash.proofs.table.CellTable.get_mut.Goals as goal

pub returns-in-None : goal.returns-in-None
returns-in-None g c = (
  ap inr c.self.view_is,
  record {
    writes_back = tt;
    value = sym (ap (λ m. map.get m c.args.key) (sym c.self.view_is) ∙ get_absent c.self.inside.chains c.self.inside.values.items c.args.key (c.in-None.ensures.none refl));
  },
)

pub returns-in-Some : goal.returns-in-Some
returns-in-Some g c =
    let at = c.in-Some.ensures.found in (
      ap (λ f. inl (c.index_mut.result.ghost_name, f)) (λ i w. (set_inserts c.self.inside.chains c.self.inside.values.items c.in-Some.place c.args.key w c.self.invariant.0 c.self.invariant.1 at ∙ ap (λ m. map.insert m c.args.key w) c.self.view_is) i),
      record {
        writes_back = tt;
        value = sym (ap (λ m. map.get m c.args.key) (sym c.self.view_is)
            ∙ get_at c.self.inside.chains c.self.inside.values.items c.in-Some.place c.args.key c.self.invariant.0 c.self.invariant.1 at
            ∙ slice_get_read c.self.inside.values.items _ _ _ refl (omega (arith, at.within, c.self.invariant.0)) c.index_mut.ensures.value);
      },
    )
