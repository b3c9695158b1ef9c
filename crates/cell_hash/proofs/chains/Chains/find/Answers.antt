use Rattle.std.proofs.Common.{ℕ, suc, ◌≡◌, ◌-◌, ◌<◌, ◌∙◌, subst, arith, List, length, get_or}
use Rattle.cell_hash.specs.Entries.{StandsAt}
use Rattle.cell_hash.proofs.Chained.{read_at}
use Rattle.cell_hash.proofs.chains.Chains.find.Goals as goal

pub returns-in_default-clause-found : goal.returns-in_default-clause-found
returns-in_default-clause-found c =
    let within : c.slot_of-slot.result < length c.self.inside.slots.items = subst (λ (s : List ℕ). c.slot_of-slot.result < length s) c.deref-2.ensures.value c.slot_of-slot.ensures.within in
    let read : get_or c.self.inside.slots.items c.slot_of-slot.result 0 ≡ c.index.result.now = read_at c.self.inside.slots.items c.slot_of-slot.result c.index.result.now within c.index.ensures in
    let names : get_or c.deref-2.result.now c.slot_of-slot.result 0 ≡ suc (c.index.result.now - 1) = rw c.deref-2.ensures.value (omega (arith, read, c.in_default)) in
    subst (λ (ks : List ℕ). StandsAt ks (c.index.result.now - 1) c.args.key) (c.deref.ensures.value ∙ c.self.view_is) (c.slot_of-slot.ensures.found (c.index.result.now - 1) names)
