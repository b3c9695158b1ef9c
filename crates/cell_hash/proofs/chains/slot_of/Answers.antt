use Rattle.std.proofs.Common.{ℕ, suc, ◌≡◌, ◌≢◌, ◌+◌, ◌-◌, ◌/◌, ◌^◌, get_or, sym, ap, ◌∙◌, arith}
use Rattle.std.specs.Prelude.{bit_and}
use Rattle.std.proofs.lemmas.Nat.{and_le_r}
use Rattle.cell_hash.proofs.Chained.{leads_nowhere, leads_on, step_more, as_many}
use Rattle.cell_hash.proofs.chains.slot_of.Goals.{then-behind-eq0-via-then-behind-eq0, then-behind-eq0-via-else-behind-eq0+then-keys-behind}
use Rattle.cell_hash.proofs.chains.slot_of.Goals as goal

pub loop-slot-init : goal.loop-slot-init
loop-slot-init c = record {
  within = omega (arith, and_le_r c.args.key c.args.mask, c.requires.chains.long);
  way = (0, λ m. as_many c.args.mask c.args.slots.now (c.args.key / 2 ^ c.args.bits) (bit_and c.args.key c.args.mask) (0 + m) m (omega arith));
  leads = λ place within e. rw (← e) (c.requires.chains.found place within);
}

-- a slot that is not empty names a place
names : (b : ℕ) → b ≢ 0 → b ≡ suc (b - 1)
names b some = omega (arith, some)

pub bounds-keys-behind : goal.bounds-keys-behind
bounds-keys-behind c = (c.requires.chains.rises c.loop-slot.slot _ (names _ c.if-behind-eq0.false)).1

pub returns-then-behind-eq0-clause-way : goal.returns-then-behind-eq0-clause-way
returns-then-behind-eq0-clause-way c =
    let way = c.loop-slot.invariant.way in
    (way.0, as_many c.args.mask c.args.slots.now (c.args.key / 2 ^ c.args.bits) (bit_and c.args.key c.args.mask) way.0 (way.0 + 0) (omega arith) ∙ way.1 0)

pub returns-then-behind-eq0-clause-found : goal.returns-then-behind-eq0-clause-found
returns-then-behind-eq0-clause-found c place here = elim c.then-behind-eq0.branch [
  | then-behind-eq0-via-then-behind-eq0 w ↦ absurd (omega (arith, here, w.if-behind-eq0.true))
  | then-behind-eq0-via-else-behind-eq0+then-keys-behind w ↦ (let at : get_or c.args.slots.now c.loop-slot.slot 0 - 1 ≡ place = omega (arith, here) in record {
    within = (c.requires.chains.rises c.loop-slot.slot place here).1;
    key_is = ap (λ (k : ℕ). get_or c.args.keys.now k 0) (sym at) ∙ w.if-keys-behind.true;
  })
]

pub returns-then-behind-eq0-clause-absent : goal.returns-then-behind-eq0-clause-absent
returns-then-behind-eq0-clause-absent c empty place low high e =
    leads_nowhere c.args.mask c.args.slots.now c.loop-slot.rest c.loop-slot.slot place empty (c.loop-slot.invariant.leads place high e)

pub loop-slot-smaller : goal.loop-slot-smaller
loop-slot-smaller c =
    let up = c.requires.chains.rises c.loop-slot.slot _ (names _ c.if-behind-eq0.false) in
    omega (arith, up.0, up.1, c.requires.chains.long)

pub loop-slot-preserved : goal.loop-slot-preserved
loop-slot-preserved c =
    let here = names _ c.if-behind-eq0.false in
    let up = c.requires.chains.rises c.loop-slot.slot _ here in
    let way = c.loop-slot.invariant.way in
    record {
      within = omega (arith, up.1, c.requires.chains.long);
      way = (
        suc way.0,
        λ m. as_many c.args.mask c.args.slots.now (c.args.key / 2 ^ c.args.bits) (bit_and c.args.key c.args.mask) (suc way.0 + m) (way.0 + suc m) (omega arith)
            ∙ way.1 (suc m)
            ∙ step_more c.args.mask c.args.slots.now c.loop-slot.rest c.loop-slot.slot _ m here,
      );
      leads = λ place within e. leads_on c.args.mask c.args.slots.now c.loop-slot.rest c.loop-slot.slot _ place here (λ same. c.if-keys-behind.false (ap (λ (k : ℕ). get_or c.args.keys.now k 0) same ∙ e)) (c.loop-slot.invariant.leads place within e);
    }
