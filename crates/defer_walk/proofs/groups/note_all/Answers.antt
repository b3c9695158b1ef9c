use Rattle.std.proofs.Common.{◌≡◌, ℕ, zero, suc, ◌<◌, sym, refl, subst, arith, Bool}
use Rattle.defer_walk.specs.Tallies.{IsSameTally, noted}
use Rattle.defer_walk.specs.Grouping.{opened_keys}
use Rattle.defer_walk.proofs.Blocks.{noted_none, noted_all, same_ok}
use Rattle.defer_walk.proofs.groups.note_all.Goals.{then-whole-via-then-whole, then-whole-via-else-whole+then-times-eq0}
use Rattle.defer_walk.proofs.groups.note_all.Goals as goal

pub returns-then-whole : goal.returns-then-whole
returns-then-whole c = record {
  noted = elim c.then-whole.branch [
    | then-whole-via-then-whole w ↦ subst (λ (t : Bool). IsSameTally (noted (opened_keys t c.args.key) c.args.tally.now c.args.times) c.args.tally.now) (sym w.if-whole.true) (noted_none c.args.tally.now c.args.times)
    | then-whole-via-else-whole+then-times-eq0 w ↦ subst (λ (n : ℕ). IsSameTally (noted (opened_keys c.args.whole c.args.key) c.args.tally.now n) c.args.tally.now) (sym w.if-times-eq0.true) (record { count = refl; has = λ k. ((λ h. h), (λ h. h)) })
  ];
}

pub returns : goal.returns
returns c = record {
  noted = same_ok c.note.result _ _ (λ h. subst (λ (t : Bool). IsSameTally (noted (opened_keys t c.args.key) c.args.tally.now c.args.times) c.note.new.self) (sym c.if-whole.false)
      (noted_all c.args.key c.args.tally.now c.note.new.self c.args.times (positive c.args.times c.if-times-eq0.false) h)) c.note.ensures.noted;
}
  where
    positive : (n : ℕ) → (n ≡ 0 → ⊥) → 0 < n
    positive zero f = absurd (f refl)
    positive (suc n) f = omega arith
