-- What a run that came to its end has asked for.
use Rattle.std.proofs.Common.{ℕ, ◌≡◌, ◌≤◌, ◌+◌, List, [], ◌∷◌, Contains, ◌⊎◌, ◌↔◌, Some, refl, ap, sym, ◌∙◌, subst, inl, inr, arith}
use Rattle.rank_model.specs.Needs.{Needs, needed}
use Rattle.rank_model.proofs.Counts.{needed-are}
use Rattle.cell_mail.specs.declared.note.Note.{Note}
use Rattle.wire.specs.declared.entry.Entry.{Entry}
use Rattle.wire.specs.declared.entry.Entry.TheVariants.{Posted, Taken, Round}
use Rattle.wire.specs.Desk.{Desk}
use Rattle.cell_mail.specs.Notes.{note_of}
use Rattle.rank_core.specs.Times.{times}
use Rattle.protocol.specs.Counts.{in_letters, in_posted, asks_by}
use Rattle.protocol.proofs.Keeping.{asks_exactly}
use Rattle.protocol.proofs.Weights.{times-has, has-times, has_or_not}
use Rattle.protocol.proofs.Bridges.{asked-times}
use Rattle.body_set.specs.Sets.{SetValue}
use Rattle.rank_walk.specs.Marks.{HasRun}
use Rattle.hot.specs.Runs.{WireUse, unused, used, Wired, RunValue, world_in, letters_of, keys_asked, RunLeaves, AsksExactly}

-- what posted letters weigh in a log they weigh as letters
posted_letters : (f : Note → ℕ) (log : List Entry) → in_posted f log ≡ in_letters f (letters_of log)
posted_letters f [] = refl
posted_letters f (Posted l ∷ log) = ap (λ n. f (note_of l) + n) (posted_letters f log)
posted_letters f (Taken n ∷ log) = posted_letters f log
posted_letters f (Round ∷ log) = posted_letters f log

-- how often a key was asked for
asked_count : (q c : ℕ) (log : List Entry) → times c (keys_asked q log) ≡ in_posted (asks_by q c) log
asked_count q c log = asked-times q c (letters_of log) ∙ sym (posted_letters (asks_by q c) log)

-- a run that came to its end
module _ (run : RunValue) (set : SetValue) (d : Desk) (has : HasRun run.opens (world_in run set) run.mail d) where
  exact : (q c : ℕ) → (Needs run.opens (world_in run set) q c → in_posted (asks_by q c) d.log ≡ 1) × ((Needs run.opens (world_in run set) q c → ⊥) → in_posted (asks_by q c) d.log ≡ 0)
  exact q c = asks_exactly run.opens (world_in run set) d.log has.begun.legal has.complete q c

  -- a cell is needed or it is not
  needs_or_not : (q c : ℕ) → Needs run.opens (world_in run set) q c ⊎ (Needs run.opens (world_in run set) q c → ⊥)
  needs_or_not q c = elim (has_or_not c (needed run.opens (world_in run set) q)) [
    | inl h ↦ inl ((needed-are run.opens (world_in run set) q c).0 h)
    | inr z ↦ inr (λ n. let t = times-has c (needed run.opens (world_in run set) q) ((needed-are run.opens (world_in run set) q c).1 n) in omega arith)
  ]

  -- the cells that a rank asked for are those that it needs
  pub asked_needs : (q c : ℕ) → Contains (keys_asked q d.log) c ↔ Needs run.opens (world_in run set) q c
  asked_needs q c = (
    (λ h. elim (needs_or_not q c) [
      | inl n ↦ n
      | inr no_need ↦ absurd (let t = times-has c (keys_asked q d.log) h in let e = asked_count q c d.log in let z = (exact q c).1 no_need in omega arith)
    ]),
    (λ n. has-times c (keys_asked q d.log) (let e = asked_count q c d.log in let z = (exact q c).0 n in omega arith)),
  )

  -- a rank asked for no cell twice
  pub asked_once : (q c : ℕ) → times c (keys_asked q d.log) ≤ 1
  asked_once q c = elim (needs_or_not q c) [
    | inl n ↦ (let e = asked_count q c d.log in let z = (exact q c).0 n in omega arith)
    | inr no_need ↦ (let e = asked_count q c d.log in let z = (exact q c).1 no_need in omega arith)
  ]

  -- all that the headline says of the wire
  pub asks : AsksExactly run set d
  asks = record { ran = has; asked = asked_needs; once = asked_once; letters = has.letters; bound = has.bound; few = λ e. has.few (has.prompt e); mail = has.begun.mail_is }

-- the same of the wire after a call
pub headline : {W : Type 0} (desk : W → Desk) (old new : W) (run : RunValue) (set : SetValue) (wire : WireUse) → Wired desk old new wire → RunLeaves (Some run) set wire → AsksExactly run set (desk new)
headline desk old new run set unused w left = absurd left
headline desk old new run set (used d) w left = subst (λ (x : Desk). AsksExactly run set x) (sym w.0) (asks run set d left)
