-- What a walk over ranks leaves on the wire.
use Rattle.std.specs.Prelude.{ℕ, ◌+◌, ◌-◌, ◌*◌, ◌≡◌, ◌≤◌, ◌⊎◌, Bool, true, [], Result, Ok, Err}
use Rattle.std.specs.declared.alloc.AllocError.{AllocError}
use Rattle.hot_units.specs.Values.{BodyValue, CellValue}
use Rattle.hot_units.specs.declared.mail.Mail.{Mail}
use Rattle.rank_model.specs.World.{World}
use Rattle.rank_model.specs.Needs.{round_bound}
use Rattle.wire.specs.Desk.{Desk, letters_in, rounds_in}
use Rattle.protocol.specs.Logs.{Legal, Complete, IsPrompt, needs_in_all, prompt_rounds}

-- a walk was begun with this mail, and its log is legal
pub record HasBegun (opens : BodyValue → CellValue → Bool) (w : World) (mail : Mail) (d : Desk) : Type 0 where
  pub mail_is : d.mail ≡ mail
  pub legal : Legal opens w d.log

-- how many letters there are at most: the branches for each two ranks, and for each needed cell an ask and an answer
abbrev pub letter_bound : (BodyValue → CellValue → Bool) → World → ℕ
letter_bound opens w = w.ranks * (w.ranks - 1) + 2 * needs_in_all opens w

-- it came to its end: nothing is pending, the log is complete, and there are few letters and few rounds
pub record HasRun (opens : BodyValue → CellValue → Bool) (w : World) (mail : Mail) (d : Desk) : Type 0 where
  pub begun : HasBegun opens w mail d
  pub quiet : d.pending ≡ []
  pub complete : Complete opens w d.log
  pub letters : letters_in d.log ≤ letter_bound opens w
  pub bound : rounds_in d.log ≤ round_bound opens w
  pub prompt : d.eager mail ≡ true → IsPrompt d.log
  pub few : IsPrompt d.log → rounds_in d.log ≤ prompt_rounds

-- the wire is as it was, or the walk was begun on it
abbrev pub MayHaveBegun : {W : Type 0} (desk : W → Desk) (opens : BodyValue → CellValue → Bool) (w : World) (mail : Mail) (old new : W) → Type 0
MayHaveBegun desk opens w mail old new = (new ≡ old) ⊎ HasBegun opens w mail (desk new)

-- what a walk leaves of the wire: it came to its end, or memory was refused before
abbrev pub Leaves : {W F : Type 0} (desk : W → Desk) (opens : BodyValue → CellValue → Bool) (w : World) (mail : Mail) (old : W) (r : Result F AllocError) (new : W) → Type 0
Leaves desk opens w mail old (Ok found) new = HasRun opens w mail (desk new)
Leaves desk opens w mail old (Err e) new = MayHaveBegun desk opens w mail old new
