-- A wire that starves one rank.
use Rattle.std.specs.Prelude.{ℕ, Bool, false, not, nat_eq, List, [], unwrap_or}
use Rattle.std.specs.List.{position}
use Rattle.hot_units.specs.declared.mail.Mail.{Mail}
use Rattle.hot_units.specs.declared.mail.Mail.TheVariants.{Prompt}
use Rattle.cell_mail.specs.Letters.{LetterValue}
use Rattle.wire.specs.declared.entry.Entry.{Entry}
use Rattle.wire.specs.declared.wire.Turn.{Turn}
use Rattle.wire.specs.declared.wire.Turn.TheVariants.{Free}
use Rattle.wire.specs.Desk.{Desk}

-- a wire that starves a rank, as its callers see it
pub record StarveState : Type 0 where
  pub pending : List LetterValue  -- the letters that wait, the oldest first
  pub log : List Entry  -- what happened since the last `begin`, the newest first
  pub turn : Turn
  pub mail : Mail  -- that of the last `begin`, which it does not follow
  pub rank : ℕ  -- the rank that it starves

-- it is eager under no mail
abbrev pub never_eager : Mail → Bool
never_eager mail = false

-- it as a wire
abbrev pub starve_desk : StarveState → Desk
starve_desk w = record { pending = w.pending; log = w.log; turn = w.turn; mail = w.mail; eager = never_eager }

-- a new one
abbrev pub new_starve : ℕ → StarveState
new_starve rank = record { pending = []; log = []; turn = Free; mail = Prompt; rank = rank }

-- whether a letter is to another rank
abbrev pub is_to_another : ℕ → LetterValue → Bool
is_to_another rank letter = not (nat_eq letter.to rank)

-- the place, among the pending letters, of the one that `take` gives: the oldest that is to another rank, and the oldest of
-- all where there is none
abbrev pub starve_place : ℕ → List LetterValue → ℕ
starve_place rank pending = unwrap_or (position (is_to_another rank) pending) 0
