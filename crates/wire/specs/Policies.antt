-- The policies of a wire in memory.
use Rattle.std.specs.Prelude.{ℕ, ◌-◌, ◌%◌, ◌^◌, Bool, true, false, nat_lt, List, [], ◌∷◌, remove}
use Rattle.hot_units.specs.declared.mail.Mail.{Mail}
use Rattle.hot_units.specs.declared.mail.Mail.TheVariants.{Prompt, Last, Single, Seeded}
use Rattle.cell_mail.specs.Letters.{LetterValue}
use Rattle.wire.specs.declared.entry.Entry.{Entry}
use Rattle.wire.specs.declared.entry.Entry.TheVariants.{Taken}
use Rattle.wire.specs.declared.wire.Turn.{Turn}
use Rattle.wire.specs.declared.wire.Turn.TheVariants.{Free, Used, Shut}
use Rattle.wire.specs.Desk.{Desk}
use Rattle.cell_mail.specs.Notes.{note_of}
use Rattle.hot_units.specs.Draws.{next_state, drawn}

-- a wire in memory, as its callers see it
pub record MemState : Type 0 where
  pub pending : List LetterValue  -- the letters that wait, the oldest first
  pub log : List Entry  -- what happened since the last `begin`, the newest first
  pub turn : Turn
  pub mail : Mail  -- that of the last `begin`
  pub draw : ℕ  -- the state of the generator

-- the mails under which all letters are given before a round ends
abbrev pub mem_eager : Mail → Bool
mem_eager Prompt = true
mem_eager Last = true
mem_eager Single = false
mem_eager (Seeded seed) = false

-- a wire in memory as a wire
abbrev pub desk_of : MemState → Desk
desk_of w = record { pending = w.pending; log = w.log; turn = w.turn; mail = w.mail; eager = mem_eager }

-- after the letter at a place was taken, whatever the mail
abbrev pub without_at : MemState → ℕ → LetterValue → MemState
without_at w place letter = record { pending = remove w.pending place; log = Taken (note_of letter) ∷ w.log; turn = Used; mail = w.mail; draw = w.draw }

-- the same wire, which gives no more letters in this round
abbrev pub shut_state : MemState → MemState
shut_state w = record { pending = w.pending; log = w.log; turn = Shut; mail = w.mail; draw = w.draw }

-- a new wire
abbrev pub new_state : MemState
new_state = record { pending = []; log = []; turn = Free; mail = Prompt; draw = 0 }

-- the state of the generator after `begin`
abbrev pub seed_of : Mail → ℕ
seed_of Prompt = 0
seed_of Last = 0
seed_of Single = 0
seed_of (Seeded seed) = seed

-- the place, among so many pending letters, of the one that `take` gives
abbrev pub place_of : Mail → ℕ → ℕ → ℕ
place_of Prompt draw count = 0
place_of Last draw count = count - 1
place_of Single draw count = 0
place_of (Seeded seed) draw count = drawn draw % count

-- the answer of `more`: for a seed, whether the top bit of the next state is 0
abbrev pub more_of : Mail → ℕ → Bool
more_of Prompt draw = true
more_of Last draw = true
more_of Single draw = false
more_of (Seeded seed) draw = nat_lt (next_state draw) (2 ^ 63)

-- the state of the generator after a `take` that gave a letter, and after a `more`
abbrev pub draw_after : Mail → ℕ → ℕ
draw_after Prompt draw = draw
draw_after Last draw = draw
draw_after Single draw = draw
draw_after (Seeded seed) draw = next_state draw
