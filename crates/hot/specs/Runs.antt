-- Runs over ranks, and what they leave on the wire.
use Rattle.std.specs.Prelude.{ℕ, ◌≡◌, ◌≤◌, ◌↔◌, ◌==◌, Bool, true, List, [], ◌∷◌, Contains, Option, Some, None}
use Rattle.hot_units.specs.Values.{BodyValue, CellValue}
use Rattle.hot_units.specs.declared.mail.Mail.{Mail}
use Rattle.hot_units.specs.Order.{ordered}
use Rattle.hot_model.specs.Trees.{Settings, opens_of}
use Rattle.near_walk.specs.Near.{near_opens}
use Rattle.rank_model.specs.World.{World}
use Rattle.rank_model.specs.Split.{weight_in, split_world}
use Rattle.rank_model.specs.Needs.{Needs, round_bound}
use Rattle.cell_mail.specs.Letters.{LetterValue}
use Rattle.wire.specs.declared.entry.Entry.{Entry}
use Rattle.wire.specs.declared.entry.Entry.TheVariants.{Posted, Taken, Round}
use Rattle.wire.specs.Desk.{Desk, letters_in, rounds_in}
use Rattle.rank_core.specs.Times.{times}
use Rattle.rank_core.specs.Seat.{asked_by}
use Rattle.body_set.specs.Sets.{SetValue}
use Rattle.hot_words.specs.Commands.{JobValue}
use Rattle.protocol.specs.Logs.{prompt_rounds}
use Rattle.rank_walk.specs.Marks.{HasBegun, HasRun, letter_bound}

-- what became of the wire in a call: it was not used, or it was begun and left so
pub data WireUse : Type 0 where
  unused : WireUse
  used : Desk → WireUse

-- the wire at the end of a call: as it was, or as the call left it, eager under the same mails
abbrev pub Wired : {W : Type 0} (desk : W → Desk) (old new : W) → WireUse → Type 0
Wired desk old new unused = new ≡ old
Wired desk old new (used d) = (desk new ≡ d) × (d.eager ≡ (desk old).eager)

-- the log of the wire
abbrev pub log_of : WireUse → List Entry
log_of unused = []
log_of (used d) = d.log

-- a run over ranks: how many there are, the most bodies of a leaf, how letters are handed out, and which cells a body opens
pub record RunValue : Type 0 where
  pub ranks : ℕ
  pub leaf : ℕ
  pub mail : Mail
  pub opens : BodyValue → CellValue → Bool

-- the numbers of a walk by gravity
abbrev pub settings_of : JobValue → Settings
settings_of job = record { num = job.ratio.num; den = job.ratio.den; eps = job.eps; leaf = job.leaf; second = job.moments == 2 }

-- a run by gravity: a body opens the cells that it does not accept
abbrev pub gravity_run : JobValue → RunValue
gravity_run job = record { ranks = job.ranks; leaf = job.leaf; mail = job.mail; opens = opens_of (settings_of job) }

-- a run by a radius: a body opens the cells whose boxes come within it
abbrev pub near_run : ℕ → JobValue → RunValue
near_run radius job = record { ranks = job.ranks; leaf = job.leaf; mail = job.mail; opens = near_opens radius }

-- the world of a run: the bodies in key order, split by their weights over its ranks, with its leaf limit
abbrev pub world_in : RunValue → SetValue → World
world_in run set = split_world (weight_in set.weights) (ordered set.bodies) run.ranks run.leaf

-- what a run leaves once it came to its end; where there is none, the wire is not used
abbrev pub RunLeaves : Option RunValue → SetValue → WireUse → Type 0
RunLeaves None set wire = wire ≡ unused
RunLeaves (Some run) set unused = ⊥
RunLeaves (Some run) set (used d) = HasRun run.opens (world_in run set) run.mail d

-- what a run leaves where memory was refused in it: its log is legal
abbrev pub RunBegan : Option RunValue → SetValue → WireUse → Type 0
RunBegan None set wire = ⊥
RunBegan (Some run) set unused = ⊥
RunBegan (Some run) set (used d) = HasBegun run.opens (world_in run set) run.mail d

-- the letters that were posted
abbrev pub letters_of : List Entry → List LetterValue
letters_of [] = []
letters_of (Posted letter ∷ log) = letter ∷ letters_of log
letters_of (Taken note ∷ log) = letters_of log
letters_of (Round ∷ log) = letters_of log

-- the keys of all cells for which rank q asked
abbrev pub keys_asked : ℕ → List Entry → List ℕ
keys_asked q log = asked_by q (letters_of log)

-- the run came to its end with a complete log, by the mail of the words, and nothing is pending; each rank asked for
-- exactly the cells that it needs, each once; letters and rounds are within their bounds, and the rounds within 44 where
-- the wire gives all letters in each round
pub record AsksExactly (run : RunValue) (set : SetValue) (d : Desk) : Type 0 where
  pub ran : HasRun run.opens (world_in run set) run.mail d
  pub asked : (q c : ℕ) → Contains (keys_asked q d.log) c ↔ Needs run.opens (world_in run set) q c
  pub once : (q c : ℕ) → times c (keys_asked q d.log) ≤ 1
  pub letters : letters_in d.log ≤ letter_bound run.opens (world_in run set)
  pub bound : rounds_in d.log ≤ round_bound run.opens (world_in run set)
  pub few : d.eager run.mail ≡ true → rounds_in d.log ≤ prompt_rounds
  pub mail : d.mail ≡ run.mail
