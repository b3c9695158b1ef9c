-- Legal logs and complete logs. A log has its newest entry first, and `past` is what stands before an entry.
use Rattle.std.specs.Prelude.{ℕ, ◌+◌, ◌≡◌, ◌≢◌, ◌<◌, ◌≤◌, Bool, true, false, not, List, [], ◌∷◌, map, length, sum_by, Contains}
use Rattle.hot_units.specs.Values.{BodyValue, CellValue}
use Rattle.hot_units.specs.Numbers.{numbers_below}
use Rattle.hot_units.specs.Keys.{parent}
use Rattle.rank_model.specs.World.{World}
use Rattle.rank_model.specs.Branches.{IsBranch, IsOwner}
use Rattle.rank_model.specs.Needs.{Needs, needed}
use Rattle.cell_mail.specs.declared.content.Content.{Content}
use Rattle.cell_mail.specs.declared.content.Content.TheVariants as content
use Rattle.cell_mail.specs.declared.content.Kind.TheVariants as kinds
use Rattle.cell_mail.specs.Letters.{LetterValue, kind_of}
use Rattle.cell_mail.specs.declared.note.Note.{Note}
use Rattle.wire.specs.declared.entry.Entry.{Entry}
use Rattle.wire.specs.declared.entry.Entry.TheVariants.{Posted, Taken, Round}
use Rattle.rank_core.specs.Times.{flag, times}
use Rattle.protocol.specs.Counts.{in_posted, in_taken, in_stretch, one_between, key_between, asks_by}
use Rattle.rank_core.specs.Truth.{TrueLetter}

-- whether a letter was taken since the last round ended
abbrev pub taken_since : List Entry → Bool
taken_since [] = false
taken_since (Posted l ∷ past) = taken_since past
taken_since (Taken n ∷ past) = true
taken_since (Round ∷ past) = false

-- whether the newest entry ends a round in which nothing was taken
abbrev pub is_over : List Entry → Bool
is_over [] = false
is_over (Posted l ∷ past) = false
is_over (Taken n ∷ past) = false
is_over (Round ∷ past) = not (taken_since past)

-- rank q has taken the branches of all other ranks
abbrev pub TookAll : World → List Entry → ℕ → Type 0
TookAll w past q = (p : ℕ) → p < w.ranks → p ≢ q → 1 ≤ in_taken (one_between kinds.Branches p q) past

-- rank q may ask rank p for the cell c, in a letter with these keys
pub record AskAllowed (opens : BodyValue → CellValue → Bool) (w : World) (past : List Entry) (q p : ℕ) (keys : List ℕ) (c : ℕ) : Type 0 where
  -- it needs the cell, which is of rank p
  pub needed : Needs opens w q c
  pub owner : IsOwner w p c
  -- it asks for it in no other place
  pub once : in_posted (asks_by q c) past + times c keys ≡ 1
  -- for a branch it has taken all branches before, and else the answer for the parent
  pub branch : IsBranch w p c → TookAll w past q
  pub inner : (IsBranch w p c → ⊥) → 1 ≤ in_taken (key_between kinds.Answers p q (parent c)) past

-- rank p may answer rank q for the cell c, in a letter with these keys
pub record AnswerAllowed (past : List Entry) (p q : ℕ) (keys : List ℕ) (c : ℕ) : Type 0 where
  -- it answers for it in no other place, and has taken an asks letter with it before
  pub once : in_posted (key_between kinds.Answers p q c) past + times c keys ≡ 1
  pub asked : 1 ≤ in_taken (key_between kinds.Asks q p c) past

-- what else a letter must meet, by its kind
abbrev pub MayPost : (BodyValue → CellValue → Bool) → World → List Entry → (from to : ℕ) → Content → Type 0
MayPost opens w past from to (content.Branches rs) = in_posted (one_between kinds.Branches from to) past ≡ 0
MayPost opens w past from to (content.Asks ks) = (c : ℕ) → Contains ks c → AskAllowed opens w past from to ks c
MayPost opens w past from to (content.Answers xs) = (c : ℕ) → Contains (map (λ a. a.key) xs) c → AnswerAllowed past from to (map (λ a. a.key) xs) c

-- the letter may be posted: it is true, and the first one of its sender, receiver and kind since the last round ended
pub record PostAllowed (opens : BodyValue → CellValue → Bool) (w : World) (past : List Entry) (l : LetterValue) : Type 0 where
  pub truth : TrueLetter w l
  pub may : MayPost opens w past l.from l.to l.content
  pub alone : in_stretch (one_between (kind_of l.content) l.from l.to) past ≡ 0

-- the entry may follow the past. A taken letter: by whatever test it is counted, fewer were taken than posted
abbrev pub Allowed : (BodyValue → CellValue → Bool) → World → List Entry → Entry → Type 0
Allowed opens w past (Posted l) = PostAllowed opens w past l
Allowed opens w past (Taken n) = (f : Note → Bool) → f n ≡ true → in_taken (λ m. flag (f m)) past < in_posted (λ m. flag (f m)) past
Allowed opens w past Round = Unit {0}

-- each entry was allowed by those before it, and none follows a round in which nothing was taken
abbrev pub Legal : (BodyValue → CellValue → Bool) → World → List Entry → Type 0
Legal opens w [] = Unit {0}
Legal opens w (e ∷ past) = Legal opens w past × Allowed opens w past e × (is_over past ≡ false)

-- every letter that is to be posted was posted and taken
pub record Complete (opens : BodyValue → CellValue → Bool) (w : World) (log : List Entry) : Type 0 where
  pub taken : (f : Note → Bool) → in_taken (λ m. flag (f m)) log ≡ in_posted (λ m. flag (f m)) log
  pub branches : (p q : ℕ) → p < w.ranks → q < w.ranks → p ≢ q → in_posted (one_between kinds.Branches p q) log ≡ 1
  pub asked : (q c : ℕ) → Needs opens w q c → in_posted (asks_by q c) log ≡ 1
  pub answered : (q p c : ℕ) → Needs opens w q c → IsOwner w p c → in_posted (key_between kinds.Answers p q c) log ≡ 1
  pub past : List Entry
  pub ends : log ≡ Round ∷ past

-- every letter posted before a round ended was taken before it ended
abbrev pub IsPrompt : List Entry → Type 0
IsPrompt [] = Unit {0}
IsPrompt (Posted l ∷ past) = IsPrompt past
IsPrompt (Taken n ∷ past) = IsPrompt past
IsPrompt (Round ∷ past) = IsPrompt past × ((f : Note → Bool) → in_taken (λ m. flag (f m)) past ≡ in_posted (λ m. flag (f m)) past)

-- a run whose log is prompt has at most so many rounds: one for the branches, two for each of the 21 levels below the root, and
-- the last one
abbrev pub prompt_rounds : ℕ
prompt_rounds = 44

-- how many cells the ranks need, each rank for itself
abbrev pub needs_in_all : (BodyValue → CellValue → Bool) → World → ℕ
needs_in_all opens w = sum_by (λ q. length (needed opens w q)) (numbers_below w.ranks)
