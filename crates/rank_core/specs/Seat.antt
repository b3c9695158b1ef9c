-- A rank, as the others see it, and what one step of it does.
use Rattle.std.specs.Prelude.{ℕ, zero, suc, ◌+◌, ◌≡◌, ◌≢◌, ◌<◌, ◌≤◌, Bool, true, false, eqb, leb, if◌then◌else◌, List, [], ◌∷◌, ◌++◌, map, filter, Contains, ◌⊎◌}
use Rattle.hot_units.specs.Values.{BodyValue, CellValue}
use Rattle.hot_units.specs.Keys.{parent}
use Rattle.hot_model.specs.declared.answer.Answered.{Answered}
use Rattle.rank_model.specs.World.{World}
use Rattle.rank_model.specs.Branches.{IsBranch, branch_records}
use Rattle.rank_model.specs.Needs.{Needs, IsAbove}
use Rattle.rank_model.specs.Answers.{true_answer}
use Rattle.cell_mail.specs.declared.content.Content.{Content}
use Rattle.cell_mail.specs.declared.content.Content.TheVariants as content
use Rattle.cell_mail.specs.Letters.{LetterValue}
use Rattle.rank_core.specs.Times.{times}
use Rattle.rank_core.specs.Truth.{owner_of}

-- a rank, as the others see it
pub record Seat : Type 0 where
  pub me : ℕ  -- its number
  pub ranks : ℕ  -- how many ranks there are
  pub begun : Bool  -- its first step was made
  pub heard : List ℕ  -- the ranks whose branches it has read
  pub asked : List ℕ  -- the keys that it asked for
  pub answered : List ℕ  -- the keys whose answers it has read
  pub inbox : List LetterValue  -- the oldest first
  pub outbox : List LetterValue  -- the oldest first
  pub done : Bool  -- its walk was started, and no pair is left
  pub starved : Bool  -- it was refused memory

-- the branches of all other ranks were read
abbrev pub HeardAll : Seat → Type 0
HeardAll s = (p : ℕ) → p < s.ranks → p ≢ s.me → Contains s.heard p

-- to each rank below n, by ascending number, what g sends to it
abbrev pub each_below : (ℕ → List LetterValue) → ℕ → List LetterValue
each_below g zero = []
each_below g (suc q) = each_below g q ++ g q

-- the letter that tells these branches, unless the receiver is the sender
abbrev pub branches_to : ℕ → List CellValue → ℕ → List LetterValue
branches_to me list q = if eqb q me then [] else record { from = me; to = q; content = content.Branches list } ∷ []

-- to each other rank: the branches of rank `me`
abbrev pub branches_letter : World → (me q : ℕ) → List LetterValue
branches_letter w me q = branches_to me (branch_records w me) q

-- a number in its place in an ascending list
abbrev pub placed_key : ℕ → List ℕ → List ℕ
placed_key k [] = k ∷ []
placed_key k (x ∷ xs) = if leb k x then k ∷ x ∷ xs else x ∷ placed_key k xs

-- a list by ascending numbers
abbrev pub sorted_keys : List ℕ → List ℕ
sorted_keys [] = []
sorted_keys (k ∷ ks) = placed_key k (sorted_keys ks)

-- the rank whose branches a letter of rank `from` with this content tells
abbrev pub told_in : ℕ → Content → List ℕ
told_in from (content.Branches rs) = from ∷ []
told_in from (content.Asks ks) = []
told_in from (content.Answers xs) = []

-- the cells that a content asks for
abbrev pub asked_in : Content → List ℕ
asked_in (content.Branches rs) = []
asked_in (content.Asks ks) = ks
asked_in (content.Answers xs) = []

-- the cells that a content answers for
abbrev pub answered_in : Content → List ℕ
answered_in (content.Branches rs) = []
answered_in (content.Asks ks) = []
answered_in (content.Answers xs) = map (λ a. a.key) xs

-- the senders of the branches letters
abbrev pub all_told : List LetterValue → List ℕ
all_told [] = []
all_told (l ∷ ls) = told_in l.from l.content ++ all_told ls

-- all keys that rank q asks for in these letters
abbrev pub asked_by : ℕ → List LetterValue → List ℕ
asked_by q [] = []
asked_by q (l ∷ ls) = (if eqb q l.from then asked_in l.content else []) ++ asked_by q ls

-- all keys that are answered in these letters
abbrev pub all_answered : List LetterValue → List ℕ
all_answered [] = []
all_answered (l ∷ ls) = answered_in l.content ++ all_answered ls

-- an item of an answers letter
abbrev pub answered_for : World → ℕ → Answered
answered_for w c = record { key = c; answer = true_answer w c }

-- no letter for no keys, else one with these answers for them
abbrev pub answers_by : (ℕ → Answered) → (me q : ℕ) → List ℕ → List LetterValue
answers_by answer me q [] = []
answers_by answer me q (k ∷ ks) = record { from = me; to = q; content = content.Answers (map answer (k ∷ ks)) } ∷ []

-- the same with the true answers
abbrev pub answers_letter : World → (me q : ℕ) → List ℕ → List LetterValue
answers_letter w me q ks = answers_by (answered_for w) me q ks

-- no letter for no keys, else one that asks for them
abbrev pub asks_letter : (me p : ℕ) → List ℕ → List LetterValue
asks_letter me p [] = []
asks_letter me p (k ∷ ks) = record { from = me; to = p; content = content.Asks (k ∷ ks) } ∷ []

-- those of these keys that are cells of rank p
abbrev pub owned_by : World → ℕ → List ℕ → List ℕ
owned_by w p ks = filter (λ c. eqb (owner_of w c) p) ks

-- to a rank that asks in these letters: one letter with the answers for all that it asks for
abbrev pub answers_for : World → ℕ → List LetterValue → ℕ → List LetterValue
answers_for w me inbox q = answers_letter w me q (sorted_keys (asked_by q inbox))

-- to a rank that has some of these cells: one letter that asks for them
abbrev pub asks_for : World → ℕ → List ℕ → ℕ → List LetterValue
asks_for w me ks p = asks_letter me p (sorted_keys (owned_by w p ks))

-- what a step sends in which the rank asks for the cells ks: in its first step its branches, then answers, then asks;
-- one letter of a kind for a receiver, by ascending receiver
abbrev pub sends : World → Seat → List ℕ → List LetterValue
sends w s ks = (if s.begun then [] else each_below (branches_letter w s.me) s.ranks) ++ (each_below (answers_for w s.me s.inbox) s.ranks ++ each_below (asks_for w s.me ks) s.ranks)

-- a cell for which it asked, and whose answer it has not read
abbrev pub Waits : Seat → ℕ → Type 0
Waits s a = Contains s.asked a × (times a s.answered ≡ 0)

-- a cell that is needed was asked for, or lies below one that it waits for
abbrev pub Reaches : (BodyValue → CellValue → Bool) → World → Seat → Type 0
Reaches opens w s = (c : ℕ) → Needs opens w s.me c → Contains s.asked c ⊎ ((a : ℕ) × Waits s a × IsAbove a c)

-- t is what a step leaves of s, if no memory was refused
pub record Moves (opens : BodyValue → CellValue → Bool) (w : World) (s t : Seat) : Type 0 where
  pub me : t.me ≡ s.me
  pub ranks : t.ranks ≡ s.ranks
  pub begun : t.begun ≡ true
  -- it reads the whole inbox
  pub read : t.inbox ≡ []
  pub heard : (p : ℕ) → times p t.heard ≡ times p s.heard + times p (all_told s.inbox)
  pub answered : (c : ℕ) → times c t.answered ≡ times c s.answered + times c (all_answered s.inbox)
  -- it asks for some cells, each needed and none a second time
  pub fresh : List ℕ
  pub asked : t.asked ≡ s.asked ++ fresh
  pub once : (c : ℕ) → times c t.asked ≤ 1
  pub needed : (c : ℕ) → Contains fresh c → Needs opens w s.me c
  -- it does so once it has all branches: for a branch, or for a cell whose parent's answer it has read
  pub ready : (c : ℕ) → Contains fresh c → HeardAll t
  pub grounds : (c : ℕ) → Contains fresh c → ((p : ℕ) × IsBranch w p c) ⊎ Contains t.answered (parent c)
  pub sent : t.outbox ≡ s.outbox ++ sends w s fresh
  -- the walk goes on until all that is left waits
  pub reaches : HeardAll t → Reaches opens w t
  pub waits : HeardAll t → t.done ≡ false → (a : ℕ) × Waits t a

-- a rank that has all branches, whose walk is done, and whose boxes are empty
pub record Finished (s : Seat) : Type 0 where
  pub heard : HeardAll s
  pub done : s.done ≡ true
  pub inbox : s.inbox ≡ []
  pub outbox : s.outbox ≡ []

-- the seat with another outbox
abbrev pub with_outbox : Seat → List LetterValue → Seat
with_outbox s ls = record { me = s.me; ranks = s.ranks; begun = s.begun; heard = s.heard; asked = s.asked; answered = s.answered; inbox = s.inbox; outbox = ls; done = s.done; starved = s.starved }

-- the seat with another inbox
abbrev pub with_inbox : Seat → List LetterValue → Seat
with_inbox s ls = record { me = s.me; ranks = s.ranks; begun = s.begun; heard = s.heard; asked = s.asked; answered = s.answered; inbox = ls; outbox = s.outbox; done = s.done; starved = s.starved }

-- a rank may take the content from that rank: its first branches; cells for which no asks letter of that rank in its inbox
-- asks; or answers for cells that it asked for, and whose answers it has not got
abbrev pub FreshContent : Seat → ℕ → Content → Type 0
FreshContent s from (content.Branches rs) = times from s.heard + times from (all_told s.inbox) ≡ 0
FreshContent s from (content.Asks ks) = (c : ℕ) → Contains ks c → times c (asked_by from s.inbox) ≡ 0
FreshContent s from (content.Answers xs) = (c : ℕ) → Contains (map (λ a. a.key) xs) c → Contains s.asked c × (times c s.answered + times c (all_answered s.inbox) ≡ 0)

-- a rank may take the letter
abbrev pub IsFresh : Seat → LetterValue → Type 0
IsFresh s l = FreshContent s l.from l.content

-- the seat with one letter more in its inbox
abbrev pub with_letter : Seat → LetterValue → Seat
with_letter s l = with_inbox s (s.inbox ++ l ∷ [])

-- the seat, refused memory
abbrev pub refused : Seat → Seat
refused s = record { me = s.me; ranks = s.ranks; begun = s.begun; heard = s.heard; asked = s.asked; answered = s.answered; inbox = s.inbox; outbox = s.outbox; done = s.done; starved = true }

-- rank q of so many ranks, which has done nothing yet
pub record IsNew (q ranks : ℕ) (s : Seat) : Type 0 where
  pub me : s.me ≡ q
  pub ranks_are : s.ranks ≡ ranks
  pub begun : s.begun ≡ false
  pub heard : s.heard ≡ []
  pub asked : s.asked ≡ []
  pub answered : s.answered ≡ []
  pub inbox : s.inbox ≡ []
  pub outbox : s.outbox ≡ []
  pub done : s.done ≡ false
  pub starved : s.starved ≡ false
