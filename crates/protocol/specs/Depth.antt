-- How deep the cells are of which letters speak, by the round.
use Rattle.std.specs.Prelude.{ℕ, ◌+◌, ◌*◌, ◌≡◌, ◌<◌, ◌≤◌, true, false, List, [], ◌∷◌, map, Contains, Some, slice_get}
use Rattle.hot_units.specs.Keys.{level}
use Rattle.cell_mail.specs.declared.content.Content.{Content}
use Rattle.cell_mail.specs.declared.content.Content.TheVariants as content
use Rattle.cell_mail.specs.Letters.{LetterValue}
use Rattle.wire.specs.Desk.{Desk, rounds_in}
use Rattle.rank_core.specs.Seat.{Seat}
use Rattle.protocol.specs.Logs.{taken_since, prompt_rounds}

-- the content may be sent in round n: branches in the first one, an ask for a cell of level l by round 2 l, and the
-- answer one round later
abbrev pub IsDeepContent : ℕ → Content → Type 0
IsDeepContent n (content.Branches rs) = n ≤ 1
IsDeepContent n (content.Asks ks) = (c : ℕ) → Contains ks c → n ≤ 2 * level c
IsDeepContent n (content.Answers xs) = (c : ℕ) → Contains (map (λ a. a.key) xs) c → n ≤ 2 * level c + 1

-- each letter may be
abbrev pub AllDeep : ℕ → List LetterValue → Type 0
AllDeep n [] = Unit {0}
AllDeep n (l ∷ ls) = IsDeepContent n l.content × AllDeep n ls

-- all letters that are in some box were sent in round n
pub record Deep (ss : List Seat) (d : Desk) (n : ℕ) : Type 0 where
  pub young : (q : ℕ) (s : Seat) → slice_get ss q ≡ Some s → s.begun ≡ false → n ≡ 0
  pub inbox : (q : ℕ) (s : Seat) → slice_get ss q ≡ Some s → AllDeep n s.inbox
  pub outbox : (q : ℕ) (s : Seat) → slice_get ss q ≡ Some s → AllDeep n s.outbox
  pub pending : AllDeep n d.pending
  -- where one was taken in this round, it is not too late
  pub early : taken_since d.log ≡ true → n < prompt_rounds
  pub few : rounds_in d.log < prompt_rounds
