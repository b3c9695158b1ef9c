-- Worlds of the tests, and how two ranks stand in them between two rounds.
use Rattle.std.specs.Prelude.{ℕ, ◌≡◌, ◌+◌, ◌*◌, ◌≤◌, true, List, [], ◌∷◌, ◌++◌, replicate, Contains}
use Rattle.hot_units.specs.Values.{BodyValue}
use Rattle.rank_model.specs.World.{World}
use Rattle.cell_mail.specs.declared.content.Kind.{Kind}
use Rattle.cell_mail.specs.declared.content.Kind.TheVariants.{Branches}
use Rattle.cell_mail.specs.Letters.{LetterValue, kind_of}
use Rattle.defer_walk.specs.Listing.{world_of}
use Rattle.rank_core.specs.Times.{times}
use Rattle.rank_core.specs.Seat.{Seat, all_answered, all_told, asked_by, asked_in, answered_in}
use Rattle.rank_core.specs.Truth.{TrueLetter}

-- a body of mass 1
abbrev pub near : BodyValue
near = record { x = 0; y = 0; z = 0; mass = 1; row = 0 }

-- a body of mass 3
abbrev pub far : BodyValue
far = record { x = 1024; y = 0; z = 0; mass = 3; row = 1 }

-- both on one rank
abbrev pub one : World
one = world_of (record { bodies = near ∷ far ∷ []; cuts = []; leaf = 8; me = 0 })

-- one on each of two ranks
abbrev pub two : World
two = world_of (record { bodies = near ∷ far ∷ []; cuts = 9223372036854776064 ∷ []; leaf = 8; me = 0 })

-- a body at a common place
abbrev pub at_point : ℕ → BodyValue
at_point row = record { x = 1280; y = 1280; z = 1280; mass = 1; row = row }

-- five of them
abbrev pub crowd : List BodyValue
crowd = at_point 0 ∷ at_point 1 ∷ at_point 2 ∷ at_point 3 ∷ at_point 4 ∷ []

-- five bodies at one place, all on the first of three ranks
abbrev pub five : World
five = world_of (record { bodies = crowd; cuts = 18446744073709551615 ∷ 18446744073709551615 ∷ []; leaf = 8; me = 0 })

-- rank q has begun, has nothing to send, and has got no answer
pub record IsReady (q : ℕ) (s : Seat) : Type 0 where
  pub me : s.me ≡ q
  pub begun : s.begun ≡ true
  pub outbox : s.outbox ≡ []
  pub none : (k : ℕ) → times k s.answered + times k (all_answered s.inbox) ≡ 0

-- whatever the letters in the inbox of t ask for in the name of s, s has asked for
abbrev pub Asks : Seat → Seat → Type 0
Asks s t = (k : ℕ) → Contains (asked_by s.me t.inbox) k → Contains s.asked k

-- a rank that has heard nobody yet
abbrev pub HeardNone : Seat → Type 0
HeardNone s = (p : ℕ) → times p s.heard + times p (all_told s.inbox) ≡ 0

-- a true letter of this kind from rank p to rank q
pub record IsSent (w : World) (x : Kind) (p q : ℕ) (l : LetterValue) : Type 0 where
  pub truth : TrueLetter w l
  pub from_is : l.from ≡ p
  pub to_is : l.to ≡ q
  pub kind : kind_of l.content ≡ x

-- one by which rank p tells its branches to rank q
abbrev pub IsTold : (p q : ℕ) → LetterValue → Type 0
IsTold p q l = IsSent five Branches p q l

-- a body in a row along x, at a whole place
abbrev pub in_row : ℕ → BodyValue
in_row i = record { x = 256 * i; y = 0; z = 0; mass = 1; row = i }

-- three of them, on the ranks 0, 21 and 42 of 64
unfoldable pub three : World
three = world_of (record {
  bodies = in_row 0 ∷ in_row 1 ∷ in_row 2 ∷ [];
  cuts = replicate 21 9223372036854775812 ++ (replicate 21 9223372036854775840 ++ replicate 21 18446744073709551615);
  leaf = 8;
  me = 0;
})

-- rank q of three bodies has made its first step, and has read nothing
pub record HasBegun (q : ℕ) (s : Seat) : Type 0 where
  pub me : s.me ≡ q
  pub begun : s.begun ≡ true
  pub inbox : s.inbox ≡ []
  pub heard : (p : ℕ) → times p s.heard ≡ 0
  pub answered : (k : ℕ) → times k s.answered ≡ 0

-- a rank that has heard none of the ranks from n on
abbrev pub HeardBelow : ℕ → Seat → Type 0
HeardBelow n s = (p : ℕ) → n ≤ p → times p s.heard + times p (all_told s.inbox) ≡ 0

-- what the letter asks for was asked for
abbrev pub HasAsked : Seat → LetterValue → Type 0
HasAsked s l = (k : ℕ) → Contains (asked_in l.content) k → Contains s.asked k

-- what a letter answers for is what another one asks for
abbrev pub AnswersOnly : (asks answers : LetterValue) → Type 0
AnswersOnly l m = (k : ℕ) → Contains (answered_in m.content) k → Contains (asked_in l.content) k

-- what the letter answers for was asked for
abbrev pub HasAskedFor : Seat → LetterValue → Type 0
HasAskedFor s l = (k : ℕ) → Contains (answered_in l.content) k → Contains s.asked k
