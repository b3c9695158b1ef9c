-- What a deferred walk holds, and what it means that it stands for a world.
use Rattle.std.specs.Prelude.{ℕ, zero, suc, ◌≡◌, ◌≢◌, ◌+◌, ◌<◌, ◌≤◌, Bool, true, false, List, [], ◌∷◌, ◌++◌, length, map, take, sum_by, All, Contains, Option, Some, None, IfSome, IsSome, slice_get, ◌⊎◌, if◌then◌else◌}
use Rattle.hot_units.specs.Values.{BodyValue, CellValue}
use Rattle.hot_units.specs.Keys.{IsCell, parent}
use Rattle.hot_units.specs.Bodies.{mass_of}
use Rattle.hot_model.specs.Trees.{Term, mass_of_term, added, fold_of, opened, cell_record}
use Rattle.hot_model.specs.declared.answer.Answer.{Answer}
use Rattle.rank_model.specs.World.{World, IsGood, piece, bodies_in}
use Rattle.rank_model.specs.Branches.{IsBranch}
use Rattle.rank_model.specs.Needs.{Needs, part_of, asks}
use Rattle.rank_model.specs.Answers.{true_answer}
use Rattle.rank_model.specs.Pairs.{PairValue, IsPair, pair_with, rest_of, still_opened, still_asked, rests_at}
use Rattle.rank_model.specs.declared.part.Part.TheVariants.{Away}
use Rattle.defer_walk.specs.declared.asks.Slot.{Slot}
use Rattle.defer_walk.specs.declared.progress.Progress.{Progress}
use Rattle.defer_walk.specs.declared.progress.Progress.TheVariants.{Done, Waiting}
use Rattle.defer_walk.specs.declared.listed.Listed.{Listed}
use Rattle.defer_walk.specs.Asked.{asked_keys, stored_at}
use Rattle.defer_walk.specs.Settling.{IsOpened}
use Rattle.defer_walk.specs.Tallies.{TallyValue}

-- a walk: its rank, visit and piece; an accumulator for each body; the pairs of body and cell that are left; the cells
-- asked for, of which the first `given` were given out; what was opened; and how far it came
pub record WalkState (V A : Type 0) : Type 0 where
  pub me : ℕ
  pub visit : V
  pub piece : List BodyValue
  pub accs : List A
  pub pairs : List Listed
  pub slots : List Slot
  pub given : ℕ
  pub tally : TallyValue
  pub started : Bool
  pub advanced : Bool
  pub starved : Bool

-- the keys that were given out
abbrev pub given_of : {V A : Type 0} → WalkState V A → List ℕ
given_of s = asked_keys (take s.given s.slots)

-- the answer that was supplied for a key
abbrev pub answer_of : {V A : Type 0} → WalkState V A → ℕ → Option Answer
answer_of s key = stored_at s.slots key

-- what a visit means: the empty accumulator, how a body adds a term, which cells it opens, and the mass that was seen
pub record VisitOf (A : Type 0) : Type 0 where
  pub nothing : A
  pub adds : BodyValue → A → Term → A
  pub opens : BodyValue → CellValue → Bool
  pub seen : A → ℕ

-- the same of a visit's meanings
abbrev pub meaning : {V A : Type 0} → (V → A) → (V → BodyValue → A → Term → A) → (V → BodyValue → CellValue → Bool) → (A → ℕ) → V → VisitOf A
meaning nothing adds opens seen v = record { nothing = nothing v; adds = adds v; opens = opens v; seen = seen }

-- the fold of a body over a world
abbrev pub fold_in : {A : Type 0} → VisitOf A → World → BodyValue → A
fold_in v w b = fold_of (v.adds b) v.nothing (v.opens b) w.leaf w.bodies

-- the cells that a body opens in a world
abbrev pub opened_by : {A : Type 0} → VisitOf A → World → BodyValue → List ℕ
opened_by v w b = opened (v.opens b) w.leaf w.bodies

-- the cells that a body asks for in a world
abbrev pub asked_by : {A : Type 0} → VisitOf A → World → ℕ → BodyValue → List ℕ
asked_by v w me b = asks (v.opens b) w me

-- a listed pair with the record that its cell has in a world
abbrev pub pair_in : World → Listed → PairValue
pair_in w p = pair_with p.body p.whole (cell_record w.bodies p.key)

-- the listed pairs of a world
abbrev pub pairs_in : World → List Listed → List PairValue
pairs_in w ps = map (pair_in w) ps

-- a cell that was asked for is needed, it is the owner's, and it is a branch or its parent's answer is there
pub record IsAsk {A : Type 0} (v : VisitOf A) (w : World) (me : ℕ) (slots : List Slot) (s : Slot) : Type 0 where
  pub cell : IsCell s.key
  pub some : 0 < length (bodies_in w s.key)
  pub away : part_of w me s.key ≡ Away s.owner
  pub needed : Needs v.opens w me s.key
  pub chained : IsBranch w s.owner s.key ⊎ IsSome (stored_at slots (parent s.key))

-- what is stored of other ranks is true of a world
pub record AreStored {A : Type 0} (v : VisitOf A) (w : World) (me : ℕ) (slots : List Slot) : Type 0 where
  pub truth : All (λ s. IfSome s.answer (λ a. a ≡ true_answer w s.key)) slots
  pub asks : All (IsAsk v w me slots) slots

-- each body's accumulator, with all added that rests of its pairs, is its fold
pub record IsBalanced {A : Type 0} (v : VisitOf A) (w : World) (bodies : List BodyValue) (accs : List A) (pairs : List PairValue) : Type 0 where
  pub long : length accs ≡ length bodies
  pub none : 0 < length bodies → v.seen v.nothing ≡ 0
  pub places : All (λ p. p.body < length bodies) pairs
  pub cells : All (IsPair w) pairs
  pub sums : (i : ℕ) (b : BodyValue) (a : A) → slice_get bodies i ≡ Some b → slice_get accs i ≡ Some a
      → added (v.adds b) a (rests_at (rest_of (v.opens b) w) i pairs) ≡ fold_in v w b

-- the cells of a list are cells of some body, and each cell of a body is in the list or rests of its pairs
pub record IsTraced (rest : BodyValue → PairValue → List ℕ) (all : BodyValue → List ℕ) (bodies : List BodyValue) (done : List ℕ) (pairs : List PairValue) : Type 0 where
  pub sound : (k : ℕ) → Contains done k → (b : BodyValue) × Contains bodies b × Contains (all b) k
  pub rests : (i : ℕ) (b : BodyValue) (k : ℕ) → slice_get bodies i ≡ Some b → Contains (rests_at (rest b) i pairs) k → Contains (all b) k
  pub complete : (i : ℕ) (b : BodyValue) (k : ℕ) → slice_get bodies i ≡ Some b → Contains (all b) k → Contains done k ⊎ Contains (rests_at (rest b) i pairs) k

-- how many cells the body of a pair may still open for it
abbrev pub left_for : {A : Type 0} → VisitOf A → World → PairValue → Option BodyValue → ℕ
left_for v w p None = 0
left_for v w p (Some b) = length (still_opened (v.opens b) w p)

-- the same for a pair of a list of bodies
abbrev pub left_to_open : {A : Type 0} → VisitOf A → World → List BodyValue → PairValue → ℕ
left_to_open v w bodies p = left_for v w p (slice_get bodies p.body)

-- the opened cells and the asked cells are those of the bodies, but for what rests of the pairs
pub record IsCounted {A : Type 0} (v : VisitOf A) (w : World) (me : ℕ) (bodies : List BodyValue) (tally : TallyValue) (slots : List Slot) (pairs : List PairValue) : Type 0 where
  pub opened : tally.opened + sum_by (left_to_open v w bodies) pairs ≡ sum_by (λ b. length (opened_by v w b)) bodies
  pub cells : IsTraced (λ b. still_opened (v.opens b) w) (opened_by v w) bodies tally.cells pairs
  pub asks : IsTraced (λ b. still_asked (v.opens b) w me) (asked_by v w me) bodies (asked_keys slots) pairs

-- a pair waits for a cell of another rank: it is opened or to be added whole, and the cell was asked for
pub record Waits {A : Type 0} (v : VisitOf A) (w : World) (me : ℕ) (bodies : List BodyValue) (slots : List Slot) (p : PairValue) : Type 0 where
  pub opened : (b : BodyValue) → slice_get bodies p.body ≡ Some b → IsOpened (v.opens b) p
  pub away : (q : ℕ) × (part_of w me p.rec.key ≡ Away q)
  pub asked : Contains (asked_keys slots) p.rec.key

-- the cells of the pairs lack their answers
abbrev pub AreUnanswered : List Slot → List Listed → Type 0
AreUnanswered slots pairs = All (λ p. stored_at slots p.key ≡ None) pairs

-- no cell was asked for below one that a pair waits for
abbrev pub NoneBelow : List Slot → List Listed → Type 0
NoneBelow slots pairs = All (λ s. All (λ p. parent s.key ≢ p.key) pairs) slots

-- the pairs of a walk that has not advanced: bodies with the root, to be tested
abbrev pub AreRoots : List Listed → Type 0
AreRoots pairs = All (λ p. (p.key ≡ 1) × (p.whole ≡ false)) pairs

-- the first n bodies with the root
abbrev pub roots : ℕ → List Listed
roots zero = []
roots (suc n) = roots n ++ (record { body = n; whole = false; key = 1 }) ∷ []

-- the pairs that are left: before the first advance all bodies with the root, and later those that wait
abbrev pub left_by : Bool → ℕ → List Listed → List Listed
left_by advanced n waiting = if advanced then waiting else roots n

-- nothing was done yet
pub record IsFresh {V A : Type 0} (nothing : A) (s : WalkState V A) : Type 0 where
  pub pairs : s.pairs ≡ []
  pub slots : s.slots ≡ []
  pub accs : All (λ a. a ≡ nothing) s.accs
  pub opened : s.tally.opened ≡ 0
  pub cells : s.tally.cells ≡ []

-- the walk stands for a world: its piece is the rank's, what it stores is true, and, where it was started and is not
-- starved, the sums, the counts and the pairs are as they should be
pub record Stands {V A : Type 0} (v : VisitOf A) (w : World) (s : WalkState V A) : Type 0 where
  pub good : IsGood w
  pub bodies : s.piece ≡ piece w s.me
  pub long : length s.accs ≡ length s.piece
  pub none : 0 < length s.piece → v.seen v.nothing ≡ 0
  pub store : AreStored v w s.me s.slots
  pub fresh : s.started ≡ false → s.starved ≡ false → IsFresh v.nothing s
  pub balance : s.started ≡ true → s.starved ≡ false → IsBalanced v w s.piece s.accs (pairs_in w s.pairs)
  pub count : s.started ≡ true → s.starved ≡ false → IsCounted v w s.me s.piece s.tally s.slots (pairs_in w s.pairs)
  pub begun : s.started ≡ true → s.starved ≡ false → s.advanced ≡ false → AreRoots s.pairs × (s.slots ≡ [])
  pub waits : s.started ≡ true → s.starved ≡ false → s.advanced ≡ true → All (Waits v w s.me s.piece s.slots) (pairs_in w s.pairs) × NoneBelow s.slots s.pairs

-- the walk stands for a world, by the meanings of its visit
abbrev pub StandsFor : {V A : Type 0} → (V → A) → (V → BodyValue → A → Term → A) → (V → BodyValue → CellValue → Bool) → (A → ℕ) → World → WalkState V A → Type 0
StandsFor nothing adds opens seen w s = Stands (meaning nothing adds opens seen s.visit) w s

-- a cell that is asked for: one below the root with bodies, and its owner, another rank of the world
pub record IsRemote (w : World) (me owner key : ℕ) : Type 0 where
  pub cell : IsCell key
  pub below : 1 < key
  pub some : 0 < length (bodies_in w key)
  pub rank : owner < w.ranks
  pub other : owner ≢ me

-- what no call but `new` sets
pub record IsSameWalk {V A : Type 0} (old new : WalkState V A) : Type 0 where
  pub me : new.me ≡ old.me
  pub visit : new.visit ≡ old.visit
  pub piece : new.piece ≡ old.piece

-- and what neither `asked` nor `supply` changes
pub record IsSameStage {V A : Type 0} (old new : WalkState V A) : Type 0 where
  pub accs : new.accs ≡ old.accs
  pub pairs : new.pairs ≡ old.pairs
  pub slots : new.slots ≡ old.slots
  pub tally : new.tally ≡ old.tally
  pub started : new.started ≡ old.started
  pub advanced : new.advanced ≡ old.advanced
  pub starved : new.starved ≡ old.starved

-- what an advance answers: that no pair is left, or how many wait
abbrev pub IsProgress : Progress → List Listed → Type 0
IsProgress Done pairs = pairs ≡ []
IsProgress (Waiting n) pairs = (1 ≤ n) × (n ≡ length pairs)

-- a pair waited for the cell, and the answer has come
abbrev pub IsAwake : List Slot → List Listed → ℕ → Type 0
IsAwake slots pairs k = Contains (map (λ p. p.key) pairs) k × IsSome (stored_at slots k)

-- a cell that became asked: a branch in the first advance, and later a child of a cell whose answer has come since
abbrev pub IsNewAsk : Bool → World → List Slot → List Listed → Slot → Type 0
IsNewAsk false w was pairs s = IsBranch w s.owner s.key
IsNewAsk true w was pairs s = IsAwake was pairs (parent s.key)

-- what each body has seen, with the mass of what rests of its pairs, is the mass of all bodies
abbrev pub SeesAll : {V A : Type 0} → VisitOf A → World → WalkState V A → Type 0
SeesAll {V} {A} v w s = (i : ℕ) (b : BodyValue) (a : A) → slice_get s.piece i ≡ Some b → slice_get s.accs i ≡ Some a → v.seen a + sum_by mass_of_term (rests_at (rest_of (v.opens b) w) i (pairs_in w s.pairs)) ≡ mass_of w.bodies
