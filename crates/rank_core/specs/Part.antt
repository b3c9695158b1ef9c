-- What a rank holds beside its walk, and what it means that this is true of a world.
use Rattle.std.specs.Prelude.{ℕ, ◌≡◌, ◌≢◌, ◌<◌, ◌≤◌, Bool, true, false, List, ◌++◌, length, All, Option, Some, None, IfSome, IsSome, slice_get}
use Rattle.hot_units.specs.Limits.{max_ranks, max_leaf}
use Rattle.rank_model.specs.World.{World, IsGood, piece, left_of, right_of}
use Rattle.rank_model.specs.Branches.{branch_records}
use Rattle.cell_mail.specs.Grammar.{IsBelowRoot}
use Rattle.cell_mail.specs.Letters.{LetterValue}
use Rattle.branch_merge.specs.declared.listed.Listed.{Listed}
use Rattle.branch_merge.specs.Laws.{AreTrue}
use Rattle.rank_core.specs.declared.place.Place.{Place}
use Rattle.rank_core.specs.declared.heard.Heard.{Heard}
use Rattle.rank_core.specs.declared.request.Request.{Request}
use Rattle.rank_core.specs.declared.state.State.{State}
use Rattle.rank_core.specs.RankTree.{piece_value}
use Rattle.rank_core.specs.Truth.{IsCellOf, TrueInbox, TrueOutbox}
use Rattle.rank_core.specs.Times.{times}
use Rattle.rank_core.specs.Mail.{keys_for}

-- the place of a rank of a world
pub record IsPlace (w : World) (p : Place) : Type 0 where
  pub me_in : p.me < p.ranks
  pub ranks_few : p.ranks ≤ max_ranks
  pub leaf_some : 1 ≤ p.leaf
  pub leaf_few : p.leaf ≤ max_leaf
  pub ranks : p.ranks ≡ w.ranks
  pub leaf : p.leaf ≡ w.leaf
  pub left : p.left ≡ left_of w p.me
  pub right : p.right ≡ right_of w p.me

-- each list that was heard is that of its rank
pub record AreHeard (w : World) (h : Heard) : Type 0 where
  pub lists : length h.lists.items ≡ w.ranks
  pub heard : length h.heard.items ≡ w.ranks
  pub truth : (q : ℕ) → slice_get h.heard.items q ≡ Some true → slice_get h.lists.items q ≡ Some (branch_records w q)

-- whether the top is there
abbrev pub is_there : Option (List Listed) → Bool
is_there None = false
is_there (Some xs) = true

-- what a rank holds beside its walk is true of a world
pub record IsPartOf (w : World) (s : State) : Type 0 where
  pub good : IsGood w
  pub place : IsPlace w s.place
  pub bodies : s.piece.items ≡ piece w s.place.me
  pub tree : IfSome s.tree (λ t. t ≡ piece_value w s.place.me)
  pub heard : AreHeard w s.heard
  pub own : IsSome s.tree → slice_get s.heard.heard.items s.place.me ≡ Some true
  pub top : IfSome s.top (AreTrue w)
  pub inbox : TrueInbox w s.place.me s.inbox.items
  pub outbox : TrueOutbox w s.place.me s.outbox.items

-- a request between this rank and another one, for a cell of the rank `owner` below the root
pub record IsRequest (w : World) (me owner : ℕ) (r : Request) : Type 0 where
  pub rank_in : r.rank < w.ranks
  pub other : me ≢ r.rank
  pub cell : IsCellOf w owner r.key
  pub below : IsBelowRoot r.key

-- requests of other ranks for cells of this one, of no rank two for one cell
pub record AreAsked (w : World) (me : ℕ) (rs : List Request) : Type 0 where
  pub each : All (λ r. IsRequest w me me r) rs
  pub once : (q k : ℕ) → times k (keys_for q rs) ≤ 1

-- requests of this rank for cells of other ones, no two for one cell
pub record AreAsking (w : World) (me : ℕ) (rs : List Request) : Type 0 where
  pub each : All (λ r. IsRequest w me r.rank r) rs
  pub once : (q k : ℕ) → times k (keys_for q rs) ≤ 1

-- nothing changed but letters in the outbox
pub record SameBut (old new : State) : Type 0 where
  pub place : new.place ≡ old.place
  pub piece : new.piece.items ≡ old.piece.items
  pub inbox : new.inbox.items ≡ old.inbox.items
  pub top : new.top ≡ old.top
  pub starved : new.starved ≡ old.starved

-- the tree and the lists stay too
pub record OnlyPosts (old new : State) : Type 0 where
  pub rest : SameBut old new
  pub tree : new.tree ≡ old.tree
  pub lists : new.heard.lists.items ≡ old.heard.lists.items
  pub heard : new.heard.heard.items ≡ old.heard.heard.items

-- nothing changed but the top
pub record OnlyMerges (old new : State) : Type 0 where
  pub place : new.place ≡ old.place
  pub tree : new.tree ≡ old.tree
  pub heard : new.heard.heard.items ≡ old.heard.heard.items
  pub inbox : new.inbox.items ≡ old.inbox.items
  pub outbox : new.outbox.items ≡ old.outbox.items
  pub starved : new.starved ≡ old.starved

-- in each world of which it is true, this is so
abbrev pub WherePart : State → (World → Type 0) → Type 0
WherePart s P = (w : World) → IsPartOf w s → P w

-- the outbox has these letters more
abbrev pub Adds : State → State → List LetterValue → Type 0
Adds s t ls = t.outbox.items ≡ s.outbox.items ++ ls

-- the lists of all ranks were heard
abbrev pub AreAllHeard : State → Type 0
AreAllHeard s = All (λ h. h ≡ true) s.heard.heard.items
