-- Ranks that are made one by one.
use Rattle.std.proofs.Common.{ℕ, zero, suc, ◌≡◌, ◌<◌, ◌≤◌, List, [], ◌∷◌, ◌++◌, length, Option, Some, None, Result, Ok, Err, IfOk, slice_get, refl, ap, sym, ◌∙◌, subst, inl, inr, arith}
use Rattle.std.specs.Prelude.{◌⊎◌, slice_range}
use Rattle.hot_units.specs.Values.{BodyValue}
use Rattle.rank_model.specs.World.{World, IsGood, piece, left_of, right_of}
use Rattle.key_order.specs.Ordered.{OrderedValue, IsOrderedSet}
use Rattle.work_split.specs.Values.{PiecesValue}
use Rattle.work_split.specs.Splits.{world_of, ranks_of, pieces_of, IsRun}
use Rattle.work_split.proofs.Cuts.{pieces_make_a_world}
use Rattle.rank_core.specs.Standing.{RankState, IsHere}
use Rattle.rank_core.specs.Seats as rank_seats
use Rattle.rank_core.specs.Seats.{seat_of, visit_of}
use Rattle.rank_core.specs.Seat.{Seat, IsNew}
use Rattle.protocol.specs.Joint.{AllNew}
use Rattle.protocol.specs.Ranks.{seats, Together}
use Rattle.protocol.proofs.Ranks.{rank_at, seats_len}
use Rattle.rank_set.specs.declared.sharing.Sharing.{Sharing}
use Rattle.rank_set.specs.Sharings.{shared}
use Rattle.rank_set.specs.Made.{IsRankOf}

get-push : {X : Type 0} (xs : List X) (x : X) (k : ℕ) (r : X) → slice_get (xs ++ x ∷ []) k ≡ Some r → (slice_get xs k ≡ Some r) ⊎ ((k ≡ length xs) × (x ≡ r))
get-push [] x zero r e = inr (refl, cc)
get-push [] x (suc k) r e = absurd (let n : None ≡ Some r = e in cc)
get-push (y ∷ xs) x zero r e = inl e
get-push (y ∷ xs) x (suc k) r e = elim (get-push xs x k r e) [ inl h ↦ inl h | inr h ↦ inr (ap suc h.0, h.1) ]

-- a set that is shared out is a good world
pub shared_good : (set : OrderedValue) (s : Sharing) → IsOrderedSet set → 1 ≤ s.ranks → IsGood (shared set s)
shared_good set s o one = pieces_make_a_world set s.ranks s.leaf o one

-- a piece and the keys beside it are those of the world
pub here_is : (set : OrderedValue) (s : Sharing) (pieces : PiecesValue) (q from to : ℕ) (bodies part : List BodyValue) (left right : Option ℕ)
    → IsOrderedSet set → 1 ≤ s.ranks → ranks_of pieces ≡ s.ranks → pieces ≡ pieces_of set s.ranks
    → (pieces ≡ pieces_of set (ranks_of pieces) → IsRun set.bodies (piece (world_of set (ranks_of pieces)) q) from to)
    → bodies ≡ set.bodies → part ≡ slice_range bodies from to
    → left ≡ left_of (world_of set (ranks_of pieces)) q → right ≡ right_of (world_of set (ranks_of pieces)) q
    → IsHere (shared set s) q s.ranks part left right s.leaf
here_is set s pieces q from to bodies part left right o one n p run b e l r =
    let same : pieces ≡ pieces_of set (ranks_of pieces) = p ∙ ap (pieces_of set) (sym n) in
    let at : IsRun set.bodies (piece (world_of set s.ranks) q) from to = subst (λ (m : ℕ). IsRun set.bodies (piece (world_of set m) q) from to) n (run same) in
    record {
      good = shared_good set s o one;
      bodies_are = e ∙ ap (λ (xs : List BodyValue). slice_range xs from to) b ∙ at.bodies_are;
      ranks_are = refl;
      leaf_is = refl;
      left_is = l ∙ ap (λ (m : ℕ). left_of (world_of set m) q) n;
      right_is = r ∙ ap (λ (m : ℕ). right_of (world_of set m) q) n;
    }

module _ {V A E : Type 0} (Stands : World → RankState V A → Type 0) where
  -- a rank that was made for its place
  pub made_of : (v : V) (w : World) (q ranks : ℕ) (part : List BodyValue) (left right : Option ℕ) (leaf : ℕ) (o : Result (RankState V A) E)
      → IfOk o (rank_seats.IsMade q ranks leaf v) → IfOk o (λ r. (u : World) → IsHere u q ranks part left right leaf → Stands u r)
      → IsHere w q ranks part left right leaf → IfOk o (λ r. IsRankOf Stands v w q r)
  made_of v w q ranks part left right leaf (Ok r) m s h = record { new = subst (λ (k : ℕ). IsNew q k (seat_of r)) h.ranks_are m.new; visit = m.visit_is; stands = s w h }
  made_of v w q ranks part left right leaf (Err e) m s h = tt

module _ {V A : Type 0} (Stands : World → RankState V A → Type 0) where
  -- each rank is made, at the place of its number
  abbrev pub AllMade : V → World → List (RankState V A) → Type 0
  AllMade v w rs = (q : ℕ) (r : RankState V A) → slice_get rs q ≡ Some r → IsRankOf Stands v w q r

  -- where there are no ranks, each is made
  pub made-none : (v : V) (w : World) (rs : List (RankState V A)) → rs ≡ [] → AllMade v w rs
  made-none v w rs e q r g = absurd (let n : None ≡ Some r = subst (λ (l : List (RankState V A)). slice_get l q ≡ Some r) e g in cc)

  -- of the ranks so far and the next one each is made
  pub made-more : (v : V) (w : World) (rs ts : List (RankState V A)) (q : ℕ) (r : RankState V A) → AllMade v w rs → length rs ≡ q → ts ≡ rs ++ r ∷ [] → IsRankOf Stands v w q r → AllMade v w ts
  made-more v w rs ts q r all n e m k x g = elim (get-push rs r k x (subst (λ (l : List (RankState V A)). slice_get l k ≡ Some x) e g)) [
    | inl h ↦ all k x h
    | inr h ↦ (let at : q ≡ k = sym n ∙ sym h.0 in subst (λ (y : RankState V A). IsRankOf Stands v w k y) h.1 (subst (λ (j : ℕ). IsRankOf Stands v w j r) at m))
  ]

  -- where all ranks of a world are made, they have done nothing yet
  pub made-new : (v : V) (w : World) (rs : List (RankState V A)) → length rs ≡ w.ranks → AllMade v w rs → AllNew (seats rs)
  made-new v w rs n all q s g =
      let at = rank_at rs q s g in
      let long : w.ranks ≡ length (seats rs) = sym n ∙ sym (seats_len rs) in
      subst (λ (t : Seat). IsNew q (length (seats rs)) t) at.2 (subst (λ (m : ℕ). IsNew q m (seat_of at.0)) long (all q at.0 at.1).new)

  -- where all ranks of a good world are made, they stand together for it
  pub made-together : (v : V) (w : World) (rs : List (RankState V A)) → IsGood w → length rs ≡ w.ranks → AllMade v w rs → Together Stands v w rs
  made-together v w rs g n all = record { good = g; ranks = n; stand = λ q r h. (all q r h).stands; visit = λ q r h. (all q r h).visit }
