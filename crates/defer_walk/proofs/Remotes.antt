-- A cell that is asked for lies below the root, and its owner is another rank of the world.
use Rattle.std.proofs.Common.{ℕ, ◌≡◌, ◌≢◌, ◌<◌, List, length, sym, ◌∙◌, subst, arith}
use Rattle.std.specs.Prelude.{Bool, All, eqb}
use Rattle.std.proofs.lemmas.Bool.{eqb-true}
use Rattle.hot_units.specs.Values.{BodyValue, CellValue}
use Rattle.hot_units.proofs.Digits.{cell-pos}
use Rattle.hot_units.proofs.Members.{has_filter, some_member}
use Rattle.hot_model.proofs.Parts.{inside-root}
use Rattle.rank_model.specs.World.{World, IsGood, rank_of, bodies_in}
use Rattle.rank_model.specs.Branches.{IsOfRank}
use Rattle.rank_model.specs.Needs.{Needs}
use Rattle.rank_model.proofs.Owners.{own_of_owned}
use Rattle.rank_model.proofs.Aways.{away-is}
use Rattle.defer_walk.specs.declared.asks.Slot.{Slot}
use Rattle.defer_walk.specs.Standing.{VisitOf, IsAsk, IsRemote}
use Rattle.defer_walk.proofs.Turnings.{All-has}

-- a cell with bodies that are all of one rank: this rank is one of the world
rank_within : (w : World) (q c : ℕ) → IsGood w → 0 < length (bodies_in w c) → IsOfRank w q c → q < w.ranks
rank_within w q c good some own =
    let b = some_member (bodies_in w c) some in
    let of : rank_of w b.0 ≡ q = All-has (λ (x : BodyValue). rank_of w x ≡ q) (bodies_in w c) b.0 own b.1 in
    let ranked : rank_of w b.0 < w.ranks = All-has (λ (x : BodyValue). rank_of w x < w.ranks) w.bodies b.0 good.ranked (has_filter _ w.bodies b.0 b.1).0 in
    omega (arith, of, ranked)

-- the root is not all of one other rank for a rank with bodies
not_root : (opens : BodyValue → CellValue → Bool) (w : World) (me q c : ℕ) → IsOfRank w q c → q ≢ me → Needs opens w me c → c ≢ 1
not_root opens w me q c own other needed is =
    let mine = needed.1.1 in
    let in_piece = has_filter (λ b. eqb (rank_of w b) me) w.bodies needed.1.0 mine in
    let at_root : All (λ (b : BodyValue). rank_of w b ≡ q) w.bodies = subst (λ (bs : List BodyValue). All (λ (b : BodyValue). rank_of w b ≡ q) bs) (inside-root w.bodies) (subst (λ (k : ℕ). IsOfRank w q k) is own) in
    other (sym (All-has (λ (b : BodyValue). rank_of w b ≡ q) w.bodies needed.1.0 at_root in_piece.0) ∙ eqb-true _ _ in_piece.1)

-- each cell that is asked for is such a cell
pub ask_is_remote : {A : Type 0} (v : VisitOf A) (w : World) (me : ℕ) (slots : List Slot) (s : Slot) → IsGood w → IsAsk v w me slots s → IsRemote w me s.owner s.key
ask_is_remote v w me slots s good ask =
    let owned = (away-is w me s.owner s.key ask.cell ask.some).0 ask.away in
    let own = own_of_owned w s.owner s.key ask.cell owned.0 in
    record {
      cell = ask.cell;
      below = omega (arith, cell-pos s.key ask.cell, not_root v.opens w me s.owner s.key own owned.1 ask.needed);
      some = ask.some;
      rank = rank_within w s.owner s.key good ask.some own;
      other = owned.1;
    }
