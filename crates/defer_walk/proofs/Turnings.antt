-- What is kept bounds the mass seen and the count of opened cells.
use Rattle.std.proofs.Common.{ℕ, suc, ◌≡◌, ◌+◌, ◌*◌, ◌^◌, ◌<◌, ◌≤◌, Bool, true, false, List, [], ◌∷◌, ◌++◌, length, filter, cond, get_or, sym, refl, ap, ◌∙◌, subst, arith, Some}
use Rattle.std.specs.Prelude.{All, Contains, slice_get, sum_by}
use Rattle.std.proofs.Math.Nat.{mul-le-mul_left, mul-le-mul_right}
use Rattle.std.proofs.lemmas.Option.{slice_get-get_or}
use Rattle.std.proofs.lemmas.List.Sums.{sum_by-append}
use Rattle.hot_units.specs.Limits.{max_bodies, max_all_mass}
use Rattle.hot_units.specs.Values.{BodyValue}
use Rattle.hot_units.specs.Keys.{IsCell, height, child}
use Rattle.hot_units.specs.Bodies.{mass_of}
use Rattle.hot_model.specs.Trees.{Term, mass_of_term, terms}
use Rattle.hot_model.proofs.Ties.{mass-listed, mass-terms, mass-all_terms}
use Rattle.hot_model.proofs.Walks.{seen-added}
use Rattle.hot_model.proofs.Heights.{height_is, height_level}
use Rattle.rank_model.specs.World.{World, IsGood, piece, bodies_in}
use Rattle.rank_model.specs.Branches.{IsBranch}
use Rattle.rank_model.specs.Needs.{part_of, is_away}
use Rattle.rank_model.specs.Pairs.{PairValue, IsPair, rest_of, rests_at}
use Rattle.rank_model.specs.declared.part.Part.TheVariants.{Away}
use Rattle.rank_model.proofs.Aways.{away-is, foreign_away}
use Rattle.rank_model.proofs.Asks.{away_child}
use Rattle.rank_model.proofs.Swaps.{rests-append}
use Rattle.defer_walk.specs.declared.asks.Slot.{Slot}
use Rattle.defer_walk.specs.Settling.{IsChildOf}
use Rattle.defer_walk.specs.Tallies.{TallyValue}
use Rattle.defer_walk.specs.Standing.{VisitOf, opened_by}
use Rattle.defer_walk.specs.Turning.{Keeps}
use Rattle.defer_walk.proofs.Settles.{pair_full}
use Rattle.defer_walk.proofs.Keeping.{rests_one}
use Rattle.defer_walk.proofs.Openings.{opened_short, all_short}

-- a filtered list is no longer
pub filter_short : {A : Type 0} (p : A → Bool) (xs : List A) → length (filter p xs) ≤ length xs
filter_short p [] = omega arith
filter_short {A} p (x ∷ xs) = elim (p x) as (λ (t : Bool). length (cond t (x ∷ filter p xs) (filter p xs)) ≤ suc (length xs)) [
  | true ↦ omega (arith, filter_short p xs)
  | false ↦ omega (arith, filter_short p xs)
]

-- a fact of all is one of each
pub All-has : {A : Type 0} (P : A → Type 0) (xs : List A) (x : A) → All P xs → Contains xs x → P x
All-has P xs x h m = subst P m.2 (h m.0 x m.1)

-- a cell that is away by its part is so by the test
pub away_test : (w : World) (me q c : ℕ) → IsCell c → 0 < length (bodies_in w c) → part_of w me c ≡ Away q → is_away w me c ≡ true
away_test w me q c i s e = let f = (away-is w me q c i s).0 e in foreign_away w me c i s (q, f.0, f.1)

-- a child that is away below a cell that is not is a branch
pub child_branch : (w : World) (me c k : ℕ) → IsCell c → 0 < length (bodies_in w c) → 0 < length (bodies_in w k) → IsChildOf c k → is_away w me c ≡ false → is_away w me k ≡ true → (q : ℕ) × IsBranch w q k
child_branch w me c k i s t b n a =
    let low : suc i.0 ≤ 21 = (let z = height_is c i.0 i.1 i.2 in omega (arith, z, b.0, i.1)) in
    let e : k ≡ child c b.1.0 = b.1.2 in
    let f = away_child w me c b.1.0 i.0 low i.2 b.1.1 n s (subst (λ (x : ℕ). 0 < length (bodies_in w x)) e t) (subst (λ (x : ℕ). is_away w me x ≡ true) e a) in
    (f.0, subst (IsBranch w f.0) (sym e) f.1)

-- what is kept bounds the mass seen and the count of opened cells
module _ {A : Type 0} (v : VisitOf A) (w : World) (me : ℕ) (bodies : List BodyValue) (accs : List A) (tally : TallyValue) (slots : List Slot) (keep : List PairValue) (p : PairValue) (k : Keeps v w me bodies accs tally slots (keep ++ p ∷ [])) (is : IsPair w p) (within : p.body < length bodies) where
  mass_by : (b : BodyValue) (t : Bool) → p.whole ≡ t → sum_by mass_of_term (rest_of (v.opens b) w p) ≡ mass_of (bodies_in w p.rec.key)
  mass_by b true e = rw e (mass-listed (bodies_in w p.rec.key))
  mass_by b false e = rw e (mass-terms (v.opens b) w.leaf w.bodies (height p.rec.key) p.rec.key (omega arith) (height_level p.rec.key is.cell))

  mass_rest : (b : BodyValue) → sum_by mass_of_term (rest_of (v.opens b) w p) ≡ p.rec.mass
  mass_rest b = mass_by b p.whole refl ∙ sym (pair_full w p is).2

  -- the accumulator has room for what rests of the pair
  pub keeps_fits : ((b : BodyValue) (a : A) (t : Term) → v.seen (v.adds b a t) ≡ v.seen a + mass_of_term t) → IsGood w → (b : BodyValue) (a : A) → slice_get bodies p.body ≡ Some b → slice_get accs p.body ≡ Some a → v.seen a + p.rec.mass ≤ max_all_mass
  keeps_fits sees good b a pb pa =
      let none = k.balance.none (omega (arith, within)) in
      let f = rest_of (v.opens b) w in
      let sums = ap v.seen (k.balance.sums p.body b a pb pa) in
      let left = seen-added v.seen (v.adds b) (sees b) a (rests_at f p.body (keep ++ p ∷ [])) in
      let right = seen-added v.seen (v.adds b) (sees b) v.nothing (terms (v.opens b) w.leaf w.bodies) in
      let mass = mass-all_terms (v.opens b) w.leaf w.bodies in
      let parts = ap (sum_by mass_of_term) (rests-append f p.body keep (p ∷ []) ∙ ap (λ (ts : List Term). rests_at f p.body keep ++ ts) (rests_one f p)) ∙ sum_by-append mass_of_term (rests_at f p.body keep) (f p) in
      omega (arith, sums, left, right, mass, parts, mass_rest b, good.light, none)

-- and the count of opened cells
pub keeps_room : {A : Type 0} (v : VisitOf A) (w : World) (me : ℕ) (bodies : List BodyValue) (accs : List A) (tally : TallyValue) (slots : List Slot) (pairs : List PairValue) → Keeps v w me bodies accs tally slots pairs → IsGood w → bodies ≡ piece w me → tally.opened < 2 ^ 64
keeps_room v w me bodies accs tally slots pairs k good own =
    let count = k.count.opened in
    let each = all_short (opened_by v w) (22 * length w.bodies) (λ b. opened_short (v.opens b) w.leaf w.bodies) bodies in
    let short : length bodies ≤ length w.bodies = subst (λ (xs : List BodyValue). length xs ≤ length w.bodies) (sym own) (filter_short _ w.bodies) in
    let few : length w.bodies ≤ max_bodies = good.few in
    let one : 22 * length w.bodies ≤ 22 * max_bodies = mul-le-mul_left 22 few in
    let two : 22 * length w.bodies * length bodies ≤ 22 * max_bodies * length bodies = mul-le-mul_right (length bodies) one in
    let all : length bodies ≤ max_bodies = omega (arith, short, few) in
    let three : 22 * max_bodies * length bodies ≤ 22 * max_bodies * max_bodies = mul-le-mul_left (22 * max_bodies) all in
    omega (arith, count, each, two, three)

-- what stands at a place that was read
pub got : {A : Type 0} (xs : List A) (i : ℕ) (x : A) → i < length xs → x ≡ get_or xs i x → slice_get xs i ≡ Some x
got xs i x h e = slice_get-get_or xs i x h ∙ ap Some (sym e)
