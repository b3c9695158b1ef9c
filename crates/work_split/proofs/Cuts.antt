-- The cuts of a list whose ranks never fall.
use Rattle.std.proofs.Common.{ℕ, suc, ◌≡◌, ◌+◌, ◌<◌, ◌≤◌, true, false, cond, eqb, ltb, List, [], ◌∷◌, length, filter, take, drop, refl, ap, ◌∙◌, inl, inr, arith}
use Rattle.std.specs.Prelude.{count_by}
use Rattle.std.proofs.lemmas.Bool.{cases_lt, le-ltb, lt-ltb, eq-eqb, ne_eqb}
use Rattle.std.proofs.lemmas.List.Elements.{All-weaker}
use Rattle.std.proofs.lemmas.List.Sums.{sum_by-cons}
use Rattle.hot_units.specs.Limits.{max_bodies}
use Rattle.hot_units.specs.Values.{BodyValue}
use Rattle.hot_units.specs.Keys.{key_of_body}
use Rattle.hot_units.specs.Order.{IsInOrder}
use Rattle.hot_model.proofs.Ranges.{Rising, NoneBelow, rising_in_order}
use Rattle.rank_model.specs.World.{rank_of}
use Rattle.rank_model.specs.Split.{weight_in, split_rank}
use Rattle.rank_model.proofs.Worlds.{split_rises, split_below, split_good}
use Rattle.work_split.specs.Splits.{world_of, world_by}
use Rattle.work_split.specs.Laws.{PiecesJoin, PiecesMakeAWorld}

-- how many of the list have a number below q
abbrev pub lower : (BodyValue → ℕ) → ℕ → List BodyValue → ℕ
lower f q xs = count_by (λ b. ltb (f b) q) xs

lower-cons : (f : BodyValue → ℕ) (q : ℕ) (x : BodyValue) (xs : List BodyValue) → lower f q (x ∷ xs) ≡ cond (ltb (f x) q) 1 0 + lower f q xs
lower-cons f q x xs = sum_by-cons (λ b. cond (ltb (f b) q) 1 0) x xs

lower-in : (f : BodyValue → ℕ) (q : ℕ) (x : BodyValue) (xs : List BodyValue) → f x < q → lower f q (x ∷ xs) ≡ suc (lower f q xs)
lower-in f q x xs h = let t : ltb (f x) q ≡ true = lt-ltb _ _ h in lower-cons f q x xs ∙ rw t (omega arith)

lower-out : (f : BodyValue → ℕ) (q : ℕ) (x : BodyValue) (xs : List BodyValue) → q ≤ f x → lower f q (x ∷ xs) ≡ lower f q xs
lower-out f q x xs h = let t : ltb (f x) q ≡ false = le-ltb _ _ h in lower-cons f q x xs ∙ rw t (omega arith)

-- the numbers of a list never fall
abbrev pub AllFrom : (BodyValue → ℕ) → ℕ → List BodyValue → Type 0
AllFrom f k [] = Unit {0}
AllFrom f k (x ∷ xs) = (k ≤ f x) × AllFrom f k xs

-- each number of the list is at most any that stands behind it
abbrev pub Climbs : (BodyValue → ℕ) → List BodyValue → Type 0
Climbs f [] = Unit {0}
Climbs f (x ∷ xs) = AllFrom f (f x) xs × Climbs f xs

from_less : (f : BodyValue → ℕ) (j k : ℕ) (xs : List BodyValue) → j ≤ k → AllFrom f k xs → AllFrom f j xs
from_less f j k [] h a = tt
from_less f j k (x ∷ xs) h a = (omega (arith, h, a.0), from_less f j k xs h a.1)

-- where no number is below q, none is counted, kept or passed over
none-lower : (f : BodyValue → ℕ) (q : ℕ) (xs : List BodyValue) → AllFrom f q xs → lower f q xs ≡ 0
none-lower f q [] a = refl
none-lower f q (x ∷ xs) a = lower-out f q x xs a.0 ∙ none-lower f q xs a.1

none-kept : (f : BodyValue → ℕ) (q : ℕ) (xs : List BodyValue) → AllFrom f q xs → filter (λ b. ltb (f b) q) xs ≡ []
none-kept f q [] a = refl
none-kept f q (x ∷ xs) a = let t : ltb (f x) q ≡ false = le-ltb _ _ a.0 in rw t (none-kept f q xs a.1)

none-equal : (f : BodyValue → ℕ) (q : ℕ) (xs : List BodyValue) → AllFrom f (suc q) xs → filter (λ b. eqb (f b) q) xs ≡ []
none-equal f q [] a = refl
none-equal f q (x ∷ xs) a = let t : eqb (f x) q ≡ false = ne_eqb _ _ (λ e. omega (arith, e, a.0)) in rw t (none-equal f q xs a.1)

all-over : (f : BodyValue → ℕ) (q : ℕ) (xs : List BodyValue) → AllFrom f (suc q) xs → filter (λ b. ltb q (f b)) xs ≡ xs
all-over f q [] a = refl
all-over f q (x ∷ xs) a = let t : ltb q (f x) ≡ true = lt-ltb _ _ (omega (arith, a.0)) in rw t (ap (λ (ys : List BodyValue). x ∷ ys) (all-over f q xs a.1))

-- those with a number below q are the front of the list
pub front-lower : (f : BodyValue → ℕ) (q : ℕ) (xs : List BodyValue) → Climbs f xs → filter (λ b. ltb (f b) q) xs ≡ take (lower f q xs) xs
front-lower f q [] c = refl
front-lower f q (x ∷ xs) c = elim (cases_lt (f x) q) [
  | inl p ↦
      let t : ltb (f x) q ≡ true = lt-ltb _ _ p in
      let n = lower-in f q x xs p in
      rw (n, t) (ap (λ (ys : List BodyValue). x ∷ ys) (front-lower f q xs c.1))
  | inr p ↦
      let t : ltb (f x) q ≡ false = le-ltb _ _ p in
      let low = from_less f q (f x) xs p c.0 in
      let n : lower f q (x ∷ xs) ≡ 0 = lower-out f q x xs p ∙ none-lower f q xs low in
      rw (n, t) (none-kept f q xs low)
]

-- those with the number q stand behind them
pub middle-lower : (f : BodyValue → ℕ) (q : ℕ) (xs : List BodyValue) → Climbs f xs → filter (λ b. eqb (f b) q) xs ≡ drop (lower f q xs) (take (lower f (suc q) xs) xs)
middle-lower f q [] c = refl
middle-lower f q (x ∷ xs) c = elim (cases_lt (f x) q) [
  | inl p ↦
      let t : eqb (f x) q ≡ false = ne_eqb _ _ (λ e. omega (arith, e, p)) in
      let n = lower-in f q x xs p in
      let m = lower-in f (suc q) x xs (omega (arith, p)) in
      rw (n, m, t) (middle-lower f q xs c.1)
  | inr p ↦ elim (cases_lt (f x) (suc q)) [
    | inl r ↦
        let t : eqb (f x) q ≡ true = eq-eqb _ _ (omega (arith, p, r)) in
        let low = from_less f q (f x) xs p c.0 in
        let z : lower f q xs ≡ 0 = none-lower f q xs low in
        let n : lower f q (x ∷ xs) ≡ 0 = lower-out f q x xs p ∙ z in
        let m = lower-in f (suc q) x xs r in
        let rest = middle-lower f q xs c.1 in
        rw (n, m, t) (ap (λ (ys : List BodyValue). x ∷ ys) (rest ∙ rw z refl))
    | inr r ↦
        let t : eqb (f x) q ≡ false = ne_eqb _ _ (λ e. omega (arith, e, r)) in
        let over = from_less f (suc q) (f x) xs r c.0 in
        let low = from_less f q (f x) xs p c.0 in
        let n : lower f q (x ∷ xs) ≡ 0 = lower-out f q x xs p ∙ none-lower f q xs low in
        let m : lower f (suc q) (x ∷ xs) ≡ 0 = lower-out f (suc q) x xs r ∙ none-lower f (suc q) xs over in
        rw (n, m, t) (none-equal f q xs over)
  ]
]

-- and those with a greater number behind these
pub back-lower : (f : BodyValue → ℕ) (q : ℕ) (xs : List BodyValue) → Climbs f xs → filter (λ b. ltb q (f b)) xs ≡ drop (lower f (suc q) xs) xs
back-lower f q [] c = refl
back-lower f q (x ∷ xs) c = elim (cases_lt (f x) (suc q)) [
  | inl p ↦
      let t : ltb q (f x) ≡ false = le-ltb _ _ (omega (arith, p)) in
      let m = lower-in f (suc q) x xs p in
      rw (m, t) (back-lower f q xs c.1)
  | inr p ↦
      let t : ltb q (f x) ≡ true = lt-ltb _ _ (omega (arith, p)) in
      let over = from_less f (suc q) (f x) xs p c.0 in
      let m : lower f (suc q) (x ∷ xs) ≡ 0 = lower-out f (suc q) x xs p ∙ none-lower f (suc q) xs over in
      rw (m, t) (ap (λ (ys : List BodyValue). x ∷ ys) (all-over f q xs over))
]

-- one number more
pub lower-next : (f : BodyValue → ℕ) (q : ℕ) (xs : List BodyValue) → lower f (suc q) xs ≡ lower f q xs + length (filter (λ b. eqb (f b) q) xs)
lower-next f q [] = refl
lower-next f q (x ∷ xs) = elim (cases_lt (f x) q) [
  | inl p ↦
      let t : eqb (f x) q ≡ false = ne_eqb _ _ (λ e. omega (arith, e, p)) in
      rw t (omega (arith, lower-in f q x xs p, lower-in f (suc q) x xs (omega (arith, p)), lower-next f q xs))
  | inr p ↦ elim (cases_lt (f x) (suc q)) [
    | inl r ↦
        let t : eqb (f x) q ≡ true = eq-eqb _ _ (omega (arith, p, r)) in
        rw t (omega (arith, lower-out f q x xs p, lower-in f (suc q) x xs r, lower-next f q xs))
    | inr r ↦
        let t : eqb (f x) q ≡ false = ne_eqb _ _ (λ e. omega (arith, e, r)) in
        rw t (omega (arith, lower-out f q x xs p, lower-out f (suc q) x xs r, lower-next f q xs))
  ]
]

-- none of a list has a number below 0
pub lower-none : (f : BodyValue → ℕ) (xs : List BodyValue) → lower f 0 xs ≡ 0
lower-none f [] = refl
lower-none f (x ∷ xs) = lower-out f 0 x xs (omega arith) ∙ lower-none f xs

lower-all : (f : BodyValue → ℕ) (q : ℕ) (xs : List BodyValue) → ((b : BodyValue) → f b < q) → lower f q xs ≡ length xs
lower-all f q [] h = refl
lower-all f q (x ∷ xs) h = omega (arith, lower-in f q x xs (h x), lower-all f q xs h)

-- ranks by weights never fall along the keys
ranks_from : (weight : BodyValue → ℕ) (bodies : List BodyValue) (ranks k : ℕ) (xs : List BodyValue) → NoneBelow k xs → AllFrom (λ b. split_rank weight bodies ranks (key_of_body b)) (split_rank weight bodies ranks k) xs
ranks_from weight bodies ranks k [] h = tt
ranks_from weight bodies ranks k (x ∷ xs) h = (split_rises weight bodies ranks k (key_of_body x) h.0, ranks_from weight bodies ranks k xs h.1)

ranks_rise : (weight : BodyValue → ℕ) (bodies : List BodyValue) (ranks : ℕ) (xs : List BodyValue) → Rising xs → Climbs (λ b. split_rank weight bodies ranks (key_of_body b)) xs
ranks_rise weight bodies ranks [] h = tt
ranks_rise weight bodies ranks (x ∷ xs) h = (ranks_from weight bodies ranks (key_of_body x) xs h.0, ranks_rise weight bodies ranks xs h.1)

-- in a list in key order the ranks never fall
pub ranks_climb : (bodies : List BodyValue) (weights : List ℕ) (ranks : ℕ) → IsInOrder bodies → Climbs (λ b. rank_of (world_by bodies weights ranks) b) bodies
ranks_climb bodies weights ranks o = ranks_rise (weight_in weights) bodies ranks bodies (rising_in_order bodies o)

-- the laws
pub pieces_join : PiecesJoin
pieces_join set ranks one = record {
  first = lower-none (λ b. rank_of (world_of set ranks) b) set.bodies;
  last = lower-all (λ b. rank_of (world_of set ranks) b) ranks set.bodies (λ b. split_below (weight_in set.weights) set.bodies ranks (key_of_body b) one);
}

-- a set in order that is split is a good world, with any leaf limit
pub pieces_make_a_world : PiecesMakeAWorld
pieces_make_a_world set ranks leaf h one =
    split_good (weight_in set.weights) set.bodies ranks leaf one h.sound h.in_order h.few
    (All-weaker (λ (b : BodyValue). b.row < length set.bodies) (λ (b : BodyValue). b.row < max_bodies) (λ b l. omega (arith, l, h.few)) set.bodies h.rows_in)
    h.rows_differ
    h.light
