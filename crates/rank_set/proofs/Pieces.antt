-- The pieces of a world, one behind another.
use Rattle.std.proofs.Common.{ℕ, zero, suc, ◌≡◌, ◌<◌, ◌≤◌, true, false, eqb, ltb, List, [], ◌∷◌, ◌++◌, All, Contains, filter, refl, ap, sym, ◌∙◌, inl, inr, arith, append_assoc}
use Rattle.std.proofs.lemmas.Bool.{cases_lt, le-ltb, lt-ltb, eq-eqb, ne_eqb}
use Rattle.std.proofs.lemmas.List.Elements.{All-contains}
use Rattle.hot_units.specs.Values.{BodyValue}
use Rattle.hot_units.specs.Keys.{key_of_body}
use Rattle.hot_units.proofs.Members.{head_has, tail_has}
use Rattle.hot_model.proofs.Ranges.{Rising, NoneBelow, rising_in_order}
use Rattle.rank_model.specs.World.{World, IsGood, rank_of, piece}
use Rattle.rank_set.specs.Efforts.{bodies_below}

-- the numbers of a list never fall
abbrev AllFrom : (BodyValue → ℕ) → ℕ → List BodyValue → Type 0
AllFrom f k [] = Unit {0}
AllFrom f k (x ∷ xs) = (k ≤ f x) × AllFrom f k xs

abbrev Climbs : (BodyValue → ℕ) → List BodyValue → Type 0
Climbs f [] = Unit {0}
Climbs f (x ∷ xs) = AllFrom f (f x) xs × Climbs f xs

from_less : (f : BodyValue → ℕ) (j k : ℕ) (xs : List BodyValue) → j ≤ k → AllFrom f k xs → AllFrom f j xs
from_less f j k [] h a = tt
from_less f j k (x ∷ xs) h a = (omega (arith, h, a.0), from_less f j k xs h a.1)

none-kept : (f : BodyValue → ℕ) (q : ℕ) (xs : List BodyValue) → AllFrom f q xs → filter (λ b. ltb (f b) q) xs ≡ []
none-kept f q [] a = refl
none-kept f q (x ∷ xs) a = let t : ltb (f x) q ≡ false = le-ltb _ _ a.0 in rw t (none-kept f q xs a.1)

none-equal : (f : BodyValue → ℕ) (q : ℕ) (xs : List BodyValue) → AllFrom f (suc q) xs → filter (λ b. eqb (f b) q) xs ≡ []
none-equal f q [] a = refl
none-equal f q (x ∷ xs) a = let t : eqb (f x) q ≡ false = ne_eqb _ _ (λ e. omega (arith, e, a.0)) in rw t (none-equal f q xs a.1)

-- those below n, and those that are n, are those below n + 1
one-more : (f : BodyValue → ℕ) (n : ℕ) (xs : List BodyValue) → Climbs f xs → filter (λ b. ltb (f b) n) xs ++ filter (λ b. eqb (f b) n) xs ≡ filter (λ b. ltb (f b) (suc n)) xs
one-more f n [] c = refl
one-more f n (x ∷ xs) c = elim (cases_lt (f x) n) [
  | inl p ↦
      let a : ltb (f x) n ≡ true = lt-ltb _ _ p in
      let b : eqb (f x) n ≡ false = ne_eqb _ _ (λ e. omega (arith, e, p)) in
      let d : ltb (f x) (suc n) ≡ true = lt-ltb _ _ (omega (arith, p)) in
      rw (a, b, d) (ap (λ (ys : List BodyValue). x ∷ ys) (one-more f n xs c.1))
  | inr p ↦
      let a : ltb (f x) n ≡ false = le-ltb _ _ p in
      let low = none-kept f n xs (from_less f n (f x) xs p c.0) in
      elim (cases_lt (f x) (suc n)) [
        | inl r ↦
            let b : eqb (f x) n ≡ true = eq-eqb _ _ (omega (arith, p, r)) in
            let d : ltb (f x) (suc n) ≡ true = lt-ltb _ _ r in
            let rest = one-more f n xs c.1 in
            let tail : filter (λ b. eqb (f b) n) xs ≡ filter (λ b. ltb (f b) (suc n)) xs = rw low at rest in
            rw (a, b, d, low) (ap (λ (ys : List BodyValue). x ∷ ys) tail)
        | inr r ↦
            let b : eqb (f x) n ≡ false = ne_eqb _ _ (λ e. omega (arith, e, r)) in
            let d : ltb (f x) (suc n) ≡ false = le-ltb _ _ r in
            let over = from_less f (suc n) (f x) xs r c.0 in
            rw (a, b, d, low, none-equal f n xs over, none-kept f (suc n) xs over) refl
      ]
]

none-below_zero : (f : BodyValue → ℕ) (xs : List BodyValue) → filter (λ b. ltb (f b) 0) xs ≡ []
none-below_zero f [] = refl
none-below_zero f (x ∷ xs) = let t : ltb (f x) 0 ≡ false = le-ltb _ _ (omega arith) in rw t (none-below_zero f xs)

all-below : (f : BodyValue → ℕ) (n : ℕ) (xs : List BodyValue) → ((b : BodyValue) → Contains xs b → f b < n) → filter (λ b. ltb (f b) n) xs ≡ xs
all-below f n [] h = refl
all-below f n (x ∷ xs) h = let t : ltb (f x) n ≡ true = lt-ltb _ _ (h x (head_has x xs)) in rw t (ap (λ (ys : List BodyValue). x ∷ ys) (all-below f n xs (λ b k. h b (tail_has x xs b k))))

-- in a good world ranks never fall along the keys
ranks_from : (w : World) (x : BodyValue) (xs : List BodyValue) → IsGood w → Contains w.bodies x → ((b : BodyValue) → Contains xs b → Contains w.bodies b) → NoneBelow (key_of_body x) xs → AllFrom (rank_of w) (rank_of w x) xs
ranks_from w x [] g m sub h = tt
ranks_from w x (y ∷ xs) g m sub h = (g.rising x y m (sub y (head_has y xs)) h.0, ranks_from w x xs g m (λ b k. sub b (tail_has y xs b k)) h.1)

ranks_climb : (w : World) (xs : List BodyValue) → IsGood w → ((b : BodyValue) → Contains xs b → Contains w.bodies b) → Rising xs → Climbs (rank_of w) xs
ranks_climb w [] g sub h = tt
ranks_climb w (x ∷ xs) g sub h = (ranks_from w x xs g (sub x (head_has x xs)) (λ b k. sub b (tail_has x xs b k)) h.0, ranks_climb w xs g (λ b k. sub b (tail_has x xs b k)) h.1)

pieces-below : (w : World) (n : ℕ) → Climbs (rank_of w) w.bodies → bodies_below w n ≡ filter (λ b. ltb (rank_of w b) n) w.bodies
unfolding bodies_below
pieces-below w zero c = sym (none-below_zero (rank_of w) w.bodies)
pieces-below w (suc n) c = ap (λ (ys : List BodyValue). ys ++ piece w n) (pieces-below w n c) ∙ one-more (rank_of w) n w.bodies c

-- the pieces of all ranks are all bodies, in order
pub pieces-all : (w : World) → IsGood w → bodies_below w w.ranks ≡ w.bodies
pieces-all w g =
    pieces-below w w.ranks (ranks_climb w w.bodies g (λ b k. k) (rising_in_order w.bodies g.in_order))
    ∙ all-below (rank_of w) w.ranks w.bodies (λ b k. All-contains (λ b. rank_of w b < w.ranks) w.bodies b g.ranked k)
