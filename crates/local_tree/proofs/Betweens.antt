-- The cells between the keys beside a piece.
use Rattle.std.proofs.Common.{ℕ, ◌≡◌, ◌<◌, ◌≤◌, true, ltb, length, map, filter, refl, subst, inl, inr, arith, Option, Some, None}
use Rattle.std.specs.Prelude.{Contains, IfSome}
use Rattle.std.proofs.lemmas.Bool.{cases_lt, lt-ltb}
use Rattle.hot_units.specs.Values.{BodyValue}
use Rattle.hot_units.specs.Keys.{IsCell, key_of_body, contains}
use Rattle.hot_units.proofs.Members.{all_members, some_member, map_has, filter_has}
use Rattle.hot_units.proofs.Numbers.{greatest_over, least_under}
use Rattle.hot_model.proofs.Parts.{has_inside, inside_has}
use Rattle.hot_model.proofs.Fronts.{body_level}
use Rattle.rank_model.specs.World.{World, IsGood, rank_of, bodies_in, left_of, right_of}
use Rattle.rank_model.specs.Branches.{IsOfRank}
use Rattle.rank_model.proofs.Owners.{rank_in_own}
use Rattle.rank_model.proofs.Homes.{left_body, right_body, lower_first}
use Rattle.morton_key.specs.Ranges.{first_key, last_key}
use Rattle.morton_key.proofs.KeyLaws.{range_of_a_cell}
use Rattle.local_tree.specs.Pieces.{IsBetween}
use Rattle.local_tree.specs.Laws.{OwnCellsAreBetween}

-- the key of a body in a cell is from the first to the last
key_between : (c : ℕ) (b : BodyValue) → IsCell c → contains c b ≡ true → (first_key c ≤ key_of_body b) × (key_of_body b ≤ last_key c)
key_between c b i e = (range_of_a_cell c (key_of_body b) i (body_level b)).0 e

-- what holds of the key that an option has
of_some : (P : ℕ → Type 0) (o : Option ℕ) (k : ℕ) → IfSome o P → o ≡ Some k → P k
of_some P o k h e = subst (λ (z : Option ℕ). IfSome z P) e h

by_some : (P : ℕ → Type 0) (o : Option ℕ) → ((k : ℕ) → o ≡ Some k → P k) → IfSome o P
by_some P None h = tt
by_some P (Some k) h = h k refl

-- a body of a lower rank is at most the left key, one of a higher rank at least the right one
left_over : (w : World) (q : ℕ) (b : BodyValue) → Contains w.bodies b → rank_of w b < q → (k : ℕ) × (left_of w q ≡ Some k) × (key_of_body b ≤ k)
left_over w q b h n =
    let below = filter (λ z. ltb (rank_of w z) q) w.bodies in
    greatest_over (map key_of_body below) (key_of_body b) (map_has key_of_body below b (filter_has (λ z. ltb (rank_of w z) q) w.bodies b h (lt-ltb _ _ n)))

right_under : (w : World) (q : ℕ) (b : BodyValue) → Contains w.bodies b → q < rank_of w b → (k : ℕ) × (right_of w q ≡ Some k) × (k ≤ key_of_body b)
right_under w q b h n =
    let above = filter (λ z. ltb q (rank_of w z)) w.bodies in
    least_under (map key_of_body above) (key_of_body b) (map_has key_of_body above b (filter_has (λ z. ltb q (rank_of w z)) w.bodies b h (lt-ltb _ _ n)))

between_own : (w : World) (q c : ℕ) → IsCell c → IsBetween (left_of w q) (right_of w q) c → IsOfRank w q c
between_own w q c i h = all_members (λ b. rank_of w b ≡ q) (bodies_in w c) (λ b m. same_rank b (has_inside w.bodies c b m))
  where
    same_rank : (b : BodyValue) → Contains w.bodies b × (contains c b ≡ true) → rank_of w b ≡ q
    same_rank b m =
        let k = key_between c b i m.1 in
        elim (cases_lt (rank_of w b) q) [
          | inl n ↦
              let l = left_over w q b m.0 n in
              let p : l.0 < first_key c = of_some (λ z. z < first_key c) (left_of w q) l.0 h.above l.1 in
              absurd (omega (arith, l.2, p, k.0))
          | inr n ↦ elim (cases_lt q (rank_of w b)) [
            | inl g ↦
                let r = right_under w q b m.0 g in
                let p : last_key c < r.0 = of_some (λ z. last_key c < z) (right_of w q) r.0 h.below r.1 in
                absurd (omega (arith, r.2, p, k.1))
            | inr g ↦ omega (arith, n, g)
          ]
        ]

-- a body in a cell of one rank is of this rank
no_other : (w : World) (q c : ℕ) (b : BodyValue) → IsCell c → IsOfRank w q c → Contains w.bodies b → first_key c ≤ key_of_body b → key_of_body b ≤ last_key c → rank_of w b ≡ q
no_other w q c b i own m low high =
    let e : contains c b ≡ true = (range_of_a_cell c (key_of_body b) i (body_level b)).1 (low, high) in
    rank_in_own w q c b own (inside_has w.bodies c b m e)

own_between : (w : World) (q c : ℕ) → IsGood w → IsCell c → 0 < length (bodies_in w c) → IsOfRank w q c → IsBetween (left_of w q) (right_of w q) c
own_between w q c g i some own = record {
  above = by_some (λ k. k < first_key c) (left_of w q) over;
  below = by_some (λ k. last_key c < k) (right_of w q) under;
}
  where
    member : (x : BodyValue) × Contains (bodies_in w c) x
    member = some_member (bodies_in w c) some

    over : (k : ℕ) → left_of w q ≡ Some k → k < first_key c
    over k e =
        let x = member in
        let h = has_inside w.bodies c x.0 x.1 in
        let b = left_body w q k e in
        let rx : rank_of w x.0 ≡ q = rank_in_own w q c x.0 own x.1 in
        let less : key_of_body b.0 < key_of_body x.0 = lower_first w b.0 x.0 g b.1 h.0 (omega (arith, b.2, rx)) in
        let up = key_between c x.0 i h.1 in
        elim (cases_lt k (first_key c)) [
          | inl p ↦ p
          | inr p ↦
              let r : rank_of w b.0 ≡ q = no_other w q c b.0 i own b.1 (omega (arith, p, b.3)) (omega (arith, less, up.1)) in
              absurd (omega (arith, r, b.2))
        ]

    under : (k : ℕ) → right_of w q ≡ Some k → last_key c < k
    under k e =
        let x = member in
        let h = has_inside w.bodies c x.0 x.1 in
        let b = right_body w q k e in
        let rx : rank_of w x.0 ≡ q = rank_in_own w q c x.0 own x.1 in
        let more : key_of_body x.0 < key_of_body b.0 = lower_first w x.0 b.0 g h.0 b.1 (omega (arith, b.2, rx)) in
        let low = key_between c x.0 i h.1 in
        elim (cases_lt (last_key c) k) [
          | inl p ↦ p
          | inr p ↦
              let r : rank_of w b.0 ≡ q = no_other w q c b.0 i own b.1 (omega (arith, more, low.0)) (omega (arith, p, b.3)) in
              absurd (omega (arith, r, b.2))
        ]

-- of a cell with bodies they are those of this rank alone
pub between-is-own : OwnCellsAreBetween
between-is-own w q c g i some = (between_own w q c i, own_between w q c g i some)
