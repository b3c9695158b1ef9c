-- What a cell is for a rank, in the words of owners and top cells.
use Rattle.std.proofs.Common.{ℕ, ◌≡◌, ◌<◌, Bool, true, false, eqb, leb, length, sym, refl, ap, ◌∙◌, subst, inl, inr, arith}
use Rattle.std.specs.Prelude.{◌⊎◌, ◌≢◌, not, ◌&&◌, ◌||◌, ◌↔◌, if◌then◌else◌}
use Rattle.std.proofs.lemmas.Bool.{cases_eq, eq-eqb, ne_eqb}
use Rattle.hot_units.specs.Keys.{HasLevel, level, IsCell}
use Rattle.hot_units.proofs.Digits.{level-is}
use Rattle.rank_model.specs.World.{World, bodies_in, is_leaf}
use Rattle.rank_model.specs.Branches.{first_rank, one_rank, IsOfRank, IsOwner, IsTop, is_top}
use Rattle.rank_model.specs.Needs.{part_of, is_away, IsForeign, part_by}
use Rattle.rank_model.specs.declared.part.Part.TheVariants.{Away, Inner, Spread, Leaf}
use Rattle.rank_model.specs.declared.part.Part.{Part}
use Rattle.rank_model.proofs.Owners.{test_own, one_of_own, first_of_own, owned_of_own, own_of_owned, top_of_test, test_of_top}

-- the leaf test at a known level
pub leaf_deepest : (w : World) (c : ℕ) → HasLevel c 21 → is_leaf w c ≡ true
leaf_deepest w c h =
    let e : eqb (level c) 21 ≡ true = eq-eqb _ _ (level-is c 21 (omega arith) h) in
    rw e (elim (leb (length (bodies_in w c)) w.leaf) as (λ (t : Bool). (t || true) ≡ true) [ true ↦ refl | false ↦ refl ])

-- above the deepest level a cell is a leaf exactly where its bodies are within the leaf limit
pub leaf_above : (w : World) (c l : ℕ) → l < 21 → HasLevel c l → is_leaf w c ≡ leb (length (bodies_in w c)) w.leaf
leaf_above w c l n h =
    let e : level c ≡ l = level-is c l (omega (arith, n)) h in
    let f : eqb (level c) 21 ≡ false = ne_eqb _ _ (λ g. omega (arith, e, g, n)) in
    rw f (elim (leb (length (bodies_in w c)) w.leaf) as (λ (t : Bool). (t || false) ≡ t) [ true ↦ refl | false ↦ refl ])

-- the part by the three tests
abbrev away_by : Bool → ℕ → ℕ → Bool
away_by one q me = one && not (eqb q me)

-- a cell whose bodies are all of one other rank is `Away`, at the rank of its first body
pub part_away : (w : World) (me c : ℕ) → is_away w me c ≡ true → part_of w me c ≡ Away (first_rank w (bodies_in w c))
part_away w me c h = rw h refl

-- any other is `Inner` if no leaf, else `Leaf` if its bodies are of one rank, else `Spread`
pub part_here : (w : World) (me c : ℕ) → is_away w me c ≡ false → part_of w me c ≡ (if is_leaf w c then (if one_rank w (bodies_in w c) then Leaf else Spread) else Inner)
part_here w me c h = rw h refl

away_tests : (one : Bool) (q me : ℕ) → away_by one q me ≡ true → (one ≡ true) × (q ≢ me)
away_tests true q me h = (refl, λ e. (let f : eqb q me ≡ true = eq-eqb _ _ e in let g : false ≡ true = rw f at h in cc))
away_tests false q me h = absurd (let e : false ≡ true = h in cc)

tests_away : (one : Bool) (q me : ℕ) → one ≡ true → q ≢ me → away_by one q me ≡ true
tests_away one q me h n = rw (h, ne_eqb _ _ n) refl

-- of another rank: all bodies are of one rank that is not this one
pub away_own : (w : World) (me c : ℕ) → is_away w me c ≡ true → IsOfRank w (first_rank w (bodies_in w c)) c × (first_rank w (bodies_in w c) ≢ me)
away_own w me c h =
    let t = away_tests (one_rank w (bodies_in w c)) (first_rank w (bodies_in w c)) me h in
    (test_own w (first_rank w (bodies_in w c)) (bodies_in w c) t.0, t.1)

-- a cell with bodies, all of one rank that is not this one, is of another rank
pub own_away : (w : World) (me q c : ℕ) → 0 < length (bodies_in w c) → IsOfRank w q c → q ≢ me → is_away w me c ≡ true
own_away w me q c s a n =
    tests_away (one_rank w (bodies_in w c)) (first_rank w (bodies_in w c)) me (one_of_own w q (bodies_in w c) s a) (λ e. n (sym (first_of_own w q (bodies_in w c) s a) ∙ e))

-- the same with owners
pub away_foreign : (w : World) (me c : ℕ) → IsCell c → 0 < length (bodies_in w c) → is_away w me c ≡ true → IsForeign w me c
away_foreign w me c i s h =
    let a = away_own w me c h in
    (first_rank w (bodies_in w c), owned_of_own w (first_rank w (bodies_in w c)) c i.0 i.1 i.2 s a.0, a.1)

-- a cell with bodies that has another rank for its owner is of another rank
pub foreign_away : (w : World) (me c : ℕ) → IsCell c → 0 < length (bodies_in w c) → IsForeign w me c → is_away w me c ≡ true
foreign_away w me c i s f = own_away w me f.0 c s (own_of_owned w f.0 c i f.1) f.2

part_cases : (away : Bool) (q : ℕ) (leaf one : Bool) (p : Part) → (if away then Away q else (if leaf then (if one then Leaf else Spread) else Inner)) ≡ p → ((away ≡ true) × (p ≡ Away q)) ⊎ (((away ≡ false) × (leaf ≡ true) × (one ≡ true) × (p ≡ Leaf)) ⊎ (((away ≡ false) × (leaf ≡ true) × (one ≡ false) × (p ≡ Spread)) ⊎ ((away ≡ false) × (leaf ≡ false) × (p ≡ Inner))))
part_cases true q leaf one p e = inl (refl, sym e)
part_cases false q true true p e = inr (inl (refl, refl, refl, sym e))
part_cases false q true false p e = inr (inr (inl (refl, refl, refl, sym e)))
part_cases false q false one p e = inr (inr (inr (refl, refl, sym e)))

-- the part is `Away`, at the rank q
abbrev pub is_away_part : Part → ℕ → Type 0
is_away_part (Away p) q = p ≡ q
is_away_part Inner q = ⊥
is_away_part Spread q = ⊥
is_away_part Leaf q = ⊥

away_same : (p q : ℕ) → Away p ≡ Away q → p ≡ q
away_same p q e = subst (λ (x : Part). is_away_part x q) (sym e) refl

-- `Away q` exactly where the cell lies in or is a branch of the other rank q
pub away-is : (w : World) (me q c : ℕ) → IsCell c → 0 < length (bodies_in w c) → (part_of w me c ≡ Away q) ↔ (IsOwner w q c × (q ≢ me))
away-is w me q c i s = (to, from)
  where
    to : part_of w me c ≡ Away q → IsOwner w q c × (q ≢ me)
    to e =
        elim (part_cases (is_away w me c) (first_rank w (bodies_in w c)) (is_leaf w c) (one_rank w (bodies_in w c)) (Away q) e) [
          | inl h ↦
              let same : q ≡ first_rank w (bodies_in w c) = away_same q (first_rank w (bodies_in w c)) h.1 in
              let a = away_own w me c h.0 in
              let o = owned_of_own w (first_rank w (bodies_in w c)) c i.0 i.1 i.2 s a.0 in
              (subst (λ (n : ℕ). IsOwner w n c) (sym same) o, λ g. a.1 (sym same ∙ g))
          | inr h ↦ absurd (elim h [
            | inl k ↦ let g : Away q ≡ Leaf = k.3 in cc
            | inr k ↦ elim k [
              | inl m ↦ let g : Away q ≡ Spread = m.3 in cc
              | inr m ↦ let g : Away q ≡ Inner = m.2 in cc
            ]
          ])
        ]

    from : IsOwner w q c × (q ≢ me) → part_of w me c ≡ Away q
    from h =
        let own = own_of_owned w q c i h.0 in
        part_away w me c (own_away w me q c s own h.1) ∙ ap Away (first_of_own w q (bodies_in w c) s own)

-- `Spread` exactly where the cell is a leaf with bodies of several ranks
pub spread-is : (w : World) (me c : ℕ) → IsCell c → (part_of w me c ≡ Spread) ↔ (IsTop w c × (is_leaf w c ≡ true))
spread-is w me c i = (to, from)
  where
    to : part_of w me c ≡ Spread → IsTop w c × (is_leaf w c ≡ true)
    to e =
        elim (part_cases (is_away w me c) (first_rank w (bodies_in w c)) (is_leaf w c) (one_rank w (bodies_in w c)) Spread e) [
          | inl h ↦ absurd (let g : Spread ≡ Away (first_rank w (bodies_in w c)) = h.1 in cc)
          | inr h ↦ elim h [
            | inl k ↦ absurd (let g : Spread ≡ Leaf = k.3 in cc)
            | inr k ↦ elim k [
              | inl m ↦ (top_of_test w c i (rw m.2 refl), m.1)
              | inr m ↦ absurd (let g : Spread ≡ Inner = m.2 in cc)
            ]
          ]
        ]

    from : IsTop w c × (is_leaf w c ≡ true) → part_of w me c ≡ Spread
    from h =
        let t : is_top w c ≡ true = test_of_top w c h.0 in
        elim (one_rank w (bodies_in w c)) as (λ (o : Bool). not o ≡ true → part_by o (first_rank w (bodies_in w c)) me (is_leaf w c) ≡ Spread) [
          | true ↦ λ f. absurd (let g : false ≡ true = f in cc)
          | false ↦ λ f. rw (h.1) refl
        ] t

-- `Leaf` exactly where it is a leaf all of whose bodies are of this rank
pub leaf-is : (w : World) (me c : ℕ) → 0 < length (bodies_in w c) → (part_of w me c ≡ Leaf) ↔ (IsOfRank w me c × (is_leaf w c ≡ true))
leaf-is w me c s = (to, from)
  where
    mine : (one : Bool) (q : ℕ) → one ≡ true → away_by one q me ≡ false → q ≡ me
    mine one q h k =
        elim (cases_eq q me) [
          | inl e ↦ e
          | inr n ↦ absurd (let f : true ≡ false = sym (tests_away one q me h n) ∙ k in cc)
        ]

    to : part_of w me c ≡ Leaf → IsOfRank w me c × (is_leaf w c ≡ true)
    to e =
        elim (part_cases (is_away w me c) (first_rank w (bodies_in w c)) (is_leaf w c) (one_rank w (bodies_in w c)) Leaf e) [
          | inl h ↦ absurd (let g : Leaf ≡ Away (first_rank w (bodies_in w c)) = h.1 in cc)
          | inr h ↦ elim h [
            | inl k ↦ (subst (λ (n : ℕ). IsOfRank w n c) (mine (one_rank w (bodies_in w c)) (first_rank w (bodies_in w c)) k.2 k.0) (test_own w (first_rank w (bodies_in w c)) (bodies_in w c) k.2), k.1)
            | inr k ↦ absurd (elim k [
              | inl m ↦ let g : Leaf ≡ Spread = m.3 in cc
              | inr m ↦ let g : Leaf ≡ Inner = m.2 in cc
            ])
          ]
        ]

    from : IsOfRank w me c × (is_leaf w c ≡ true) → part_of w me c ≡ Leaf
    from h =
        let o = one_of_own w me (bodies_in w c) s h.0 in
        let f : eqb (first_rank w (bodies_in w c)) me ≡ true = eq-eqb _ _ (first_of_own w me (bodies_in w c) s h.0) in
        rw (o, f, h.1) refl

-- `Inner` exactly where it is no leaf and not of another rank
pub inner-is : (w : World) (me c : ℕ) → (part_of w me c ≡ Inner) ↔ ((is_leaf w c ≡ false) × (is_away w me c ≡ false))
inner-is w me c = (to, from)
  where
    to : part_of w me c ≡ Inner → (is_leaf w c ≡ false) × (is_away w me c ≡ false)
    to e =
        elim (part_cases (is_away w me c) (first_rank w (bodies_in w c)) (is_leaf w c) (one_rank w (bodies_in w c)) Inner e) [
          | inl h ↦ absurd (let g : Inner ≡ Away (first_rank w (bodies_in w c)) = h.1 in cc)
          | inr h ↦ elim h [
            | inl k ↦ absurd (let g : Inner ≡ Leaf = k.3 in cc)
            | inr k ↦ elim k [
              | inl m ↦ absurd (let g : Inner ≡ Spread = m.3 in cc)
              | inr m ↦ (m.1, m.0)
            ]
          ]
        ]

    from : (is_leaf w c ≡ false) × (is_away w me c ≡ false) → part_of w me c ≡ Inner
    from h = part_here w me c h.1 ∙ rw (h.0) refl
