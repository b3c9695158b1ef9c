-- One more body.
use Rattle.std.proofs.Common.{ℕ, zero, suc, Option, ◌≡◌, ◌+◌, ◌-◌, ◌<◌, List, [], ◌∷◌, ◌++◌, length, map, flat_map, refl, ap, sym, ◌∙◌, arith, append-nil, append_assoc}
use Rattle.std.proofs.lemmas.List.{map-append, length-map}
use Rattle.std.proofs.lemmas.Grind.{flat_map-append}
use Rattle.hot_io.specs.Writing.{Passes}
use Rattle.hot_io.proofs.Blocks.{SendsFront, cut_before}
use Rattle.hot_units.specs.Numbers.{numbers_below}
use Rattle.body_set.specs.Sets.{SetValue, set_of_rows, empty_set, with_row}
use Rattle.body_set.proofs.Adding.{bodies-length, rows_add_up}
use Rattle.body_maker.specs.declared.generator.Place.{Place}
use Rattle.body_maker.specs.Generator.{state_past, state_at, place_at, places}
use Rattle.body_maker.specs.Made.{made_cube, made_set, row_of, row_bytes}

-- the list of one number more
pub items-suc : {X : Type 0} (f : ℕ → X) (n : ℕ) → map f (numbers_below (suc n)) ≡ map f (numbers_below n) ++ f n ∷ []
unfolding numbers_below
items-suc f n = map-append f (numbers_below n) (n ∷ [])

items-none : {X : Type 0} (f : ℕ → X) → map f (numbers_below 0) ≡ []
unfolding numbers_below
items-none f = refl

length-numbers : (n : ℕ) → length (numbers_below n) ≡ n
unfolding numbers_below
length-numbers zero = refl
length-numbers (suc n) = one-longer (numbers_below n) n ∙ ap suc (length-numbers n)
  where
    one-longer : (xs : List ℕ) (x : ℕ) → length (xs ++ x ∷ []) ≡ suc (length xs)
    one-longer [] x = refl
    one-longer (y ∷ xs) x = ap suc (one-longer xs x)

-- the generator begins with the seed, and three draws lead to the next body
pub state-none : (seed : ℕ) → seed ≡ state_at seed 0
unfolding state_at
state-none seed = refl

-- the state past the draws of body k is that before the next one
pub state-more : (seed k n state next : ℕ) → state ≡ state_at seed k → next ≡ state_past state → n ≡ suc k → next ≡ state_at seed n
unfolding state_at
state-more seed k n state next s e m = e ∙ ap state_past s ∙ ap (state_at seed) (sym m)

-- the set
pub made-none : (set : SetValue) (seed : ℕ) → set ≡ empty_set made_cube → set ≡ made_set 0 seed
made-none set seed e =
    let rows = items-none (λ k. row_of k (place_at seed k)) in
    e ∙ sym (ap (set_of_rows made_cube) rows ∙ rows_add_up.none made_cube)

-- the set of k bodies with the row of body k is the set of one body more
pub made-more : (old new : SetValue) (seed k n : ℕ) (place : Place) → old ≡ made_set k seed → place ≡ place_at seed k → new ≡ with_row old (row_of k place) → n ≡ suc k → new ≡ made_set n seed
made-more old new seed k n place o p e m =
    let rows : map (λ j. row_of j (place_at seed j)) (numbers_below (suc k)) ≡ map (λ j. row_of j (place_at seed j)) (numbers_below k) ++ row_of k (place_at seed k) ∷ [] = items-suc (λ j. row_of j (place_at seed j)) k in
    let one = rows_add_up.one_more made_cube (map (λ j. row_of j (place_at seed j)) (numbers_below k)) (row_of k (place_at seed k)) in
    e ∙ ap (λ s. with_row s (row_of k place)) o ∙ ap (λ q. with_row (made_set k seed) (row_of k q)) p ∙ one ∙ ap (set_of_rows made_cube) (sym rows) ∙ ap (λ j. made_set j seed) (sym m)

-- the set of k bodies has k bodies
pub made-long : (set : SetValue) (seed k : ℕ) → set ≡ made_set k seed → length set.bodies ≡ k
made-long set seed k e =
    ap (λ (s : SetValue). length s.bodies) e
    ∙ bodies-length made_cube 0 (map (λ j. row_of j (place_at seed j)) (numbers_below k))
    ∙ length-map (numbers_below k) (λ j. row_of j (place_at seed j))
    ∙ length-numbers k

-- the rows of a file
pub rows-none : (seed : ℕ) → flat_map row_bytes (places 0 seed) ≡ []
rows-none seed = ap (flat_map row_bytes) (items-none (place_at seed))

-- the rows of one body more are those of k bodies and, behind them, the row of body k
pub rows-more : (seed k n : ℕ) (place : Place) → place ≡ place_at seed k → n ≡ suc k → flat_map row_bytes (places n seed) ≡ flat_map row_bytes (places k seed) ++ row_bytes place
rows-more seed k n place p m =
    ap (λ j. flat_map row_bytes (places j seed)) m
    ∙ ap (flat_map row_bytes) (items-suc (place_at seed) k)
    ∙ flat_map-append row_bytes (places k seed) (place_at seed k ∷ [])
    ∙ ap (λ l. flat_map row_bytes (places k seed) ++ l) (append-nil (row_bytes (place_at seed k)) ∙ ap row_bytes (sym p))

-- behind the first k rows the others follow
pub rows-front : (seed k n : ℕ) → (d : ℕ) → n ≡ k + d → (rest : List ℕ) × (flat_map row_bytes (places n seed) ≡ flat_map row_bytes (places k seed) ++ rest)
rows-front seed k n zero e = ([], ap (λ j. flat_map row_bytes (places j seed)) (omega (arith, e)) ∙ sym (append-nil (flat_map row_bytes (places k seed))))
rows-front seed k n (suc d) e =
    let p = rows-front seed k (k + d) d refl in
    let m : n ≡ suc (k + d) = omega (arith, e) in (
      p.0 ++ row_bytes (place_at seed (k + d)),
      rows-more seed (k + d) n (place_at seed (k + d)) refl m ∙ ap (λ l. l ++ row_bytes (place_at seed (k + d))) p.1 ∙ append_assoc (flat_map row_bytes (places k seed)) p.0 (row_bytes (place_at seed (k + d))),
    )

-- a front of the rows before a body was sent
pub cut-rows : (seed k n : ℕ) (a b c : Option (List ℕ)) (h i : List ℕ) → k < n
    → Passes a h b i (flat_map row_bytes (places k seed)) → SendsFront b i c [] → SendsFront a h c (flat_map row_bytes (places n seed))
cut-rows seed k n a b c h i lt =
    let rest = rows-front seed k n (n - k) (omega (arith, lt)) in
    cut_before a b c h i (flat_map row_bytes (places n seed)) (flat_map row_bytes (places k seed)) rest.0 rest.1
