-- One step of the pass over the bodies.
use Rattle.std.proofs.Common.{ℕ, zero, suc, ◌≡◌, ◌+◌, ◌-◌, ◌*◌, ◌/◌, ◌<◌, ◌≤◌, Bool, true, false, cond, eqb, ltb, List, [], ◌∷◌, ◌++◌, length, filter, take, drop, sum_by, get_or, sym, refl, ap, subst, ◌∙◌, inl, inr, arith, length-append, replicate, add-one, get_or-set_other, get_or-set_same}
use Rattle.std.specs.Prelude.{All, min, slice_set, if◌then◌else◌}
use Rattle.std.proofs.lemmas.Bool.{cases_eq, le-ltb, lt-ltb, eq-eqb, ne_eqb}
use Rattle.std.proofs.lemmas.List.{take_more, length-set, length-replicate}
use Rattle.std.proofs.lemmas.List.Elements.{All-head, All-tail, All-more, All-weaker, filter-append}
use Rattle.std.proofs.lemmas.List.Sums.{sum_by-cons, sum_by_push, sum_by_more, length-filter, count_by-le-length}
use Rattle.hot_units.specs.Values.{BodyValue}
use Rattle.hot_units.specs.Keys.{key_of_body}
use Rattle.hot_units.specs.Order.{IsInOrder}
use Rattle.hot_units.proofs.Bodies.{sum_filter_le}
use Rattle.hot_model.proofs.Ranges.{Rising, NoneBelow, rising_in_order}
use Rattle.rank_model.specs.World.{rank_of}
use Rattle.rank_model.specs.Split.{weight_in, counted, weight_below, split_rank}
use Rattle.work_split.specs.Splits.{world_by, AreCounts, AreWeights}

-- the sum of the weights that count
ones : (xs : List BodyValue) → sum_by (λ (b : BodyValue). 1) xs ≡ length xs
ones [] = refl
ones (x ∷ xs) = sum_by-cons (λ (b : BodyValue). 1) x xs ∙ omega (arith, ones xs)

abbrev counted_if : Bool → (BodyValue → ℕ) → BodyValue → ℕ
counted_if t w b = cond t 1 (w b)

-- the sum of the weights, or the number of bodies where that is 0, is the sum of those that count
pub whole-is : (w : BodyValue → ℕ) (bodies : List BodyValue) (all whole : ℕ) → all ≡ sum_by w bodies → (all ≡ 0 → whole ≡ length bodies) → ((all ≡ 0 → ⊥) → whole ≡ all) → whole ≡ sum_by (counted w bodies) bodies
whole-is w bodies all whole e none some = elim (cases_eq (sum_by w bodies) 0) [
  | inl z ↦
      let t : eqb (sum_by w bodies) 0 ≡ true = eq-eqb _ _ z in
      none (e ∙ z) ∙ (sym (ones bodies) ∙ sym (ap (λ (v : Bool). sum_by (counted_if v w) bodies) t))
  | inr z ↦
      let t : eqb (sum_by w bodies) 0 ≡ false = ne_eqb _ _ z in
      some (λ h. z (sym e ∙ h)) ∙ (e ∙ sym (ap (λ (v : Bool). sum_by (counted_if v w) bodies) t))
]

-- no body is passed over by a key that none is below
none_light : (w : BodyValue → ℕ) (k : ℕ) (xs : List BodyValue) → NoneBelow k xs → filter (λ b. ltb (key_of_body b) k) xs ≡ []
none_light w k [] h = refl
none_light w k (x ∷ xs) h = let t : ltb (key_of_body x) k ≡ false = le-ltb _ _ h.0 in rw t (none_light w k xs h.1)

-- where a list falls apart at a key, the weight below the key is that of its front
apart : (w : BodyValue → ℕ) (j k i : ℕ) (xs : List BodyValue) → j < k → All (λ b. key_of_body b ≤ j) (take i xs) → NoneBelow k (drop i xs) → weight_below w xs k ≡ sum_by w (take i xs)
apart w j k zero xs h a n = ap (sum_by w) (none_light w k xs n)
apart w j k (suc i) [] h a n = refl
apart w j k (suc i) (x ∷ xs) h a n =
    let low : key_of_body x ≤ j = All-head (λ (b : BodyValue). key_of_body b ≤ j) x (take i xs) a in
    let t : ltb (key_of_body x) k ≡ true = lt-ltb _ _ (omega (arith, low, h)) in
    let rest = apart w j k i xs h (All-tail (λ (b : BodyValue). key_of_body b ≤ j) x (take i xs) a) n in
    rw t (sum_by-cons w x (filter (λ b. ltb (key_of_body b) k) xs) ∙ (omega (arith, rest) ∙ sym (sum_by-cons w x (take i xs))))

none_at : (k i : ℕ) (xs : List BodyValue) (x : BodyValue) → NoneBelow k (drop i xs) → i < length xs → x ≡ get_or xs i x → k ≤ key_of_body x
none_at k i [] x n h e = absurd (omega (arith, h))
none_at k zero (y ∷ ys) x n h e = subst (λ (z : BodyValue). k ≤ key_of_body z) (sym e) n.0
none_at k (suc i) (y ∷ ys) x n h e = none_at k i ys x n (omega (arith, h)) e

-- a body of a rising list has none below it behind it
from_here : (i : ℕ) (xs : List BodyValue) (x : BodyValue) → Rising xs → i < length xs → x ≡ get_or xs i x → NoneBelow (key_of_body x) (drop i xs)
from_here i [] x r h e = absurd (omega (arith, h))
from_here zero (y ∷ ys) x r h e = subst (λ (z : BodyValue). NoneBelow (key_of_body z) (y ∷ ys)) (sym e) (omega arith, r.0)
from_here (suc i) (y ∷ ys) x r h e = from_here i ys x r.1 (omega (arith, h)) e

drop_suc : (k i : ℕ) (xs : List BodyValue) → NoneBelow k (drop i xs) → NoneBelow k (drop (suc i) xs)
drop_suc k zero [] n = tt
drop_suc k (suc i) [] n = tt
drop_suc k zero (x ∷ xs) n = n.1
drop_suc k (suc i) (x ∷ xs) n = drop_suc k i xs n

drop_next : (k i : ℕ) (xs : List BodyValue) → NoneBelow k (drop i xs) → NoneBelow k (drop (i + 1) xs)
drop_next k i xs n = rw (add-one i) (drop_suc k i xs n)

-- behind a body of a list in key order no key is below its own
pub ahead-next : (i : ℕ) (xs : List BodyValue) (x : BodyValue) → IsInOrder xs → i < length xs → x ≡ get_or xs i x → NoneBelow (key_of_body x) (drop (i + 1) xs)
ahead-next i xs x o h e = drop_next (key_of_body x) i xs (from_here i xs x (rising_in_order xs o) h e)

-- the key of the body at hand is at least the last one
pub key-up : (j i : ℕ) (xs : List BodyValue) (x : BodyValue) → NoneBelow j (drop i xs) → i < length xs → x ≡ get_or xs i x → j ≤ key_of_body x
key-up j i xs x n h e = none_at j i xs x n h e

-- all that were passed have at most the key of the body at hand
pub passed-next : (j i : ℕ) (xs : List BodyValue) (x : BodyValue) → NoneBelow j (drop i xs) → i < length xs → x ≡ get_or xs i x → All (λ b. key_of_body b ≤ j) (take i xs) → All (λ b. key_of_body b ≤ key_of_body x) (take (i + 1) xs)
passed-next j i xs x n h e a =
    let up = none_at j i xs x n h e in
    let P : BodyValue → Type 0 = λ b. key_of_body b ≤ key_of_body x in
    let last : P (get_or xs i x) = subst P e (omega arith) in
    All-more P xs i x h (All-weaker (λ (b : BodyValue). key_of_body b ≤ j) P (λ b l. omega (arith, l, up)) (take i xs) a) last

-- the rank of a body with a new key, by the running sum
pub rank-next : (w : BodyValue → ℕ) (bodies : List BodyValue) (ranks whole before rank j k i : ℕ) (x : BodyValue) → IsInOrder bodies → i < length bodies → x ≡ get_or bodies i x → key_of_body x ≡ k → (k ≡ j → ⊥) → NoneBelow j (drop i bodies) → All (λ b. key_of_body b ≤ j) (take i bodies) → whole ≡ sum_by (counted w bodies) bodies → before ≡ sum_by (counted w bodies) (take i bodies) → rank ≡ min (ranks - 1) (before * ranks / whole) → rank ≡ split_rank w bodies ranks k
unfolding split_rank
rank-next w bodies ranks whole before rank j k i x o h at key other ahead passed all so_far e =
    let up = none_at j i bodies x ahead h at in
    let less : j < key_of_body x = omega (arith, up, key, other) in
    let b : before ≡ weight_below (counted w bodies) bodies (key_of_body x) =
    so_far ∙ sym (apart (counted w bodies) j (key_of_body x) i bodies less passed (from_here i bodies x (rising_in_order bodies o) h at)) in
    let c : before ≡ weight_below (counted w bodies) bodies k = b ∙ ap (λ (n : ℕ). weight_below (counted w bodies) bodies n) key in
    e ∙ (ap (λ (n : ℕ). min (ranks - 1) (n * ranks / whole)) c ∙ ap (λ (n : ℕ). min (ranks - 1) (weight_below (counted w bodies) bodies k * ranks / n)) all)

-- key 0 is of rank 0
pub rank-first : (w : BodyValue → ℕ) (bodies : List BodyValue) (ranks : ℕ) → 0 ≡ split_rank w bodies ranks 0
unfolding split_rank
rank-first w bodies ranks =
    let z : weight_below (counted w bodies) bodies 0 ≡ 0 = ap (sum_by (counted w bodies)) (none_light (counted w bodies) 0 bodies (from_zero bodies)) in
    sym (ap (λ (n : ℕ). min (ranks - 1) (n * ranks / sum_by (counted w bodies) bodies)) z ∙ omega arith)
  where
    from_zero : (xs : List BodyValue) → NoneBelow 0 xs
    from_zero [] = tt
    from_zero (x ∷ xs) = (omega arith, from_zero xs)

-- no key is below 0
pub ahead-first : (xs : List BodyValue) → NoneBelow 0 xs
ahead-first [] = tt
ahead-first (x ∷ xs) = (omega arith, ahead-first xs)

-- one body more in a table by rank
kept-in : (p : BodyValue → Bool) (xs : List BodyValue) (i : ℕ) (x : BodyValue) → i < length xs → x ≡ get_or xs i x → filter p (take (i + 1) xs) ≡ filter p (take i xs) ++ filter p (x ∷ [])
kept-in p xs i x h e = ap (filter p) (take_more xs i x h ∙ ap (λ (y : BodyValue). take i xs ++ y ∷ []) (sym e)) ∙ filter-append p (take i xs) (x ∷ [])

kept-yes : (p : BodyValue → Bool) (x : BodyValue) → p x ≡ true → filter p (x ∷ []) ≡ x ∷ []
kept-yes p x t = rw t refl

kept-no : (p : BodyValue → Bool) (ys : List BodyValue) (x : BodyValue) → p x ≡ false → ys ++ filter p (x ∷ []) ≡ ys
kept-no p ys x t = rw t (append-[] ys)
  where
    append-[] : (zs : List BodyValue) → zs ++ [] ≡ zs
    append-[] [] = refl
    append-[] (z ∷ zs) = ap (λ (us : List BodyValue). z ∷ us) (append-[] zs)

-- a body added to the entry of its rank makes the table that of one body more
pub table-next : (f : BodyValue → ℕ) (m : List BodyValue → ℕ) (n : ℕ) (xs : List BodyValue) (i : ℕ) (x : BodyValue) (cs : List ℕ) (rank v : ℕ) → i < length xs → x ≡ get_or xs i x → ((ys : List BodyValue) → m (ys ++ x ∷ []) ≡ m ys + n) → rank ≡ f x → rank < length cs → v ≡ get_or cs rank 0 + n → ((q : ℕ) → get_or cs q 0 ≡ m (filter (λ b. eqb (f b) q) (take i xs))) → (q : ℕ) → get_or (slice_set cs rank v) q 0 ≡ m (filter (λ b. eqb (f b) q) (take (i + 1) xs))
table-next f m n xs i x cs rank v h at more is inside e old q = elim (cases_eq q rank) [
  | inl s ↦
      let t : eqb (f x) rank ≡ true = eq-eqb _ _ (sym is) in
      let same : get_or (slice_set cs rank v) rank 0 ≡ m (filter (λ b. eqb (f b) rank) (take (i + 1) xs)) =
      get_or-set_same cs rank v 0 inside
      ∙ (e
      ∙ (ap (λ (k : ℕ). k + n) (old rank)
      ∙ (sym (more (filter (λ b. eqb (f b) rank) (take i xs)))
      ∙ ap m (sym (kept-in (λ b. eqb (f b) rank) xs i x h at ∙ ap (λ (ys : List BodyValue). filter (λ b. eqb (f b) rank) (take i xs) ++ ys) (kept-yes (λ b. eqb (f b) rank) x t)))))) in
      subst (λ (r : ℕ). get_or (slice_set cs rank v) r 0 ≡ m (filter (λ b. eqb (f b) r) (take (i + 1) xs))) (sym s) same
  | inr s ↦
      let t : eqb (f x) q ≡ false = ne_eqb _ _ (λ g. s (omega (arith, g, is))) in
      get_or-set_other cs rank q v 0 s
      ∙ (old q ∙ ap m (sym (kept-in (λ b. eqb (f b) q) xs i x h at ∙ kept-no (λ b. eqb (f b) q) (filter (λ b. eqb (f b) q) (take i xs)) x t)))
]

-- with one added at the rank of the next body the counts are those of one body more
pub counts-next : (bodies : List BodyValue) (weights : List ℕ) (ranks i : ℕ) (x : BodyValue) (cs : List ℕ) (rank v : ℕ) → i < length bodies → x ≡ get_or bodies i x → rank ≡ rank_of (world_by bodies weights ranks) x → rank < ranks → v ≡ get_or cs rank 0 + 1 → AreCounts bodies weights ranks (take i bodies) cs → AreCounts bodies weights ranks (take (i + 1) bodies) (slice_set cs rank v)
counts-next bodies weights ranks i x cs rank v h at is inside e old = record {
  each = length-set cs rank v ∙ old.each;
  counts_are = table-next (λ b. rank_of (world_by bodies weights ranks) b) (λ ys. length ys) 1 bodies i x cs rank v h at (λ ys. length-append ys (x ∷ [])) is (omega (arith, inside, old.each)) e old.counts_are;
}

-- with its weight added at the rank of the next body the weights are those of one body more
pub sums-next : (bodies : List BodyValue) (weights : List ℕ) (ranks i : ℕ) (x : BodyValue) (cs : List ℕ) (rank v : ℕ) → i < length bodies → x ≡ get_or bodies i x → rank ≡ rank_of (world_by bodies weights ranks) x → rank < ranks → v ≡ get_or cs rank 0 + counted (weight_in weights) bodies x → AreWeights bodies weights ranks (take i bodies) cs → AreWeights bodies weights ranks (take (i + 1) bodies) (slice_set cs rank v)
sums-next bodies weights ranks i x cs rank v h at is inside e old = record {
  each = length-set cs rank v ∙ old.each;
  sums_are = table-next (λ b. rank_of (world_by bodies weights ranks) b) (sum_by (counted (weight_in weights) bodies)) (counted (weight_in weights) bodies x) bodies i x cs rank v h at (λ ys. sum_by_push (counted (weight_in weights) bodies) ys x) is (omega (arith, inside, old.each)) e old.sums_are;
}

-- no count is above the number of bodies, and no weight above that of all
pub count-within : (bodies : List BodyValue) (weights : List ℕ) (ranks q : ℕ) (xs : List BodyValue) (cs : List ℕ) → AreCounts bodies weights ranks xs cs → get_or cs q 0 ≤ length xs
count-within bodies weights ranks q xs cs h =
    let p = λ (b : BodyValue). eqb (rank_of (world_by bodies weights ranks) b) q in
    omega (arith, h.counts_are q, length-filter p xs, count_by-le-length p xs)

-- no rank's weight is above that of all bodies of the list
pub sum-within : (bodies : List BodyValue) (weights : List ℕ) (ranks q : ℕ) (xs : List BodyValue) (cs : List ℕ) → AreWeights bodies weights ranks xs cs → get_or cs q 0 ≤ sum_by (counted (weight_in weights) bodies) xs
sum-within bodies weights ranks q xs cs h =
    let p = λ (b : BodyValue). eqb (rank_of (world_by bodies weights ranks) b) q in
    omega (arith, h.sums_are q, sum_filter_le (counted (weight_in weights) bodies) p xs)

-- the front of a list is no longer than the list
pub take-short : (i : ℕ) (xs : List BodyValue) → length (take i xs) ≤ length xs
take-short zero xs = omega arith
take-short (suc i) [] = omega arith
take-short (suc i) (x ∷ xs) = omega (arith, take-short i xs)

-- nothing is counted yet
abbrev zeros : ℕ → List ℕ
zeros n = replicate n 0

all-zero : (n q : ℕ) → get_or (zeros n) q 0 ≡ 0
all-zero zero q = refl
all-zero (suc n) zero = refl
all-zero (suc n) (suc q) = all-zero n q

-- zeros are the counts of no bodies
pub counts-first : (bodies : List BodyValue) (weights : List ℕ) (ranks : ℕ) (cs : List ℕ) → cs ≡ replicate ranks 0 → AreCounts bodies weights ranks [] cs
counts-first bodies weights ranks cs e = record {
  each = ap (λ (xs : List ℕ). length xs) e ∙ length-replicate ranks 0;
  counts_are = λ q. ap (λ (xs : List ℕ). get_or xs q 0) e ∙ all-zero ranks q;
}

-- zeros are the weights of no bodies
pub sums-first : (bodies : List BodyValue) (weights : List ℕ) (ranks : ℕ) (cs : List ℕ) → cs ≡ replicate ranks 0 → AreWeights bodies weights ranks [] cs
sums-first bodies weights ranks cs e = record {
  each = ap (λ (xs : List ℕ). length xs) e ∙ length-replicate ranks 0;
  sums_are = λ q. ap (λ (xs : List ℕ). get_or xs q 0) e ∙ all-zero ranks q;
}

-- the weight of the body at hand
pub weight-is : (w : BodyValue → ℕ) (bodies : List BodyValue) (all : ℕ) (x : BodyValue) (n : ℕ) → all ≡ sum_by w bodies → n ≡ (if eqb all 0 then 1 else w x) → n ≡ counted w bodies x
weight-is w bodies all x n e h = h ∙ ap (λ (z : ℕ). if eqb z 0 then 1 else w x) e

-- the weight of the bodies passed and that of the next are those of one body more
pub before-next : (w : BodyValue → ℕ) (bodies : List BodyValue) (i before n : ℕ) (x : BodyValue) → i < length bodies → x ≡ get_or bodies i x → n ≡ counted w bodies x → before ≡ sum_by (counted w bodies) (take i bodies) → before + n ≡ sum_by (counted w bodies) (take (i + 1) bodies)
before-next w bodies i before n x h at e b =
    let step = sum_by_more (counted w bodies) bodies i x h in
    let here : counted w bodies x ≡ counted w bodies (get_or bodies i x) = ap (counted w bodies) at in
    omega (arith, step, here, e, b)
