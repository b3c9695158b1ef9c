-- Listed records in Morton order, and the run of those in a cell.
use Rattle.std.proofs.Common.{ℕ, zero, suc, ◌≡◌, ◌+◌, ◌-◌, ◌<◌, ◌≤◌, Bool, true, false, List, [], ◌∷◌, length, get_or, take, filter, sym, refl, ap, ◌∙◌, inl, inr, arith}
use Rattle.std.specs.Prelude.{All, slice_range}
use Rattle.std.specs.List.Sorted.{IsNonDecreasingBy}
use Rattle.std.proofs.lemmas.Bool.{cases_lt}
use Rattle.std.proofs.lemmas.List.{get_or_default}
use Rattle.std.proofs.lemmas.List.Elements.{All-get_or, Contains-get_or}
use Rattle.hot_units.specs.Keys.{IsCell, covers}
use Rattle.morton_key.specs.Ranges.{first_key, last_key}
use Rattle.morton_key.proofs.Numbers.{is_least}
use Rattle.branch_merge.specs.declared.listed.Listed.{Listed}
use Rattle.branch_merge.specs.Merged.{first_of, AreInOrder, AreSorted, NoneAbove, IsCountTo}
use Rattle.branch_merge.proofs.Cells.{covered_range, in_range, first_below_last}

-- what a step of a binary search learns
here : {X : Type 0} (n : X → ℕ) (xs : List X) (m : ℕ) (x d : X) → m < length xs → x ≡ get_or xs m x → n (get_or xs m d) ≡ n x
here n xs m x d h at = ap n (get_or_default xs m d x h ∙ sym at)

-- up to an element with a smaller key all keys are smaller
pub less_upto : {X : Type 0} (n : X → ℕ) (xs : List X) (key m : ℕ) (x : X) → IsNonDecreasingBy n xs → m < length xs → x ≡ get_or xs m x → n x < key → (k : ℕ) (d : X) → k < m + 1 → n (get_or xs k d) < key
less_upto n xs key m x o h at l k d p = omega (arith, o k m d (omega (arith, p)) h, here n xs m x d h at, l)

-- from one with no smaller key on none is smaller
pub more_from : {X : Type 0} (n : X → ℕ) (xs : List X) (key m : ℕ) (x : X) → IsNonDecreasingBy n xs → m < length xs → x ≡ get_or xs m x → key ≤ n x → (k : ℕ) (d : X) → m ≤ k → k < length xs → key ≤ n (get_or xs k d)
more_from n xs key m x o h at l k d p q = omega (arith, o m k d p q, here n xs m x d h at, l)

-- and what its end shows: no element has the key
pub none_here : {X : Type 0} (n : X → ℕ) (xs : List X) (key low : ℕ) (x : X) → IsNonDecreasingBy n xs → ((k : ℕ) (d : X) → k < low → n (get_or xs k d) < key) → ((k : ℕ) (d : X) → low ≤ k → k < length xs → key ≤ n (get_or xs k d)) → low < length xs → x ≡ get_or xs low x → (n x ≡ key → ⊥) → All (λ x. n x ≡ key → ⊥) xs
none_here n xs key low x o u v h at ne k d p same =
    elim (cases_lt k low) [
      | inl q ↦ omega (arith, u k d q, same)
      | inr q ↦
          let least : key ≤ n (get_or xs low d) = v low d (omega arith) h in
          let e = here n xs low x d h at in
          let up : n (get_or xs low d) ≤ n (get_or xs k d) = o low k d q p in
          ne (omega (arith, least, e, up, same))
    ]

-- the same by the first keys of listed records
pub under_upto : (xs : List Listed) (key m : ℕ) (x : Listed) → AreInOrder xs → m < length xs → x ≡ get_or xs m x → first_of x ≤ key → (k : ℕ) (d : Listed) → k < m + 1 → first_of (get_or xs k d) ≤ key
under_upto xs key m x o h at l k d p = let r = less_upto first_of xs (key + 1) m x o h at (omega (arith, l)) k d p in omega (arith, r)

-- and from one that begins behind the key on
pub over_from : (xs : List Listed) (key m : ℕ) (x : Listed) → AreInOrder xs → m < length xs → x ≡ get_or xs m x → key < first_of x → (k : ℕ) (d : Listed) → m ≤ k → k < length xs → key < first_of (get_or xs k d)
over_from xs key m x o h at l k d p q = let r = more_from first_of xs (key + 1) m x o h at (omega (arith, l)) k d p q in omega (arith, r)

-- elements that pass at the places from lo to hi alone
filter_none : {X : Type 0} (p : X → Bool) (xs : List X) → ((k : ℕ) (d : X) → k < length xs → p (get_or xs k d) ≡ false) → filter p xs ≡ []
filter_none p [] out = refl
filter_none p (x ∷ xs) out =
    let t : p x ≡ false = out 0 x (omega arith) in
    rw t (filter_none p xs (λ k d h. out (suc k) d (omega (arith, h))))

filter_front : {X : Type 0} (p : X → Bool) (xs : List X) (n : ℕ) → n ≤ length xs → ((k : ℕ) (d : X) → k < n → p (get_or xs k d) ≡ true) → ((k : ℕ) (d : X) → n ≤ k → k < length xs → p (get_or xs k d) ≡ false) → filter p xs ≡ take n xs
filter_front p xs zero w pass out = filter_none p xs (λ k d h. out k d (omega arith) h)
filter_front p [] (suc n) w pass out = absurd (omega (arith, w))
filter_front p (x ∷ xs) (suc n) w pass out =
    let t : p x ≡ true = pass 0 x (omega arith) in
    let rest = filter_front p xs n (omega (arith, w)) (λ k d h. pass (suc k) d (omega (arith, h))) (λ k d h l. out (suc k) d (omega (arith, h)) (omega (arith, l))) in
    rw t (ap (λ ys. x ∷ ys) rest)

-- a filter that passes a run alone gives the run
pub filter_run : {X : Type 0} (p : X → Bool) (xs : List X) (lo hi : ℕ) → lo ≤ hi → hi ≤ length xs → ((k : ℕ) (d : X) → k < lo → p (get_or xs k d) ≡ false) → ((k : ℕ) (d : X) → lo ≤ k → k < hi → p (get_or xs k d) ≡ true) → ((k : ℕ) (d : X) → hi ≤ k → k < length xs → p (get_or xs k d) ≡ false) → filter p xs ≡ slice_range xs lo hi
filter_run p xs zero hi u w low pass high =
    let e : hi - 0 ≡ hi = omega arith in
    rw e (filter_front p xs hi w (λ k d h. pass k d (omega arith) h) high)
filter_run p [] (suc lo) hi u w low pass high = absurd (omega (arith, u, w))
filter_run p (x ∷ xs) (suc lo) zero u w low pass high = absurd (omega (arith, u))
filter_run p (x ∷ xs) (suc lo) (suc hi) u w low pass high =
    let t : p x ≡ false = low 0 x (omega arith) in
    let e : suc hi - suc lo ≡ hi - lo = omega arith in
    rw (t, e) (filter_run p xs lo hi (omega (arith, u)) (omega (arith, w)) (λ k d h. low (suc k) d (omega (arith, h))) (λ k d h l. pass (suc k) d (omega (arith, h)) (omega (arith, l))) (λ k d h l. high (suc k) d (omega (arith, h)) (omega (arith, l))))

-- a test that cannot be true is false
pub refuted : (b : Bool) → (b ≡ true → ⊥) → b ≡ false
refuted true n = absurd (n refl)
refuted false n = refl

-- the places of the records in a cell
pub record IsRun (xs : List Listed) (c from to : ℕ) : Type 0 where
  pub covered : filter (λ x. covers c x.rec.key) xs ≡ slice_range xs from to
  pub ascending : from ≤ to
  pub within : to ≤ length xs

nothing : Listed
nothing = record { rank = 0; rec = record { key = 0; count = 0; mass = 0; sx = 0; sy = 0; sz = 0; sxx = 0; syy = 0; szz = 0; sxy = 0; sxz = 0; syz = 0 } }

run_ascends : (xs : List Listed) (c from to : ℕ) → IsCell c → IsCountTo xs (first_key c - 1) from → IsCountTo xs (last_key c) to → from ≤ to
run_ascends xs c from to i f t =
    elim (cases_lt to from) [
      | inl less ↦
          let low : first_of (get_or xs to nothing) ≤ first_key c - 1 = f.under to nothing less in
          let high : last_key c < first_of (get_or xs to nothing) = t.over to nothing (omega arith) (omega (arith, less, f.within)) in
          absurd (omega (arith, low, high, first_below_last c i))
      | inr more ↦ more
    ]

-- the records in a cell stand between two places
pub run_is : (xs : List Listed) (c from to : ℕ) → AreSorted xs → IsCell c → NoneAbove xs c → IsCountTo xs (first_key c - 1) from → IsCountTo xs (last_key c) to → IsRun xs c from to
run_is xs c from to s i none f t =
    let up = run_ascends xs c from to i f t in
    let pos : 1 ≤ first_key c = omega (arith, (is_least c i).body.0) in
    let member : (k : ℕ) (d : Listed) → k < length xs → IsCell (get_or xs k d).rec.key = λ k d h. All-get_or (λ (x : Listed). IsCell x.rec.key) xs k d h s.cells in
    record {
      covered = filter_run (λ (x : Listed). covers c x.rec.key) xs from to up t.within
          (λ k d h. refuted (covers c (get_or xs k d).rec.key) (λ e. (let r = covered_range c (get_or xs k d).rec.key i (member k d (omega (arith, h, f.within))) e in
          let l = f.under k d h in omega (arith, r.0, l, pos))))
          (λ k d h l. (let below : k < length xs = omega (arith, l, t.within) in
          let low = f.over k d h below in
          let high = t.under k d l in
          elim (in_range c (get_or xs k d).rec.key i (member k d below) (omega (arith, low)) high) [
            | inl e ↦ e
            | inr a ↦ absurd (none (get_or xs k d) (Contains-get_or xs k d below) a)
          ]))
          (λ k d h l. refuted (covers c (get_or xs k d).rec.key) (λ e. (let r = covered_range c (get_or xs k d).rec.key i (member k d l) e in
          let o = t.over k d h l in omega (arith, r.1, o))));
      ascending = up;
      within = t.within;
    }
