-- Going over a list in order finds each cell that lies in another one.
use Rattle.std.proofs.Common.{◌≡◌, ℕ, zero, suc, ◌+◌, ◌-◌, ◌*◌, ◌/◌, ◌^◌, ◌<◌, ◌≤◌, Bool, true, false, not, ltb, leb, eqb, ◌&&◌, ◌||◌, ◌⊎◌, List, [], ◌∷◌, map, add-one, refl, sym, subst, ◌∙◌, arith, inl, inr}
use Rattle.std.specs.List.{AllByRecursion, list_all}
use Rattle.std.proofs.Math.Nat.{le-div_iff_mul-le, div-mul-le_self, lt-div-mul-add}
use Rattle.std.proofs.lemmas.Nat.{pow-add, mul-le}
use Rattle.std.proofs.lemmas.Bool.{cases_lt, le-leb, lt-ltb, le-ltb, eq-eqb, ne_eqb, eqb-true}
use Rattle.hot_units.specs.Limits.{max_level}
use Rattle.hot_units.specs.Values.{CellValue}
use Rattle.hot_units.specs.Keys.{HasLevel, IsCell, level, covers}
use Rattle.hot_units.proofs.Digits.{eight_pow_le, eight_pow_pos, level-is, level-le}
use Rattle.cell_mail.specs.Grammar.{rise_above, ascend, is_clear, apart, IsRecord}
use Rattle.cell_mail.specs.Merging.{skip_below, starts, meets, none_meet}
use Rattle.cell_mail.proofs.Checks.{both, both_true, ltb_lt, or_cases}

-- the number stands in the list
abbrev pub In : ℕ → List ℕ → Type 0
In x [] = ⊥
In x (y ∷ ys) = (x ≡ y) ⊎ In x ys

rise-head : (k x : ℕ) (xs : List ℕ) → rise_above k (x ∷ xs) ≡ true → (k < x) × (rise_above x xs ≡ true)
unfolding rise_above
rise-head k x xs e = let b = both (ltb k x) (rise_above x xs) e in (ltb_lt k x b.0, b.1)

rise-cons : (k x : ℕ) (xs : List ℕ) → k < x → rise_above x xs ≡ true → rise_above k (x ∷ xs) ≡ true
unfolding rise_above
rise-cons k x xs h e = both_true (ltb k x) (rise_above x xs) (lt-ltb _ _ h) e

rise-all : (k x : ℕ) (xs : List ℕ) → rise_above k xs ≡ true → In x xs → k < x
rise-all k x [] e i = absurd i
rise-all k x (y ∷ ys) e i =
    let h = rise-head k y ys e in
    elim i [ inl p ↦ rw p h.0 | inr j ↦ let l = rise-all y x ys h.1 j in omega (arith, h.0) ]

rise-less : (j k : ℕ) (xs : List ℕ) → j ≤ k → rise_above k xs ≡ true → rise_above j xs ≡ true
unfolding rise_above
rise-less j k [] h e = refl
rise-less j k (x ∷ xs) h e = let b = rise-head k x xs e in rise-cons j x xs (omega (arith, b.0)) b.1

skip-lt : (w x : ℕ) (xs : List ℕ) → x < w → skip_below w (x ∷ xs) ≡ skip_below w xs
unfolding skip_below
skip-lt w x xs h = rw (lt-ltb _ _ h) refl

skip-le : (w x : ℕ) (xs : List ℕ) → w ≤ x → skip_below w (x ∷ xs) ≡ x ∷ xs
unfolding skip_below
skip-le w x xs h = rw (le-ltb _ _ h) refl

skip-nil : (w : ℕ) → skip_below w [] ≡ []
unfolding skip_below
skip-nil w = refl

skip-rises : (j w : ℕ) (xs : List ℕ) → rise_above j xs ≡ true → rise_above j (skip_below w xs) ≡ true
skip-rises j w [] e = rw skip-nil e
skip-rises j w (x ∷ xs) e =
    let h = rise-head j x xs e in
    elim (cases_lt x w) [
      | inl p ↦ rw (skip-lt w x xs p) (rise-less j x (skip_below w xs) (omega (arith, h.0)) (skip-rises x w xs h.1))
      | inr p ↦ rw (skip-le w x xs p) e
    ]

skip-keeps : (v w : ℕ) (xs : List ℕ) → w ≤ v → In v xs → In v (skip_below w xs)
skip-keeps v w [] h i = absurd i
skip-keeps v w (x ∷ xs) h i =
    elim (cases_lt x w) [
      | inl p ↦ rw (skip-lt w x xs p) (elim i [ inl e ↦ absurd (omega arith) | inr j ↦ skip-keeps v w xs h j ])
      | inr p ↦ rw (skip-le w x xs p) i
    ]

skip-from : (v w : ℕ) (xs : List ℕ) → In v (skip_below w xs) → In v xs
skip-from v w [] i = rw skip-nil at i
skip-from v w (x ∷ xs) i =
    elim (cases_lt x w) [
      | inl p ↦ inr (skip-from v w xs (rw (skip-lt w x xs p) at i))
      | inr p ↦ rw (skip-le w x xs p) at i
    ]

starts-from : (w : ℕ) (xs : List ℕ) → starts w xs ≡ true → In w xs
starts-from w [] e = absurd cc
starts-from w (x ∷ xs) e = inl (sym (eqb-true _ _ e))

starts-there : (j w : ℕ) (xs : List ℕ) → rise_above j xs ≡ true → In w xs → starts w (skip_below w xs) ≡ true
starts-there j w [] e i = absurd i
starts-there j w (x ∷ xs) e i =
    let h = rise-head j x xs e in
    elim (cases_lt x w) [
      | inl p ↦ rw (skip-lt w x xs p) (elim i [ inl q ↦ absurd (omega arith) | inr k ↦ starts-there x w xs h.1 k ])
      | inr p ↦ rw (skip-le w x xs p) (elim i [ inl q ↦ eq-eqb _ _ (sym q) | inr k ↦ absurd (let l = rise-all x w xs h.1 k in omega arith) ])
    ]

div_mono : (p a b : ℕ) → 1 ≤ p → a ≤ b → a / p ≤ b / p
div_mono p a b pos h = let low = div-mul-le_self a p in let z : 0 < p = omega arith in (le-div_iff_mul-le z).1 (omega arith)

either_false : (a b : Bool) → (a || b) ≡ false → (a ≡ false) × (b ≡ false)
either_false true b e = absurd cc
either_false false b e = (refl, e)

meets-found : (p : ℕ) (ks rest : List ℕ) → meets p ks rest ≡ true → (k : ℕ) × In k ks × In (k / p) rest
unfolding meets
meets-found p [] rest e = absurd cc
meets-found p (k ∷ ks) rest e =
    elim (or_cases (starts (k / p) (skip_below (k / p) rest)) (meets p ks (skip_below (k / p) rest)) e) [
      | inl s ↦ (k, inl refl, skip-from (k / p) (k / p) rest (starts-from (k / p) (skip_below (k / p) rest) s))
      | inr m ↦ let f = meets-found p ks (skip_below (k / p) rest) m in (f.0, inr f.1, skip-from (f.0 / p) (k / p) rest f.2)
    ]

meets-none : (p i j : ℕ) (ks rest : List ℕ) → 1 ≤ p → rise_above i ks ≡ true → rise_above j rest ≡ true → meets p ks rest ≡ false → (k : ℕ) → In k ks → In (k / p) rest → ⊥
unfolding meets
meets-none p i j [] rest pos r s e k a b = a
meets-none p i j (x ∷ xs) rest pos r s e k a b =
    let h = rise-head i x xs r in
    let f = either_false (starts (x / p) (skip_below (x / p) rest)) (meets p xs (skip_below (x / p) rest)) e in
    elim a [
      | inl q ↦ let t = starts-there j (x / p) rest s (subst (λ (m : ℕ). In (m / p) rest) q b) in let g : true ≡ false = sym t ∙ f.0 in absurd cc
      | inr m ↦
          let l = rise-all x k xs h.1 m in
          let q : x / p ≤ k / p = div_mono p x k pos (omega arith) in
          meets-none p x j xs (skip_below (x / p) rest) pos h.1 (skip-rises j (x / p) rest s) f.1 k m (skip-keeps (k / p) (x / p) rest q b)
    ]

not_true : (b : Bool) → not b ≡ true → b ≡ false
not_true true e = absurd cc
not_true false e = refl

not_false : (b : Bool) → not b ≡ false → b ≡ true
not_false true e = refl
not_false false e = absurd cc

and_false : (a b : Bool) → (a && b) ≡ false → (a ≡ false) ⊎ (b ≡ false)
and_false true b e = inr e
and_false false b e = inl refl

-- where no two cells meet over all levels, none do at one of them
pub none_meet-all : (n d : ℕ) (ks : List ℕ) → none_meet n ks ≡ true → 1 ≤ d → d ≤ n → meets (8 ^ d) ks ks ≡ false
unfolding none_meet
none_meet-all zero d ks e l h = absurd (omega arith)
none_meet-all (suc n) d ks e l h =
    let b = both (none_meet n ks) (not (meets (8 ^ suc n) ks ks)) e in
    elim (cases_lt d (suc n)) [
      | inl p ↦ none_meet-all n d ks b.0 l (omega arith)
      | inr p ↦ let q : suc n ≡ d = omega arith in subst (λ (m : ℕ). meets (8 ^ m) ks ks ≡ false) q (not_true (meets (8 ^ suc n) ks ks) b.1)
    ]

some_meet : (n : ℕ) (ks : List ℕ) → none_meet n ks ≡ false → (d : ℕ) × (1 ≤ d) × (meets (8 ^ d) ks ks ≡ true)
unfolding none_meet
some_meet zero ks e = absurd cc
some_meet (suc n) ks e =
    elim (and_false (none_meet n ks) (not (meets (8 ^ suc n) ks ks)) e) [
      | inl f ↦ some_meet n ks f
      | inr f ↦ (suc n, omega arith, not_false (meets (8 ^ suc n) ks ks) f)
    ]

all-at : (test : ℕ → Bool) (xs : List ℕ) (x : ℕ) → list_all test xs ≡ true → In x xs → test x ≡ true
all-at test [] x e i = absurd i
all-at test (y ∷ ys) x e i =
    let b = both (test y) (list_all test ys) e in
    elim i [ inl q ↦ rw q b.0 | inr j ↦ all-at test ys x b.1 j ]

all-fails : (test : ℕ → Bool) (xs : List ℕ) → list_all test xs ≡ false → (x : ℕ) × In x xs × (test x ≡ false)
all-fails test [] e = absurd cc
all-fails test (y ∷ ys) e =
    elim (and_false (test y) (list_all test ys) e) [
      | inl f ↦ (y, inl refl, f)
      | inr f ↦ let h = all-fails test ys f in (h.0, inr h.1, h.2)
    ]

-- a number over a power of eight that has m levels has as many more itself
has_level : (c k mp dp sp : ℕ) → sp ≡ mp * dp → mp ≤ c → c < 2 * mp → c * dp ≤ k → k < c * dp + dp → (sp ≤ k) × (k < 2 * sp)
has_level c k mp dp sp e l h low high =
    let a : mp * dp ≤ c * dp = mul-le mp dp c dp l (omega arith) in
    let b : (c + 1) * dp ≤ (2 * mp) * dp = mul-le (c + 1) dp (2 * mp) dp (omega arith) (omega arith) in
    (omega arith, omega arith)

smaller : (c k p : ℕ) → 8 ≤ p → 1 ≤ c → c * p ≤ k → c < k
smaller c k p h l e =
    let a : c * 8 ≤ c * p = mul-le c 8 c p (omega arith) h in
    omega arith

high_of : (k p : ℕ) → 0 < p → k < k / p * p + p
high_of k p z = lt-div-mul-add z

-- the cell so many levels above another one
ancestor : (c k d : ℕ) → IsCell c → IsCell k → 1 ≤ d → k / 8 ^ d ≡ c → is_clear c k ≡ false
ancestor c k d ic ik l e =
    let m = ic.0 in
    let pos = eight_pow_pos d in
    let z : 0 < 8 ^ d = omega arith in
    let sum : 8 ^ (m + d) ≡ 8 ^ m * 8 ^ d = pow-add 8 m d in
    let low : c * 8 ^ d ≤ k = rw e at (div-mul-le_self k (8 ^ d)) in
    let high : k < c * 8 ^ d + 8 ^ d = rw e at (high_of k (8 ^ d) z) in
    let has : HasLevel k (m + d) = has_level c k (8 ^ m) (8 ^ d) (8 ^ (m + d)) sum ic.2.0 ic.2.1 low high in
    let k_top : 8 ^ ik.0 ≤ 8 ^ 21 = eight_pow_le ik.0 21 ik.1 in
    let deep : m + d ≤ 21 = elim (cases_lt 21 (m + d)) [ inl p ↦ absurd (let t : 8 ^ 22 ≤ 8 ^ (m + d) = eight_pow_le 22 (m + d) (omega arith) in omega (arith, has.0, ik.2.1)) | inr p ↦ p ] in
    let lk : level k ≡ m + d = level-is k (m + d) deep has in
    let lc : level c ≡ m = level-is c m ic.1 ic.2 in
    let gap : m + d - m ≡ d = omega arith in
    let wide : 8 ^ 1 ≤ 8 ^ d = eight_pow_le 1 d l in
    let less : c < k = smaller c k (8 ^ d) (omega arith) (omega (arith, ic.2.0, eight_pow_pos m)) low in
    let cov : covers c k ≡ true = rw (lc, lk, gap, e, le-leb m (m + d) (omega arith), eq-eqb c c refl) refl in
    rw (cov, ne_eqb c k (λ q. omega arith)) refl

-- a cell that is not clear of another one is an ancestor of it
not_clear : (c k : ℕ) → IsCell c → IsCell k → is_clear c k ≡ false → (d : ℕ) × (1 ≤ d) × (d ≤ max_level) × (k / 8 ^ d ≡ c)
not_clear c k ic ik e =
    let f = either_false (eqb c k) (not (covers c k)) e in
    let cov = both (leb (level c) (level k)) (eqb (k / 8 ^ (level k - level c)) c) (not_false (covers c k) f.1) in
    let q : k / 8 ^ (level k - level c) ≡ c = eqb-true _ _ cov.1 in
    elim (cases_lt 0 (level k - level c)) [
      | inl p ↦ (level k - level c, p, omega (arith, level-le k ik), q)
      | inr p ↦
          let z : level k - level c ≡ 0 = omega arith in
          let same : k / 8 ^ 0 ≡ c = subst (λ (n : ℕ). k / 8 ^ n ≡ c) z q in
          let one : k / 1 ≡ c = same in
          let eq : c ≡ k = omega arith in
          absurd (let t : true ≡ false = sym (eq-eqb c k eq) ∙ f.0 in cc)
    ]

-- for cells in order the passes find out whether they are apart
passes-then : (ks : List ℕ) → ((k : ℕ) → In k ks → IsCell k) → rise_above 0 ks ≡ true → none_meet max_level ks ≡ true → apart ks ≡ false → ⊥
passes-then ks cells rises n a =
    let f = all-fails (λ c. list_all (is_clear c) ks) ks a in
    let g = all-fails (is_clear f.0) ks f.2 in
    let d = not_clear f.0 g.0 (cells f.0 f.1) (cells g.0 g.1) g.2 in
    meets-none (8 ^ d.0) 0 0 ks ks (eight_pow_pos d.0) rises rises (none_meet-all max_level d.0 ks n d.1 d.2) g.0 g.1 (subst (λ (c : ℕ). In c ks) (sym d.3) f.1)

apart-then : (ks : List ℕ) → ((k : ℕ) → In k ks → IsCell k) → none_meet max_level ks ≡ false → apart ks ≡ true → ⊥
apart-then ks cells n a =
    let d = some_meet max_level ks n in
    let f = meets-found (8 ^ d.0) ks ks d.2 in
    let c = f.0 / 8 ^ d.0 in
    let clear : is_clear c f.0 ≡ true = all-at (is_clear c) ks f.0 (all-at (λ x. list_all (is_clear x) ks) ks c a f.2) f.1 in
    let not : is_clear c f.0 ≡ false = ancestor c f.0 d.0 (cells c f.2) (cells f.0 f.1) d.1 refl in
    let g : true ≡ false = sym clear ∙ not in
    absurd cc

same_bool : (a b : Bool) → (a ≡ true → b ≡ false → ⊥) → (a ≡ false → b ≡ true → ⊥) → a ≡ b
same_bool true true f g = refl
same_bool true false f g = absurd (f refl refl)
same_bool false true f g = absurd (g refl refl)
same_bool false false f g = refl

-- for cells in order the passes find out whether they are apart
pub passes-are-apart : (ks : List ℕ) → ((k : ℕ) → In k ks → IsCell k) → rise_above 0 ks ≡ true → none_meet max_level ks ≡ apart ks
passes-are-apart ks cells rises = same_bool (none_meet max_level ks) (apart ks) (passes-then ks cells rises) (apart-then ks cells)

-- each number in a list of cells is a cell
pub cells-in : (ks : List ℕ) → AllByRecursion IsCell ks → (k : ℕ) → In k ks → IsCell k
cells-in [] h k i = absurd i
cells-in (x ∷ xs) h k i = elim i [ inl e ↦ subst IsCell (sym e) h.0 | inr j ↦ cells-in xs h.1 k j ]

-- the keys of records are cells
pub records-are-cells : (cs : List CellValue) → AllByRecursion IsRecord cs → AllByRecursion IsCell (map (λ c. c.key) cs)
records-are-cells [] h = tt
records-are-cells (c ∷ cs) h = (h.0.facts.cell, records-are-cells cs h.1)

-- ---- the passes as loops

-- numbers below the wanted one are passed over
pub skip-goes_on : (w : ℕ) (left more : List ℕ) (c : ℕ) (total : List ℕ) → left ≡ c ∷ more → c < w → skip_below w left ≡ total → skip_below w more ≡ total
unfolding skip_below
skip-goes_on w left more c total e h s = rw (e, lt-ltb _ _ h) at s

-- at the first number that is not below, nothing is passed over
pub skip-stops : (w : ℕ) (left more : List ℕ) (c : ℕ) (total : List ℕ) → left ≡ c ∷ more → w ≤ c → skip_below w left ≡ total → left ≡ total
unfolding skip_below
skip-stops w left more c total e h s = rw e (rw (e, le-ltb _ _ h) at s)

-- of no numbers nothing is passed over
pub skip-ends : (w : ℕ) (left : List ℕ) (total : List ℕ) → left ≡ [] → skip_below w left ≡ total → left ≡ total
unfolding skip_below
skip-ends w left total e s = rw e (rw e at s)

-- over no levels no two cells meet
pub none_meet-zero : (ks : List ℕ) → none_meet 0 ks ≡ true
unfolding none_meet
none_meet-zero ks = refl

-- a number whose prefix stands in the list meets it
pub meets-stops : (p : ℕ) (left more : List ℕ) (c : ℕ) (rest after : List ℕ) (total : Bool) → left ≡ c ∷ more → after ≡ skip_below (c / p) rest → starts (c / p) after ≡ true
    → meets p left rest ≡ total → true ≡ total
unfolding meets
meets-stops p left more c rest after total e a h s = let f : starts (c / p) (skip_below (c / p) rest) ≡ true = subst (λ (l : List ℕ). starts (c / p) l ≡ true) a h in rw (e, f) at s

-- behind a number whose prefix does not, the rest decides
pub meets-goes_on : (p : ℕ) (left more : List ℕ) (c : ℕ) (rest after : List ℕ) (total : Bool) → left ≡ c ∷ more → after ≡ skip_below (c / p) rest → starts (c / p) after ≡ false
    → meets p left rest ≡ total → meets p more after ≡ total
unfolding meets
meets-goes_on p left more c rest after total e a h s = let f : starts (c / p) (skip_below (c / p) rest) ≡ false = subst (λ (l : List ℕ). starts (c / p) l ≡ false) a h in rw a (rw (e, f) at s)

-- no numbers meet nothing
pub meets-ends : (p : ℕ) (left : List ℕ) (rest : List ℕ) (total : Bool) → left ≡ [] → meets p left rest ≡ total → false ≡ total
unfolding meets
meets-ends p left rest total e s = rw e at s

-- one more level without a meeting
pub none_meet-more : (n : ℕ) (ks : List ℕ) → none_meet n ks ≡ true → meets (8 ^ (n + 1)) ks ks ≡ false → none_meet (n + 1) ks ≡ true
unfolding none_meet
none_meet-more n ks e f = rw (add-one, e, rw add-one at f) refl

-- a meeting at one level is one over all
pub none_meet-not : (n : ℕ) (ks : List ℕ) → n < max_level → meets (8 ^ (n + 1)) ks ks ≡ true → false ≡ none_meet max_level ks
none_meet-not n ks lt e = elim (none_meet max_level ks) as (λ (b : Bool). none_meet max_level ks ≡ b → false ≡ b) [
  | true ↦ λ f. absurd (let g : true ≡ false = sym e ∙ none_meet-all max_level (n + 1) ks f (omega arith) (omega arith) in cc)
  | false ↦ λ f. refl
] refl

-- cells that ascend are apart where no two meet at any level
pub good_branches : (ks : List ℕ) (r : Bool) → AllByRecursion IsCell ks → ascend ks ≡ true → r ≡ none_meet max_level ks → r ≡ (ascend ks && apart ks)
good_branches ks r h e n = rw e (n ∙ passes-are-apart ks (cells-in ks h) e)
