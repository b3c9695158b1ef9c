-- A ratio above 1 is given, and no word is behind the last.
use Rattle.std.proofs.Common.{◌≡◌, ℕ, ◌+◌, ◌<◌, ◌≤◌, Bool, true, false, ltb, List, [], length, Option, Some, None, refl, sym, ap, subst, ◌∙◌, if◌then◌else◌, arith, codes}
use Rattle.std.proofs.lemmas.Bool.{ltb-true, ltb-false, both_ways}
use Rattle.std.proofs.lemmas.List.{get_or_past}
use Rattle.std.specs.Option.{option_map}
use Rattle.fixed_kernel.specs.Ratio.{RatioValue}
use Rattle.hot_words.specs.declared.table.CommandName.{CommandName}
use Rattle.hot_words.specs.declared.faults.WordFault.{WordFault}
use Rattle.hot_words.specs.Numbers.{ratio_of}
use Rattle.hot_words.specs.Places.{word_of, place_before}
use Rattle.hot_words.specs.Settings.{setting_of, ratio_given, moments_given}
use Rattle.hot_words.specs.Faults.{fault_listed, ratio_fault, first_of, fault_first}

-- the ratio by the place of its option
abbrev ratio_by_place : List (List ℕ) → Option ℕ → RatioValue
ratio_by_place words o = setting_of ratio_of (record { num = 7; den = 10 }) (option_map (λ k. word_of words (k + 1)) o)

-- a ratio above 1 has a word behind its option
pub ratio_there : (name : CommandName) (words : List (List ℕ)) (k : ℕ) → Some k ≡ place_before name words (codes "--theta") (length words)
    → (ratio_given name words).den < (ratio_given name words).num → k + 1 < length words
ratio_there name words k at wide = by_test (ltb (k + 1) (length words)) refl
  where
    by_test : (b : Bool) → ltb (k + 1) (length words) ≡ b → k + 1 < length words
    by_test true e = ltb-true (k + 1) (length words) e
    by_test false e =
        let past : word_of words (k + 1) ≡ [] = get_or_past words (k + 1) [] (ltb-false (k + 1) (length words) e) in
        let is : ratio_given name words ≡ record { num = 7; den = 10 } =
        ap (ratio_by_place words) (sym at) ∙ ap (λ (w : List ℕ). setting_of ratio_of (record { num = 7; den = 10 }) (Some w)) past in
        let more : 10 < 7 = subst (λ (r : RatioValue). r.den < r.num) is wide in
        absurd (omega (arith, more))

-- no fault of two is none of the second
none-second : (a b : Option WordFault) → first_of a b ≡ None → b ≡ None
none-second None b e = e
none-second (Some a) b e = absurd (cc)

-- a choice that gives nothing
none_then : {A B : Type 0} (f : A → B) (t : Bool) (o : Option A) → (if t then option_map f o else None) ≡ None → t ≡ true → o ≡ None
none_then f true None e h = refl
none_then f true (Some x) e h = absurd (cc)
none_then f false o e h = absurd (both_ways false refl h)

-- words without a fault that ask for second moments have a ratio of at most 1
pub ratio_narrow : (name : CommandName) (words : List (List ℕ)) → fault_first name words ≡ None → moments_given name words ≡ 2
    → (ratio_given name words).num ≤ (ratio_given name words).den
ratio_narrow name words faultless second = by_test (ratio_given name words) refl (ltb (ratio_given name words).den (ratio_given name words).num) refl
  where
    by_test : (r : RatioValue) → r ≡ ratio_given name words → (b : Bool) → ltb r.den r.num ≡ b → (ratio_given name words).num ≤ (ratio_given name words).den
    by_test r here false e = subst (λ (x : RatioValue). x.num ≤ x.den) here (ltb-false r.den r.num e)
    by_test r here true e =
        let wide : ltb (ratio_given name words).den (ratio_given name words).num ≡ true = subst (λ (x : RatioValue). ltb x.den x.num ≡ true) here e in
        let none : place_before name words (codes "--theta") (length words) ≡ None =
        none_then _ _ _ (none-second (fault_listed name words) (ratio_fault name words) faultless) (rw (second, wide) refl) in
        let is : ratio_given name words ≡ record { num = 7; den = 10 } = ap (ratio_by_place words) none in
        subst (λ (x : RatioValue). x.num ≤ x.den) (sym is) (omega arith)
