-- The names of the files of words without a fault.
use Rattle.std.proofs.Common.{◌≡◌, ℕ, zero, suc, ◌+◌, ◌-◌, ◌<◌, ◌≤◌, Bool, true, false, not, ◌&&◌, ◌||◌, nat_le, List, [], ◌∷◌, ◌++◌, length, get_or, take, drop, All, Option, Some, None, refl, sym, ap, ◌∙◌, arith, inl, inr, if◌then◌else◌, length-drop}
use Rattle.std.specs.Option.{option_map}
use Rattle.std.specs.List.{find, cons_option, filter_map, list_any, count_by, range_with_len, slice_get}
use Rattle.std.proofs.lemmas.Bool.{cases_Bool, leb-true, leb-false}
use Rattle.std.proofs.lemmas.List.{get_or-drop, take_more}
use Rattle.std.proofs.lemmas.List.Elements.{All-nil, All-more}
use Rattle.std.proofs.lemmas.List.Folds.{list_any-append}
use Rattle.std.proofs.lemmas.List.Sums.{count_by_more_no, count_by_more_yes}
use Rattle.hot_units.specs.Limits.{max_files}
use Rattle.hot_words.specs.declared.table.CommandName.{CommandName}
use Rattle.hot_words.specs.declared.faults.WordCode.{WordCode}
use Rattle.hot_words.specs.declared.faults.WordCode.TheVariants.{A7}
use Rattle.hot_words.specs.declared.faults.WordFault.{WordFault}
use Rattle.hot_words.specs.Options.{has_file}
use Rattle.hot_words.specs.Places.{word_of, begins_option, begins_files, files_place}
use Rattle.hot_words.specs.Names.{names_at, is_input, is_extra, AreNames}
use Rattle.hot_words.specs.Faults.{code_of, fault_of, fault_listed, ratio_fault, first_of, fault_first}
use Rattle.hot_words.specs.Settings.{files_behind, files_given}
use Rattle.hot_words.proofs.PlaceSteps.{found-from, code-file}

-- ---- one more name

-- the name at a place stands behind those before it
pub names-more : (words : List (List ℕ)) (first k : ℕ) → first ≤ k → k < length words
    → names_at first (k + 1 - first) words ≡ names_at first (k - first) words ++ word_of words k ∷ []
names-more words first k within less =
    let e : k + 1 - first ≡ k - first + 1 = omega arith in
    let p : first + (k - first) ≡ k = omega arith in
    let long = length-drop first words in
    let at : get_or (drop first words) (k - first) [] ≡ word_of words k = get_or-drop first words (k - first) [] ∙ ap (λ (i : ℕ). get_or words i []) p in
    ap (λ (n : ℕ). take n (drop first words)) e ∙ take_more (drop first words) (k - first) [] (omega (arith, long)) ∙ ap (λ (w : List ℕ). take (k - first) (drop first words) ++ w ∷ []) at

either-none : (b : Bool) → (b || false) ≡ b
either-none true = refl
either-none false = refl

-- standard input is among the names with one more where it was, or is that one
any-more : (names : List (List ℕ)) (word : List ℕ) → list_any is_input (names ++ word ∷ []) ≡ (list_any is_input names || is_input word)
any-more names word = list_any-append is_input names (word ∷ []) ∙ ap (λ (b : Bool). list_any is_input names || b) (either-none (is_input word))

pub input-more : (words : List (List ℕ)) (first k : ℕ) (h r : Bool) (word : List ℕ) → first ≤ k → k < length words
    → h ≡ list_any is_input (names_at first (k - first) words) → word ≡ word_of words k → r ≡ (h || is_input word)
    → r ≡ list_any is_input (names_at first (k + 1 - first) words)
input-more words first k h r word within less was here is =
    is ∙ ap (λ (b : Bool). b || is_input word) was ∙ ap (λ (w : List ℕ). list_any is_input (names_at first (k - first) words) || is_input w) here
    ∙ sym (ap (λ (names : List (List ℕ)). list_any is_input names) (names-more words first k within less) ∙ any-more (names_at first (k - first) words) (word_of words k))

-- why a file is refused, by the test that the reader makes
pub file-by : (name : CommandName) (words : List (List ℕ)) (first k : ℕ) (h r b : Bool) (word : List ℕ) → first ≤ k → files_place name words ≡ Some first
    → h ≡ list_any is_input (names_at first (k - first) words) → word ≡ word_of words k → r ≡ (has_file name && not (is_extra (k - first) h word)) → r ≡ b
    → code_of name words k ≡ (if b then None else Some A7)
file-by name words first k h r b word within at was here is held =
    code-file name words first k within at
    ∙ ap (λ (t : Bool). if t then None else Some A7)
    (ap (λ (x : Bool). has_file name && not (is_extra (k - first) x (word_of words k))) (sym was)
    ∙ ap (λ (w : List ℕ). has_file name && not (is_extra (k - first) h w)) (sym here)
    ∙ sym is ∙ held)

-- ---- names without a fault

neither : (a b : Bool) → (a || b) ≡ false → (a ≡ false) × (b ≡ false)
neither true b e = absurd cc
neither false b e = (refl, e)

not-both : (a b : Bool) → (a && b) ≡ false → a ≡ true → b ≡ false
not-both true b e h = e
not-both false b e h = absurd cc

some-any : (a b : Bool) → b ≡ true → (a || b) ≡ false → ⊥
some-any true b h e = cc
some-any false b h e = cc

-- so many names of a list are few, none looks like an option, and standard input is one of them at most, and none where
-- the test says so
record AreGood (names : List (List ℕ)) (n : ℕ) : Type 0 where
  few : n ≤ max_files
  plain : All (λ name. begins_option name ≡ false) (take n names)
  once : count_by is_input (take n names) ≤ 1
  none : list_any is_input (take n names) ≡ false → count_by is_input (take n names) ≡ 0

abbrev IsPlain : List ℕ → Type 0
IsPlain name = begins_option name ≡ false

-- one more
good-more : (names : List (List ℕ)) (n : ℕ) → n < length names → is_extra n (list_any is_input (take n names)) (get_or names n []) ≡ false → AreGood names n → AreGood names (n + 1)
good-more names n less ok good =
    let word = get_or names n [] in
    let had = list_any is_input (take n names) in
    let apart = neither (begins_option word || nat_le max_files n) (is_input word && had) ok in
    let plain = neither (begins_option word) (nat_le max_files n) apart.0 in
    let room : n < max_files = leb-false max_files n plain.1 in
    let any : list_any is_input (take (n + 1) names) ≡ (list_any is_input (take n names) || is_input word) =
    ap (λ (xs : List (List ℕ)). list_any is_input xs) (take_more names n [] less) ∙ any-more (take n names) word in
    elim (cases_Bool (is_input word)) [
      | inl input ↦
          let before : count_by is_input (take n names) ≡ 0 = good.none (not-both (is_input word) had apart.1 input) in
          let more = count_by_more_yes is_input names n [] less input in
          record {
            few = omega (arith, room);
            plain = All-more IsPlain names n [] less good.plain plain.0;
            once = omega (arith, before, more);
            none = λ e. absurd (some-any (list_any is_input (take n names)) (is_input word) input (sym any ∙ e));
          }
      | inr other ↦
          let more = count_by_more_no is_input names n [] less other in
          record {
            few = omega (arith, room);
            plain = All-more IsPlain names n [] less good.plain plain.0;
            once = omega (arith, more, good.once);
            none = λ e. more ∙ good.none (neither (list_any is_input (take n names)) (is_input word) (sym any ∙ e)).0;
          }
    ]

-- all of them
good-all : (names : List (List ℕ)) (n : ℕ) → n ≤ length names → ((k : ℕ) → k < n → is_extra k (list_any is_input (take k names)) (get_or names k []) ≡ false) → AreGood names n
good-all names zero le ok = record { few = omega arith; plain = All-nil IsPlain; once = omega arith; none = λ e. refl }
good-all names (suc n) le ok =
    let e : suc n ≡ n + 1 = omega arith in
    rw e (good-more names n (omega arith) (ok n (omega arith)) (good-all names n (omega arith) (λ k less. ok k (omega arith))))

-- ---- words without a fault

-- what is found lies in the range
found-within : (p : ℕ → Bool) (n k f : ℕ) → find p (range_with_len k n) ≡ Some f → f < k + n
found-within p zero k f e = absurd cc
found-within p (suc n) k f e = elim (cases_Bool (p k)) [
  | inl here ↦ let same : k ≡ f = cc in omega arith
  | inr passed ↦ let more = found-within p n (k + 1) f (rw passed at e) in omega arith
]

code-none : (name : CommandName) (words : List (List ℕ)) (k : ℕ) (o : Option WordCode) (fs : List WordFault) → slice_get (cons_option (option_map (λ code. record { code = code; place = k }) o) fs) 0 ≡ None → (o ≡ None) × (slice_get fs 0 ≡ None)
code-none name words k None fs e = (refl, e)
code-none name words k (Some code) fs e = absurd cc

-- where no fault is listed, no place has one
codes-none : (name : CommandName) (words : List (List ℕ)) (n k j : ℕ) → slice_get (filter_map (fault_of name words) (range_with_len k n)) 0 ≡ None → k ≤ j → j < k + n → code_of name words j ≡ None
codes-none name words zero k j e from to = absurd (omega arith)
codes-none name words (suc n) k j e from to =
    let parts = code-none name words k (code_of name words k) (filter_map (fault_of name words) (range_with_len (k + 1) n)) e in
    elim (cases_Bool (nat_le j k)) [
      | inl here ↦
          let le = leb-true j k here in
          let same : k ≡ j = omega arith in
          ap (λ (i : ℕ). code_of name words i) (sym same) ∙ parts.0
      | inr behind ↦
          let less = leb-false j k behind in
          codes-none name words n (k + 1) j parts.1 (omega arith) (omega arith)
    ]

first-none : (a b : Option WordFault) → first_of a b ≡ None → a ≡ None
first-none None b e = refl
first-none (Some a) b e = absurd cc

file-good : (t : Bool) → (if t then None else Some A7) ≡ None → t ≡ true
file-good true e = refl
file-good false e = absurd cc

extra-not : (h x : Bool) → (h && not x) ≡ true → x ≡ false
extra-not true true e = absurd cc
extra-not true false e = refl
extra-not false x e = absurd cc

-- they name files
pub names-sound : (name : CommandName) (words : List (List ℕ)) → fault_first name words ≡ None → AreNames words (files_given name words).0 (files_given name words).1
names-sound name words faultless = by_place (files_place name words) refl
  where
    by_place : (o : Option ℕ) → files_place name words ≡ o → AreNames words (files_behind o (length words)).0 (files_behind o (length words)).1
    by_place None at = record { within = omega arith; few = omega arith; plain = All-nil IsPlain; once = omega arith }
    by_place (Some first) at =
        let from = found-from (begins_files name words) (length words - 1) 1 first at in
        let within = found-within (begins_files name words) (length words - 1) 1 first at in
        let long = length-drop first words in
        let listed = first-none (fault_listed name words) (ratio_fault name words) faultless in
        let good = good-all (drop first words) (length words - first) (omega (arith, long)) (λ k less.
        let none = codes-none name words (length words - 1) 1 (first + k) listed (omega arith) (omega arith) in
        let word : word_of words (first + k) ≡ get_or (drop first words) k [] = sym (get_or-drop first words k []) in
        let e : first + k - first ≡ k = omega arith in
        let test = file-good _ (sym (code-file name words first (first + k) (omega arith) at) ∙ none) in
        let extra = extra-not (has_file name) _ test in
        rw (e, word) at extra) in
        record { within = omega arith; few = good.few; plain = good.plain; once = good.once }
