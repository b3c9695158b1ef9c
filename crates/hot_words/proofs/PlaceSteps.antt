-- One more place of the words.
use Rattle.std.proofs.Common.{◌≡◌, ℕ, zero, suc, ◌+◌, ◌-◌, ◌<◌, ◌≤◌, Bool, true, false, not, cond, ◌&&◌, List, length, Option, Some, None, refl, sym, ap, ◌∙◌, arith, inl, inr}
use Rattle.std.proofs.lemmas.Bool.{cases_Bool, lt-ltb, le-ltb}
use Rattle.std.specs.Option.{option_map}
use Rattle.std.specs.List.{find, cons_option, filter_map, range_with_len, slice_get}
use Rattle.std.specs.Str.{bytes_eq}
use Rattle.hot_words.specs.declared.table.CommandName.{CommandName}
use Rattle.hot_words.specs.declared.faults.WordCode.{WordCode}
use Rattle.hot_words.specs.declared.faults.WordFault.{WordFault}
use Rattle.hot_words.specs.Places.{word_of, stands_as_value, holds_option, begins_option, begins_files, files_place}
use Rattle.hot_words.specs.Faults.{setting_fault, file_fault, code_by, code_of, fault_of, faults_from}

-- ---- what is found from a place on

-- where the place does not pass, it is found behind it
pub find-passed : (p : ℕ → Bool) (k end : ℕ) → k < end → p k ≡ false
    → find p (range_with_len (k + 1) (end - (k + 1))) ≡ find p (range_with_len k (end - k))
find-passed p k end h held =
    let e : end - k ≡ suc (end - (k + 1)) = omega arith in
    rw e (sym (ap (λ b. cond b (Some k) (find p (range_with_len (k + 1) (end - (k + 1))))) held))

-- where it passes, it is found
pub find-here : (p : ℕ → Bool) (k end : ℕ) → k < end → p k ≡ true → find p (range_with_len k (end - k)) ≡ Some k
find-here p k end h held =
    let e : end - k ≡ suc (end - (k + 1)) = omega arith in
    rw e (ap (λ b. cond b (Some k) (find p (range_with_len (k + 1) (end - (k + 1))))) held)

-- what is found does not lie before the place
pub found-from : (p : ℕ → Bool) (n k f : ℕ) → find p (range_with_len k n) ≡ Some f → k ≤ f
found-from p zero k f e = absurd cc
found-from p (suc n) k f e = elim (cases_Bool (p k)) [
  | inl here ↦ let same : k ≡ f = cc in omega arith
  | inr passed ↦ let more = found-from p n (k + 1) f (rw passed at e) in omega arith
]

-- ---- where the files begin

-- an option or a value is not a place at which they may
pub begins-by : (name : CommandName) (words : List (List ℕ)) (k : ℕ) (v r b : Bool)
    → v ≡ stands_as_value name words k → r ≡ (not v && not (begins_option (word_of words k))) → r ≡ b → begins_files name words k ≡ b
begins-by name words k v r b was is held = ap (λ x. not x && not (begins_option (word_of words k))) (sym was) ∙ sym is ∙ held

-- an option at a place
pub holds-by : (name : CommandName) (words : List (List ℕ)) (option : List ℕ) (k : ℕ) (v r b : Bool)
    → v ≡ stands_as_value name words k → r ≡ (bytes_eq (word_of words k) option && not v) → r ≡ b → holds_option name words option k ≡ b
holds-by name words option k v r b was is held = ap (λ x. bytes_eq (word_of words k) option && not x) (sym was) ∙ sym is ∙ held

-- they begin at the first place at which they may
pub files-here : (name : CommandName) (words : List (List ℕ)) (k : ℕ) → k < length words → begins_files name words k ≡ true
    → find (begins_files name words) (range_with_len k (length words - k)) ≡ files_place name words → files_place name words ≡ Some k
files-here name words k less here rest = sym rest ∙ find-here (begins_files name words) k (length words) less here

-- before them a word is an option or a value
code-before : (name : CommandName) (words : List (List ℕ)) (o : Option ℕ) (k : ℕ) → ((f : ℕ) → o ≡ Some f → k < f) → code_by name words o k ≡ setting_fault name words k
code-before name words None k before = refl
code-before name words (Some first) k before = let less = before first refl in rw (lt-ltb k first less) refl

pub code-passed : (name : CommandName) (words : List (List ℕ)) (k : ℕ) → k < length words → begins_files name words k ≡ false
    → find (begins_files name words) (range_with_len k (length words - k)) ≡ files_place name words → code_of name words k ≡ setting_fault name words k
code-passed name words k less passed rest = code-before name words (files_place name words) k (λ f at.
    let behind = found-from (begins_files name words) (length words - (k + 1)) (k + 1) f (find-passed (begins_files name words) k (length words) less passed ∙ rest ∙ at) in
    omega (arith, behind))

-- from them on it is a file
pub code-file : (name : CommandName) (words : List (List ℕ)) (first k : ℕ) → first ≤ k → files_place name words ≡ Some first → code_of name words k ≡ file_fault name words first k
code-file name words first k within at =
    ap (λ (o : Option ℕ). code_by name words o k) at ∙ rw (le-ltb k first within) refl

-- ---- the faults from a place on

-- those of a place stand in front of those behind it
faults-next : (name : CommandName) (words : List (List ℕ)) (k : ℕ) (o : Option WordCode) → k < length words → code_of name words k ≡ o
    → faults_from name words k ≡ cons_option (option_map (λ code. record { code = code; place = k }) o) (faults_from name words (k + 1))
faults-next name words k o less is =
    let e : length words - k ≡ suc (length words - (k + 1)) = omega arith in
    rw e (ap (λ x. cons_option (option_map (λ code. record { code = code; place = k }) x) (filter_map (fault_of name words) (range_with_len (k + 1) (length words - (k + 1))))) is)

-- where the place has a fault, it is the first
pub fault-here : (name : CommandName) (words : List (List ℕ)) (k : ℕ) (code : WordCode) → k < length words → code_of name words k ≡ Some code
    → Some (record { code = code; place = k }) ≡ slice_get (faults_from name words k) 0
fault-here name words k code less is = ap (λ (fs : List WordFault). slice_get fs 0) (sym (faults-next name words k (Some code) less is))

-- where it has none, they are those behind it
pub faults-passed : (name : CommandName) (words : List (List ℕ)) (k : ℕ) → k < length words → code_of name words k ≡ None
    → faults_from name words (k + 1) ≡ faults_from name words k
faults-passed name words k less is = sym (faults-next name words k None less is)
