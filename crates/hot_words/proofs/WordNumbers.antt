-- Numbers of the words.
use Rattle.std.proofs.Common.{◌≡◌, ◌↔◌, ℕ, ◌<◌, ◌≤◌, ◌^◌, Bool, true, false, ◌&&◌, if◌then◌else◌, nat_lt, nat_le, List, length, get_or, Some, None, Result, Ok, Err, refl, sym, ap, ◌∙◌}
use Rattle.std.proofs.lemmas.Bool.{lt-ltb, le-leb, ltb-true, leb-true, and_parts, both_ways}
use Rattle.std.proofs.lemmas.Str.Parse.{IsNumeralModel, numerals_by_value, tells_all_ascii_digits, tells_by_index, parse_digits}
use Rattle.std.specs.Int.{IsInRange}
use Rattle.std.specs.Result.{result_ok}
use Rattle.std.specs.Str.{all_ascii_digits}
use Rattle.std.specs.Str.Parse.{digits_value, ParsesUnsigned}
use Rattle.hot_words.specs.Numbers.{max_digits, is_number, number_of}

-- a choice by a test
taken_if : (t : Bool) (n : ℕ) → t ≡ true → (if t then Some n else None) ≡ Some n
taken_if true n h = refl
taken_if false n h = absurd (both_ways false refl h)

left_if : (t : Bool) (n : ℕ) → (t ≡ true → ⊥) → (if t then Some n else None) ≡ None
left_if true n h = absurd (h refl)
left_if false n h = refl

-- the two ways to say that all bytes are digits
by_test : IsNumeralModel (λ ds. all_ascii_digits ds ≡ true) (digits_value 10)
by_test = numerals_by_value _ tells_all_ascii_digits

by_place : IsNumeralModel (λ ds. (i : ℕ) → i < length ds → IsInRange 48 57 (get_or ds i 0)) (digits_value 10)
by_place = numerals_by_value _ tells_by_index

-- what a number is
parts_of : (word : List ℕ) → is_number word ≡ true
    → (0 < length word) × (length word ≤ max_digits) × (all_ascii_digits word ≡ true) × (digits_value 10 word < 2 ^ 64)
parts_of word h =
    let c = and_parts (nat_lt 0 (length word) && nat_le (length word) max_digits && all_ascii_digits word) (nat_lt (digits_value 10 word) (2 ^ 64)) h in
    let b = and_parts (nat_lt 0 (length word) && nat_le (length word) max_digits) (all_ascii_digits word) c.0 in
    let a = and_parts (nat_lt 0 (length word)) (nat_le (length word) max_digits) b.0 in
    (ltb-true 0 (length word) a.0, leb-true (length word) max_digits a.1, b.1, ltb-true (digits_value 10 word) (2 ^ 64) c.1)

is_of : (word : List ℕ) → 0 < length word → length word ≤ max_digits → all_ascii_digits word ≡ true → digits_value 10 word < 2 ^ 64 → is_number word ≡ true
is_of word some few digits fits =
    rw (lt-ltb 0 (length word) some, le-leb (length word) max_digits few, digits, lt-ltb (digits_value 10 word) (2 ^ 64) fits) refl

-- a word with a byte that is no digit
pub number_other : (word : List ℕ) (b : Bool)
    → ((b ≡ true) ↔ ((i : ℕ) → i < length word → (48 ≤ get_or word i 0) × (get_or word i 0 ≤ 57))) → b ≡ false → None ≡ number_of word
number_other word b tells h = sym (left_if (is_number word) (digits_value 10 word)
    (λ e. both_ways b h (tells.1 (by_place.from word (by_test.to word (parts_of word e).2)))))

-- a word that is parsed
pub number_parsed : {E : Type 0} (word : List ℕ) (b : Bool) (r : Result ℕ E)
    → ((b ≡ true) ↔ ((i : ℕ) → i < length word → (48 ≤ get_or word i 0) × (get_or word i 0 ≤ 57))) → b ≡ true
    → length word ≤ max_digits → ParsesUnsigned 64 10 word r → result_ok r ≡ number_of word
number_parsed {E} word b (Ok n) tells h few parses =
    let digits = by_test.from word (by_place.to word (tells.0 h)) in
    let p = parse_digits by_test {E = E} 64 word (Ok n) parses digits in
    ap (λ x. Some x) p.1 ∙ sym (taken_if (is_number word) (digits_value 10 word) (is_of word p.0.0 few digits p.0.1))
number_parsed {E} word b (Err e) tells h few parses =
    let digits = by_test.from word (by_place.to word (tells.0 h)) in
    let p = parse_digits by_test {E = E} 64 word (Err e) parses digits in
    sym (left_if (is_number word) (digits_value 10 word) (λ t. let q = parts_of word t in p (q.0, q.3)))
