-- Reading a letter from left to right: a value and the bytes after it, or none.
use Rattle.std.specs.Prelude.{ℕ, zero, suc, ◌≡◌, ◌+◌, ◌-◌, ◌*◌, ◌/◌, ◌^◌, ◌<◌, Bool, false, ltb, leb, eqb, ◌&&◌, ◌||◌, if◌then◌else◌, List, [], ◌∷◌, length, map, take, drop, slice_index, Option, Some, None, Result, Ok, Err}
use Rattle.std.specs.List.{AllByRecursion, list_all}
use Rattle.hot_units.specs.Limits.{fine_bits, max_level, max_bodies, max_body_mass, max_all_mass}
use Rattle.hot_units.specs.Values.{BodyValue, CellValue, cell_of}
use Rattle.hot_units.specs.Keys.{contains, corner, extent}
use Rattle.hot_model.specs.declared.answer.Answer.{Answer}
use Rattle.hot_model.specs.declared.answer.Answer.TheVariants.{Children, Bodies}
use Rattle.hot_model.specs.declared.answer.Answered.{Answered}
use Rattle.cell_mail.specs.declared.content.Content.{Content}
use Rattle.cell_mail.specs.declared.content.Content.TheVariants as content
use Rattle.cell_mail.specs.declared.content.LetterError.{LetterError}
use Rattle.cell_mail.specs.declared.content.LetterError.TheVariants as errors
use Rattle.cell_mail.specs.Grammar.{IsRecord, IsSent, IsBelowRoot, IsItem, ascend, bodies_ascend, apart, has_parent, fits_leaf}
use Rattle.cell_mail.specs.Spelling.{sums_of}
use Rattle.cell_mail.specs.Sizes.{version, mark_size, count_size, count_end, key_size, mass_size, sum_size, sums_count, field_size, max_children}

-- what a reader gives, read on, or none
infixl 10 ◌>>=◌
abbrev pub ◌>>=◌ : {A B : Type 0} → Option A → (A → Option B) → Option B
(Some x) >>= f = f x
None >>= f = None

-- a failure that stands for none, or is want of memory
abbrev pub Fails : {Y : Type 0} → LetterError → Option Y → Type 0
Fails errors.Memory read = Unit {0}
Fails errors.NotALetter read = read ≡ None

-- what a function returned, seen by view, is what reading gives, unless memory ran out
abbrev pub Gives : {X Y : Type 0} → (X → Y) → Result X LetterError → Option Y → Type 0
Gives view (Ok x) read = read ≡ Some (view x)
Gives view (Err e) read = Fails e read

-- a value at the front of bytes, and the bytes after it
abbrev pub Reader : Type 0 → Type 0
Reader X = List ℕ → Option (X × List ℕ)

-- a value that passed a test, or none
abbrev pub checked : {X : Type 0} → Bool → X → List ℕ → Option (X × List ℕ)
checked test x rest = if test then Some (x, rest) else None

-- what bytes stand for, the least of them first
unfoldable pub worth : List ℕ → ℕ
worth [] = 0
worth (b ∷ bs) = b + 256 * worth bs

-- a number of so many bytes
unfoldable pub number_at : ℕ → Reader ℕ
number_at width bytes = if ltb (length bytes) width then None else Some (worth (take width bytes), drop width bytes)

-- whether k has fewer than n octal digits behind a leading 1
unfoldable pub cell_below : ℕ → ℕ → Bool
cell_below zero k = false
cell_below (suc l) k = cell_below l k || eqb (k / 8 ^ l) 1

-- a leading 1 with 0 to 21 octal digits behind it
abbrev pub is_cell : ℕ → Bool
is_cell k = cell_below (suc max_level) k

-- a cell below the root
abbrev pub is_below_root : ℕ → Bool
is_below_root k = is_cell k && leb 8 k

-- whether a sum may be one of mass times a coordinate from k to k + w
abbrev pub is_first : ℕ → ℕ → ℕ → ℕ → Bool
is_first mass k w s = leb (mass * k) s && leb s (mass * (k + w))

-- whether a sum may be one of mass times two coordinates, from k and from l on, whose own sums are s and t
unfoldable pub is_second : ℕ → ℕ → ℕ → ℕ → ℕ → ℕ → ℕ → Bool
is_second mass k l w s t q = leb (k * t + l * s) (q + mass * (k * l)) && leb (q + mass * (k * l)) (k * t + l * s + mass * (w * w))

-- whether the first three sums may be those of bodies in the cell
unfoldable pub firsts_fit : ℕ → ℕ → List ℕ → Bool
firsts_fit key mass s =
    is_first mass (corner key).x (extent key) (slice_index s 0)
    && (is_first mass (corner key).y (extent key) (slice_index s 1) && is_first mass (corner key).z (extent key) (slice_index s 2))

-- whether the other six may be
unfoldable pub seconds_fit : ℕ → ℕ → List ℕ → Bool
seconds_fit key mass s =
    is_second mass (corner key).x (corner key).x (extent key) (slice_index s 0) (slice_index s 0) (slice_index s 3)
    && (is_second mass (corner key).y (corner key).y (extent key) (slice_index s 1) (slice_index s 1) (slice_index s 4)
    && (is_second mass (corner key).z (corner key).z (extent key) (slice_index s 2) (slice_index s 2) (slice_index s 5)
    && (is_second mass (corner key).x (corner key).y (extent key) (slice_index s 0) (slice_index s 1) (slice_index s 6)
    && (is_second mass (corner key).x (corner key).z (extent key) (slice_index s 0) (slice_index s 2) (slice_index s 7)
    && is_second mass (corner key).y (corner key).z (extent key) (slice_index s 1) (slice_index s 2) (slice_index s 8)))))

-- whether a record may be sent
unfoldable pub is_record : CellValue → Bool
is_record c = is_cell c.key && (leb 1 c.count && (leb c.count max_bodies && (leb c.count c.mass && (leb c.mass max_all_mass
    && (firsts_fit c.key c.mass (sums_of c) && seconds_fit c.key c.mass (sums_of c))))))

-- whether a body may be sent
unfoldable pub is_sent : BodyValue → Bool
is_sent b = ltb b.x (2 ^ fine_bits) && (ltb b.y (2 ^ fine_bits) && (ltb b.z (2 ^ fine_bits) && (leb 1 b.mass && (leb b.mass max_body_mass && ltb b.row max_bodies))))

-- what the test of an answer for the cell k looks at, besides its entries one by one
abbrev pub good_answer : ℕ → Answer → Bool
good_answer k (Children cs) = leb 1 (length cs) && (leb (length cs) max_children && (ascend (map (λ c. c.key) cs) && list_all (has_parent k) cs))
good_answer k (Bodies bs) = leb 1 (length bs) && (fits_leaf k (length bs) && (bodies_ascend bs && list_all (contains k) bs))

-- what the test of a content looks at, besides its items one by one
abbrev pub good_content : Content → Bool
good_content (content.Branches cs) = leb (length cs) max_bodies && (ascend (map (λ c. c.key) cs) && apart (map (λ c. c.key) cs))
good_content (content.Asks ks) = leb 1 (length ks) && ascend ks
good_content (content.Answers xs) = leb 1 (length xs) && ascend (map (λ a. a.key) xs)

-- what the entries of an answer keep one by one
abbrev pub EntriesFit : Answer → Type 0
EntriesFit (Children cs) = (length cs < count_end) × AllByRecursion IsRecord cs
EntriesFit (Bodies bs) = (length bs < count_end) × AllByRecursion IsSent bs

-- what the items of a content keep one by one
abbrev pub ItemsFit : Content → Type 0
ItemsFit (content.Branches cs) = (length cs < count_end) × AllByRecursion IsRecord cs
ItemsFit (content.Asks ks) = (length ks < count_end) × AllByRecursion IsBelowRoot ks
ItemsFit (content.Answers xs) = (length xs < count_end) × AllByRecursion IsItem xs

-- a key of a cell below the root
unfoldable pub key_at : Reader ℕ
key_at bytes = number_at key_size bytes >>= λ k. checked (is_below_root k.0) k.0 k.1

-- so many items, one behind the other
unfoldable pub many : {X : Type 0} → Reader X → ℕ → Reader (List X)
many item zero bytes = Some ([], bytes)
many item (suc n) bytes = item bytes >>= λ first. many item n first.1 >>= λ others. Some (first.0 ∷ others.0, others.1)

-- the record with these nine sums
abbrev pub with_sums : ℕ → ℕ → ℕ → List ℕ → CellValue
with_sums key count mass s =
    cell_of key count mass (slice_index s 0) (slice_index s 1) (slice_index s 2) (slice_index s 3) (slice_index s 4) (slice_index s 5)
    (slice_index s 6) (slice_index s 7) (slice_index s 8)

-- a record
unfoldable pub record_at : Reader CellValue
record_at bytes =
    number_at key_size bytes >>= λ key. number_at count_size key.1 >>= λ count. number_at mass_size count.1 >>= λ mass.
    many (number_at sum_size) sums_count mass.1 >>= λ sums.
    checked (is_record (with_sums key.0 count.0 mass.0 sums.0)) (with_sums key.0 count.0 mass.0 sums.0) sums.1

-- a body
unfoldable pub body_at : Reader BodyValue
body_at bytes =
    number_at field_size bytes >>= λ x. number_at field_size x.1 >>= λ y. number_at field_size y.1 >>= λ z.
    number_at field_size z.1 >>= λ mass. number_at field_size mass.1 >>= λ row.
    checked (is_sent (record { x = x.0; y = y.0; z = z.0; mass = mass.0; row = row.0 }))
    (record { x = x.0; y = y.0; z = z.0; mass = mass.0; row = row.0 }) row.1

-- a number, and so many items
unfoldable pub counted_at : {X : Type 0} → Reader X → Reader (List X)
counted_at item bytes = number_at count_size bytes >>= λ n. many item n.0 n.1

-- the entries of an answer with this tag
unfoldable pub entries_at : ℕ → Reader Answer
entries_at (suc zero) bytes = counted_at record_at bytes >>= λ cs. Some (Children cs.0, cs.1)
entries_at (suc (suc zero)) bytes = counted_at body_at bytes >>= λ bs. Some (Bodies bs.0, bs.1)
entries_at _ bytes = None

-- an item of an answers letter
unfoldable pub item_at : Reader Answered
item_at bytes =
    number_at key_size bytes >>= λ key. number_at mark_size key.1 >>= λ tag. entries_at tag.0 tag.1 >>= λ a.
    checked (is_below_root key.0 && good_answer key.0 a.0) (record { key = key.0; answer = a.0 }) a.1

-- the items of a content of this kind
unfoldable pub items_at : ℕ → Reader Content
items_at (suc zero) bytes = counted_at record_at bytes >>= λ cs. Some (content.Branches cs.0, cs.1)
items_at (suc (suc zero)) bytes = counted_at key_at bytes >>= λ ks. Some (content.Asks ks.0, ks.1)
items_at (suc (suc (suc zero))) bytes = counted_at item_at bytes >>= λ xs. Some (content.Answers xs.0, xs.1)
items_at _ bytes = None

-- the version, the kind and the items, each good by itself
unfoldable pub unchecked_at : Reader Content
unchecked_at bytes =
    number_at mark_size bytes >>= λ v. number_at mark_size v.1 >>= λ kind. items_at kind.0 kind.1 >>= λ c.
    checked (eqb v.0 version) c.0 c.1

-- the same where the whole content is good
unfoldable pub content_at : Reader Content
content_at bytes = unchecked_at bytes >>= λ c. checked (good_content c.0) c.0 c.1

-- the content that all of the bytes spell
unfoldable pub reading : List ℕ → Option Content
reading bytes = content_at bytes >>= λ c. if eqb (length c.1) 0 then Some c.0 else None
