-- Reading past the items of a letter for their keys alone.
use Rattle.std.specs.Prelude.{ℕ, zero, suc, Bool, ltb, leb, eqb, ◌&&◌, if◌then◌else◌, List, length, Option, Some, None}
use Rattle.hot_units.specs.Limits.{max_bodies}
use Rattle.hot_units.specs.Values.{BodyValue, CellValue}
use Rattle.hot_units.specs.Keys.{contains}
use Rattle.cell_mail.specs.declared.content.Kind.{Kind}
use Rattle.cell_mail.specs.declared.content.Kind.TheVariants as kinds
use Rattle.cell_mail.specs.Grammar.{ascend, apart, follows, has_parent, fits_leaf}
use Rattle.cell_mail.specs.Sizes.{version, mark_size, count_size, key_size, max_children}
use Rattle.cell_mail.specs.Reading.{◌>>=◌, Reader, number_at, is_below_root, key_at, record_at, body_at, counted_at}

-- the record may stand in an answer for the cell k, behind the one before it
abbrev pub child_stands : ℕ → Option CellValue → CellValue → Bool
child_stands k None c = ltb 0 c.key && has_parent k c
child_stands k (Some a) c = ltb a.key c.key && has_parent k c

-- the body may stand in an answer for the cell k, behind the one before it
abbrev pub body_stands : ℕ → Option BodyValue → BodyValue → Bool
body_stands k last b = follows last b && contains k b

-- the bytes behind so many items, each of which may stand behind the one before it
unfoldable pub row_past : {X : Type 0} → (Option X → X → Bool) → Reader X → ℕ → Option X → List ℕ → Option (List ℕ)
row_past stands item zero last bytes = Some bytes
row_past stands item (suc n) last bytes = item bytes >>= λ x. if stands last x.0 then row_past stands item n (Some x.0) x.1 else None

-- the bytes behind the entries of a good answer for the cell k with this tag
unfoldable pub answer_past : ℕ → ℕ → List ℕ → Option (List ℕ)
answer_past k (suc zero) bytes = number_at count_size bytes >>= λ n. if leb 1 n.0 && leb n.0 max_children then row_past (child_stands k) record_at n.0 None n.1 else None
answer_past k (suc (suc zero)) bytes = number_at count_size bytes >>= λ n. if leb 1 n.0 && fits_leaf k n.0 then row_past (body_stands k) body_at n.0 None n.1 else None
answer_past k _ bytes = None

-- the key of what a reader reads
abbrev pub keyed : {X : Type 0} → (X → ℕ) → Reader X → Reader ℕ
keyed key item bytes = item bytes >>= λ x. Some (key x.0, x.1)

-- the key of a record
abbrev pub record_key_at : Reader ℕ
record_key_at bytes = keyed (λ c. c.key) record_at bytes

-- the key of an item of an answers letter
unfoldable pub item_key_at : Reader ℕ
item_key_at bytes =
    number_at key_size bytes >>= λ key. number_at mark_size key.1 >>= λ tag.
    if is_below_root key.0 then answer_past key.0 tag.0 tag.1 >>= (λ rest. Some (key.0, rest)) else None

-- the keys of the items of a kind
unfoldable pub keys_at : ℕ → List ℕ → Option (Kind × List ℕ × List ℕ)
keys_at (suc zero) bytes = counted_at record_key_at bytes >>= λ ks. Some (kinds.Branches, ks.0, ks.1)
keys_at (suc (suc zero)) bytes = counted_at key_at bytes >>= λ ks. Some (kinds.Asks, ks.0, ks.1)
keys_at (suc (suc (suc zero))) bytes = counted_at item_key_at bytes >>= λ ks. Some (kinds.Answers, ks.0, ks.1)
keys_at _ bytes = None

-- what the test of a content looks at, besides its items one by one: their keys
abbrev pub good_keys : Kind → List ℕ → Bool
good_keys kinds.Branches ks = leb (length ks) max_bodies && (ascend ks && apart ks)
good_keys kinds.Asks ks = leb 1 (length ks) && ascend ks
good_keys kinds.Answers ks = leb 1 (length ks) && ascend ks

-- the kind and the keys of the items, each good by itself
unfoldable pub skimmed_at : List ℕ → Option (Kind × List ℕ × List ℕ)
skimmed_at bytes =
    number_at mark_size bytes >>= λ v. number_at mark_size v.1 >>= λ kind. keys_at kind.0 kind.1 >>= λ x.
    if eqb v.0 version then Some x else None

-- the kind and the keys of the content that all of the bytes spell
unfoldable pub skimming : List ℕ → Option (Kind × List ℕ)
skimming bytes = skimmed_at bytes >>= λ x. if eqb (length x.2) 0 && good_keys x.0 x.1 then Some (x.0, x.1) else None
