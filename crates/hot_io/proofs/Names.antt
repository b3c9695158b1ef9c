-- The look-up of a name among files.
use Rattle.std.proofs.Common.{◌≡◌, ℕ, ◌<◌, List, [], ◌∷◌, ◌++◌, length, get_or, set, cond, if◌then◌else◌, Bool, true, false, Some, None, Option, refl, sym, ap, ◌∙◌, nat_lt}
use Rattle.std.specs.Option.{unwrap_or, option_map, option_or, MatchOption}
use Rattle.std.specs.List.{find, position, position_or_len, slice_get}
use Rattle.std.specs.Str.{bytes_eq}
use Rattle.std.proofs.lemmas.Bool.{ltb-false}
use Rattle.std.proofs.lemmas.Option.{slice_get-get_or, slice_get_past}
use Rattle.std.proofs.lemmas.Slice.Eq.{bytes_eq-Decides}
use Rattle.std.proofs.lemmas.List.Folds.{find_at, find_past, find-set, find-append}
use Rattle.std.proofs.lemmas.List.Quantifiers.{position-Some}
use Rattle.hot_io.specs.MemSource.{NamedBytes, is_named, file_of, bytes_at, PutsFile}

-- the bytes of a file that was looked up
abbrev pub bytes_in : Option NamedBytes → Option (List ℕ)
bytes_in file = option_map (λ (f : NamedBytes). f.bytes) file

-- the number of the file that is found
found_at : (b : Bool) (n i : ℕ) → cond b (Some n) None ≡ Some i → i ≡ n
found_at true n i e = cc
found_at false n i e = cc

-- the place of a name that is found is the first one
pub position-is : (files : List NamedBytes) (name : List ℕ) (i : ℕ) → position (is_named name) files ≡ Some i → i ≡ position_or_len (is_named name) files
position-is files name i e = found_at (nat_lt (position_or_len (is_named name) files) (length files)) (position_or_len (is_named name) files) i e

-- no file lies behind the last
past : (files : List NamedBytes) (n : ℕ) (b : Bool) → nat_lt n (length files) ≡ b → cond b (Some n) None ≡ None → slice_get files n ≡ None
past files n true e h = cc
past files n false e h = slice_get_past files n (ltb-false n (length files) e)

-- what the number of a file says of the bytes of its name
pub file_of-position : (files : List NamedBytes) (name : List ℕ) (found : Option ℕ) → found ≡ position (is_named name) files
    → MatchOption found (file_of files name ≡ None) (λ i. (i < length files) × (file_of files name ≡ Some (bytes_at files i)))
file_of-position files name None e =
    let n = position_or_len (is_named name) files in
    ap bytes_in (find_at (is_named name) files ∙ past files n (nat_lt n (length files)) refl (sym e))
file_of-position files name (Some i) e =
    let first : NamedBytes = record { name = []; bytes = [] } in
    let h = position-Some (is_named name) files i first (sym e) in
    let got = slice_get-get_or files i first h.0 in
    (h.0, ap bytes_in (find_at (is_named name) files ∙ ap (slice_get files) (sym (position-is files name i (sym e))) ∙ got) ∙ ap (λ o. Some (unwrap_or (bytes_in o) [])) (sym got))

-- files that have these bytes at the name, and agree with the old ones at all others
puts_at : (old new : List NamedBytes) (name bytes : List ℕ) → file_of new name ≡ Some bytes → ((query : List ℕ) → bytes_eq name query ≡ false → file_of new query ≡ file_of old query)
    → (query : List ℕ) (b : Bool) → bytes_eq name query ≡ b → file_of new query ≡ (if b then Some bytes else file_of old query)
puts_at old new name bytes same others query true e = rw (← (bytes_eq-Decides name query).0 e) same
puts_at old new name bytes same others query false e = others query e

-- what gives a name its bytes and leaves all other names puts the file
pub PutsFile-of : (old new : List NamedBytes) (name bytes : List ℕ) → file_of new name ≡ Some bytes → ((query : List ℕ) → bytes_eq name query ≡ false → file_of new query ≡ file_of old query) → PutsFile old new name bytes
PutsFile-of old new name bytes same others query = puts_at old new name bytes same others query (bytes_eq name query) refl

-- a file of this name is not one of another name
is_named-other : (name query : List ℕ) (f : NamedBytes) → is_named name f ≡ true → bytes_eq name query ≡ false → is_named query f ≡ false
is_named-other name query f same other = rw ((bytes_eq-Decides f.name name).0 same) other

-- other bytes for the file that is found
pub PutsFile-set : (files : List NamedBytes) (name : List ℕ) (i : ℕ) (f g : NamedBytes) → position (is_named name) files ≡ Some i → f ≡ get_or files i f → g.name ≡ f.name → PutsFile files (set files i g) name g.bytes
PutsFile-set files name i f g e at kept =
    let h = position-Some (is_named name) files i f e in
    let f_named : is_named name f ≡ true = ap (is_named name) at ∙ h.1 in
    let g_named : is_named name g ≡ true = ap (λ n. bytes_eq n name) kept ∙ f_named in
    PutsFile-of files (set files i g) name g.bytes
    (ap bytes_in (find-set (is_named name) files i g (position-is files name i e) h.0 g_named))
    (λ query other. ap bytes_in (find_past (is_named query) files i g f (ap (is_named query) (sym at) ∙ is_named-other name query f f_named other) (is_named-other name query g g_named other)))

-- a file more, under a name that is not there
none_or : (o : Option NamedBytes) (f : NamedBytes) → bytes_in o ≡ None → bytes_in (option_or o (Some f)) ≡ Some f.bytes
none_or None f e = refl
none_or (Some g) f e = cc

or_none : (o : Option NamedBytes) → option_or o None ≡ o
or_none None = refl
or_none (Some g) = refl

-- a file with a new name at the end of the list is put there
pub PutsFile-push : (files : List NamedBytes) (f : NamedBytes) → file_of files f.name ≡ None → PutsFile files (files ++ f ∷ []) f.name f.bytes
PutsFile-push files f e =
    PutsFile-of files (files ++ f ∷ []) f.name f.bytes
    (ap bytes_in (find-append (is_named f.name) files (f ∷ []) ∙ ap (λ b. option_or (find (is_named f.name) files) (cond b (Some f) None)) ((bytes_eq-Decides f.name f.name).1 refl)) ∙ none_or (find (is_named f.name) files) f e)
    (λ query other. ap bytes_in (find-append (is_named query) files (f ∷ []) ∙ ap (λ b. option_or (find (is_named query) files) (cond b (Some f) None)) other ∙ or_none (find (is_named query) files)))
