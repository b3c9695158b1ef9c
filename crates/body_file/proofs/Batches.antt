-- Whole files that a source gave, one after another.
use Rattle.std.proofs.Common.{◌≡◌, ℕ, suc, ◌+◌, ◌<◌, ◌≤◌, inl, inr, true, false, List, [], ◌∷◌, ◌++◌, length, get_or, Option, Some, None, refl, sym, ap, ◌∙◌, arith, subst, length-append, map, Bor, rules}
use Rattle.std.specs.Prelude.{sum_by, IsSome, slice_index_or}
use Rattle.std.proofs.lemmas.Bool.{cases_lt}
use Rattle.std.proofs.Math.ListN.{get_or-map}
use Rattle.std.proofs.lemmas.List.{get_or_append_left, get_or_push}
use Rattle.std.proofs.lemmas.List.Sums.{sum_by-append}
use Rattle.hot_units.specs.Limits.{max_bodies, max_files}
use Rattle.hot_io.specs.declared.outside.Source as sources
use Rattle.hot_io.specs.Reading.{Reading, ended, taken, Stands, IsAll}
use Rattle.body_set.specs.Sets.{SetValue}
use Rattle.body_file.specs.declared.fault.FileError.{FileError}
use Rattle.body_file.specs.declared.fault.FileError.TheVariants.{Broken, Refused, Memory}
use Rattle.body_file.specs.Files.{fault_from, fault_of, set_of_files, all_read, IsPrompt, ReadsBodies, Stopped, stopped_at, but_a_piece}
use Rattle.body_file.specs.Sources.{AreAllowed, told_at, HasGiven, StandsBehind}
use Rattle.body_file.specs.Reading.{count_of, AreBefore, ReadsFile, StopsFile, IsPromptBehind, AreRead}
use Rattle.body_file.proofs.Readings.{nothing_undecided}
use Rattle.body_file.proofs.Verdicts.{has_set}
use Rattle.body_file.proofs.Lists.{good_push, set_push, so_far, decide}

-- how many bytes these files have
abbrev bytes_in : List (List ℕ) → ℕ
bytes_in files = sum_by (λ file. length file) files

module _ {S : Type 0} (s : sources.Ghosts S) (names : List (List ℕ)) (old : S) where
  -- before the first file none was given
  pub none_read : s.is_open old ≡ false → AreRead s names [] old old None
  unfolding fault_from set_of_files
  none_read closed = record {
    given = record {
      few = omega arith;
      told = λ k h. absurd (omega (arith, h));
      faults = refl;
      closed = closed;
      opens = omega arith;
      files = refl;
      allows = refl;
      none = λ e. refl;
    };
    good = refl;
    are = refl;
    before = tt;
    short = omega arith;
  }

  -- one more whole file was given
  given_push : (whole : List (List ℕ)) (mid new : S) (name bytes : List ℕ) → HasGiven s names whole old mid → length whole < length names → name ≡ get_or names (length whole) [] → Stands s.left s.is_open s.opens s.faults (s.file mid name) mid new (ended bytes) → s.file new ≡ s.file mid → s.allows new ≡ s.allows mid → HasGiven s names (whole ++ bytes ∷ []) old new
  given_push whole mid new name bytes g more is stands files allows =
      let count : length (whole ++ bytes ∷ []) ≡ length whole + 1 = length-append whole (bytes ∷ []) in
      record {
        few = omega (arith, count, more);
        told = told;
        faults = stands.0 ∙ g.faults;
        closed = stands.1;
        opens = let e = stands.3 in let f = g.opens in omega (arith, count, e, f);
        files = files ∙ g.files;
        allows = allows ∙ g.allows;
        none = λ e. absurd (let n = ap (λ (l : List (List ℕ)). length l) e in omega (arith, n, count));
      }
    where
      this : IsAll (told_at (s.file old) names (length whole)) bytes
      this = subst (λ (f : Option (List ℕ)). IsAll f bytes) (ap (λ (f : List ℕ → Option (List ℕ)). f name) g.files ∙ ap (s.file old) is) stands.2

      told : (k : ℕ) → k < length (whole ++ bytes ∷ []) → IsAll (told_at (s.file old) names k) (get_or (whole ++ bytes ∷ []) k [])
      told k h = elim (cases_lt k (length whole)) [
        | inl before ↦ rw (get_or_append_left whole (bytes ∷ []) [] k before) (g.told k before)
        | inr behind ↦ let e : length whole ≡ k = omega (arith, behind, h, length-append whole (bytes ∷ [])) in subst (λ (n : ℕ). IsAll (told_at (s.file old) names n) (get_or (whole ++ bytes ∷ []) n [])) e (rw (get_or_push whole bytes [] (length whole) refl) this)
      ]

  -- one more whole file was read
  pub one_more : (whole : List (List ℕ)) (mid new : S) (set : Option SetValue) (name : List ℕ) (input : Reading) (read : SetValue) → AreRead s names whole old mid set → length whole < length names → name ≡ get_or names (length whole) [] → Stands s.left s.is_open s.opens s.faults (s.file mid name) mid new input → s.file new ≡ s.file mid → s.allows new ≡ s.allows mid → (r : ReadsFile set input read) → AreRead s names (whole ++ r.bytes ∷ []) old new (Some read)
  one_more whole mid new set name input read a more is stands files allows r =
      let stands' : Stands s.left s.is_open s.opens s.faults (s.file mid name) mid new (ended r.bytes) = subst (Stands s.left s.is_open s.opens s.faults (s.file mid name) mid new) r.all stands in
      let sum = sum_by-append (λ (file : List ℕ). length file) whole (r.bytes ∷ []) in
      let count : length (whole ++ r.bytes ∷ []) ≡ length whole + 1 = length-append whole (r.bytes ∷ []) in
      record {
        given = given_push whole mid new name r.bytes a.given more is stands' files allows;
        good = good_push whole set r.bytes a.good a.are r.has.good;
        are = set_push whole set r.bytes (Some read) a.are r.has.are;
        before = r.has.after;
        short = rw count (omega (arith, sum, a.short, r.has.short, r.has.more));
      }

  -- where a file was not read, its reading is that of the list
  pub stands_at : (whole : List (List ℕ)) (mid new : S) (set : Option SetValue) (name : List ℕ) (input : Reading) → AreRead s names whole old mid set → length whole < length names → name ≡ get_or names (length whole) [] → Stands s.left s.is_open s.opens s.faults (s.file mid name) mid new input → StandsBehind s names old new (record { whole = whole; next = input })
  stands_at whole mid new set name input a more is stands = record {
    between = mid;
    given = a.given;
    next = subst (λ (f : Option (List ℕ)). Stands s.left s.is_open s.opens s.faults f mid new input) (ap (λ (f : List ℕ → Option (List ℕ)). f name) a.given.files ∙ ap (s.file old) is) stands;
    room = inr more;
  }

  -- where all were read, the list was
  pub stands_all : (whole : List (List ℕ)) (new : S) (set : Option SetValue) → AreRead s names whole old new set → StandsBehind s names old new (all_read whole)
  stands_all whole new set a = record { between = new; given = a.given; next = refl; room = inl refl }

-- a set before has no more bodies than there may be
few_before : (set : Option SetValue) → AreBefore set → count_of set ≤ max_bodies
few_before None h = omega arith
few_before (Some set) h = h.few

-- the reading of the list is prompt where that of the next file is
pub prompt_at : {S : Type 0} (s : sources.Ghosts S) (names whole : List (List ℕ)) (old mid : S) (set : Option SetValue) (input : Reading) → AreRead s names whole old mid set → length whole < length names → length names ≤ max_files → IsPromptBehind set input → IsPrompt (record { whole = whole; next = input })
prompt_at s names whole old mid set input a more few p =
    let room = few_before set a.before in
    record {
      early = so_far whole set (but_a_piece (taken input)) a.good a.are p.early;
      few = omega (arith, a.short, p.few, room, more, few);
    }

-- where all files were read it is
pub prompt_all : {S : Type 0} (s : sources.Ghosts S) (names whole : List (List ℕ)) (old new : S) (set : Option SetValue) → AreRead s names whole old new set → length names ≤ max_files → IsPrompt (all_read whole)
prompt_all s names whole old new set a few =
    let room = few_before set a.before in
    record {
      early = so_far whole set [] a.good a.are (nothing_undecided set);
      few = omega (arith, a.short, a.given.few, room, few);
    }

-- what stops the next file stops the list
pub stopped_there : {S : Type 0} (s : sources.Ghosts S) (names whole : List (List ℕ)) (old mid : S) (set : Option SetValue) (input : Reading) (error : FileError) → AreRead s names whole old mid set → StopsFile set input error → Stopped (record { whole = whole; next = input }) (stopped_at (suc (length whole)) error)
stopped_there s names whole old mid set input Broken a h = (h.0, so_far whole set (taken input) a.good a.are h.1)
stopped_there s names whole old mid set input (Refused f) a h = (h.0, decide whole set input f a.good a.are h.0 h.1)
stopped_there s names whole old mid set input Memory a h = h

-- the bodies of all files were read
pub reads_all : {S : Type 0} (s : sources.Ghosts S) (names whole : List (List ℕ)) (old new : S) (set : SetValue) → AreRead s names whole old new (Some set) → (count : ℕ) → length whole ≡ count → ReadsBodies count (all_read whole) set
reads_all s names whole old new set a count all = record { all = refl; number = all; has = record { good = a.good; are = a.are } }

some_set : (o : Option SetValue) (set : SetValue) → o ≡ Some set → IsSome o
some_set None set e = absurd cc
some_set (Some s) set e = search rules

set_behind_some : (whole : List (List ℕ)) (o : Option SetValue) → fault_of whole ≡ None → set_of_files None whole ≡ o → 1 ≤ length whole → IsSome o
set_behind_some [] o good are some = absurd (omega (arith, some))
set_behind_some (file ∷ files) o good are some = let s = has_set None 0 file files good in some_set o s.0 (sym are ∙ s.1)

-- behind at least one file there is a set
pub set_is_some : {S : Type 0} (s : sources.Ghosts S) (names whole : List (List ℕ)) (old new : S) (set : Option SetValue) → AreRead s names whole old new set → 1 ≤ length whole → IsSome set
set_is_some s names whole old new set a some = set_behind_some whole set a.good a.are some

-- the name of the next file
pub name_at : (names : List (Bor (List ℕ))) (i k : ℕ) → k ≡ i → (slice_index_or names i (record { ref_ptr = (0, 0); now = [] })).now ≡ get_or (map (λ (name : Bor (List ℕ)). name.now) names) k []
name_at names i k e = rw e (sym (get_or-map (λ (name : Bor (List ℕ)). name.now) names i (record { ref_ptr = (0, 0); now = [] })))

-- as many names as there are
pub names_length : (names : List (Bor (List ℕ))) → length (map (λ (name : Bor (List ℕ)). name.now) names) ≡ length names
names_length [] = refl
names_length (name ∷ names) = ap suc (names_length names)

-- the next open may have the next name
pub allowed_at : {S : Type 0} (s : sources.Ghosts S) (names whole : List (List ℕ)) (old mid : S) (set : Option SetValue) (name : List ℕ) → AreRead s names whole old mid set → length whole < length names → name ≡ get_or names (length whole) [] → AreAllowed (s.allows old) (s.opens old) names → s.allows mid (s.opens mid) name ≡ true
allowed_at s names whole old mid set name a more is h =
    rw (a.given.allows, a.given.opens, is) (h (length whole) more)
