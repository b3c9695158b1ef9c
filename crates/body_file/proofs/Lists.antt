-- The faults and the bodies of files, one behind another.
use Rattle.std.proofs.Common.{◌≡◌, ℕ, suc, ◌+◌, true, false, List, [], ◌∷◌, ◌++◌, length, Option, Some, None, refl, sym, ap, ◌∙◌, arith}
use Rattle.hot_io.specs.Reading.{Reading, unread, unopened, unfinished, ended, broken, taken, has_ended, has_failed}
use Rattle.body_set.specs.Sets.{SetValue}
use Rattle.body_file.specs.declared.fault.FileFault.{FileFault}
use Rattle.body_file.specs.declared.fault.FoundFault.{FoundFault}
use Rattle.body_file.specs.Faults.{decided_behind, Decides}
use Rattle.body_file.specs.Files.{set_behind, set_of_files, found_in, first_found, fault_from, fault_of, fault_so_far, GoesOn, DecideFault}
use Rattle.body_file.proofs.Readings.{nothing_undecided}

-- ---- lists

-- where the first of two faults is none, neither is there
pub none_found : (a b : Option FoundFault) → first_found a b ≡ None → (a ≡ None) × (b ≡ None)
none_found None b e = (refl, e)
none_found (Some f) b e = absurd cc

-- the set of two lists of files
pub sets_append : (before : Option SetValue) (whole later : List (List ℕ)) → set_of_files before (whole ++ later) ≡ set_of_files (set_of_files before whole) later
unfolding set_of_files
sets_append before [] later = refl
sets_append before (file ∷ whole) later = sets_append (set_behind before file) whole later

-- the fault of files that follow some without one
pub faults_append : (before : Option SetValue) (count : ℕ) (whole later : List (List ℕ)) → fault_from before count whole ≡ None → fault_from before count (whole ++ later) ≡ fault_from (set_of_files before whole) (count + length whole) later
unfolding fault_from set_of_files
faults_append before count [] later good = let e : count ≡ count + 0 = omega arith in ap (λ (n : ℕ). fault_from before n later) e
faults_append before count (file ∷ whole) later good =
    let parts = none_found (found_in (suc count) (decided_behind before true file)) (fault_from (set_behind before file) (suc count) whole) good in
    let e : suc count + length whole ≡ count + suc (length whole) = omega arith in
    ap (λ (o : Option FoundFault). first_found o (fault_from (set_behind before file) (suc count) (whole ++ later))) parts.0
    ∙ faults_append (set_behind before file) (suc count) whole later parts.1
    ∙ ap (λ (n : ℕ). fault_from (set_of_files (set_behind before file) whole) n later) e

-- the fault of files that go on with this one
next_fault : (whole : List (List ℕ)) (set : Option SetValue) (file : List ℕ) (later : List (List ℕ)) → fault_of whole ≡ None → set_of_files None whole ≡ set → fault_of (whole ++ file ∷ later) ≡ first_found (found_in (suc (length whole)) (decided_behind set true file)) (fault_from (set_behind set file) (suc (length whole)) later)
unfolding fault_from
next_fault whole set file later good are =
    let e : 0 + length whole ≡ length whole = omega arith in
    faults_append None 0 whole (file ∷ later) good
    ∙ ap (λ (n : ℕ). fault_from (set_of_files None whole) n (file ∷ later)) e
    ∙ ap (λ (s : Option SetValue). fault_from s (length whole) (file ∷ later)) are

-- one more file without a fault
pub good_push : (whole : List (List ℕ)) (set : Option SetValue) (file : List ℕ) → fault_of whole ≡ None → set_of_files None whole ≡ set → decided_behind set true file ≡ None → fault_of (whole ++ file ∷ []) ≡ None
unfolding fault_from
good_push whole set file good are h =
    next_fault whole set file [] good are ∙ ap (λ (o : Option FileFault). first_found (found_in (suc (length whole)) o) None) h

-- and its set
pub set_push : (whole : List (List ℕ)) (set : Option SetValue) (file : List ℕ) (new : Option SetValue) → set_of_files None whole ≡ set → set_behind set file ≡ new → set_of_files None (whole ++ file ∷ []) ≡ new
unfolding set_of_files
set_push whole set file new are h =
    sets_append None whole (file ∷ []) ∙ ap (λ (s : Option SetValue). set_behind s file) are ∙ h

-- files that go on with one at fault have that fault
pub fault_at : (whole : List (List ℕ)) (set : Option SetValue) (file : List ℕ) (later : List (List ℕ)) (f : FileFault) → fault_of whole ≡ None → set_of_files None whole ≡ set → decided_behind set true file ≡ Some f → fault_of (whole ++ file ∷ later) ≡ Some (record { fault = f; file = suc (length whole) })
fault_at whole set file later f good are h =
    next_fault whole set file later good are
    ∙ ap (λ (o : Option FileFault). first_found (found_in (suc (length whole)) o) (fault_from (set_behind set file) (suc (length whole)) later)) h

-- files without a fault and a front that decides none decide none
pub so_far : (whole : List (List ℕ)) (set : Option SetValue) (front : List ℕ) → fault_of whole ≡ None → set_of_files None whole ≡ set → decided_behind set false front ≡ None → fault_so_far whole front ≡ None
so_far whole set front good are h =
    ap (λ (o : Option FoundFault). first_found o (found_in (suc (length whole)) (decided_behind (set_of_files None whole) false front))) good
    ∙ ap (λ (s : Option SetValue). found_in (suc (length whole)) (decided_behind s false front)) are
    ∙ ap (λ (o : Option FileFault). found_in (suc (length whole)) o) h

-- ---- what was read decides a fault

-- the first of these files begins with these bytes, and has this fault behind the files of a set
record BeginsWith (set : Option SetValue) (f : FileFault) (later : List (List ℕ)) : Type 0 where
  file : List ℕ
  rest : List (List ℕ)
  all : later ≡ file ∷ rest
  bad : decided_behind set true file ≡ Some f

part_begins : (set : Option SetValue) (f : FileFault) (bytes : List ℕ) (later : List (List ℕ)) → Decides set false bytes f → GoesOn (unfinished bytes) later → BeginsWith set f later
part_begins set f bytes [] d h = absurd h
part_begins set f bytes (file ∷ rest) d h = record { file = file; rest = rest; all = refl; bad = ap (decided_behind set true) h.1 ∙ d h.0 true }

whole_begins : (set : Option SetValue) (f : FileFault) (bytes : List ℕ) (later : List (List ℕ)) → Decides set true bytes f → GoesOn (ended bytes) later → BeginsWith set f later
whole_begins set f bytes [] d h = absurd h
whole_begins set f bytes (file ∷ rest) d h = record { file = file; rest = rest; all = refl; bad = ap (decided_behind set true) h ∙ d }

-- no bytes decide no fault
nothing_decides : (set : Option SetValue) (f : FileFault) → Decides set false [] f → ⊥
nothing_decides set f d = let e : None ≡ Some f = sym (nothing_undecided set) ∙ d [] false in cc

begins_with : (set : Option SetValue) (f : FileFault) (input : Reading) (later : List (List ℕ)) → has_failed input ≡ false → Decides set (has_ended input) (taken input) f → GoesOn input later → BeginsWith set f later
begins_with set f unread later well d h = absurd (nothing_decides set f d)
begins_with set f unopened later well d h = absurd (cc)
begins_with set f (unfinished bytes) later well d h = part_begins set f bytes later d h
begins_with set f (ended bytes) later well d h = whole_begins set f bytes later d h
begins_with set f (broken bytes) later well d h = absurd (cc)

-- the fault that a file decides behind whole files without one is decided for all lists of files that go on
pub decide : (whole : List (List ℕ)) (set : Option SetValue) (input : Reading) (f : FileFault) → fault_of whole ≡ None → set_of_files None whole ≡ set → has_failed input ≡ false → Decides set (has_ended input) (taken input) f → DecideFault (record { whole = whole; next = input }) (record { fault = f; file = suc (length whole) })
decide whole set input f good are well d files goes_on =
    let b = begins_with set f input goes_on.0 well d goes_on.2 in
    ap fault_of (goes_on.1 ∙ ap (λ (l : List (List ℕ)). whole ++ l) b.all) ∙ fault_at whole set b.file b.rest f good are b.bad
