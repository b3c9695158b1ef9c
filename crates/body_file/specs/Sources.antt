-- How a source stands behind the reading of a list of files.
use Rattle.std.specs.Prelude.{◌≡◌, ℕ, ◌+◌, ◌<◌, ◌≤◌, ◌⊎◌, Bool, true, false, List, [], length, get_or, Option}
use Rattle.hot_io.specs.declared.outside.Source as sources
use Rattle.hot_io.specs.Reading.{Stands, IsAll, unread}
use Rattle.body_file.specs.Files.{FilesRead}

-- the opens from this number on may have these names, one after another
abbrev pub AreAllowed : (ℕ → List ℕ → Bool) → ℕ → List (List ℕ) → Type 0
AreAllowed allows opens names = (k : ℕ) → k < length names → allows (opens + k) (get_or names k []) ≡ true

-- what is told of the file of name k
abbrev pub told_at : (List ℕ → Option (List ℕ)) → List (List ℕ) → ℕ → Option (List ℕ)
told_at file names k = file (get_or names k [])

-- the source has given these whole files, which have the first of the names, one open each
pub record HasGiven {S : Type 0} (s : sources.Ghosts S) (names whole : List (List ℕ)) (old new : S) : Type 0 where
  pub few : length whole ≤ length names
  pub told : (k : ℕ) → k < length whole → IsAll (told_at (s.file old) names k) (get_or whole k [])
  pub faults : s.faults new ≡ s.faults old
  pub closed : s.is_open new ≡ false
  pub opens : s.opens new ≡ s.opens old + length whole
  pub files : s.file new ≡ s.file old
  pub allows : s.allows new ≡ s.allows old
  pub none : whole ≡ [] → new ≡ old

-- the source has given the whole files, and stands with the next as the reading says; only where all were read is there
-- no next
pub record StandsBehind {S : Type 0} (s : sources.Ghosts S) (names : List (List ℕ)) (old new : S) (r : FilesRead) : Type 0 where
  pub between : S
  pub given : HasGiven s names r.whole old between
  pub next : Stands s.left s.is_open s.opens s.faults (told_at (s.file old) names (length r.whole)) between new r.next
  pub room : (r.next ≡ unread) ⊎ (length r.whole < length names)
