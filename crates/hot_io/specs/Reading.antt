-- How far a call read a file.
use Rattle.std.specs.Prelude.{◌≡◌, ℕ, ◌+◌, ◌<◌, Bool, true, false, List, [], Option, IfSome}
use Rattle.std.specs.Io.KnownBytes.{Consumes}

-- where a call stood with its file when it returned
pub data Reading : Type 0 where
  unread : Reading  -- the source was not touched
  unopened : Reading  -- its `open` failed
  unfinished : List ℕ → Reading  -- these bytes were taken, and no end was seen
  ended : List ℕ → Reading  -- these bytes were taken, and then the end was seen
  broken : List ℕ → Reading  -- these bytes were taken, and then a read failed

-- the bytes that were taken
abbrev pub taken : Reading → List ℕ
taken unread = []
taken unopened = []
taken (unfinished bytes) = bytes
taken (ended bytes) = bytes
taken (broken bytes) = bytes

-- the end was seen
abbrev pub has_ended : Reading → Bool
has_ended unread = false
has_ended unopened = false
has_ended (unfinished bytes) = false
has_ended (ended bytes) = true
has_ended (broken bytes) = false

-- the source failed
abbrev pub has_failed : Reading → Bool
has_failed unread = false
has_failed unopened = true
has_failed (unfinished bytes) = false
has_failed (ended bytes) = false
has_failed (broken bytes) = true

-- these are all the bytes of the file, where it tells them
abbrev pub IsAll : Option (List ℕ) → List ℕ → Type 0
IsAll file bytes = IfSome file (λ all. bytes ≡ all)

-- The source stands at the end of a call as the reading says, and it was opened once, or not at all where nothing was
-- read. `file` is what it tells of the file's bytes.
abbrev pub Stands : {S : Type 0} → (left : S → Option (List ℕ)) (is_open : S → Bool) (opens faults : S → ℕ) → (file : Option (List ℕ)) (old new : S) → Reading → Type 0
Stands left is_open opens faults file old new unread = new ≡ old
Stands left is_open opens faults file old new unopened = (faults old < faults new) × (is_open new ≡ false) × (opens new ≡ opens old + 1)
Stands left is_open opens faults file old new (unfinished bytes) = (faults new ≡ faults old) × (is_open new ≡ true) × Consumes file (left new) bytes × (opens new ≡ opens old + 1)
Stands left is_open opens faults file old new (ended bytes) = (faults new ≡ faults old) × (is_open new ≡ false) × IsAll file bytes × (opens new ≡ opens old + 1)
Stands left is_open opens faults file old new (broken bytes) = (faults old < faults new) × (is_open new ≡ true) × Consumes file (left new) bytes × (opens new ≡ opens old + 1)
