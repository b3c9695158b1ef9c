-- What a command reads, and what it runs.
use Rattle.std.specs.Prelude.{ℕ, zero, suc, List, [], ◌∷◌, Option, Some, None, Result, Ok, Err, codes}
use Rattle.std.specs.Option.{unwrap_or}
use Rattle.hot_words.specs.declared.faults.WordFault.{WordFault}
use Rattle.hot_words.specs.Commands.{CommandValue, forces, split, make, sample, near}
use Rattle.hot_words.specs.Words.{command_of}
use Rattle.hot_words.specs.Names.{names_at}
use Rattle.hot.specs.Runs.{RunValue, gravity_run, near_run}

-- the place of the first word that names a file of a command, and how many such words there are, where it reads files
abbrev pub input_of : CommandValue → Option (ℕ × ℕ)
input_of (forces job) = Some (job.first, job.files)
input_of (split ranks first files) = Some (first, files)
input_of (make bodies seed) = None
input_of (sample bodies seed job) = None
input_of (near radius job) = Some (job.first, job.files)

-- the names of so many files from a place of the words on; where there are none, that of standard input
abbrev pub input_names : List (List ℕ) → (first files : ℕ) → List (List ℕ)
input_names words first zero = codes "-" ∷ []
input_names words first (suc files) = names_at first (suc files) words

-- the same where files are read
abbrev pub names_in : List (List ℕ) → Option (ℕ × ℕ) → Option (List (List ℕ))
names_in words None = None
names_in words (Some place) = Some (input_names words place.0 place.1)

-- the names of the files that a command of these words reads, where it reads files
abbrev pub files_of : List (List ℕ) → CommandValue → Option (List (List ℕ))
files_of words command = names_in words (input_of command)

-- the same where there is a command
abbrev pub files_by : List (List ℕ) → Result CommandValue WordFault → Option (List (List ℕ))
files_by words (Ok command) = files_of words command
files_by words (Err fault) = None

-- the names of the files that the words name, where they give a command that reads files
abbrev pub files_named : List (List ℕ) → Option (List (List ℕ))
files_named words = files_by words (command_of words)

-- the same, and none where no file is read
abbrev pub names_of : List (List ℕ) → List (List ℕ)
names_of words = unwrap_or (files_named words) []

-- the run over ranks that a command makes, where it makes one
abbrev pub run_of : CommandValue → Option RunValue
run_of (forces job) = Some (gravity_run job)
run_of (split ranks first files) = None
run_of (make bodies seed) = None
run_of (sample bodies seed job) = Some (gravity_run job)
run_of (near radius job) = Some (near_run radius job)

-- the same where there is a command
abbrev pub run_by : Result CommandValue WordFault → Option RunValue
run_by (Ok command) = run_of command
run_by (Err fault) = None

-- the run over ranks that the words ask for, where they do
abbrev pub run_named : List (List ℕ) → Option RunValue
run_named words = run_by (command_of words)
