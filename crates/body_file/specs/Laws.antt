-- The law of files.
use Rattle.std.specs.Prelude.{◌≡◌, ℕ, List, ◌∷◌, None}
use Rattle.body_set.specs.Sets.{SetValue}
use Rattle.body_file.specs.Files.{fault_of, HasBodies}

-- files without a fault have bodies
abbrev pub HaveVerdicts : Type 0
HaveVerdicts = (file : List ℕ) (files : List (List ℕ)) → fault_of (file ∷ files) ≡ None → (set : SetValue) × HasBodies (file ∷ files) set
