-- What the options of words say, each by its value or by its default.
use Rattle.std.specs.Prelude.{ℕ, ◌-◌, Bool, false, List, length, Option, Some, None, codes}
use Rattle.std.specs.Option.{option_and_then, unwrap_or}
use Rattle.hot_units.specs.declared.mail.Mail.{Mail}
use Rattle.hot_units.specs.declared.mail.Mail.TheVariants.{Prompt}
use Rattle.fixed_kernel.specs.Ratio.{RatioValue}
use Rattle.hot_words.specs.declared.table.CommandName.{CommandName}
use Rattle.hot_words.specs.Numbers.{number_of, ranks_of, leaf_of, moments_of, bodies_of, softening_of, radius_of, ratio_of, mail_of, form_of}
use Rattle.hot_words.specs.Places.{is_given, value_of, files_place}

-- what the value of an option says; the default where there is none, or where it is not good, which is a fault
abbrev pub setting_of : {A : Type 0} → (List ℕ → Option A) → A → Option (List ℕ) → A
setting_of reads default value = unwrap_or (option_and_then reads value) default

-- how many ranks: 1 by default
abbrev pub ranks_given : CommandName → List (List ℕ) → ℕ
ranks_given name words = setting_of ranks_of 1 (value_of name words (codes "--ranks"))

-- the opening ratio of a command that is given none: 7/10
abbrev pub default_ratio : RatioValue
default_ratio = record { num = 7; den = 10 }

-- the softening of a command that is given none, in fine units
abbrev pub default_softening : ℕ
default_softening = 256

-- the order of the moments of a command that is given none
abbrev pub default_moments : ℕ
default_moments = 1

-- the opening ratio: 7/10 by default
abbrev pub ratio_given : CommandName → List (List ℕ) → RatioValue
ratio_given name words = setting_of ratio_of default_ratio (value_of name words (codes "--theta"))

-- the softening: 256 by default
abbrev pub softening_given : CommandName → List (List ℕ) → ℕ
softening_given name words = setting_of softening_of default_softening (value_of name words (codes "--eps"))

-- the leaf limit: 8 by default
abbrev pub leaf_given : CommandName → List (List ℕ) → ℕ
leaf_given name words = setting_of leaf_of 8 (value_of name words (codes "--leaf"))

-- the order of the moments: 1 by default
abbrev pub moments_given : CommandName → List (List ℕ) → ℕ
moments_given name words = setting_of moments_of default_moments (value_of name words (codes "--moments"))

-- how letters are handed out: promptly by default
abbrev pub mail_given : CommandName → List (List ℕ) → Mail
mail_given name words = setting_of mail_of Prompt (value_of name words (codes "--mail"))

-- whether the output is SDF: text by default
abbrev pub sdf_given : CommandName → List (List ℕ) → Bool
sdf_given name words = setting_of form_of false (value_of name words (codes "--form"))

-- whether a report is asked for
abbrev pub report_given : CommandName → List (List ℕ) → Bool
report_given name words = is_given name words (codes "--report") (length words)

-- the radius: 256 by default
abbrev pub radius_given : CommandName → List (List ℕ) → ℕ
radius_given name words = setting_of radius_of 256 (value_of name words (codes "--radius"))

-- how many bodies are made: 1000 by default
abbrev pub bodies_given : CommandName → List (List ℕ) → ℕ
bodies_given name words = setting_of bodies_of 1000 (value_of name words (codes "--bodies"))

-- the seed of the bodies: 0 by default
abbrev pub seed_given : CommandName → List (List ℕ) → ℕ
seed_given name words = setting_of number_of 0 (value_of name words (codes "--seed"))

-- from the first file on, how many words there are: none where there is no file
abbrev pub files_behind : Option ℕ → ℕ → ℕ × ℕ
files_behind None len = (0, 0)
files_behind (Some first) len = (first, len - first)

-- the place of the first file, and how many files there are; 0 and 0 without a file
abbrev pub files_given : CommandName → List (List ℕ) → ℕ × ℕ
files_given name words = files_behind (files_place name words) (length words)
