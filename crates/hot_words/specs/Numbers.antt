-- Values as the words give them.
use Rattle.std.specs.Prelude.{ℕ, ◌^◌, Bool, true, false, ◌&&◌, nat_lt, nat_le, ◌==◌, if◌then◌else◌, List, length, Option, Some, None, codes}
use Rattle.std.specs.Option.{option_map}
use Rattle.std.specs.Str.{all_ascii_digits, bytes_eq}
use Rattle.std.specs.Str.Parse.{digits_value}
use Rattle.std.specs.List.{before_first, after_first}
use Rattle.hot_units.specs.Limits.{max_ranks, max_leaf, max_generated, max_ratio, max_softening}
use Rattle.hot_units.specs.declared.mail.Mail.{Mail}
use Rattle.hot_units.specs.declared.mail.Mail.TheVariants.{Prompt, Last, Single, Seeded}
use Rattle.fixed_kernel.specs.Ratio.{RatioValue}
use Rattle.near_walk.specs.Limits.{max_radius}

-- the most digits of a number
abbrev pub max_digits : ℕ
max_digits = 20

-- one digit to twenty, whose value fits 64 bits
abbrev pub is_number : List ℕ → Bool
is_number word = nat_lt 0 (length word) && nat_le (length word) max_digits && all_ascii_digits word && nat_lt (digits_value 10 word) (2 ^ 64)

-- the value of a number
abbrev pub number_of : List ℕ → Option ℕ
number_of word = if is_number word then Some (digits_value 10 word) else None

-- a number within two limits
abbrev pub within : ℕ → ℕ → Option ℕ → Option ℕ
within low high None = None
within low high (Some n) = if nat_le low n && nat_le n high then Some n else None

-- how many ranks
abbrev pub ranks_of : List ℕ → Option ℕ
ranks_of word = within 1 max_ranks (number_of word)

-- a leaf limit
abbrev pub leaf_of : List ℕ → Option ℕ
leaf_of word = within 1 max_leaf (number_of word)

-- the order of the moments
abbrev pub moments_of : List ℕ → Option ℕ
moments_of word = within 1 2 (number_of word)

-- how many bodies are made
abbrev pub bodies_of : List ℕ → Option ℕ
bodies_of word = within 0 max_generated (number_of word)

-- a softening
abbrev pub softening_of : List ℕ → Option ℕ
softening_of word = within 1 max_softening (number_of word)

-- a radius
abbrev pub radius_of : List ℕ → Option ℕ
radius_of word = within 0 max_radius (number_of word)

-- a ratio of two numbers
abbrev pub ratio_by : Option ℕ → Option ℕ → Option RatioValue
ratio_by None den = None
ratio_by (Some num) None = None
ratio_by (Some num) (Some den) = Some (record { num = num; den = den })

-- the byte between the two numbers of a ratio
abbrev pub is_slash : ℕ → Bool
is_slash byte = byte == 47

-- a ratio: two numbers with one slash between them
abbrev pub ratio_of : List ℕ → Option RatioValue
ratio_of word = ratio_by (within 0 max_ratio (number_of (before_first is_slash word))) (within 1 max_ratio (number_of (after_first is_slash word)))

-- how letters are handed out: by a name, or by draws from a number
abbrev pub mail_of : List ℕ → Option Mail
mail_of word =
    if bytes_eq word (codes "prompt") then Some Prompt
    else (if bytes_eq word (codes "last") then Some Last
    else (if bytes_eq word (codes "single") then Some Single
    else option_map (λ seed. Seeded seed) (number_of word)))

-- the form of the output: whether it is SDF
abbrev pub form_of : List ℕ → Option Bool
form_of word =
    if bytes_eq word (codes "text") then Some false
    else (if bytes_eq word (codes "sdf") then Some true else None)
