-- Keys and their values, by places in two lists.
use Rattle.std.specs.Prelude.{ℕ, ◌≡◌, ◌≢◌, ◌<◌, ◌≤◌, List, [], ◌∷◌, length, get_or}

-- each key with its value
abbrev pub pairs_of : {T : Type 0} → List ℕ → List T → List (ℕ × T)
pairs_of [] values = []
pairs_of (k ∷ ks) [] = []
pairs_of (k ∷ ks) (v ∷ vs) = (k, v) ∷ pairs_of ks vs

-- the key stands at a place
pub record StandsAt (keys : List ℕ) (place key : ℕ) : Type 0 where
  pub within : place < length keys
  pub key_is : get_or keys place 0 ≡ key

-- the key stands at no place from one on
abbrev pub IsAbsentFrom : List ℕ → ℕ → ℕ → Type 0
IsAbsentFrom keys from key = (place : ℕ) → from ≤ place → place < length keys → get_or keys place 0 ≢ key

-- no key stands twice
abbrev pub AreApart : List ℕ → Type 0
AreApart keys = (i j : ℕ) → i < length keys → j < length keys → get_or keys i 0 ≡ get_or keys j 0 → i ≡ j
