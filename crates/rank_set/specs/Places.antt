-- Results in the order of the rows of their bodies.
use Rattle.std.specs.Prelude.{◌≡◌, ℕ, ◌<◌, List, length, get_or}
use Rattle.hot_units.specs.Values.{BodyValue}

-- there are as many as bodies, and the result of each body stands at its row
pub record ArePlaced {A : Type 0} (bodies : List BodyValue) (results placed : List A) : Type 0 where
  pub all : length placed ≡ length bodies
  pub at : (i : ℕ) (b : BodyValue) (d : A) → i < length bodies → get_or placed (get_or bodies i b).row d ≡ get_or results i d
