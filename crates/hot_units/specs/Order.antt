-- The order of bodies: by key, and then by row.
use Rattle.std.specs.Prelude.{Bool, cond, eqb, ltb, ◌&&◌, ◌||◌, List, [], ◌∷◌, IsSortedBy}
use Rattle.hot_units.specs.Values.{BodyValue}
use Rattle.hot_units.specs.Keys.{key_of_body}

-- a has a smaller key than b, or the same key and a smaller row
unfoldable pub before : BodyValue → BodyValue → Bool
before a b = ltb (key_of_body a) (key_of_body b) || (eqb (key_of_body a) (key_of_body b) && ltb a.row b.row)

-- a list in order with one more body
unfoldable pub placed : BodyValue → List BodyValue → List BodyValue
placed b [] = b ∷ []
placed b (x ∷ xs) = cond (before b x) (b ∷ x ∷ xs) (x ∷ placed b xs)

-- the bodies by ascending key and then row
unfoldable pub ordered : List BodyValue → List BodyValue
ordered [] = []
ordered (x ∷ xs) = placed x (ordered xs)

-- no body stands right behind one that it is before
abbrev pub IsInOrder : List BodyValue → Type 0
IsInOrder bodies = IsSortedBy before bodies
