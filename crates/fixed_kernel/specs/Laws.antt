-- The law of the visit of gravity.
use Rattle.std.specs.Prelude.{◌≡◌, List}
use Rattle.hot_units.specs.Values.{BodyValue}
use Rattle.hot_units.specs.Bodies.{mass_of}
use Rattle.hot_model.specs.Trees.{Settings, terms, added, opens_of, force}
use Rattle.hot_model.specs.Forces.{gravity_adds, untouched, whole}

-- all terms of a body, added up, are the force of the recursive walk, and the mass of all bodies was seen
abbrev pub ForcesByTerms : Type 0
ForcesByTerms =
    (s : Settings) (bodies : List BodyValue) (b : BodyValue)
    → added (gravity_adds s.second s.eps b) untouched (terms (opens_of s b) s.leaf bodies) ≡ whole (mass_of bodies) (force s bodies b)
