-- The six numbers of a symmetric table.
use Rattle.std.specs.Prelude.{ℤ}
use Rattle.hot_units.specs.Values.{Products}

-- a number for each two axes
abbrev pub products_of : ℤ → ℤ → ℤ → ℤ → ℤ → ℤ → Products
products_of xx yy zz xy xz yz = record { xx = xx; yy = yy; zz = zz; xy = xy; xz = xz; yz = yz }
