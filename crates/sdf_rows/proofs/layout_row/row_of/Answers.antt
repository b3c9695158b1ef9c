use Rattle.std.proofs.Common.{◌≡◌, ℤ, pos, negsuc, refl, arith}
use Rattle.std.proofs.lemmas.Int.{ints}
use Rattle.hot_units.proofs.Signed.{stored}
use Rattle.sdf_rows.specs.Columns.{Is64Bits}
use Rattle.sdf_rows.proofs.layout_row.row_of.Goals as goal
use mir.Syntax.{w128}
use mir.Val.{SFits, of_z, to_z}

-- what fits 64 bits fits 128
fits_128 : (z : ℤ) → Is64Bits z → SFits w128 z
fits_128 (pos n) h = record { sfits = omega (arith, ints, h.1) }
fits_128 (negsuc n) h = record { sfits = omega (arith, ints, h.0) }

-- and is kept whole
whole : (r z : ℤ) → Is64Bits r → r ≡ z → to_z w128 (of_z w128 r) ≡ z
whole r z h e = stored r z (fits_128 r h) e

-- each number of the row is that of its column, or what stands for one that is absent
pub returns-clause-value : goal.returns-clause-value
returns-clause-value c =
    rw (
      ← c.layout.view_is,
      whole c.number_at.result _ c.number_at.ensures.fits c.number_at.ensures.value,
      whole c.number_at-2.result _ c.number_at-2.ensures.fits c.number_at-2.ensures.value,
      whole c.number_at-3.result _ c.number_at-3.ensures.fits c.number_at-3.ensures.value,
      whole c.number_or.result _ c.number_or.ensures.fits c.number_or.ensures.value,
      whole c.number_or-2.result _ c.number_or-2.ensures.fits c.number_or-2.ensures.value,
      whole c.number_or-3.result _ c.number_or-3.ensures.fits c.number_or-3.ensures.value,
      c.number_if_there.ensures.value,
      c.number_if_there-2.ensures.value,
      c.number_if_there-3.ensures.value,
      c.from.ensures,
    ) refl
