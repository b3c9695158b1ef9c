-- The value of a key that is lent to be written.
use Rattle.std.specs.Prelude.{ℕ, Option}
use Rattle.std.specs.Ordering.{nat_cmp}
use Rattle.std.specs.FinMap as map
use Rattle.std.specs.Borrow.{LendsIf, Fml, RattleType, MutBor}
use Rattle.cell_hash.specs.contracts.table.CellTable.{the_row}

-- where a reference is lent, the table ends with the last value behind it under the key, and else as it was
abbrev pub LendsValue : (T : RattleType) → MutBor (map.FinMap nat_cmp T.Denot) → ℕ → Option (MutBor T.Denot) → Fml
LendsValue T s key r = LendsIf (the_row T) T s r (λ w. map.insert s.now key w) s.now
