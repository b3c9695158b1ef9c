-- A table after a list of writes, each an insert or a write behind a reference that was lent.
use Rattle.std.specs.Prelude.{ℕ, ◌≡◌, ◌+◌, eqb, if◌then◌else◌, List, [], ◌∷◌, Option, Some, None, is_some}
use Rattle.std.specs.Ordering.{nat_cmp}
use Rattle.std.specs.FinMap as map

-- the map after writes of a key and a value, the last one first
abbrev pub written : {T : Type 0} → List (ℕ × T) → map.FinMap nat_cmp T
written [] = map.empty
written (w ∷ ws) = map.insert (written ws) w.0 w.1

-- the value that was written last with a key
abbrev pub last_value : {T : Type 0} → ℕ → List (ℕ × T) → Option T
last_value key [] = None
last_value key (w ∷ ws) = if eqb key w.0 then Some w.1 else last_value key ws

-- how many writes were the first of their key
abbrev pub first_writes : {T : Type 0} → List (ℕ × T) → ℕ
first_writes [] = 0
first_writes (w ∷ ws) = first_writes ws + (if is_some (last_value w.0 ws) then 0 else 1)

-- after any writes each key has the value that was written with it last, a key that was not written has none, and there
-- are as many keys as were written
pub record LastWritesStand {T : Type 0} (writes : List (ℕ × T)) : Type 0 where
  pub value : (key : ℕ) → map.get (written writes) key ≡ last_value key writes
  pub count : map.len (written writes) ≡ first_writes writes
