use Rattle.std.proofs.Common.{ℕ, ◌≡◌, ◌+◌, Bool, true, false, List, [], ◌∷◌, ◌∙◌, refl, arith}
use Rattle.std.specs.Prelude.{if◌then◌else◌, is_some}
use Rattle.std.specs.Ordering.{nat_cmp}
use Rattle.std.specs.Cmp.{nat_cmp_total, unsigned_tied}
use Rattle.std.specs.FinMap as map
use Rattle.cell_hash.specs.Writes.{written, last_value, first_writes}
use Rattle.cell_hash.proofs.laws.last_writes_stand.Goals as goal

value_after : {T : Type 0} (writes : List (ℕ × T)) (key : ℕ) → map.get (written writes) key ≡ last_value key writes
value_after [] key = map.get-empty nat_cmp key
value_after (w ∷ ws) key =
    map.get-insert nat_cmp_total (written ws) w.0 w.1 key
    ∙ rw (unsigned_tied key w.0, value_after ws key) refl

one_more_or_none : (had : Bool) (n : ℕ) → (if had then n else n + 1) ≡ n + (if had then 0 else 1)
one_more_or_none true n = omega arith
one_more_or_none false n = refl

count_after : {T : Type 0} (writes : List (ℕ × T)) → map.len (written writes) ≡ first_writes writes
count_after {T} [] = map.len-empty nat_cmp T
count_after (w ∷ ws) =
    map.len-insert nat_cmp_total (written ws) w.0 w.1
    ∙ rw (value_after ws w.0, count_after ws) (one_more_or_none (is_some (last_value w.0 ws)) (first_writes ws))

pub returns : goal.returns
returns g c = record { law = λ writes. record { value = value_after writes; count = count_after writes } }
