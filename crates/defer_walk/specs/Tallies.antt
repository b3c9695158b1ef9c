-- The opened pairs of a walk.
use Rattle.std.specs.Prelude.{ℕ, zero, suc, ◌≡◌, ◌+◌, ◌↔◌, List, ◌++◌, length, Contains, ◌⊎◌}

-- how many pairs of body and cell were opened, and the keys of their cells
pub record TallyValue : Type 0 where
  pub opened : ℕ
  pub cells : List ℕ

-- pairs with these cells were opened
pub record Notes (old new : TallyValue) (keys : List ℕ) : Type 0 where
  pub count : new.opened ≡ old.opened + length keys
  pub has : (k : ℕ) → Contains new.cells k ↔ (Contains old.cells k ⊎ Contains keys k)

-- the same number and the same cells
pub record IsSameTally (old new : TallyValue) : Type 0 where
  pub count : new.opened ≡ old.opened
  pub has : (k : ℕ) → Contains new.cells k ↔ Contains old.cells k

-- after pairs with these cells were opened, so many times
abbrev pub noted : List ℕ → TallyValue → ℕ → TallyValue
noted keys t zero = t
noted keys t (suc n) = record { opened = (noted keys t n).opened + length keys; cells = (noted keys t n).cells ++ keys }

-- so many pairs with one cell were opened
pub record NotesTimes (old new : TallyValue) (key times : ℕ) : Type 0 where
  pub count : new.opened ≡ old.opened + times
  pub has : (k : ℕ) → Contains new.cells k ↔ (Contains old.cells k ⊎ (k ≡ key))
