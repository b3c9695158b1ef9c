-- What is known of a source and of a sink over the system.
use Rattle.std.specs.Prelude.{ℕ, Bool, List, Option}

-- a source over the system, as its callers see it: its bytes are not told
pub record OpenFiles : Type 0 where
  pub is_open : Bool
  pub opens : ℕ
  pub faults : ℕ

-- a sink over the system, as its callers see it: what its writer tells of its contents
pub record OpenPage : Type 0 where
  pub contents : Option (List ℕ)
  pub faults : ℕ
