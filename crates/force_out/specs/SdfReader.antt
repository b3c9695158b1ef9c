-- What a reader of the file has back.
use Rattle.std.specs.Prelude.{◌≡◌, ◌+◌, ◌*◌, ◌^◌, ◌↔◌, ◌+ℤ◌, ◌*ℤ◌, ℕ, ℤ, pos, List, length, drop, Some, FitsSigned}
use Rattle.std.specs.List.{slice_get}
use Rattle.std.specs.Int.{w128}
use Rattle.byteorder.specs.Endian.{little_number, twos_complement}
use Rattle.hot_units.specs.Values.{Acc3Value}
use Rattle.force_out.specs.ForcesSdf.{AreHalves, high_half, low_half, header, forces_sdf}

-- the value of the two columns that begin these bytes: a signed and an unsigned number, joined
abbrev pub value_of : List ℕ → ℤ
value_of bytes = (twos_complement 8 (little_number 8 bytes) *ℤ pos (2 ^ 64)) +ℤ pos (little_number 8 (drop 8 bytes))

-- where the row of body k begins in a file of so many bodies
abbrev pub row_place : ℕ → ℕ → ℕ
row_place count k = length (header count) + 64 * k

-- the row at this place tells the ident and the force
pub record TellsBody (file : List ℕ) (place : ℕ) (name : ℤ) (force : Acc3Value) : Type 0 where
  pub ident : value_of (drop place file) ≡ name
  pub ax : value_of (drop (place + 16) file) ≡ force.ax
  pub ay : value_of (drop (place + 32) file) ≡ force.ay
  pub az : value_of (drop (place + 48) file) ≡ force.az

-- these are numbers of 128 bits, as each ident and each component is
pub record Are128Bits (name : ℤ) (force : Acc3Value) : Type 0 where
  pub ident : FitsSigned w128 name
  pub ax : FitsSigned w128 force.ax
  pub ay : FitsSigned w128 force.ay
  pub az : FitsSigned w128 force.az

-- a value has one high and one low half, and these are they
abbrev pub HasOneParting : Type 0
HasOneParting = (value hi : ℤ) (lo : ℕ) → AreHalves value hi lo ↔ ((hi ≡ high_half value) × (lo ≡ low_half value))

-- row k tells of body k
abbrev pub TellsAllBodies : Type 0
TellsAllBodies =
    (idents : List ℤ) (forces : List Acc3Value) (k : ℕ) (ident : ℤ) (force : Acc3Value) → slice_get idents k ≡ Some ident → slice_get forces k ≡ Some force → Are128Bits ident force
    → TellsBody (forces_sdf idents forces) (row_place (length forces) k) ident force
