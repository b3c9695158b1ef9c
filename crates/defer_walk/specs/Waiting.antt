-- The bodies that wait for cells that were asked for.
use Rattle.std.specs.Prelude.{ℕ, suc, ◌≡◌, if◌then◌else◌, true, false, List, [], ◌∷◌, ◌++◌, map, flat_map, All, Contains, Some, None, IsSome, slice_get, ◌⊎◌}
use Rattle.std.specs.Option.{is_some}
use Rattle.std.specs.Ordering.{nat_cmp}
use Rattle.std.specs.FinMap as table
use Rattle.defer_walk.specs.declared.asks.AskedCell.{AskedCell}
use Rattle.defer_walk.specs.declared.asks.Slot.{Slot}
use Rattle.defer_walk.specs.declared.held.Held.{Held}
use Rattle.defer_walk.specs.declared.listed.Listed.{Listed}
use Rattle.defer_walk.specs.Asked.{stored_at}
use Rattle.defer_walk.specs.Grouping.{listed_as, listed_of}

-- the cells that were asked for, and the pairs that wait for them
pub record AskedValue : Type 0 where
  pub slots : List Slot
  pub pairs : List Listed

-- the cells that were asked for, with their answers
abbrev pub slots_of : List AskedCell → List Slot
slots_of cells = map (λ c. c.slot) cells

-- the pairs that wait for a cell: of bodies that open it, and of those to which it is to be added whole
abbrev pub waiting_at : AskedCell → List Listed
waiting_at c = listed_as c.slot.key false c.opening.items ++ listed_as c.slot.key true c.adding.items

-- and for all cells, in the order of asking
abbrev pub all_waiting : List AskedCell → List Listed
all_waiting cells = flat_map waiting_at cells

-- a table of places by key
abbrev pub Places : Type 0
Places = table.FinMap nat_cmp ℕ

-- the table has the place of each cell that was asked for, and of no other key
pub record ArePlaced (places : Places) (cells : List AskedCell) : Type 0 where
  pub there : (i : ℕ) (c : AskedCell) → slice_get cells i ≡ Some c → table.get places c.slot.key ≡ Some i
  pub found : (key i : ℕ) → table.get places key ≡ Some i → (c : AskedCell) × (slice_get cells i ≡ Some c) × (c.slot.key ≡ key)

-- more pairs were put in, side by side
pub record Inserts (more old new : List Listed) : Type 0 where
  pub front : List Listed
  pub back : List Listed
  pub old_is : old ≡ front ++ back
  pub new_is : new ≡ front ++ (more ++ back)

-- these groups were taken out, one after the other
abbrev pub Takes : List Held → List Listed → List Listed → Type 0
Takes [] old new = old ≡ new
Takes (h ∷ hs) old new = (mid : List Listed) × Inserts (listed_of h) mid old × Takes hs mid new

-- how many cells lack their answers
abbrev pub unanswered_cells : List Slot → ℕ
unanswered_cells [] = 0
unanswered_cells (s ∷ ss) = if is_some s.answer then unanswered_cells ss else suc (unanswered_cells ss)

-- the cells of these keys have their answers, and of the pairs only those with such a cell may go on
pub record AreWoken (keys : List ℕ) (slots : List Slot) (pairs : List Listed) : Type 0 where
  pub answered : All (λ k. IsSome (stored_at slots k)) keys
  pub others : All (λ p. (stored_at slots p.key ≡ None) ⊎ Contains keys p.key) pairs
