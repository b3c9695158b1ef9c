use Rattle.std.proofs.Common.{◌∙◌, sym, ap}
use Rattle.std.specs.FinMap as map
use Rattle.cell_hash.proofs.Entered.{len_of}
use Rattle.cell_hash.proofs.table.CellTable.len.Goals as goal

pub returns : goal.returns
returns g c = record { value = c.len.ensures.value ∙ sym (len_of _ _ c.self.invariant.0 c.self.invariant.1) ∙ ap map.len c.self.view_is }
