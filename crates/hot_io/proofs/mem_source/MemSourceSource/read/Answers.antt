use Rattle.std.proofs.Common.{arith}
use Rattle.std.proofs.lemmas.Grind.{common_steps}
use Rattle.hot_io.proofs.mem_source.MemSourceSource.read.Goals as goal

pub overflow_add-self-in_default-count : goal.overflow_add-self-in_default-count
overflow_add-self-in_default-count c = grind (arith, common_steps)
