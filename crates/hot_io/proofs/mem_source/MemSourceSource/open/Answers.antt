use Rattle.std.proofs.Common.{arith, ◌≡◌, Some, None}
use Rattle.std.proofs.lemmas.Grind.{common_steps}
use Rattle.hot_io.specs.MemSource.{file_of, bytes_at}
use Rattle.hot_io.proofs.Names.{file_of-position}
use Rattle.hot_io.proofs.mem_source.MemSourceSource.open.Goals as goal

pub returns-in-Some-clause-found : goal.returns-in-Some-clause-found
returns-in-Some-clause-found c =
    let h = file_of-position c.deref.result.now c.args.name.now (Some c.in-Some.file) c.in-Some.ensures.value in
    let is : file_of c.deref.result.now c.args.name.now ≡ Some (bytes_at c.deref.result.now c.in-Some.file) = h.1 in
    grind (arith, common_steps)

pub returns-in-Some-clause-ok : goal.returns-in-Some-clause-ok
returns-in-Some-clause-ok c =
    let h = file_of-position c.deref.result.now c.args.name.now (Some c.in-Some.file) c.in-Some.ensures.value in
    let is : file_of c.deref.result.now c.args.name.now ≡ Some (bytes_at c.deref.result.now c.in-Some.file) = h.1 in
    grind (arith, common_steps)

pub returns-in-None-clause-found : goal.returns-in-None-clause-found
returns-in-None-clause-found c =
    let h : file_of c.deref.result.now c.args.name.now ≡ None = file_of-position c.deref.result.now c.args.name.now None c.in-None.ensures.value in
    grind (arith, common_steps)
