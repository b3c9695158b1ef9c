use Rattle.std.proofs.Common.{◌≡◌, Some, Ok, sym, ap}
use Rattle.std.proofs.lemmas.Map.Text.{btree_map_updates_str}
use Rattle.sdf_header.specs.Parts.{Names, given_of}
use Rattle.sdf_header.specs.Statements.{param_of, structs_of, and_given}
use Rattle.sdf_header.proofs.statement.give.Goals as goal

pub returns : goal.returns
returns c =
    let same : given_of c.insert.new.self ≡ and_given (given_of c.args.document.now.given) (param_of c.args.given) = λ i. λ name. btree_map_updates_str c.args.given.name.now c.args.document.now.given c.insert.new.self (Some c.args.given.value) c.in_ok-insert.ensures.updates name i in
    ap (λ (names : Names). Ok (record { given = names; table = structs_of c.args.document.now.table })) (sym same)
