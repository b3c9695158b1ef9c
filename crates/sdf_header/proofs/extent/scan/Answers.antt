use Rattle.std.proofs.Common.{◌≡◌, length, sym, arith}
use Rattle.std.proofs.lemmas.Grind.{common_steps}
use Rattle.std.proofs.lemmas.List.{append-nil}
use Rattle.sdf_header.specs.Extent.{Scans}
use Rattle.sdf_header.proofs.Taken.{one_more_taken}
use Rattle.sdf_header.proofs.extent.scan.Goals as goal

pub loop-i-init : goal.loop-i-init
loop-i-init c = (c.requires.scans, c.requires.room, sym (append-nil c.args.kept.now.items))

pub returns-then-not-matches-clause-taken : goal.returns-then-not-matches-clause-taken
returns-then-not-matches-clause-taken c =
    one_more_taken c.args.kept.now.items c.loop-i.kept.items c.step-found.new.kept.items c.args.piece.now c.loop-i.i _ c.loop-i.invariant.2 c.loop-i-test.true c.step-found.ensures.items

pub loop-i-preserved : goal.loop-i-preserved
loop-i-preserved c =
    let scans : Scans c.step-found.new.kept.items c.step-found.new.line = grind (arith, common_steps) in
    (scans, c.step-found.ensures.room, one_more_taken c.args.kept.now.items c.loop-i.kept.items c.step-found.new.kept.items c.args.piece.now c.loop-i.i _ c.loop-i.invariant.2 c.loop-i-test.true c.step-found.ensures.items)

pub returns-clause-taken : goal.returns-clause-taken
returns-clause-taken c =
    let all : c.loop-i.i ≡ length c.args.piece.now = omega arith in
    rw all at c.loop-i.invariant.2
