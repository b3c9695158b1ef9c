use Rattle.std.proofs.Common.{◌∙◌, sym, arith}
use Rattle.hot_words.specs.Places.{begins_files}
use Rattle.hot_words.proofs.PlaceSteps.{begins-by, files-here, find-passed}
use Rattle.hot_words.proofs.places.find_file.Goals as goal

-- the first place at which the files may begin
pub returns-then-may_begin_files-clause-first : goal.returns-then-may_begin_files-clause-first
returns-then-may_begin_files-clause-first c =
    let k = c.loop-place.place in
    let here = begins-by c.args.name c.args.words.now k c.loop-place.is_value _ _ c.loop-place.invariant.value c.may_begin_files.ensures c.if-may_begin_files.true in
    sym (files-here c.args.name c.args.words.now k (omega arith) here c.loop-place.invariant.rest)

-- another place is passed
pub loop-place-preserved : goal.loop-place-preserved
loop-place-preserved c =
    let k = c.loop-place.place in
    let passed = begins-by c.args.name c.args.words.now k c.loop-place.is_value _ _ c.loop-place.invariant.value c.may_begin_files.ensures c.if-may_begin_files.false in
    record {
      value = c.value_follows-is_value-in-loop-place.ensures;
      rest = find-passed (begins_files c.args.name c.args.words.now) k _ (omega arith) passed ∙ c.loop-place.invariant.rest;
    }
