use Rattle.std.proofs.Common.{List, ◌∙◌, sym, ap, arith}
use Rattle.std.specs.List.{slice_get}
use Rattle.hot_words.specs.declared.faults.WordFault.{WordFault}
use Rattle.hot_words.specs.Places.{begins_files}
use Rattle.hot_words.proofs.PlaceSteps.{begins-by, files-here, find-passed, code-passed, fault-here, faults-passed}
use Rattle.hot_words.proofs.faults.first_word_fault.Goals as goal

-- where the files may begin, they do
pub first_file_fault-requires : goal.first_file_fault-requires
first_file_fault-requires c =
    let name = c.args.name in
    let words = c.args.words.now in
    let k = c.loop-place.place in
    let here = begins-by name words k c.loop-place.holds_value _ _ c.loop-place.invariant.value c.may_begin_files.ensures c.if-may_begin_files.true in
    record { files = files-here name words k (omega arith) here c.loop-place.invariant.files }

-- a fault at a place before them with none before it is the first fault of the words
pub returns-in-Some-clause-first : goal.returns-in-Some-clause-first
returns-in-Some-clause-first c =
    let name = c.args.name in
    let words = c.args.words.now in
    let k = c.loop-place.place in
    let passed = begins-by name words k c.loop-place.holds_value _ _ c.loop-place.invariant.value c.may_begin_files.ensures c.if-may_begin_files.false in
    let code = code-passed name words k (omega arith) passed c.loop-place.invariant.files in
    fault-here name words k c.in-Some.code (omega arith) (code ∙ sym c.in-Some.ensures) ∙ ap (λ (fs : List WordFault). slice_get fs 0) c.loop-place.invariant.rest

-- a place without a fault is passed
pub loop-place-preserved : goal.loop-place-preserved
loop-place-preserved c =
    let name = c.args.name in
    let words = c.args.words.now in
    let k = c.loop-place.place in
    let passed = begins-by name words k c.loop-place.holds_value _ _ c.loop-place.invariant.value c.may_begin_files.ensures c.if-may_begin_files.false in
    let code = code-passed name words k (omega arith) passed c.loop-place.invariant.files in
    record {
      value = c.value_follows-holds_value-in-loop-place.ensures;
      files = find-passed (begins_files name words) k _ (omega arith) passed ∙ c.loop-place.invariant.files;
      rest = faults-passed name words k (omega arith) (code ∙ sym c.in_default.ensures) ∙ c.loop-place.invariant.rest;
    }
