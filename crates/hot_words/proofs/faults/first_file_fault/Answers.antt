use Rattle.std.proofs.Common.{List, Bool, ◌||◌, ◌∙◌, ap, arith}
use Rattle.std.specs.List.{slice_get}
use Rattle.hot_words.specs.declared.faults.WordFault.{WordFault}
use Rattle.hot_words.specs.declared.faults.WordCode.TheVariants.{A7}
use Rattle.hot_words.proofs.PlaceSteps.{fault-here, faults-passed}
use Rattle.hot_words.proofs.FileNames.{input-more, file-by}
use Rattle.hot_words.proofs.faults.first_file_fault.Goals as goal

-- a word too many is the first fault of the files
pub returns-then-not-is_file-clause-first : goal.returns-then-not-is_file-clause-first
returns-then-not-is_file-clause-first c =
    let name = c.args.name in
    let words = c.args.words.now in
    let k = c.loop-place.place in
    let code = file-by name words c.args.first k c.loop-place.has_input c.is_file.result _ c.word_at-word.result.now (omega arith) c.requires.files
    c.loop-place.invariant.input c.word_at-word.ensures c.is_file.ensures c.if-not-is_file.true in
    fault-here name words k A7 (omega arith) code ∙ ap (λ (fs : List WordFault). slice_get fs 0) c.loop-place.invariant.rest

-- a file is passed
pub loop-place-preserved : goal.loop-place-preserved
loop-place-preserved c =
    let name = c.args.name in
    let words = c.args.words.now in
    let k = c.loop-place.place in
    let code = file-by name words c.args.first k c.loop-place.has_input c.is_file.result _ c.word_at-word.result.now (omega arith) c.requires.files
    c.loop-place.invariant.input c.word_at-word.ensures c.is_file.ensures c.if-not-is_file.false in
    record {
      input = input-more words c.args.first k c.loop-place.has_input _ c.word_at-word.result.now (omega arith) (omega arith) c.loop-place.invariant.input c.word_at-word.ensures (ap (λ (b : Bool). c.loop-place.has_input || b) c.names_input-has_input.ensures);
      rest = faults-passed name words k (omega arith) code ∙ c.loop-place.invariant.rest;
    }
