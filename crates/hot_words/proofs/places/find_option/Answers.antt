use Rattle.std.proofs.Common.{◌∙◌, arith}
use Rattle.hot_words.specs.Places.{holds_option}
use Rattle.hot_words.proofs.PlaceSteps.{holds-by, find-passed}
use Rattle.hot_words.proofs.places.find_option.Goals as goal

-- a place that does not hold the option is passed
pub loop-place-preserved : goal.loop-place-preserved
loop-place-preserved c =
    let k = c.loop-place.place in
    let passed = holds-by c.args.name c.args.words.now c.args.option.now k c.loop-place.is_value _ _ c.loop-place.invariant.value c.holds_option.ensures c.if-holds_option.false in
    record {
      value = c.value_follows-is_value.ensures;
      rest = find-passed (holds_option c.args.name c.args.words.now c.args.option.now) k c.args.end (omega arith) passed ∙ c.loop-place.invariant.rest;
    }
