use Rattle.std.proofs.Common.{take, drop, sym, rules, take-append-drop}
use Rattle.std.proofs.Math.Seq.{take-add}
use Rattle.std.proofs.lemmas.Result.{err_from_is_err_and}
use Rattle.std.proofs.KnownBytes.{Appends-trans, Appends-kept}
use Rattle.hot_io.proofs.Slices.{rest_all, rest_within}
use Rattle.hot_io.proofs.writers.write_all.Goals as goal

pub returns-in_err-done-clause-bytes : goal.returns-in_err-done-clause-bytes
returns-in_err-done-clause-bytes g c =
    let p = err_from_is_err_and c.from_residual.result c.from_residual.ensures.1 in
    let bytes = c.args.bytes.now in
    rw p.1 (take c.loop-done.done bytes, (drop c.loop-done.done bytes, sym (take-append-drop _ bytes)), Appends-kept _ _ _ _ c.loop-done.invariant.so_far c.in_err-done.ensures.bytes)

pub loop-done-preserved : goal.loop-done-preserved
loop-done-preserved g c = record {
  within = rest_within c.args.bytes.now _ _ c.loop-done.invariant.within c.in_ok-done.ensures.bound.1;
  unfailed = search rules;
  so_far = rw take-add (Appends-trans _ _ _ _ _ c.loop-done.invariant.so_far (rw rest_all at c.in_ok-done.ensures.bytes));
}
