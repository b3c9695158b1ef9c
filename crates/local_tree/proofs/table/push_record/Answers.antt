use Rattle.std.proofs.Common.{rules, ◌≡◌, ◌<◌, ◌≤◌, ◌-◌, [], ◌∷◌, length, get_or, ap, arith, length-append}
use Rattle.std.specs.Prelude.{IsTrue}
use Rattle.hot_units.specs.Values.{CellValue}
use Rattle.local_tree.proofs.Edges.{span-some}
use Rattle.local_tree.proofs.Falling.{key_in, falling-push, known-push}
use Rattle.local_tree.proofs.table.push_record.Goals as goal

pub returns : goal.returns
returns c =
    let xs = c.args.bodies.now in
    let recs = c.args.recs.now.items in
    let r = c.record_of-rec.result.0 in
    let key : r.key ≡ c.args.span.key = ap key_in c.record_of-rec.ensures.value in
    let yes : IsTrue c.is_smaller.result = search rules in
    let smaller : (d : CellValue) → 0 < length recs → c.args.span.key < key_in (get_or recs (length recs - 1) d) = rw c.deref.ensures.value at (c.is_smaller.ensures.value.0 yes) in
    let within : c.record_of-rec.result.1 ≤ length recs = rw c.deref-2.ensures.value at c.record_of-rec.ensures.within in
    record {
      falling = rw c.in_ok-push.ensures.items (falling-push recs r c.requires.falling (λ d h. omega (arith, key, smaller d h)));
      known = rw c.in_ok-push.ensures.items (known-push xs c.args.span.key recs r c.requires.known (span-some xs c.args.span c.requires.order c.requires.span) c.record_of-rec.ensures.value);
      within = rw c.in_ok-push.ensures.items (omega (arith, within, length-append recs (r ∷ [])));
    }
