use Rattle.std.proofs.Common.{◌≡◌, ℕ, ◌∙◌, sym, ap}
use Rattle.hot_units.specs.Values.{BodyValue}
use Rattle.hot_units.specs.Keys.{key_of_body}
use Rattle.key_order.proofs.Sortings.{before_is, two_compared}
use Rattle.key_order.proofs.ordered.by_key_and_row.Goals as goal

abbrev row_of : BodyValue → ℕ
row_of b = b.row

-- less exactly where the first body stands before the second, by key and then row
pub returns : goal.returns
returns c =
    let a = c.args.a.now in
    let b = c.args.b.now in
    let key_a : c.a.inside.key ≡ key_of_body a = c.a.invariant.5 ∙ ap key_of_body c.a.view_is in
    let key_b : c.b.inside.key ≡ key_of_body b = c.b.invariant.5 ∙ ap key_of_body c.b.view_is in
    let row_a : c.a.inside.row ≡ row_of a = ap row_of c.a.view_is in
    let row_b : c.b.inside.row ≡ row_of b = ap row_of c.b.view_is in
    rw (c.then.ensures, c.cmp.ensures, c.cmp-2.ensures, key_a, key_b, row_a, row_b) (two_compared (key_of_body a) (key_of_body b) a.row b.row ∙ sym (before_is a b))
