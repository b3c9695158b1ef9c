use Rattle.std.proofs.Common.{◌≡◌, ℕ, List, [], ◌∷◌, ◌++◌, ap, ◌∙◌, rules}
use Rattle.std.specs.Prelude.{flat_map, ℤ}
use mir.Syntax.{w128}
use mir.Val.{of_z, to_z}
use Rattle.byteorder.specs.Endian.{little_bytes}
use Rattle.hot_units.specs.Values.{Acc3Value}
use Rattle.force_out.specs.ForcesSdf.{columns, body_values, body_row}
use Rattle.force_out.proofs.sdf.add_row.Goals as goal

-- eight columns of the values of a body are its row
row_is : (n : ℤ) (f : Acc3Value) (n0 n1 x0 x1 y0 y1 z0 z1 : ℕ) (row : List ℕ)
    → n0 ∷ n1 ∷ [] ≡ columns n → x0 ∷ x1 ∷ [] ≡ columns f.ax → y0 ∷ y1 ∷ [] ≡ columns f.ay → z0 ∷ z1 ∷ [] ≡ columns f.az
    → row ≡ flat_map (little_bytes 8) (n0 ∷ n1 ∷ x0 ∷ x1 ∷ y0 ∷ y1 ∷ z0 ∷ z1 ∷ []) → row ≡ body_row (n, f)
row_is n f n0 n1 x0 x1 y0 y1 z0 z1 row a b c d e =
    let words : n0 ∷ n1 ∷ x0 ∷ x1 ∷ y0 ∷ y1 ∷ z0 ∷ z1 ∷ [] ≡ flat_map columns (body_values (n, f)) = cc in
    e ∙ ap (flat_map (little_bytes 8)) words

-- the block has gained the row of the body, its ident and the force on it
pub returns : goal.returns
returns c =
    let n : to_z w128 (of_z w128 c.args.ident) ≡ c.args.ident = search rules in
    let x : to_z w128 (of_z w128 c.force.inside.ax) ≡ c.args.force.now.ax = search rules in
    let y : to_z w128 (of_z w128 c.force.inside.ay) ≡ c.args.force.now.ay = search rules in
    let z : to_z w128 (of_z w128 c.force.inside.az) ≡ c.args.force.now.az = search rules in
    let row = row_is c.args.ident c.args.force.now _ _ _ _ _ _ _ _ c.write_u64_into.new.dst (c.columns-name.ensures.columns ∙ ap columns n) (c.columns-x.ensures.columns ∙ ap columns x) (c.columns-y.ensures.columns ∙ ap columns y)
    (c.columns-z.ensures.columns ∙ ap columns z) c.write_u64_into.ensures in
    record { row = c.push.ensures.bytes ∙ ap (λ (l : List ℕ). c.args.block.now ++ l) row }
