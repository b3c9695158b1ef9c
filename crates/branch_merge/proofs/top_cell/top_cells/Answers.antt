use Rattle.std.proofs.Common.{ℕ, ◌≡◌, length, get_or, sym, ap, subst, arith, ◌∙◌, ◌+◌}
use Rattle.std.proofs.lemmas.List.{length_push}
use Rattle.std.proofs.lemmas.List.Elements.{Contains-get_or}
use Rattle.branch_merge.specs.Tops.{AreTops}
use Rattle.branch_merge.proofs.Holding.{made_more}
use Rattle.branch_merge.proofs.top_cell.top_cells.Goals as goal

pub top_cell-requires-clause-top : goal.top_cell-requires-clause-top
top_cell-requires-clause-top c =
    let keys = c.deref-key-items.result.now in
    let tops : AreTops c.args.listed.now keys = subst (AreTops c.args.listed.now) (sym c.deref-key-items.ensures.value) c.in_ok-keys.ensures.tops in
    (tops.all (get_or keys c.loop-key.key-index 0)).0 (Contains-get_or keys c.loop-key.key-index 0 c.loop-key-test.true)

pub loop-key-preserved : goal.loop-key-preserved
loop-key-preserved c =
    let i = c.loop-key.key-index in
    let old = c.loop-key.cells.items in
    record {
      size = ap length c.in_ok-push.ensures.items ∙ (length_push old c.top_cell.result ∙ ap (λ (n : ℕ). n + 1) c.loop-key.invariant.size);
      each = made_more c.args.listed.now c.deref-key-items.result.now old c.push.new.self.items i c.top_cell.result c.loop-key.invariant.size c.loop-key.invariant.each c.top_cell.ensures.value c.in_ok-push.ensures.items;
    }

pub returns : goal.returns
returns c =
    let keys = c.deref-key-items.result.now in
    let tops : AreTops c.args.listed.now keys = subst (AreTops c.args.listed.now) (sym c.deref-key-items.ensures.value) c.in_ok-keys.ensures.tops in
    let end : c.loop-key.key-index ≡ length keys = omega arith in
    record {
      merged = record {
        sorted = record { cells = c.in_ok-keys.ensures.cells; order = c.requires.order };
        apart = c.requires.apart;
        tops = record {
          keys = keys;
          tops = tops;
          size = c.loop-key.invariant.size ∙ end;
          each = λ i d h. c.loop-key.invariant.each i d (omega (arith, h, end));
        };
      };
    }
