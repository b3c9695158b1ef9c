use Rattle.rank_model.proofs.Homes.{inside_piece, record_piece, answer-piece}
use Rattle.local_tree.proofs.laws.own_cells_are_whole.Goals as goal

pub returns : goal.returns
returns c = record {
  law = λ w q c i o. record { bodies = inside_piece w q c o; sums = record_piece w q c o; answer = answer-piece w q c i o };
}
