-- The lemmas that the functions name.
use Rattle.hot_model.proofs.Parts.{root-contains}

-- the root contains every body
pub ruleset on_roots = (root-contains)
