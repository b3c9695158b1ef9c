-- The lemmas that the functions name.
use Rattle.std.proofs.lemmas.List.{take_more}
use Rattle.local_tree.proofs.Searches.{count-le, place-low, place-high, count-rises}

-- what a search tells of the count
pub ruleset on_search = (count-le, place-low, place-high)

-- that counts rise
pub ruleset on_places = (count-le, count-rises)

-- one more item
pub ruleset on_listed = (take_more)
