use Rattle.morton_key.proofs.Places.{body_keys_are_of_places}
use Rattle.morton_key.proofs.laws.body_keys_are_of_places.Goals as goal

-- the body keys are the keys of the places in the cube
pub returns : goal.returns
returns c = record { law = body_keys_are_of_places }
