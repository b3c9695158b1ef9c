use Rattle.std.proofs.Common.{◌≡◌, ℕ, List, [], ◌++◌, append_assoc}
use Rattle.force_out.specs.ForcesSdf.{header_front, header_end}
use Rattle.force_out.proofs.sdf.header.Goals as goal

-- what is added to nothing
parts : (none one two a b c : List ℕ) → none ≡ [] → one ≡ none ++ a ++ b → two ≡ one ++ c → two ≡ a ++ (b ++ c)
parts none one two a b c d e f = rw (f, e, d) (append_assoc a b c)

-- what was added is the header, with the number of bodies in it
pub returns : goal.returns
returns c = record { header = parts _ _ _ header_front _ header_end c.new-block.ensures.empty c.add.ensures.text c.push.ensures.bytes }
