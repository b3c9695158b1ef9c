use Rattle.std.proofs.Common.{◌≡◌, ◌++◌, ◌∷◌, [], true, false, length, drop, arith}
use Rattle.std.proofs.lemmas.Grind.{common_steps}
use Rattle.sdf_header.specs.Extent.{agrees, magic, closes}
use Rattle.sdf_header.proofs.Bytes.{no_magic, has_ended, is_full}
use Rattle.sdf_header.proofs.extent.step.Goals as goal

pub returns-then-not-agrees-clause-stands : goal.returns-then-not-agrees-clause-stands
returns-then-not-agrees-clause-stands c =
    let isnt : agrees magic c.push.new.self.items ≡ false = grind (arith, common_steps) in
    no_magic c.push.new.self.items isnt

pub returns-then-ends-clause-stands : goal.returns-then-ends-clause-stands
returns-then-ends-clause-stands c =
    let grown : c.push.new.self.items ≡ c.args.kept.now.items ++ c.args.byte ∷ [] = grind (arith, common_steps) in
    let begins : agrees magic c.push.new.self.items ≡ true = grind (arith, common_steps) in
    let is : closes c.args.byte (drop c.args.line.now c.args.kept.now.items) ≡ true = grind (arith, common_steps) in
    rw grown (has_ended c.args.kept.now.items c.args.line.now c.args.byte c.requires.scans is (rw grown at begins))

pub returns-then-len-eq-MAX_HEADER_BYTES-clause-stands : goal.returns-then-len-eq-MAX_HEADER_BYTES-clause-stands
returns-then-len-eq-MAX_HEADER_BYTES-clause-stands c =
    let grown : c.push.new.self.items ≡ c.args.kept.now.items ++ c.args.byte ∷ [] = grind (arith, common_steps) in
    let begins : agrees magic c.push.new.self.items ≡ true = grind (arith, common_steps) in
    let isnt : closes c.args.byte (drop c.args.line.now c.args.kept.now.items) ≡ false = grind (arith, common_steps) in
    let full : length c.push.new.self.items ≡ 65536 = grind (arith, common_steps) in
    rw grown (is_full c.args.kept.now.items c.args.line.now c.args.byte c.requires.scans isnt (rw grown at begins) (rw grown at full))
