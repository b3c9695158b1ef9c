use Rattle.std.proofs.Common.{codes}
use Rattle.body_maker.proofs.Lines.{header_added}
use Rattle.body_maker.proofs.file.header.Goals as goal

-- what was added is the header, with the number of bodies in it
pub returns : goal.returns
returns c =
    record {
      header =
          header_added _ _ _ (codes "# SDF\nparameter byteorder = 0x78563412;\nint cube_bits = 21;\nstruct {\n  int32_t x, y, z;\n}[") _ (codes "];\n# SDF-EOH\n")
          c.new-block.ensures.empty c.add.ensures.text c.push.ensures.bytes;
    }
