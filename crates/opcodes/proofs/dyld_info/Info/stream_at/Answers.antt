use Rattle.std.proofs.Common.{ap, ◌∙◌}
use Rattle.opcodes.specs.Tables.{told, part_in}
use Rattle.opcodes.specs.Streams.{segments_in}
use Rattle.opcodes.proofs.Walks as laws
use Rattle.opcodes.proofs.dyld_info.Info.stream_at.Goals as goal

pub returns : goal.returns
returns c =
    record {
      kept = c.walk.ensures.kept;
      told =
          let a = c.args in
          c.walk.ensures.told ∙ ap (λ x. told x (part_in a.binds.now)) (laws.stream_is a.self.file.now a.self.cmds.bytes.now (segments_in a.self) a.self.at a.field a.parts c.field32-at.result c.field32-size.result c.part-bytes.result.now c.field32-at.ensures.0 c.field32-size.ensures.0 c.part-bytes.ensures.bytes);
    }
