use Rattle.std.proofs.Common.{length, ◌∙◌}
use Rattle.opcodes.specs.Streams.{segments_in}
use Rattle.opcodes.specs.Tables.{part_in}
use Rattle.opcodes.proofs.Bindings as laws
use Rattle.fixups.proofs.Joining.{same}
use Rattle.opcodes.proofs.dyld_info.Info.perform.Goals as goal

pub returns-in-Pass : goal.returns-in-Pass
returns-in-Pass c =
    record {
      kept = same _;
      told =
          let a = c.args in
          laws.does_pass (length a.self.file.now) a.self.cmds.bytes.now (segments_in a.self) a.x a.s (part_in a.binds.now) c.in-Pass.is;
    }

pub returns-in-Symbol : goal.returns-in-Symbol
returns-in-Symbol c =
    record {
      kept = same _;
      told =
          let a = c.args in
          laws.does_symbol (length a.self.file.now) a.self.cmds.bytes.now (segments_in a.self) a.x a.s (part_in a.binds.now) _ c.in-Symbol.is c.with_symbol.result c.with_symbol.ensures;
    }

pub returns-in-Segment : goal.returns-in-Segment
returns-in-Segment c =
    record {
      kept = same _;
      told =
          let a = c.args in
          laws.does_segment (length a.self.file.now) a.self.cmds.bytes.now (segments_in a.self) a.x a.s (part_in a.binds.now) _ _ c.in-Segment.is c.in_segment.result c.in_segment.ensures;
    }

pub returns-in-Add : goal.returns-in-Add
returns-in-Add c =
    record {
      kept = same _;
      told =
          let a = c.args in
          laws.does_add (length a.self.file.now) a.self.cmds.bytes.now (segments_in a.self) a.x a.s (part_in a.binds.now) _ c.in-Add.is c.further.result c.further.ensures;
    }

pub returns-in-Bind : goal.returns-in-Bind
returns-in-Bind c =
    record {
      kept = c.run.ensures.kept;
      told =
          let a = c.args in
          c.run.ensures.told ∙ laws.does_bind (length a.self.file.now) a.self.cmds.bytes.now (segments_in a.self) a.x a.s (part_in a.binds.now) _ _ c.in-Bind.is;
    }
