use Rattle.std.proofs.Common.{true, false, ◌∙◌}
use Rattle.opcodes.specs.Streams.{segments_in}
use Rattle.opcodes.specs.DyldInfo.{bind_off, weak_bind_off, lazy_bind_off}
use Rattle.opcodes.specs.Streams.{stream_at, joined, streams_at}
use Rattle.opcodes.specs.Tables.{part_in}
use Rattle.fixups.proofs.Joining.{same_on}
use Rattle.opcodes.proofs.Walks as laws
use Rattle.opcodes.proofs.dyld_info.Info.streams_at.Goals as goal
use Rattle.std.proofs.lemmas.Result.{err_from_is_err_and}

pub returns : goal.returns
unfolding streams_at
returns c =
    record {
      kept = same_on _ _ _ c.stream_at.ensures.kept c.weak_and_lazy.ensures.kept;
      told =
          let a = c.args in
          c.weak_and_lazy.ensures.told ∙ laws.then (stream_at a.self.file.now a.self.cmds.bytes.now (segments_in a.self) a.self.at bind_off false) (joined (stream_at a.self.file.now a.self.cmds.bytes.now (segments_in a.self) a.self.at weak_bind_off false) (stream_at a.self.file.now a.self.cmds.bytes.now (segments_in a.self) a.self.at lazy_bind_off true)) (part_in a.binds.now) c.stream_at.result (part_in c.stream_at.new.binds) c.stream_at.ensures.told c.in_ok-stream_at.was;
    }

pub returns-in_err-stream_at : goal.returns-in_err-stream_at
unfolding streams_at
returns-in_err-stream_at c =
    record {
      kept = c.stream_at.ensures.kept;
      told =
          let a = c.args in
          let p = err_from_is_err_and c.from_residual.result c.from_residual.ensures.1 in
          rw (p.1, p.2) (laws.stops (stream_at a.self.file.now a.self.cmds.bytes.now (segments_in a.self) a.self.at bind_off false) (joined (stream_at a.self.file.now a.self.cmds.bytes.now (segments_in a.self) a.self.at weak_bind_off false) (stream_at a.self.file.now a.self.cmds.bytes.now (segments_in a.self) a.self.at lazy_bind_off true)) (part_in a.binds.now) c.stream_at.result (part_in c.stream_at.new.binds) c.stream_at.ensures.told _ c.in_err-stream_at.was);
    }
