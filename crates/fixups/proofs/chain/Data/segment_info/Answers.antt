use Rattle.std.proofs.Common.{sym, ◌∙◌, arith}
use Rattle.std.proofs.lemmas.Result.{err_from_is_err_and}
use Rattle.fixups.specs.Tables.{state_in}
use Rattle.fixups.proofs.Options.{some_of, none_of}
use Rattle.fixups.proofs.Pages as laws
use Rattle.fixups.proofs.Joining.{kept}
use Rattle.fixups.proofs.chain.Data.segment_info.Goals as goal

pub returns-then-offset-eq0 : goal.returns-then-offset-eq0
returns-then-offset-eq0 c =
    record {
      kept = kept _;
      told =
          let a = c.args in
          laws.info_none a.self.file.now a.self.body.now a.self.cmds.bytes.now a.self.fixups a.offset a.segment (state_in a.lists.now) c.if-offset-eq0.true;
    }

pub returns-in_err-command : goal.returns-in_err-command
returns-in_err-command c =
    record {
      kept = kept _;
      told =
          let a = c.args in
          let p = err_from_is_err_and c.from_residual.result c.from_residual.ensures.1 in
          let q = none_of _ a.segment c.in_err-command.field-0.0 (sym c.ok_or.ensures.value ∙ c.in_err-command.was) in
          rw (p.1, p.2, q.1)
          (laws.info_absent a.self.file.now a.self.body.now a.self.cmds.bytes.now a.self.fixups a.offset a.segment (state_in a.lists.now) c.if-offset-eq0.false q.0);
    }

pub returns : goal.returns
returns c =
    record {
      kept = c.segment_starts.ensures.kept;
      told =
          let a = c.args in
          c.segment_starts.ensures.told
          ∙ laws.info_there a.self.file.now a.self.body.now a.self.cmds.bytes.now a.self.fixups a.offset a.segment (state_in a.lists.now) c.if-offset-eq0.false _ _
          (some_of _ a.segment _ (sym c.ok_or.ensures.value ∙ c.in_ok-command.was)) (omega arith);
    }
