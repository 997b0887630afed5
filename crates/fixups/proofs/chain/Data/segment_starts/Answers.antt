use Rattle.std.proofs.Common.{◌+◌, ◌∙◌, arith}
use Rattle.fixups.specs.Tables.{state_in}
use Rattle.fixups.proofs.Pages as laws
use Rattle.fixups.specs.Starts.{Reads}
use Rattle.std.proofs.lemmas.Result.{err_from_is_err_and}
use Rattle.std.specs.Prelude.{Ok, Err}
use Rattle.fixups.proofs.Joining.{kept}
use Rattle.fixups.proofs.chain.Data.segment_starts.Goals as goal

pub returns-then-self-at : goal.returns-then-self-at
returns-then-self-at c =
    record {
      kept = kept _;
      told =
          let a = c.args in
          laws.segment_out a.self.file.now a.self.body.now a.self.cmds.bytes.now a.self.fixups (a.self.fixups.starts + a.info) a.command (state_in a.lists.now) (omega arith);
    }

pub returns-in_err-format : goal.returns-in_err-format
returns-in_err-format c =
    record {
      kept = kept _;
      told =
          let a = c.args in
          let p = err_from_is_err_and c.from_residual.result c.from_residual.ensures.1 in
          let r : Reads c.u16_from.result (Err c.in_err-format.field-0.0) = rw c.in_err-format.was at c.try_from.ensures in
          rw (p.1, p.2, r.1) (laws.segment_other a.self.file.now a.self.body.now a.self.cmds.bytes.now a.self.fixups (a.self.fixups.starts + a.info) a.command (state_in a.lists.now)
          c.u16_from.result (omega arith) (rw c.starts_at-at.ensures at c.u16_from.ensures) r.0);
    }

pub returns : goal.returns
returns c =
    record {
      kept = c.pages.ensures.kept;
      told =
          let a = c.args in
          let r : Reads c.u16_from.result (Ok c.in_ok-format.format) = rw c.in_ok-format.was at c.try_from.ensures in
          c.pages.ensures.told ∙ laws.segment_pages a.self.file.now a.self.body.now a.self.cmds.bytes.now a.self.fixups (a.self.fixups.starts + a.info) a.command (state_in a.lists.now)
          c.u16_from.result (omega arith) (rw c.starts_at-at.ensures at c.u16_from.ensures) (laws.known_by c.in_ok-format.format _ r)
          _ _ (rw (c.u64_from.ensures, c.u64_from-2.ensures, r, c.u16_from.ensures, c.u16_from-2.ensures, c.starts_at-at.ensures)) (rw c.starts_at-at.ensures at c.u16_from-3.ensures);
    }
