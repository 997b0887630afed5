use Rattle.std.proofs.Common.{◌+◌, ◌*◌, ◌∙◌, refl, arith}
use Rattle.fixups.specs.Chain.{starts_in}
use Rattle.fixups.specs.Tables.{state_in}
use Rattle.fixups.proofs.Pages as laws
use Rattle.fixups.proofs.Joining.{kept}
use Rattle.fixups.proofs.chain.Data.page.Goals as goal

pub returns-then-self-first : goal.returns-then-self-first
returns-then-self-first c =
    record {
      kept = kept _;
      told =
          let a = c.args in
          laws.page_out a.self.file.now a.self.body.now a.self.fixups (starts_in a.s) (a.self.fixups.starts + a.s.info) a.p (c.starts_at-first.result + 22 + 2 * c.from-i.result) (state_in a.lists.now) (omega arith) (omega arith);
    }

pub returns-then-start : goal.returns-then-start
returns-then-start c =
    record {
      kept = kept _;
      told =
          let a = c.args in
          laws.page_none a.self.file.now a.self.body.now a.self.fixups (starts_in a.s) (a.self.fixups.starts + a.s.info) a.p (c.starts_at-first.result + 22 + 2 * c.from-i.result) (state_in a.lists.now) (omega arith)
          c.u16_from-start.result (omega arith) c.u16_from-start.ensures c.if-start.true;
    }

pub returns-then-start-ge-DYLD_CHAINED_PTR_START_MULTI : goal.returns-then-start-ge-DYLD_CHAINED_PTR_START_MULTI
returns-then-start-ge-DYLD_CHAINED_PTR_START_MULTI c =
    record {
      kept = kept _;
      told =
          let a = c.args in
          laws.page_multi a.self.file.now a.self.body.now a.self.fixups (starts_in a.s) (a.self.fixups.starts + a.s.info) a.p (c.starts_at-first.result + 22 + 2 * c.from-i.result) (state_in a.lists.now) (omega arith)
          c.u16_from-start.result (omega arith) c.u16_from-start.ensures c.if-start.false c.if-start-ge-DYLD_CHAINED_PTR_START_MULTI.true;
    }

pub overflow_mul-offset : goal.overflow_mul-offset
overflow_mul-offset c = omega (arith, laws.product c.from.result c.from-2.result (omega arith) (omega arith))

pub returns : goal.returns
returns c =
    record {
      kept = c.chain.ensures.kept;
      told =
          let a = c.args in
          c.chain.ensures.told ∙ laws.page_chain a.self.file.now a.self.body.now a.self.fixups (starts_in a.s) (a.self.fixups.starts + a.s.info) a.p (c.starts_at-first.result + 22 + 2 * c.from-i.result) (state_in a.lists.now) (omega arith)
          c.u16_from-start.result (omega arith) c.u16_from-start.ensures c.if-start.false c.if-start-ge-DYLD_CHAINED_PTR_START_MULTI.false _ _ (cc (c.from.ensures, c.from-2.ensures)) refl;
    }
