use Rattle.std.proofs.Common.{◌+◌, ◌-◌, sym, ap, ◌∙◌, arith}
use Rattle.fixups.specs.Chain.{starts_in}
use Rattle.fixups.specs.Starts.{page_at, pages_from}
use Rattle.fixups.specs.Tables.{told, state_in}
use Rattle.fixups.proofs.Joining.{kept, kept_on, then, stops}
use Rattle.fixups.proofs.Pages.{whole, pages_more, pages_done}
use Rattle.fixups.proofs.chain.Data.pages.Goals as goal
use Rattle.std.proofs.lemmas.Result.{err_from_is_err_and}

pub loop-p-init : goal.loop-p-init
loop-p-init c = (rw (whole c.args.count), kept _)

pub loop-p-preserved : goal.loop-p-preserved
loop-p-preserved c =
    let a = c.args in let l = c.loop-p in (
      l.invariant.0 ∙ ap (λ x. told x (state_in l.lists)) (pages_more a.self.file.now a.self.body.now a.self.fixups (starts_in a.s) (a.self.fixups.starts + a.s.info) a.count l.p (omega arith))
          ∙ then (page_at a.self.file.now a.self.body.now a.self.fixups (starts_in a.s) (a.self.fixups.starts + a.s.info) l.p) (pages_from a.self.file.now a.self.body.now a.self.fixups (starts_in a.s) (a.self.fixups.starts + a.s.info) (a.count - (l.p + 1)) (l.p + 1))
          (state_in l.lists) c.page.result (state_in c.page.new.lists) c.page.ensures.told c.in_ok-page.was,
      kept_on _ _ _ l.invariant.1 c.page.ensures.kept,
    )

pub returns-in_err-page : goal.returns-in_err-page
returns-in_err-page c =
    record {
      kept = kept_on _ _ _ c.loop-p.invariant.1 c.page.ensures.kept;
      told =
          let a = c.args in let l = c.loop-p in
          let p = err_from_is_err_and c.from_residual.result c.from_residual.ensures.1 in
          rw (p.1, p.2) (sym (l.invariant.0 ∙ ap (λ x. told x (state_in l.lists)) (pages_more a.self.file.now a.self.body.now a.self.fixups (starts_in a.s) (a.self.fixups.starts + a.s.info) a.count l.p (omega arith))
          ∙ stops (page_at a.self.file.now a.self.body.now a.self.fixups (starts_in a.s) (a.self.fixups.starts + a.s.info) l.p) (pages_from a.self.file.now a.self.body.now a.self.fixups (starts_in a.s) (a.self.fixups.starts + a.s.info) (a.count - (l.p + 1)) (l.p + 1))
          (state_in l.lists) c.page.result (state_in c.page.new.lists) c.page.ensures.told _ c.in_err-page.was));
    }

pub returns : goal.returns
returns c =
    record {
      kept = c.loop-p.invariant.1;
      told =
          let a = c.args in let l = c.loop-p in
          sym (l.invariant.0 ∙ pages_done a.self.file.now a.self.body.now a.self.fixups (starts_in a.s) (a.self.fixups.starts + a.s.info) a.count l.p (state_in l.lists) (omega arith));
    }
