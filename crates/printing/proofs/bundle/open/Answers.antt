use Rattle.std.proofs.lemmas.Result.{err_from_is_err_and}
use Rattle.printing.proofs.BundleAnswers.{index_kept, not_opened}
use Rattle.printing.proofs.BundleParts.{parts_opened}
use Rattle.printing.proofs.bundle.open.Goals as goal

pub returns : goal.returns
returns c =
    let e = c.in_ok-bundle.ensures in
    let said = c.open_framed.ensures in
    let both = parts_opened _ _ _ c.args.index.now _ _ _ _ e.0 e.1 c.files-files.ensures c.index_words-end.ensures c.tables-tables.ensures _ _ _ c.ranges_of.ensures (said.outcome, said.contents) in
    record { outcome = both.0; contents = both.1 }

pub returns-in_err-bundle : goal.returns-in_err-bundle
returns-in_err-bundle c =
    let p = err_from_is_err_and c.from_residual.result c.from_residual.ensures.1 in
    let e = c.in_err-bundle.ensures in
    record {
      outcome = rw (p.1, p.2) (not_opened _ _ _ e _ _);
      contents = index_kept _ _ _ e _ _;
    }
