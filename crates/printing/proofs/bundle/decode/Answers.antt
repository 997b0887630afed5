use mathlib.Core.Path.{sym}
use native.Mathlib.Omega.{arith}
use Rattle.listing.proofs.Measured.{tables_fit}
use Rattle.std.proofs.lemmas.Result.{err_from_is_err_and}
use Rattle.printing.proofs.BundleAnswers.{words_kept}
use Rattle.printing.proofs.BundleParts.{decoded_whole}
use Rattle.printing.proofs.bundle.decode.Goals as goal

pub returns : goal.returns
returns c =
    let e = c.in_ok-bundle.ensures in
    record {
      outcome = sym e.1;
      contents = decoded_whole _ _ _ _ _ e.0 e.1 c.table_words-end.ensures (omega (arith, tables_fit _ _ c.in_ok-bundle.bundle.accepted)) _ c.words_at.ensures;
    }

pub returns-in_err-bundle : goal.returns-in_err-bundle
returns-in_err-bundle c =
    let p = err_from_is_err_and c.from_residual.result c.from_residual.ensures.1 in
    record {
      outcome = rw (p.1, p.2) (sym c.in_err-bundle.ensures);
      contents = words_kept _ _ _ c.in_err-bundle.ensures _;
    }
