use native.Mathlib.Omega.{arith}
use mathlib.Core.Path.{◌≡◌, sym, subst, ap, ◌∙◌}
use mathlib.Core.List.{List}
use Prim.Native.Nat.{ℕ, ◌<◌, ◌^◌}
use lib.ListN.{length}
use Rattle.pointers.specs.Tables.{Tables}
use Rattle.reads.specs.Files.{longest}
use Rattle.printing.specs.BundleLent.{piece_size}
use Rattle.printing.proofs.BundleAnswers.{no_tables, piece_same}
use Rattle.printing.proofs.BundleOpens.{files_length}
use Rattle.printing.proofs.BundleParts.{tables_whole}
use Rattle.printing.proofs.bundle.next_piece.Goals as goal

pub fill-requires : goal.fill-requires
fill-requires c =
    let same = ap (λ (t : Tables). t.files) c.tables-tables.ensures ∙ c.files-files.ensures in
    subst (λ (files : List (List ℕ)). longest files < 2 ^ 32) (sym same)
    (omega (arith, files_length _ _ c.in-Ok.bundle.accepted))

pub returns-in-Ok : goal.returns-in-Ok
returns-in-Ok c =
    let e = c.in-Ok.ensures in
    let size : length c.args.out.now ≡ piece_size = omega arith in
    let both = piece_same _ _ _ _ _ _ _
    (tables_whole _ _ c.args.words.now c.args.index.now _ _ _ _ e.0 e.1 c.files-files.ensures c.index_words-end.ensures c.tables-tables.ensures)
    ((rw size at c.fill.ensures.piece), (rw size at c.fill.ensures.rest)) in
    record { piece = both.0; rest = both.1 }

pub returns-in-Err : goal.returns-in-Err
returns-in-Err c =
    let size : length c.args.out.now ≡ piece_size = omega arith in
    let both = piece_same _ _ _ _ _ _ _
    (no_tables _ _ _ c.in-Err.ensures c.args.words.now c.args.index.now)
    ((rw size at c.piece_of_none.ensures.piece), (rw size at c.piece_of_none.ensures.rest)) in
    record { piece = both.0; rest = both.1 }
