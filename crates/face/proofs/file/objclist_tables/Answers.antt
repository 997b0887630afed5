use mathlib.Core.Path.{◌∙◌, ap}
use Rattle.fixups.specs.Fixups.{Settled}
use Rattle.face.specs.File.{tables_words}
use Rattle.face.proofs.file.objclist_tables.Goals as goal

pub returns : goal.returns
returns c = record {
  counts = c.from.ensures ∙ ap (λ (r : Settled). tables_words r.counts) c.file_tables.ensures;
  rebases = ap (λ (r : Settled). r.rebases) c.file_tables.ensures;
  binds = ap (λ (r : Settled). r.binds) c.file_tables.ensures;
}
