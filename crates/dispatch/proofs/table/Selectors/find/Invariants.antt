use Rattle.reads.specs.Files.{files_lent}
use Rattle.dispatch.proofs.SelectorTable.{Seeking}
use Rattle.dispatch.proofs.table.Selectors.find.Given as goal

abbrev pub invariant-loop-j : goal.invariant-loop-j
invariant-loop-j l =
    Seeking (files_lent l.files) l.self.words.now l.self.count l.s l.j-iterator.count l.j-iterator.iter.size l.j-iterator.iter.rest.now
