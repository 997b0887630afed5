use mathlib.Core.Path.{◌≡◌}
use Rattle.dispatch.proofs.SelectorTable.{Naming}
use Rattle.dispatch.proofs.table.Selectors.name.Given as goal

abbrev pub invariant-loop-j : goal.invariant-loop-j
invariant-loop-j l =
    Naming l.own l.tables l.initial.self.words.now l.initial.self.count l.j l.self.words.now × (l.self.words.ghost_name ≡ l.initial.self.words.ghost_name) × (l.self.count ≡ l.initial.self.count)
