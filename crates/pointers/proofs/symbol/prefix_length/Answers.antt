use borrow.Author.Rules.{rules}
use Rattle.std.proofs.lemmas.Iterator.{YieldsList-from_slice}
use Rattle.std.proofs.lemmas.Iterator.Search.{find_from_yields_List}
use Rattle.pointers.specs.Symbol.{starts}
use Rattle.pointers.proofs.Prefixes.{fitting_by}
use Rattle.pointers.proofs.symbol.prefix_length.Goals as goal

pub returns : goal.returns
returns c =
    let a = c.args in
    let found =
    find_from_yields_List (λ p. starts p.now a.s.now) c.find.new.self _ c.find.result c.find.ensures.ran
    (YieldsList-from_slice a.prefixes.now c.iter.ensures.rest) (λ x b q k. search rules) in
    fitting_by a.prefixes.now a.s.now c.find.result c.map_or.result found _ c.map_or.ensures (λ p q. search rules)
