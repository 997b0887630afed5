use borrow.Author.Rules.{rules}
use Prim.Native.Nat.{◌+◌, ◌*◌}
use native.Mathlib.Omega.{arith}
use Rattle.std.proofs.lemmas.Iterator.{YieldsList-from_range, YieldsList-from_map}
use Rattle.std.proofs.lemmas.Iterator.Search.{find_from_yields_List}
use Rattle.macho.specs.Sections.{named}
use Rattle.macho.proofs.Tables.{first_by}
use Rattle.macho.proofs.section.section_in.Goals as goal

pub returns : goal.returns
returns c =
    let a = c.args in
    let found =
    find_from_yields_List (named a.bytes.now a.name.now) c.find.new.self _ c.find.result c.find.ensures.ran
    (YieldsList-from_map _ (λ n. a.from + 80 * n) (YieldsList-from_range 0 a.count a.count c.map.ensures.source (omega arith)) c.map.ensures.closure (λ x r q k. search rules)) (λ x b q k. search rules) in
    first_by a.bytes.now a.name.now a.from a.count c.find.result found _ c.map-2.result c.map-2.ensures.cases (λ i r q. search rules)
