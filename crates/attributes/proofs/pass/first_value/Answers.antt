use mathlib.Core.Bool.{◌&&◌}
use mathlib.Core.Path.{ap, ◌∙◌}
use borrow.Author.Rules.{rules}
use borrow.Author.Tests.{tests}
use lib.Dec.{eqb, leb}
use Rattle.std.proofs.lemmas.Iterator.Consumers.{YieldsList-from_first}
use Rattle.std.proofs.lemmas.Iterator.Search.{find_from_yields_List}
use Rattle.attributes.specs.Attributes.{items}
use Rattle.attributes.specs.Pass.{items_left_of}
use Rattle.attributes.proofs.AttributeItems.{value_in, value_found}
use Rattle.attributes.proofs.pass.first_value.Goals as goal

pub returns-in_err-item : goal.returns-in_err-item
returns-in_err-item c =
    let a = c.args in
    let found =
    find_from_yields_List (λ i. eqb i.key a.letter && leb a.least i.value.len) c.find.new.self _ c.find.result c.find.ensures.ran
    (YieldsList-from_first (λ i. i) items_left_of (items a.text.now) c.items_of.ensures.left) (λ x b q k. search (rules, tests)) in
    c.from_residual.ensures ∙ ap value_in (rw c.in_err-item.was at found) ∙ value_found a.letter a.least (items a.text.now)

pub returns : goal.returns
returns c =
    let a = c.args in
    let found =
    find_from_yields_List (λ i. eqb i.key a.letter && leb a.least i.value.len) c.find.new.self _ c.find.result c.find.ensures.ran
    (YieldsList-from_first (λ i. i) items_left_of (items a.text.now) c.items_of.ensures.left) (λ x b q k. search (rules, tests)) in
    ap value_in (rw c.in_ok-item.was at found) ∙ value_found a.letter a.least (items a.text.now)
