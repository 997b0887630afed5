use Rattle.std.proofs.Common.{◌≡◌, rules, tests, get_or, eqb}
use Rattle.std.specs.List.{position}
use Rattle.std.proofs.lemmas.List.Sorted.{answers_always}
use Rattle.std.proofs.lemmas.Iterator.{YieldsList-from_slice}
use Rattle.std.proofs.lemmas.Iterator.Search.{position_from_yields_List}
use Rattle.ancestry.proofs.RowWords.{by_bisection, one_by_one}
use Rattle.ancestry.proofs.following.row_of.Goals as goal

pub returns-then-sorted : goal.returns-then-sorted
returns-then-sorted c =
    let found = c.binary_search_by_key.ensures in
    let by_address = found.position (λ row. get_or row 2 0) (answers_always _ _ _ (λ f a r g called. search rules)) in
    rw c.ok.ensures.value (by_bisection _ _ _ _ (rw c.rows_of-rows.ensures at found.bound) (rw c.rows_of-rows.ensures at by_address))

pub returns : goal.returns
returns c =
    let found : c.position.result ≡ position (λ row. eqb (get_or row 2 0) c.args.address) c.rows_of-rows.result.now = position_from_yields_List (λ row. eqb (get_or row 2 0) c.args.address) _ _ c.position.result c.position.ensures.ran (YieldsList-from_slice _ c.iter.ensures.rest) (λ x b q k. search (rules, tests)) in
    one_by_one _ _ _ _ (rw c.rows_of-rows.ensures at found)
