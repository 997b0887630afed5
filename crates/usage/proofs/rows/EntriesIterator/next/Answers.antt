use Rattle.std.proofs.Common.{ℕ, List, rules, ap, length, map, arith}
use Rattle.records.specs.List.{entry_address}
use Rattle.usage.proofs.RowsNoted as laws
use Rattle.usage.proofs.rows.EntriesIterator.next.Goals as goal

pub returns-in_err-j-clause-steps : goal.returns-in_err-j-clause-steps
returns-in_err-j-clause-steps c = let e = ap (map (entry_address c.args.self.now.h)) (laws.entries_none _ _ _ _ c.first_readable.ensures c.in_err-j.was) in rw c.from_residual.ensures (e, e)

pub prove-unreachable-requires : goal.prove-unreachable-requires
prove-unreachable-requires c = let b = laws.below_count _ _ _ _ _ c.first_readable.ensures c.in_ok-j.was in omega arith

pub returns-clause-steps : goal.returns-clause-steps
returns-clause-steps c =
    let there = c.entry_address.ensures.fits (laws.in_64 _ _ _ _ _ c.first_readable.ensures c.in_ok-j.was) in
    rw there (ap (map (entry_address c.args.self.now.h)) (laws.entries_first _ _ _ _ _ c.first_readable.ensures c.in_ok-j.was))

pub returns-clause-goes : goal.returns-clause-goes
returns-clause-goes c = let fewer = ap (λ (l : List ℕ). length (map (entry_address c.args.self.now.h) l)) (laws.entries_first _ _ _ _ _ c.first_readable.ensures c.in_ok-j.was) in search rules
