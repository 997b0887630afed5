use Prim.Native.Nat.{ℕ}
use mathlib.Core.Path.{refl, ap}
use mathlib.Core.List.{List}
use borrow.Author.Tests.{not-false}
use Rattle.printing.specs.Pieces.{Standing}
use Rattle.filewrite.proofs.Handing.{held_left, write_ends, write_fails}
use Rattle.filewrite.proofs.write.write_file_to.Goals as goal

pub returns-then-not-pieces-clause-written : goal.returns-then-not-pieces-clause-written
returns-then-not-pieces-clause-written g c =
    let a = c.args in
    let said = c.list_file_under-listing.ensures in
    let begins = ap (λ (f : List ℕ → Standing). f a.ledger.now) said.progress in
    write_fails a.ranges a.file.now a.lent.now _ said.kept _ said.answer said.left _ _ _ _ _ begins c.write_opened-pieces.ensures.handed

pub returns-then-not-pieces-clause-held : goal.returns-then-not-pieces-clause-held
returns-then-not-pieces-clause-held g c = λ n. absurd (n refl)

pub returns-clause-written : goal.returns-clause-written
returns-clause-written g c =
    let a = c.args in
    let said = c.list_file_under-listing.ensures in
    let pieces = c.write_opened-pieces.ensures in
    let begins = ap (λ (f : List ℕ → Standing). f a.ledger.now) said.progress in
    write_ends a.ranges a.file.now a.lent.now _ said.kept _ said.answer said.left _ _ _ _ _ begins pieces.handed
    (pieces.whole (not-false _ c.if-not-pieces.false)) _ c.ended.ensures

pub returns-clause-held : goal.returns-clause-held
returns-clause-held g c =
    let a = c.args in
    let said = c.list_file_under-listing.ensures in
    let begins = ap (λ (f : List ℕ → Standing). f a.ledger.now) said.progress in
    λ _. held_left a.ranges a.file.now a.lent.now _ said.kept _ said.answer said.left _ _ begins _ _
    (c.write_opened-pieces.ensures.written (not-false _ c.if-not-pieces.false))
