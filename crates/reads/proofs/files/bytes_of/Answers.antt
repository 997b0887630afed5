use Rattle.std.proofs.Common.{ap, rules, not}
use Rattle.reads.proofs.LentFiles.{file_lent, file_not_lent, lent_below, said_lent, said_not}
use Rattle.reads.proofs.files.bytes_of.Goals as goal

pub returns-then-not-is_lent : goal.returns-then-not-is_lent
returns-then-not-is_lent c =
    let a = c.args in
    file_not_lent a.files.now a.f (said_not a.files.now a.f _ c.is_lent.ensures (ap not c.if-not-is_lent.true))

pub offset_bounds-files-f : goal.offset_bounds-files-f
offset_bounds-files-f c =
    let a = c.args in
    let h = lent_below a.files.now a.f (said_lent a.files.now a.f _ c.is_lent.ensures (ap not c.if-not-is_lent.false)) in
    search rules

pub bounds-files-f : goal.bounds-files-f
bounds-files-f c = let a = c.args in lent_below a.files.now a.f (said_lent a.files.now a.f _ c.is_lent.ensures (ap not c.if-not-is_lent.false))

pub returns : goal.returns
returns c =
    let a = c.args in
    file_lent a.files.now a.f _ (said_lent a.files.now a.f _ c.is_lent.ensures (ap not c.if-not-is_lent.false))
