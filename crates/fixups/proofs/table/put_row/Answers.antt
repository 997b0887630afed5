use Rattle.std.proofs.Common.{◌≡◌, ◌*◌, ◌+◌, ◌-◌, ◌≤◌, length, ◌∙◌, ap, arith}
use Rattle.macho.proofs.Tables.{part_put}
use Rattle.fixups.specs.Tables.{part}
use Rattle.fixups.proofs.Rows as laws
use Rattle.fixups.proofs.table.put_row.Goals.{then-n-table, else-n-table}
use Rattle.fixups.proofs.table.put_row.Goals as goal

pub returns : goal.returns
returns g c =
    let a = c.args in let t = a.table.now in let k = g.row.N in let m = c.saturating_add.result in
    let size : length a.row ≡ k = c.well_formed.1.1.0.1.0.1 in
    elim c.if-n-table.branch [
      | then-n-table w ↦ (
          let l : k * a.n + k ≤ length t = laws.room k a.n (length t) c.requires w.if-n-table.true in
          let e : k * a.n + k - k * a.n ≡ length a.row = omega arith in
          ap (part m) (w.table-is ∙ part_put t _ _ a.row _ w.copy_from_slice.ensures.after e (omega arith))
          ∙ laws.row_in t a.n m k c.requires c.saturating_add.ensures (omega arith) a.row size l)
      | else-n-table w ↦
          ap (part m) w.table-is
          ∙ laws.row_out t a.n m k c.requires c.saturating_add.ensures (omega arith) a.row size (laws.no_room k a.n (length t) c.requires w.if-n-table.false)
    ]
