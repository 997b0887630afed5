use native.Mathlib.Omega.{arith}
use Rattle.face.proofs.Copies.{copied}
use Rattle.face.proofs.rows.put_row.Goals as goal

pub returns : goal.returns
returns c = copied c.args.table.now c.args.from _ c.args.words _ (omega arith) (omega arith) c.copy_from_slice.ensures.after
