use mathlib.Core.Path.{◌≡◌}
use native.Mathlib.Omega.{arith}
use lib.ListN.{length}
use Rattle.filewrite.proofs.write.whole_piece.Goals as goal

pub returns-clause-rest : goal.returns-clause-rest
returns-clause-rest c =
    let size : length c.args.out.now ≡ 65536 = omega arith in
    rw size at c.next_piece.ensures.rest
