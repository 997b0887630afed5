use Prim.Native.Nat.{◌*◌}
use Rattle.pointers.specs.Tables.{chains}
use Rattle.pointers.proofs.IndexFolds.{cleared_by}
use Rattle.pointers.proofs.index.clear_heads.Goals as goal

pub returns : goal.returns
returns c = cleared_by (2 * chains) c.args.index.now c.requires c.fill.new.self (c.fill.ensures.after (λ y e. e))
