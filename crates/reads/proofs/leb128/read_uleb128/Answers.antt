use Rattle.std.proofs.Common.{arith, length-take}
use Rattle.reads.proofs.LebLaws.{digit_count_bounds}
use Rattle.reads.proofs.leb128.read_uleb128.Goals as goal

pub slice_bounds-uleb_of-end : goal.slice_bounds-uleb_of-end
slice_bounds-uleb_of-end c =
    let b = digit_count_bounds _ c.args.bytes.now _ c.digit_count.ensures c.in_ok-k.was in
    simp length-take (omega arith)
