use native.Mathlib.Omega.{arith}
use Rattle.listing.specs.ListingAnswer.{said_of}
use Rattle.printing.proofs.LineLengths.{said_length_lem}
use Rattle.printing.proofs.PieceAnswers.{further_by}
use Rattle.printing.proofs.Puts.{put_at, put_bytes}
use borrow.Author.Rules.{rules}
use Prim.Native.Nat.{◌^◌, ◌<◌}
use Rattle.reads.specs.Files.{files_lent, longest}
use Rattle.printing.proofs.pieces.Progress.hand_out.Goals as goal

pub overflow_sub-self : goal.overflow_sub-self
overflow_sub-self c = omega (arith, put_at _ _ _ c.said_text.ensures.put)

pub overflow_add-self : goal.overflow_add-self
overflow_add-self c =
    let short : longest (files_lent c.files.result.now) < 2 ^ 32 = rw c.files.ensures c.requires in
    omega (
      arith,
      put_at _ _ _ c.said_text.ensures.put,
      said_length_lem (files_lent c.files.result.now) (said_of c.args.self.now.said),
      short,
    )

pub returns-clause-piece : goal.returns-clause-piece
returns-clause-piece c = rw (← c.files.ensures) (further_by c.args.self.now _ _ _ (put_at _ _ _ c.said_text.ensures.put))

pub returns-clause-bytes : goal.returns-clause-bytes
returns-clause-bytes c =
    let e = put_bytes _ _ _ c.said_text.ensures.put in
    let s = c.said_text.ensures.same in
    rw (← c.files.ensures) (search rules)
