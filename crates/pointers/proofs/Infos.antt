-- The image info as the code reads it: two numbers of four bytes.
use Prim.Native.Nat.{ℕ, ◌≤◌, ◌<◌}
use mathlib.Core.Path.{◌≡◌, sym, ◌∙◌}
use mathlib.Core.List.{List}
use native.Mathlib.Omega.{arith}
use borrow.Author.Tests.{le-leb, lt-leb}
use lib.ListN.{length}
use Rattle.reads.specs.Outcome.{value, absent}
use Rattle.reads.specs.declared.answer.Reason.TheVariants.{Unreadable}
use Rattle.reads.specs.Place.{le_in}
use Rattle.reads.proofs.Numbers.{le_inside}
use Rattle.reads.proofs.Tests.{choose_true, choose_false}
use Rattle.pointers.specs.ImageInfo.{image_info, info_of}

module _ (body : List ℕ) where
  pub info_short : length body < 8 → absent Unreadable ≡ image_info body
  unfolding image_info
  info_short h = sym (choose_false _ _ (lt-leb 8 (length body) h))

  pub info_by : (version flags : ℕ) → 8 ≤ length body → version ≡ le_in body 4 0 → flags ≡ le_in body 4 4 → value (info_of version flags) ≡ image_info body
  unfolding image_info
  info_by version flags h e g =
      rw (e ∙ sym (le_inside body 4 0 (omega arith)), g ∙ sym (le_inside body 4 4 h)) (sym (choose_true _ _ (le-leb 8 (length body) h)))
