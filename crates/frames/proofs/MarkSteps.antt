-- Floors, by what the library says of options.
use Prim.Native.Nat.{ℕ, ◌≤◌, ◌<◌}
use mathlib.Core.Path.{◌≡◌, refl}
use mathlib.Core.Bool.{Bool}
use native.Mathlib.Omega.{arith}
use Rattle.std.proofs.lemmas.Bool.Decides.{nat_tests}
use lib.Dec.{eqb}
use Rattle.std.specs.Prelude.{Option, None, Some}
use Rattle.std.specs.Option.{option_eq, option_cmp}
use Rattle.std.specs.Ordering.{nat_cmp, ord_max}
use borrow.Author.Tests.{le-leb, lt-leb}
use Rattle.reads.specs.Outcome.{choose}
use Rattle.frames.specs.Marks.{later, raised, is_at}

module _ (limit : ℕ) (f : Option ℕ) (start : ℕ) where
  pub raised_past : limit < start → f ≡ raised limit f start
  unfolding raised choose
  raised_past h = simp (lt-leb start limit h)

  pub raised_max : start ≤ limit → ord_max (option_cmp nat_cmp) f (Some start) ≡ raised limit f start
  unfolding raised choose
  raised_max h = simp (le-leb start limit h) (go f)
    where
      go : (f : Option ℕ) → ord_max (option_cmp nat_cmp) f (Some start) ≡ later f start
      go None = refl
      go (Some a) = grind (arith, nat_tests)

-- The floor is the start, or it is not.
pub eq_at : {b : Bool} (f : Option ℕ) (start : ℕ) → b ≡ option_eq eqb f (Some start) → b ≡ is_at f start
eq_at None start e = e
eq_at (Some a) start e = e
