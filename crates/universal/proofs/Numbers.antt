-- Big-endian numbers, by the answer of the call that reads one.
use Prim.Native.Nat.{ℕ}
use mathlib.Core.Path.{◌≡◌, refl}
use mathlib.Core.Bool.{Bool, true, false}
use mathlib.Core.List.{List}
use native.Mathlib.Omega.{arith}
use Rattle.reads.specs.Outcome.{value, absent, and_then, choose}
use Rattle.reads.specs.Answer.{outcome}
use Rattle.reads.specs.Place.{readable_at, be_at}
use Rattle.reads.specs.declared.answer.Reason.TheVariants.{Unreadable}
use Rattle.reads.specs.declared.answer.Missing.{Missing}
use Rattle.reads.specs.declared.answer.Missing.TheVariants.{Absent, Refused}
use Rattle.reads.specs.declared.place.Place.{Place}
use Rattle.universal.specs.Number.{be_in}
use Rattle.std.specs.Prelude.{Result, Ok, Err}
use Rattle.std.specs.Result.{result_unwrap_or}

-- A number or 0, by whether its bytes lie in the slice.
module _ (p : Place) (f : Place → ℕ) where
  number_by : (b : Bool) (w : Result ℕ Missing) → outcome w ≡ and_then (choose b (value p) (absent Unreadable)) (λ q. value (f q))
      → result_unwrap_or w 0 ≡ choose b (f p) 0
  unfolding choose
  number_by true (Ok n) e = cc
  number_by true (Err (Absent r)) e = let z : ◌≡◌ {A = ℕ} 0 1 = cc in absurd (omega arith)
  number_by true (Err (Refused k)) e = let z : ◌≡◌ {A = ℕ} 0 1 = cc in absurd (omega arith)
  number_by false (Ok n) e = let z : ◌≡◌ {A = ℕ} 0 1 = cc in absurd (omega arith)
  number_by false (Err m) e = refl

pub be_or_zero : (bytes : List ℕ) (k at : ℕ) (w : Result ℕ Missing) → outcome w ≡ be_at bytes k at → result_unwrap_or w 0 ≡ be_in bytes k at
unfolding be_at readable_at be_in
be_or_zero bytes k at w e = number_by _ _ _ w e
