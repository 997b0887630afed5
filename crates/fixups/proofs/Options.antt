-- What an `ok_or` says of its option.
use Rattle.std.proofs.Common.{◌≡◌, ℕ, refl, Option, Some, None, arith}
use Rattle.std.specs.Prelude.{Ok, Err, ok_or}
use Rattle.reads.specs.declared.answer.Question.{Question}

module _ (k : Question) where
  pub some_of : (r : Option ℕ) (n : ℕ) → ok_or r k ≡ Ok n → r ≡ Some n
  some_of (Some m) n g = cc
  some_of None n g = let z : ◌≡◌ {A = ℕ} 0 1 = cc in absurd (omega arith)

  pub none_of : (r : Option ℕ) (j : Question) → ok_or r k ≡ Err j → (r ≡ None) × (j ≡ k)
  none_of (Some m) j g = let z : ◌≡◌ {A = ℕ} 0 1 = cc in absurd (omega arith)
  none_of None j g = (refl, cc)
