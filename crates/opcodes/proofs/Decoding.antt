-- Opcodes, by the branches of the code.
use Rattle.std.proofs.Common.{◌≡◌, ℕ, ◌+◌, ◌==◌, Option, Some, None, List, arith}
use Rattle.reads.specs.Outcome.{value, refused}
use Rattle.reads.specs.Leb128.{uleb128}
use Rattle.reads.specs.Answer.{answered}
use Rattle.reads.specs.declared.leb128.Leb.{Leb}
use Rattle.std.specs.List.{position}
use Rattle.fixups.specs.Imports.{name_of}
use Rattle.fixups.proofs.Names.{zero_at, zero_nowhere}
use Rattle.opcodes.specs.Opcodes.{opcode, operand, symbol_at}
use Rattle.opcodes.specs.declared.opcode.Instruction.TheVariants.{Symbol}
use Rattle.std.specs.Prelude.{Result, Ok}
use Rattle.reads.specs.declared.answer.Question.{Question}
use Rattle.reads.specs.declared.answer.Question.TheVariants.{FixupData}

-- What the code sees of a number: r.
pub number_there : (bytes : List ℕ) (r : Result (Leb ℕ) Question) → answered r ≡ operand (uleb128 bytes) → (u : Leb ℕ) → r ≡ Ok u → operand (uleb128 bytes) ≡ value u
number_there bytes r e u g = rw (← e, g)

-- A name, from its first byte on; r is where its zero was found.
module _ (place : ℕ) (rest : List ℕ) (r : Option ℕ) (e : r ≡ position (λ x. x == 0) rest) where
  pub symbol_ends : (n : ℕ) → r ≡ Some n → value (opcode (Symbol (name_of place n)) (n + 1)) ≡ symbol_at place rest
  unfolding symbol_at
  symbol_ends n g = let z : 0 + n ≡ n = omega arith in rw (zero_at 0 n rest r e g, z)

  pub symbol_runs_out : r ≡ None → refused FixupData ≡ symbol_at place rest
  unfolding symbol_at
  symbol_runs_out g = rw (zero_nowhere 0 rest r e g)
