-- The operands of an opcode lie in the bytes after it.
use Rattle.std.proofs.Common.{◌≡◌, ℕ, ℤ, ◌+◌, ◌-◌, ◌%◌, ◌^◌, ◌<◌, ◌≤◌, Bool, List, [], ◌∷◌, length, take, drop, ap, subst, arith, length-drop, length-take}
use Rattle.reads.specs.Outcome.{Outcome, value, absent, refused, and_then, choose}
use Rattle.reads.specs.Leb128.{uleb128, sleb128, digit_count, uleb_of, sleb_of, within64, within_signed64, unsigned_digits, signed_digits, leb}
use Rattle.reads.specs.declared.leb128.Leb.{Leb}
use Rattle.reads.proofs.Tests.{by_choose}
use Rattle.fixups.specs.Imports.{zero_from}
use Rattle.opcodes.specs.Opcodes.{Opcode, opcode, operand, opcode_of, with_number, typed, symbol_at, addend, skipping, times_skipping, by_opcode, decode}
use Rattle.opcodes.specs.declared.opcode.BindOpcode.{BindOpcode}
use Rattle.opcodes.specs.declared.opcode.BindOpcode.TheVariants.{Done, SetDylibOrdinalImm, SetDylibOrdinalUleb, SetDylibSpecialImm, SetSymbolTrailingFlagsImm, SetTypeImm, SetAddendSleb, SetSegmentAndOffsetUleb, AddAddrUleb, DoBind, DoBindAddAddrUleb, DoBindAddAddrImmScaled, DoBindUlebTimesSkippingUleb}
use Rattle.opcodes.specs.declared.opcode.Instruction.{Instruction}
use Rattle.opcodes.specs.declared.opcode.Instruction.TheVariants.{Pass, Segment, Add, Bind}
use Rattle.reads.specs.declared.answer.Question.{Question}
use Rattle.reads.specs.declared.answer.Question.TheVariants.{FixupData, FixupSlot}
use Rattle.reads.proofs.Outcomes.{then_came}

operand_value : {A : Type 0} (o : Outcome A) (a : A) → operand o ≡ value a → o ≡ value a
operand_value (value a) b e = e
operand_value (absent r) b e = let z : ◌≡◌ {A = ℕ} 0 1 = cc in absurd (omega arith)
operand_value (refused k) b e = let z : ◌≡◌ {A = ℕ} 0 1 = cc in absurd (omega arith)

-- A number takes bytes that are there, whatever its digits say.
leb_in : {A : Type 0} (bytes : List ℕ) (g : List ℕ → Outcome A) (u : Leb A)
    → operand (and_then (digit_count bytes) (λ k. and_then (g (take k bytes)) (λ n. value (leb n (length (take k bytes)))))) ≡ value u → u.consumed ≤ length bytes
leb_in {A} bytes g u e =
    let p = then_came (digit_count bytes) (λ k. and_then (g (take k bytes)) (λ n. value (leb n (length (take k bytes))))) u (operand_value _ u e) in
    let q = then_came (g (take p.0 bytes)) (λ n. value (leb n (length (take p.0 bytes)))) u p.2 in
    let r : leb q.0 (length (take p.0 bytes)) ≡ u = cc in
    omega (arith, ap (λ (v : Leb A). v.consumed) r, length-take p.0 bytes)

pub uleb_in : (bytes : List ℕ) (u : Leb ℕ) → operand (uleb128 bytes) ≡ value u → u.consumed ≤ length bytes
unfolding uleb128 uleb_of
uleb_in bytes u e = leb_in bytes (λ ds. within64 (unsigned_digits ds)) u e

sleb_in : (bytes : List ℕ) (s : Leb ℤ) → operand (sleb128 bytes) ≡ value s → s.consumed ≤ length bytes
unfolding sleb128 sleb_of
sleb_in bytes s e = leb_in bytes (λ ds. within_signed64 (signed_digits ds)) s e

unfoldable pub Below : ℕ → Outcome ℕ → Type 0
Below n o = (k : ℕ) → o ≡ value k → k < n

pub zero_in : (i : ℕ) (bytes : List ℕ) → Below (i + length bytes) (zero_from i bytes)
unfolding zero_from Below
zero_in i [] = λ k e. let z : ◌≡◌ {A = ℕ} 0 1 = cc in absurd (omega arith)
zero_in i (b ∷ bytes) =
    by_choose (Below (i + length (b ∷ bytes)))
    (λ t. λ k e. let p : i ≡ k = cc in omega arith)
    (λ t. λ k e. omega (arith, zero_in (i + 1) bytes k e))

-- What holds of an opcode wherever there is one.
unfoldable pub Each : (Opcode → Type 0) → Outcome Opcode → Type 0
Each Q o = (d : Opcode) → o ≡ value d → Q d

module _ (Q : Opcode → Type 0) where
  pub each_value : (x : Instruction) (n : ℕ) → Q (opcode x n) → Each Q (value (opcode x n))
  unfolding Each
  each_value x n h = λ d e. let p : opcode x n ≡ d = cc in subst Q p h

  pub each_number : (k : Question) → Each Q (refused k)
  unfolding Each
  each_number k = λ d e. let z : ◌≡◌ {A = ℕ} 0 1 = cc in absurd (omega arith)

  pub each_then : {A : Type 0} (o : Outcome A) (f : A → Outcome Opcode) → ((a : A) → o ≡ value a → Each Q (f a)) → Each Q (and_then o f)
  unfolding Each
  each_then o f h = λ d e. let p = then_came o f d e in h p.0 p.1 d p.2

-- Its operands lie in the bytes.
module _ (rest : List ℕ) where
  abbrev Within : Outcome Opcode → Type 0
  Within o = Each (λ d. d.size ≤ length rest) o

  within_value : (x : Instruction) (n : ℕ) → n ≤ length rest → Within (value (opcode x n))
  within_value x n h = each_value (λ d. d.size ≤ length rest) x n h

  within_number : (k : Question) → Within (refused k)
  within_number k = each_number (λ d. d.size ≤ length rest) k

  within_then : {A : Type 0} (o : Outcome A) (f : A → Outcome Opcode) → ((a : A) → o ≡ value a → Within (f a)) → Within (and_then o f)
  within_then o f h = each_then (λ d. d.size ≤ length rest) o f h

  none_left : (t : Bool) → choose t 0 (length rest) ≤ length rest
  none_left t = by_choose (λ (n : ℕ). n ≤ length rest) {t = t} (λ _. omega arith) (λ _. omega arith)

  type_within : (imm : ℕ) → Within (typed imm)
  unfolding typed
  type_within imm = by_choose Within (λ _. within_value _ 0 (omega arith)) (λ _. within_number FixupData)

  number_within : (f : ℕ → Instruction) → Within (with_number rest f)
  unfolding with_number
  number_within f = within_then (operand (uleb128 rest)) _ (λ u e. within_value _ u.consumed (uleb_in rest u e))

  symbol_within : (place : ℕ) → Within (symbol_at place rest)
  unfolding symbol_at Below
  symbol_within place = within_then (zero_from 0 rest) _ (λ k e. within_value _ (k + 1) (omega (arith, zero_in 0 rest k e)))

  addend_within : Within (addend rest)
  unfolding addend
  addend_within = within_then (operand (sleb128 rest)) _ (λ s e. within_value _ s.consumed (sleb_in rest s e))

  times_within : Within (times_skipping rest)
  unfolding times_skipping skipping
  times_within =
      within_then (operand (uleb128 rest)) _ (λ u e.
      within_then (operand (uleb128 (drop u.consumed rest))) _ (λ v g.
      by_choose Within
      (λ _. within_value _ (u.consumed + v.consumed)
      (omega (arith, uleb_in rest u e, uleb_in (drop u.consumed rest) v g, length-drop u.consumed rest)))
      (λ _. within_number FixupSlot)))

  opcode_within : (parts : Bool) (place : ℕ) (op : BindOpcode) (imm : ℕ) → Within (by_opcode parts place rest op imm)
  unfolding by_opcode
  opcode_within parts place Done imm = within_value _ _ (none_left parts)
  opcode_within parts place SetDylibOrdinalImm imm = within_value _ 0 (omega arith)
  opcode_within parts place SetDylibOrdinalUleb imm = number_within (λ n. Pass)
  opcode_within parts place SetDylibSpecialImm imm = within_value _ 0 (omega arith)
  opcode_within parts place SetSymbolTrailingFlagsImm imm = symbol_within place
  opcode_within parts place SetTypeImm imm = type_within imm
  opcode_within parts place SetAddendSleb imm = addend_within
  opcode_within parts place SetSegmentAndOffsetUleb imm = number_within (λ n. Segment imm n)
  opcode_within parts place AddAddrUleb imm = number_within (λ n. Add n)
  opcode_within parts place DoBind imm = within_value _ 0 (omega arith)
  opcode_within parts place DoBindAddAddrUleb imm = number_within (λ n. Bind 1 ((8 + n) % 2 ^ 64))
  opcode_within parts place DoBindAddAddrImmScaled imm = within_value _ 0 (omega arith)
  opcode_within parts place DoBindUlebTimesSkippingUleb imm = times_within

  pub decode_within : (parts : Bool) (place b : ℕ) (d : Opcode) → decode parts place b rest ≡ value d → d.size ≤ length rest
  unfolding decode Each
  decode_within parts place b = within_then (opcode_of (b - b % 16)) _ (λ op e. opcode_within parts place op (b % 16))
