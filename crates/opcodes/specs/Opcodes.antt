-- The bind opcodes (loader.h, BIND_OPCODE_*): the upper four bits of a byte are the opcode, the lower four its immediate; its operands follow.
use Rattle.std.specs.Prelude.{ℕ, ◌+◌, ◌-◌, ◌*◌, ◌%◌, ◌^◌, Bool, List, length, drop, ◌==◌, nat_lt, Result, Ok, Err}
use Rattle.reads.specs.Outcome.{Outcome, value, absent, refused, and_then, choose}
use Rattle.reads.specs.Leb128.{uleb128, sleb128}
use Rattle.fixups.specs.Imports.{name_of, zero_from}
use Rattle.opcodes.specs.declared.opcode.BindOpcode.{BindOpcode}
use Rattle.opcodes.specs.declared.opcode.BindOpcode.TheVariants.{Done, SetDylibOrdinalImm, SetDylibOrdinalUleb, SetDylibSpecialImm, SetSymbolTrailingFlagsImm, SetTypeImm, SetAddendSleb, SetSegmentAndOffsetUleb, AddAddrUleb, DoBind, DoBindAddAddrUleb, DoBindAddAddrImmScaled, DoBindUlebTimesSkippingUleb}
use Rattle.opcodes.specs.declared.opcode.Instruction.{Instruction}
use Rattle.opcodes.specs.declared.opcode.Instruction.TheVariants.{Pass, Symbol, Segment, Add, Bind}
use Rattle.reads.specs.declared.answer.Question.{Question}
use Rattle.reads.specs.declared.answer.Question.TheVariants.{FixupData, FixupSlot}

-- What an opcode says, and how many bytes its operands are.
pub record Opcode : Type 0 where
  pub says : Instruction
  pub size : ℕ

abbrev pub opcode : Instruction → ℕ → Opcode
opcode x n = record { says = x; size = n }

abbrev pub decoded_outcome : Result (Instruction × ℕ) Question → Outcome Opcode
decoded_outcome (Ok d) = value (opcode d.0 d.1)
decoded_outcome (Err k) = refused k

-- An operand that is none is 19.
abbrev pub operand : {A : Type 0} → Outcome A → Outcome A
operand (value a) = value a
operand (absent r) = refused FixupData
operand (refused k) = refused FixupData

-- The opcodes that are read, by their numbers (BIND_OPCODE_*); any other, BIND_OPCODE_THREADED (0xD0) among them, is 19.
unfoldable pub opcode_of : ℕ → Outcome BindOpcode
opcode_of op =
    choose (op == 0x00) (value Done)
    (choose (op == 0x10) (value SetDylibOrdinalImm)
    (choose (op == 0x20) (value SetDylibOrdinalUleb)
    (choose (op == 0x30) (value SetDylibSpecialImm)
    (choose (op == 0x40) (value SetSymbolTrailingFlagsImm)
    (choose (op == 0x50) (value SetTypeImm)
    (choose (op == 0x60) (value SetAddendSleb)
    (choose (op == 0x70) (value SetSegmentAndOffsetUleb)
    (choose (op == 0x80) (value AddAddrUleb)
    (choose (op == 0x90) (value DoBind)
    (choose (op == 0xA0) (value DoBindAddAddrUleb)
    (choose (op == 0xB0) (value DoBindAddAddrImmScaled)
    (choose (op == 0xC0) (value DoBindUlebTimesSkippingUleb)
    (refused FixupData)))))))))))))

-- An opcode with one number, n, says f n.
unfoldable pub with_number : List ℕ → (ℕ → Instruction) → Outcome Opcode
with_number rest f = and_then (operand (uleb128 rest)) (λ u. value (opcode (f u.value) u.consumed))

-- BIND_OPCODE_SET_SYMBOL_TRAILING_FLAGS_IMM: the name stands at `place` in the file, and ends at its zero.
unfoldable pub symbol_at : ℕ → List ℕ → Outcome Opcode
symbol_at place rest = and_then (zero_from 0 rest) (λ n. value (opcode (Symbol (name_of place n)) (n + 1)))

-- BIND_OPCODE_SET_ADDEND_SLEB.
unfoldable pub addend : List ℕ → Outcome Opcode
addend rest = and_then (operand (sleb128 rest)) (λ s. value (opcode Pass s.consumed))

-- BIND_OPCODE_DO_BIND_ULEB_TIMES_SKIPPING_ULEB: the count, then the bytes skipped after each bind's 8, together below 2^64.
unfoldable pub skipping : List ℕ → ℕ → ℕ → Outcome Opcode
skipping rest count n =
    and_then (operand (uleb128 (drop n rest))) (λ u.
    choose (nat_lt (u.value + 8) (2 ^ 64)) (value (opcode (Bind count (u.value + 8)) (n + u.consumed))) (refused FixupSlot))

unfoldable pub times_skipping : List ℕ → Outcome Opcode
times_skipping rest = and_then (operand (uleb128 rest)) (λ u. skipping rest u.value u.consumed)

-- BIND_OPCODE_SET_TYPE_IMM: BIND_TYPE_POINTER, 1.
unfoldable pub typed : ℕ → Outcome Opcode
typed imm = choose (imm == 1) (value (opcode Pass 0)) (refused FixupData)

-- An opcode with its immediate, before the bytes `rest`, which stand at `place` in the file. DONE parts the entries of the lazy stream; any
-- other stream it ends: no byte after it is an opcode.
unfoldable pub by_opcode : Bool → ℕ → List ℕ → BindOpcode → ℕ → Outcome Opcode
by_opcode parts place rest Done imm = value (opcode Pass (choose parts 0 (length rest)))
by_opcode parts place rest SetDylibOrdinalImm imm = value (opcode Pass 0)
by_opcode parts place rest SetDylibOrdinalUleb imm = with_number rest (λ n. Pass)
by_opcode parts place rest SetDylibSpecialImm imm = value (opcode Pass 0)
by_opcode parts place rest SetSymbolTrailingFlagsImm imm = symbol_at place rest
by_opcode parts place rest SetTypeImm imm = typed imm
by_opcode parts place rest SetAddendSleb imm = addend rest
by_opcode parts place rest SetSegmentAndOffsetUleb imm = with_number rest (λ n. Segment imm n)
by_opcode parts place rest AddAddrUleb imm = with_number rest (λ n. Add n)
by_opcode parts place rest DoBind imm = value (opcode (Bind 1 8) 0)
by_opcode parts place rest DoBindAddAddrUleb imm = with_number rest (λ n. Bind 1 ((8 + n) % 2 ^ 64))
by_opcode parts place rest DoBindAddAddrImmScaled imm = value (opcode (Bind 1 (8 + 8 * imm)) 0)
by_opcode parts place rest DoBindUlebTimesSkippingUleb imm = times_skipping rest

unfoldable pub decode : Bool → ℕ → ℕ → List ℕ → Outcome Opcode
decode parts place b rest = and_then (opcode_of (b - b % 16)) (λ op. by_opcode parts place rest op (b % 16))
