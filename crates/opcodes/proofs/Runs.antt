-- A run of binds that is not refused has at most as many as the file has bytes, whatever its count: each slot lies in the file, and by a stride
-- of 8 or more below 2^64 the slots rise or, where the sum passes 2^64, fall.
use Rattle.std.proofs.Common.{◌≡◌, ℕ, zero, suc, ◌+◌, ◌-◌, ◌*◌, ◌%◌, ◌^◌, ◌<◌, ◌≤◌, Bool, true, false, leb, ◌⊎◌, Option, Some, None, List, [], ◌∷◌, length, drop, refl, ap, inl, inr, arith, ltb-true, leb-false, leb-true}
use Rattle.reads.specs.Outcome.{Outcome, value, refused}
use Rattle.reads.proofs.Tests.{by_choose, both_true}
use Rattle.reads.specs.Leb128.{uleb128, sleb128}
use Rattle.fixups.specs.Imports.{name_of, zero_from}
use Rattle.opcodes.specs.Opcodes.{Opcode, opcode, operand, opcode_of, with_number, typed, symbol_at, addend, skipping, times_skipping, by_opcode, decode}
use Rattle.opcodes.specs.Binding.{further, with_symbol, inside, bound_at, bound_by, Moved, moved, run, in_segment, perform}
use Rattle.opcodes.specs.declared.opcode.BindOpcode.{BindOpcode}
use Rattle.opcodes.specs.declared.opcode.BindOpcode.TheVariants.{Done, SetDylibOrdinalImm, SetDylibOrdinalUleb, SetDylibSpecialImm, SetSymbolTrailingFlagsImm, SetTypeImm, SetAddendSleb, SetSegmentAndOffsetUleb, AddAddrUleb, DoBind, DoBindAddAddrUleb, DoBindAddAddrImmScaled, DoBindUlebTimesSkippingUleb}
use Rattle.opcodes.specs.declared.opcode.Instruction.{Instruction}
use Rattle.opcodes.specs.declared.opcode.Instruction.TheVariants.{Pass, Symbol, Segment, Add, Bind}
use Rattle.opcodes.specs.declared.binding.Place.{Place}
use Rattle.fixups.specs.declared.name.Name.{Name}
use Rattle.opcodes.specs.declared.binding.State.{State}
use Rattle.fixups.specs.declared.name.Bound.{Bound}
use Rattle.opcodes.proofs.Sizes.{Each, each_value, each_number, each_then}
use Rattle.reads.specs.declared.answer.Question.{Question}
use Rattle.reads.specs.declared.answer.Question.TheVariants.{FixupData, FixupSlot}
use Rattle.reads.proofs.Outcomes.{then_came}

-- A bind's 8 bytes end in the file.
module _ (end : ℕ) (s : State) where
  Low : Outcome Bound → Type 0
  Low o = (x : Bound) → o ≡ value x → s.offset + 8 ≤ end

  inside_low : (a : Place) → inside end a s.offset ≡ true → s.offset + 8 ≤ end
  inside_low a t =
      let p = both_true (leb (s.offset + 8) a.filesize) (leb (a.fileoff + s.offset + 8) end) t in
      omega (arith, leb-true (a.fileoff + s.offset + 8) end p.1)

  bound_low : Low (bound_by end s)
  unfolding bound_by Low
  bound_low = go s.place s.name
    where
      go : (p : Option Place) (n : Option Name) → Low (bound_at end s.offset p n)
      go (Some p) (Some n) = by_choose Low (λ t. λ x e. inside_low p t) (λ _. λ x e. let z : ◌≡◌ {A = ℕ} 0 1 = cc in absurd (omega arith))
      go (Some p) None = λ x e. let z : ◌≡◌ {A = ℕ} 0 1 = cc in absurd (omega arith)
      go None n = λ x e. let z : ◌≡◌ {A = ℕ} 0 1 = cc in absurd (omega arith)

module _ (end stride : ℕ) where
  -- The first bind of a run, and the run after it.
  run_first : (k : ℕ) (s : State) (m : Moved) → run end (suc k) stride s ≡ value m → s.offset + 8 ≤ end
  unfolding run Low
  run_first k s m e = let p = then_came (bound_by end s) _ m e in bound_low end s p.0 p.1

  run_rest : (k : ℕ) (s : State) (m : Moved) → run end (suc k) stride s ≡ value m → (n : Moved) × (run end k stride (further stride s) ≡ value n)
  unfolding run
  run_rest k s m e =
      let p = then_came (bound_by end s) _ m e in
      let q = then_came (run end k stride (further stride s)) _ m p.2 in
      (q.0, q.1)

  rises : 8 ≤ stride → stride + end ≤ 2 ^ 64 → (k : ℕ) (s : State) (m : Moved) → run end k stride s ≡ value m → k ≤ end - s.offset
  rises h l zero s m e = omega arith
  rises h l (suc k) s m e =
      let q = run_rest k s m e in
      omega (arith, run_first k s m e, rises h l k (further stride s) q.0 q.1)

  falls : stride < 2 ^ 64 → 2 ^ 64 < stride + end → end ≤ 2 ^ 63 → (k : ℕ) (s : State) (m : Moved) → run end k stride s ≡ value m → k ≤ s.offset + 1
  falls h l r zero s m e = omega arith
  falls h l r (suc zero) s m e = omega arith
  falls h l r (suc (suc k)) s m e =
      let q = run_rest (suc k) s m e in
      omega (
        arith,
        run_first (suc k) s m e,
        run_first k (further stride s) q.0 q.1,
        falls h l r (suc k) (further stride s) q.0 q.1,
      )

  pub run_short : 8 ≤ stride → stride < 2 ^ 64 → end ≤ 2 ^ 63 → (k : ℕ) (s : State) (m : Moved) → run end k stride s ≡ value m → k ≤ end
  run_short h l r zero s m e = omega arith
  run_short h l r (suc k) s m e = go (leb (stride + end) (2 ^ 64)) refl
    where
      go : (t : Bool) → leb (stride + end) (2 ^ 64) ≡ t → suc k ≤ end
      go true t = omega (arith, rises h (leb-true (stride + end) (2 ^ 64) t) (suc k) s m e)
      go false t =
          omega (arith, falls l (leb-false (stride + end) (2 ^ 64) t) r (suc k) s m e, run_first k s m e)

-- An opcode's run has one bind at most, or such a stride.
abbrev Paced : Instruction → Type 0
Paced x = (count stride : ℕ) → x ≡ Bind count stride → ((count ≤ 1) ⊎ ((8 ≤ stride) × (stride < 2 ^ 64)))

paced_pass : Paced Pass
paced_pass = λ count stride e. let z : ◌≡◌ {A = ℕ} 0 1 = cc in absurd (omega arith)

paced_symbol : (name : Name) → Paced (Symbol name)
paced_symbol name = λ count stride e. let z : ◌≡◌ {A = ℕ} 0 1 = cc in absurd (omega arith)

paced_segment : (index offset : ℕ) → Paced (Segment index offset)
paced_segment index offset = λ count stride e. let z : ◌≡◌ {A = ℕ} 0 1 = cc in absurd (omega arith)

paced_add : (n : ℕ) → Paced (Add n)
paced_add n = λ count stride e. let z : ◌≡◌ {A = ℕ} 0 1 = cc in absurd (omega arith)

paced_one : (n : ℕ) → Paced (Bind 1 n)
paced_one n = λ count stride e. let p : ◌≡◌ {A = ℕ} 1 count = cc in inl (omega arith)

paced_run : (k n : ℕ) → 8 ≤ n → n < 2 ^ 64 → Paced (Bind k n)
paced_run k n h l = λ count stride e. let p : n ≡ stride = cc in inr (omega arith, omega arith)

abbrev Strides : Outcome Opcode → Type 0
Strides o = Each (λ d. Paced d.says) o

one_paced : (x : Instruction) (n : ℕ) → Paced x → Strides (value (opcode x n))
one_paced x n h = each_value (λ d. Paced d.says) x n h

none : (k : Question) → Strides (refused k)
none k = each_number (λ d. Paced d.says) k

number_paced : (rest : List ℕ) (f : ℕ → Instruction) → ((n : ℕ) → Paced (f n)) → Strides (with_number rest f)
unfolding with_number
number_paced rest f h = each_then (λ d. Paced d.says) (operand (uleb128 rest)) _ (λ u e. one_paced _ _ (h u.value))

type_paced : (imm : ℕ) → Strides (typed imm)
unfolding typed
type_paced imm = by_choose Strides (λ _. one_paced Pass 0 paced_pass) (λ _. none FixupData)

times_paced : (rest : List ℕ) → Strides (times_skipping rest)
unfolding times_skipping skipping
times_paced rest =
    each_then (λ d. Paced d.says) (operand (uleb128 rest)) _ (λ u e.
    each_then (λ d. Paced d.says) (operand (uleb128 (drop u.consumed rest))) _ (λ v g.
    by_choose Strides
    (λ t. one_paced (Bind u.value (v.value + 8)) _ (paced_run u.value (v.value + 8) (omega arith) (ltb-true (v.value + 8) (2 ^ 64) t)))
    (λ _. none FixupSlot)))

opcode_paced : (parts : Bool) (place : ℕ) (rest : List ℕ) (op : BindOpcode) (imm : ℕ) → Strides (by_opcode parts place rest op imm)
unfolding by_opcode symbol_at addend
opcode_paced parts place rest Done imm = one_paced Pass _ paced_pass
opcode_paced parts place rest SetDylibOrdinalImm imm = one_paced Pass 0 paced_pass
opcode_paced parts place rest SetDylibOrdinalUleb imm = number_paced rest (λ n. Pass) (λ n. paced_pass)
opcode_paced parts place rest SetDylibSpecialImm imm = one_paced Pass 0 paced_pass
opcode_paced parts place rest SetSymbolTrailingFlagsImm imm =
    each_then (λ d. Paced d.says) (zero_from 0 rest) _ (λ n e. one_paced (Symbol (name_of place n)) _ (paced_symbol (name_of place n)))
opcode_paced parts place rest SetTypeImm imm = type_paced imm
opcode_paced parts place rest SetAddendSleb imm = each_then (λ d. Paced d.says) (operand (sleb128 rest)) _ (λ s e. one_paced Pass _ paced_pass)
opcode_paced parts place rest SetSegmentAndOffsetUleb imm = number_paced rest (λ n. Segment imm n) (paced_segment imm)
opcode_paced parts place rest AddAddrUleb imm = number_paced rest (λ n. Add n) paced_add
opcode_paced parts place rest DoBind imm = one_paced (Bind 1 8) 0 (paced_one 8)
opcode_paced parts place rest DoBindAddAddrUleb imm = number_paced rest (λ n. Bind 1 ((8 + n) % 2 ^ 64)) (λ n. paced_one ((8 + n) % 2 ^ 64))
opcode_paced parts place rest DoBindAddAddrImmScaled imm = one_paced (Bind 1 (8 + 8 * imm)) 0 (paced_one (8 + 8 * imm))
opcode_paced parts place rest DoBindUlebTimesSkippingUleb imm = times_paced rest

decode_paced : (parts : Bool) (place b : ℕ) (rest : List ℕ) → Strides (decode parts place b rest)
unfolding decode
decode_paced parts place b rest =
    each_then (λ d. Paced d.says) (opcode_of (b - b % 16)) _ (λ op e. opcode_paced parts place rest op (b % 16))

-- A run makes as many binds as it counts.
run_count : (end stride k : ℕ) (s : State) (m : Moved) → run end k stride s ≡ value m → length m.binds ≡ k
unfolding run
run_count end stride zero s m e = let p : moved [] s ≡ m = cc in omega (arith, ap (λ (w : Moved). length w.binds) p)
run_count end stride (suc k) s m e =
    let p = then_came (bound_by end s) _ m e in
    let q = then_came (run end k stride (further stride s)) _ m p.2 in
    let r : moved (p.0 ∷ q.0.binds) q.0.state ≡ m = cc in
    omega (arith, ap (λ (w : Moved). length w.binds) r, run_count end stride k (further stride s) q.0 q.1)

-- An opcode makes at most as many binds as the file has bytes.
pub opcode_short : (end : ℕ) (cmds segs : List ℕ) (parts : Bool) (place b : ℕ) (rest : List ℕ) (d : Opcode) (s : State) (m : Moved)
    → decode parts place b rest ≡ value d → perform end cmds segs d.says s ≡ value m → end ≤ 2 ^ 63 → length m.binds ≤ end
unfolding Each
opcode_short end cmds segs parts place b rest d s m e g l = go d.says g (decode_paced parts place b rest d e)
  where
    still : (t : State) → value (moved [] t) ≡ value m → length m.binds ≤ end
    still t q = let p : moved [] t ≡ m = cc in omega (arith, ap (λ (w : Moved). length w.binds) p)

    bounded : (k n : ℕ) → run end k n s ≡ value m → ((k ≤ 1) ⊎ ((8 ≤ n) × (n < 2 ^ 64))) → k ≤ end
    bounded zero n q w = omega arith
    bounded (suc k) n q (inl w) = omega (arith, run_first end n k s m q)
    bounded (suc k) n q (inr w) = run_short end n w.0 w.1 l (suc k) s m q

    go : (x : Instruction) → perform end cmds segs x s ≡ value m → Paced x → length m.binds ≤ end
    go Pass q w = still s (unfold perform in q)
    go (Symbol name) q w = still (with_symbol name s) (unfold perform in q)
    go (Segment index offset) q w =
        let p = then_came (in_segment cmds segs index offset s) (λ t. value (moved [] t)) m (unfold perform in q) in still p.0 p.2
    go (Add n) q w = still (further n s) (unfold perform in q)
    go (Bind k n) q w =
        let q' : run end k n s ≡ value m = unfold perform in q in
        omega (arith, run_count end n k s m q', bounded k n q' (w k n refl))
