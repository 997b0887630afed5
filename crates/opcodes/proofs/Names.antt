-- Every bind's name lies in the file, with its zero byte: 7 is never met of a table that was built.
use Rattle.std.proofs.Common.{◌≡◌, ℕ, zero, suc, ◌+◌, ◌-◌, ◌*◌, ◌%◌, ◌^◌, ◌<◌, ◌≤◌, Bool, true, false, Option, Some, None, List, [], ◌∷◌, ◌++◌, length, drop, refl, ap, subst, arith, length-drop, length-take}
use Rattle.reads.specs.Outcome.{Outcome, value, refused, and_then}
use Rattle.reads.specs.Place.{part}
use Rattle.reads.specs.Leb128.{uleb128, sleb128}
use Rattle.reads.proofs.Tests.{by_choose}
use Rattle.macho.specs.Loader.{ncmds}
use Rattle.macho.specs.Commands.{command_bytes, asked_commands, segments_of}
use Rattle.fixups.specs.Imports.{bound_slot, name_of, zero_from}
use Rattle.opcodes.specs.DyldInfo.{bind_off, weak_bind_off, lazy_bind_off, stream_off, stream_size, first_info}
use Rattle.opcodes.specs.Opcodes.{Opcode, opcode, operand, opcode_of, with_number, typed, symbol_at, addend, skipping, times_skipping, by_opcode, decode}
use Rattle.opcodes.specs.Binding.{unset, further, with_symbol, with_segment, bound_at, bound_by, Moved, moved, run, in_segment, perform}
use Rattle.opcodes.specs.Streams.{walk, stream_at, joined, streams_at}
use Rattle.opcodes.specs.Binds.{binds_from, binds_in, binds_found}
use Rattle.opcodes.specs.Names.{NamesIn, none, name}
use Rattle.opcodes.specs.declared.opcode.BindOpcode.{BindOpcode}
use Rattle.opcodes.specs.declared.opcode.BindOpcode.TheVariants.{Done, SetDylibOrdinalImm, SetDylibOrdinalUleb, SetDylibSpecialImm, SetSymbolTrailingFlagsImm, SetTypeImm, SetAddendSleb, SetSegmentAndOffsetUleb, AddAddrUleb, DoBind, DoBindAddAddrUleb, DoBindAddAddrImmScaled, DoBindUlebTimesSkippingUleb}
use Rattle.opcodes.specs.declared.opcode.Instruction.{Instruction}
use Rattle.opcodes.specs.declared.opcode.Instruction.TheVariants.{Pass, Symbol, Segment, Add, Bind}
use Rattle.opcodes.specs.declared.binding.Place.{Place}
use Rattle.fixups.specs.declared.name.Name.{Name}
use Rattle.opcodes.specs.declared.binding.State.{State}
use Rattle.fixups.specs.declared.name.Bound.{Bound}
use Rattle.opcodes.proofs.Sizes.{Below, zero_in, Each, each_value, each_number, each_then}
use Rattle.reads.specs.declared.answer.Question.{Question}
use Rattle.reads.specs.declared.answer.Question.TheVariants.{FixupData, FixupSlot}
use Rattle.reads.proofs.Outcomes.{then_came}

names_append : (n : ℕ) (xs ys : List Bound) → NamesIn n xs → NamesIn n ys → NamesIn n (xs ++ ys)
names_append n [] ys none q = q
names_append n (x ∷ xs) ys (name h p) q = name h (names_append n xs ys p q)

-- A name that is set lies in the file.
abbrev Good : ℕ → State → Type 0
Good n s = (x : Name) → s.name ≡ Some x → x.at + x.len < n

-- One bind.
module _ (n end : ℕ) (s : State) (good : Good n s) where
  Lies : Outcome Bound → Type 0
  Lies o = (x : Bound) → o ≡ value x → x.name.at + x.name.len < n

  bound_lies : Lies (bound_by end s)
  unfolding bound_by Lies
  bound_lies = go s.place s.name refl
    where
      go : (a : Option Place) (t : Option Name) → s.name ≡ t → Lies (bound_at end s.offset a t)
      go (Some a) (Some t) h =
          by_choose Lies
          (λ _. λ x e.
          let p : bound_slot ((a.vmaddr + s.offset) % 2 ^ 64) t ≡ x = cc in
          let g = good t h in
          omega (arith, ap (λ (y : Bound). y.name.at) p, ap (λ (y : Bound). y.name.len) p))
          (λ _. λ x e. let z : ◌≡◌ {A = ℕ} 0 1 = cc in absurd (omega arith))
      go (Some a) None h = λ x e. let z : ◌≡◌ {A = ℕ} 0 1 = cc in absurd (omega arith)
      go None t h = λ x e. let z : ◌≡◌ {A = ℕ} 0 1 = cc in absurd (omega arith)

-- The binds that an opcode makes, and the state after it.
abbrev Kept : ℕ → Moved → Type 0
Kept n m = NamesIn n m.binds × Good n m.state

kept : (n : ℕ) (xs : List Bound) (s : State) (m : Moved) → value (moved xs s) ≡ value m → NamesIn n xs → Good n s → Kept n m
kept n xs s m e p g = let q : moved xs s ≡ m = cc in subst (Kept n) q (p, g)

run_kept : (n end stride k : ℕ) (s : State) (m : Moved) → Good n s → run end k stride s ≡ value m → Kept n m
unfolding run Lies
run_kept n end stride zero s m g e = kept n [] s m e none g
run_kept n end stride (suc k) s m g e =
    let p = then_came (bound_by end s) _ m e in
    let q = then_came (run end k stride (further stride s)) _ m p.2 in
    let r = run_kept n end stride k (further stride s) q.0 g q.1 in
    kept n (p.0 ∷ q.0.binds) q.0.state m q.2 (name (bound_lies n end s g p.0 p.1) r.0) r.1

segment_kept : (n : ℕ) (cmds segs : List ℕ) (index offset : ℕ) (s t : State) → Good n s → in_segment cmds segs index offset s ≡ value t → Good n t
unfolding in_segment
segment_kept n cmds [] index offset s t g e = let z : ◌≡◌ {A = ℕ} 0 1 = cc in absurd (omega arith)
segment_kept n cmds (a ∷ segs) zero offset s t g e = let p : with_segment cmds a offset s ≡ t = cc in subst (Good n) p g
segment_kept n cmds (a ∷ segs) (suc index) offset s t g e = segment_kept n cmds segs index offset s t g e

-- A symbol's name ends in the bytes after its opcode.
abbrev NameIn : ℕ → Instruction → Type 0
NameIn n x = (t : Name) → x ≡ Symbol t → t.at + t.len < n

perform_kept : (n end : ℕ) (cmds segs : List ℕ) (x : Instruction) (s : State) (m : Moved) → NameIn n x → Good n s
    → perform end cmds segs x s ≡ value m → Kept n m
unfolding perform
perform_kept n end cmds segs Pass s m h g e = kept n [] s m e none g
perform_kept n end cmds segs (Symbol t) s m h g e = kept n [] (with_symbol t s) m e none (λ x f.
    let p : t ≡ x = cc in
    let g = h t refl in
    omega (arith, ap (λ (y : Name). y.at) p, ap (λ (y : Name). y.len) p))
perform_kept n end cmds segs (Segment index offset) s m h g e =
    let p = then_came (in_segment cmds segs index offset s) (λ t. value (moved [] t)) m e in
    kept n [] p.0 m p.2 none (segment_kept n cmds segs index offset s p.0 g p.1)
perform_kept n end cmds segs (Add k) s m h g e = kept n [] (further k s) m e none g
perform_kept n end cmds segs (Bind count stride) s m h g e = run_kept n end stride count s m g e

-- Opcodes.
module _ (n : ℕ) where
  unnamed_pass : NameIn n Pass
  unnamed_pass = λ t e. let z : ◌≡◌ {A = ℕ} 0 1 = cc in absurd (omega arith)

  unnamed_segment : (i o : ℕ) → NameIn n (Segment i o)
  unnamed_segment i o = λ t e. let z : ◌≡◌ {A = ℕ} 0 1 = cc in absurd (omega arith)

  unnamed_add : (k : ℕ) → NameIn n (Add k)
  unnamed_add k = λ t e. let z : ◌≡◌ {A = ℕ} 0 1 = cc in absurd (omega arith)

  unnamed_bind : (c k : ℕ) → NameIn n (Bind c k)
  unnamed_bind c k = λ t e. let z : ◌≡◌ {A = ℕ} 0 1 = cc in absurd (omega arith)

  named_symbol : (a l : ℕ) → a + l < n → NameIn n (Symbol (name_of a l))
  named_symbol a l h = λ t e. let p : name_of a l ≡ t = cc in omega (arith, ap (λ (y : Name). y.at) p, ap (λ (y : Name). y.len) p)

  abbrev Named : Outcome Opcode → Type 0
  Named o = Each (λ d. NameIn n d.says) o

  one_named : (x : Instruction) (k : ℕ) → NameIn n x → Named (value (opcode x k))
  one_named x k h = each_value (λ d. NameIn n d.says) x k h

  no : (k : Question) → Named (refused k)
  no k = each_number (λ d. NameIn n d.says) k

  onto : {A : Type 0} (o : Outcome A) (f : A → Outcome Opcode) → ((a : A) → o ≡ value a → Named (f a)) → Named (and_then o f)
  onto o f h = each_then (λ d. NameIn n d.says) o f h

  number_named : (rest : List ℕ) (f : ℕ → Instruction) → ((k : ℕ) → NameIn n (f k)) → Named (with_number rest f)
  unfolding with_number
  number_named rest f h = onto (operand (uleb128 rest)) _ (λ u e. one_named _ _ (h u.value))

  type_named : (imm : ℕ) → Named (typed imm)
  unfolding typed
  type_named imm = by_choose Named (λ _. one_named Pass 0 unnamed_pass) (λ _. no FixupData)

  times_named : (rest : List ℕ) → Named (times_skipping rest)
  unfolding times_skipping skipping
  times_named rest =
      onto (operand (uleb128 rest)) _ (λ u e.
      onto (operand (uleb128 (drop u.consumed rest))) _ (λ v g.
      by_choose Named (λ t. one_named (Bind u.value (v.value + 8)) _ (unnamed_bind u.value (v.value + 8))) (λ _. no FixupSlot)))

  opcode_named : (parts : Bool) (place : ℕ) (rest : List ℕ) → place + length rest ≤ n → (op : BindOpcode) (imm : ℕ) → Named (by_opcode parts place rest op imm)
  unfolding by_opcode symbol_at addend Below
  opcode_named parts place rest h Done imm = one_named Pass _ unnamed_pass
  opcode_named parts place rest h SetDylibOrdinalImm imm = one_named Pass 0 unnamed_pass
  opcode_named parts place rest h SetDylibOrdinalUleb imm = number_named rest (λ k. Pass) (λ k. unnamed_pass)
  opcode_named parts place rest h SetDylibSpecialImm imm = one_named Pass 0 unnamed_pass
  opcode_named parts place rest h SetSymbolTrailingFlagsImm imm =
      onto (zero_from 0 rest) _ (λ k e. one_named (Symbol (name_of place k)) _ (named_symbol place k (omega (arith, zero_in 0 rest k e))))
  opcode_named parts place rest h SetTypeImm imm = type_named imm
  opcode_named parts place rest h SetAddendSleb imm = onto (operand (sleb128 rest)) _ (λ s e. one_named Pass _ unnamed_pass)
  opcode_named parts place rest h SetSegmentAndOffsetUleb imm = number_named rest (λ k. Segment imm k) (unnamed_segment imm)
  opcode_named parts place rest h AddAddrUleb imm = number_named rest (λ k. Add k) unnamed_add
  opcode_named parts place rest h DoBind imm = one_named (Bind 1 8) 0 (unnamed_bind 1 8)
  opcode_named parts place rest h DoBindAddAddrUleb imm = number_named rest (λ k. Bind 1 ((8 + k) % 2 ^ 64)) (λ k. unnamed_bind 1 ((8 + k) % 2 ^ 64))
  opcode_named parts place rest h DoBindAddAddrImmScaled imm = one_named (Bind 1 (8 + 8 * imm)) 0 (unnamed_bind 1 (8 + 8 * imm))
  opcode_named parts place rest h DoBindUlebTimesSkippingUleb imm = times_named rest

  decode_named : (parts : Bool) (place b : ℕ) (rest : List ℕ) → place + length rest ≤ n → Named (decode parts place b rest)
  unfolding decode
  decode_named parts place b rest h = onto (opcode_of (b - b % 16)) _ (λ op e. opcode_named parts place rest h op (b % 16))

-- A stream.
module _ (n end : ℕ) (cmds segs : List ℕ) (parts : Bool) where
  walk_named : (place : ℕ) (bytes : List ℕ) (skip : ℕ) (s : State) (xs : List Bound) → length bytes ≤ n - place → Good n s
      → walk end cmds segs parts place bytes skip s ≡ value xs → NamesIn n xs
  unfolding walk Each
  walk_named place [] skip s xs h g e = let p : ◌≡◌ {A = List Bound} [] xs = cc in subst (NamesIn n) p none
  walk_named place (b ∷ rest) (suc skip) s xs h g e = walk_named (place + 1) rest skip s xs (omega arith) g e
  walk_named place (b ∷ rest) zero s xs h g e =
      let p = then_came (decode parts (place + 1) b rest) _ xs e in
      let q = then_came (perform end cmds segs p.0.says s) _ xs p.2 in
      let r = then_came (walk end cmds segs parts (place + 1) rest p.0.size q.0.state) _ xs q.2 in
      let k = perform_kept n end cmds segs p.0.says s q.0 (decode_named n parts (place + 1) b rest (omega arith) p.0 p.1) g q.1 in
      let l = walk_named (place + 1) rest p.0.size q.0.state r.0 (omega arith) k.1 r.1 in
      let z : (q.0.binds ++ r.0) ≡ xs = cc in
      subst (NamesIn n) z (names_append n q.0.binds r.0 k.0 l)

abbrev Held : ℕ → Outcome (List Bound) → Type 0
Held n o = (xs : List Bound) → o ≡ value xs → NamesIn n xs

stream_named : (file cmds segs : List ℕ) (a field : ℕ) (parts : Bool) → Held (length file) (stream_at file cmds segs a field parts)
unfolding stream_at
stream_named file cmds segs a field parts = λ xs e.
    let o = stream_off cmds a field in
    let z = stream_size cmds a field in
    walk_named (length file) (length file) cmds segs parts o (part file o z) 0 unset xs
    (omega (arith, length-take z (drop o file), length-drop o file)) (λ x t. let w : ◌≡◌ {A = ℕ} 0 1 = cc in absurd (omega arith)) e

joined_named : (n : ℕ) (x y : Outcome (List Bound)) → Held n x → Held n y → Held n (joined x y)
unfolding joined
joined_named n x y f g = λ xs e.
    let p = then_came x _ xs e in
    let q = then_came y _ xs p.2 in
    let z : (p.0 ++ q.0) ≡ xs = cc in
    subst (NamesIn n) z (names_append n p.0 q.0 (f p.0 p.1) (g q.0 q.1))

streams_named : (file cmds segs : List ℕ) (a : ℕ) → Held (length file) (streams_at file cmds segs a)
unfolding streams_at
streams_named file cmds segs a =
    joined_named (length file) (stream_at file cmds segs a bind_off false) (joined (stream_at file cmds segs a weak_bind_off false) (stream_at file cmds segs a lazy_bind_off true))
    (stream_named file cmds segs a bind_off false)
    (joined_named (length file) (stream_at file cmds segs a weak_bind_off false) (stream_at file cmds segs a lazy_bind_off true) (stream_named file cmds segs a weak_bind_off false) (stream_named file cmds segs a lazy_bind_off true))

from_named : (file cmds : List ℕ) (count : ℕ) (r : Option ℕ) → Held (length file) (binds_in file cmds count r)
unfolding binds_in binds_from
from_named file cmds count (Some a) =
    by_choose (Held (length file)) (λ _. streams_named file cmds (segments_of cmds count) a)
    (λ _. λ xs e. let z : ◌≡◌ {A = ℕ} 0 1 = cc in absurd (omega arith))
from_named file cmds count None = λ xs e. let p : ◌≡◌ {A = List Bound} [] xs = cc in subst (NamesIn (length file)) p none

pub names_in_file : (file : List ℕ) (xs : List Bound) → binds_found file ≡ value xs → NamesIn (length file) xs
unfolding binds_found
names_in_file file xs e =
    let p = then_came (asked_commands file) _ xs e in
    from_named file (command_bytes file) (ncmds file) (first_info (command_bytes file) (ncmds file)) xs p.2
