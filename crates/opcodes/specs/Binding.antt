-- What an opcode does: the state that it sets, and the binds that it makes.
use Rattle.std.specs.Prelude.{ℕ, zero, suc, ◌+◌, ◌%◌, ◌^◌, Bool, ◌&&◌, List, [], ◌∷◌, nat_le, Option, None, Some}
use Rattle.reads.specs.Outcome.{Outcome, value, refused, and_then, choose}
use Rattle.macho.specs.Loader.{vmaddr, fileoff, filesize}
use Rattle.fixups.specs.Imports.{bound_slot}
use Rattle.fixups.specs.declared.name.Name.{Name}
use Rattle.opcodes.specs.declared.opcode.Instruction.{Instruction}
use Rattle.opcodes.specs.declared.opcode.Instruction.TheVariants.{Pass, Symbol, Segment, Add, Bind}
use Rattle.opcodes.specs.declared.binding.Place.{Place}
use Rattle.opcodes.specs.declared.binding.State.{State}
use Rattle.fixups.specs.declared.name.Bound.{Bound}
use Rattle.reads.specs.declared.answer.Question.TheVariants.{FixupData, FixupSlot}

-- Neither a segment nor a symbol is set.
abbrev pub unset : State
unset = record { place = None; offset = 0; name = None }

abbrev pub with_symbol : Name → State → State
with_symbol name s =
    record { place = s.place; offset = s.offset; name = Some name }

abbrev pub place_of : List ℕ → ℕ → Place
place_of cmds a = record { vmaddr = vmaddr cmds a; fileoff = fileoff cmds a; filesize = filesize cmds a }

-- The segment whose command stands at a, and the slot `offset` bytes into it.
abbrev pub with_segment : List ℕ → ℕ → ℕ → State → State
with_segment cmds a offset s =
    record { place = Some (place_of cmds a); offset = offset; name = s.name }

-- The slot n bytes further, modulo 2^64.
abbrev pub further : ℕ → State → State
further n s =
    record { place = s.place; offset = (s.offset + n) % 2 ^ 64; name = s.name }

-- The 8 bytes of the slot at an offset in a segment lie in the segment's part of a file of `end` bytes, and in the file.
abbrev pub inside : ℕ → Place → ℕ → Bool
inside end p offset = nat_le (offset + 8) p.filesize && nat_le (p.fileoff + offset + 8) end

-- The bind of the slot at an offset, by what is set.
abbrev pub bound_at : ℕ → ℕ → Option Place → Option Name → Outcome Bound
bound_at end offset (Some p) (Some n) =
    choose (inside end p offset) (value (bound_slot ((p.vmaddr + offset) % 2 ^ 64) n)) (refused FixupSlot)
bound_at end offset (Some p) None = refused FixupData
bound_at end offset None n = refused FixupData

-- The bind of the slot: 19 without a symbol or a segment, 20 outside the segment or the file.
unfoldable pub bound_by : ℕ → State → Outcome Bound
bound_by end s = bound_at end s.offset s.place s.name

-- The binds that an opcode makes, and the state after it.
pub record Moved : Type 0 where
  pub binds : List Bound
  pub state : State

abbrev pub moved : List Bound → State → Moved
moved xs s = record { binds = xs; state = s }

-- `count` binds, each `stride` bytes after the one before.
unfoldable pub run : ℕ → ℕ → ℕ → State → Outcome Moved
run end zero stride s = value (moved [] s)
run end (suc count) stride s =
    and_then (bound_by end s) (λ x.
    and_then (run end count stride (further stride s)) (λ m. value (moved (x ∷ m.binds) m.state)))

-- Segment `index` of those whose commands stand at segs; 19 where there is none.
unfoldable pub in_segment : List ℕ → List ℕ → ℕ → ℕ → State → Outcome State
in_segment cmds [] index offset s = refused FixupData
in_segment cmds (a ∷ segs) zero offset s = value (with_segment cmds a offset s)
in_segment cmds (a ∷ segs) (suc index) offset s = in_segment cmds segs index offset s

unfoldable pub perform : ℕ → List ℕ → List ℕ → Instruction → State → Outcome Moved
perform end cmds segs Pass s = value (moved [] s)
perform end cmds segs (Symbol name) s = value (moved [] (with_symbol name s))
perform end cmds segs (Segment index offset) s = and_then (in_segment cmds segs index offset s) (λ t. value (moved [] t))
perform end cmds segs (Add n) s = value (moved [] (further n s))
perform end cmds segs (Bind count stride) s = run end count stride s
