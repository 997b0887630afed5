-- A stream of bind opcodes: the binds that it makes, in order.
use Rattle.std.specs.Prelude.{ℕ, zero, suc, ◌+◌, Bool, true, false, List, [], ◌∷◌, ◌++◌, length}
use Rattle.reads.specs.Outcome.{Outcome, value, and_then}
use Rattle.reads.specs.Place.{part}
use Rattle.macho.specs.Commands.{segments_of}
use Rattle.opcodes.specs.DyldInfo.{bind_off, weak_bind_off, lazy_bind_off, stream_off, stream_size}
use Rattle.opcodes.specs.Opcodes.{decode}
use Rattle.opcodes.specs.Binding.{unset, perform}
use Rattle.opcodes.specs.declared.dyld_info.Info.{Info}
use Rattle.opcodes.specs.declared.binding.State.{State}
use Rattle.fixups.specs.declared.name.Bound.{Bound}

-- The bytes of a stream from `place` in the file on, of which the first `skip` are operands that were read.
unfoldable pub walk : ℕ → List ℕ → List ℕ → Bool → ℕ → List ℕ → ℕ → State → Outcome (List Bound)
walk end cmds segs parts place [] skip s = value []
walk end cmds segs parts place (b ∷ rest) (suc skip) s = walk end cmds segs parts (place + 1) rest skip s
walk end cmds segs parts place (b ∷ rest) zero s =
    and_then (decode parts (place + 1) b rest) (λ d.
    and_then (perform end cmds segs d.says s) (λ m.
    and_then (walk end cmds segs parts (place + 1) rest d.size m.state) (λ xs. value (m.binds ++ xs))))

-- The stream of a field of the dyld_info_command at a: a range of the file, cut at its end.
unfoldable pub stream_at : List ℕ → List ℕ → List ℕ → ℕ → ℕ → Bool → Outcome (List Bound)
stream_at file cmds segs a field parts =
    walk (length file) cmds segs parts (stream_off cmds a field) (part file (stream_off cmds a field) (stream_size cmds a field)) 0 unset

-- What one stream binds, and then the next.
unfoldable pub joined : Outcome (List Bound) → Outcome (List Bound) → Outcome (List Bound)
joined x y = and_then x (λ xs. and_then y (λ ys. value (xs ++ ys)))

-- The strong stream, the weak one, the lazy one.
unfoldable pub streams_at : List ℕ → List ℕ → List ℕ → ℕ → Outcome (List Bound)
streams_at file cmds segs a =
    joined (stream_at file cmds segs a bind_off false) (joined (stream_at file cmds segs a weak_bind_off false) (stream_at file cmds segs a lazy_bind_off true))

-- The same of the command that the code is lent: its segments, its streams.
abbrev pub segments_in : Info → List ℕ
segments_in i = segments_of i.cmds.bytes.now i.cmds.count

abbrev pub stream_in : Info → ℕ → Bool → Outcome (List Bound)
stream_in i field parts = stream_at i.file.now i.cmds.bytes.now (segments_in i) i.at field parts

abbrev pub streams_in : Info → Outcome (List Bound)
streams_in i = streams_at i.file.now i.cmds.bytes.now (segments_in i) i.at
