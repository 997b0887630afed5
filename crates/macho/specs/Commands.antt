-- The header and the load commands of a 64-bit little-endian Mach-O file (loader.h), and what 15 and 16 ask of them (document 02, note 3).
use Rattle.std.specs.Prelude.{ℕ, zero, suc, ◌+◌, Bool, true, ◌&&◌, List, [], ◌∷◌, ◌++◌, leb, eqb, length}
use Rattle.reads.specs.Outcome.{Outcome, and_then, choose}
use Rattle.reads.specs.Place.{part}
use Rattle.pointers.specs.Question.{question}
use Rattle.macho.specs.Loader.{magic, ncmds, sizeofcmds, cmd, cmdsize, segment_kind, nsects, size_with_sections}
use Rattle.macho.specs.declared.command.CommandsOfKind.{CommandsOfKind}
use Rattle.reads.specs.declared.answer.Question.TheVariants.{Header, LoadCommands}

-- 15: a header of 32 bytes, with the magic of a 64-bit little-endian file?
unfoldable pub headed : List ℕ → Bool
headed file = leb 32 (length file) && eqb (magic file) 0xFEEDFACF

-- The bytes of the load commands: sizeofcmds of them after the header, cut at the file's end.
abbrev pub command_bytes : List ℕ → List ℕ
command_bytes file = part file 32 (sizeofcmds file)

-- A segment command is long enough for the sections that it counts.
unfoldable pub sectioned : List ℕ → ℕ → Bool
sectioned cmds a = choose (eqb (cmd cmds a) segment_kind) (leb (size_with_sections (nsects cmds a)) (cmdsize cmds a)) true

-- 16, of the command at a: inside the commands' bytes, at least 8 bytes, and long enough for its sections.
unfoldable pub fits : List ℕ → ℕ → Bool
fits cmds a =
    leb (a + 8) (length cmds)
    && (leb 8 (cmdsize cmds a) && (leb (a + cmdsize cmds a) (length cmds) && sectioned cmds a))

-- 16, of the k commands from a on.
unfoldable pub all_fit : List ℕ → ℕ → ℕ → Bool
all_fit cmds zero a = true
all_fit cmds (suc k) a = fits cmds a && all_fit cmds k (a + cmdsize cmds a)

-- 15, then 16.
unfoldable pub asked_commands : List ℕ → Outcome (Unit {0})
asked_commands file = and_then (question Header (headed file)) (λ _. question LoadCommands (all_fit (command_bytes file) (ncmds file) 0))

-- Where the commands of one kind stand, in order, among the k commands from a on; one that does not fit ends them.
unfoldable pub of_kind : ℕ → List ℕ → ℕ → ℕ → List ℕ
of_kind kind cmds zero a = []
of_kind kind cmds (suc k) a =
    choose (fits cmds a) (choose (eqb (cmd cmds a) kind) (a ∷ []) [] ++ of_kind kind cmds k (a + cmdsize cmds a)) []

-- The segment commands, in command order.
abbrev pub segments_of : List ℕ → ℕ → List ℕ
segments_of cmds count = of_kind segment_kind cmds count 0

-- Where those stand that the iterator has yet to give.
abbrev pub offsets : CommandsOfKind → List ℕ
offsets c = of_kind c.kind c.bytes.now c.left c.at
