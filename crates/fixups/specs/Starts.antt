-- Where chains start (fixup-chains.h, dyld_chained_starts_in_image and dyld_chained_starts_in_segment), in walk order.
use Rattle.std.specs.Prelude.{◌≡◌, ℕ, zero, suc, ◌+◌, ◌*◌, Bool, false, ◌||◌, Result, MatchResult, List, [], ◌++◌, drop, ◌==◌, nat_lt, slice_get, Option, None, Some}
use Rattle.reads.specs.Outcome.{Outcome, value, refused, and_then, choose}
use Rattle.macho.specs.Loader.{vmaddr, fileoff}
use Rattle.macho.specs.Commands.{segments_of}
use Rattle.fixups.specs.FixupChains.{lies, starts_offset, imports_offset, symbols_offset, imports_count, imports_format, symbols_format, seg_count, seg_info_offset, page_size, pointer_format, page_count, page_start}
use Rattle.fixups.specs.Chain.{Starts, number_of, starts_in, chain_at}
use Rattle.fixups.specs.declared.chain.PointerFormat.{PointerFormat}
use Rattle.fixups.specs.declared.chain.Fixups.{Fixups}
use Rattle.fixups.specs.declared.chain.Starts as code
use Rattle.fixups.specs.declared.chain.Fixup.{Fixup}
use Rattle.fixups.specs.declared.chain.Data.{Data}
use Rattle.reads.specs.declared.answer.Question.{Question}
use Rattle.reads.specs.declared.answer.Question.TheVariants.{FixupData}

-- What one part of a walk finds, and then the next.
unfoldable pub joined : Outcome (List Fixup) → Outcome (List Fixup) → Outcome (List Fixup)
joined x y = and_then x (λ xs. and_then y (λ ys. value (xs ++ ys)))

-- Page p of a segment whose starts stand at `at` in the fixup data: page_start 0xFFFF is no chain, its top bit marks several.
unfoldable pub page_at : List ℕ → List ℕ → Fixups → Starts → ℕ → ℕ → Outcome (List Fixup)
page_at file body f s at p =
    choose (lies body (at + 22 + 2 * p) 2)
    (choose (page_start body at p == 0xFFFF)
    (value [])
    (choose (nat_lt (page_start body at p) 0x8000)
    (chain_at file body f s (p * s.size) (page_start body at p))
    (refused FixupData)))
    (refused FixupData)

-- k pages from page p on.
unfoldable pub pages_from : List ℕ → List ℕ → Fixups → Starts → ℕ → ℕ → ℕ → Outcome (List Fixup)
pages_from file body f s at zero p = value []
pages_from file body f s at (suc k) p = joined (page_at file body f s at p) (pages_from file body f s at k (p + 1))

-- Pointer formats 2 (DYLD_CHAINED_PTR_64) and 6 (DYLD_CHAINED_PTR_64_OFFSET).
unfoldable pub known : ℕ → Bool
known format = format == 2 || format == 6

-- What the code reads of a format's number: the format, or 19.
abbrev pub Reads : ℕ → Result PointerFormat Question → Type 0
Reads n r = MatchResult r (λ format. number_of format ≡ n) (λ q. (known n ≡ false) × (q ≡ FixupData))

-- The starts at `at` in the fixup data, of the segment whose command stands at a.
abbrev pub starts_of : List ℕ → ℕ → List ℕ → ℕ → Starts
starts_of cmds a body at =
    record { vmaddr = vmaddr cmds a; fileoff = fileoff cmds a; format = pointer_format body at; size = page_size body at }

unfoldable pub segment_starts : List ℕ → List ℕ → List ℕ → Fixups → ℕ → ℕ → Outcome (List Fixup)
segment_starts file body cmds f at a =
    choose (lies body at 22)
    (choose (known (pointer_format body at))
    (pages_from file body f (starts_of cmds a body at) at (page_count body at) 0)
    (refused FixupData))
    (refused FixupData)

-- Of a segment, if there is one: starts without a segment are 19.
unfoldable pub first_starts : List ℕ → List ℕ → List ℕ → Fixups → ℕ → Option ℕ → Outcome (List Fixup)
first_starts file body cmds f at None = refused FixupData
first_starts file body cmds f at (Some a) = segment_starts file body cmds f at a

-- seg_info_offset 0: no starts.
unfoldable pub info_of : List ℕ → List ℕ → List ℕ → Fixups → ℕ → Option ℕ → Outcome (List Fixup)
info_of file body cmds f offset segment = choose (offset == 0) (value []) (first_starts file body cmds f (f.starts + offset) segment)

-- k entries of seg_info_offset from entry i on, over the segments from the i-th on.
unfoldable pub infos_from : List ℕ → List ℕ → List ℕ → Fixups → ℕ → ℕ → List ℕ → Outcome (List Fixup)
infos_from file body cmds f zero i segs = value []
infos_from file body cmds f (suc k) i segs =
    choose (lies body (f.starts + 4 + 4 * i) 4)
    (joined (info_of file body cmds f (seg_info_offset body f.starts i) (slice_get segs 0)) (infos_from file body cmds f k (i + 1) (drop 1 segs)))
    (refused FixupData)

-- The segments of the image, seg_count of them.
unfoldable pub image_starts : List ℕ → List ℕ → List ℕ → Fixups → List ℕ → Outcome (List Fixup)
image_starts file body cmds f segs =
    choose (lies body f.starts 4) (infos_from file body cmds f (seg_count body f.starts) 0 segs) (refused FixupData)

-- The same of the fixup data that the code is lent: the starts of a segment stand `info` bytes after those of the image.
abbrev pub page_in : Data → code.Starts → ℕ → Outcome (List Fixup)
page_in d s p = page_at d.file.now d.body.now d.fixups (starts_in s) (d.fixups.starts + s.info) p

abbrev pub pages_in : Data → code.Starts → ℕ → Outcome (List Fixup)
pages_in d s count = pages_from d.file.now d.body.now d.fixups (starts_in s) (d.fixups.starts + s.info) count 0

abbrev pub segment_starts_in : Data → ℕ → ℕ → Outcome (List Fixup)
segment_starts_in d info a = segment_starts d.file.now d.body.now d.cmds.bytes.now d.fixups (d.fixups.starts + info) a

abbrev pub info_in : Data → ℕ → Option ℕ → Outcome (List Fixup)
info_in d offset segment = info_of d.file.now d.body.now d.cmds.bytes.now d.fixups offset segment

abbrev pub image_starts_in : Data → Outcome (List Fixup)
image_starts_in d = image_starts d.file.now d.body.now d.cmds.bytes.now d.fixups (segments_of d.cmds.bytes.now d.cmds.count)

-- What the header says of fixup data that stands at `at` in the file.
abbrev pub header_of : List ℕ → ℕ → ℕ → Fixups
header_of body at base =
    record {
      at = at;
      starts = starts_offset body;
      imports = imports_offset body;
      symbols = symbols_offset body;
      count = imports_count body;
      base = base;
    }

-- The same of a header that is read: with imports of format 1 (DYLD_CHAINED_IMPORT) and plain symbol text (format 0).
unfoldable pub fixups_of : List ℕ → ℕ → ℕ → Outcome Fixups
fixups_of body at base =
    choose (lies body 0 28)
    (choose (imports_format body == 1) (choose (symbols_format body == 0) (value (header_of body at base)) (refused FixupData)) (refused FixupData))
    (refused FixupData)

-- The fixup data over the segments whose commands stand at segs: its header, then the starts.
unfoldable pub walk_of : List ℕ → List ℕ → List ℕ → ℕ → ℕ → List ℕ → Outcome (List Fixup)
walk_of file body cmds at base segs = and_then (fixups_of body at base) (λ f. image_starts file body cmds f segs)
