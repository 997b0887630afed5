-- The answers over a file as structs of numbers, for C. A status is 0 for a value, 1 for a number that refuses, 2 for absent.
use Rattle.std.specs.Prelude.{ℕ, ◌+◌, ◌*◌, ◌/◌, Option, None, Some, Result, Ok, Err}
use Rattle.reads.specs.Outcome.{Outcome, value, absent, refused}
use Rattle.pointers.specs.Tables.{section_table_words, rebase_words, bind_words, chains}
use Rattle.macho.specs.OpenFile.{segment_table_words}
use Rattle.frames.specs.declared.frames.Ranges.{Ranges}
use Rattle.universal.specs.declared.fat.Part.{Part}
use Rattle.reads.specs.declared.answer.Question.{Question}
use Rattle.fixups.specs.Fixups.{Pair}
use Rattle.face.specs.declared.file.FilePart.{FilePart}
use Rattle.face.specs.declared.file.Counts.{Counts}
use Rattle.face.specs.declared.file.Sizes.{Sizes}
use Rattle.reads.specs.Question.{number_of}

abbrev pub part_words : Result (Option Part) Question → FilePart
part_words (Ok (Some p)) = record { status = 0; number = 0; cputype = p.cputype; cpusubtype = p.cpusubtype; offset = p.offset; size = p.size }
part_words (Ok None) = record { status = 2; number = 0; cputype = 0; cpusubtype = 0; offset = 0; size = 0 }
part_words (Err k) = record { status = 1; number = number_of k; cputype = 0; cpusubtype = 0; offset = 0; size = 0 }

abbrev pub tables_words : Outcome Pair → Counts
tables_words (value p) = record { status = 0; number = 0; rebases = p.rebased; binds = p.bound }
tables_words (absent r) = record { status = 2; number = 0; rebases = 0; binds = 0 }
tables_words (refused k) = record { status = 1; number = number_of k; rebases = 0; binds = 0 }

-- The elements to lend for a file of n bytes: the words of 64 segments and of the sections (2 and 3); 16,777,215 records (5 and 6) and the index
-- that they ask (8); and a word for each slot of two sections, each at most as long as the file (3 and 11).
unfoldable pub sizes_of : ℕ → Sizes
sizes_of n =
    record {
      segments = segment_table_words;
      sections = section_table_words;
      rebases = rebase_words * 16777215;
      binds = bind_words * 16777215;
      index = 2 * chains + 16777215 + 16777215;
      ledger = n / 8 * 2;
    }

abbrev pub ranges_of : ℕ → ℕ → ℕ → ℕ → Option Ranges
ranges_of first_frame last_frame first_slide last_slide =
    Some (record { first_frame = first_frame; last_frame = last_frame; first_slide = first_slide; last_slide = last_slide })
