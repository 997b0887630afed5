use mathlib.Core.Path.{◌≡◌}
use Prim.Native.Nat.{◌*◌}
use lib.ListN.{drop}
use lib.Seq.{sets}
use Rattle.macho.specs.Commands.{segments_of}
use Rattle.pointers.specs.Tables.{section_words}
use Rattle.macho.specs.Sections.{sections_of, section_names, section_rows, section_table_of}
use Rattle.macho.proofs.section.write_sections.Given as goal

abbrev pub invariant-loop-k : goal.invariant-loop-k
invariant-loop-k l = sets l.table (section_words * l.k) (section_rows l.cmds.bytes.now (sections_of l.cmds.bytes.now (segments_of l.cmds.bytes.now l.cmds.count)) (drop l.k section_names)) ≡ sets l.initial.table 0 (section_table_of l.cmds.bytes.now l.cmds.count)
