use mathlib.Core.Path.{◌≡◌}
use Rattle.macho.specs.Loader.{segment_kind}
use Rattle.macho.specs.Commands.{offsets}
use Rattle.macho.specs.Sections.{first_named, sections_of, section_named}
use Rattle.macho.proofs.Commands.{AllGood}
use Rattle.macho.proofs.section.section_named.Given as goal

abbrev pub invariant-loop-at : goal.invariant-loop-at
invariant-loop-at l =
    (section_named l.cmds.bytes.now l.cmds.count l.name ≡ first_named l.cmds.bytes.now l.name (sections_of l.cmds.bytes.now (offsets l.at-iterator)))
    × AllGood segment_kind l.cmds.bytes.now (offsets l.at-iterator)
