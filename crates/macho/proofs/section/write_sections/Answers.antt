use Rattle.macho.proofs.Tables as laws
use native.Mathlib.Omega.{arith}
use mathlib.Core.Path.{refl, sym, ◌∙◌, ap}
use mathlib.Core.List.{List, []}
use Prim.Native.Nat.{ℕ, ◌+◌, ◌*◌}
use lib.ListN.{drop, get_or}
use lib.Seq.{sets}
use Rattle.macho.specs.Commands.{segments_of}
use Rattle.pointers.specs.Tables.{section_words}
use Rattle.macho.specs.Sections.{sections_of, section_names, section_rows, section_table_of}
use Rattle.macho.proofs.section.write_sections.Goals as goal

pub loop-k-preserved : goal.loop-k-preserved
loop-k-preserved c =
    let a = c.args in let k = c.loop-k.k in let headers = sections_of a.cmds.bytes.now (segments_of a.cmds.bytes.now a.cmds.count) in
    ap (λ (l : List ℕ). sets l (section_words * (k + 1)) (section_rows a.cmds.bytes.now headers (drop (k + 1) section_names))) c.put_section.ensures
    ∙ sym (laws.section_step a.cmds.bytes.now headers c.loop-k.table section_names k (get_or section_names k []) c.section_named.result (omega arith) refl c.section_named.ensures)
    ∙ c.loop-k.invariant

pub returns : goal.returns
returns c =
    let a = c.args in let headers = sections_of a.cmds.bytes.now (segments_of a.cmds.bytes.now a.cmds.count) in
    sym (laws.section_end a.cmds.bytes.now headers c.loop-k.table section_names c.loop-k.k (omega arith)) ∙ c.loop-k.invariant
    ∙ laws.put_over (section_table_of a.cmds.bytes.now a.cmds.count) a.table.now (omega (arith, c.requires, laws.length_sections a.cmds.bytes.now headers section_names))
