use mathlib.Core.Path.{sym, ap, ◌∙◌}
use Rattle.std.specs.Prelude.{map}
use Rattle.records.specs.Decode.{then}
use Rattle.records.specs.List.{entry_address, decode_list}
use Rattle.listing.specs.DecodeListing.{decode_readables}
use Rattle.usage.specs.Noting.{traced}
use Rattle.usage.specs.Pass.{each_row, pass_rows}
use Rattle.usage.proofs.Passes as laws
use Rattle.usage.proofs.noting.Noting.note_rows.Goals as goal

pub returns-in-Some : goal.returns-in-Some
unfolding pass_rows
returns-in-Some c =
    let h = c.in-Some.h in
    let n = c.args.self.now in
    let m = c.note_list.new.self in
    c.note_entries.ensures
    ∙ laws.readables_on h (λ js. each_row h.kind (map (entry_address h) js)) m
    ∙ laws.there_on (decode_list c.args.kind c.args.va) n m (λ h. then (decode_readables h) (λ js. each_row h.kind (map (entry_address h) js)))
    (ap (λ o. traced o m) (sym (laws.some_there _ c.in_ok-h.ensures c.in-Some.is)) ∙ c.note_list.ensures)
