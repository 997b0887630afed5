use mathlib.Core.Path.{sym, ◌∙◌}
use native.Mathlib.Omega.{arith}
use Rattle.records.proofs.Jumps as laws
use Rattle.records.proofs.open_list.OpenList.behind.Goals as goal

pub overflow_add-result : goal.overflow_add-result
overflow_add-result c =
    let header = c.args.self.now.header in
    let there = rw (c.image-image.ensures, c.tables.ensures, c.spot.ensures, c.least.ensures) at (sym c.spot_behind.ensures ∙ c.in_ok-spot.was) in
    omega (arith, laws.behind_fits _ c.args.self.now.layout _ _ header.spot header.found c.args.self.now.behind c.args.i c.in_ok-spot.spot there)

pub returns : goal.returns
returns c =
    let header = c.args.self.now.header in
    let there = rw (c.image-image.ensures, c.tables.ensures, c.spot.ensures, c.least.ensures) at (sym c.spot_behind.ensures ∙ c.in_ok-spot.was) in
    laws.behind_found _ _ _ _ header.spot header.found c.args.self.now.behind c.args.i c.in_ok-spot.spot there c.requires
