use Prim.Native.Nat.{◌<◌, ◌^◌}
use mathlib.Core.Path.{sym, ◌∙◌}
use native.Mathlib.Omega.{arith}
use borrow.Author.Tests.{lt-ltb, le-ltb}
use Rattle.std.proofs.lemmas.Result.{OkIff-at_ok, OkIff-at_err}
use Rattle.reads.proofs.Tests.{choose_true, choose_false}
use Rattle.face.proofs.rows.RowWalk.list_turn.Goals as goal

pub returns-in_default : goal.returns-in_default
returns-in_default c =
    let past = OkIff-at_err _ (c.args.self.cursor < 2 ^ 32) c.args.self.cursor _ c.try_from.ensures c.in_default.is in
    c.refused.ensures ∙ sym (choose_false _ _ (le-ltb _ _ (omega (arith, past))))

pub returns : goal.returns
returns c =
    let there = OkIff-at_ok _ (c.args.self.cursor < 2 ^ 32) c.args.self.cursor _ c.try_from.ensures c.in-Ok.is in
    c.turn.ensures ∙ rw (← c.setting_in-setting.ensures, ← there.1, ← c.walked_list-stepped.ensures, c.list_said-said.ensures) (sym (choose_true _ _ (lt-ltb _ _ (omega (arith, there.0, there.1)))))
