use Rattle.std.proofs.Common.{sym, ◌∙◌}
use Rattle.reads.proofs.PlainBytes.{first_skipped, run_behind, skipped_on}
use Rattle.reads.proofs.text.Begun.past_plain.Goals as goal

pub skip_plain-requires : goal.skip_plain-requires
skip_plain-requires c = (run_behind (first_skipped c.args.self.read) (sym c.plain.ensures ∙ c.if-plain.true)).within

pub returns-then-plain : goal.returns-then-plain
returns-then-plain c =
    skipped_on (run_behind (first_skipped c.args.self.read) (sym c.plain.ensures ∙ c.if-plain.true)) c.skip_plain.ensures
