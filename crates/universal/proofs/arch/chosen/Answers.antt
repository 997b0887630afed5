use borrow.Author.Rules.{rules}
use Rattle.universal.proofs.Searches as laws
use Rattle.universal.specs.Architecture.{arm64, is_arch, is_abi64}
use Rattle.universal.proofs.arch.chosen.Goals as goal

pub returns-in-Some : goal.returns-in-Some
returns-in-Some c = laws.chosen_arch c.args.table.file.now _ _ _ _ _ c.in-Some.is (c.first_arch.ensures (is_arch c.in-Some.a) (search rules))

pub returns-in-Some-first : goal.returns-in-Some-first
returns-in-Some-first c = laws.chosen_arm64 c.args.table.file.now _ _ _ c.in-None.is _ (c.first_arch-first.ensures (is_arch arm64) (search rules)) _ c.in-Some-first.is

pub returns-in-None-first : goal.returns-in-None-first
returns-in-None-first c =
    laws.chosen_64 c.args.table.file.now _ _ _ c.in-None.is _ (c.first_arch-first.ensures (is_arch arm64) (search rules)) c.in-None-first.is _ (c.first_arch-in-None-first.ensures is_abi64 (search rules))
