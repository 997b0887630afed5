use Rattle.std.proofs.Common.{rules, tests, arith}
use Rattle.filetables.proofs.FileKinds as laws
use Rattle.filetables.proofs.kind.FileCommands.commands_read.Goals as goal

pub returns-then-infos_read-2 : goal.returns-then-infos_read-2
returns-then-infos_read-2 c = let a = c.args in search (rules, tests, laws.commands_by a.self.size a.self.cmds.bytes.now a.self.cmds.count)

pub returns-else-infos_read-2 : goal.returns-else-infos_read-2
returns-else-infos_read-2 c = let a = c.args in grind (arith, laws.commands_by a.self.size a.self.cmds.bytes.now a.self.cmds.count)
