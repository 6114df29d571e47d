use Rattle.std.proofs.Common.{rules}
use Rattle.program.proofs.system.SystemHostHost.print.Goals as goal

pub returns-in_ok-write-in-Answers : goal.returns-in_ok-write-in-Answers
returns-in_ok-write-in-Answers g c = search rules
