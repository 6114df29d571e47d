use Rattle.std.proofs.Common.{rules}
use Rattle.program.proofs.system.SystemHostHost.write_line.Goals as goal

pub returns-in-Answers : goal.returns-in-Answers
returns-in-Answers g c = search rules
