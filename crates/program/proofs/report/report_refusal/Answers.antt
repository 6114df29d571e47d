use Rattle.std.proofs.Common.{rules}
use Rattle.program.proofs.report.report_refusal.Goals as goal

pub returns-in-Ok : goal.returns-in-Ok
returns-in-Ok g c = search rules
