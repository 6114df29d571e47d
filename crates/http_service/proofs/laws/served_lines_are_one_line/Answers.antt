use Rattle.http_service.proofs.LineLaws.{served_line}
use Rattle.http_service.proofs.laws.served_lines_are_one_line.Goals as goal

pub returns : goal.returns
returns c = served_line
