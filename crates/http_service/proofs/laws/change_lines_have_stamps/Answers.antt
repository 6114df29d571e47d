use Rattle.http_service.proofs.LineLaws.{change_told, put_fits, stamp_fits}
use Rattle.http_service.proofs.laws.change_lines_have_stamps.Goals as goal

pub returns-clause-stamp : goal.returns-clause-stamp
returns-clause-stamp c = stamp_fits

pub returns-clause-put : goal.returns-clause-put
returns-clause-put c = put_fits

pub returns-clause-line : goal.returns-clause-line
returns-clause-line c = change_told
