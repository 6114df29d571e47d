use Rattle.http_service.proofs.Feeds.{decision_tells}
use Rattle.http_service.proofs.log_laws.decision_lines_name_requests.Goals as goal

pub returns : goal.returns
returns c = decision_tells
