use Rattle.http_service.proofs.Feeds.{line_of_free, line_unread}
use Rattle.http_service.proofs.log_laws.lines_have_one_line_feed.Goals as goal

pub returns-clause-line : goal.returns-clause-line
returns-clause-line c = line_of_free

pub returns-clause-unread : goal.returns-clause-unread
returns-clause-unread c = line_unread
