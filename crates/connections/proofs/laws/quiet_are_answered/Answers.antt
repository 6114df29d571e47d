use Rattle.connections.proofs.QuietLemmas.{quiet_are_answered}
use Rattle.connections.proofs.laws.quiet_are_answered.Goals as goal

pub returns : goal.returns
returns g c = quiet_are_answered g.S.Service.answers g.S.Service.lines g.S.Service.commits g.S.Service.commit_fails g.S.Service.is_request g.S.Service.is_unfinished g.met.S.Service.short g.met.S.Service.requests
