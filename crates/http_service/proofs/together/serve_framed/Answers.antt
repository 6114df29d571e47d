use Rattle.std.proofs.Common.{rules}
use Rattle.http_service.proofs.TogetherLemmas.{served_by}
use Rattle.http_service.proofs.together.serve_framed.Goals as goal

pub returns : goal.returns
returns g c =
    served_by (search rules) (search rules) c.new-framed.ensures c.into_service.ensures (search rules)
    c.serve_all-end.ensures.1
