use Rattle.std.proofs.Common.{◌∙◌}
use Rattle.http_service.proofs.PieceLemmas.{in_order}
use Rattle.http_service.proofs.log_pieces.members_of.Goals as goal

pub returns : goal.returns
returns c =
    c.in_ok-line-4.ensures
    ∙ in_order _ _ _ _ _ c.in_ok-line.ensures.items c.in_ok-line-2.ensures c.in_ok-line-3.ensures _
