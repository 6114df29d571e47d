use Rattle.explanations.proofs.Once.{requests_told_once}
use Rattle.explanations.proofs.laws.request_parts_have_one_text.Goals as goal

pub returns : goal.returns
returns c =
    requests_told_once c.rejected_requests_have_one_path.ensures c.requests_have_one_outcome.ensures.not_both c.requests_have_one_outcome.ensures.one_refusal
