use Rattle.explanations.proofs.RequestLaws.{requests_have_paths}
use Rattle.explanations.proofs.laws.rejected_requests_have_one_path.Goals as goal

pub returns : goal.returns
returns c = requests_have_paths (record { one = c.names_read_back.ensures.name; found = c.names_read_back.ensures.found; uids = c.texts_have_one_reading.ensures.uid })
