use Rattle.http_streams.proofs.ReadBack.{is_read_back}
use Rattle.http_streams.proofs.framing_laws.requests_read_back.Goals as goal

pub returns : goal.returns
returns c ask fits = is_read_back ask fits
