use Rattle.std.proofs.Common.{rules}
use Rattle.http_streams.proofs.devices.CountedSink.write.Goals as goal

pub returns-in-Ok-clause-bound : goal.returns-in-Ok-clause-bound
returns-in-Ok-clause-bound g c = search rules
