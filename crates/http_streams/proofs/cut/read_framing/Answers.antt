use Rattle.std.proofs.Common.{rules}
use Rattle.http_streams.proofs.cut.read_framing.Goals as goal

pub returns-then-has_header : goal.returns-then-has_header
returns-then-has_header c = search rules

pub returns-in-Many : goal.returns-in-Many
returns-in-Many c = search rules
