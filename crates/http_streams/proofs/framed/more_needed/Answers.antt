use Rattle.std.proofs.Common.{subst, sym}
use Rattle.http_streams.specs.Request.{IsUnfinishedBelow}
use Rattle.http_streams.proofs.FramedLemmas.{unfinished_to}
use Rattle.http_streams.proofs.framed.more_needed.Goals as goal

pub returns-clause-below : goal.returns-clause-below
returns-clause-below c =
    subst (IsUnfinishedBelow c.args.bytes.now) (sym c.max.ensures) (unfinished_to c.args.bytes.now c.args.needed c.requires)
