use Rattle.std.proofs.lemmas.Result.{err_from_is_err_and, MatchResult-weaker}
use Rattle.schema_reading.specs.ResolvedViews.{resolved_view}
use Rattle.schema.specs.inner.ByNaming.{naming, unsound}
use Rattle.schema.proofs.reading.read_schema.Goals as goal

pub returns-in_err-found : goal.returns-in_err-found
returns-in_err-found c =
    let p = err_from_is_err_and c.from_residual.result c.from_residual.ensures.1 in
    rw (p.1, p.2) (λ apart. ((c.schemas_are_read_as_stated.ensures c.args.bytes.now).refuses _).0 (naming c.in_err-found.field-0.0 (c.in_err-found.ensures apart)))

pub returns : goal.returns
returns c =
    let s = resolved_view c.in_ok-found.found in
    let states = c.in_ok-found.ensures in
    MatchResult-weaker c.sound_schema.result c.sound_schema.ensures
    (λ v made. made)
    (λ f refused apart. ((c.schemas_are_read_as_stated.ensures c.args.bytes.now).refuses f).0 (unsound s f states (refused apart)))
