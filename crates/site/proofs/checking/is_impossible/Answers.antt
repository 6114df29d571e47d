use Rattle.site_store.specs.schema.Views.{schema_view}
use Rattle.site.proofs.JudgingLemmas.{not_passed}
use Rattle.site.proofs.checking.is_impossible.Goals as goal

pub returns-in-Err-clause-refused : goal.returns-in-Err-clause-refused
returns-in-Err-clause-refused c = λ id text named utf8 is. not_passed (schema_view c.args.schema.now) id text named utf8 c.from.result c.args.policy.now is c.in-Err.fault c.in-Err.ensures.refused c.from.ensures
