use Rattle.site_loading.specs.site.SiteViews.{schema_of}
use Rattle.program.proofs.ServeLemmas.{refused_as_told}
use Rattle.program.proofs.initial_site.with_state.Goals as goal

pub returns-in-Err-clause-refused : goal.returns-in-Err-clause-refused
returns-in-Err-clause-refused c =
    refused_as_told (schema_of c.args.site) c.args.bytes.now c.in-Err.fault c.site_refusal.result c.site_refusal.ensures c.in-Err.ensures.takes.0
