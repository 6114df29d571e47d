use Rattle.std.proofs.Common.{inl, inr}
use Rattle.std.specs.Process.{exit_status}
use Rattle.site_loading.specs.schema.Views.{schema_view}
use Rattle.program_drills.specs.schema_decisions.Checks.{IsSchemaRefused}
use Rattle.program.proofs.EventLemmas.{runs_as}
use Rattle.program.proofs.RefusalLemmas.{refused_for}
use Rattle.program.proofs.exchanging.exchange_under.Goals as goal

pub returns-in-Ok : goal.returns-in-Ok
returns-in-Ok g c =
    runs_as g.H.Host.does _ _ _ _ (λ events round. inl (schema_view c.in-Ok.schema, c.in-Ok.ensures.read, round)) c.exchange_both.ensures

pub returns-in-Err : goal.returns-in-Err
returns-in-Err g c =
    runs_as g.H.Host.does _ _ _ _ (λ events told.
    inr (refused_for (IsSchemaRefused c.args.schema.now) c.in-Err.refusal (exit_status c.report_refusal.result) c.in-Err.ensures.refused events told))
    c.report_refusal.ensures
