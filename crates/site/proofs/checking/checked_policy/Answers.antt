use Rattle.site_store.specs.schema.Views.{schema_view}
use Rattle.std.proofs.lemmas.Result.{IfOk-weaker}
use Rattle.site.specs.Admitted.{bad_id}
use Rattle.site.proofs.JudgingLemmas.{judged_by, not_read}
use Rattle.site.proofs.checking.checked_policy.Goals as goal

pub returns-then-not-is_id-clause-refused : goal.returns-then-not-is_id-clause-refused
returns-then-not-is_id-clause-refused c = λ apart. bad_id (λ named. let is = c.is_id.ensures.1 named.sized in absurd (cc))

pub returns-in-Ok-clause-judged : goal.returns-in-Ok-clause-judged
returns-in-Ok-clause-judged c =
    IfOk-weaker c.with_verdict.result _ _
    (λ j h. judged_by (schema_view c.args.schema.now) c.args.id.now c.args.text.now c.in-Ok.policy
    c.is_impossible-verdict.result c.copy_text-text.result j.body j.impossible (record { utf8 = c.utf8.id; sized = c.is_id.ensures.0 c.if-not-is_id.false }) c.utf8.text
    c.in-Ok.ensures.read c.is_impossible-verdict.ensures.passes c.copy_text-text.ensures h.0 h.1 h.3)
    c.with_verdict.ensures.all

pub returns-in-Err-clause-refused : goal.returns-in-Err-clause-refused
returns-in-Err-clause-refused c =
    not_read (schema_view c.args.schema.now) c.args.id.now c.args.text.now (record { utf8 = c.utf8.id; sized = c.is_id.ensures.0 c.if-not-is_id.false }) c.utf8.text c.from.result
    c.in-Err.fault c.in-Err.ensures.refused c.from.ensures
