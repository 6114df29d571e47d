use Rattle.serde_json.specs.View.{view}
use Rattle.site_store.specs.schema.Views.{schema_view}
use Rattle.std.proofs.lemmas.Result.{IfOk-weaker}
use Rattle.site.proofs.JudgingLemmas.{stated_by}
use Rattle.site.proofs.checking.stated_entity.Goals as goal

pub returns-in-Ok-clause-stated : goal.returns-in-Ok-clause-stated
returns-in-Ok-clause-stated c =
    IfOk-weaker c.with_name_and_text.result _ _
    (λ b h. stated_by (schema_view c.args.schema.now) (view c.args.json.now) c.in-Ok.entity c.text_of-text.result b.1
    c.in-Ok.ensures.states c.in-Ok.ensures.path c.text_of-text.ensures.text c.text_of-text.ensures.reads h.0 h.2)
    c.with_name_and_text.ensures.all
