use Rattle.std.proofs.Common.{◌≡◌, ◌∙◌, Option, Some, None, option_map, refl, ap}
use Rattle.std.specs.Prelude.{is_some}
use Rattle.values.specs.declared.entity_uid.EntityUid.{EntityUid}
use Rattle.serde_json.specs.Data.{Data}
use Rattle.serde_json.specs.View.{view}
use Rattle.explanations.specs.EntityPaths.{uid_at, is_uid}
use Rattle.explanations.proofs.forms.is_uid.Goals as goal

some_uid : (o : Option Data) → is_some (uid_at o) ≡ is_uid o
some_uid None = refl
some_uid (Some d) = refl

pub returns-in-Ok : goal.returns-in-Ok
returns-in-Ok c = c.is_some-is_uid.ensures ∙ ap (λ (o : Option EntityUid). is_some o) c.in-Ok.ensures ∙ some_uid (option_map (λ v. view v.now) c.args.found)

pub returns-in-Err : goal.returns-in-Err
returns-in-Err c = tt
