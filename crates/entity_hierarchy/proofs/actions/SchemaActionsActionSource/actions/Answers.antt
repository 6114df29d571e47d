use Rattle.std.proofs.Common.{subst, sym, List}
use Rattle.std.specs.Prelude.{Contains, IsSome, ◌↔◌}
use Rattle.values.specs.declared.entity_uid.EntityUid.{EntityUid}
use Rattle.entities.specs.schema.SchemaEntries.{SchemaEntries}
use Rattle.entities.specs.schema.Views.{schema_view}
use Rattle.entities.specs.entity_data.Entities.{AreActions}
use Rattle.entity_hierarchy.specs.Entities.{actions_under}
use Rattle.entity_hierarchy.proofs.actions.SchemaActionsActionSource.actions.Goals as goal

pub returns-clause-all : goal.returns-clause-all
returns-clause-all c =
    let kept = c.self.inside.schema.now in
    let stated = c.is_stated.ensures in
    let well = c.stated_schemas_are_well_formed.ensures stated.0 (schema_view kept) stated.1 in
    subst (λ (k : SchemaEntries). AreActions (actions_under k) c.actions.result.now) c.self.view_is
    (λ u. subst (λ (us : List EntityUid). Contains us u ↔ IsSome (actions_under kept u)) (sym c.actions.ensures) (well.actions_stated u))
