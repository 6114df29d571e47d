use Rattle.std.proofs.Common.{subst}
use Rattle.entities.specs.schema.SchemaEntries.{SchemaEntries}
use Rattle.entities.specs.schema.Views.{schema_view}
use Rattle.entities.specs.entity_data.ActionHierarchy.{IsActionHierarchy}
use Rattle.entity_hierarchy.specs.Entities.{actions_under}
use Rattle.entity_hierarchy.proofs.StatedLemmas.{are_a_hierarchy}
use Rattle.entity_hierarchy.proofs.actions.SchemaActionsActionSource.are_a_hierarchy.Goals as goal

pub returns : goal.returns
returns c =
    let stated = c.is_stated.ensures in
    let kept = schema_view c.self.inside.schema.now in
    subst (λ (k : SchemaEntries). IsActionHierarchy (actions_under k)) c.self.view_is
    (are_a_hierarchy stated.0 kept stated.1 (c.stated_schemas_are_well_formed.ensures stated.0 kept stated.1))
