use Rattle.std.proofs.Common.{Bool, sym, subst, ◌∙◌}
use Rattle.std.specs.Prelude.{IsTrue, ◌↔◌}
use Rattle.schema.specs.Schemas.{ActionHasAncestor}
use Rattle.schema.specs.Views.{schema_view}
use Rattle.schema.proofs.AboveLemmas.{told_by_numbers, none_above}
use Rattle.schema.proofs.answers.Schema.action_has_ancestor.Goals as goal

pub returns-then-are_actions : goal.returns-then-are_actions
returns-then-are_actions c =
    let stated = c.is_stated.ensures in
    let k = c.args.self.now in
    let well = c.stated_schemas_are_well_formed.ensures stated.0 (schema_view k) stated.1 in
    subst (λ (b : Bool). IsTrue b ↔ ActionHasAncestor (schema_view k) c.args.uid.now c.args.above.now) (sym c.has_ancestor_number.ensures)
    (told_by_numbers k well.actions_stated c.args.uid.now c.args.above.now (sym c.are_actions.ensures ∙ c.if-are_actions.true))

pub returns : goal.returns
returns c =
    let stated = c.is_stated.ensures in
    let k = c.args.self.now in
    let well = c.stated_schemas_are_well_formed.ensures stated.0 (schema_view k) stated.1 in
    none_above k well.actions_stated c.args.uid.now c.args.above.now (sym c.are_actions.ensures ∙ c.if-are_actions.false)
