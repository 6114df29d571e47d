use Rattle.std.proofs.Common.{subst, Option, List}
use Rattle.values.specs.declared.entity_uid.EntityUid.{EntityUid}
use Rattle.values.specs.Fields.{Field}
use Rattle.authoriser.specs.evaluator.Operators.{entities_with}
use Rattle.entity_hierarchy.specs.Laws.{stated_world, closed_world}
use Rattle.entity_hierarchy.specs.Alike.{GiveAlike, AnswerAlike}
use Rattle.entity_hierarchy.proofs.ActionLemmas.{members_kept, lead_alike, same_cycles, same_stored, puts_alike}
use Rattle.entity_hierarchy.proofs.AlikeLemmas.{give_alike, answer_alike}
use Rattle.entity_hierarchy.proofs.laws.actions_may_be_closed.Goals as goal

pub returns-clause-kept : goal.returns-clause-kept
returns-clause-kept c bytes v stated entities = members_kept stated.named v stated.answers entities

pub returns-clause-alike : goal.returns-clause-alike
returns-clause-alike c bytes v stated entities = lead_alike stated.named v stated.answers entities

pub returns-clause-gives : goal.returns-clause-gives
returns-clause-gives c bytes v stated entities =
    let one = stated_world stated.named v entities in
    let other = closed_world v entities in
    subst (λ (stored : EntityUid → Option (List Field)). GiveAlike one (entities_with stored other.parents)) (same_stored stated.named v stated.answers entities)
    (give_alike one.stored one.parents other.parents (lead_alike stated.named v stated.answers entities))

pub returns-clause-answers : goal.returns-clause-answers
returns-clause-answers c bytes v stated entities =
    let one = stated_world stated.named v entities in
    let other = closed_world v entities in
    subst (λ (stored : EntityUid → Option (List Field)). AnswerAlike one (entities_with stored other.parents)) (same_stored stated.named v stated.answers entities)
    (answer_alike one.stored one.parents other.parents (lead_alike stated.named v stated.answers entities)
    (same_cycles stated.named v stated.answers entities (c.stated_schemas_are_well_formed.ensures bytes v stated)))

pub returns-clause-puts : goal.returns-clause-puts
returns-clause-puts c bytes v stated entities u parents = puts_alike stated.named v stated.answers entities u parents
