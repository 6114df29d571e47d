use Rattle.std.proofs.Common.{rules, ◌∙◌, List, ℕ, sym, ap, subst}
use Rattle.std.specs.Ordering.{is_lt}
use Rattle.std.specs.List.{list_any}
use Rattle.std.specs.Str.{bytes_eq}
use Rattle.std.proofs.lemmas.Fn.{always_returns_same}
use Rattle.values.specs.declared.entity_uid.EntityUid.{EntityUid}
use Rattle.type_checker.specs.ancestor_search.Hierarchy.{IsAscending}
use Rattle.validator.proofs.HalvesLemmas.{against, parted, by_halves}
use Rattle.validator.proofs.known.is_type_of_action.Goals as goal

pub returns : goal.returns
returns c =
    let n : List ℕ = c.args.name.now in
    let us : List EntityUid = c.actions-actions.result.now in
    let stated = c.is_stated.ensures in
    let formed = c.stated_schemas_are_well_formed.ensures stated.0 _ stated.1 in
    let sorted : IsAscending us = subst IsAscending (sym c.actions-actions.ensures) formed.actions_ascend in
    let at = c.partition_point-first.ensures.partitioned (λ u. is_lt (against n u)) (always_returns_same _ _ _ (λ a r f' called. search rules)) (parted n us sorted) in
    c.has_type_at.ensures
    ∙ sym (by_halves n us c.partition_point-first.result sorted c.partition_point-first.ensures.bound at)
    ∙ ap (λ (vs : List EntityUid). list_any (λ u. bytes_eq u.type_name n) vs) c.actions-actions.ensures
