use Rattle.std.proofs.Common.{rules, ◌∙◌, List, map, sym, ap, subst}
use Rattle.std.specs.Ordering.{is_lt}
use Rattle.std.specs.List.Sorted.{IsStrictlySortedBy}
use Rattle.std.specs.declared.cmp.Ordering.{Ordering}
use Rattle.std.proofs.lemmas.Fn.{always_returns_same}
use Rattle.schema.specs.declared.parts.EnvironmentKey.{EnvironmentKey}
use Rattle.schema.specs.Schemas.{EnvironmentOf, place_cmp}
use Rattle.schema.specs.Views.{environment_view}
use Rattle.entities.specs.Contexts.{context_where}
use Rattle.entities.proofs.HalvesLemmas.{AreSorted, parted, by_halves}
use Rattle.entities.proofs.environments.context_of.Goals as goal

pub returns : goal.returns
returns g c = λ passes are_sought.
    let ord : EnvironmentKey → Ordering = g.S.Sought.order c.args.sought.now in
    let es = c.environments-all.result.now in
    let stated = c.is_stated.ensures in
    let formed = c.stated_schemas_are_well_formed.ensures stated.0 _ stated.1 in
    let sorted : AreSorted environment_view es = subst (λ (vs : List EnvironmentOf). IsStrictlySortedBy place_cmp (map (λ e. e.place) vs)) (sym c.environments-all.ensures) formed.environments_ascend in
    let at = c.partition_point-first.ensures.partitioned (λ e. is_lt (ord e.place)) (always_returns_same _ _ _ (λ a r f' called. search rules)) (parted environment_view ord are_sought.rises es sorted) in
    c.context_at.ensures
    ∙ by_halves environment_view ord passes are_sought es c.partition_point-first.result sorted c.partition_point-first.ensures.bound at
    ∙ ap (λ (vs : List EnvironmentOf). context_where passes vs) c.environments-all.ensures
