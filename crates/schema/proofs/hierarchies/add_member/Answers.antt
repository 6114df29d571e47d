use Rattle.std.proofs.Common.{sym, ap, ◌∙◌}
use Rattle.ancestor_search.specs.contracts.searched.SearchedAncestry.TheImpl as searched
use Rattle.values.specs.Names.{uid_cmp-IsAntisymmetric}
use Rattle.schema_reading.specs.ResolvedViews.{resolved_action_view}
use Rattle.schema.specs.inner.Making.{MemberMay, MemberMust}
use Rattle.schema.proofs.FillingLemmas.{adds_entry}
use Rattle.schema.proofs.hierarchies.add_member.Goals as goal

pub returns : goal.returns
returns c =
    let a = resolved_action_view c.args.action.now in
    let parents = searched.parents-value.it c.args.edges.now in
    adds_entry uid_cmp-IsAntisymmetric c.args.members.now c.put.new.map c.in_ok-uid.uid _ c.in_ok-put.ensures
    (MemberMay parents a) (MemberMust a) _
    (sym c.in_ok-uid.ensures, c.from_vec.ensures ∙ c.in_ok-parents.ensures ∙ c.parents_of.ensures ∙ ap parents (sym c.in_ok-uid.ensures)) (λ k m. c.in_ok-uid.ensures ∙ m) tt
