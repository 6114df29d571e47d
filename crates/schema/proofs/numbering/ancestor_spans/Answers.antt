use Rattle.std.proofs.Common.{List, [], Option, subst, Vec, Global}
use Rattle.std.specs.Prelude.{⊤, MatchOption}
use Rattle.std.proofs.lemmas.Result.{IfOk-weaker}
use Rattle.std.specs.BTreeMap.{get}
use Rattle.schema.specs.declared.spans.NumberSpan.{NumberSpan}
use Rattle.ancestor_search.specs.contracts.searched.SearchedAncestry.TheImpl as searched
use Rattle.values.specs.declared.entity_uid.EntityUid.{EntityUid}
use Rattle.values.specs.Names.{uid_cmp}
use Rattle.schema.specs.inner.Numbering.{AddsParents}
use Rattle.schema.proofs.NumberLemmas.{by_parents, same_spans}
use Rattle.schema.proofs.numbering.ancestor_spans.Goals as goal

pub returns-in-Some : goal.returns-in-Some
returns-in-Some c =
    let parents = searched.parents-value.it c.args.edges.now in
    let at = get uid_cmp c.args.numbers.now in
    let u = c.args.uid.now in
    let reached = c.args.reached.now in
    let spans = c.in-Some.spans.items in
    let adds = subst (λ (o : Option (Vec NumberSpan Global)). MatchOption o ⊤ (λ s. AddsParents at reached c.parents_of.result.now [] s.items)) c.in-Some.is c.in_ok-by_parents.ensures in
    let has = by_parents parents at c.requires.apart reached c.requires.keeps u spans (subst (λ (ps : List EntityUid). AddsParents at reached ps [] spans) c.parents_of.ensures adds) in
    IfOk-weaker c.joined.result _ _ (λ found same. same_spans parents at c.requires.apart u spans found same has) c.joined.ensures
