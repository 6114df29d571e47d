use Rattle.std.proofs.Common.{List, sym, subst}
use Rattle.std.proofs.lemmas.Result.{IfOk-weaker}
use Rattle.std.specs.Borrow.{Bor}
use Rattle.std.specs.BTreeMap.{get}
use Rattle.ancestor_search.specs.Hierarchy.{AreAllAncestorsOf, referenced}
use Rattle.ancestor_search.specs.contracts.searched.SearchedAncestry.TheImpl as searched
use Rattle.values.specs.declared.entity_uid.EntityUid.{EntityUid}
use Rattle.values.specs.Names.{uid_cmp}
use Rattle.schema.proofs.NumberLemmas.{by_search, same_spans}
use Rattle.schema.proofs.numbering.spans_found.Goals as goal

pub returns : goal.returns
returns c =
    let parents = searched.parents-value.it c.args.edges.now in
    let at = get uid_cmp c.args.numbers.now in
    let u = c.args.uid.now in
    let all = subst (λ (xs : List (Bor EntityUid)). AreAllAncestorsOf parents u (referenced xs)) (sym c.as_slice.ensures.value) c.in_ok-found.ensures.all in
    let has = by_search parents at c.requires u (referenced c.as_slice.result.now) c.in_ok-spans.spans.items all c.in_ok-spans.ensures in
    IfOk-weaker c.joined.result _ _ (λ found same. same_spans parents at c.requires u c.in_ok-spans.spans.items found same has) c.joined.ensures
