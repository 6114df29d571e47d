use Rattle.std.proofs.Common.{List, ap, length, sym, subst}
use Rattle.std.specs.BTreeMap.{get}
use Rattle.schema.specs.declared.spans.NumberSpan.{NumberSpan}
use Rattle.ancestor_search.specs.Hierarchy.{referenced}
use Rattle.ancestor_search.specs.contracts.searched.SearchedAncestry.TheImpl as searched
use Rattle.values.specs.Names.{uid_cmp}
use Rattle.schema.specs.inner.Numbering.{KeepsAncestors}
use Rattle.schema.proofs.NumberLemmas.{apart, none_reached, reaches_next, one_longer, all_reached}
use Rattle.schema.proofs.numbering.all_spans.Goals as goal

pub loop-uid-init : goal.loop-uid-init
loop-uid-init c = record {
  len = ap (λ (ss : List (List NumberSpan)). length ss) c.new-reached.ensures;
  keeps = none_reached (searched.parents-value.it c.args.edges.now) (get uid_cmp c.args.numbers.now) c.new-reached.result c.new-reached.ensures;
}

pub ancestor_spans-requires-clause-apart : goal.ancestor_spans-requires-clause-apart
ancestor_spans-requires-clause-apart c = apart (get uid_cmp c.args.numbers.now) (referenced c.args.uids.now) c.requires

pub ancestor_spans-requires-clause-keeps : goal.ancestor_spans-requires-clause-keeps
ancestor_spans-requires-clause-keeps c =
    subst (λ (ss : List (List NumberSpan)). KeepsAncestors (searched.parents-value.it c.args.edges.now) (get uid_cmp c.args.numbers.now) ss) (sym c.as_slice.ensures) c.loop-uid.invariant.keeps

pub loop-uid-preserved : goal.loop-uid-preserved
loop-uid-preserved c = record {
  len = one_longer c.loop-uid.reached c.in_ok-spans.spans c.push.new.self c.loop-uid.uid-index c.in_ok-push.ensures.ok c.loop-uid.invariant.len;
  keeps = reaches_next (searched.parents-value.it c.args.edges.now) (get uid_cmp c.args.numbers.now) c.args.uids.now c.uid-item.result c.loop-uid.reached c.push.new.self c.in_ok-spans.spans
      c.loop-uid.uid-index c.requires c.loop-uid-test.true c.uid-item.is c.loop-uid.invariant.len c.in_ok-push.ensures.ok c.in_ok-spans.ensures c.loop-uid.invariant.keeps;
}

pub returns : goal.returns
returns c = all_reached (searched.parents-value.it c.args.edges.now) (get uid_cmp c.args.numbers.now) c.args.uids.now c.requires c.loop-uid.reached c.loop-uid.uid-index
    c.loop-uid.invariant.len c.loop-uid-test.false c.loop-uid.invariant.keeps
