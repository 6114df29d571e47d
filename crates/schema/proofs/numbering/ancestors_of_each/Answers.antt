use Rattle.std.proofs.Common.{List, sym, subst}
use Rattle.std.specs.Prelude.{Contains}
use Rattle.std.specs.Borrow.{Bor}
use Rattle.std.specs.BTreeMap.{get}
use Rattle.values.specs.declared.entity_uid.EntityUid.{EntityUid}
use Rattle.values.specs.Names.{uid_cmp}
use Rattle.ancestor_search.specs.Hierarchy.{referenced}
use Rattle.schema.specs.inner.Numbering.{IsNumbering}
use Rattle.schema.proofs.numbering.ancestors_of_each.Goals as goal

pub all_spans-requires : goal.all_spans-requires
all_spans-requires c =
    subst (λ (xs : List (Bor EntityUid)). IsNumbering (get uid_cmp c.in_ok-numbered.numbered.numbers) (referenced xs)) (sym c.as_slice-2.ensures.value) c.in_ok-numbered.ensures.numbered

pub returns-clause-all : goal.returns-clause-all
returns-clause-all c = λ u h. c.in_ok-numbered.ensures.all u
    (subst (λ (xs : List (Bor EntityUid)). Contains (referenced xs) u) (sym c.as_slice.ensures.value) (c.in_ok-order.ensures u h))
