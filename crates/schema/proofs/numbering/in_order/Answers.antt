use Rattle.std.proofs.Common.{List, sym, subst}
use Rattle.std.specs.Prelude.{Contains}
use Rattle.std.proofs.lemmas.List.Elements.{Contains-append_right}
use Rattle.values.specs.declared.entity_uid.EntityUid.{EntityUid}
use Rattle.ancestor_search.specs.Hierarchy.{referenced}
use Rattle.schema.proofs.numbering.in_order.Goals as goal

pub returns : goal.returns
returns c = λ u h. subst (λ (us : List EntityUid). Contains us u) (sym c.in_ok-append_all.ensures) (Contains-append_right (referenced c.in_ok-found.found.items) c.args.uids.now u h)
