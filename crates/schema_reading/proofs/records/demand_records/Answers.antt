use Rattle.std.proofs.Common.{◌∙◌, inr, map, refl, sym, ap}
use Rattle.schema_types.specs.Names.{Scope}
use Rattle.schema_reading.specs.inner.StatedViews.{namespace_view}
use Rattle.schema_reading.specs.inner.Adding.{has_name}
use Rattle.schema_reading.specs.inner.Spreading.{are_records}
use Rattle.schema_reading.proofs.RecordLemmas.{all_records, some_record}
use Rattle.schema_reading.proofs.records.demand_records.Goals as goal

pub returns-then-not-branch : goal.returns-then-not-branch
returns-then-not-branch c =
    let ns = map namespace_view c.args.stated.now in
    inr (
      refl,
      some_record ns (λ q. has_name c.in_ok-known.known q) c.in_ok-known.ensures
          (ap (λ (s : Scope). are_records (λ q. has_name c.in_ok-known.known q) s ns) (sym c.requires.scope) ∙ sym c.in_ok-are_records.ensures ∙ c.if-not-branch.true),
    )

pub returns : goal.returns
returns c =
    let ns = map namespace_view c.args.stated.now in
    all_records ns (λ q. has_name c.in_ok-known.known q) c.in_ok-known.ensures
    (ap (λ (s : Scope). are_records (λ q. has_name c.in_ok-known.known q) s ns) (sym c.requires.scope) ∙ sym c.in_ok-are_records.ensures ∙ c.if-not-branch.false)
