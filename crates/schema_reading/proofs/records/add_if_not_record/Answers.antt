use Rattle.std.proofs.Common.{◌≡◌, ◌∙◌, ℕ, List, true, false, sym, ap}
use Rattle.schema_types.specs.Names.{full_name}
use Rattle.schema_types.specs.NamesViews.{scope_of}
use Rattle.schema_reading.specs.inner.StatedViews.{common_view}
use Rattle.schema_reading.specs.Qualifying.{common_in}
use Rattle.schema_reading.specs.inner.Adding.{has_name}
use Rattle.schema_reading.proofs.SpreadLemmas.{stays_known, spreads_one}
use Rattle.schema_reading.proofs.records.add_if_not_record.Goals as goal

pub returns-then-contains : goal.returns-then-contains
returns-then-contains c =
    let known : has_name c.args.known.now (full_name c.args.own.now c.args.common.now.name) ≡ true =
    ap (λ (n : List ℕ). has_name c.args.known.now n) (sym (c.as_str.ensures.value ∙ c.in_ok-name.ensures)) ∙ sym c.contains.ensures ∙ c.if-contains.true in
    stays_known (scope_of c.args.names.now) (common_in c.args.own.now (common_view c.args.common.now)) c.args.known.now known

pub returns : goal.returns
returns c =
    let none : has_name c.args.known.now (full_name c.args.own.now c.args.common.now.name) ≡ false =
    ap (λ (n : List ℕ). has_name c.args.known.now n) (sym (c.as_str.ensures.value ∙ c.in_ok-name.ensures)) ∙ sym c.contains.ensures ∙ c.if-contains.false in
    spreads_one (scope_of c.args.names.now) (common_in c.args.own.now (common_view c.args.common.now)) c.args.known.now c.insert.new.self c.in_ok-name.name c.in_ok-insert.field-0
    c.in_ok-name.ensures none (sym c.in_ok-knows_non_record.ensures ∙ c.if-not-branch.false)
    c.in_ok-insert.ensures.updates c.in_ok-insert.ensures.len c.in_ok-insert.ensures.added
