use Rattle.std.proofs.Common.{◌∙◌, sym}
use Rattle.schema_types.specs.QualifiedViews.{qualified_view}
use Rattle.schema_types.proofs.Rounds.{added_at}
use Rattle.schema_types.proofs.commons.add_if_ready.Goals as goal

pub returns : goal.returns
returns c = added_at c.args.name.now (qualified_view c.args.ty.now) c.args.table.now c.insert.new.self c.in_ok-key.key (record { size = c.in-Some.size; whole = c.in_ok-whole.whole }) c.in_ok-insert.field-0
    c.in_ok-key.ensures.ok (sym c.contains_key.ensures ∙ c.if-contains_key.false) c.in_ok-insert.ensures.updates c.in_ok-insert.ensures.len c.in_ok-insert.ensures.old (sym c.in-Some.ensures) c.in_ok-whole.ensures
