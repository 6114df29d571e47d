use Rattle.std.specs.BTreeMap.{get_by_text}
use Rattle.schema_types.proofs.Named.{fields_step, fields_done}
use Rattle.schema_types.proofs.order.+add_named.Goals as goal

pub add_all_named-loop-field-preserved : goal.add_all_named-loop-field-preserved
add_all_named-loop-field-preserved t c = fields_step (λ q. get_by_text c.args.places.now q) c.deref-field-items.result.now c.loop-field.field-index c.field-item.result
    c.loop-field.found.items c.add_named.new.found.items _ c.loop-field-test.true c.field-item.is c.in_ok-add_named.ensures c.loop-field.invariant

pub add_all_named-returns : goal.add_all_named-returns
add_all_named-returns t c = fields_done (λ q. get_by_text c.args.places.now q) c.deref-field-items.result.now c.loop-field.field-index c.loop-field.found.items _
    c.loop-field-test.false c.loop-field.invariant
