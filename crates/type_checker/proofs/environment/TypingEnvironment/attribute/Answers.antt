use Rattle.std.proofs.Common.{sym, subst, ap, ◌∙◌}
use Rattle.typing.specs.Types.{field_declared_at}
use Rattle.typing.specs.Ordered.{AreOrdered}
use Rattle.type_checker.proofs.OrderedTypes.{attributes_are_ordered}
use Rattle.type_checker.proofs.environment.TypingEnvironment.attribute.Goals as goal

pub found_in_order-requires : goal.found_in_order-requires
found_in_order-requires c =
    let stated = c.is_stated.ensures in
    subst AreOrdered (sym c.attributes_of.ensures)
    (attributes_are_ordered c.stated_schemas_are_well_formed.ensures stated.0 _ stated.1 c.args.name.now)

pub returns-clause-declared : goal.returns-clause-declared
returns-clause-declared c = c.found_in_order.ensures.declared ∙ ap (field_declared_at c.args.key.now) c.attributes_of.ensures
