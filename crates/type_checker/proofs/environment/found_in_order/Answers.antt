use Rattle.std.proofs.Common.{rules}
use Rattle.std.proofs.lemmas.Fn.{always_returns_same}
use Rattle.values.specs.Names.{text_cmp}
use Rattle.type_checker.proofs.OrderedFields.{found_place, found_nowhere}
use Rattle.type_checker.proofs.environment.found_in_order.Goals as goal

pub returns-in-Err-clause-declared : goal.returns-in-Err-clause-declared
returns-in-Err-clause-declared c =
    let k = c.args.key.now in
    found_nowhere c.args.fields.now k _ c.requires
    (c.in-Err.ensures.position (λ f. text_cmp f.0 k) (always_returns_same _ _ _ (λ a r f' called. search rules)))

pub returns-in-Ok-clause-declared : goal.returns-in-Ok-clause-declared
returns-in-Ok-clause-declared c =
    let k = c.args.key.now in
    found_place c.args.fields.now k c.in-Ok.at c.index-fields-at.result c.requires c.in-Ok.ensures.bound
    (c.in-Ok.ensures.position (λ f. text_cmp f.0 k) (always_returns_same _ _ _ (λ a r f' called. search rules)))
    c.index-fields-at.is
