use Rattle.std.proofs.Common.{◌≡◌, drop, map}
use Rattle.grammar_core.specs.Size.{values_of}
use Rattle.type_checker.specs.schema.Views.{schema_view}
use Rattle.validator.specs.inner.Walking.{in_turn, walk, named_walk}
use Rattle.validator.proofs.walking.+walk.Given as goal

abbrev pub invariant-walk_each-loop-expr : goal.invariant-walk_each-loop-expr
invariant-walk_each-loop-expr l =
    let told = walk (schema_view l.schema) in
    in_turn (map told l.exprs) ≡ in_turn (map told (drop l.expr-index l.exprs))

abbrev pub invariant-walk_fields-loop-field : goal.invariant-walk_fields-loop-field
invariant-walk_fields-loop-field l =
    let told = named_walk (schema_view l.schema) in
    in_turn (values_of (map told l.fields)) ≡ in_turn (values_of (map told (drop l.field-index l.fields)))
