use Rattle.std.proofs.Common.{◌+◌, List, map, drop, sym, subst, refl}
use Rattle.std.proofs.lemmas.List.{drop_all}
use Rattle.std.specs.Str.{bytes_eq}
use Rattle.schema_types.specs.Names.{full_name}
use Rattle.schema_reading.specs.inner.Adding.{has_name, IsUnionWith, any_name}
use Rattle.schema_reading.specs.declared.stated.StatedEntityType.{StatedEntityType}
use Rattle.schema_reading.specs.inner.StatedViews.{entity_type_view}
use Rattle.json_words.proofs.EachSame.{cut}
use Rattle.schema_reading.proofs.AddLemmas.{adds_before}
use Rattle.schema_reading.proofs.declaring.add_entity_types.Goals as goal

pub loop-entity_type-preserved : goal.loop-entity_type-preserved
loop-entity_type-preserved c = λ last rest.
    c.loop-entity_type.invariant last (subst (λ (es : List StatedEntityType). IsUnionWith has_name (any_name (map (λ e. full_name c.args.own.now e.name) (map entity_type_view es))) c.loop-entity_type.declared last)
    (sym (cut c.args.stated.now c.loop-entity_type.entity_type-index c.entity_type-item.result c.loop-entity_type-test.true c.entity_type-item.is))
    (adds_before has_name (λ q. bytes_eq (full_name c.args.own.now c.entity_type-item.result.name) q) (any_name (map (λ e. full_name c.args.own.now e.name) (map entity_type_view (drop (c.loop-entity_type.entity_type-index + 1) c.args.stated.now)))) c.loop-entity_type.declared c.add_name.new.declared last
    c.in_ok-add_name.ensures rest))

pub returns : goal.returns
returns c = c.loop-entity_type.invariant c.loop-entity_type.declared (subst (λ (es : List StatedEntityType). IsUnionWith has_name (any_name (map (λ e. full_name c.args.own.now e.name) (map entity_type_view es))) c.loop-entity_type.declared c.loop-entity_type.declared)
    (sym (drop_all c.loop-entity_type.entity_type-index c.args.stated.now c.loop-entity_type-test.false)) (λ q. refl))
