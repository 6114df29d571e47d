use Rattle.std.proofs.Common.{◌+◌, List, map, drop, sym, subst, refl}
use Rattle.std.proofs.lemmas.List.{drop_all}
use Rattle.std.specs.Str.{bytes_eq}
use Rattle.schema_types.specs.Names.{full_name}
use Rattle.schema_reading.specs.Qualifying.{common_in}
use Rattle.schema_reading.specs.inner.Adding.{has_name, IsUnionWith, any_common}
use Rattle.schema_reading.specs.declared.stated.StatedCommon.{StatedCommon}
use Rattle.schema_reading.specs.inner.StatedViews.{common_view}
use Rattle.json_words.proofs.EachSame.{cut}
use Rattle.schema_reading.proofs.AddLemmas.{adds_before}
use Rattle.schema_reading.proofs.declaring.add_commons.Goals as goal

pub loop-common-preserved : goal.loop-common-preserved
loop-common-preserved c = λ last rest.
    c.loop-common.invariant last (subst (λ (es : List StatedCommon). IsUnionWith has_name (any_common (map (λ x. common_in c.args.own.now x) (map common_view es))) c.loop-common.declared last)
    (sym (cut c.args.stated.now c.loop-common.common-index c.common-item.result c.loop-common-test.true c.common-item.is))
    (adds_before has_name (λ q. bytes_eq (full_name c.args.own.now c.common-item.result.name) q) (any_common (map (λ x. common_in c.args.own.now x) (map common_view (drop (c.loop-common.common-index + 1) c.args.stated.now)))) c.loop-common.declared c.add_name.new.declared last
    c.in_ok-add_name.ensures rest))

pub returns : goal.returns
returns c = c.loop-common.invariant c.loop-common.declared (subst (λ (es : List StatedCommon). IsUnionWith has_name (any_common (map (λ x. common_in c.args.own.now x) (map common_view es))) c.loop-common.declared c.loop-common.declared)
    (sym (drop_all c.loop-common.common-index c.args.stated.now c.loop-common-test.false)) (λ q. refl))
