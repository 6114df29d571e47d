use Rattle.std.proofs.Common.{◌+◌, ℕ, List, map, drop, sym, subst}
use Rattle.std.proofs.lemmas.List.{drop_all}
use Rattle.schema_types.specs.declared.qualified.ResolvedCommon.{ResolvedCommon}
use Rattle.schema_types.specs.QualifiedViews.{qualified_view, resolved_common_view}
use Rattle.schema_types.specs.inner.Rounds.{Rounds, Steps}
use Rattle.json_words.proofs.EachSame.{cut}
use Rattle.schema_types.proofs.Rounds.{round_none, round_step}
use Rattle.schema_types.proofs.commons.round.Goals as goal

pub loop-common-preserved : goal.loop-common-preserved
loop-common-preserved c = λ last rest.
    let step : Steps (resolved_common_view c.common-item.result) c.loop-common.table c.add_if_ready.new.table =
    subst (λ (n : List ℕ). Steps (n, qualified_view c.common-item.result.ty) c.loop-common.table c.add_if_ready.new.table) c.as_str.ensures c.in_ok-add_if_ready.ensures in
    c.loop-common.invariant last (subst (λ (es : List ResolvedCommon). Rounds (map resolved_common_view es) c.loop-common.table last)
    (sym (cut c.args.commons.now c.loop-common.common-index c.common-item.result c.loop-common-test.true c.common-item.is))
    (round_step (resolved_common_view c.common-item.result) (map resolved_common_view (drop (c.loop-common.common-index + 1) c.args.commons.now)) c.loop-common.table c.add_if_ready.new.table last step rest))

pub returns : goal.returns
returns c = c.loop-common.invariant c.loop-common.table (subst (λ (es : List ResolvedCommon). Rounds (map resolved_common_view es) c.loop-common.table c.loop-common.table)
    (sym (drop_all c.loop-common.common-index c.args.commons.now c.loop-common-test.false)) (round_none c.loop-common.table))
