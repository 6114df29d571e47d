use Rattle.std.proofs.Common.{◌≡◌, ◌∙◌, ◌+◌, ℕ, List, map, drop, is_some, true, false, sym, ap}
use Rattle.std.proofs.lemmas.List.{drop_all}
use Rattle.schema_types.specs.declared.qualified.ResolvedCommon.{ResolvedCommon}
use Rattle.schema_types.specs.inner.Table.{all_known}
use Rattle.schema_types.specs.TableViews.{type_table}
use Rattle.schema_types.specs.QualifiedViews.{resolved_common_view}
use Rattle.json_words.proofs.EachSame.{cut}
use Rattle.schema_types.proofs.Rounds.{unknown_left, known_left}
use Rattle.schema_types.proofs.commons.are_all_known.Goals as goal

pub returns-then-not-is_known : goal.returns-then-not-is_known
returns-then-not-is_known c =
    let here = c.loop-common.invariant ∙ ap (λ (es : List ResolvedCommon). all_known (type_table c.args.table.now) (map resolved_common_view es)) (cut c.args.commons.now c.loop-common.common-index c.common-item.result c.loop-common-test.true c.common-item.is) in
    let one : is_some (type_table c.args.table.now c.common-item.result.name) ≡ false = ap (λ (n : List ℕ). is_some (type_table c.args.table.now n)) (sym c.as_str.ensures) ∙ sym c.if-not-is_known.ensures in
    sym (here ∙ unknown_left (type_table c.args.table.now) (resolved_common_view c.common-item.result) (map resolved_common_view (drop (c.loop-common.common-index + 1) c.args.commons.now)) one)

pub loop-common-preserved : goal.loop-common-preserved
loop-common-preserved c =
    let here = c.loop-common.invariant ∙ ap (λ (es : List ResolvedCommon). all_known (type_table c.args.table.now) (map resolved_common_view es)) (cut c.args.commons.now c.loop-common.common-index c.common-item.result c.loop-common-test.true c.common-item.is) in
    let one : is_some (type_table c.args.table.now c.common-item.result.name) ≡ true = ap (λ (n : List ℕ). is_some (type_table c.args.table.now n)) (sym c.as_str.ensures) ∙ sym c.if-not-is_known.ensures in
    here ∙ known_left (type_table c.args.table.now) (resolved_common_view c.common-item.result) (map resolved_common_view (drop (c.loop-common.common-index + 1) c.args.commons.now)) one

pub returns : goal.returns
returns c = sym (c.loop-common.invariant ∙ ap (λ (es : List ResolvedCommon). all_known (type_table c.args.table.now) (map resolved_common_view es)) (drop_all c.loop-common.common-index c.args.commons.now c.loop-common-test.false))
