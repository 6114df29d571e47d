use Rattle.std.proofs.Common.{List, map, subst}
use Rattle.std.proofs.lemmas.Result.{err_from_is_err_and, MatchResult-weaker}
use Rattle.schema_types.specs.TypeTables.{AreWritten}
use Rattle.schema_types.specs.Outcome.{CommonsRefused, SizesRefused}
use Rattle.schema_types.specs.QualifiedViews.{resolved_common_view}
use Rattle.schema_types.specs.TableViews.{type_table}
use Rattle.schema_types.specs.declared.qualified.ResolvedCommon.{ResolvedCommon}
use Rattle.schema_reading.specs.ResolvedViews.{resolved_view}
use Rattle.schema.proofs.SoundLemmas.{all_end, commons_refused, edges_refused, sizes_refused, types_refused}
use Rattle.schema.proofs.reading.sound_schema.Goals as goal

pub returns-in_err-table : goal.returns-in_err-table
returns-in_err-table c =
    let p = err_from_is_err_and c.from_residual.result c.from_residual.ensures.1 in
    rw (p.1, p.2) (λ apart. commons_refused (resolved_view c.args.found.now) _
    (subst (λ (xs : List ResolvedCommon). CommonsRefused (map resolved_common_view xs) c.in_err-table.field-0.0) c.as_slice-commons.ensures (c.in_err-table.ensures apart)))

pub returns-in_err-edges : goal.returns-in_err-edges
returns-in_err-edges c =
    let p = err_from_is_err_and c.from_residual-in_err-edges.result c.from_residual-in_err-edges.ensures.1 in
    let are = subst (λ (xs : List ResolvedCommon). AreWritten (map resolved_common_view xs) (type_table c.in_ok-table.table)) c.as_slice-commons.ensures c.in_ok-table.ensures in
    rw (p.1, p.2) (λ apart. edges_refused (resolved_view c.args.found.now) _ (all_end (resolved_view c.args.found.now).commons (type_table c.in_ok-table.table) are) (c.in_err-edges.ensures apart))

pub returns-in_err-demand_sizes : goal.returns-in_err-demand_sizes
returns-in_err-demand_sizes c =
    let p = err_from_is_err_and c.from_residual-in_err-demand_sizes.result c.from_residual-in_err-demand_sizes.ensures.1 in
    let are = subst (λ (xs : List ResolvedCommon). AreWritten (map resolved_common_view xs) (type_table c.in_ok-table.table)) c.as_slice-commons.ensures c.in_ok-table.ensures in
    rw (p.1, p.2) (λ apart. sizes_refused (resolved_view c.args.found.now) _ (all_end (resolved_view c.args.found.now).commons (type_table c.in_ok-table.table) are) c.in_ok-edges.ensures.no_cycle
    (subst (λ (xs : List ResolvedCommon). SizesRefused (map resolved_common_view xs) c.in_err-demand_sizes.field-0.0) c.as_slice-commons.ensures c.in_err-demand_sizes.ensures))

pub returns : goal.returns
returns c =
    let s = resolved_view c.args.found.now in
    let known = type_table c.in_ok-table.table in
    let are = subst (λ (xs : List ResolvedCommon). AreWritten (map resolved_common_view xs) known) c.as_slice-commons.ensures c.in_ok-table.ensures in
    let no_cycle = c.in_ok-edges.ensures.no_cycle in
    MatchResult-weaker c.make_schema.result c.make_schema.ensures (λ v made. made)
    (λ f refused apart. types_refused s f (all_end s.commons known are) no_cycle (refused apart))
