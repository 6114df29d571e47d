use Rattle.std.proofs.Common.{map, drop, BTreeMap, String, Global}
use Rattle.schema_types.specs.declared.table.CommonEntry.{CommonEntry}
use Rattle.schema_types.specs.inner.Rounds.{Rounds}
use Rattle.schema_types.specs.QualifiedViews.{resolved_common_view}
use Rattle.schema_types.proofs.commons.round.Given as goal

-- what a round of those that are left makes, the whole round makes
abbrev pub invariant-loop-common : goal.invariant-loop-common
invariant-loop-common l = (last : BTreeMap (String Global) CommonEntry) → Rounds (map resolved_common_view (drop l.common-index l.commons)) l.table last → Rounds (map resolved_common_view l.commons) l.fn.table last
