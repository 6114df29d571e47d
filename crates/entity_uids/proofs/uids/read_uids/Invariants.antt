use Rattle.std.proofs.Common.{◌≡◌, map, take, Some}
use Rattle.serde_json.specs.View.{view}
use Rattle.entity_uids.specs.Uids.{uids_in}
use Rattle.entity_uids.proofs.uids.read_uids.Given as goal

-- the uids up to here
abbrev pub invariant-loop-value : goal.invariant-loop-value
invariant-loop-value l = uids_in (map view (take l.value-index l.values)) ≡ Some l.uids.items
