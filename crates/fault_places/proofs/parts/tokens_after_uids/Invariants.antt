use Rattle.std.proofs.Common.{◌≡◌, drop, map}
use Rattle.fault_places.specs.TokenCounts.{uid_count, each_count}
use Rattle.fault_places.proofs.parts.tokens_after_uids.Given as goal

abbrev pub invariant-loop-uid : goal.invariant-loop-uid
invariant-loop-uid l =
    drop (each_count (map uid_count (drop l.uid-index l.uids))) l.rest ≡ drop (each_count (map uid_count l.uids)) l.tokens
