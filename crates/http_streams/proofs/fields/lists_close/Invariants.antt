use Rattle.std.proofs.Common.{◌≡◌, ◌≤◌, drop}
use Rattle.std.specs.List.{list_any, slice_range}
use Rattle.http_streams.specs.Fields.{is_close_part, lists_close, parts_after}
use Rattle.http_streams.proofs.fields.lists_close.Given as goal

abbrev pub invariant-loop-i : goal.invariant-loop-i
invariant-loop-i l =
    (l.start ≤ l.i)
    × (lists_close l.value ≡ list_any is_close_part (parts_after (slice_range l.value l.start l.i) (drop l.i l.value)))
