use Rattle.std.proofs.Common.{◌≡◌, drop}
use Rattle.fault_places.specs.Forms.{form_of, whole, unwrapped, node_at}
use Rattle.fault_places.proofs.forms.node_at.Given as goal

abbrev pub invariant-loop-index : goal.invariant-loop-index
invariant-loop-index l =
    node_at (form_of l.here) (drop l.index-index l.path) ≡ node_at (unwrapped (whole l.tree l.tokens)) l.path
