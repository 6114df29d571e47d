use Rattle.std.proofs.Common.{◌≡◌, ◌++◌, drop}
use Rattle.json.specs.Print.{escape}
use Rattle.http_service.proofs.log_pieces.append_escaped.Given as goal

-- what there is, and the escapes of what is left, make the whole
abbrev pub invariant-loop-byte : goal.invariant-loop-byte
invariant-loop-byte l = l.line.items ++ escape (drop l.byte-index l.text) ≡ l.fn.line.items ++ escape l.text
