use Rattle.std.proofs.lemmas.Bool.{eqb-false}
use Rattle.json.proofs.Printed.Strings.{escape_byte_plain}
use Rattle.http_service.proofs.log_pieces.is_special.Goals as goal

pub returns : goal.returns
returns c last =
    escape_byte_plain c.args.byte c.if-byte-eq34.false (eqb-false c.args.byte 92 last) c.if-byte-lt32.false
