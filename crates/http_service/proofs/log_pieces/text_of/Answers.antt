use Rattle.std.proofs.lemmas.Str.{is_utf8-from_IsUtf8}
use Rattle.http_service.proofs.PieceLemmas.{is_no_text, is_text}
use Rattle.http_service.proofs.log_pieces.text_of.Goals as goal

pub returns-in-Ok : goal.returns-in-Ok
returns-in-Ok c =
    is_text c.args.bytes.now _ (is_utf8-from_IsUtf8 c.args.bytes.now c.in-Ok.ensures.cases.1) c.in-Ok.ensures.cases.0

pub returns-in-Err : goal.returns-in-Err
returns-in-Err c = is_no_text c.args.bytes.now c.in-Err.ensures.cases.0
