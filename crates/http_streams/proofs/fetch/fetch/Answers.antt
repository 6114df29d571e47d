use Rattle.std.proofs.Common.{◌≡◌, ℕ, List, [], Err, drop, sym, ap, subst, append-nil}
use Rattle.std.proofs.KnownBytes.{Consumes-nil}
use Rattle.http_streams.specs.declared.fetch.FetchFault.TheVariants.{BadReply, Ended, Read}
use Rattle.http_streams.specs.Reply.{ReadsReply}
use Rattle.http_streams.specs.RequestText.{request_text}
use Rattle.http_streams.proofs.fetch.fetch.Goals as goal

pub returns-in-Err-Write-clause-err : goal.returns-in-Err-Write-clause-err
returns-in-Err-Write-clause-err g c = let went = c.in-Err-Write.ensures.err in ([], went.0, went.1, Consumes-nil _, went.2, went.3)

pub returns-in-Err-NoMemory-clause-err : goal.returns-in-Err-NoMemory-clause-err
returns-in-Err-NoMemory-clause-err g c = let went = c.in-Err-NoMemory.ensures.err in ([], went.0, went.1, Consumes-nil _, went.2, went.3)

pub returns-in_default-clause-err : goal.returns-in_default-clause-err
returns-in_default-clause-err g c =
    ([], request_text c.args.ask.now, [], Consumes-nil _, sym (append-nil (request_text c.args.ask.now)), c.in-Ok.ensures.ok)

pub returns-in-Ok-read_whole-clause-ok : goal.returns-in-Ok-read_whole-clause-ok
returns-in-Ok-read_whole-clause-ok g c =
    let all = c.read_whole.new.buffer.items in
    let p = c.in-Ok-read_whole.parts in
    let whole = c.in-Ok-read_whole.ensures.ok in (
      all,
      whole.0,
      drop p.end all,
      c.in-Ok-read_whole.ensures.bytes,
      c.in-Ok.ensures.ok,
      subst (λ (t : List ℕ). ReadsReply all p.code t (drop p.end all)) (sym c.keep_body.ensures) whole.1.reads,
      whole.2,
      whole.3,
    )

pub returns-clause-bad : goal.returns-clause-bad
returns-clause-bad g c is =
    let fault : c.in-Err.fault ≡ BadReply = cc in
    let came = c.in-Err.ensures.bad (ap Err fault) in
    (c.read_whole.new.buffer.items, came.0, c.in-Err.ensures.bytes, c.in-Ok.ensures.ok, came.1, came.2, came.3)

pub returns-clause-ended : goal.returns-clause-ended
returns-clause-ended g c is =
    let fault : c.in-Err.fault ≡ Ended = cc in
    let came = c.in-Err.ensures.ended (ap Err fault) in
    (c.read_whole.new.buffer.items, c.in-Err.ensures.bytes, c.in-Ok.ensures.ok, came.0, came.1, came.2)

pub returns-clause-read : goal.returns-clause-read
returns-clause-read g c is =
    let fault : c.in-Err.fault ≡ Read = cc in
    let came = c.in-Err.ensures.read (ap Err fault) in
    (c.read_whole.new.buffer.items, c.in-Err.ensures.bytes, c.in-Ok.ensures.ok, came.0, came.1)

pub returns-clause-err : goal.returns-clause-err
returns-clause-err g c =
    (_, request_text c.args.ask.now, [], c.in-Err.ensures.bytes, sym (append-nil (request_text c.args.ask.now)), c.in-Ok.ensures.ok)
