use Rattle.std.proofs.Common.{◌≡◌, ◌≤◌, ℕ, List, ◌-◌, take, drop, length, sym, subst, ap, ◌∙◌, arith, rules, length-drop}
use Rattle.std.proofs.Math.Seq.{take-add}
use Rattle.std.proofs.lemmas.List.{take-append-drop, take_all}
use Rattle.std.specs.Io.KnownBytes.{Appends}
use Rattle.std.proofs.KnownBytes.{Appends-trans, Appends-kept}
use Rattle.http_streams.specs.Devices.{HasFailed}
use Rattle.http_streams.proofs.LastCall.{FailsAtLast-now}
use Rattle.http_streams.proofs.devices.write_all.Goals as goal

pub returns-in-Err-clause-err : goal.returns-in-Err-clause-err
returns-in-Err-clause-err g c = (
  take c.loop-done.done c.args.bytes.now,
  drop c.loop-done.done c.args.bytes.now,
  omega (arith, length-drop c.loop-done.done c.args.bytes.now, c.loop-done-test.true),
  sym (take-append-drop c.loop-done.done c.args.bytes.now),
  Appends-kept _ _ _ _ c.loop-done.invariant.1 c.in-Err.ensures.bytes,
)

pub returns-in-Err-clause-failed : goal.returns-in-Err-clause-failed
returns-in-Err-clause-failed g c =
    let told : HasFailed (g.W.Sink.failed c.loop-done.writer) (g.W.Sink.failed c.write.new.self) = search rules in
    FailsAtLast-now g.W.Sink.failed g.W.Sink.fails c.loop-done.invariant.2 c.in-Err.ensures.failure told

-- the next n bytes from done on, as the slice of the rest shows them
next : (bytes : List ℕ) (done n : ℕ) → take n (take (length bytes - done) (drop done bytes)) ≡ take n (drop done bytes)
next bytes done n = let h : length (drop done bytes) ≤ length bytes - done = simp length-drop (omega arith) in ap (take n) (take_all _ _ h)

rest_length : (bytes : List ℕ) (done : ℕ) → length (take (length bytes - done) (drop done bytes)) ≡ length bytes - done
rest_length bytes done =
    let h : length (drop done bytes) ≤ length bytes - done = simp length-drop (omega arith) in
    ap length (take_all _ _ h) ∙ length-drop done bytes

pub loop-done-preserved : goal.loop-done-preserved
loop-done-preserved g c =
    let bytes = c.args.bytes.now in
    let done = c.loop-done.done in
    let n = c.in-Ok.n in
    let more = subst (Appends (g.W.Sink.holds c.loop-done.writer) (g.W.Sink.holds c.write.new.self)) (next bytes done n) c.in-Ok.ensures.bytes in (
      omega (arith, rest_length bytes done, c.in-Ok.ensures.bound.1, c.loop-done-test.true),
      subst (Appends (g.W.Sink.holds c.args.writer.now) (g.W.Sink.holds c.write.new.self)) (sym (take-add done n bytes))
          (Appends-trans _ _ _ _ _ c.loop-done.invariant.1 more),
      c.in-Ok.ensures.failures ∙ c.loop-done.invariant.2,
    )
