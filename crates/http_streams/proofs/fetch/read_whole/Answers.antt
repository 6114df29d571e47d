use Rattle.std.proofs.Common.{ℕ, List, ◌++◌, Err, length, sym, ap, ◌∙◌, subst, arith, rules, append-nil, length-append}
use Rattle.std.specs.Prelude.{IsTrue, IsFalse}
use Rattle.std.specs.Io.KnownBytes.{Consumes}
use Rattle.std.proofs.KnownBytes.{Consumes-trans, Consumes-kept}
use Rattle.http_streams.specs.Reply.{IsBadReply, IsReplyAt, IsUnfinishedReply, StaysUnfinishedReply}
use Rattle.http_streams.proofs.OneReply.{nothing_unfinished, stays_on, unfinished_short, unfinished_yet}
use Rattle.http_streams.proofs.LastCall.{FailsAtLast-now}
use Rattle.http_streams.proofs.fetch.read_whole.Goals as goal

pub turns-init : goal.turns-init
turns-init g c = search (rules, nothing_unfinished)

pub returns-in-Ok-false-clause-bytes : goal.returns-in-Ok-false-clause-bytes
returns-in-Ok-false-clause-bytes g c =
    let came = c.in-Ok-false.ensures.ok in
    subst (Consumes (g.R.Source.left c.args.reader.now) (g.R.Source.left c.read_more.new.reader)) (sym came.2)
    (Consumes-trans _ _ _ _ _ c.turns.invariant.read came.1)

pub returns-in-Ok-false-clause-ended : goal.returns-in-Ok-false-clause-ended
returns-in-Ok-false-clause-ended g c _ =
    let came = c.in-Ok-false.ensures.ok in
    let none : IsFalse c.in-Ok-false.field-0 = search rules in
    let end = came.4 none in
    let same = came.2 ∙ ap (λ (t : List ℕ). c.turns.buffer.items ++ t) end.0 ∙ append-nil c.turns.buffer.items in (
      subst IsUnfinishedReply (sym same) c.turns.invariant.unfinished,
      end.1,
      record {
        between = c.turns.reader;
        room = _;
        some = c.turns.invariant.some;
        last = came.0;
        before = subst (Consumes (g.R.Source.left c.args.reader.now) (g.R.Source.left c.turns.reader)) (sym same) c.turns.invariant.read;
        call = came.6;
        short = omega (arith, came.5, c.turns.invariant.most);
        joined = came.2 ∙ ap (λ (t : List ℕ). t ++ came.0) (sym same);
      },
    )

pub returns-in-Err-Read-clause-bytes : goal.returns-in-Err-Read-clause-bytes
returns-in-Err-Read-clause-bytes g c =
    subst (Consumes (g.R.Source.left c.args.reader.now) (g.R.Source.left c.read_more.new.reader)) (sym c.in-Err-Read.ensures.lost.1)
    (Consumes-kept _ _ _ _ c.turns.invariant.read c.in-Err-Read.ensures.lost.0)

pub returns-in-Err-Read-clause-read : goal.returns-in-Err-Read-clause-read
returns-in-Err-Read-clause-read g c _ =
    let failure = c.in-Err-Read.ensures.read (ap Err c.in-Err-Read.field-0-is) in (
      subst IsUnfinishedReply (sym c.in-Err-Read.ensures.lost.1) c.turns.invariant.unfinished,
      FailsAtLast-now g.R.Source.failed g.R.Source.fails c.turns.invariant.count failure.0 failure.1,
    )

pub returns-in-Err-NoMemory-clause-bytes : goal.returns-in-Err-NoMemory-clause-bytes
returns-in-Err-NoMemory-clause-bytes g c =
    subst (Consumes (g.R.Source.left c.args.reader.now) (g.R.Source.left c.read_more.new.reader)) (sym c.in-Err-NoMemory.ensures.lost.1)
    (Consumes-kept _ _ _ _ c.turns.invariant.read c.in-Err-NoMemory.ensures.lost.0)

pub returns-in-Err-NoMemory-clause-count : goal.returns-in-Err-NoMemory-clause-count
returns-in-Err-NoMemory-clause-count g c _ =
    ap g.R.Source.failed (c.in-Err-NoMemory.ensures.memory (ap Err c.in-Err-NoMemory.field-0-is)) ∙ c.turns.invariant.count

pub returns-in-Whole-clause-bytes : goal.returns-in-Whole-clause-bytes
returns-in-Whole-clause-bytes g c =
    let came = c.in-Ok-true.ensures.ok in
    subst (Consumes (g.R.Source.left c.args.reader.now) (g.R.Source.left c.read_more.new.reader)) (sym came.2)
    (Consumes-trans _ _ _ _ _ c.turns.invariant.read came.1)

pub returns-in-Whole-clause-ok : goal.returns-in-Whole-clause-ok
returns-in-Whole-clause-ok g c =
    let came = c.in-Ok-true.ensures.ok in (
      c.turns.buffer.items,
      subst (λ (t : List ℕ). IsReplyAt t c.in-Whole.parts) c.deref.ensures.value c.in-Whole.ensures,
      c.turns.invariant.unfinished,
      record {
        between = c.turns.reader;
        room = _;
        some = c.turns.invariant.some;
        last = came.0;
        before = c.turns.invariant.read;
        call = came.6;
        short = omega (arith, came.5, c.turns.invariant.most);
        joined = came.2;
      },
    )

pub returns-in-Bad-clause-bytes : goal.returns-in-Bad-clause-bytes
returns-in-Bad-clause-bytes g c =
    let came = c.in-Ok-true.ensures.ok in
    subst (Consumes (g.R.Source.left c.args.reader.now) (g.R.Source.left c.read_more.new.reader)) (sym came.2)
    (Consumes-trans _ _ _ _ _ c.turns.invariant.read came.1)

pub returns-in-Bad-clause-bad : goal.returns-in-Bad-clause-bad
returns-in-Bad-clause-bad g c _ =
    let came = c.in-Ok-true.ensures.ok in (
      c.turns.buffer.items,
      subst IsBadReply c.deref.ensures.value c.in-Bad.ensures,
      c.turns.invariant.unfinished,
      record {
        between = c.turns.reader;
        room = _;
        some = c.turns.invariant.some;
        last = came.0;
        before = c.turns.invariant.read;
        call = came.6;
        short = omega (arith, came.5, c.turns.invariant.most);
        joined = came.2;
      },
    )

pub turns-preserved : goal.turns-preserved
turns-preserved g c =
    let came = c.in-Ok-true.ensures.ok in
    record {
      heads = search rules;
      some = search rules;
      most = search rules;
      unfinished = subst IsUnfinishedReply c.deref.ensures.value c.in-Unfinished.ensures.unfinished;
      below = subst (λ (t : List ℕ). StaysUnfinishedReply t c.in-Unfinished.least) c.deref.ensures.value c.in-Unfinished.ensures.below;
      count = c.in-Ok-true.ensures.count ∙ c.turns.invariant.count;
      read = subst (Consumes (g.R.Source.left c.args.reader.now) (g.R.Source.left c.read_more.new.reader)) (sym came.2)
          (Consumes-trans _ _ _ _ _ c.turns.invariant.read came.1);
    }

pub turns-preserved-then-len-needed : goal.turns-preserved-then-len-needed
turns-preserved-then-len-needed g c =
    let came = c.in-Ok-true.ensures.ok in
    record {
      heads = search rules;
      some = search rules;
      most = search rules;
      unfinished = unfinished_yet _ came.0 _ _ c.turns.invariant.below came.2 (omega (arith, c.if-len-needed.true, c.len.ensures));
      below = stays_on _ came.0 _ _ c.turns.invariant.below came.2;
      count = c.in-Ok-true.ensures.count ∙ c.turns.invariant.count;
      read = subst (Consumes (g.R.Source.left c.args.reader.now) (g.R.Source.left c.read_more.new.reader)) (sym came.2)
          (Consumes-trans _ _ _ _ _ c.turns.invariant.read came.1);
    }

pub turns-smaller-then-len-needed : goal.turns-smaller-then-len-needed
turns-smaller-then-len-needed g c =
    let came = c.in-Ok-true.ensures.ok in
    let more : IsTrue c.in-Ok-true.field-0 = search rules in
    omega (arith, ap length came.2, length-append c.turns.buffer.items came.0, came.3 more, unfinished_short _ c.turns.invariant.unfinished)

pub turns-smaller : goal.turns-smaller
turns-smaller g c =
    let came = c.in-Ok-true.ensures.ok in
    let more : IsTrue c.in-Ok-true.field-0 = search rules in
    omega (arith, ap length came.2, length-append c.turns.buffer.items came.0, came.3 more, unfinished_short _ c.turns.invariant.unfinished)
