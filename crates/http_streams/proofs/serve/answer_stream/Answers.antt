use Rattle.std.proofs.Common.{◌≡◌, ℕ, List, [], ◌++◌, Ok, Err, length, drop, refl, sym, ap, ◌∙◌, subst, inl, inr, arith, rules, append-nil, length-append}
use Rattle.std.specs.Prelude.{IsTrue, IsFalse}
use Rattle.std.specs.Io.KnownBytes.{Consumes}
use Rattle.http_streams.specs.Request.{IsUnfinished, StaysUnfinished}
use Rattle.http_streams.specs.Stream.{AnswersAllRequests, Serves}
use Rattle.std.proofs.KnownBytes.{Appends-nil, Appends-trans, Consumes-nil, Consumes-trans, Consumes-kept}
use Rattle.http_streams.specs.Logs.{AreNoted, notes}
use Rattle.http_streams.specs.declared.serve.LoggedFault.TheVariants.{Stream, Log}
use Rattle.http_streams.specs.declared.serve.StreamFault.TheVariants as fault
use Rattle.http_streams.proofs.LogLemmas.{noted_after, noted_so_far}
use Rattle.http_streams.proofs.StreamLemmas.{Serves-read, Serves-then, EndsByReply-after, AnswersAllRequests-from, StopsWithinReply-after}
use Rattle.http_streams.proofs.LastCall.{FailsAtLast-from, FailsAtLast-now}
use Rattle.http_streams.proofs.OneRequest.{nothing_unfinished, stays_on, unfinished_yet}
use Rattle.http_streams.proofs.serve.answer_stream.Goals as goal

pub loop-turn-init : goal.loop-turn-init
loop-turn-init g c = record {
  heads = c.requires.heads;
  some = c.requires.some;
  most = c.requires.most;
  head = c.requires.head;
  room = c.requires.room;
  unfinished = subst IsUnfinished (sym c.requires.empty) nothing_unfinished;
  below = λ more less. absurd (omega arith);
  read_count = refl;
  write_count = refl;
  log_count = refl;
  line_room = c.requires.line_room;
  so_far = (
    [],
    [],
    0,
    Consumes-nil _,
    Appends-nil _,
    (sym c.requires.empty, refl, refl),
    omega arith,
    0,
    (sym c.requires.empty, refl, refl),
  );
}

pub returns-in-Ok-false-clause-answered : goal.returns-in-Ok-false-clause-answered
returns-in-Ok-false-clause-answered g c =
    let so_far = c.loop-turn.invariant.so_far in
    let came = c.in-Ok-false.ensures.ok in
    let none : IsFalse c.in-Ok-false.field-0 = search rules in
    let end = came.4 none in
    let read = subst (Consumes (g.R.Source.left c.loop-turn.reader) (g.R.Source.left c.read_more.new.reader)) end.0 came.1 in
    record {
      bytes = so_far.0 ++ [];
      out = so_far.1;
      read = Consumes-trans _ _ _ _ _ so_far.3 read;
      written = so_far.4;
      ended = (
        inl (
          subst (λ (t : List ℕ). AnswersAllRequests g.S.Answers.answers c.args.service.now t so_far.1 c.loop-turn.service) (sym (append-nil so_far.0))
              (AnswersAllRequests-from g.S.Answers.answers so_far.2 _ _ _ _ _ so_far.5 c.loop-turn.invariant.unfinished),
          end.1,
          record {
            between = c.loop-turn.reader;
            room = _;
            some = c.loop-turn.invariant.some;
            last = [];
            before = subst (Consumes (g.R.Source.left c.args.reader.now) (g.R.Source.left c.loop-turn.reader)) (sym (append-nil so_far.0)) so_far.3;
            call = subst (λ (t : List ℕ). g.R.Source.reads c.loop-turn.reader (length c.loop-turn.chunk) t c.read_more.new.reader) end.0 came.6;
            short = omega arith;
            joined = sym (append-nil (so_far.0 ++ []));
          },
        ),
        c.in-Ok-false.ensures.count ∙ c.loop-turn.invariant.read_count,
        c.loop-turn.invariant.write_count,
      );
    }

pub returns-in-Err-Read-clause-answered : goal.returns-in-Err-Read-clause-answered
returns-in-Err-Read-clause-answered g c =
    let so_far = c.loop-turn.invariant.so_far in
    let failure = c.in-Err-Read.ensures.read (ap Err c.in-Err-Read.field-0-is) in
    record {
      bytes = so_far.0;
      out = so_far.1;
      read = Consumes-kept _ _ _ _ so_far.3 c.in-Err-Read.ensures.lost.0;
      written = so_far.4;
      ended = (
        AnswersAllRequests-from g.S.Answers.answers so_far.2 _ _ _ _ _ so_far.5 c.loop-turn.invariant.unfinished,
        inl (FailsAtLast-now g.R.Source.failed g.R.Source.fails c.loop-turn.invariant.read_count failure.0 failure.1),
        c.loop-turn.invariant.write_count,
      );
    }

pub returns-in-Err-NoMemory-clause-answered : goal.returns-in-Err-NoMemory-clause-answered
returns-in-Err-NoMemory-clause-answered g c =
    let so_far = c.loop-turn.invariant.so_far in
    let unread = c.in-Err-NoMemory.ensures.memory (ap Err c.in-Err-NoMemory.field-0-is) in
    record {
      bytes = so_far.0;
      out = so_far.1;
      read = Consumes-kept _ _ _ _ so_far.3 c.in-Err-NoMemory.ensures.lost.0;
      written = so_far.4;
      ended = (
        AnswersAllRequests-from g.S.Answers.answers so_far.2 _ _ _ _ _ so_far.5 c.loop-turn.invariant.unfinished,
        ap g.R.Source.failed unread ∙ c.loop-turn.invariant.read_count,
        c.loop-turn.invariant.write_count,
      );
    }

pub returns-in-Ok-None-clause-answered : goal.returns-in-Ok-None-clause-answered
returns-in-Ok-None-clause-answered g c =
    let so_far = c.loop-turn.invariant.so_far in
    let came = c.in-Ok-true.ensures.ok in
    let done = c.in-Ok-None.ensures.closed (ap Ok c.in-Ok-None.field-0-is) in
    let all = Serves-read g.S.Answers.answers so_far.2 _ _ _ _ _ came.0 _ so_far.5 (c.deref.ensures.value ∙ came.2) in
    record {
      bytes = so_far.0 ++ came.0;
      out = so_far.1 ++ done.0;
      read = Consumes-trans _ _ _ _ _ so_far.3 came.1;
      written = Appends-trans _ _ _ _ _ so_far.4 done.1;
      ended = (
        inr (
          EndsByReply-after g.S.Answers.answers so_far.2 _ _ _ _ _ _ _ all done.2,
          record {
            front = so_far.0;
            sent = so_far.1;
            more = done.0;
            state = c.loop-turn.service;
            answered = AnswersAllRequests-from g.S.Answers.answers so_far.2 _ _ _ _ _ so_far.5 c.loop-turn.invariant.unfinished;
            read = record {
              between = c.loop-turn.reader;
              room = _;
              some = c.loop-turn.invariant.some;
              last = came.0;
              before = so_far.3;
              call = came.6;
              short = omega (arith, came.5, c.loop-turn.invariant.most);
              joined = refl;
            };
            joined = refl;
          },
        ),
        c.in-Ok-true.ensures.count ∙ c.loop-turn.invariant.read_count,
        c.in-Ok-None.ensures.count.0 ∙ c.loop-turn.invariant.write_count,
      );
    }

pub returns-in-Err-Write-clause-answered : goal.returns-in-Err-Write-clause-answered
returns-in-Err-Write-clause-answered g c =
    let so_far = c.loop-turn.invariant.so_far in
    let came = c.in-Ok-true.ensures.ok in
    let done = rw c.in-Err-Write.field-0-is at c.in-Err-Write.ensures.err in
    let all = Serves-read g.S.Answers.answers so_far.2 _ _ _ _ _ came.0 _ so_far.5 (c.deref.ensures.value ∙ came.2) in
    record {
      bytes = so_far.0 ++ came.0;
      out = so_far.1 ++ done.0;
      read = Consumes-trans _ _ _ _ _ so_far.3 came.1;
      written = Appends-trans _ _ _ _ _ so_far.4 done.1;
      ended = (
        StopsWithinReply-after g.S.Answers.answers so_far.2 _ _ _ _ _ _ _ all done.2,
        record {
          front = so_far.0;
          sent = so_far.1;
          more = done.0;
          state = c.loop-turn.service;
          answered = AnswersAllRequests-from g.S.Answers.answers so_far.2 _ _ _ _ _ so_far.5 c.loop-turn.invariant.unfinished;
          read = record {
            between = c.loop-turn.reader;
            room = _;
            some = c.loop-turn.invariant.some;
            last = came.0;
            before = so_far.3;
            call = came.6;
            short = omega (arith, came.5, c.loop-turn.invariant.most);
            joined = refl;
          };
          joined = refl;
        },
        FailsAtLast-from g.W.Sink.failed g.W.Sink.fails c.loop-turn.invariant.write_count (c.in-Err-Write.ensures.write (ap Err c.in-Err-Write.field-0-is)).0,
        c.in-Ok-true.ensures.count ∙ c.loop-turn.invariant.read_count,
      );
    }

pub returns-in-Err-Log-clause-answered : goal.returns-in-Err-Log-clause-answered
returns-in-Err-Log-clause-answered g c =
    let so_far = c.loop-turn.invariant.so_far in
    let came = c.in-Ok-true.ensures.ok in
    let done = rw c.in-Err-Log.field-0-is at c.in-Err-Log.ensures.err in
    let all = Serves-read g.S.Answers.answers so_far.2 _ _ _ _ _ came.0 _ so_far.5 (c.deref.ensures.value ∙ came.2) in
    record {
      bytes = so_far.0 ++ came.0;
      out = so_far.1 ++ done.0;
      read = Consumes-trans _ _ _ _ _ so_far.3 came.1;
      written = Appends-trans _ _ _ _ _ so_far.4 done.1;
      ended = (
        StopsWithinReply-after g.S.Answers.answers so_far.2 _ _ _ _ _ _ _ all done.2,
        record {
          front = so_far.0;
          sent = so_far.1;
          more = done.0;
          state = c.loop-turn.service;
          answered = AnswersAllRequests-from g.S.Answers.answers so_far.2 _ _ _ _ _ so_far.5 c.loop-turn.invariant.unfinished;
          read = record {
            between = c.loop-turn.reader;
            room = _;
            some = c.loop-turn.invariant.some;
            last = came.0;
            before = so_far.3;
            call = came.6;
            short = omega (arith, came.5, c.loop-turn.invariant.most);
            joined = refl;
          };
          joined = refl;
        },
        (c.in-Err-Log.ensures.log (ap Err c.in-Err-Log.field-0-is)).1 ∙ c.loop-turn.invariant.write_count,
        c.in-Ok-true.ensures.count ∙ c.loop-turn.invariant.read_count,
      );
    }

pub returns-in-Ok-false-clause-logged : goal.returns-in-Ok-false-clause-logged
returns-in-Ok-false-clause-logged g c =
    let so_far = c.loop-turn.invariant.so_far in
    let came = c.in-Ok-false.ensures.ok in
    let none : IsFalse c.in-Ok-false.field-0 = search rules in
    let end = came.4 none in
    let read = subst (Consumes (g.R.Source.left c.loop-turn.reader) (g.R.Source.left c.read_more.new.reader)) end.0 came.1 in
    record {
      bytes = so_far.0 ++ [];
      out = so_far.1;
      read = Consumes-trans _ _ _ _ _ so_far.3 read;
      written = so_far.4;
      noted = subst (λ (t : List ℕ). AreNoted g.S.Service.lines g.S.Service.refusal_line g.L.Sink.holds (Ok tt) c.args.log.now t so_far.1 c.loop-turn.log) (sym (append-nil so_far.0))
          (noted_so_far g.S.Service.lines g.S.Service.refusal_line g.L.Sink.holds (Ok tt) so_far.7 _ _ _ _ _ so_far.8 (inl (refl, refl)));
      failed = c.loop-turn.invariant.log_count;
    }

pub returns-in-Err-Read-clause-logged : goal.returns-in-Err-Read-clause-logged
returns-in-Err-Read-clause-logged g c =
    let so_far = c.loop-turn.invariant.so_far in
    record {
      bytes = so_far.0;
      out = so_far.1;
      read = Consumes-kept _ _ _ _ so_far.3 c.in-Err-Read.ensures.lost.0;
      written = so_far.4;
      noted = noted_so_far g.S.Service.lines g.S.Service.refusal_line g.L.Sink.holds (Err (Stream fault.Read)) so_far.7 _ _ _ _ _ so_far.8 (refl, refl);
      failed = c.loop-turn.invariant.log_count;
    }

pub returns-in-Err-NoMemory-clause-logged : goal.returns-in-Err-NoMemory-clause-logged
returns-in-Err-NoMemory-clause-logged g c =
    let so_far = c.loop-turn.invariant.so_far in
    record {
      bytes = so_far.0;
      out = so_far.1;
      read = Consumes-kept _ _ _ _ so_far.3 c.in-Err-NoMemory.ensures.lost.0;
      written = so_far.4;
      noted = noted_so_far g.S.Service.lines g.S.Service.refusal_line g.L.Sink.holds (Err (Stream fault.NoMemory)) so_far.7 _ _ _ _ _ so_far.8 (refl, refl);
      failed = c.loop-turn.invariant.log_count;
    }

pub returns-in-Ok-None-clause-logged : goal.returns-in-Ok-None-clause-logged
returns-in-Ok-None-clause-logged g c =
    let so_far = c.loop-turn.invariant.so_far in
    let came = c.in-Ok-true.ensures.ok in
    let done = c.in-Ok-None.ensures.closed (ap Ok c.in-Ok-None.field-0-is) in
    let all = Serves-read (notes g.S.Service.lines g.L.Sink.holds) so_far.7 _ _ _ _ _ came.0 _ so_far.8 (c.deref.ensures.value ∙ came.2) in
    record {
      bytes = so_far.0 ++ came.0;
      out = so_far.1 ++ done.0;
      read = Consumes-trans _ _ _ _ _ so_far.3 came.1;
      written = Appends-trans _ _ _ _ _ so_far.4 done.1;
      noted = noted_after g.S.Service.lines g.S.Service.refusal_line g.L.Sink.holds (Ok tt) so_far.7 _ _ _ _ _ _ _ all done.3;
      failed = c.in-Ok-None.ensures.count.1 ∙ c.loop-turn.invariant.log_count;
    }

pub returns-in-Err-Write-clause-logged : goal.returns-in-Err-Write-clause-logged
returns-in-Err-Write-clause-logged g c =
    let so_far = c.loop-turn.invariant.so_far in
    let came = c.in-Ok-true.ensures.ok in
    let done = rw c.in-Err-Write.field-0-is at c.in-Err-Write.ensures.err in
    let all = Serves-read (notes g.S.Service.lines g.L.Sink.holds) so_far.7 _ _ _ _ _ came.0 _ so_far.8 (c.deref.ensures.value ∙ came.2) in
    record {
      bytes = so_far.0 ++ came.0;
      out = so_far.1 ++ done.0;
      read = Consumes-trans _ _ _ _ _ so_far.3 came.1;
      written = Appends-trans _ _ _ _ _ so_far.4 done.1;
      noted = noted_after g.S.Service.lines g.S.Service.refusal_line g.L.Sink.holds (Err (Stream fault.Write)) so_far.7 _ _ _ _ _ _ _ all done.3;
      failed = (c.in-Err-Write.ensures.write (ap Err c.in-Err-Write.field-0-is)).1 ∙ c.loop-turn.invariant.log_count;
    }

pub returns-in-Err-Log-clause-logged : goal.returns-in-Err-Log-clause-logged
returns-in-Err-Log-clause-logged g c =
    let so_far = c.loop-turn.invariant.so_far in
    let came = c.in-Ok-true.ensures.ok in
    let done = rw c.in-Err-Log.field-0-is at c.in-Err-Log.ensures.err in
    let all = Serves-read (notes g.S.Service.lines g.L.Sink.holds) so_far.7 _ _ _ _ _ came.0 _ so_far.8 (c.deref.ensures.value ∙ came.2) in
    record {
      bytes = so_far.0 ++ came.0;
      out = so_far.1 ++ done.0;
      read = Consumes-trans _ _ _ _ _ so_far.3 came.1;
      written = Appends-trans _ _ _ _ _ so_far.4 done.1;
      noted = noted_after g.S.Service.lines g.S.Service.refusal_line g.L.Sink.holds (Err Log) so_far.7 _ _ _ _ _ _ _ all done.3;
      failed = FailsAtLast-from g.L.Sink.failed g.L.Sink.fails c.loop-turn.invariant.log_count (c.in-Err-Log.ensures.log (ap Err c.in-Err-Log.field-0-is)).0;
    }

pub loop-turn-preserved-then-len-needed : goal.loop-turn-preserved-then-len-needed
loop-turn-preserved-then-len-needed g c =
    let so_far = c.loop-turn.invariant.so_far in
    let came = c.in-Ok-true.ensures.ok in
    let more : IsTrue c.in-Ok-true.field-0 = search rules in
    record {
      heads = search rules;
      some = search rules;
      most = search rules;
      head = c.loop-turn.invariant.head;
      room = c.loop-turn.invariant.room;
      unfinished = unfinished_yet _ came.0 _ _ c.loop-turn.invariant.below came.2 (omega (arith, c.if-len-needed.true, c.len.ensures));
      below = stays_on _ came.0 _ _ c.loop-turn.invariant.below came.2;
      read_count = c.in-Ok-true.ensures.count ∙ c.loop-turn.invariant.read_count;
      write_count = c.loop-turn.invariant.write_count;
      log_count = c.loop-turn.invariant.log_count;
      line_room = c.loop-turn.invariant.line_room;
      so_far = (
        so_far.0 ++ came.0,
        so_far.1,
        so_far.2,
        Consumes-trans _ _ _ _ _ so_far.3 came.1,
        so_far.4,
        Serves-read g.S.Answers.answers so_far.2 _ _ _ _ _ came.0 _ so_far.5 came.2,
        omega (arith, length-append so_far.0 came.0, came.3 more, so_far.6),
        so_far.7,
        Serves-read (notes g.S.Service.lines g.L.Sink.holds) so_far.7 _ _ _ _ _ came.0 _ so_far.8 came.2,
      );
    }

pub loop-turn-preserved : goal.loop-turn-preserved
loop-turn-preserved g c =
    let so_far = c.loop-turn.invariant.so_far in
    let came = c.in-Ok-true.ensures.ok in
    let more : IsTrue c.in-Ok-true.field-0 = search rules in
    let found = rw c.in-Ok-Some.field-0-is at c.in-Ok-Some.ensures.open in
    let done = found.2 in
    let all = Serves-read g.S.Answers.answers so_far.2 _ _ _ _ _ came.0 _ so_far.5 (c.deref.ensures.value ∙ came.2) in
    let joined = Serves-then g.S.Answers.answers so_far.2 done.1 _ _ _ _ _ _ _ _ all done.3 in
    let noted = Serves-read (notes g.S.Service.lines g.L.Sink.holds) so_far.7 _ _ _ _ _ came.0 _ so_far.8 (c.deref.ensures.value ∙ came.2) in
    let lines = Serves-then (notes g.S.Service.lines g.L.Sink.holds) so_far.7 done.4 _ _ _ _ _ _ _ _ noted done.5 in
    let at = c.in-Ok-Some.left.at in
    let left : drop at c.deref.result.now ≡ c.drop_front.new.bytes.items = sym (c.drop_front.ensures.items ∙ ap (drop at) (sym c.deref.ensures.value)) in
    record {
      heads = search rules;
      some = search rules;
      most = search rules;
      head = c.in-Ok-Some.ensures.head;
      room = c.in-Ok-Some.ensures.room;
      unfinished = subst IsUnfinished left found.1.unfinished;
      below = subst (λ (t : List ℕ). StaysUnfinished t c.in-Ok-Some.left.needed) left found.1.below;
      read_count = c.in-Ok-true.ensures.count ∙ c.loop-turn.invariant.read_count;
      write_count = c.in-Ok-Some.ensures.count.0 ∙ c.loop-turn.invariant.write_count;
      log_count = c.in-Ok-Some.ensures.count.1 ∙ c.loop-turn.invariant.log_count;
      line_room = c.in-Ok-Some.ensures.line_room;
      so_far = (
        so_far.0 ++ came.0,
        so_far.1 ++ done.0,
        joined.0,
        Consumes-trans _ _ _ _ _ so_far.3 came.1,
        Appends-trans _ _ _ _ _ so_far.4 done.2,
        subst (λ (t : List ℕ). Serves g.S.Answers.answers joined.0 c.args.service.now (so_far.0 ++ came.0) t (so_far.1 ++ done.0) c.answer_all.new.service) left joined.1,
        omega (arith, length-append so_far.0 came.0, came.3 more, so_far.6),
        lines.0,
        subst (λ (t : List ℕ). Serves (notes g.S.Service.lines g.L.Sink.holds) lines.0 c.args.log.now (so_far.0 ++ came.0) t (so_far.1 ++ done.0) c.answer_all.new.log) left lines.1,
      );
    }
