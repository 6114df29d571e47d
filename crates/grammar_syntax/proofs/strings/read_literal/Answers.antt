use Rattle.std.proofs.Common.{◌≡◌, ◌-◌, Bool, List, ℕ, arith, sym, ◌∙◌, ap, subst, drop, take, length, get_or}
use Rattle.std.proofs.Math.Nat.{add-sub_cancel_left}
use Rattle.std.proofs.lemmas.List.{take_rest}
use Rattle.plain.specs.Words.{run}
use Rattle.grammar_syntax.specs.inner.Tokenizing.{NoEscape, IsFirstEscape, is_plain, IsRead}
use Rattle.grammar_syntax.proofs.Literals.{start_read, no_stop, escape_more, step_inside, plain_cut_at, plain_more, read_all, read_up}
use Rattle.grammar_syntax.proofs.strings.read_literal.Goals as goal
use Rattle.grammar_syntax.proofs.strings.read_literal.Goals.{else-loop-at-test, then-loop-at-test+else-byte-eq92+then-len-eq0}

-- the bytes of a body are the body
rest_of : (bytes body : List ℕ) (at : ℕ) → bytes ≡ body → take (length bytes - at) (drop at bytes) ≡ drop at body
rest_of bytes body at e = take_rest bytes at ∙ ap (λ (x : List ℕ). drop at x) e

byte_of : (bytes body : List ℕ) (at : ℕ) → bytes ≡ body → get_or body at 0 ≡ get_or bytes at 0
byte_of bytes body at e = ap (λ (x : List ℕ). get_or x at 0) (sym e)

pub loop-at-init : goal.loop-at-init
loop-at-init c = record { within = omega arith; read = start_read _ _ c.requires.0 _ c.new-value.ensures.bytes c.utf8.body c.requires.1 }

pub unreachable-requires : goal.unreachable-requires
unreachable-requires c =
    let same = c.as_bytes-bytes.ensures.value in
    no_stop _ _ _ _ (omega (arith, c.loop-at-test.true, c.as_bytes-bytes.ensures.len)) (byte_of _ _ c.loop-at.at same ∙ c.if-byte-eq92.true)
    (subst NoEscape (rest_of _ _ c.loop-at.at same) c.in_default.ensures) c.loop-at.invariant.read

pub loop-at-preserved-then-byte-eq92 : goal.loop-at-preserved-then-byte-eq92
loop-at-preserved-then-byte-eq92 c =
    let within = c.loop-at.invariant.within in
    let found = subst (IsFirstEscape c.in-Some.escape) (rest_of _ _ c.loop-at.at c.as_bytes-bytes.ensures.value) c.in-Some.ensures in
    record {
      within = step_inside _ _ _ within found;
      read = escape_more _ _ _ _ _ _ _ c.utf8.body within found c.character.ensures c.in_ok-push.ensures.bytes c.loop-at.invariant.read;
    }

-- the run of bytes that stand for themselves, seen in the body
run_of : (wild : Bool) (bytes body : List ℕ) (at n : ℕ) → bytes ≡ body → n ≡ run (is_plain wild) (take (length bytes - at) (drop at bytes)) → n ≡ run (is_plain wild) (drop at body)
run_of wild bytes body at n same e = e ∙ ap (λ (x : List ℕ). run (is_plain wild) x) (rest_of bytes body at same)

pub range-requires-clause-end_boundary : goal.range-requires-clause-end_boundary
range-requires-clause-end_boundary c =
    plain_cut_at _ _ _ _ c.loop-at.invariant.within (run_of _ _ _ c.loop-at.at _ c.as_bytes-bytes.ensures.value c.plain_len-len.ensures.is)

pub loop-at-preserved : goal.loop-at-preserved
loop-at-preserved c =
    let within = c.loop-at.invariant.within in
    let n = run_of _ _ _ c.loop-at.at _ c.as_bytes-bytes.ensures.value c.plain_len-len.ensures.is in
    let part = c.range.ensures.value ∙ ap (λ (m : ℕ). take m (drop c.loop-at.at c.args.body.now)) (add-sub_cancel_left c.loop-at.at c.plain_len-len.result) in
    record {
      within = (plain_cut_at _ _ _ _ within n).0;
      read = plain_more _ _ _ _ _ _ _ within n part c.in_ok-push_str.ensures.bytes c.loop-at.invariant.read;
    }

pub returns : goal.returns
returns c =
    let read = subst (λ (x : List ℕ). IsRead c.args.in_pattern x c.loop-at.at c.args.body.now) (sym c.from_string.ensures) c.loop-at.invariant.read in
    let same = c.as_bytes-bytes.ensures.value in
    elim c.loop-at-test.branch [
      | else-loop-at-test w ↦ read_all _ _ _ _ (omega (arith, w.loop-at-test.false, c.as_bytes-bytes.ensures.len)) read
      | then-loop-at-test+else-byte-eq92+then-len-eq0 w ↦
          read_up _ _ _ _ _ (omega (arith, w.loop-at-test.true, c.as_bytes-bytes.ensures.len)) (λ e. w.if-byte-eq92.false (sym (byte_of _ _ c.loop-at.at same) ∙ e))
          (run_of _ _ _ c.loop-at.at _ same w.plain_len-len.ensures.is) w.if-len-eq0.true read
    ]
