use Rattle.std.proofs.Common.{◌≡◌, ◌<◌, ℕ, List, true, false, take, length, get_or, sym, ap, arith, eq-eqb}
use Rattle.std.proofs.lemmas.List.{take_all}
use Rattle.std.proofs.lemmas.List.Sums.{position_or_len_is}
use Rattle.http_service.specs.Routes.{is_question_mark, path_of}
use Rattle.http_service.proofs.path.path_of.Goals as goal

here : (target : List ℕ) (at : ℕ) → at < length target
    → ((k : ℕ) → k < at → is_question_mark (get_or target k 0) ≡ false) → is_question_mark (get_or target at 0) ≡ true
    → take at target ≡ path_of target
unfolding path_of
here target at within before mark =
    ap (λ (n : ℕ). take n target)
    (sym (position_or_len_is is_question_mark target at 0 (omega arith) before (λ _. mark)))

nowhere : (target : List ℕ)
    → ((k : ℕ) → k < length target → is_question_mark (get_or target k 0) ≡ false) → target ≡ path_of target
unfolding path_of
nowhere target before =
    let end =
    position_or_len_is is_question_mark target (length target) 0 (omega arith) before
    (λ h. absurd (omega (arith, h))) in
    rw end (sym (take_all (length target) target (omega arith)))

pub returns-then-target-at-eq63 : goal.returns-then-target-at-eq63
returns-then-target-at-eq63 c =
    here c.args.target.now c.loop-at.at c.loop-at-test.true c.loop-at.invariant
    (eq-eqb (get_or c.args.target.now c.loop-at.at 0) 63 c.if-target-at-eq63.true)

pub returns : goal.returns
returns c = nowhere c.args.target.now (λ k h. c.loop-at.invariant k (omega arith))
