use Rattle.std.proofs.Common.{◌≡◌, ℕ, ◌<◌, get_or, false}
use Rattle.http_service.specs.Routes.{is_question_mark}
use Rattle.http_service.proofs.path.path_of.Given as goal

-- no question mark stands before
abbrev pub invariant-loop-at : goal.invariant-loop-at
invariant-loop-at l = (k : ℕ) → k < l.at → is_question_mark (get_or l.target k 0) ≡ false
