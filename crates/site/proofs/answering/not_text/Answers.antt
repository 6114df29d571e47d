use Rattle.std.proofs.Common.{arith}
use Rattle.site.specs.Admitted.{bad_id, too_long, no_text}
use Rattle.site.proofs.answering.not_text.Goals as goal

pub returns-then-not-is_id : goal.returns-then-not-is_id
returns-then-not-is_id c = λ schema other. bad_id (λ named. let is = c.is_id.ensures.1 named.sized in absurd (cc))

pub returns-then-text-le-MOST_POLICY_BYTES : goal.returns-then-text-le-MOST_POLICY_BYTES
returns-then-text-le-MOST_POLICY_BYTES c = λ schema other.
    no_text (record { utf8 = c.utf8.id; sized = c.is_id.ensures.0 c.if-not-is_id.false }) (omega arith) other

pub returns-else-text-le-MOST_POLICY_BYTES : goal.returns-else-text-le-MOST_POLICY_BYTES
returns-else-text-le-MOST_POLICY_BYTES c = λ schema other.
    too_long (record { utf8 = c.utf8.id; sized = c.is_id.ensures.0 c.if-not-is_id.false }) (omega arith)
