use Rattle.std.proofs.Common.{◌∙◌, ◌++◌, ℕ, List, ap, append_assoc}
use Rattle.http_service.specs.LogLines.{head_text, plain_tail}
use Rattle.std.proofs.Common.{None}
use Rattle.http_service.proofs.log_line.put_unread_line.Goals as goal

pub returns-clause-items : goal.returns-clause-items
returns-clause-items c =
    c.put_plain_tail.ensures.items ∙ ap (λ (l : List ℕ). l ++ plain_tail c.args.status) c.append.ensures.items
    ∙ append_assoc c.args.line.now.items (head_text None None) (plain_tail c.args.status)
