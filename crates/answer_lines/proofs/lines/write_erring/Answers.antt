use Rattle.std.proofs.Common.{ap, ap₂, List, ℕ}
use Rattle.serde_json.specs.Data.{string, object, no_members, member}
use Rattle.std.specs.Prelude.{codes}
use Rattle.entity_uids.specs.Tokens.{tokens_of}
use Rattle.entity_uids.proofs.Adding.{start, then, alike}
use Rattle.answer_lines.proofs.lines.write_erring.Goals as goal

pub returns : goal.returns
returns c =
    alike (ap₂ (λ (e p : List ℕ). tokens_of (object (member (codes "error") (string e) (member (codes "policy") (string p) no_members)))) c.error_word.ensures c.as_str.ensures)
    (then (then (then (then (then (then (start c.args.out.now)
    c.in_ok-begin_object.ensures) c.in_ok-key.ensures) c.in_ok-string.ensures) c.in_ok-key-2.ensures) c.in_ok-string-2.ensures) c.in_ok-end_object.ensures)
