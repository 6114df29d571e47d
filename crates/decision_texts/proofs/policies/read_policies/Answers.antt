use Rattle.std.proofs.Common.{inr, subst, List, ℕ}
use Rattle.std.proofs.lemmas.Result.{IfErr-weaker}
use Rattle.answer_lines.specs.policy_grammar.PolicyText.{IsFileRefused}
use Rattle.decision_texts.specs.Decisions.{IsFileFault}
use Rattle.decision_texts.proofs.FaultLemmas.{weaker}
use Rattle.decision_texts.proofs.policies.read_policies.Goals as goal

pub returns-in-Ok-clause-refused : goal.returns-in-Ok-clause-refused
returns-in-Ok-clause-refused c =
    let text = c.in-Ok.ensures.cases in
    IfErr-weaker c.parse_policies.result _ _ (weaker (IsFileRefused c.in-Ok.text.now) (IsFileFault c.args.bytes.now)
    (λ fault is_fault. inr (inr (c.if-bytes-gt-MOST_FILE_BYTES.false, text.1, subst (λ (bytes : List ℕ). IsFileRefused bytes fault) text.0 is_fault))))
    c.parse_policies.ensures.refused
