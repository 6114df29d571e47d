use Rattle.decision_texts.proofs.DecidedLemmas.{kept_on, refused_on, admitted, not_admitted}
use Rattle.decision_texts.proofs.policies.admitted_policies.Goals as goal

pub returns-in-Ok-clause-admitted : goal.returns-in-Ok-clause-admitted
returns-in-Ok-clause-admitted g c =
    kept_on c.in-Ok.policies c.check_policies-judged.result c.where_admitted.result c.where_admitted.ensures _ _
    (λ all. admitted (g.S.Setting.reading c.args.setting.now) c.args.bytes.now c.in-Ok.policies.items c.deref.result.now c.deref.ensures.value c.in-Ok.ensures.read all)
    c.check_policies-judged.ensures.admitted

pub returns-in-Ok-clause-refused : goal.returns-in-Ok-clause-refused
returns-in-Ok-clause-refused g c =
    refused_on c.in-Ok.policies c.check_policies-judged.result c.where_admitted.result c.where_admitted.ensures _ _
    (λ refusal is_fault. not_admitted (g.S.Setting.reading c.args.setting.now) c.args.bytes.now c.in-Ok.policies.items c.deref.result.now c.deref.ensures.value c.in-Ok.ensures.read refusal is_fault)
    c.check_policies-judged.ensures.refused
