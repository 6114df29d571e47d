use Rattle.std.proofs.Common.{◌∙◌, sym, string_bytes}
use Rattle.schema_decisions.specs.schema.Views.{schema_view}
use Rattle.schema_decisions.specs.validator.Passing.{Passes}
use Rattle.fault_places.specs.ReportWording.{IsPolicyFault}
use Rattle.explanations.proofs.Appending.{on_ok}
use Rattle.explanations.proofs.Joining.{some_so, none_so, policy_passes, policy_rejected}
use Rattle.explanations.proofs.policies.explain_policy.Goals as goal

pub returns-in-Some-2 : goal.returns-in-Some-2
returns-in-Some-2 c =
    let s = schema_view c.in-Some.schema.now in
    let p = c.args.policy.now in
    rw c.in-Some.is (
    on_ok c.push_fault.result c.push_fault.ensures (policy_rejected s c.args.file.now c.args.text.now c.args.piece p (string_bytes c.args.out.now) (string_bytes c.push_fault.new.out) c.in-Some-2.fault
    (sym c.is_searched.ensures ∙ c.if-not-is_searched.false) (some_so (Passes s p) (IsPolicyFault s p) c.in-Some-2.is c.in_ok-fault.ensures)))

pub returns-in-None : goal.returns-in-None
returns-in-None c =
    let s = schema_view c.in-Some.schema.now in
    let p = c.args.policy.now in
    rw c.in-Some.is (
    policy_passes s c.args.file.now c.args.text.now c.args.piece p (string_bytes c.args.out.now)
    (none_so (Passes s p) (IsPolicyFault s p) c.in-None.is c.in_ok-fault.ensures))
