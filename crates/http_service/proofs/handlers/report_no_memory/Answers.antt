use Rattle.http_service.proofs.Noted.{input_lacks, unserved_lacks}
use Rattle.http_service.proofs.handlers.report_no_memory.Goals as goal

pub returns-in-Input-clause-reply : goal.returns-in-Input-clause-reply
returns-in-Input-clause-reply c =
    rw c.in-Input.is (input_lacks _ _ _ _ c.report_fault.ensures.status c.report_fault.ensures.body)

pub returns-in-Status-clause-reply : goal.returns-in-Status-clause-reply
returns-in-Status-clause-reply c =
    rw c.in-Status.is (unserved_lacks _ _ _ _ c.report_status.ensures.status c.report_status.ensures.body)
