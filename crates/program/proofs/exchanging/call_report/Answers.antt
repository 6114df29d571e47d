use Rattle.std.proofs.Common.{◌≡◌, ◌∙◌, ℕ, List, ◌++◌, codes, append_assoc}
use Rattle.std.specs.Prelude.{decimal}
use Rattle.std.proofs.lemmas.Result.{IfOk-weaker}
use Rattle.program.specs.Exchanging.{call_report, call_text}
use Rattle.program.proofs.exchanging.call_report.Goals as goal

-- the pieces, as they are written and as they are read
grouped : (address number asked why : List ℕ)
    → address ++ (codes ": call " ++ (number ++ (codes " of 6, " ++ (asked ++ (codes ": " ++ why)))))
    ≡ address ++ codes ": call " ++ number ++ codes " of 6, " ++ asked ++ codes ": " ++ why
grouped address number asked why = simp append_assoc

pub returns : goal.returns
unfolding call_report
returns c =
    IfOk-weaker c.format.result _ _ (λ line is.
    is ∙ grouped c.args.round_call.now.address.now (decimal c.args.round_call.now.number) (call_text c.args.round_call.now.call) c.args.why.now)
    (rw (c.call_text-asked.ensures) at c.format.ensures.ok)
