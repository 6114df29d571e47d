use Rattle.std.proofs.Common.{ℕ, List, subst}
use Rattle.std.specs.Prelude.{IfOk, IfErr}
use Rattle.weirbowl.specs.Opening.{IsOpened, IsOpenError}
use Rattle.weirbowl.proofs.embedded.EmbeddedSite.open.Goals as goal

pub returns-in-Some-clause-opened : goal.returns-in-Some-clause-opened
returns-in-Some-clause-opened c =
    subst (λ (n : List ℕ). IfOk c.open_as.result (IsOpened c.args.schema.now n)) c.in-Some.ensures.1 c.open_as.ensures.opened

pub returns-in-Some-clause-failed : goal.returns-in-Some-clause-failed
returns-in-Some-clause-failed c =
    subst (λ (n : List ℕ). IfErr c.open_as.result (IsOpenError c.args.schema.now n)) c.in-Some.ensures.1 c.open_as.ensures.failed
