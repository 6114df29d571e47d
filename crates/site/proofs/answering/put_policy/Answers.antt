use Rattle.std.proofs.Common.{List, ℕ, refl, subst}
use Rattle.site.specs.Admitted.{bad_id}
use Rattle.site.specs.SiteViews.{schema_of, store_in}
use Rattle.site.specs.Steps.{PutsPolicy}
use Rattle.site.proofs.answering.put_policy.Goals as goal

pub returns-in-Ok-clause-puts : goal.returns-in-Ok-clause-puts
returns-in-Ok-clause-puts c =
    let s = c.args.site.now in
    let t = store_in c.put_text.new.site in
    subst (λ (x : List ℕ). PutsPolicy (schema_of s) s.name (store_in s) x c.args.text.now c.put_text.result t)
    c.in-Ok.ensures.cases.0 c.put_text.ensures.puts

pub returns-in-Err-clause-puts : goal.returns-in-Err-clause-puts
returns-in-Err-clause-puts c = (bad_id (λ named. c.in-Err.ensures.cases.0 named.utf8), refl)
