use Rattle.std.proofs.Common.{List, ℕ, refl, subst}
use Rattle.site.specs.SiteViews.{schema_of, store_in}
use Rattle.site.specs.Steps.{PutsPolicy}
use Rattle.site.proofs.answering.put_text.Goals as goal

pub returns-in-Ok-clause-puts : goal.returns-in-Ok-clause-puts
returns-in-Ok-clause-puts c =
    let s = c.args.site.now in
    let t = store_in c.put_policy.new.self in
    subst (λ (x : List ℕ). PutsPolicy (schema_of s) s.name (store_in s) c.args.id.now x c.put_policy.result t)
    c.in-Ok.ensures.cases.0 c.put_policy.ensures.puts

pub returns-in-Err-clause-puts : goal.returns-in-Err-clause-puts
returns-in-Err-clause-puts c = (c.not_text.ensures (schema_of c.args.site.now) c.in-Err.ensures.cases.0, refl)
