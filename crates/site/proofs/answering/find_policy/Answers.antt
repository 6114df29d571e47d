use Rattle.std.proofs.Common.{◌≡◌, List, ℕ, IfOk, option_map, refl, subst}
use Rattle.site.specs.SiteViews.{store_in}
use Rattle.site.specs.Steps.{policy_found}
use Rattle.site.proofs.ByBytes.{finds}
use Rattle.site.proofs.answering.find_policy.Goals as goal

pub returns-in-Ok : goal.returns-in-Ok
returns-in-Ok c =
    let s = store_in c.args.site.now in
    finds s c.args.id.now c.found.result c.in-Ok.ensures.cases.1
    (subst (λ (x : List ℕ). IfOk c.found.result (λ found. option_map (λ f. (f.text, f.stamp)) found ≡ policy_found s x))
    c.in-Ok.ensures.cases.0 c.found.ensures.found)
    c.found.ensures.refused

pub returns-in-Err : goal.returns-in-Err
returns-in-Err c = (refl, c.in-Err.ensures.cases.0)
