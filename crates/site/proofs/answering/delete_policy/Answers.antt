use Rattle.std.proofs.Common.{List, ℕ, refl, subst}
use Rattle.site_store.specs.stamped_store.Store.{policy_name}
use Rattle.site.specs.SiteViews.{store_in}
use Rattle.site.specs.Steps.{Deletes}
use Rattle.site.proofs.ByBytes.{policy_deletes}
use Rattle.site.proofs.answering.delete_policy.Goals as goal

pub returns-in-Ok-clause-deletes : goal.returns-in-Ok-clause-deletes
returns-in-Ok-clause-deletes c =
    let s = c.args.site.now in
    let t = store_in c.delete_policy.new.self in
    policy_deletes s.name (store_in s) c.args.id.now c.delete_policy.result t c.in-Ok.ensures.cases.1
    (subst (λ (x : List ℕ). Deletes s.name (store_in s) (policy_name x) c.delete_policy.result t) c.in-Ok.ensures.cases.0
    c.delete_policy.ensures.deletes)

pub returns-in-Err-clause-deletes : goal.returns-in-Err-clause-deletes
returns-in-Err-clause-deletes c = (refl, c.in-Err.ensures.cases.0, refl)
