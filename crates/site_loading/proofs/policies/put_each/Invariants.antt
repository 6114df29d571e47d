use Rattle.std.proofs.Common.{drop}
use Rattle.site.specs.SiteViews.{schema_of, store_in, IsSameSite}
use Rattle.site_loading.specs.Loads.{policy_puts}
use Rattle.site_loading.proofs.PutLemmas.{Along}
use Rattle.site_loading.proofs.LoadLemmas.{words, nows}
use Rattle.site_loading.proofs.policies.put_each.Given as goal

-- the result of the remaining puts is that of all
abbrev pub invariant-loop-place : goal.invariant-loop-place
invariant-loop-place l = record {
  same : IsSameSite l.fn.site l.site;
  along : Along (schema_of l.fn.site) l.fn.site.name (store_in l.fn.site) (policy_puts (words l.policies) (nows l.texts)) (store_in l.site) l.place
      (policy_puts (words (drop l.place l.policies)) (nows (drop l.place l.texts)));
}
