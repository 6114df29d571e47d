use Rattle.std.proofs.Common.{◌≡◌, List, ℕ, Some, Result, IfOk, subst, sym}
use Rattle.std.specs.FinMap.{get}
use Rattle.site_store.specs.schema.SchemaEntries.{SchemaEntries}
use Rattle.site_store.specs.schema.Views.{schema_view}
use Rattle.site_store.specs.stamped_store.Store.{policy_name, issued}
use Rattle.site.specs.declared.fault.SiteFault.{SiteFault}
use Rattle.site.specs.declared.outcome.Put.{Put}
use Rattle.site.specs.SiteViews.{SiteView, schema_of, store_in}
use Rattle.site.specs.Steps.{PutsPolicy}
use Rattle.site.specs.inner.Recording.{RecordsOr, IsCheckedPolicy}
use Rattle.site.proofs.Recording.{puts_policy, put_stands, stands}
use Rattle.site.proofs.site.Site.put_policy.Goals as goal

pub returns-in-Ok-clause-puts : goal.returns-in-Ok-clause-puts
returns-in-Ok-clause-puts c =
    let s = c.args.self.now in
    let j = c.in-Ok.judged in
    let t = store_in c.record_policy-stamped.new.self in
    let r = c.record_policy-stamped.result in
    let is : IsCheckedPolicy (schema_of s) c.args.id.now c.args.text.now j.body j.impossible =
    subst (λ (v : SiteView). IsCheckedPolicy (schema_of v) c.args.id.now c.args.text.now j.body j.impossible) c.self.view_is
    (subst (λ (x : SchemaEntries). IsCheckedPolicy (schema_view x) c.args.id.now c.args.text.now j.body j.impossible) c.schema.ensures c.in-Ok.ensures.judged) in
    let records : RecordsOr s.name (store_in s) (policy_name c.args.id.now) (Some j.body.text) r t =
    subst (λ (id : List ℕ). RecordsOr s.name (store_in s) (policy_name id) (Some j.body.text) r t) c.in-Ok.ensures.named c.record_policy-stamped.ensures.records in
    subst (λ (q : Result Put SiteFault). PutsPolicy (schema_of s) s.name (store_in s) c.args.id.now c.args.text.now q t) (sym c.put_from_stamp.ensures)
    (puts_policy (schema_of s) s.name (store_in s) c.args.id.now c.args.text.now j.body j.impossible r t is records)

pub returns-in-Ok-clause-stands : goal.returns-in-Ok-clause-stands
returns-in-Ok-clause-stands c =
    let s = c.args.self.now in
    let j = c.in-Ok.judged in
    let t = store_in c.record_policy-stamped.new.self in
    let r = c.record_policy-stamped.result in
    let records : RecordsOr s.name (store_in s) (policy_name c.args.id.now) (Some j.body.text) r t =
    subst (λ (id : List ℕ). RecordsOr s.name (store_in s) (policy_name id) (Some j.body.text) r t) c.in-Ok.ensures.named c.record_policy-stamped.ensures.records in
    subst (λ (q : Result Put SiteFault). IfOk q (λ put. get t (policy_name c.args.id.now) ≡ Some (issued put.stamp (Some c.args.text.now)))) (sym c.put_from_stamp.ensures)
    (put_stands t (policy_name c.args.id.now) j.body.text c.args.text.now j.impossible r c.in-Ok.ensures.judged.same
    (stands c.stamps_are_issued.ensures.stays s.name (store_in s) (policy_name c.args.id.now) (Some j.body.text) r t records))
