use Rattle.std.proofs.Common.{◌≡◌, IfOk, Some, subst}
use Rattle.serde_json.specs.View.{view}
use Rattle.site_store.specs.schema.SchemaEntries.{SchemaEntries}
use Rattle.site_store.specs.schema.Views.{schema_view}
use Rattle.values.specs.declared.entity_uid.EntityUid.{EntityUid}
use Rattle.site_store.specs.stamped_store.Store.{entity_name, issued, KeepsOtherNames}
use Rattle.std.specs.FinMap.{get}
use Rattle.site.specs.SiteViews.{SiteView, schema_of, store_in}
use Rattle.site.specs.Admitted.{IsStatedBy}
use Rattle.site.proofs.Recording.{puts_entity, put_or_not, entity_stands}
use Rattle.site.proofs.site.Site.put_entity.Goals as goal

pub returns-in-Ok-clause-puts : goal.returns-in-Ok-clause-puts
returns-in-Ok-clause-puts c =
    let s = c.args.self.now in
    let b = c.in-Ok.stated.1 in
    let json = Some (view c.args.json.now) in
    let is : IsStatedBy (schema_of s) json b = subst (λ (v : SiteView). IsStatedBy (schema_of v) json b) c.self.view_is
    (subst (λ (x : SchemaEntries). IsStatedBy (schema_view x) json b) c.schema.ensures c.in-Ok.ensures.stated) in
    puts_entity (schema_of s) s.name (store_in s) json b c.makes_cycle-cycle.result c.in-Ok.stated.0 c.put_unless.result
    (store_in c.put_unless.new.self) is c.in-Ok.ensures.named c.makes_cycle-cycle.ensures.yes c.makes_cycle-cycle.ensures.no
    c.put_unless.ensures.puts

pub returns-in-Ok-clause-stands : goal.returns-in-Ok-clause-stands
returns-in-Ok-clause-stands c =
    let s = c.args.self.now in
    let b = c.in-Ok.stated.1 in
    let t = store_in c.put_unless.new.self in
    let json = Some (view c.args.json.now) in
    let is : IsStatedBy (schema_of s) json b = subst (λ (v : SiteView). IsStatedBy (schema_of v) json b) c.self.view_is
    (subst (λ (x : SchemaEntries). IsStatedBy (schema_view x) json b) c.schema.ensures c.in-Ok.ensures.stated) in
    entity_stands (schema_of s) (store_in s) t json b c.put_unless.result is
    (subst (λ (u : EntityUid). IfOk c.put_unless.result (λ stamp. get t (entity_name u) ≡ Some (issued stamp (Some b.text)))) c.in-Ok.ensures.named
    (put_or_not c.stamps_are_issued.ensures.stays s.name (store_in s) c.makes_cycle-cycle.result c.in-Ok.stated.0 b.text c.put_unless.result t c.put_unless.ensures.puts))
    (subst (λ (u : EntityUid). KeepsOtherNames (entity_name u) (store_in s) t) c.in-Ok.ensures.named c.put_unless.ensures.others)
