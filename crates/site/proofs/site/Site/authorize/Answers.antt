use Rattle.std.proofs.Common.{Some, subst}
use Rattle.serde_json.specs.View.{view}
use Rattle.values.specs.declared.request.Request.{Request}
use Rattle.site_store.specs.schema.SchemaEntries.{SchemaEntries}
use Rattle.site_store.specs.schema.Views.{IsStated, schema_view}
use Rattle.site_meaning.specs.StoreMeaning.{IsAnswerOver}
use Rattle.site.specs.Admitted.{IsPolicyUnder, IsEntityUnder, IsRequestOf}
use Rattle.site.specs.SiteViews.{SiteView, schema_of, store_in}
use Rattle.site.proofs.UnderSchema.{texts_of}
use Rattle.site.proofs.site.Site.authorize.Goals as goal

pub returns-clause-answers : goal.returns-clause-answers
returns-clause-answers c =
    let json = Some (view c.args.json.now) in
    let q = c.in_ok-request.request in
    let a = c.in_ok-answered.field-0 in
    let k = c.self.inside.store.kept in
    subst (λ (v : SiteView). (q : Request) × IsRequestOf (schema_of v) json q × IsAnswerOver (IsPolicyUnder (schema_of v)) (IsEntityUnder (schema_of v)) (schema_of v) (store_in v) q a) c.self.view_is (
      q,
      subst (λ (x : SchemaEntries). IsRequestOf (schema_view x) json q) c.schema-schema.ensures c.in_ok-request.ensures.stated,
      c.in_ok-answered.ensures (texts_of c.self.inside.store.schema) c.self.invariant.held,
    )

pub returns-clause-right : goal.returns-clause-right
returns-clause-right c =
    let json = Some (view c.args.json.now) in
    let schema = schema_view c.self.inside.store.schema in
    let q = c.in_ok-request.request in
    let a = c.in_ok-answered.field-0 in
    let is = subst (λ (x : SchemaEntries). IsStated x) c.schema-schema.ensures c.is_stated.ensures in
    let asked = subst (λ (x : SchemaEntries). IsRequestOf (schema_view x) json q) c.schema-schema.ensures c.in_ok-request.ensures.stated in
    c.stored_answers_are_sound.ensures.answers is.0 schema is.1 _ (view c.args.json.now) q asked a
    (c.in_ok-answered.ensures (texts_of c.self.inside.store.schema) c.self.invariant.held)
