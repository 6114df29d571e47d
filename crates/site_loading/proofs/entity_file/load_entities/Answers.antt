use Rattle.std.proofs.Common.{◌≡◌, ◌∙◌, Ok, sym, subst}
use Rattle.json_words.proofs.Readings.{array_begun, none_begun}
use Rattle.schema_decisions.specs.schema.SchemaEntries.{SchemaEntries}
use Rattle.schema_decisions.specs.schema.Views.{schema_view}
use Rattle.schema_decisions.specs.decision_texts.EntityArrays.{entities_of}
use Rattle.schema_decisions.specs.UnderSchema.{reading_under}
use Rattle.site.specs.SiteViews.{schema_of, store_in}
use Rattle.site_loading.proofs.LoadLemmas.{some_members, members_are, items_are, entities_loaded, entities_refused}
use Rattle.site_loading.proofs.entity_file.load_entities.Goals as goal

pub unreachable-requires : goal.unreachable-requires
unreachable-requires c =
    let es = c.in_ok-check_entities.ensures.read in
    some_members (schema_view c.schema-schema.result.now) c.args.bytes.now es.0 es.1 (none_begun c.args.bytes.now _ c.in_default.is c.in_ok-members.ensures.begun)

pub put_each-requires-clause-json : goal.put_each-requires-clause-json
put_each-requires-clause-json c =
    let es = c.in_ok-check_entities.ensures.read in
    let ds = members_are (schema_view c.schema-schema.result.now) c.args.bytes.now es.0 es.1 in
    (ds.0, sym (array_begun c.args.bytes.now _ c.in-Some.members c.in-Some.is c.in_ok-members.ensures.begun) ∙ ds.1)

pub returns-clause-loaded : goal.returns-clause-loaded
returns-clause-loaded c =
    let es = c.in_ok-check_entities.ensures.read in
    let read = subst (λ (s : SchemaEntries). entities_of (reading_under (schema_view s)) c.args.bytes.now ≡ Ok es.0) c.schema-schema.ensures es.1 in
    let ds = members_are (schema_view c.schema-schema.result.now) c.args.bytes.now es.0 es.1 in
    entities_loaded (schema_of c.args.site.now) c.args.site.now.name (store_in c.args.site.now) (store_in c.put_each.new.site) c.args.bytes.now es.0 ds.0 c.put_each.result read
    (items_are c.args.bytes.now ∙ ds.1) (c.put_each.ensures.accepted ds.0 (sym (array_begun c.args.bytes.now _ c.in-Some.members c.in-Some.is c.in_ok-members.ensures.begun) ∙ ds.1))

pub returns-clause-refused : goal.returns-clause-refused
returns-clause-refused c =
    let es = c.in_ok-check_entities.ensures.read in
    let read = subst (λ (s : SchemaEntries). entities_of (reading_under (schema_view s)) c.args.bytes.now ≡ Ok es.0) c.schema-schema.ensures es.1 in
    let ds = members_are (schema_view c.schema-schema.result.now) c.args.bytes.now es.0 es.1 in
    entities_refused (schema_of c.args.site.now) c.args.site.now.name (store_in c.args.site.now) c.args.bytes.now es.0 ds.0 c.put_each.result read
    (items_are c.args.bytes.now ∙ ds.1) (c.put_each.ensures.refused ds.0 (sym (array_begun c.args.bytes.now _ c.in-Some.members c.in-Some.is c.in_ok-members.ensures.begun) ∙ ds.1))
