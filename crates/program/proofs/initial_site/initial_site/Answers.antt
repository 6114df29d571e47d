use Rattle.std.proofs.Common.{ap, inl, option_map, ◌∙◌, sym, subst}
use Rattle.site_loading.specs.schema.Schemas.{IsSchemaOf}
use Rattle.site_loading.specs.schema.SchemaEntries.{SchemaEntries}
use Rattle.site_loading.specs.schema.Views.{schema_view}
use Rattle.program.proofs.ServeLemmas.{begun_over, begun_empty, not_begun_over}
use Rattle.program.proofs.initial_site.initial_site.Goals as goal

pub returns-in-Err-clause-refused : goal.returns-in-Err-clause-refused
returns-in-Err-clause-refused c = λ other. inl (c.in-Err.ensures.refused other)

pub returns-in-Some-clause-begun : goal.returns-in-Some-clause-begun
returns-in-Some-clause-begun c =
    let same = sym (c.new-site.ensures.schema ∙ c.in_ok-schema.ensures) in
    begun_over c.args.schema.now c.args.name (option_map (λ s. s.now) c.args.state) c.in-Some.bytes.now c.new-site.result c.with_state.result
    (ap (option_map (λ s. s.now)) c.in-Some.is) (subst (λ (k : SchemaEntries). IsSchemaOf c.args.schema.now (schema_view k)) same c.in-Ok.ensures.read)
    (c.new-site.ensures.name ∙ c.as_str.ensures.text) c.new-site.ensures.empty c.with_state.ensures.taken

pub returns-in-Some-clause-refused : goal.returns-in-Some-clause-refused
returns-in-Some-clause-refused c =
    let same = sym (c.new-site.ensures.schema ∙ c.in_ok-schema.ensures) in
    not_begun_over c.args.schema.now (option_map (λ s. s.now) c.args.state) c.in-Some.bytes.now c.new-site.result c.with_state.result
    (ap (option_map (λ s. s.now)) c.in-Some.is) (subst (λ (k : SchemaEntries). IsSchemaOf c.args.schema.now (schema_view k)) same c.in-Ok.ensures.read)
    c.with_state.ensures.refused

pub returns-in-None-clause-begun : goal.returns-in-None-clause-begun
returns-in-None-clause-begun c =
    let same = sym (c.new-site.ensures.schema ∙ c.in_ok-schema.ensures) in
    begun_empty c.args.schema.now c.args.name (option_map (λ s. s.now) c.args.state) c.new-site.result c.rebuild.new.self
    (ap (option_map (λ s. s.now)) c.in-None.is) c.rebuild.ensures
    (subst (λ (k : SchemaEntries). IsSchemaOf c.args.schema.now (schema_view k)) same c.in-Ok.ensures.read)
    (c.new-site.ensures.name ∙ c.as_str.ensures.text) c.new-site.ensures.empty
