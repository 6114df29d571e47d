use Rattle.std.proofs.Common.{◌≡◌, ap, ◌∙◌}
use Rattle.site_store.specs.schema.Views.{schema_view}
use Rattle.entities.specs.Canonical.{canonical_json}
use Rattle.json_words.specs.Json.{json_of}
use Rattle.site.proofs.JudgingLemmas.{json_utf8, reads_again}
use Rattle.site.proofs.checking.text_of.Goals as goal

pub unreachable-requires : goal.unreachable-requires
unreachable-requires c =
    let e = c.args.entity.now in
    let s = schema_view c.args.schema.now in
    let stated = c.is_stated.ensures in
    let sound = c.stated_schemas_are_well_formed.ensures stated.0 s stated.1 in
    let nests = c.entities_read_back.ensures.nests s c.requires.0 e sound c.requires.1 in
    let json = c.in_ok-bytes.ensures.reads_back nests in
    let ok = c.in-Err.ensures.succeeds (json_utf8 c.in_ok-bytes.bytes.items (canonical_json e) json) in
    cc

pub returns-clause-reads : goal.returns-clause-reads
returns-clause-reads c =
    let e = c.args.entity.now in
    let s = schema_view c.args.schema.now in
    let stated = c.is_stated.ensures in
    let sound = c.stated_schemas_are_well_formed.ensures stated.0 s stated.1 in
    let nests = c.entities_read_back.ensures.nests s c.requires.0 e sound c.requires.1 in
    let json = c.in_ok-bytes.ensures.reads_back nests in
    let same : c.from_string.result ≡ c.in_ok-bytes.bytes.items = c.from_string.ensures ∙ ap (λ v. v.items) c.in-Ok.ensures.ok in
    reads_again s e c.from_string.result (same ∙ c.in_ok-bytes.ensures.text) (ap json_of same ∙ json)
    (c.entities_read_back.ensures.read s c.requires.0 e c.requires.1)
