use Rattle.std.proofs.Common.{sym, ◌∙◌, refl}
use Rattle.json_words.specs.Json.{json_of}
use Rattle.site.specs.Readings.{parsed}
use Rattle.site.specs.SiteViews.{schema_of, store_in}
use Rattle.site.proofs.ByBytes.{entity_deletes}
use Rattle.site.proofs.answering.delete_entity.Goals as goal

pub returns-in_default-clause-deletes : goal.returns-in_default-clause-deletes
returns-in_default-clause-deletes c = (refl, sym c.in_ok-uid.ensures ∙ c.in_default.is, refl)

pub returns-clause-deletes : goal.returns-clause-deletes
returns-clause-deletes c =
    let s = c.args.site.now in
    entity_deletes (parsed (schema_of s)) s.name (store_in s) (json_of c.args.bytes.now) c.in-Some.uid
    c.delete_entity.result (store_in c.delete_entity.new.self) (sym c.in_ok-uid.ensures ∙ c.in-Some.is)
    c.delete_entity.ensures.deletes
