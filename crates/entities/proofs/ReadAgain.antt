-- The canonical text of an entity that was read from bytes is read as that entity.
use Rattle.std.proofs.Common.{◌∙◌, ◌≤◌, ℕ, List}
use Rattle.serde_json.specs.Data.{depth}
use Rattle.serde_json.specs.Read.{max_depth}
use Rattle.serde_json.specs.Written.{compact_text}
use Rattle.json_words.specs.Ascending.{JsonAscends}
use Rattle.json_words.specs.Plain.{IsPlain, CompactReadsBack, CompactIsOne}
use Rattle.json_words.proofs.JsonLemmas.{json_of-text}
use Rattle.schema.specs.Schemas.{StatedSchema}
use Rattle.schema.specs.WellFormed.{IsWellFormed}
use Rattle.entity_data.specs.declared.entity.Entity.{Entity}
use Rattle.entities.specs.Canonical.{canonical_json, canonical_text}
use Rattle.entities.specs.Laws.{CanonicalEntityIsRead, CanonicalEntityNests, CanonicalIsOne}
use Rattle.entities.specs.CanonicalLaws.{JsonTextsAreUtf8, IsReadFrom, CanonicalTextsAreJson, CanonicalTextsReadBack}
use Rattle.entities.specs.CanonicalLaws.{CanonicalTextsAreOne}
use Rattle.json_words.proofs.CompactUtf8.{compact_utf8}
use Rattle.entities.proofs.PlainEntities.{canonical_plain}

-- the laws of the crates below, and that texts are UTF-8
pub record Below : Type 0 where
  pub utf8 : JsonTextsAreUtf8
  pub ascend : JsonAscends
  pub back : CompactReadsBack
  pub one_text : CompactIsOne
  pub read : CanonicalEntityIsRead
  pub nests : CanonicalEntityNests
  pub one_json : CanonicalIsOne

plain : Below → (s : StatedSchema) (bytes : List ℕ) (e : Entity) → IsReadFrom s bytes e → IsPlain (canonical_json e)
plain below s bytes e r = canonical_plain s r.json e
    (record { utf8 = below.utf8 bytes r.json r.stands; ascend = below.ascend bytes r.json r.stands }) r.states

shallow : Below → (s : StatedSchema) (bytes : List ℕ) (e : Entity) → IsWellFormed s → IsReadFrom s bytes e
    → depth (canonical_json e) ≤ max_depth
shallow below s bytes e small r = below.nests s r.json e small r.states

pub texts_are_json : Below → CanonicalTextsAreJson
unfolding canonical_text
texts_are_json below s bytes e small r =
    let is = plain below s bytes e r in
    json_of-text (compact_text (canonical_json e)) (compact_utf8 (canonical_json e) is)
    ∙ below.back (canonical_json e) is (shallow below s bytes e small r)

pub texts_read_back : Below → CanonicalTextsReadBack
texts_read_back below s bytes e small r = record {
  json = canonical_json e;
  stands = texts_are_json below s bytes e small r;
  states = below.read s r.json e r.states;
}

pub texts_are_one : Below → CanonicalTextsAreOne
unfolding canonical_text
texts_are_one below s bytes other e f small r q same =
    let json = below.one_text (canonical_json e) (canonical_json f) (plain below s bytes e r) (plain below s other f q)
    (shallow below s bytes e small r) (shallow below s other f small q) same in
    below.one_json s r.json q.json e f r.states q.states json
