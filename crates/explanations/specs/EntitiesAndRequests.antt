-- Defines the explanation of rejected entities and of a rejected request.
-- Rules of this product: entities, and a request, are checked as `decide` checks them, whatever else is given. The
-- first error is explained, with its index in the array and, under a schema, the JSON pointer of the part at fault.
use Rattle.std.specs.Prelude.{◌≡◌, ◌⊎◌, ℕ, List, [], ◌++◌, Option, None, Some, Ok, Err, codes}
use Rattle.schema_decisions.specs.schema.Schemas.{StatedSchema}
use Rattle.entities.specs.entity_data.declared.entity.Entity.{Entity}
use Rattle.schema_decisions.specs.answer_lines.Refusals.{number_in}
use Rattle.schema_decisions.specs.answer_lines.declared.refusal.Refusal.{Refusal}
use Rattle.schema_decisions.specs.decision_texts.BareReading.{bare_reading}
use Rattle.schema_decisions.specs.decision_texts.Decisions as bare
use Rattle.schema_decisions.specs.decision_texts.EntityArrays.{entities_of}
use Rattle.schema_decisions.specs.Decisions as typed
use Rattle.schema_decisions.specs.UnderSchema.{reading_under}
use Rattle.explanations.specs.PartWords.{NamesPartOfItem, NamesPartOfRequestText}
use Rattle.explanations.specs.Files.{File}
use Rattle.explanations.specs.TextParts.{IsNothing, IsWholeAt}

-- `any_request` is a request that parses without a schema.
abbrev pub any_request : List ℕ
any_request = codes "{\"principal\":{\"type\":\"A\",\"id\":\"\"},\"action\":{\"type\":\"A\",\"id\":\"\"},"
    ++ codes "\"resource\":{\"type\":\"A\",\"id\":\"\"}}"

-- `AreBareTextsRead entities request` holds if the request can be decided over the entities without a schema and
-- without policies.
abbrev pub AreBareTextsRead : List ℕ → List ℕ → Type 0
AreBareTextsRead entities request = (line : List ℕ) × bare.IsDecided bare_reading [] entities request line

-- `AreBareTextsRefused entities request r` holds if `request` cannot be decided in this way over `entities`, and the
-- error is `r`.
abbrev pub AreBareTextsRefused : List ℕ → List ℕ → Refusal → Type 0
AreBareTextsRefused entities request r = bare.IsDecisionRefused bare_reading [] entities request r

-- `AreEntitiesRead s text` holds if `text` is an array of entities under the schema `s`; without a schema, if
-- `any_request` can be decided over `text`.
abbrev pub AreEntitiesRead : Option StatedSchema → List ℕ → Type 0
AreEntitiesRead None text = AreBareTextsRead text any_request
AreEntitiesRead (Some s) text = (es : List Entity) × (entities_of (reading_under s) text ≡ Ok es)

-- `AreEntitiesRefused s text r` holds if the entities of `text` are rejected with `r`, under the schema `s` if any.
abbrev pub AreEntitiesRefused : Option StatedSchema → List ℕ → Refusal → Type 0
AreEntitiesRefused None text r = AreBareTextsRefused text any_request r
AreEntitiesRefused (Some s) text r = entities_of (reading_under s) text ≡ Err r

-- `IsRequestRead schema text` holds if `text` is a request: it can be decided without entities and policies, under the
-- schema that the text `schema` describes if there is one.
abbrev pub IsRequestRead : Option (List ℕ) → List ℕ → Type 0
IsRequestRead None text = AreBareTextsRead (codes "[]") text
IsRequestRead (Some schema) text = (line : List ℕ) × typed.IsDecided schema [] (codes "[]") text line

-- `IsRequestRefused schema text r` holds if `text` is not a request, with the error `r`.
abbrev pub IsRequestRefused : Option (List ℕ) → List ℕ → Refusal → Type 0
IsRequestRefused None text r = AreBareTextsRefused (codes "[]") text r
IsRequestRefused (Some schema) text r = typed.IsSchemaDecisionRefused schema [] (codes "[]") text r

-- `IsEntityPartNamed s text index words` holds if `words` name the part at fault of the entity at this index of `text`,
-- under the schema `s`; without a schema `words` are empty.
abbrev pub IsEntityPartNamed : Option StatedSchema → List ℕ → Option ℕ → List ℕ → Type 0
IsEntityPartNamed None text index words = IsNothing words
IsEntityPartNamed (Some s) text index words = NamesPartOfItem s text index words

-- `IsRequestPartNamed s text words` holds likewise if `words` name the part at fault of the request `text`.
abbrev pub IsRequestPartNamed : Option StatedSchema → List ℕ → List ℕ → Type 0
IsRequestPartNamed None text words = IsNothing words
IsRequestPartNamed (Some s) text words = NamesPartOfRequestText s text words

-- `IsCheckOutcome name Read Refused IsDetail bytes` holds if the file `name` is accepted (`Read`) and `bytes` are
-- empty, or it has an error for which `Refused` holds, and `bytes` explain the error with words for which `IsDetail`
-- holds.
abbrev pub IsCheckOutcome : List ℕ → Type 0 → (Refusal → Type 0) → (Option ℕ → List ℕ → Type 0) → List ℕ → Type 0
IsCheckOutcome name Read Refused IsDetail bytes =
    (Read × (bytes ≡ [])) ⊎ ((r : Refusal) × Refused r
    × IsWholeAt name r.code (number_in r.place) (IsDetail (number_in r.place)) bytes)

-- `AreEntitiesExplained s file bytes` holds if `bytes` explain why the entities of `file` are rejected; `bytes` are
-- empty if the entities are accepted, or without a file.
abbrev pub AreEntitiesExplained : Option StatedSchema → Option File → List ℕ → Type 0
AreEntitiesExplained s None bytes = bytes ≡ []
AreEntitiesExplained s (Some file) bytes =
    IsCheckOutcome file.name (AreEntitiesRead s file.text) (AreEntitiesRefused s file.text)
    (IsEntityPartNamed s file.text) bytes

-- `IsRequestExplained s schema file bytes` is the same relation for the request of `file`, where `s` is the schema of
-- the text `schema`.
abbrev pub IsRequestExplained : Option StatedSchema → Option (List ℕ) → Option File → List ℕ → Type 0
IsRequestExplained s schema None bytes = bytes ≡ []
IsRequestExplained s schema (Some file) bytes =
    IsCheckOutcome file.name (IsRequestRead schema file.text) (IsRequestRefused schema file.text)
    (λ place. IsRequestPartNamed s file.text) bytes
