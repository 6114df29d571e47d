-- Defines the theorems that a rejected value has exactly one path to the part at fault, that an accepted one has no
-- path, and that the words that name the part at fault of an entity or a request are determined.
use Rattle.std.specs.Prelude.{◌≡◌, ℕ, List, Option, Result, Ok, Err}
use Rattle.serde_json.specs.Data.{Data}
use Rattle.schema_types.specs.Cedar.{Cedar}
use Rattle.schema_decisions.specs.schema.Schemas.{StatedSchema}
use Rattle.entities.specs.Entities.{entity_stated_in}
use Rattle.entities.specs.Requests.{RequestRefused}
use Rattle.entities.specs.declared.fault.EntityFault.{EntityFault}
use Rattle.entities.specs.Typing.{typed_value, record_in}
use Rattle.explanations.specs.Steps.{Step}
use Rattle.explanations.specs.ValuePaths.{FaultAt, RecordFaultAt}
use Rattle.explanations.specs.EntityPaths.{IsPathOf}
use Rattle.explanations.specs.RequestPaths.{IsRequestPathOf}
use Rattle.explanations.specs.PartWords.{NamesPartOfEntity, NamesPartOfRequest}

-- `HasPath r LeadsTo` holds if `r` is an error, and `LeadsTo` holds of exactly one path; or `r` is a value, and
-- `LeadsTo` holds of no path.
abbrev pub HasPath : {A F : Type 0} → Result A F → (List Step → Type 0) → Type 0
HasPath (Ok x) LeadsTo = (path : List Step) → LeadsTo path → ⊥
HasPath (Err f) LeadsTo =
    (path : List Step) × LeadsTo path × ((other : List Step) → LeadsTo other → other ≡ path)

-- `ValuesHavePaths`: JSON that a type rejects has exactly one path to the part at fault; JSON that it accepts has no
-- path.
abbrev pub ValuesHavePaths : Type 0
ValuesHavePaths = (t : Cedar) (d : Data) → HasPath (typed_value t d) (FaultAt t d)

-- `RecordsHavePaths`: JSON that a type rejects as attributes or as a context has exactly one path to the part at fault;
-- JSON that it accepts has no path.
abbrev pub RecordsHavePaths : Type 0
RecordsHavePaths = (t : Cedar) (d : Data) → HasPath (record_in t d) (RecordFaultAt t d)

-- `HasPathOf r LeadsTo` holds if `r` is a value, or an error with which `LeadsTo` holds of exactly one path.
abbrev pub HasPathOf : {A F : Type 0} → Result A F → (F → List Step → Type 0) → Type 0
HasPathOf (Ok x) LeadsTo = Unit {0}
HasPathOf (Err f) LeadsTo =
    (path : List Step) × LeadsTo f path × ((other : List Step) → LeadsTo f other → other ≡ path)

-- `EntitiesHavePaths`: JSON that is rejected as an entity has exactly one path to the part that its error is about.
abbrev pub EntitiesHavePaths : Type 0
EntitiesHavePaths = (s : StatedSchema) (d : Data) → HasPathOf (entity_stated_in s d) (IsPathOf s d)

-- `RequestsHavePaths`: JSON that is rejected as a request has exactly one path to the part that its error is about.
abbrev pub RequestsHavePaths : Type 0
RequestsHavePaths = (s : StatedSchema) (d : Data) (f : EntityFault) → RequestRefused s d f
    → (path : List Step) × IsRequestPathOf s d f path
    × ((other : List Step) → IsRequestPathOf s d f other → other ≡ path)

-- `EntityPartsHaveOneText`: at most one text names the part at fault of a value as an entity.
abbrev pub EntityPartsHaveOneText : Type 0
EntityPartsHaveOneText = (s : StatedSchema) (o : Option Data) (words others : List ℕ) → NamesPartOfEntity s o words
    → NamesPartOfEntity s o others → words ≡ others

-- `RequestPartsHaveOneText`: at most one text names the part at fault of a value as a request.
abbrev pub RequestPartsHaveOneText : Type 0
RequestPartsHaveOneText = (s : StatedSchema) (o : Option Data) (words others : List ℕ) → NamesPartOfRequest s o words
    → NamesPartOfRequest s o others → words ≡ others
