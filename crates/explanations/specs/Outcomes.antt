-- Defines the result of the search for the part at fault.
-- Rules of this product: the result is the error that parsing gives, with the path to the part at fault, or `None` if
-- parsing gives a value.
use Rattle.std.specs.Prelude.{◌≡◌, Option, MatchOption, Ok, Err}
use Rattle.serde_json.specs.Data.{Data}
use Rattle.values.specs.declared.request.Request.{Request}
use Rattle.entities.specs.entity_data.declared.entity.Entity.{Entity}
use Rattle.schema_decisions.specs.schema.Schemas.{StatedSchema}
use Rattle.entities.specs.Entities.{entity_stated_in}
use Rattle.entities.specs.Requests.{ParsesRequest, RequestRefused}
use Rattle.explanations.specs.declared.part_faults.PartFault.{PartFault}
use Rattle.explanations.specs.Steps.{path_in}
use Rattle.explanations.specs.EntityPaths.{IsPathOf}
use Rattle.explanations.specs.RequestPaths.{IsRequestPathOf}

-- `IsEntityFault s d o` holds if `o` is the error of `d` as an entity under the schema `s`, with the path to the part
-- at fault; or if `o` is `None`, and `d` describes an entity.
abbrev pub IsEntityFault : StatedSchema → Data → Option PartFault → Type 0
IsEntityFault s d o = MatchOption o ((e : Entity) × (entity_stated_in s d ≡ Ok e))
    (λ x. (entity_stated_in s d ≡ Err x.fault) × IsPathOf s d x.fault (path_in x))

-- `IsRequestFault s d o` holds if `o` is the error of `d` as a request under the schema `s`, with the path to the part
-- at fault; or if `o` is `None`, and `d` describes a request.
abbrev pub IsRequestFault : StatedSchema → Data → Option PartFault → Type 0
IsRequestFault s d o = MatchOption o ((q : Request) × ParsesRequest s d q)
    (λ x. RequestRefused s d x.fault × IsRequestPathOf s d x.fault (path_in x))
