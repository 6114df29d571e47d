-- What a reading function gives is what is stated, and its error the cause.
use Rattle.std.proofs.Common.{◌≡◌, Result, Ok, Err, MatchResult}
use Rattle.std.specs.Prelude.{IfOk, IfErr}
use Rattle.json_words.specs.ReadsAs.{ReadsAs}
use Rattle.values.specs.declared.request.Request.{Request}
use Rattle.serde_json.specs.Data.{Data}
use Rattle.schema.specs.Schemas.{StatedSchema}
use Rattle.schema.specs.Agreement.{Gives}
use Rattle.entities.specs.declared.fault.EntityFault.{EntityFault}
use Rattle.entities.specs.declared.fault.EntityFault.TheVariants.{NoMemory}
use Rattle.entities.specs.Requests.{ParsesRequest, RequestRefused}
use Rattle.entities.specs.StatedRequests.{DescribesRequest, RefusesRequest}
use Rattle.entities.specs.ParsingLaws.{RequestsAreRead}

pub as_stated : {A : Type 0} (r : Result A EntityFault) (read : Result A EntityFault) (Describes : A → Type 0)
    (Refuses : EntityFault → Type 0) → Gives read Describes Refuses → ReadsAs NoMemory (λ a. a) r read
    → MatchResult r Describes (λ f. (f ≡ NoMemory → ⊥) → Refuses f)
as_stated (Ok a) read Describes Refuses gives h = (gives.value a).0 h
as_stated (Err f) read Describes Refuses gives h = λ apart. (gives.fault f).0 (h apart)

pub request_as_stated : RequestsAreRead → (s : StatedSchema) (d : Data) (r : Result Request EntityFault)
    → IfOk r (ParsesRequest s d) → IfErr r (λ f. (f ≡ NoMemory → ⊥) → RequestRefused s d f)
    → MatchResult r (DescribesRequest s d) (λ f. (f ≡ NoMemory → ⊥) → RefusesRequest s d f)
request_as_stated law s d (Ok q) h k = ((law s d).states q).0 h
request_as_stated law s d (Err f) h k = λ apart. ((law s d).refuses f).0 (k apart)
