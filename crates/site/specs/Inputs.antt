-- Defines the inputs of a site, before any check.
use Rattle.std.specs.Prelude.{ℕ, List}
use Rattle.site.specs.declared.input.Input as code
use Rattle.site.specs.declared.input.Input.TheVariants as borrowed

-- An `Input` is a command, a message or a query for a site; each part is a list of bytes, as it came in.
pub data Input : Type 0 where
  -- puts a policy: its id, and its text
  PutPolicy : List ℕ → List ℕ → Input
  -- deletes the policy of this id
  DeletePolicy : List ℕ → Input
  -- puts an entity: its JSON
  PutEntity : List ℕ → Input
  -- deletes the entity whose uid has this JSON
  DeleteEntity : List ℕ → Input
  -- applies the updates of a message: a state or a delta of another site
  Take : List ℕ → Input
  -- decides a request: its JSON
  Authorize : List ℕ → Input
  -- asks for the text and the stamp of the policy of this id
  GetPolicy : List ℕ → Input
  -- asks for the state
  State : Input
  -- asks for the summary
  Summary : Input
  -- asks for a delta against another site's summary
  Delta : List ℕ → Input

-- `input_of i` is the input `i` of the code, without its borrows.
abbrev pub input_of : code.Input → Input
input_of (borrowed.PutPolicy id text) = PutPolicy id.now text.now
input_of (borrowed.DeletePolicy id) = DeletePolicy id.now
input_of (borrowed.PutEntity bytes) = PutEntity bytes.now
input_of (borrowed.DeleteEntity uid) = DeleteEntity uid.now
input_of (borrowed.Take bytes) = Take bytes.now
input_of (borrowed.Authorize bytes) = Authorize bytes.now
input_of (borrowed.GetPolicy id) = GetPolicy id.now
input_of borrowed.State = State
input_of borrowed.Summary = Summary
input_of (borrowed.Delta bytes) = Delta bytes.now
