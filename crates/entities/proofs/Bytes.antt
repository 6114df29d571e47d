-- The laws over bytes.
use Rattle.std.proofs.Common.{◌≡◌, ℕ, suc, List, Some, Ok, arith, ◌≤◌, ◌<◌, inr}
use Rattle.serde_json.specs.Data.{Data, depth}
use Rattle.json_words.specs.ReadsAs.{or_fault}
use Rattle.json_words.specs.Json.{json_of}
use Rattle.json_words.proofs.EachLemmas.{bind_ok}
use Rattle.values.specs.Values.{PlainValue}
use Rattle.schema_types.specs.Cedar.{Cedar, deep, IsTooLarge}
use Rattle.entities.specs.declared.fault.EntityFault.TheVariants.{WrongType}
use Rattle.entities.specs.Typing.{typed_value}
use Rattle.entities.specs.ValueTexts.{text_typed}
use Rattle.entities.specs.ValueLaws.{JsonIsReadAgain, WrittenIsReadAgain}
use Rattle.entities.specs.CanonicalValues.{value_json}
use Rattle.entities.proofs.Deep.{value_fits}
use Rattle.entities.proofs.Again.{value_again}
use Rattle.entities.proofs.ValueLeaves.{some_of}

pub read_of : (t : Cedar) (bytes : List ℕ) (v : PlainValue) → text_typed t bytes ≡ Ok v → (d : Data) × (json_of bytes ≡ Some d) × (typed_value t d ≡ Ok v)
unfolding text_typed
read_of t bytes v e =
    let a = bind_ok (or_fault WrongType (json_of bytes)) (λ d. typed_value t d) v e in
    (a.0, some_of (json_of bytes) a.0 a.1, a.2)

pub json_again : JsonIsReadAgain
unfolding text_typed
json_again t bytes text v e is =
    let r = read_of t bytes v e in
    rw is (value_again t r.0 v r.2)

small_type : (t : Cedar) → (IsTooLarge t → ⊥) → deep t ≤ 64
small_type t small = let over : 64 < deep t → ⊥ = (λ large. small (inr large)) in omega (arith, over)

pub written_again : WrittenIsReadAgain
written_again t bytes text v small e back =
    let r = read_of t bytes v e in
    let fits : depth (value_json v) ≤ suc (deep t) = value_fits t r.0 v r.2 in
    json_again t bytes text v e (back (omega (arith, fits, small_type t small)))
