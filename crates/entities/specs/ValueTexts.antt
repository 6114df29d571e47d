-- Defines the value of a type that a JSON text describes.
use Rattle.std.specs.Prelude.{ℕ, List, Result}
use Rattle.json_words.specs.ReadsAs.{◌>>=◌, or_fault}
use Rattle.json_words.specs.Json.{json_of}
use Rattle.values.specs.Values.{PlainValue}
use Rattle.schema_types.specs.Cedar.{Cedar}
use Rattle.entities.specs.declared.fault.EntityFault.{EntityFault}
use Rattle.entities.specs.declared.fault.EntityFault.TheVariants.{WrongType}
use Rattle.entities.specs.Typing.{typed_value}

-- `text_typed t bytes` is the value of the type `t` that the JSON text `bytes` describes, or `WrongType`.
unfoldable pub text_typed : Cedar → List ℕ → Result PlainValue EntityFault
text_typed t bytes = do
  d ← or_fault WrongType (json_of bytes)
  typed_value t d
