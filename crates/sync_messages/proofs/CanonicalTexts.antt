-- The canonical text of an entity is read as that entity.
use Rattle.std.specs.Prelude.{◌≡◌, ℕ, List, true, Some, Result, Ok}
use Rattle.std.specs.Str.{bytes_eq}
use Rattle.std.proofs.Common.{sym, ap, subst, refl}
use Rattle.std.proofs.lemmas.Slice.Eq.{bytes_eq-Decides}
use Rattle.serde_json.specs.Data.{Data}
use Rattle.json_words.specs.ReadsAs.{◌>>=◌, or_fault, demand}
use Rattle.json_words.specs.Json.{json_of}
use Rattle.validator.specs.ancestor_search.Decided.{is_same}
use Rattle.validator.specs.ancestor_search.Deciding.{same_self}
use Rattle.validator.specs.schema.Schemas.{StatedSchema}
use Rattle.validator.specs.entity_data.declared.entity.Entity.{Entity}
use Rattle.validator.specs.entities.Entities.{entity_stated_in}
use Rattle.validator.specs.entities.Canonical.{canonical_text}
use Rattle.validator.specs.entities.CanonicalLaws.{CanonicalTextsReadBack}
use Rattle.sync_format.specs.declared.bodies.BodyFault.TheVariants.{Refused, OtherName}
use Rattle.sync_messages.specs.Texts.{refused_by, entity_of_text, ReadsEntity}
use Rattle.sync_messages.specs.Laws.{CanonicalTextsAreRead}

-- a step that gives a value continues with it
goes_on : {A B F : Type 0} (r : Result A F) (x : A) (f : A → Result B F) (y : Result B F) → r ≡ Ok x → f x ≡ y
    → (r >>= f) ≡ y
goes_on r x f y e h = subst (λ q. (q >>= f) ≡ y) (sym e) h

read_in : (s : StatedSchema) (e : Entity) (text : List ℕ) (json : Data) → json_of text ≡ Some json
    → entity_stated_in s json ≡ Ok e → bytes_eq (canonical_text e) text ≡ true → is_same e.uid e.uid ≡ true
    → ReadsEntity s e.uid text e
unfolding entity_of_text
read_in s e text json is_json is_read is_canonical is_named =
    goes_on _ json _ _ (ap (λ o. or_fault (Refused 30) o) is_json)
    (goes_on _ e _ _ (ap (λ r. refused_by r) is_read)
    (goes_on _ tt _ _ (ap (λ b. demand (Refused 57) b) is_canonical)
    (goes_on _ tt _ _ (ap (λ b. demand OtherName b) is_named) refl)))

pub canonical_is_read : CanonicalTextsReadBack → CanonicalTextsAreRead
canonical_is_read back s bytes e well read =
    let again = back s bytes e well read in
    read_in s e (canonical_text e) again.json again.stands again.states
    ((bytes_eq-Decides (canonical_text e) (canonical_text e)).1 refl) (same_self e.uid)
