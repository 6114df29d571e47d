-- Defines the words in which an explanation names the part at fault of an entity or a request.
-- Source: RFC 6901, for JSON pointers; docs/formats.md, for the names of types.
-- Rules of this product: the words are `at ` and the JSON pointer of the part, from the item of the array or from the
-- request; for an error of an attribute or of a context (33, 34, 35) also the type that is declared for the part, if
-- one is. A set type is `Set`, and a record type is `Record`. There are no words if the whole is at fault, or if no
-- part is, as for a uid that occurs twice.
use Rattle.std.specs.Prelude.{◌≡◌, ℕ, Bool, true, false, if◌then◌else◌, List, [], ◌∷◌, ◌++◌, codes}
use Rattle.std.specs.Prelude.{Option, Some, None, MatchOption, option_and_then}
use Rattle.serde_json.specs.Data.{Data}
use Rattle.serde_json.specs.Find.{at, get}
use Rattle.json_words.specs.Json.{json_of}
use Rattle.schema_types.specs.Cedar as type
use Rattle.schema_types.specs.Cedar.{Cedar}
use Rattle.schema_decisions.specs.schema.Schemas.{StatedSchema}
use Rattle.entities.specs.declared.fault.EntityFault.{EntityFault}
use Rattle.entities.specs.declared.fault.EntityFault.TheVariants.{Undeclared, Missing, WrongType}
use Rattle.explanations.specs.declared.part_faults.PartFault.{PartFault}
use Rattle.explanations.specs.Steps.{Step, path_in}
use Rattle.explanations.specs.EntityPaths.{shape_at}
use Rattle.explanations.specs.RequestPaths.{IsContextType}
use Rattle.explanations.specs.Outcomes.{IsEntityFault, IsRequestFault}
use Rattle.explanations.specs.Pointers.{pointer_of}
use Rattle.explanations.specs.TypePaths.{type_at}

-- ---- the declared type

-- `type_word t` is the word for the type `t`.
abbrev pub type_word : Cedar → List ℕ
type_word type.text = codes "String"
type_word type.long = codes "Long"
type_word type.boolean = codes "Boolean"
type_word type.decimal = codes "decimal"
type_word type.ipaddr = codes "ipaddr"
type_word (type.set t) = codes "Set"
type_word (type.record_of fs) = codes "Record"
type_word (type.entity name) = name

-- `declared_words o` are the words that say that the type in `o` is declared, such as `: Long is declared`; empty if
-- `o` is `None`.
abbrev pub declared_words : Option Cedar → List ℕ
declared_words None = []
declared_words (Some t) = codes ": " ++ type_word t ++ codes " is declared"

-- `is_of_value f` tests whether `f` is an error of an attribute or of a context.
abbrev pub is_of_value : EntityFault → Bool
is_of_value Undeclared = true
is_of_value Missing = true
is_of_value WrongType = true
is_of_value f = false

-- `type_after_first whole path` is the type of the part to which the steps of `path` after the first one, `attrs` or
-- `context`, lead from a value of the type `whole`.
abbrev pub type_after_first : Cedar → List Step → Option Cedar
type_after_first whole [] = None
type_after_first whole (step ∷ path) = type_at whole path

-- `type_of_part x whole` is the type that is declared for the part that the error `x` is about, where `whole` is the
-- type of the attributes or of the context.
abbrev pub type_of_part : PartFault → Option Cedar → Option Cedar
type_of_part x whole = if is_of_value x.fault then option_and_then (λ t. type_after_first t (path_in x)) whole else None

-- ---- the words

-- `pointer_words pointer` are the words that say that the part is at `pointer`; empty for the empty pointer, that of
-- the whole.
abbrev pub pointer_words : List ℕ → List ℕ
pointer_words [] = []
pointer_words (c ∷ cs) = codes "at " ++ c ∷ cs

-- `part_words found whole` are the words that name the part that the error in `found` is about, with the type that is
-- declared for it; empty if there is no error. `whole` is the type of the attributes or of the context.
abbrev pub part_words : Option PartFault → Option Cedar → List ℕ
part_words None whole = []
part_words (Some x) whole = pointer_words (pointer_of (path_in x)) ++ declared_words (type_of_part x whole)

-- `item_at text index` is the item at the index `index` of the JSON array `text`, if there is one.
abbrev pub item_at : List ℕ → ℕ → Option Data
item_at text index = option_and_then (at index) (json_of text)

-- `NamesPartOfEntity s o words` holds if `words` name the part at fault of the value `o` as an entity under the schema
-- `s`, and `NamesPartOfRequest s o words` if they name that of `o` as a request. For an absent value they are empty.
abbrev pub NamesPartOfEntity : StatedSchema → Option Data → List ℕ → Type 0
NamesPartOfEntity s o words = MatchOption o (words ≡ []) (λ d. (found : Option PartFault) × IsEntityFault s d found
    × (words ≡ part_words found (shape_at s (get (codes "uid") d))))

abbrev pub NamesPartOfRequest : StatedSchema → Option Data → List ℕ → Type 0
NamesPartOfRequest s o words = MatchOption o (words ≡ []) (λ d. (found : Option PartFault) × (whole : Option Cedar)
    × IsRequestFault s d found × IsContextType s d whole × (words ≡ part_words found whole))

-- `NamesPartOfItem s text index words` holds if `words` name the part at fault under `s` of the entity at the index
-- `index` of the JSON array `text`; they are empty if there is no such item.
abbrev pub NamesPartOfItem : StatedSchema → List ℕ → Option ℕ → List ℕ → Type 0
NamesPartOfItem s text index words = NamesPartOfEntity s (option_and_then (item_at text) index) words

-- `NamesPartOfRequestText s text words` holds if `words` name the part at fault under `s` of the JSON `text` as a
-- request; they are empty for a text that is not JSON.
abbrev pub NamesPartOfRequestText : StatedSchema → List ℕ → List ℕ → Type 0
NamesPartOfRequestText s text words = NamesPartOfRequest s (json_of text) words
