-- The JSON of the text.
use Rattle.std.proofs.Common.{◌≡◌, ℕ, List, [], ◌∷◌, false, Some, None, Ok, refl}
use Rattle.std.specs.Prelude.{codes}
use Rattle.std.specs.Str.{is_utf8, chars}
use lib.Utf8.{encode}
use Rattle.json.specs.Json.{value}
use Rattle.json.specs.Lex.{punctuate, lex}
use Rattle.json.specs.Text.{content}
use Rattle.json.specs.Word.{word}
use Rattle.values.specs.Paths.{is_path, pieces}
use Rattle.plain.specs.Words.{is_letter, is_word_byte}
use Rattle.serde_json.specs.Data.{Data, boolean, string, array, object, item, no_items, member, no_members}
use Rattle.json_words.specs.Json.{json_of}
use Rattle.site.specs.schema_types.Raw as raw
use Rattle.site.specs.schema_types.TypeShape.{type_name, type_of, formed, fields_in}
use Rattle.site.specs.schema_reading.FileForm.{NamespaceOf, stated, namespaces_of, namespace_of, namespace_name}
use Rattle.site.specs.schema_reading.FileForm.{commons_of, entity_types_of, actions_of, action_of, applies_to_of}
use Rattle.site.specs.schema_reading.FileForm.{parents_of, parent_of, entity_type_of, common_of, ident, name_of}
use Rattle.site.specs.schema_reading.FileForm.{names_of}
use Rattle.json_words.specs.Each.{each, each_member}
use Rattle.site.specs.schema_types.Forms.{form_named}
use Rattle.site_theorems.specs.Example.{schema_text}

abbrev one : List ℕ → Data → Data
one k d = object (member k d no_members)

abbrev users : Data
users = array (item (string (codes "User")) no_items)

abbrev use_json : Data
use_json = object (member (codes "principalTypes") users (member (codes "resourceTypes") users no_members))

abbrev actions_json : Data
actions_json = one (codes "view") (one (codes "appliesTo") use_json)

abbrev age_json : Data
age_json = object (member (codes "required") (boolean false) (member (codes "type") (string (codes "Long")) no_members))

abbrev shape_json : Data
shape_json = object (member (codes "attributes") (one (codes "age") age_json) (member (codes "type") (string (codes "Record")) no_members))

abbrev namespace_json : Data
namespace_json = object (member (codes "actions") actions_json (member (codes "entityTypes") (one (codes "User") (one (codes "shape") shape_json)) no_members))

unfoldable pub schema_json : Data
schema_json = one [] namespace_json

pub json : json_of schema_text ≡ Some schema_json
unfolding json_of schema_text schema_json is_utf8 chars encode value punctuate lex content word
json = refl

unfoldable pub namespaces : List NamespaceOf
namespaces = record {
  name = None;
  commons = [];
  entity_types = record { name = codes "User"; parents = []; shape = Some (raw.record_of (raw.field (codes "age") raw.long false raw.no_fields)) } ∷ [];
  actions = record { id = codes "view"; parents = []; applies_to = Some (record { principals = codes "User" ∷ []; resources = codes "User" ∷ []; context = None }) } ∷ [];
} ∷ []

pub shape : stated schema_json ≡ Ok namespaces
unfolding schema_json namespaces type_name type_of formed form_named fields_in stated namespaces_of namespace_of namespace_name commons_of entity_types_of actions_of action_of applies_to_of parents_of parent_of entity_type_of common_of ident name_of names_of each each_member is_path pieces is_letter is_word_byte
shape = refl
