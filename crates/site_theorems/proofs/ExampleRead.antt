-- An entity and a request are read under the schema.
use Rattle.std.proofs.Common.{◌≡◌, ◌∙◌, [], ◌∷◌, Bool, true, false, Some, None, Ok, refl, ap, subst}
use Rattle.std.specs.Prelude.{Contains, IsSome, if◌then◌else◌}
use Rattle.serde_json.specs.Data.{Data}
use Rattle.values.specs.declared.entity_uid.EntityUid.{EntityUid}
use Rattle.plain.specs.Words.{is_letter, is_word_byte}
use Rattle.values.specs.Paths.{is_path, pieces, PathTestIsExact}
use Rattle.site.specs.ancestor_search.Decided.{is_same}
use Rattle.site.specs.ancestor_search.Deciding.{Contains-here, same_uid}
use Rattle.json_words.specs.Each.{each}
use Rattle.site.specs.entity_uids.Uids.{uid_json, plain_uid_in, uid_in, IsUid}
use Rattle.site.specs.entity_uids.Laws.{WrittenIsRead}
use Rattle.site.specs.entities.Typing.{record_in, typed_value, typed_items, typed_members, long_in}
use Rattle.site.specs.entities.Entities.{entity_stated_in, shape_of, attributes_in, parents_in, parents_fit}
use Rattle.site.specs.entities.Entities.{parent_fits}
use Rattle.site.specs.entities.EntityForms.{stated_in, uids_of}
use Rattle.site.specs.entities.Requests.{asked_by, context_asked, ParsesRequest}
use Rattle.site.specs.entity_data.declared.data.EntityData.{EntityData}
use Rattle.site.specs.entity_data.Entities.{AreListed}
use Rattle.site.specs.typing.Example.{alice, view}
use Rattle.site.specs.SoundWorlds.{AreRead, entity_kept}
use Rattle.site_theorems.specs.Example.{schema, user, alice_json, alice_data, entities, request_json, request}
use Rattle.site_theorems.specs.ExamplePremises.{ExampleDataIsParsed}
use Rattle.site_theorems.proofs.ExampleStated.{only, some_same, some_none}

alice_read : entity_stated_in schema alice_json ≡ Ok (entity_kept alice alice_data)
unfolding entity_stated_in stated_in uids_of attributes_in shape_of parents_in parents_fit parent_fits record_in typed_value typed_items typed_members long_in uid_in plain_uid_in each is_path pieces is_letter is_word_byte
alice_read = refl

read_case : (u : EntityUid) (kept : EntityData) (b : Bool) → is_same alice u ≡ b → (if b then Some alice_data else None) ≡ Some kept
    → (d : Data) × (entity_stated_in schema d ≡ Ok (entity_kept u kept))
read_case u kept true e h = (
  alice_json,
  alice_read ∙ ap (λ (k : EntityData). Ok (entity_kept alice k)) (some_same h) ∙ ap (λ (v : EntityUid). Ok (entity_kept v kept)) (same_uid alice u e),
)
read_case u kept false e h = some_none h

pub are_read : AreRead schema entities
are_read u kept h = read_case u kept (is_same alice u) refl h

listed_case : (u : EntityUid) (b : Bool) → is_same alice u ≡ b → IsSome (if b then Some alice_data else None) → Contains (alice ∷ []) u
listed_case u true e h = subst (λ (v : EntityUid). Contains (alice ∷ []) v) (same_uid alice u e) (Contains-here alice [])
listed_case u false e h = absurd cc

listed : AreListed entities (alice ∷ [])
listed u = ((λ c. subst (λ (v : EntityUid). IsSome (entities v)) (only c) refl), (λ h. listed_case u (is_same alice u) refl h))

user_is_path : is_path user ≡ true
unfolding is_path pieces is_letter is_word_byte
user_is_path = refl

action_is_path : is_path view.type_name ≡ true
unfolding is_path pieces is_letter is_word_byte
action_is_path = refl

no_context : context_asked schema (asked_by request) request_json ≡ Ok []
unfolding context_asked record_in typed_members
no_context = refl

pub states : PathTestIsExact → WrittenIsRead → ParsesRequest schema request_json request
states paths back =
    let user_named : IsUid (uid_json alice) alice = (back alice ((paths user).0 user_is_path)).plain in
    let action_named : IsUid (uid_json view) view = (back view ((paths view.type_name).0 action_is_path)).plain in
    record {
      asks = record { principal = user_named; action = action_named; resource = user_named; context = refl };
      context = no_context;
    }

pub something_is_read : PathTestIsExact → WrittenIsRead → ExampleDataIsParsed
something_is_read paths back = (are_read, listed, states paths back)
