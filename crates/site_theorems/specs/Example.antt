-- Defines an example: a schema and its text, an entity and a request that are parsed under the schema, a policy that
-- passes validation, and one that does not.
use Rattle.std.specs.Prelude.{ℕ, List, [], ◌∷◌, ◌++◌, pos, false, codes, Some, None, if◌then◌else◌}
use Rattle.std.specs.Str.{bytes_eq}
use Rattle.sha2.specs.Sha256.{sha256}
use Rattle.hex.specs.Hex.{encode_lower}
use Rattle.serde_json.specs.Data.{Data, unsigned, number, object, no_members, member}
use Rattle.values.specs.declared.request.Request.{Request}
use Rattle.values.specs.Values.{long}
use Rattle.site.specs.ancestor_search.Decided.{is_same}
use Rattle.site.specs.entity_uids.Uids.{uid_json}
use Rattle.site.specs.grammar_core.declared.expr.Expr.TheVariants as form
use Rattle.site.specs.policy_grammar.declared.policy.Effect.TheVariants.{Permit}
use Rattle.site.specs.policy_grammar.declared.policy.EntityScope.TheVariants as entity_scope
use Rattle.site.specs.policy_grammar.declared.policy.ActionScope.TheVariants as action_scope
use Rattle.site.specs.policy_grammar.declared.policy.Policy.{Policy}
use Rattle.site.specs.schema_types.Cedar as cedar
use Rattle.site.specs.schema_types.Cedar.{Cedar, record_of, field, no_fields}
use Rattle.site.specs.schema.Places.{place_of}
use Rattle.site.specs.schema.Schemas.{EnvironmentOf, StatedSchema}
use Rattle.site.specs.entity_data.declared.data.EntityData.{EntityData}
use Rattle.site.specs.entity_data.Entities.{EntityMap}
use Rattle.site.specs.typing.Example.{alice, view, has_age, is_aged}

-- `schema_text` is the text of a schema in which a user may have an age, and a user may view a user.
unfoldable pub schema_text : List ℕ
schema_text =
    codes "{\"\":{\"actions\":{\"view\":{\"appliesTo\":{\"principalTypes\":[\"User\"],\"resourceTypes\":[\"User\"]}}},"
    ++ codes "\"entityTypes\":{\"User\":{\"shape\":{\"attributes\":{\"age\":{\"required\":false,\"type\":\"Long\"}},"
    ++ codes "\"type\":\"Record\"}}}}}"

-- `user` is the name of the entity type of users.
abbrev pub user : List ℕ
user = codes "User"

-- `user_shape` is the type of a user's attributes.
abbrev pub user_shape : Cedar
user_shape = record_of (field (codes "age") cedar.long false no_fields)

-- `viewing` is the environment in which a user views a user.
abbrev pub viewing : EnvironmentOf
viewing = record { place = place_of view user user; context = record_of no_fields }

-- `schema` is the schema that `schema_text` describes.
abbrev pub schema : StatedSchema
schema = record {
  label = encode_lower (sha256 schema_text);
  environments = viewing ∷ [];
  actions = view ∷ [];
  shape = λ n. if bytes_eq n user then Some user_shape else None;
  member_of = λ u. if is_same view u then Some [] else None;
  ancestors = λ u. if is_same view u then Some [] else None;
  may_have_parent = λ child parent. false;
}

-- `alice_json` is the JSON of the user Alice, whose age is 30.
abbrev pub alice_json : Data
alice_json = object (member (codes "attrs") (object (member (codes "age") (number (unsigned 30)) no_members))
    (member (codes "uid") (uid_json alice) no_members))

-- `alice_data` has the attributes and parents of Alice.
abbrev pub alice_data : EntityData
alice_data = record { attrs = (codes "age", long (pos 30)) ∷ []; parents = [] }

-- `entities` maps the uid of Alice to `alice_data`, and every other uid to `None`.
abbrev pub entities : EntityMap
entities u = if is_same alice u then Some alice_data else None

-- `request_json` is the JSON of the request in which Alice views Alice.
abbrev pub request_json : Data
request_json = object (member (codes "action") (uid_json view) (member (codes "principal") (uid_json alice)
    (member (codes "resource") (uid_json alice) no_members)))

-- `request` is the request in which Alice views Alice.
abbrev pub request : Request
request = record { principal = alice; action = view; resource = alice; context = [] }

-- `policy` is the policy
-- `permit(principal, action == Action::"view", resource) when { principal has age && 0 < principal.age };`.
abbrev pub policy : Policy
policy = record {
  effect = Permit;
  scope = record {
    principal = entity_scope.Any;
    action = action_scope.Equal view;
    resource = entity_scope.Any;
  };
  condition = form.And has_age is_aged;
}

-- `unsure_policy` is the policy `permit(principal, action == Action::"view", resource) when { 0 < principal.age };`,
-- which does not test for the optional attribute.
abbrev pub unsure_policy : Policy
unsure_policy = record {
  effect = Permit;
  scope = record {
    principal = entity_scope.Any;
    action = action_scope.Equal view;
    resource = entity_scope.Any;
  };
  condition = is_aged;
}
