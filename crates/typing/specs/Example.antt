-- Defines an example of a request and entities that conform: Alice, a member of the group of staff, views a plan, by an
-- action in the group of readers' actions. So the theorem about conforming requests is not vacuous.
use Rattle.std.specs.Prelude.{ℕ, List, [], ◌∷◌, pos, true, false, ◌&&◌, codes, Option, Some, None, if◌then◌else◌}
use Rattle.std.specs.Ordering.{is_eq}
use Rattle.std.specs.Str.{bytes_eq}
use Rattle.values.specs.declared.entity_uid.EntityUid.{EntityUid}
use Rattle.values.specs.declared.request.Request.{Request}
use Rattle.values.specs.Fields.{Field}
use Rattle.values.specs.Uids.{uid_cmp}
use Rattle.values.specs.Values.{boolean, long}
use Rattle.evaluator.specs.ancestor_search.Hierarchy.{Parents, no_parents, with_parents}
use Rattle.grammar_core.specs.declared.leaf.Literal.TheVariants as literal
use Rattle.grammar_core.specs.declared.leaf.Variable.TheVariants.{Principal}
use Rattle.grammar_core.specs.declared.operator.Binary.TheVariants.{Less}
use Rattle.grammar_core.specs.declared.expr.Expr.{Expr}
use Rattle.grammar_core.specs.declared.expr.Expr.TheVariants as form
use Rattle.evaluator.specs.Operators.{Entities}
use Rattle.typing.specs.Types.{FieldTypes, no_field_types, field_type, boolean_type, long_type}
use Rattle.typing.specs.Environment.{Environment}
use Rattle.typing.specs.Gained.{Capability}

-- `uid type_name id` is the uid with the type `type_name` and the id `id`.
abbrev pub uid : List ℕ → List ℕ → EntityUid
uid type_name id = record { type_name = type_name; id = id }

-- `alice` is the principal.
abbrev pub alice : EntityUid
alice = uid (codes "User") (codes "alice")

-- `staff` is the parent of the principal.
abbrev pub staff : EntityUid
staff = uid (codes "Group") (codes "staff")

-- `plan` is the resource.
abbrev pub plan : EntityUid
plan = uid (codes "Doc") (codes "plan")

-- `view` is the action.
abbrev pub view : EntityUid
view = uid (codes "Action") (codes "view")

-- `readers` is the parent of the action.
abbrev pub readers : EntityUid
readers = uid (codes "Action") (codes "readers")

-- `user_attributes`: a user has an optional age.
abbrev pub user_attributes : FieldTypes
user_attributes = field_type (codes "age") long_type false no_field_types

-- `environment` is the environment of the example; the context of a request says whether its sender is known.
abbrev pub environment : Environment
environment = record {
  principal = codes "User";
  action = view;
  resource = codes "Doc";
  context = field_type (codes "known") boolean_type true no_field_types;
  attributes = λ n. if bytes_eq n (codes "User") then user_attributes else no_field_types;
  may_have_ancestor = λ m n. bytes_eq m (codes "User") && bytes_eq n (codes "Group");
  is_action_type = λ n. bytes_eq n (codes "Action");
  action_ancestors = λ u. if is_eq (uid_cmp view u) then readers ∷ [] else [];
}

-- `parents` are the parents of Alice and of the action.
abbrev pub parents : Parents
parents = with_parents (with_parents no_parents alice (staff ∷ [])) view (readers ∷ [])

-- `stored u` are the attributes of the entity `u`: Alice has an age, the plan has no attribute, and no other entity is
-- stored.
abbrev pub stored : EntityUid → Option (List Field)
stored u =
    if is_eq (uid_cmp alice u) then Some ((codes "age", long (pos 30)) ∷ [])
    else (if is_eq (uid_cmp plan u) then Some [] else None)

-- `world` is the entity data with these attributes and parents.
abbrev pub world : Entities
world = record { stored = stored; parents = parents }

-- `request` is the request of the example; its sender is known.
abbrev pub request : Request
request = record { principal = alice; action = view; resource = plan; context = (codes "known", boolean true) ∷ [] }

-- `age_of_principal` is the capability that the principal has an age.
abbrev pub age_of_principal : Capability
age_of_principal = (form.Variable Principal, codes "age")

-- `has_age` is `principal has age`.
abbrev pub has_age : Expr
has_age = form.Has (form.Variable Principal) (codes "age")

-- `is_aged` is `0 < principal.age`.
abbrev pub is_aged : Expr
is_aged = form.Binary Less (form.Literal (literal.Long (pos 0))) (form.Field (form.Variable Principal) (codes "age"))
