-- Defines the words of an explanation: those for types, names, environments and typing errors of a policy that does not
-- pass validation.
-- Source: docs/language.md for names of entities; docs/formats.md for names of types.
-- Rules of this product: a type is named as schemas name it, a set type by `Set` and a record type by `Record`; an
-- environment is named by the type of its principal, its action and the type of its resource; for an undeclared
-- attribute or action the declared ones are named, in the order of the type or of the schema.
use Rattle.std.specs.Prelude.{ℕ, Bool, true, false, if◌then◌else◌, List, [], ◌∷◌, ◌++◌, map, codes}
use Rattle.std.specs.Prelude.{Option, None, Some, is_ok, slice_get}
use Rattle.grammar_core.specs.declared.expr.Expr.{Expr}
use Rattle.grammar_core.specs.declared.expr.Expr.TheOpen.{Expr-F}
use Rattle.grammar_core.specs.declared.expr.Expr.TheViews.{out-Expr}
use Rattle.values.specs.declared.entity_uid.EntityUid.{EntityUid}
use Rattle.type_checker.specs.schema.Schemas.{EnvironmentOf, StatedSchema}
use Rattle.type_checker.specs.FromSchemas.{typing_environment_of}
use Rattle.type_checker.specs.Views.{static_view}
use Rattle.typing.specs.Types as types
use Rattle.typing.specs.Types.{StaticType, FieldTypes}
use Rattle.typing.specs.Environment.{Environment}
use Rattle.typing.specs.Rows.{field_type_of}
use Rattle.validator.specs.Names as names
use Rattle.typing.specs.declared.fault.TypeFault.{TypeFault}
use Rattle.typing.specs.declared.fault.TypeFault.TheVariants as fault
use Rattle.fault_places.specs.declared.blaming.TypeBlame.{TypeBlame}

-- `type_word t` is the word for the type `t`.
abbrev pub type_word : StaticType → List ℕ
type_word types.true_type = codes "Boolean"
type_word types.false_type = codes "Boolean"
type_word types.boolean_type = codes "Boolean"
type_word types.long_type = codes "Long"
type_word types.text_type = codes "String"
type_word (types.entity_type name) = name
type_word (types.set_type t) = codes "Set"
type_word (types.record_type fields) = codes "Record"
type_word types.decimal_type = codes "decimal"
type_word types.ipaddr_type = codes "ipaddr"

-- `more_words ts` are the words for the types `ts`, each after a comma and a blank.
abbrev pub more_words : List StaticType → List ℕ
more_words [] = []
more_words (t ∷ ts) = codes ", " ++ type_word t ++ more_words ts

-- `types_words ts` are the words for the types `ts` after a colon, separated by commas; empty if `ts` is.
abbrev pub types_words : List StaticType → List ℕ
types_words [] = []
types_words (t ∷ ts) = codes ": " ++ type_word t ++ more_words ts

-- `uid_words u` is the entity uid `u` in the form `T::"id"` of policies, but without escapes in the id.
abbrev pub uid_words : EntityUid → List ℕ
uid_words u = u.type_name ++ codes "::\"" ++ u.id ++ codes "\""

-- `name_words n` is the name `n` of a type or of an entity.
abbrev pub name_words : names.Name → List ℕ
name_words (names.tested_type n) = n
name_words (names.entity u) = uid_words u

-- `environment_words e` names the environment `e` by the type of its principal, its action and the type of its
-- resource: `in U, Action::"a", R`.
abbrev pub environment_words : EnvironmentOf → List ℕ
environment_words e = codes "in " ++ e.place.principal ++ codes ", " ++ uid_words e.place.action ++ codes ", "
    ++ e.place.resource

-- ---- declared names

-- `field_names fs` are the names of the fields `fs`, in order.
abbrev pub field_names : FieldTypes → List (List ℕ)
field_names types.no_field_types = []
field_names (types.field_type k t r fs) = k ∷ field_names fs

-- `fields_of attributes t` are the fields of the record type `t`, or the attributes that `attributes` gives for the
-- name of the entity type `t`; another type has none.
abbrev pub fields_of : (List ℕ → FieldTypes) → StaticType → FieldTypes
fields_of attributes (types.record_type fs) = fs
fields_of attributes (types.entity_type n) = attributes n
fields_of attributes t = types.no_field_types

-- `more_names ns` are the names `ns`, each after a comma and a blank.
abbrev pub more_names : List (List ℕ) → List ℕ
more_names [] = []
more_names (n ∷ ns) = codes ", " ++ n ++ more_names ns

-- `names_or empty before ns` is `before`, then the names `ns`, separated by commas; `empty` if `ns` is empty.
abbrev pub names_or : List ℕ → List ℕ → List (List ℕ) → List ℕ
names_or empty before [] = empty
names_or empty before (n ∷ ns) = before ++ n ++ more_names ns

-- `which_words ns` says which attributes a type has, where `ns` are their names.
abbrev pub which_words : List (List ℕ) → List ℕ
which_words ns = names_or (codes ", which has no attributes") (codes ", which has ") ns

-- `action_words us` says that the actions `us` are declared.
abbrev pub action_words : List EntityUid → List ℕ
action_words us = names_or (codes "no action is declared") (codes "declared: ") (map uid_words us)

-- `name_detail s f` are the details of the error `f` of an undeclared name under the schema `s`: for an undeclared
-- action (41) the actions that `s` declares; else empty.
abbrev pub name_detail : StatedSchema → TypeFault → List ℕ
name_detail s fault.UnknownAction = action_words s.actions
name_detail s f = []

-- ---- attributes

-- `is_missing f` tests whether `f` is the error of an attribute that is undeclared or may be missing (44).
abbrev pub is_missing : TypeFault → Bool
is_missing fault.AttributeMayBeMissing = true
is_missing f = false

-- `attribute_in y` is the name of the attribute that the form `y` accesses; empty for a form that accesses none.
abbrev pub attribute_in : Expr-F Expr → List ℕ
attribute_in (Expr-F.Field a k) = k
attribute_in y = []

-- `attribute_of x` is the name of the attribute that the expression `x` itself accesses; empty if it accesses none.
abbrev pub attribute_of : Expr → List ℕ
attribute_of x = attribute_in (out-Expr x)

-- `declaration_words declared t ns` says that the attribute is optional in the type `t` if `declared`, else that it is
-- not declared in `t`, and which attributes are, where `ns` are their names.
abbrev pub declaration_words : Bool → StaticType → List (List ℕ) → List ℕ
declaration_words true t ns = codes ": optional in " ++ type_word t
declaration_words false t ns = codes ": not declared in " ++ type_word t ++ which_words ns

-- `declared_words env k ts` says whether the first of the types `ts` declares the attribute `k` in `env`, and if not,
-- which attributes it declares; empty if `ts` is.
abbrev pub declared_words : Environment → List ℕ → List StaticType → List ℕ
declared_words env k [] = []
declared_words env k (t ∷ ts) =
    declaration_words (is_ok (field_type_of env true k t)) t (field_names (fields_of env.attributes t))

-- ---- errors of typing

-- `typing_cause f x` is the cause of the error `f` of the form `x`: the attribute for error 44, else empty.
abbrev pub typing_cause : TypeFault → Expr → List ℕ
typing_cause f x = if is_missing f then attribute_of x else []

-- `what_words env f x ts` are the details of the error `f` of the form `x` in `env`, where `ts` are the types that the
-- error is about: for error 44 whether the attribute is declared, else these types.
abbrev pub what_words : Environment → TypeFault → Expr → List StaticType → List ℕ
what_words env f x ts = if is_missing f then declared_words env (attribute_of x) ts else types_words ts

-- `detail_in s o f x ts` are the words for the environment `o` of the schema `s`, then the details there of the error
-- `f` of the form `x`, where `ts` are the types that the error is about; empty if `o` is `None`.
abbrev pub detail_in : StatedSchema → Option EnvironmentOf → TypeFault → Expr → List StaticType → List ℕ
detail_in s None f x ts = []
detail_in s (Some e) f x ts = environment_words e ++ what_words (typing_environment_of s e) f x ts

-- `typing_detail s b` are the details of the typing error that `b` reports under the schema `s`: the words for its
-- environment, and the details of the error there.
abbrev pub typing_detail : StatedSchema → TypeBlame → List ℕ
typing_detail s b =
    detail_in s (slice_get s.environments b.environment) b.fault b.place.form.now (map static_view b.place.types.items)
