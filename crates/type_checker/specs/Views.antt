-- Defines the views of the code's types, and of its environments: the values of the typing rules that they represent.
use Rattle.std.specs.Prelude.{◌≡◌, ◌≢◌, ℕ, List, [], ◌∷◌, Result, Ok, Err, IfErr, MatchResult}
use Rattle.std.specs.Prelude.{Bool, true, false, if◌then◌else◌, IsTrue, Option, Some, IsSome}
use Rattle.std.specs.Str.{bytes_eq}
use Rattle.std.specs.Borrow.{Bor}
use Rattle.typing.specs.Types as types
use Rattle.typing.specs.Types.{true_type, false_type, boolean_type, long_type, text_type, entity_type, set_type}
use Rattle.typing.specs.Types.{record_type, decimal_type, ipaddr_type, FieldTypes, no_field_types, field_type}
use Rattle.typing.specs.Environment.{Environment}
use Rattle.typing.specs.Rows.{Row}
use Rattle.schema_types.specs.CedarViews.{cedar_view, cedar_fields_view}
use Rattle.entities.specs.schema.Views.{schema_view, environment_view}
use Rattle.type_checker.specs.FromSchemas.{static, static_fields, typing_environment_of}
use Rattle.typing.specs.declared.fault.TypeFault.{TypeFault}
use Rattle.typing.specs.declared.fault.TypeFault.TheVariants.{NoMemory}
use Rattle.type_checker.specs.declared.static_type.BooleanType.{BooleanType}
use Rattle.type_checker.specs.declared.static_type.BooleanType.TheVariants as truth
use Rattle.type_checker.specs.declared.static_type.Leaf.{Leaf}
use Rattle.type_checker.specs.declared.static_type.Leaf.TheVariants as leaf
use Rattle.type_checker.specs.declared.static_type.StaticType.{StaticType, fold-StaticType}
use Rattle.type_checker.specs.declared.static_type.StaticType.TheOpen.{StaticType-F}
use Rattle.type_checker.specs.declared.environment.TypingEnvironment.{TypingEnvironment}

-- ---- types

-- `boolean_view t` is the static type that the boolean type `t` of the code represents.
abbrev pub boolean_view : BooleanType → types.StaticType
boolean_view truth.True = true_type
boolean_view truth.False = false_type
boolean_view truth.Either = boolean_type

-- `leaf_view l` is the static type that the type without parts `l` of the code represents.
abbrev pub leaf_view : Leaf → types.StaticType
leaf_view (leaf.Boolean b) = boolean_view b
leaf_view leaf.Long = long_type
leaf_view leaf.Text = text_type
leaf_view (leaf.Entity n) = entity_type n.now
leaf_view leaf.Decimal = decimal_type
leaf_view leaf.Ipaddr = ipaddr_type

-- `built_fields fs` is the list `fs` of keys, types and requirements as the fields of a record type.
abbrev pub built_fields : List (Bor (List ℕ) × types.StaticType × Bool) → FieldTypes
built_fields [] = no_field_types
built_fields (f ∷ fs) = field_type f.0.now f.1 f.2 (built_fields fs)

-- `static_step t` is the static type with the outermost node `t`, whose parts are static types already.
abbrev pub static_step : StaticType-F types.StaticType → types.StaticType
static_step (StaticType-F.Leaf l) = leaf_view l
static_step (StaticType-F.DeclaredSet t) = set_type (static (cedar_view t.now))
static_step (StaticType-F.DeclaredRecord fs) = record_type (static_fields (cedar_fields_view fs.now))
static_step (StaticType-F.Set t) = set_type t
static_step (StaticType-F.Record fs) = record_type (built_fields fs)

-- `static_view t` is the static type that the type `t` of the code represents.
abbrev pub static_view : StaticType → types.StaticType
static_view = fold-StaticType types.StaticType static_step

-- ---- shared types

-- A `TypeSharing` says whether a type and its fields are shared, that is, reference-counted. A set or record type that
-- an expression built is shared by its copies; a declared one is borrowed from the schema.
pub record TypeSharing : Type 0 where
  -- whether the type itself is shared
  pub is_type_shared : Bool
  -- whether it has a field of this name whose type is shared
  pub at : List ℕ → Bool

-- `shared_in fs k` tests whether the fields `fs` have a field `k` whose type is shared.
abbrev pub shared_in : List (Bor (List ℕ) × TypeSharing × Bool) → List ℕ → Bool
shared_in [] k = false
shared_in (f ∷ fs) k = if bytes_eq k f.0.now then f.1.is_type_shared else shared_in fs k

-- `type_sharing_step t` says whether the type with the outermost node `t` and its fields are shared, given this for its
-- parts.
abbrev pub type_sharing_step : StaticType-F TypeSharing → TypeSharing
type_sharing_step (StaticType-F.Leaf l) = record { is_type_shared = false; at = λ k. false }
type_sharing_step (StaticType-F.DeclaredSet t) = record { is_type_shared = false; at = λ k. false }
type_sharing_step (StaticType-F.DeclaredRecord fs) = record { is_type_shared = false; at = λ k. false }
type_sharing_step (StaticType-F.Set t) = record { is_type_shared = true; at = λ k. false }
type_sharing_step (StaticType-F.Record fs) = record { is_type_shared = true; at = shared_in fs }

-- `type_sharing t` says whether the type `t` and its fields are shared.
abbrev pub type_sharing : StaticType → TypeSharing
type_sharing = fold-StaticType TypeSharing type_sharing_step

-- `MayTakeMemory t o` holds if computing the common type `o` of `t` and another type may fail with `NoMemory`: there is
-- a common type, and either it differs from `t` or `t` is shared.
abbrev pub MayTakeMemory : StaticType → Option types.StaticType → Type 0
MayTakeMemory t o = IsSome o × (o ≡ Some (static_view t) → IsTrue (type_sharing t).is_type_shared)

-- ---- errors

-- `Answers r row` holds if `r` is the type or the error of `row`, or `NoMemory`.
abbrev pub Answers : Result StaticType TypeFault → Row → Type 0
Answers r row = MatchResult r (λ t. row ≡ Ok (static_view t)) (λ f. f ≢ NoMemory → row ≡ Err f)

-- `TakesMemoryOnly P r` holds if `P` holds whenever `r` is `NoMemory`.
abbrev pub TakesMemoryOnly : Type 0 → Result StaticType TypeFault → Type 0
TakesMemoryOnly P r = IfErr r (λ f. f ≡ NoMemory → P)

-- `TakesNoMemory r` holds if `r` is not `NoMemory`.
abbrev pub TakesNoMemory : Result StaticType TypeFault → Type 0
TakesNoMemory r = IfErr r (λ f. f ≢ NoMemory)

-- ---- environments

-- `typing_environment e` is the environment of the typing rules that the environment `e` of the code represents.
abbrev pub typing_environment : TypingEnvironment → Environment
typing_environment e = typing_environment_of (schema_view e.schema.now) (environment_view e.environment.now)
