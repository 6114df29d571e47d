-- Defines which common types and entity types are mentioned in a type. In this file `commons` are the declared common
-- types, each with its definition.
-- Source: Cedar reference guide 4.0, "Schema JSON format".
use Rattle.std.specs.Prelude.{◌≡◌, ◌⊎◌, ℕ, List}
use Rattle.schema_types.specs.Qualified as qualified
use Rattle.schema_types.specs.Qualified.{Qualified, QualifiedFields}
use Rattle.schema_types.specs.Cedar as cedar
use Rattle.schema_types.specs.Cedar.{Cedar, CedarFields}
use Rattle.schema_types.specs.Expansions.{Declarations, Declares}

-- `Mentions r q` holds if the common type `q` is mentioned in the type `r`, and `FieldsMention rs q` if it is mentioned
-- in a type of the fields `rs`.
abbrev mutual
  pub Mentions : Qualified → List ℕ → Type 0
  Mentions qualified.text q = ⊥
  Mentions qualified.long q = ⊥
  Mentions qualified.boolean q = ⊥
  Mentions qualified.decimal q = ⊥
  Mentions qualified.ipaddr q = ⊥
  Mentions (qualified.set r) q = Mentions r q
  Mentions (qualified.record_of rs) q = FieldsMention rs q
  Mentions (qualified.entity n) q = ⊥
  Mentions (qualified.common p) q = p ≡ q

  pub FieldsMention : QualifiedFields → List ℕ → Type 0
  FieldsMention qualified.no_fields q = ⊥
  FieldsMention (qualified.field k r b rs) q = Mentions r q ⊎ FieldsMention rs q

-- `MentionsEntity r q` holds if the entity type `q` is mentioned in the type `r`, and `FieldsMentionEntity rs q` if it
-- is mentioned in a type of the fields `rs`.
abbrev mutual
  pub MentionsEntity : Qualified → List ℕ → Type 0
  MentionsEntity qualified.text q = ⊥
  MentionsEntity qualified.long q = ⊥
  MentionsEntity qualified.boolean q = ⊥
  MentionsEntity qualified.decimal q = ⊥
  MentionsEntity qualified.ipaddr q = ⊥
  MentionsEntity (qualified.set r) q = MentionsEntity r q
  MentionsEntity (qualified.record_of rs) q = FieldsMentionEntity rs q
  MentionsEntity (qualified.entity n) q = n ≡ q
  MentionsEntity (qualified.common p) q = ⊥

  pub FieldsMentionEntity : QualifiedFields → List ℕ → Type 0
  FieldsMentionEntity qualified.no_fields q = ⊥
  FieldsMentionEntity (qualified.field k r b rs) q = MentionsEntity r q ⊎ FieldsMentionEntity rs q

-- `NamesEntity t q` holds if the entity type `q` is mentioned in the expanded type `t`, and `FieldsNameEntity ts q` if
-- it is mentioned in a type of the fields `ts`.
abbrev mutual
  pub NamesEntity : Cedar → List ℕ → Type 0
  NamesEntity cedar.text q = ⊥
  NamesEntity cedar.long q = ⊥
  NamesEntity cedar.boolean q = ⊥
  NamesEntity cedar.decimal q = ⊥
  NamesEntity cedar.ipaddr q = ⊥
  NamesEntity (cedar.set t) q = NamesEntity t q
  NamesEntity (cedar.record_of ts) q = FieldsNameEntity ts q
  NamesEntity (cedar.entity n) q = n ≡ q

  pub FieldsNameEntity : CedarFields → List ℕ → Type 0
  FieldsNameEntity cedar.no_fields q = ⊥
  FieldsNameEntity (cedar.field k t b ts) q = NamesEntity t q ⊎ FieldsNameEntity ts q

-- `IsClosed commons r` holds if each common type that is mentioned in `r` is declared.
abbrev pub IsClosed : Declarations → Qualified → Type 0
IsClosed commons r = (q : List ℕ) → Mentions r q → (s : Qualified) × Declares commons q s

-- `Leads commons p q` holds if one or more steps lead from the common type `p` to `q`. A step leads from a common type
-- to one that its declaration mentions.
pub data Leads (commons : Declarations) : List ℕ → List ℕ → Type 0 where
  step : (p q : List ℕ) (r : Qualified) → Declares commons p r → Mentions r q → Leads commons p q
  steps : (p q end : List ℕ) (r : Qualified) → Declares commons p r → Mentions r q → Leads commons q end
      → Leads commons p end
