-- Which entity types a type names once it is written out.
use Rattle.std.proofs.Common.{◌⊎◌, inl, inr, ℕ, List}
use Rattle.schema_types.specs.Qualified.{Qualified, QualifiedFields}
use Rattle.schema_types.specs.Cedar.{Cedar, CedarFields}
use Rattle.schema_types.specs.Expansions as written
use Rattle.schema_types.specs.Expansions.{Declarations, Declares, IsExpansion, AreFieldExpansions}
use Rattle.schema_types.specs.Mentions.{MentionsEntity, FieldsMentionEntity, NamesEntity, FieldsNameEntity}
use Rattle.schema_types.specs.Law.{WrittenEntitiesAreNamed}

module _ (commons : Declarations) (q : List ℕ) where
  -- some common type names it
  abbrev Elsewhere : Type 0
  Elsewhere = (p : List ℕ) × (s : Qualified) × Declares commons p s × MentionsEntity s q

  in_common : (p : List ℕ) (s : Qualified) → Declares commons p s → MentionsEntity s q ⊎ Elsewhere → Elsewhere
  in_common p s d (inl m) = (p, s, d, m)
  in_common p s d (inr e) = e

  at_first : (r : Qualified) (rs : QualifiedFields) → MentionsEntity r q ⊎ Elsewhere → (MentionsEntity r q ⊎ FieldsMentionEntity rs q) ⊎ Elsewhere
  at_first r rs (inl m) = inl (inl m)
  at_first r rs (inr e) = inr e

  at_rest : (r : Qualified) (rs : QualifiedFields) → FieldsMentionEntity rs q ⊎ Elsewhere → (MentionsEntity r q ⊎ FieldsMentionEntity rs q) ⊎ Elsewhere
  at_rest r rs (inl m) = inl (inr m)
  at_rest r rs (inr e) = inr e

  beside : (r : Qualified) (t : Cedar) (rs : QualifiedFields) (ts : CedarFields) → (NamesEntity t q → MentionsEntity r q ⊎ Elsewhere) → (FieldsNameEntity ts q → FieldsMentionEntity rs q ⊎ Elsewhere)
      → NamesEntity t q ⊎ FieldsNameEntity ts q → (MentionsEntity r q ⊎ FieldsMentionEntity rs q) ⊎ Elsewhere
  beside r t rs ts one more (inl m) = at_first r rs (one m)
  beside r t rs ts one more (inr m) = at_rest r rs (more m)

  mutual
    named : (r : Qualified) (t : Cedar) → IsExpansion commons r t → NamesEntity t q → MentionsEntity r q ⊎ Elsewhere
    named _ _ written.text h = absurd h
    named _ _ written.long h = absurd h
    named _ _ written.boolean h = absurd h
    named _ _ written.decimal h = absurd h
    named _ _ written.ipaddr h = absurd h
    named _ _ (written.set r t w) h = named r t w h
    named _ _ (written.record_of rs ts w) h = fields_named rs ts w h
    named _ _ (written.entity n) h = inl h
    named _ _ (written.common p s t d w) h = inr (in_common p s d (named s t w h))

    fields_named : (rs : QualifiedFields) (ts : CedarFields) → AreFieldExpansions commons rs ts → FieldsNameEntity ts q → FieldsMentionEntity rs q ⊎ Elsewhere
    fields_named _ _ written.no_fields h = absurd h
    fields_named _ _ (written.field k r t required rs ts w ws) h = beside r t rs ts (λ m. named r t w m) (λ m. fields_named rs ts ws m) h

pub written_entities_are_named : WrittenEntitiesAreNamed
written_entities_are_named commons r t w q h = named commons q r t w h
