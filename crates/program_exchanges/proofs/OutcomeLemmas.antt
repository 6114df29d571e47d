-- The texts of a schema and of two messages come to exactly one thing.
use Rattle.std.specs.Prelude.{◌≡◌, ◌⊎◌, ℕ, List, ◌++◌}
use Rattle.std.proofs.Common.{inl, inr, refl, sym, ap, ◌∙◌, subst}
use Rattle.schema_decisions.specs.policy_grammar.declared.policy.Policy.{Policy}
use Rattle.schema_decisions.specs.entity_data.declared.entity.Entity.{Entity}
use Rattle.schema_decisions.specs.schema_types.declared.fault.SchemaFault.{SchemaFault}
use Rattle.sync_messages.specs.schema.Schemas.{StatedSchema, IsSchemaOf, RefusedFor}
use Rattle.sync_messages.specs.schema.Outcomes as schemas
use Rattle.stamped_store.specs.Store.{store_of}
use Rattle.sync_messages.specs.sync_format.declared.fault.MessageFault.{MessageFault}
use Rattle.sync_messages.specs.sync_format.Messages.{state_text}
use Rattle.sync_messages.specs.sync_format.declared.update.Update.{Update as SentUpdate}
use Rattle.sync_messages.specs.sync_format.Updates.{plain_updates}
use Rattle.sync_messages.specs.sync_format.Bodies.{BodiesHaveOneOutcome}
use Rattle.sync_messages.specs.Laws.{PoliciesHaveOneReading, EntitiesHaveOneReading}
use Rattle.sync_messages.specs.Texts.{ReadsPolicy, RefusesPolicy, ReadsEntity, RefusesEntity}
use Rattle.schema_decisions.specs.answer_lines.declared.refusal.Refusal.{Refusal}
use Rattle.schema_decisions.specs.CheckRefusals.{schema_refusal}
use Rattle.sync_messages.specs.Messages.{IsMessageOf, IsMessageFaultOf}
use Rattle.program_exchanges.specs.Messages.{message_refusal, IsMessageRefused}
use Rattle.program_exchanges.specs.Merges.{AreRefusedUnder, AreRefused}
use Rattle.program_exchanges.specs.Outcomes.{MergeOutcome, merged, refused, IsOutcomeOfTexts, HaveOneOutcome}
use Rattle.program_exchanges.proofs.MergeLemmas.{MergedAt, merged_at, store_as}

-- the laws of messages of a schema
pub record Laws (s : StatedSchema) : Type 0 where
  pub fault : (bytes : List ℕ) (f g : MessageFault) → IsMessageFaultOf s bytes f → IsMessageFaultOf s bytes g → f ≡ g
  pub apart : (bytes : List ℕ) (us : List (SentUpdate Policy Entity)) (f : MessageFault) → IsMessageOf s bytes us
      → IsMessageFaultOf s bytes f → ⊥
  pub some : (bytes : List ℕ) → ((us : List (SentUpdate Policy Entity)) × IsMessageOf s bytes us)
      ⊎ ((f : MessageFault) × IsMessageFaultOf s bytes f)

-- under a schema each text has one outcome
pub texts_are_one : (s : StatedSchema) → PoliciesHaveOneReading → EntitiesHaveOneReading
    → BodiesHaveOneOutcome (λ (id : List ℕ). ReadsPolicy s) (λ (id : List ℕ). RefusesPolicy s) (ReadsEntity s) (RefusesEntity s)
texts_are_one s policies entities = record {
  policies = λ id text. (policies s text).0;
  entities = λ uid text. (entities s uid text).0;
}

-- ---- two messages under a schema
module _ (s : StatedSchema) (laws : Laws s) where
  refused_same : (bytes : List ℕ) (r q : Refusal) → IsMessageRefused s bytes r → IsMessageRefused s bytes q → r ≡ q
  refused_same bytes r q a b = a.is ∙ ap message_refusal (laws.fault bytes a.fault b.fault a.is_fault b.is_fault) ∙ sym b.is

  refused_apart : (bytes : List ℕ) (us : List (SentUpdate Policy Entity)) (r : Refusal) → IsMessageOf s bytes us
      → IsMessageRefused s bytes r → ⊥
  refused_apart bytes us r h a = laws.apart bytes us a.fault h a.is_fault

  both_refused_same : (f g : List ℕ) (r q : Refusal) → AreRefusedUnder s f g r → AreRefusedUnder s f g q → r ≡ q
  both_refused_same f g r q (inl a) (inl b) = refused_same f r q a b
  both_refused_same f g r q (inl a) (inr b) = absurd (refused_apart f b.first r b.first_read a)
  both_refused_same f g r q (inr a) (inl b) = absurd (refused_apart f a.first q a.first_read b)
  both_refused_same f g r q (inr a) (inr b) = refused_same g r q a.refused b.refused

  both_apart : (f g text : List ℕ) (r : Refusal) → MergedAt s f g text → AreRefusedUnder s f g r → ⊥
  both_apart f g text r m (inl a) = refused_apart f m.both.first r m.both.first_read a
  both_apart f g text r m (inr a) = refused_apart g m.both.second r m.both.second_read a.refused

  merged_same : (f g text other : List ℕ) → MergedAt s f g text → MergedAt s f g other → text ≡ other
  merged_same f g text other a b =
      let same = store_as s f g a.store b.both.first b.both.second a.both b.both.first_read b.both.second_read ∙ sym b.both.store_is in
      a.text_is ∙ ap (state_text s.label) same ∙ sym b.text_is

-- ---- the three texts
module _ (one : schemas.OneSchema) (not_both : schemas.NotBoth) (one_refusal : schemas.OneRefusal) (schema f g : List ℕ) where
  under : (s : StatedSchema) → IsSchemaOf schema s → (r : Refusal) → AreRefused schema f g r → AreRefusedUnder s f g r
  under s is r (inl a) = absurd (not_both schema s a.fault is a.is_fault)
  under s is r (inr a) = subst (λ (t : StatedSchema). AreRefusedUnder t f g r) (one schema a.stated s a.schema_is is) a.refused

  module _ (s : StatedSchema) (is : IsSchemaOf schema s) (laws : Laws s) where
    one_come : (come other : MergeOutcome) → IsOutcomeOfTexts schema f g come → IsOutcomeOfTexts schema f g other → other ≡ come
    one_come (merged text) (merged other) a b =
        ap merged (merged_same s laws f g other text (merged_at one schema f g other s is b) (merged_at one schema f g text s is a))
    one_come (merged text) (refused other) a b = absurd (both_apart s laws f g text other (merged_at one schema f g text s is a) (under s is other b))
    one_come (refused r) (merged other) a b = absurd (both_apart s laws f g other r (merged_at one schema f g other s is b) (under s is r a))
    one_come (refused r) (refused q) a b = ap refused (both_refused_same s laws f g q r (under s is q b) (under s is r a))

    abbrev SomeCome : Type 0
    SomeCome = (come : MergeOutcome) × IsOutcomeOfTexts schema f g come

    by_second : (us : List (SentUpdate Policy Entity)) → IsMessageOf s f us → ((vs : List (SentUpdate Policy Entity)) × IsMessageOf s g vs)
        ⊎ ((e : MessageFault) × IsMessageFaultOf s g e) → SomeCome
    by_second us first (inl h) =
        let m = store_of (plain_updates us ++ plain_updates h.0) in (
          merged (state_text s.label m),
          record {
            stated = s;
            schema_is = is;
            store = m;
            both = record { first = us; second = h.0; first_read = first; second_read = h.1; store_is = refl };
            text_is = refl;
          },
        )
    by_second us first (inr e) = (
      refused (message_refusal e.0),
      inr (record {
        stated = s;
        schema_is = is;
        refused = inr (record { first = us; first_read = first; refused = record { fault = e.0; is_fault = e.1; is = refl } });
      }),
    )

    by_first : ((us : List (SentUpdate Policy Entity)) × IsMessageOf s f us) ⊎ ((e : MessageFault) × IsMessageFaultOf s f e) → SomeCome
    by_first (inl h) = by_second h.0 h.1 (laws.some g)
    by_first (inr e) = (
      refused (message_refusal e.0),
      inr (record { stated = s; schema_is = is; refused = inl (record { fault = e.0; is_fault = e.1; is = refl }) }),
    )

    pub stated : HaveOneOutcome schema f g
    stated = let some = by_first (laws.some f) in (some.0, some.1, λ other is_fault. one_come some.0 other some.1 is_fault)

  module _ (fault : SchemaFault) (is_fault : RefusedFor schema fault) where
    one_refused : (other : MergeOutcome) → IsOutcomeOfTexts schema f g other → other ≡ refused (schema_refusal fault)
    one_refused (merged text) h = absurd (not_both schema h.stated fault h.schema_is is_fault)
    one_refused (refused r) (inl h) = ap refused (h.is ∙ ap schema_refusal (one_refusal schema h.fault fault h.is_fault is_fault))
    one_refused (refused r) (inr h) = absurd (not_both schema h.stated fault h.schema_is is_fault)

    pub unstated : HaveOneOutcome schema f g
    unstated = (refused (schema_refusal fault), inl (record { fault = fault; is_fault = is_fault; is = refl }), one_refused)
