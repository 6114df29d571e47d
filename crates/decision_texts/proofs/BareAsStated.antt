-- The reading of texts without a schema agrees with its relations.
use Rattle.std.proofs.Common.{◌≡◌, ◌∙◌, ℕ, None, Result, Ok, Err, refl, sym, ap, subst}
use Rattle.std.specs.Prelude.{◌==◌}
use Rattle.serde_json.specs.Data.{Data}
use Rattle.entity_data.specs.declared.entity.Entity.{Entity}
use Rattle.answer_lines.specs.declared.refusal.Refusal.{Refusal}
use Rattle.decision_texts.specs.declared.bare.ShapeFault.{ShapeFault}
use Rattle.decision_texts.specs.Settings.{reported_by}
use Rattle.decision_texts.specs.Bare.{entity_of}
use Rattle.decision_texts.specs.BareEntities.{DescribesBareEntity}
use Rattle.decision_texts.specs.BareReading.{refusal_of, bare_reading}
use Rattle.decision_texts.specs.StatedDecisions.{error_at}
use Rattle.decision_texts.specs.DecisionLaws.{IsNoBareEntity, bare_setting}
use Rattle.decision_texts.proofs.BareEntitiesRead.{Names, only_entity, entity_is, is_entity}
use Rattle.decision_texts.proofs.StatedArrays.{ReadsEntities}
use Rattle.decision_texts.proofs.StatedDecided.{Agrees}

module _ (names : Names) where
  stated_by : (d : Data) (e : Entity) (read : Result Entity ShapeFault) → entity_of d ≡ read → reported_by refusal_of read ≡ Ok e → DescribesBareEntity d e
  stated_by d e (Ok x) is h = let same : x ≡ e = cc in subst (DescribesBareEntity d) same (entity_is names d x is)
  stated_by d e (Err f) is h = absurd cc

  none_by : (d : Data) → ((e : Entity) → ¬ DescribesBareEntity d e) → (read : Result Entity ShapeFault) → entity_of d ≡ read → reported_by refusal_of read ≡ Err (error_at None 30)
  none_by d none (Ok x) is = absurd (none x (entity_is names d x is))
  none_by d none (Err f) is = ap (λ (g : ShapeFault). Err (refusal_of g)) (only_entity d f is)

  never : (e : Entity) (f : ShapeFault) (read : Result Entity ShapeFault) → read ≡ Ok e → read ≡ Err f → ⊥
  never e f read h g = absurd cc

  refused_by : (d : Data) (refusal : Refusal) (read : Result Entity ShapeFault) → entity_of d ≡ read → reported_by refusal_of read ≡ Err refusal
      → (code : ℕ) × IsNoBareEntity d code × (refusal ≡ error_at None code)
  refused_by d refusal (Ok x) is h = absurd cc
  refused_by d refusal (Err f) is h =
      let told : refusal_of f ≡ refusal = cc in
      (30, (λ e states. never e f (entity_of d) (is_entity names d e states) is, refl), sym told ∙ ap refusal_of (only_entity d f is))

  reads : ReadsEntities bare_reading bare_setting
  reads = record {
    states = λ d e h. ap (reported_by refusal_of) (is_entity names d e h);
    stated = λ d e h. stated_by d e (entity_of d) refl h;
    refuses = λ d code h. none_by d h.0 (entity_of d) refl ∙ ap (λ (c : ℕ). Err (error_at None c)) (sym h.1);
    refused = λ d refusal h. refused_by d refusal (entity_of d) refl h;
    other_code = λ d code h. ap (λ (c : ℕ). c == 1) h.1;
  }

  pub agrees : Agrees bare_reading bare_setting
  agrees = record {
    admits = λ policies. (λ h. h, λ h. h);
    rejects = λ policies refusal. (λ h. h, λ h. h);
    entities = reads;
    states = λ d q. (λ h. h, λ h. h);
    faults = λ d refusal. (
      λ h. (30, (h.none, refl), h.is),
      λ h. record { none = h.1.0; is = h.2 ∙ ap (error_at None) h.1.1 },
    );
    actions = refl;
  }
