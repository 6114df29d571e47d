-- The reading of texts under a schema agrees with its relations.
use Rattle.std.proofs.Common.{◌≡◌, ◌∙◌, ℕ, List, false, None, Result, Ok, Err, refl, sym, ap}
use Rattle.std.specs.Prelude.{◌==◌}
use Rattle.serde_json.specs.Data.{Data, Members}
use Rattle.values.specs.declared.entity_uid.EntityUid.{EntityUid}
use Rattle.validator.specs.schema_types.Cedar.{Cedar, CedarFields}
use Rattle.entity_hierarchy.specs.schema.Schemas.{StatedSchema}
use Rattle.entity_hierarchy.specs.entities.declared.fault.EntityFault.{EntityFault}
use Rattle.entity_hierarchy.specs.entities.Faults.{code_of}
use Rattle.entity_hierarchy.specs.entities.Entities.{entity_stated_in}
use Rattle.entity_hierarchy.specs.entities.ParsingLaws.{EntitiesAreRead, RequestsAreRead}
use Rattle.entity_hierarchy.specs.entities.StatedEntities.{DescribesEntity, RefusesEntity, RefusesParents}
use Rattle.entity_hierarchy.specs.entities.StatedEntities as says
use Rattle.entity_hierarchy.specs.entities.StatedValues.{FaultyMember, RefusesRecord}
use Rattle.entity_hierarchy.specs.entities.StatedValues as values
use Rattle.decision_texts.specs.entity_data.declared.entity.Entity.{Entity}
use Rattle.decision_texts.specs.answer_lines.declared.refusal.Refusal.{Refusal}
use Rattle.decision_texts.specs.Settings.{reported_by}
use Rattle.decision_texts.specs.StatedDecisions.{error_at}
use Rattle.decision_texts.proofs.StatedArrays.{ReadsEntities}
use Rattle.decision_texts.proofs.StatedDecided.{Agrees, as_stated}
use Rattle.schema_decisions.specs.Refusals.{entity_refusal}
use Rattle.schema_decisions.specs.UnderSchema.{reading_under}
use Rattle.schema_decisions.specs.Decisions.{IsDecided, IsSchemaDecisionRefused, by_schema, under_schema}
use Rattle.schema_decisions.specs.StatedDecisions.{IsNoEntity, setting_under, DescribesSchemaDecision}
use Rattle.schema_decisions.specs.StatedDecisions.{RejectsSchemaDecision, bad_schema, bad_texts, DecisionsAreAsStated}

-- ---- no error of an entity is `NoMemory`

parents_code : (s : StatedSchema) (uid : EntityUid) (ps : List EntityUid) (fault : EntityFault) → RefusesParents s uid ps fault → (code_of fault == 1) ≡ false
parents_code s uid ps fault (says.self_parent p more same) = refl
parents_code s uid ps fault (says.bad_parent p more other none) = refl
parents_code s uid ps fault (says.later_parent p more f fits rest) = parents_code s uid more f rest

member_code : (fs : CedarFields) (ms : Members) (fault : EntityFault) → FaultyMember fs ms fault → (code_of fault == 1) ≡ false
member_code fs ms fault (values.undeclared key d more none) = refl
member_code fs ms fault (values.wrong_type key d more t here none) = refl
member_code fs ms fault (values.later_fault key d more f t v here reads rest) = member_code fs more f rest

record_code : (t : Cedar) (ms : Members) (fault : EntityFault) → RefusesRecord t ms fault → (code_of fault == 1) ≡ false
record_code t ms fault (values.no_record other members none) = refl
record_code t ms fault (values.faulty fields members f bad) = member_code fields members f bad
record_code t ms fault (values.missing fields members stated reads lack) = refl

entity_code : (s : StatedSchema) (d : Data) (fault : EntityFault) → RefusesEntity s d fault → (code_of fault == 1) ≡ false
entity_code s d fault (says.bad_shape none) = refl
entity_code s d fault (says.action_entity uid listed attributes tags form action) = refl
entity_code s d fault (says.unknown_type uid listed attributes tags form action shape) = refl
entity_code s d fault (says.tags_left_out uid listed attributes tags shape form has some) = refl
entity_code s d fault (says.bad_attributes uid listed attributes shape told form has bad) = record_code shape attributes told bad
entity_code s d fault (says.bad_parents uid listed attributes shape attrs told form has reads bad) = parents_code s uid listed told bad

-- ---- entities

stated_of : (e : Entity) (read : Result Entity EntityFault) → reported_by entity_refusal read ≡ Ok e → read ≡ Ok e
stated_of e (Ok x) h = let same : x ≡ e = cc in ap Ok same
stated_of e (Err f) h = absurd cc

-- what is known of parsing
pub record Laws : Type 0 where
  pub entities : EntitiesAreRead
  pub requests : RequestsAreRead

module _ (laws : Laws) (s : StatedSchema) where
  refused_by : (d : Data) (refusal : Refusal) (read : Result Entity EntityFault) → entity_stated_in s d ≡ read → reported_by entity_refusal read ≡ Err refusal
      → (code : ℕ) × IsNoEntity s d code × (refusal ≡ error_at None code)
  refused_by d refusal (Ok e) is h = absurd cc
  refused_by d refusal (Err f) is h =
      let told : entity_refusal f ≡ refusal = cc in
      (code_of f, (f, ((laws.entities s d).fault f).0 is, refl), sym told)

  reads : ReadsEntities (reading_under s) (setting_under s)
  reads = record {
    states = λ d e h. ap (reported_by entity_refusal) (((laws.entities s d).value e).1 h);
    stated = λ d e h. ((laws.entities s d).value e).0 (stated_of e (entity_stated_in s d) h);
    refuses = λ d code h. ap (reported_by entity_refusal) (((laws.entities s d).fault h.0).1 h.1) ∙ ap (λ (c : ℕ). Err (error_at None c)) (sym h.2);
    refused = λ d refusal h. refused_by d refusal (entity_stated_in s d) refl h;
    other_code = λ d code h. ap (λ (c : ℕ). c == 1) h.2 ∙ entity_code s d h.0 h.1;
  }

  pub agrees : Agrees (reading_under s) (setting_under s)
  agrees = record {
    admits = λ policies. (λ h. h, λ h. h);
    rejects = λ policies refusal. (λ h. h, λ h. h);
    entities = reads;
    states = λ d q. (laws.requests s d).states q;
    faults = λ d refusal. (
      λ h. (code_of h.fault, (h.fault, ((laws.requests s d).refuses h.fault).0 h.is_fault, refl), h.is),
      λ h. record { fault = h.1.0; is_fault = ((laws.requests s d).refuses h.1.0).1 h.1.1; is = h.2 ∙ ap (error_at None) h.1.2 },
    );
    actions = refl;
  }

-- ---- the four texts

module _ (laws : Laws) (schema policies entities request : List ℕ) where
  line_stated : (line : List ℕ) → IsDecided schema policies entities request line → DescribesSchemaDecision schema policies entities request line
  line_stated line h = record {
    stated = h.stated;
    states = h.states;
    decision = ((as_stated (reading_under h.stated) (setting_under h.stated) (agrees laws h.stated) policies entities request).lines line).0 h.decided;
  }

  stated_line : (line : List ℕ) → DescribesSchemaDecision schema policies entities request line → IsDecided schema policies entities request line
  stated_line line h = record {
    stated = h.stated;
    states = h.states;
    decided = ((as_stated (reading_under h.stated) (setting_under h.stated) (agrees laws h.stated) policies entities request).lines line).1 h.decision;
  }

  refusal_stated : (refusal : Refusal) → IsSchemaDecisionRefused schema policies entities request refusal → RejectsSchemaDecision schema policies entities request refusal
  refusal_stated refusal (by_schema bad) = bad_schema bad
  refusal_stated refusal (under_schema s is bad) =
      bad_texts s is (((as_stated (reading_under s) (setting_under s) (agrees laws s) policies entities request).refusals refusal).0 bad)

  stated_refusal : (refusal : Refusal) → RejectsSchemaDecision schema policies entities request refusal → IsSchemaDecisionRefused schema policies entities request refusal
  stated_refusal refusal (bad_schema bad) = by_schema bad
  stated_refusal refusal (bad_texts s is bad) =
      under_schema s is (((as_stated (reading_under s) (setting_under s) (agrees laws s) policies entities request).refusals refusal).1 bad)

pub decisions_as_stated : Laws → DecisionsAreAsStated
decisions_as_stated laws schema policies entities request = record {
  lines = λ line. (line_stated laws schema policies entities request line, stated_line laws schema policies entities request line);
  refusals = λ refusal. (refusal_stated laws schema policies entities request refusal, stated_refusal laws schema policies entities request refusal);
}
