-- A message of a schema is read by the schema's label and its texts.
use Rattle.std.proofs.Common.{◌≡◌, ℕ, List, subst}
use Rattle.sync_format.specs.policy_grammar.declared.policy.Policy.{Policy}
use Rattle.validator.specs.schema.SchemaEntries.{SchemaEntries}
use Rattle.validator.specs.schema.Views.{schema_view}
use Rattle.validator.specs.entity_data.declared.entity.Entity.{Entity}
use Rattle.sync_format.specs.declared.fault.MessageFault.{MessageFault}
use Rattle.sync_format.specs.declared.fault.MessageFault.TheVariants as fault
use Rattle.sync_format.specs.declared.update.Update.{Update}
use Rattle.sync_format.specs.Updates.{IsMessage, IsMessageFault}
use Rattle.plain.specs.AllocationErrors.{OrNoMemory}
use Rattle.sync_messages.specs.Messages.{IsMessageOf, IsMessageFaultOf}
use Rattle.sync_messages.specs.Texts.{ReadsPolicy, RefusesPolicy, ReadsEntity, RefusesEntity}

pub message_of : (a b : SchemaEntries) (label bytes : List ℕ) (us : List (Update Policy Entity)) → a ≡ b → label ≡ (schema_view b).label
    → IsMessage (λ id. ReadsPolicy (schema_view a)) (ReadsEntity (schema_view a)) label bytes us
    → IsMessageOf (schema_view b) bytes us
message_of a b label bytes us same named h =
    subst (λ (l : List ℕ). IsMessage (λ id. ReadsPolicy (schema_view b)) (ReadsEntity (schema_view b)) l bytes us) named
    (subst (λ (k : SchemaEntries). IsMessage (λ id. ReadsPolicy (schema_view k)) (ReadsEntity (schema_view k)) label bytes us) same h)

pub fault_of : (a b : SchemaEntries) (label bytes : List ℕ) (f : MessageFault) → a ≡ b → label ≡ (schema_view b).label
    → OrNoMemory fault.NoMemory (IsMessageFault (λ id. ReadsPolicy (schema_view a)) (ReadsEntity (schema_view a))
    (λ id. RefusesPolicy (schema_view a)) (RefusesEntity (schema_view a)) label bytes) f
    → OrNoMemory fault.NoMemory (IsMessageFaultOf (schema_view b) bytes) f
fault_of a b label bytes f same named h = λ other.
    subst (λ (l : List ℕ). IsMessageFault (λ id. ReadsPolicy (schema_view b)) (ReadsEntity (schema_view b))
    (λ id. RefusesPolicy (schema_view b)) (RefusesEntity (schema_view b)) l bytes f) named
    (subst (λ (k : SchemaEntries). IsMessageFault (λ id. ReadsPolicy (schema_view k)) (ReadsEntity (schema_view k))
    (λ id. RefusesPolicy (schema_view k)) (RefusesEntity (schema_view k)) label bytes f) same (h other))
