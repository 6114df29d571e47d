-- Messages of a schema: what they are told as, and what the store that they are joined into has.
use Rattle.std.specs.Prelude.{◌≡◌, ℕ, List, [], ◌++◌, Ok}
use Rattle.std.proofs.Common.{refl, sym, ap, ◌∙◌, subst}
use Rattle.schema_decisions.specs.policy_grammar.declared.policy.Policy.{Policy}
use Rattle.schema_decisions.specs.entity_data.declared.entity.Entity.{Entity}
use Rattle.sync_messages.specs.schema.SchemaEntries.{SchemaEntries}
use Rattle.sync_messages.specs.schema.Schemas.{StatedSchema}
use Rattle.sync_messages.specs.schema.Views.{schema_view}
use Rattle.stamped_store.specs.Store.{Store, Update, updates, store_of, IsStoreJoin, joined_stores}
use Rattle.sync_messages.specs.sync_format.declared.fault.MessageFault.{MessageFault}
use Rattle.sync_messages.specs.sync_format.declared.fault.MessageFault.TheVariants as fault
use Rattle.sync_messages.specs.sync_format.Summaries.{IsStamped}
use Rattle.sync_messages.specs.sync_format.Messages.{state_text, updates_stated}
use Rattle.plain.specs.AllocationErrors.{OrNoMemory}
use Rattle.sync_messages.specs.sync_format.declared.update.Update.{Update as SentUpdate}
use Rattle.sync_messages.specs.sync_format.Updates.{IsMessage, IsValid, AreInRange, AreValid, stamped}
use Rattle.sync_messages.specs.sync_format.Updates.{plain_updates}
use Rattle.sync_messages.specs.declared.texts.SchemaTexts.{SchemaTexts}
use Rattle.sync_messages.specs.Texts.{ReadsPolicy, ReadsEntity}
use Rattle.sync_messages.proofs.MessageLemmas.{message_of}
use Rattle.schema_decisions.specs.answer_lines.Refusals.{no_memory}
use Rattle.sync_messages.specs.Messages.{IsMessageFaultOf}
use Rattle.program_exchanges.specs.Messages.{message_refusal, IsMessageRefused, Joins, IsSendable}
use Rattle.program_exchanges.specs.Messages.{IsReadBack}
use Rattle.program_exchanges.specs.inner.Merging.{IsMergedUnder}
use Rattle.program_exchanges.proofs.StoreLemmas.{none_of_empty, store_all, append_all}

-- the texts of a schema, as what says what texts are read as
abbrev pub texts_of : SchemaEntries → SchemaTexts
texts_of schema = record { schema = record { ref_ptr = (0, 0); now = schema } }

-- a fault that is due is told, if it is not told as want of memory
pub told : (s : StatedSchema) (bytes : List ℕ) (f : MessageFault) → OrNoMemory fault.NoMemory (IsMessageFaultOf s bytes) f
    → (message_refusal f ≡ no_memory → ⊥) → IsMessageRefused s bytes (message_refusal f)
told s bytes f is_fault other = record { fault = f; is_fault = is_fault (λ e. other (ap message_refusal e)); is = refl }

-- ---- what is in a store

pub none_sendable : (s : StatedSchema) → IsSendable s (store_of [])
none_sendable s = record {
  in_range = subst (λ (us : List Update). AreInRange us) (sym none_of_empty) tt;
  valid = subst (λ (us : List Update). AreValid (λ id. ReadsPolicy s) (ReadsEntity s) us) (sym none_of_empty) tt;
}

pub joined_sendable : (s : StatedSchema) (m t : Store) (bytes : List ℕ) (k : ℕ) → IsSendable s m → (j : Joins s m bytes t k)
    → AreValid (λ id. ReadsPolicy s) (ReadsEntity s) (plain_updates j.received_updates) → IsSendable s t
joined_sendable s m t bytes k h j valid = record {
  in_range =
      subst (λ (x : Store). AreInRange (updates x)) (sym j.store_is)
      (store_all (λ u. IsStamped (stamped u)) (updates m ++ plain_updates j.received_updates)
      (append_all (λ u. IsStamped (stamped u)) (updates m) (plain_updates j.received_updates) h.in_range j.message.in_range));
  valid =
      subst (λ (x : Store). AreValid (λ id. ReadsPolicy s) (ReadsEntity s) (updates x)) (sym j.store_is)
      (store_all (IsValid (λ id. ReadsPolicy s) (ReadsEntity s)) (updates m ++ plain_updates j.received_updates)
      (append_all (IsValid (λ id. ReadsPolicy s) (ReadsEntity s)) (updates m) (plain_updates j.received_updates) h.valid valid));
}

-- what is written of a store whose updates are sendable is read back
pub read_back : (k : SchemaEntries) (label bytes : List ℕ) (m : Store) → label ≡ (schema_view k).label
    → ((l b : List ℕ) (us : List Update) → updates_stated l b ≡ Ok us → AreInRange us
    → AreValid (λ id. ReadsPolicy (schema_view k)) (ReadsEntity (schema_view k)) us
    → (all : List (SentUpdate Policy Entity)) × IsMessage (λ id. ReadsPolicy (schema_view k)) (ReadsEntity (schema_view k)) l b all
    × (plain_updates all ≡ us))
    → (AreInRange (updates m) → updates_stated label bytes ≡ Ok (updates m)) → IsSendable (schema_view k) m
    → IsReadBack (schema_view k) m bytes
read_back k label bytes m named law back h =
    let read = law label bytes (updates m) (back h.in_range) h.in_range h.valid in
    record { read = read.0; message = message_of k k label bytes read.0 refl named read.1; same = read.2 }

-- ---- two messages, each in a store of its own, and the join of these

-- the store of the updates that a message adds to an empty store
alone : (s : StatedSchema) (e x : Store) (bytes : List ℕ) (k : ℕ) → e ≡ store_of [] → (j : Joins s e bytes x k)
    → x ≡ store_of (plain_updates j.received_updates)
alone s e x bytes k none j =
    j.store_is ∙ ap (λ l. store_of (l ++ plain_updates j.received_updates)) (ap updates none ∙ none_of_empty)

module _
    (own : (s : Store) → store_of (updates s) ≡ s)
    (union : (us vs : List Update) → IsStoreJoin (store_of us) (store_of vs) (store_of (us ++ vs)))
    (only : (s t j : Store) → IsStoreJoin s t j → j ≡ joined_stores s t) where
  -- a join is the store of both lists of updates
  both_of : (us vs : List Update) (x y t : Store) → x ≡ store_of us → y ≡ store_of vs → IsStoreJoin x y t
      → t ≡ store_of (us ++ vs)
  both_of us vs x y t first second join =
      let other : IsStoreJoin x y (store_of (us ++ vs)) =
      subst (λ (a : Store). IsStoreJoin a y (store_of (us ++ vs))) (sym first)
      (subst (λ (b : Store). IsStoreJoin (store_of us) b (store_of (us ++ vs))) (sym second) (union us vs)) in
      only x y t join ∙ sym (only x y (store_of (us ++ vs)) other)

  both_sendable : (s : StatedSchema) (x y t : Store) → IsStoreJoin x y t → IsSendable s x → IsSendable s y → IsSendable s t
  both_sendable s x y t join h k =
      let is = both_of (updates x) (updates y) x y t (sym (own x)) (sym (own y)) join in
      record {
        in_range =
            subst (λ (m : Store). AreInRange (updates m)) (sym is)
            (store_all (λ u. IsStamped (stamped u)) (updates x ++ updates y)
            (append_all (λ u. IsStamped (stamped u)) (updates x) (updates y) h.in_range k.in_range));
        valid =
            subst (λ (m : Store). AreValid (λ id. ReadsPolicy s) (ReadsEntity s) (updates m)) (sym is)
            (store_all (IsValid (λ id. ReadsPolicy s) (ReadsEntity s)) (updates x ++ updates y)
            (append_all (IsValid (λ id. ReadsPolicy s) (ReadsEntity s)) (updates x) (updates y) h.valid k.valid));
      }

  pub merged_under : (s : StatedSchema) (e d x y t : Store) (f g text : List ℕ) (i j : ℕ) → e ≡ store_of [] → d ≡ store_of []
      → Joins s e f x i → (IsSendable s e → IsSendable s x) → Joins s d g y j → (IsSendable s d → IsSendable s y)
      → IsStoreJoin x y t → text ≡ state_text s.label t → (IsSendable s t → IsReadBack s t text) → IsMergedUnder s f g text
  merged_under s e d x y t f g text i j none nothing first first_sends second second_sends join is back =
      let us = plain_updates first.received_updates in
      let vs = plain_updates second.received_updates in
      record {
        store = t;
        both = record {
          first = first.received_updates;
          second = second.received_updates;
          first_read = first.message;
          second_read = second.message;
          store_is = both_of us vs x y t (alone s e x f i none first) (alone s d y g j nothing second) join;
        };
        text_is = is;
        reads_back =
            back (both_sendable s x y t join
            (first_sends (subst (λ (m : Store). IsSendable s m) (sym none) (none_sendable s)))
            (second_sends (subst (λ (m : Store). IsSendable s m) (sym nothing) (none_sendable s))));
      }
