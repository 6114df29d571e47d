-- Checks of inputs: their errors as those of a site, and the round trip of an entity's canonical text.
use Rattle.std.specs.Prelude.{◌≡◌, ◌↔◌, ℕ, List, Bool, true, false, IsTrue, Some, None, Result, Ok, IfOk, cond}
use Rattle.std.proofs.Common.{sym, subst, refl, ap, ◌∙◌}
use Rattle.std.specs.Str.{bytes_eq, is_utf8, IsUtf8}
use Rattle.std.proofs.lemmas.Str.{IsUtf8-from_is_utf8}
use Rattle.std.proofs.lemmas.Slice.Eq.{bytes_eq-Decides}
use Rattle.serde_json.specs.Data.{Data}
use Rattle.serde_json.specs.Read.{read}
use Rattle.json_words.specs.Json.{json_of}
use Rattle.site_meaning.specs.ancestor_search.Deciding.{same_self}
use Rattle.plain.specs.Words.{IsPath}
use Rattle.site_store.specs.policy_grammar.declared.policy.Policy.{Policy}
use Rattle.site_store.specs.policy_grammar.declared.fault.ReadFault.{ReadFault}
use Rattle.site_store.specs.policy_grammar.declared.fault.ReadFault.TheVariants as reading
use Rattle.plain.specs.AllocationErrors.{OrNoMemory}
use Rattle.site_store.specs.policy_grammar.PolicyText.{IsPolicyText, IsPolicyRefused}
use Rattle.site_store.specs.schema.Schemas.{StatedSchema}
use Rattle.site_store.specs.entity_data.declared.entity.Entity.{Entity}
use Rattle.entities.specs.Canonical.{canonical_json, canonical_text}
use Rattle.entities.specs.Entities.{entity_stated_in}
use Rattle.sync_messages.specs.typing.declared.fault.TypeFault.{TypeFault}
use Rattle.sync_messages.specs.typing.declared.fault.TypeFault.TheVariants as checking
use Rattle.sync_messages.specs.validator.Passing.{Passes, IsImpossible, IsCheckRefused}
use Rattle.site_store.specs.stamped_store.declared.entry.ReadText.{ReadText}
use Rattle.sync_messages.specs.Texts.{entity_of_text, ReadsEntity}
use Rattle.site.specs.declared.fault.SiteFault.{SiteFault}
use Rattle.site.specs.declared.fault.SiteFault.TheVariants as fault
use Rattle.site.specs.Admitted.{IsEntityUnder, IsPolicyId, IsNotAdmitted, no_policy, not_passing}
use Rattle.site.specs.Faults.{of_reading, of_checking}
use Rattle.site.specs.Admitted.{IsStatedBy}
use Rattle.site.specs.inner.Recording.{IsCheckedPolicy}

module _ (s : StatedSchema) (id text : List ℕ) (named : IsPolicyId id) (utf8 : IsUtf8 text) (r : SiteFault) where
  -- a text that is not a policy's
  unread : (f : ReadFault) → IsPolicyRefused text f → r ≡ fault.Policy f → IsNotAdmitted s id text r
  unread f h e = subst (λ x. IsNotAdmitted s id text x) (sym e) (no_policy f named utf8 h)

  pub not_read : (f : ReadFault) → OrNoMemory reading.NoMemory (IsPolicyRefused text) f → r ≡ of_reading f
      → OrNoMemory fault.NoMemory (IsNotAdmitted s id text) r
  not_read reading.NoMemory h e apart = absurd (apart e)
  not_read (reading.BadToken at) h e apart = unread (reading.BadToken at) (h (λ x. cc)) e
  not_read (reading.Unexpected at) h e apart = unread (reading.Unexpected at) (h (λ x. cc)) e
  not_read (reading.NumberRange at) h e apart = unread (reading.NumberRange at) (h (λ x. cc)) e
  not_read (reading.UnknownCall at) h e apart = unread (reading.UnknownCall at) (h (λ x. cc)) e
  not_read (reading.Arity at) h e apart = unread (reading.Arity at) (h (λ x. cc)) e
  not_read (reading.RepeatedKey at) h e apart = unread (reading.RepeatedKey at) (h (λ x. cc)) e
  not_read (reading.Slot at) h e apart = unread (reading.Slot at) (h (λ x. cc)) e
  not_read (reading.TooDeep at) h e apart = unread (reading.TooDeep at) (h (λ x. cc)) e
  not_read reading.TooLong h e apart = unread reading.TooLong (h (λ x. cc)) e
  not_read reading.BadId h e apart = unread reading.BadId (h (λ x. cc)) e

  -- a policy that does not pass
  unpassed : (p : Policy) → IsPolicyText text p → (f : TypeFault) → IsCheckRefused s p f → r ≡ fault.Check f
      → IsNotAdmitted s id text r
  unpassed p is f h e = subst (λ x. IsNotAdmitted s id text x) (sym e) (not_passing p f named utf8 is h)

  pub not_passed : (p : Policy) → IsPolicyText text p → (f : TypeFault) → OrNoMemory checking.NoMemory (IsCheckRefused s p) f
      → r ≡ of_checking f → OrNoMemory fault.NoMemory (IsNotAdmitted s id text) r
  not_passed p is checking.NoMemory h e apart = absurd (apart e)
  not_passed p is checking.UnknownType h e apart = unpassed p is checking.UnknownType (h (λ x. cc)) e
  not_passed p is checking.UnknownAction h e apart = unpassed p is checking.UnknownAction (h (λ x. cc)) e
  not_passed p is checking.Unexpected h e apart = unpassed p is checking.Unexpected (h (λ x. cc)) e
  not_passed p is checking.NoCommonType h e apart = unpassed p is checking.NoCommonType (h (λ x. cc)) e
  not_passed p is checking.AttributeMayBeMissing h e apart = unpassed p is checking.AttributeMayBeMissing (h (λ x. cc)) e
  not_passed p is checking.EmptySet h e apart = unpassed p is checking.EmptySet (h (λ x. cc)) e
  not_passed p is checking.BadExtensionLiteral h e apart = unpassed p is checking.BadExtensionLiteral (h (λ x. cc)) e

-- ---- the one text of an entity

bytes_eq_same : (s : List ℕ) → bytes_eq s s ≡ true
bytes_eq_same s = (bytes_eq-Decides s s).1 refl

utf8_where : (bytes : List ℕ) (b : Bool) (d : Data) → is_utf8 bytes ≡ b → cond b (read bytes) None ≡ Some d → IsUtf8 bytes
utf8_where bytes true d is h = IsUtf8-from_is_utf8 bytes is
utf8_where bytes false d is h = absurd (cc)

-- JSON is UTF-8
pub json_utf8 : (bytes : List ℕ) (d : Data) → json_of bytes ≡ Some d → IsUtf8 bytes
unfolding json_of
json_utf8 bytes d h = utf8_where bytes (is_utf8 bytes) d refl h

-- the canonical text of an entity that JSON states is read as this entity under its uid
pub reads_again : (s : StatedSchema) (e : Entity) (text : List ℕ) → text ≡ canonical_text e
    → json_of text ≡ Some (canonical_json e) → entity_stated_in s (canonical_json e) ≡ Ok e → ReadsEntity s e.uid text e
unfolding entity_of_text
reads_again s e text is json again =
    rw json (rw again (rw is (rw (bytes_eq_same (canonical_text e)) (rw (same_self e.uid) refl))))

-- ---- a policy with its verdict
pub judged_by : {E : Type 0} → (s : StatedSchema) (id text : List ℕ) (p : Policy) (verdict : Result Bool SiteFault)
    (t : Result (List ℕ) E) (b : ReadText Policy) (impossible : Bool) → IsPolicyId id → IsUtf8 text → IsPolicyText text p
    → IfOk verdict (λ yes. Passes s p × (IsTrue yes ↔ IsImpossible s p)) → IfOk t (λ x. x ≡ text) → b.read ≡ p
    → verdict ≡ Ok impossible → t ≡ Ok b.text → IsCheckedPolicy s id text b impossible
judged_by {E} s id text p verdict t b impossible named utf8 is passes same read told kept =
    let both = subst (λ v. IfOk v (λ yes. Passes s p × (IsTrue yes ↔ IsImpossible s p))) told passes in
    record {
      same = subst (λ (v : Result (List ℕ) E). IfOk v (λ x. x ≡ text)) kept same;
      admitted = record {
        named = named;
        utf8 = utf8;
        reads = record {
          is_text = subst (λ (q : Policy). IsPolicyText text q) (sym read) is;
          passes = subst (λ (q : Policy). Passes s q) (sym read) both.0;
        };
      };
      told = subst (λ (q : Policy). IsTrue impossible ↔ IsImpossible s q) (sym read) both.1;
    }

pub stated_by : {E : Type 0} → (s : StatedSchema) (d : Data) (e : Entity) (t : Result (List ℕ) E) (b : ReadText Entity)
    → entity_stated_in s d ≡ Ok e → IsPath e.uid.type_name → IfOk t (λ x. x ≡ canonical_text e)
    → IfOk t (λ x. IsEntityUnder s e.uid x e) → b.read ≡ e → t ≡ Ok b.text → IsStatedBy s (Some d) b
stated_by {E} s d e t b states path text reads read kept = record {
  states = states ∙ ap Ok (sym read);
  path = subst (λ (x : Entity). IsPath x.uid.type_name) (sym read) path;
  canonical = subst (λ (v : Result (List ℕ) E). IfOk v (λ x. x ≡ canonical_text e)) kept text ∙ ap canonical_text (sym read);
  reads = subst (λ (x : Entity). IsEntityUnder s x.uid b.text x) (sym read)
      (subst (λ (v : Result (List ℕ) E). IfOk v (λ x. IsEntityUnder s e.uid x e)) kept reads);
}
