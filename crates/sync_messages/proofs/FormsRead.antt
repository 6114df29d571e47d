-- Bytes of a form, read by their version, their form and their schema, in this order.
use Rattle.std.proofs.Common.{◌≡◌, ◌∙◌, ℕ, List, Bool, true, false, Option, Some, None, Ok, Err, refl, sym, ap, subst, inl, inr}
use Rattle.std.specs.Prelude.{◌⊎◌, ◌==◌, codes, if◌then◌else◌}
use Rattle.std.specs.Str.{bytes_eq}
use Rattle.std.proofs.lemmas.Bool.Decides.{Decides-eqb}
use Rattle.serde_json.specs.Data.{Data}
use Rattle.json_words.specs.Ascending.{DataAscends, JsonAscends}
use Rattle.json_words.specs.Json.{json_of}
use Rattle.json_words.specs.ReadsAs.{◌>>=◌, or_fault, demand}
use Rattle.sync_format.specs.declared.version.MessageVersion.{MessageVersion}
use Rattle.sync_format.specs.declared.version.MessageVersion.TheVariants.{One, Two}
use Rattle.sync_format.specs.declared.fault.MessageFault.{MessageFault}
use Rattle.sync_format.specs.declared.fault.MessageFault.TheVariants.{NotJson, BadShape, OtherSchema, Version}
use Rattle.sync_format.specs.Summaries.{number_at, version_in}
use Rattle.sync_messages.specs.MessageForms.{HasVersion, number_of, DescribesForm, RefusesForm}
use Rattle.sync_messages.specs.MessageForms as says
use Rattle.sync_messages.proofs.Steps.{done, failed, ok_is, never, same_bytes, bytes_same, true_false, untrue, Only}
use Rattle.sync_messages.proofs.Parts.{Read, number_is, is_number, only_number}

-- ---- versions

abbrev by_number : ℕ → Read MessageVersion
by_number n = if n == 1 then Ok One else (if n == 2 then Ok Two else Err Version)

version_step : (d : Data) → version_in d ≡ (number_at (codes "version") d >>= by_number)
unfolding version_in
version_step d = refl

is_version : (version : MessageVersion) (d : Data) → HasVersion d (number_of version) → version_in d ≡ done version
is_version One d at = version_step d ∙ ap (λ (r : Read ℕ). r >>= by_number) (is_number (codes "version") d 1 at)
is_version Two d at = version_step d ∙ ap (λ (r : Read ℕ). r >>= by_number) (is_number (codes "version") d 2 at)

not_equal : (m n : ℕ) → (m ≡ n → ⊥) → (m == n) ≡ false
not_equal m n other = untrue (m == n) (λ h. other ((Decides-eqb m n).0 h))

neither : (n : ℕ) → (n ≡ 1 → ⊥) → (n ≡ 2 → ⊥) → by_number n ≡ failed Version
neither n one two = rw (not_equal n 1 one, not_equal n 2 two) refl

is_other : (d : Data) (n : ℕ) → HasVersion d n → (n ≡ 1 → ⊥) → (n ≡ 2 → ⊥) → version_in d ≡ failed Version
is_other d n at one two = version_step d ∙ ap (λ (r : Read ℕ). r >>= by_number) (is_number (codes "version") d n at) ∙ neither n one two

no_number : (d : Data) → ((n : ℕ) → HasVersion d n → ⊥) → (r : Read ℕ) → number_at (codes "version") d ≡ r → r ≡ failed BadShape
no_number d none (Ok n) e = absurd (none n (number_is (codes "version") d n e))
no_number d none (Err f) e = ap failed (only_number (codes "version") d f e)

is_none : (d : Data) → ((n : ℕ) → HasVersion d n → ⊥) → version_in d ≡ failed BadShape
is_none d none = version_step d ∙ ap (λ (r : Read ℕ). r >>= by_number) (no_number d none (number_at (codes "version") d) refl)

-- what a message states as its version
data Versions (d : Data) : Type 0 where
  known : (version : MessageVersion) → HasVersion d (number_of version) → Versions d
  other : (n : ℕ) → HasVersion d n → (n ≡ 1 → ⊥) → (n ≡ 2 → ⊥) → Versions d
  unversioned : ((n : ℕ) → HasVersion d n → ⊥) → Versions d

by_two : (d : Data) (n : ℕ) → HasVersion d n → (n ≡ 1 → ⊥) → (b : Bool) → (n == 2) ≡ b → Versions d
by_two d n at one true e = known Two (subst (HasVersion d) ((Decides-eqb n 2).0 e) at)
by_two d n at one false e = other n at one (λ h. true_false (n == 2) ((Decides-eqb n 2).1 h) e)

by_one : (d : Data) (n : ℕ) → HasVersion d n → (b : Bool) → (n == 1) ≡ b → Versions d
by_one d n at true e = known One (subst (HasVersion d) ((Decides-eqb n 1).0 e) at)
by_one d n at false e = by_two d n at (λ h. true_false (n == 1) ((Decides-eqb n 1).1 h) e) (n == 2) refl

stated_by : (d : Data) (r : Read ℕ) → number_at (codes "version") d ≡ r → Versions d
stated_by d (Ok n) e = by_one d n (number_is (codes "version") d n e) (n == 1) refl
stated_by d (Err f) e = unversioned (λ n at. never n f (sym (is_number (codes "version") d n at) ∙ e))

versions : (d : Data) → Versions d
versions d = stated_by d (number_at (codes "version") d) refl

-- ---- a form

-- `Reader shape`: `shape` reads a form, whatever the schema
module _ {A : Type 0} (Form : Data → List ℕ → A → Type 0) (shape : MessageVersion → Data → Read (List ℕ × A)) where
  pub record IsReader : Type 0 where
    pub form_is : (version : MessageVersion) (d : Data) → DataAscends d → (p : List ℕ × A) → HasVersion d (number_of version) → shape version d ≡ done p → Form d p.0 p.1
    pub is_form : (d : Data) (schema : List ℕ) (a : A) → Form d schema a → (version : MessageVersion) × HasVersion d (number_of version) × (shape version d ≡ done (schema, a))
    pub only_form : (version : MessageVersion) (d : Data) → Only BadShape (shape version d)

  abbrev of_schema : List ℕ → List ℕ × A → Read A
  of_schema label p = demand OtherSchema (bytes_eq p.0 label) >>= λ same. Ok p.1

  abbrev pub value_read : List ℕ → Data → Read A
  value_read label d = version_in d >>= λ version. shape version d >>= of_schema label

  abbrev pub form_read : List ℕ → List ℕ → Read A
  form_read label bytes = or_fault NotJson (json_of bytes) >>= λ d. value_read label d

  module _ (reader : IsReader) (ascends : JsonAscends) (label bytes : List ℕ) where
    json_step : (d : Data) → json_of bytes ≡ Some d → form_read label bytes ≡ value_read label d
    json_step d e = ap (λ (o : Option Data). or_fault NotJson o >>= λ x. value_read label x) e

    version_read : (d : Data) (r : Read MessageVersion) → version_in d ≡ r → value_read label d ≡ (r >>= λ version. shape version d >>= of_schema label)
    version_read d r e = ap (λ (x : Read MessageVersion). x >>= λ version. shape version d >>= of_schema label) e

    shape_read : (version : MessageVersion) (d : Data) (r : Read (List ℕ × A)) → HasVersion d (number_of version) → shape version d ≡ r → value_read label d ≡ (r >>= of_schema label)
    shape_read version d r at e = version_read d (done version) (is_version version d at) ∙ ap (λ (x : Read (List ℕ × A)). x >>= of_schema label) e

    whole : (d : Data) (schema : List ℕ) (a : A) → json_of bytes ≡ Some d → Form d schema a → form_read label bytes ≡ of_schema label (schema, a)
    whole d schema a e form =
        let h = reader.is_form d schema a form in
        json_step d e ∙ shape_read h.0 d (done (schema, a)) h.1 h.2

    pub states : (a : A) → DescribesForm Form label bytes a → form_read label bytes ≡ done a
    states a h = whole h.value label a h.json h.form ∙ ap (λ (b : Bool). demand OtherSchema b >>= λ same. done a) (same_bytes label label refl)

    no_form : (version : MessageVersion) (d : Data) → DataAscends d → HasVersion d (number_of version) → ((schema : List ℕ) (a : A) → Form d schema a → ⊥) → (r : Read (List ℕ × A))
        → shape version d ≡ r → r ≡ failed BadShape
    no_form version d asc at none (Ok p) e = absurd (none p.0 p.1 (reader.form_is version d asc p at e))
    no_form version d asc at none (Err f) e = ap failed (reader.only_form version d f e)

    pub refuses : (f : MessageFault) → RefusesForm Form label bytes f → form_read label bytes ≡ failed f
    refuses f (says.not_json e) = ap (λ (o : Option Data). or_fault NotJson o >>= λ x. value_read label x) e
    refuses f (says.no_version d e none) = json_step d e ∙ version_read d (failed BadShape) (is_none d none)
    refuses f (says.other_version d n e at one two) = json_step d e ∙ version_read d (failed Version) (is_other d n at one two)
    refuses f (says.other_form d version e at none) =
        json_step d e ∙ shape_read version d (failed BadShape) at (no_form version d (ascends bytes d e) at none (shape version d) refl)
    refuses f (says.other_schema d schema a e form apart) =
        whole d schema a e form ∙ ap (λ (b : Bool). demand OtherSchema b >>= λ same. done a) (untrue (bytes_eq schema label) (λ h. apart (bytes_same schema label h)))

    abbrev pub Outcome : Type 0
    Outcome = ((a : A) × DescribesForm Form label bytes a) ⊎ ((f : MessageFault) × RefusesForm Form label bytes f)

    by_schema : (d : Data) → json_of bytes ≡ Some d → (schema : List ℕ) (a : A) → Form d schema a → (b : Bool) → bytes_eq schema label ≡ b → Outcome
    by_schema d e schema a form true same = inl (a, record { value = d; json = e; form = subst (λ (l : List ℕ). Form d l a) (bytes_same schema label same) form })
    by_schema d e schema a form false same = inr (OtherSchema, says.other_schema d schema a e form (λ h. true_false (bytes_eq schema label) (same_bytes schema label h) same))

    by_shape : (d : Data) → json_of bytes ≡ Some d → (version : MessageVersion) → HasVersion d (number_of version) → (r : Read (List ℕ × A)) → shape version d ≡ r → Outcome
    by_shape d e version at (Ok p) s = by_schema d e p.0 p.1 (reader.form_is version d (ascends bytes d e) p at s) (bytes_eq p.0 label) refl
    by_shape d e version at (Err f) s = inr (BadShape, says.other_form d version e at (λ schema a form. none_formed d version at f s schema a form))
      where
        none_formed : (x : Data) (v : MessageVersion) → HasVersion x (number_of v) → (g : MessageFault) → shape v x ≡ failed g → (schema : List ℕ) (a : A) → Form x schema a → ⊥
        none_formed x v there g wrong schema a form =
            let h = reader.is_form x schema a form in
            let same : h.0 ≡ v = ok_is h.0 v (sym (is_version h.0 x h.1) ∙ is_version v x there) in
            never (schema, a) g (sym (subst (λ (w : MessageVersion). shape w x ≡ done (schema, a)) same h.2) ∙ wrong)

    by_version : (d : Data) → json_of bytes ≡ Some d → Versions d → Outcome
    by_version d e (known version at) = by_shape d e version at (shape version d) refl
    by_version d e (other n at one two) = inr (Version, says.other_version d n e at one two)
    by_version d e (unversioned never_at) = inr (BadShape, says.no_version d e never_at)

    by_json : (o : Option Data) → json_of bytes ≡ o → Outcome
    by_json (Some d) e = by_version d e (versions d)
    by_json None e = inr (NotJson, says.not_json e)

    pub some_form : Outcome
    some_form = by_json (json_of bytes) refl
