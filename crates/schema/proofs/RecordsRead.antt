-- Which types are not records: what the contracts cite, as the relation.
use Rattle.std.proofs.Common.{◌≡◌, ◌∙◌, ℕ, List, map, true, Option, Some, None, refl, sym, ap, subst, inl, inr}
use Rattle.std.specs.Prelude.{◌⊎◌, Contains, is_some}
use Rattle.schema_types.specs.Raw as raw
use Rattle.schema_types.specs.Raw.{Raw}
use Rattle.schema_types.specs.Qualified.{Qualified}
use Rattle.schema_types.specs.Names.{full_name, found, built_in, or_entity}
use Rattle.schema_reading.specs.FileForm.{NamespaceOf}
use Rattle.schema_reading.specs.Qualifying.{CommonOf, common_in, commons_declared, scope_in}
use Rattle.schema_reading.specs.Records.{common_meant, is_no_record, MeansNoRecord, HasContext, MustBeRecord, SomeIsNoRecord}
use Rattle.schema_reading.specs.Records as means
use Rattle.schema_reading.proofs.FoundLemmas.{all_of_from, all_of_to, map_from, map_to}
use Rattle.schema.specs.NamesResolved.{IsCommon, IsEntityType, Means, MeansNone}
use Rattle.schema.specs.NoRecords.{IsNoRecord, SomeIsNotRecord}
use Rattle.schema.specs.NoRecords as says
use Rattle.schema.proofs.Steps.{some_is, none_some}
use Rattle.schema.proofs.NamesRead.{common_found, common_lost, common_known, entity_found, entity_lost, entity_known, built_in_is, is_primitive}

module _ (ns : List NamespaceOf) where
  -- what a look-up gives is what the name means
  found_by : (own : Option (List ℕ)) (w q : List ℕ) → ((p : List ℕ) × Means (IsCommon ns) own w p) ⊎ MeansNone (IsCommon ns) own w
      → found (scope_in ns).commons own w ≡ Some q → Means (IsCommon ns) own w q
  found_by own w q (inl h) e = subst (λ (p : List ℕ). Means (IsCommon ns) own w p) (some_is h.0 q (sym (common_found ns own w h.0 h.1) ∙ e)) h.1
  found_by own w q (inr none) e = absurd (none_some q (found (scope_in ns).commons own w) (common_lost ns own w none) e)

  found_means : (own : Option (List ℕ)) (w q : List ℕ) → found (scope_in ns).commons own w ≡ Some q → Means (IsCommon ns) own w q
  found_means own w q e = found_by own w q (common_known ns own w) e

  lost_means : (own : Option (List ℕ)) (w : List ℕ) → found (scope_in ns).commons own w ≡ None → MeansNone (IsCommon ns) own w
  lost_means own w e q h = none_some q (found (scope_in ns).commons own w) e (common_found ns own w q h)

  -- the declaration of a common type
  abbrev Declared : CommonOf → Type 0
  Declared c = (n : NamespaceOf) × Contains ns n × ((d : List ℕ × Raw) × Contains n.commons d × (common_in n.name d ≡ c))

  declared_at : (c : CommonOf) → Contains (commons_declared ns) c → Declared c
  declared_at c stands =
      let h = all_of_from (λ (n : NamespaceOf). map (λ (d : List ℕ × Raw). common_in n.name d) n.commons) ns c stands in
      (h.0, h.1, map_from (λ (d : List ℕ × Raw). common_in h.0.name d) h.0.commons c h.2)

  is_declared : (n : NamespaceOf) (d : List ℕ × Raw) → Contains ns n → Contains n.commons d → Contains (commons_declared ns) (common_in n.name d)
  is_declared n d stands inside =
      all_of_to (λ (m : NamespaceOf). map (λ (x : List ℕ × Raw). common_in m.name x) m.commons) ns n (common_in n.name d) stands (map_to (λ (x : List ℕ × Raw). common_in n.name x) n.commons d inside)

  -- ---- what is no record by the contracts is none by the relation

  primitive_no_record : (own : Option (List ℕ)) (w : List ℕ) → MeansNone (IsCommon ns) own w → MeansNone (IsEntityType ns) own w → (o : Option Qualified) → built_in w ≡ o → is_some o ≡ true
      → IsNoRecord ns own (raw.entity_or_common w)
  primitive_no_record own w none nor (Some t) e h = says.either_primitive own w t none nor (is_primitive w t e)
  primitive_no_record own w none nor None e h = absurd cc

  either_no_record : (own : Option (List ℕ)) (w : List ℕ) → MeansNone (IsCommon ns) own w → ((q : List ℕ) × Means (IsEntityType ns) own w q) ⊎ MeansNone (IsEntityType ns) own w
      → is_some (or_entity (found (scope_in ns).entities own w) (built_in w)) ≡ true → IsNoRecord ns own (raw.entity_or_common w)
  either_no_record own w none (inl h) e = says.either_entity own w h.0 none h.1
  either_no_record own w none (inr nor) e =
      primitive_no_record own w none nor (built_in w) refl (ap (λ (o : Option (List ℕ)). is_some (or_entity o (built_in w))) (sym (entity_lost ns own w nor)) ∙ e)

  form_is : (own : Option (List ℕ)) (r : Raw) → common_meant (scope_in ns) own r ≡ None → is_no_record (scope_in ns) own r ≡ true → IsNoRecord ns own r
  form_is own raw.text none bad = says.text own
  form_is own raw.long none bad = says.long own
  form_is own raw.boolean none bad = says.boolean own
  form_is own raw.decimal none bad = says.decimal own
  form_is own raw.ipaddr none bad = says.ipaddr own
  form_is own (raw.set r) none bad = says.set own r
  form_is own (raw.record_of rs) none bad = absurd cc
  form_is own (raw.entity w) none bad = says.entity own w
  form_is own (raw.common w) none bad = absurd cc
  form_is own (raw.entity_or_common w) none bad = either_no_record own w (lost_means own w none) (entity_known ns own w) bad

  abbrev NoRecordIn : CommonOf → Type 0
  NoRecordIn c = IsNoRecord ns c.own c.type

  named_is : (own : Option (List ℕ)) (r : Raw) (n : NamespaceOf) (d : List ℕ × Raw) → common_meant (scope_in ns) own r ≡ Some (full_name n.name d.0)
      → Contains ns n → Contains n.commons d → IsNoRecord ns n.name d.1 → IsNoRecord ns own r
  named_is own raw.text n d at stands inside h = absurd cc
  named_is own raw.long n d at stands inside h = absurd cc
  named_is own raw.boolean n d at stands inside h = absurd cc
  named_is own raw.decimal n d at stands inside h = absurd cc
  named_is own raw.ipaddr n d at stands inside h = absurd cc
  named_is own (raw.set r) n d at stands inside h = absurd cc
  named_is own (raw.record_of rs) n d at stands inside h = absurd cc
  named_is own (raw.entity w) n d at stands inside h = absurd cc
  named_is own (raw.common w) n d at stands inside h = says.common own w n d stands inside (found_means own w (full_name n.name d.0) at) h
  named_is own (raw.entity_or_common w) n d at stands inside h = says.either_common own w n d stands inside (found_means own w (full_name n.name d.0) at) h

  through : (own : Option (List ℕ)) (r : Raw) (c : CommonOf) → common_meant (scope_in ns) own r ≡ Some c.name → Declared c → NoRecordIn c → IsNoRecord ns own r
  through own r c at (n, stands, d) h =
      named_is own r n d.0 (at ∙ ap (λ (x : CommonOf). Some x.name) (sym d.2)) stands d.1 (subst NoRecordIn (sym d.2) h)

  no_record_is : (own : Option (List ℕ)) (r : Raw) → MeansNoRecord ns own r → IsNoRecord ns own r
  no_record_is own r (means.form o s none bad) = form_is o s none bad
  no_record_is own r (means.named o s c at stands rest) = through o s c at (declared_at c stands) (no_record_is c.own c.type rest)

  -- ---- and the other way round

  is_no_record_by : (own : Option (List ℕ)) (r : Raw) → IsNoRecord ns own r → MeansNoRecord ns own r
  is_no_record_by own r (says.text o) = means.form o raw.text refl refl
  is_no_record_by own r (says.long o) = means.form o raw.long refl refl
  is_no_record_by own r (says.boolean o) = means.form o raw.boolean refl refl
  is_no_record_by own r (says.decimal o) = means.form o raw.decimal refl refl
  is_no_record_by own r (says.ipaddr o) = means.form o raw.ipaddr refl refl
  is_no_record_by own r (says.set o s) = means.form o (raw.set s) refl refl
  is_no_record_by own r (says.entity o w) = means.form o (raw.entity w) refl refl
  is_no_record_by own r (says.common o w n c stands inside m rest) =
      means.named o (raw.common w) (common_in n.name c) (common_found ns o w (full_name n.name c.0) m) (is_declared n c stands inside) (is_no_record_by n.name c.1 rest)
  is_no_record_by own r (says.either_common o w n c stands inside m rest) =
      means.named o (raw.entity_or_common w) (common_in n.name c) (common_found ns o w (full_name n.name c.0) m) (is_declared n c stands inside) (is_no_record_by n.name c.1 rest)
  is_no_record_by own r (says.either_entity o w q none m) =
      means.form o (raw.entity_or_common w) (common_lost ns o w none) (ap (λ (x : Option (List ℕ)). is_some (or_entity x (built_in w))) (entity_found ns o w q m))
  is_no_record_by own r (says.either_primitive o w t none nor is) =
      means.form o (raw.entity_or_common w) (common_lost ns o w none)
      (ap (λ (x : Option (List ℕ)). is_some (or_entity x (built_in w))) (entity_lost ns o w nor) ∙ ap is_some (built_in_is w t is))

  -- ---- shapes and contexts

  standing : (n : NamespaceOf) (r : Raw) → Contains ns n → IsNoRecord ns n.name r → MustBeRecord n r → SomeIsNotRecord ns
  standing n r stands h (inl e) = says.shape n e.0 r stands e.1 e.2 h
  standing n r stands h (inr a) = says.context n a.0 a.2.0 r stands a.1 a.2.1 a.2.2 h

  pub some_is_not : SomeIsNoRecord ns → SomeIsNotRecord ns
  some_is_not h = standing h.namespace h.type h.stated (no_record_is h.namespace.name h.type h.means) h.stands

  pub not_some : SomeIsNotRecord ns → SomeIsNoRecord ns
  not_some (says.shape n e r stands inside at h) = record {
    namespace = n;
    type = r;
    stated = stands;
    stands = inl (e, inside, at);
    means = is_no_record_by n.name r h;
  }
  not_some (says.context n a u r stands inside applied at h) = record {
    namespace = n;
    type = r;
    stated = stands;
    stands = inr (a, inside, (u, applied, at));
    means = is_no_record_by n.name r h;
  }
