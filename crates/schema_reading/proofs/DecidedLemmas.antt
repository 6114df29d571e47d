-- Which types mean no record is decided, and so bytes state a file or are refused.
use Rattle.std.proofs.Common.{◌≡◌, ◌∙◌, ◌⊎◌, inl, inr, ℕ, zero, suc, ◌+◌, ◌<◌, ◌≤◌, List, [], ◌∷◌, Bool, true, false, cond, Option, Some, None, Result, Ok, Err, refl, sym, ap, arith, true≢false}
use Rattle.std.specs.Prelude.{◌||◌, Contains}
use Rattle.std.specs.Str.{bytes_eq}
use Rattle.std.proofs.lemmas.Bool.{cases_Bool}
use Rattle.std.proofs.lemmas.Slice.Eq.{bytes_eq-Decides}
use Rattle.serde_json.specs.Data.{Data}
use Rattle.json_words.specs.Json.{json_of}
use Rattle.plain.proofs.Members.{Contains-here, Contains-there, Contains-cases}
use Rattle.schema_types.specs.declared.fault.SchemaFault.{SchemaFault}
use Rattle.schema_reading.specs.FileForm.{NamespaceOf, stated}
use Rattle.schema_reading.specs.Qualifying.{CommonOf, commons_declared, scope_in, ResolvedSchema, qualified}
use Rattle.schema_reading.specs.Records.{SomeIsNoRecord}
use Rattle.schema_reading.specs.inner.Spreading.{is_known_non_record, NamesNoRecord, ReportsRecords, are_records}
use Rattle.schema_reading.specs.Naming.{no_record, unknown, not_json, bad_shape, bad_names}
use Rattle.schema_reading.specs.Laws.{NamesOrRefusal, SomeOutcome, states, refused}
use Rattle.schema_reading.proofs.FollowLemmas.{Known, IsSo, IsDone, found_so, all_found}
use Rattle.schema_reading.proofs.RecordLemmas.{all_records, some_record}

module _ (ns : List NamespaceOf) where
  -- ---- one name more, until none is left

  adding : List ℕ → Known → Known
  adding q known p = bytes_eq q p || known p

  unfound : Known → List CommonOf → ℕ
  unfound known [] = 0
  unfound known (c ∷ cs) = cond (known c.name) 0 1 + unfound known cs

  no_more : (q : List ℕ) (known : Known) (cs : List CommonOf) → unfound (adding q known) cs ≤ unfound known cs
  unfolding unfound adding
  no_more q known [] = omega arith
  no_more q known (c ∷ cs) = by (bytes_eq q c.name) (known c.name) (no_more q known cs)
    where
      by : (a b : Bool) {m n : ℕ} → m ≤ n → cond (a || b) 0 1 + m ≤ cond b 0 1 + n
      by true true le = omega (arith, le)
      by true false le = omega (arith, le)
      by false true le = omega (arith, le)
      by false false le = omega (arith, le)

  same_name : (q p : List ℕ) → q ≡ p → bytes_eq q p ≡ true
  same_name q p e = (bytes_eq-Decides q p).1 e

  one_less : (c : CommonOf) (known : Known) (cs : List CommonOf) → Contains cs c → known c.name ≡ false → unfound (adding c.name known) cs < unfound known cs
  unfolding unfound adding
  one_less c known [] (k, lt, e) none = absurd (omega (arith, lt))
  one_less c known (d ∷ cs) here none = by (Contains-cases d cs c here) (no_more c.name known cs) (λ later. one_less c known cs later none)
    where
      first : (a b : Bool) {m n : ℕ} → a ≡ true → b ≡ false → m ≤ n → cond (a || b) 0 1 + m < cond b 0 1 + n
      first true true x y le = absurd (true≢false y)
      first true false x y le = omega (arith, le)
      first false b x y le = absurd (true≢false (sym x))

      rest : (a b : Bool) {m n : ℕ} → m < n → cond (a || b) 0 1 + m < cond b 0 1 + n
      rest true true lt = omega (arith, lt)
      rest true false lt = omega (arith, lt)
      rest false true lt = omega (arith, lt)
      rest false false lt = omega (arith, lt)

      by : (d ≡ c) ⊎ Contains cs c → unfound (adding c.name known) cs ≤ unfound known cs → (Contains cs c → unfound (adding c.name known) cs < unfound known cs)
          → unfound (adding c.name known) (d ∷ cs) < unfound known (d ∷ cs)
      by (inl same) le later = first (bytes_eq c.name d.name) (known d.name) (same_name c.name d.name (ap (λ (x : CommonOf). x.name) (sym same))) (ap (λ (x : CommonOf). known x.name) same ∙ none) le
      by (inr there) le later = rest (bytes_eq c.name d.name) (known d.name) (later there)

  -- one that is to be added
  abbrev Next : Known → List CommonOf → Type 0
  Next known cs = (c : CommonOf) × Contains cs c × (is_known_non_record known (scope_in ns) c.own c.type ≡ true) × (known c.name ≡ false)

  search_in : (known : Known) (cs : List CommonOf) → IsDone ns known cs ⊎ Next known cs
  search_in known [] = inl (λ c here m. none c here)
    where
      none : {B : Type 0} (c : CommonOf) → Contains [] c → B
      none c (k, lt, e) = absurd (omega (arith, lt))
  search_in known (d ∷ cs) = by (cases_Bool (is_known_non_record known (scope_in ns) d.own d.type)) (cases_Bool (known d.name)) (search_in known cs)
    where
      more : IsDone ns known cs → (is_known_non_record known (scope_in ns) d.own d.type ≡ true → known d.name ≡ true) → (c : CommonOf) → (d ≡ c) ⊎ Contains cs c → is_known_non_record known (scope_in ns) c.own c.type ≡ true → known c.name ≡ true
      more done one c (inl same) m = ap (λ (x : CommonOf). known x.name) (sym same) ∙ one (ap (λ (x : CommonOf). is_known_non_record known (scope_in ns) x.own x.type) same ∙ m)
      more done one c (inr there) m = done c there m

      late : (is_known_non_record known (scope_in ns) d.own d.type ≡ true → known d.name ≡ true) → IsDone ns known cs ⊎ Next known cs → IsDone ns known (d ∷ cs) ⊎ Next known (d ∷ cs)
      late one (inl done) = inl (λ c here m. more done one c (Contains-cases d cs c here) m)
      late one (inr (c, there, m, none)) = inr (c, Contains-there d cs c there, m, none)

      by : (is_known_non_record known (scope_in ns) d.own d.type ≡ true) ⊎ (is_known_non_record known (scope_in ns) d.own d.type ≡ false) → (known d.name ≡ true) ⊎ (known d.name ≡ false) → IsDone ns known cs ⊎ Next known cs
          → IsDone ns known (d ∷ cs) ⊎ Next known (d ∷ cs)
      by (inl m) (inr none) rest = inr (d, Contains-here d cs, m, none)
      by (inl m) (inl there) rest = late (λ x. there) rest
      by (inr n) there rest = late (λ x. absurd (true≢false (sym x ∙ n))) rest

  added_so : (known : Known) (c : CommonOf) → Contains (commons_declared ns) c → is_known_non_record known (scope_in ns) c.own c.type ≡ true → IsSo ns known → IsSo ns (adding c.name known)
  unfolding adding
  added_so known c here m so q is = by (bytes_eq c.name q) refl is
    where
      by : (b : Bool) → bytes_eq c.name q ≡ b → (b || known q) ≡ true → NamesNoRecord ns q
      by true e there = record { common = c; declared = here; is = (bytes_eq-Decides c.name q).0 e; means = found_so ns known c.own c.type so m }
      by false e there = so q there

  abbrev Settled : Type 0
  Settled = (k : Known) × IsSo ns k × IsDone ns k (commons_declared ns)

  last : (known : Known) → unfound known (commons_declared ns) ≤ 0 → IsSo ns known → IsDone ns known (commons_declared ns) ⊎ Next known (commons_declared ns) → Settled
  last known le so (inl done) = (known, so, done)
  last known le so (inr (c, here, m, none)) = let lt = one_less c known (commons_declared ns) here none in absurd (omega (arith, lt, le))

  more : (n : ℕ) (known : Known) → unfound known (commons_declared ns) ≤ suc n → IsSo ns known → IsDone ns known (commons_declared ns) ⊎ Next known (commons_declared ns)
      → ((k : Known) → unfound k (commons_declared ns) ≤ n → IsSo ns k → Settled) → Settled
  more n known le so (inl done) next = (known, so, done)
  more n known le so (inr (c, here, m, none)) next =
      let lt = one_less c known (commons_declared ns) here none in
      next (adding c.name known) (omega (arith, lt, le)) (added_so known c here m so)

  settle : (n : ℕ) (known : Known) → unfound known (commons_declared ns) ≤ n → IsSo ns known → Settled
  settle zero known le so = last known le so (search_in known (commons_declared ns))
  settle (suc n) known le so = more n known le so (search_in known (commons_declared ns)) (λ k l h. settle n k l h)

  -- ---- so it is decided

  pub records_decided : (SomeIsNoRecord ns → ⊥) ⊎ SomeIsNoRecord ns
  records_decided =
      let k = settle (unfound (λ q. false) (commons_declared ns)) (λ q. false) (omega arith) (λ q e. absurd (true≢false (sym e))) in
      let tells : ReportsRecords ns k.0 = record { sound = λ own r m. found_so ns k.0 own r k.1 m; complete = all_found ns k.0 k.2 } in
      by k.0 tells (cases_Bool (are_records k.0 (scope_in ns) ns))
    where
      by : (known : Known) → ReportsRecords ns known → (are_records known (scope_in ns) ns ≡ true) ⊎ (are_records known (scope_in ns) ns ≡ false) → (SomeIsNoRecord ns → ⊥) ⊎ SomeIsNoRecord ns
      by known t (inl all) = inl (all_records ns known t all)
      by known t (inr not_all) = inr (some_record ns known t not_all)

-- ---- bytes state a file, or are refused

by_names : (bytes : List ℕ) (d : Data) (ns : List NamespaceOf) (r : Result ResolvedSchema SchemaFault) → json_of bytes ≡ Some d → stated d ≡ Ok ns → qualified ns ≡ r → (SomeIsNoRecord ns → ⊥) ⊎ SomeIsNoRecord ns → NamesOrRefusal bytes
by_names bytes d ns r json shape found (inr some) = refused _ (bad_names d ns _ json shape (no_record some))
by_names bytes d ns (Ok s) json shape found (inl none) = states s (record { value = d; namespaces = ns; json = json; shape = shape; named = record { records = none; found = found } })
by_names bytes d ns (Err f) json shape found (inl none) = refused f (bad_names d ns f json shape (unknown f none found))

by_shape : (bytes : List ℕ) (d : Data) (r : Result (List NamespaceOf) SchemaFault) → json_of bytes ≡ Some d → stated d ≡ r → NamesOrRefusal bytes
by_shape bytes d (Ok ns) json shape = by_names bytes d ns (qualified ns) json shape refl (records_decided ns)
by_shape bytes d (Err f) json shape = refused f (bad_shape d f json shape)

by_json : (bytes : List ℕ) (o : Option Data) → json_of bytes ≡ o → NamesOrRefusal bytes
by_json bytes (Some d) json = by_shape bytes d (stated d) json refl
by_json bytes None json = refused _ (not_json json)

pub some_outcome : SomeOutcome
some_outcome bytes = by_json bytes (json_of bytes) refl
