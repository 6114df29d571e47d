-- From bytes to names, step by step.
use Rattle.std.proofs.Common.{◌≡◌, ◌≢◌, ◌∙◌, inl, inr, ℕ, List, map, Option, Some, None, Result, Ok, Err, MatchResult}
use Rattle.std.proofs.Common.{refl, sym, ap, subst}
use Rattle.json_words.specs.ReadsAs.{or_fault, ReadsAs, Fails}
use Rattle.json_words.specs.Json.{json_of}
use Rattle.serde_json.specs.Data.{Data}
use Rattle.schema_types.specs.declared.fault.SchemaFault.{SchemaFault}
use Rattle.schema_types.specs.declared.fault.SchemaFault.TheVariants.{NoMemory, NotJson}
use Rattle.schema_types.specs.declared.names.Names.{Names}
use Rattle.schema_reading.specs.declared.qualifying.ResolvedFile.{ResolvedFile}
use Rattle.schema_types.specs.NamesViews.{scope_of, is_action_of}
use Rattle.schema_reading.specs.FileForm.{NamespaceOf, stated}
use Rattle.schema_reading.specs.Qualifying.{together, scope_in, is_action_in, qualified_namespaces, qualified}
use Rattle.schema_reading.specs.ResolvedViews.{resolved_view}
use Rattle.schema_reading.specs.Records.{SomeIsNoRecord}
use Rattle.schema_reading.specs.inner.Adding.{Declares}
use Rattle.schema_reading.specs.inner.Spreading.{MayRefuseRecords}
use Rattle.schema_reading.specs.Naming.{IsNamed, NamesRefused, no_record, unknown, DescribesFile, IsNamingError, not_json}
use Rattle.schema_reading.specs.Naming.{bad_shape, bad_names}

pub records_refused : (ns : List NamespaceOf) (f : SchemaFault) → MayRefuseRecords ns f → f ≢ NoMemory → NamesRefused ns f
records_refused ns f (inl m) apart = absurd (apart m)
records_refused ns f (inr (b, s)) apart = subst (λ (e : SchemaFault). NamesRefused ns e) (sym b) (no_record s)

pub names_found : (ns : List NamespaceOf) (names : Names) → Declares ns names → (SomeIsNoRecord ns → ⊥) → (r : Result (List ResolvedFile) SchemaFault)
    → ReadsAs NoMemory (map resolved_view) r (qualified_namespaces (scope_of names) (is_action_of names) ns)
    → MatchResult r (λ ps. IsNamed ns (together (map resolved_view ps))) (λ f. f ≢ NoMemory → NamesRefused ns f)
unfolding qualified
names_found ns names d none (Ok ps) gives =
    let here : qualified_namespaces (scope_in ns) (is_action_in ns) ns ≡ Ok (map resolved_view ps) = (λ i. qualified_namespaces (sym d.scope i) (sym d.actions i) ns) ∙ gives in
    record { records = none; found = rw here refl }
names_found ns names d none (Err f) gives = λ apart.
    let here : qualified_namespaces (scope_in ns) (is_action_in ns) ns ≡ Err f = (λ i. qualified_namespaces (sym d.scope i) (sym d.actions i) ns) ∙ gives apart in
    unknown f none (rw here refl)

json_some : (o : Option Data) (d : Data) → or_fault NotJson o ≡ Ok d → o ≡ Some d
json_some (Some x) d h = let same : x ≡ d = cc in ap (λ (y : Data). Some y) same
json_some None d h = absurd cc

no_json : (bytes : List ℕ) (f : SchemaFault) (o : Option Data) → json_of bytes ≡ o → or_fault NotJson o ≡ Err f → IsNamingError bytes f
no_json bytes f (Some x) e h = absurd cc
no_json bytes f None e h = let same : NotJson ≡ f = cc in subst (λ (g : SchemaFault). IsNamingError bytes g) same (not_json e)

pub json_refused : (bytes : List ℕ) (f : SchemaFault) → Fails NoMemory f (or_fault NotJson (json_of bytes)) → f ≢ NoMemory → IsNamingError bytes f
json_refused bytes f fails apart = no_json bytes f (json_of bytes) refl (fails apart)

pub shape_refused : (bytes : List ℕ) (d : Data) (f : SchemaFault) → or_fault NotJson (json_of bytes) ≡ Ok d → Fails NoMemory f (stated d) → f ≢ NoMemory → IsNamingError bytes f
shape_refused bytes d f json fails apart = bad_shape d f (json_some (json_of bytes) d json) (fails apart)

pub bytes_named : (bytes : List ℕ) (d : Data) (ns : List NamespaceOf) → or_fault NotJson (json_of bytes) ≡ Ok d → stated d ≡ Ok ns → (r : Result (List ResolvedFile) SchemaFault)
    → MatchResult r (λ ps. IsNamed ns (together (map resolved_view ps))) (λ f. f ≢ NoMemory → NamesRefused ns f)
    → MatchResult r (λ ps. DescribesFile bytes (together (map resolved_view ps))) (λ f. f ≢ NoMemory → IsNamingError bytes f)
bytes_named bytes d ns json shape (Ok ps) h = record { value = d; namespaces = ns; json = json_some (json_of bytes) d json; shape = shape; named = h }
bytes_named bytes d ns json shape (Err f) h = λ apart. bad_names d ns f (json_some (json_of bytes) d json) shape (h apart)
