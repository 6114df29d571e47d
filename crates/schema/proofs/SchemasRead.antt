-- The schema of bytes, by the relations.
use Rattle.std.proofs.Common.{◌≡◌, ℕ, List, Some, Result, sym, subst}
use Rattle.serde_json.specs.Data.{Data}
use Rattle.json_words.specs.Json.{json_of}
use Rattle.schema_types.specs.Qualified.{Qualified}
use Rattle.schema_types.specs.Expansions.{Declarations, Declares}
use Rattle.schema_types.specs.Mentions.{Leads}
use Rattle.schema_types.specs.Mentions as mentions
use Rattle.schema_types.specs.Outcome.{SomeHasNoExpansion}
use Rattle.schema_types.specs.Law.{CyclesHaveNoExpansion, WhatHasNoExpansionLeadsBack}
use Rattle.schema_types.specs.declared.fault.SchemaFault.{SchemaFault}
use Rattle.schema_types.specs.declared.fault.SchemaFault.TheVariants.{NotJson, BadShape, UnknownName, TypeCycle, ActionCycle, TypeTooLarge}
use Rattle.schema_reading.specs.FileForm.{NamespaceOf, stated}
use Rattle.schema_reading.specs.Qualifying.{ResolvedSchema, qualified}
use Rattle.schema_reading.specs.Naming.{NamesRefused, DescribesFile, IsNamingError}
use Rattle.schema_reading.specs.Naming as naming
use Rattle.schema_reading.specs.Laws.{FilesNameTheirOwn, FilesDeclareOnce}
use Rattle.schema.specs.inner.ByNaming.{IsUnsound, IsParsedAs, IsNotParsed, ParsedOrNot, SomeParsed, OneParsed, NotBothParsed, OneNotParsed, ParsedSchemasAreWellFormed, SchemasAreRead}
use Rattle.schema.specs.inner.ByNaming as parsed
use Rattle.schema.specs.Outcomes.{SchemaOrRefusal, SomeOutcome, OneSchema, NotBoth, OneRefusal}
use Rattle.schema.specs.Outcomes as outcomes
use Rattle.schema.specs.WellFormed.{StatedSchemasAreWellFormed}
use Rattle.schema.specs.StatedFiles.{DescribesNamespaces, IsNoFile}
use Rattle.schema.specs.NamesResolved.{ResolvesFile, FileHasUnknown}
use Rattle.schema.specs.Schemas.{StatedSchema, HasContent, HasDeclarations, IsSchemaOf, SomeCommonLeadsBack, RefusedFor}
use Rattle.schema.specs.Schemas as says
use Rattle.schema.specs.Laws.{DeclarationsAreRead}
use Rattle.schema.proofs.Steps.{done, failed}
use Rattle.schema.proofs.Agree.{Agrees, agreeing_gives}
use Rattle.schema.proofs.FilesRead.{Told, file_agrees}
use Rattle.schema.specs.NoRecords.{SomeIsNotRecord}
use Rattle.schema.proofs.NamesRead.{names_are_agreed}
use Rattle.schema.proofs.RecordsRead.{some_is_not, not_some}

-- the laws of common types and of the names of a file
pub record Cyclic : Type 0 where
  pub cycles : CyclesHaveNoExpansion
  pub back : WhatHasNoExpansionLeadsBack
  pub own : FilesNameTheirOwn
  pub once : FilesDeclareOnce

-- what a result says of relation and cause
module _ {A F : Type 0} (w : F) (r : Result A F) (P : A → Type 0) (N : Type 0) (agrees : Agrees w r P N) where
  value_is : (a : A) → r ≡ done a → P a
  value_is a e = ((agreeing_gives w r P N agrees).value a).0 e

  fault_is : (f : F) → r ≡ failed f → (f ≡ w) × N
  fault_is f e = ((agreeing_gives w r P N agrees).fault f).0 e

-- ---- common types that lead back to themselves

leads_from : (commons : Declarations) (p q : List ℕ) → Leads commons p q → (r : Qualified) × Declares commons p r
leads_from commons p q (mentions.step a b r d m) = (r, d)
leads_from commons p q (mentions.steps a b c r d m rest) = (r, d)

module _ (laws : Cyclic) (bytes : List ℕ) (s : ResolvedSchema) (h : DescribesFile bytes s) where
  leads_back : SomeHasNoExpansion s.commons → SomeCommonLeadsBack s
  leads_back n = let b = laws.back s.commons (laws.own bytes s h).commons n.name n.type n.declared n.has_no_expansion in (b.0, b.2)

  none_at : (q : List ℕ) (l : Leads s.commons q q) → (r : Qualified) × Declares s.commons q r → SomeHasNoExpansion s.commons
  none_at q l d = record { name = q; type = d.0; declared = d.1; has_no_expansion = laws.cycles s.commons (laws.once bytes s h).commons q l }

  has_no_expansion : SomeCommonLeadsBack s → SomeHasNoExpansion s.commons
  has_no_expansion (q, l) = none_at q l (leads_from s.commons q q l)

module _ (told : Told) (laws : Cyclic) (bytes : List ℕ) where
  content_is : (d : Data) (ns : List NamespaceOf) → json_of bytes ≡ Some d → stated d ≡ done ns → HasContent bytes ns
  content_is d ns json e = record { value = d; json = json; states = value_is BadShape (stated d) (DescribesNamespaces d) (IsNoFile d) (file_agrees told d) ns e }

  is_content : (ns : List NamespaceOf) (h : HasContent bytes ns) → stated h.value ≡ done ns
  is_content ns h = (file_agrees told h.value).states ns h.states

  resolved_is : (ns : List NamespaceOf) (s : ResolvedSchema) → qualified ns ≡ done s → ResolvesFile ns s
  resolved_is ns s e = value_is UnknownName (qualified ns) (ResolvesFile ns) (FileHasUnknown ns) (names_are_agreed ns) s e

  named_is : (s : ResolvedSchema) → DescribesFile bytes s → HasDeclarations bytes s
  named_is s h = record {
    namespaces = h.namespaces;
    content = content_is h.value h.namespaces h.json h.shape;
    records = λ n. h.named.records (not_some h.namespaces n);
    resolved = resolved_is h.namespaces s h.named.found;
  }

  is_named : (s : ResolvedSchema) → HasDeclarations bytes s → DescribesFile bytes s
  is_named s h = record {
    value = h.content.value;
    namespaces = h.namespaces;
    json = h.content.json;
    shape = is_content h.namespaces h.content;
    named = record { records = λ n. h.records (some_is_not h.namespaces n); found = (names_are_agreed h.namespaces).states s h.resolved };
  }

  schema_is : (v : StatedSchema) → IsParsedAs bytes v → IsSchemaOf bytes v
  schema_is v h = record { named = h.named; states = named_is h.named h.states; sound = h.sound; label = h.label; answers = h.answers }

  is_schema : (v : StatedSchema) → IsSchemaOf bytes v → IsParsedAs bytes v
  is_schema v h = record { named = h.named; states = is_named h.named h.states; sound = h.sound; label = h.label; answers = h.answers }

  -- ---- errors

  shape_refused : (d : Data) (f : SchemaFault) → json_of bytes ≡ Some d → (f ≡ BadShape) × IsNoFile d → RefusedFor bytes f
  shape_refused d f json h = subst (RefusedFor bytes) (sym h.0) (says.no_file d json h.1)

  unknown_refused : (ns : List NamespaceOf) (f : SchemaFault) → HasContent bytes ns → (SomeIsNotRecord ns → ⊥) → (f ≡ UnknownName) × FileHasUnknown ns → RefusedFor bytes f
  unknown_refused ns f content records h = subst (RefusedFor bytes) (sym h.0) (says.unknown_name ns content records h.1)

  names_refused : (ns : List NamespaceOf) (f : SchemaFault) → HasContent bytes ns → NamesRefused ns f → RefusedFor bytes f
  names_refused ns f content (naming.no_record n) = says.no_record ns content (some_is_not ns n)
  names_refused ns f content (naming.unknown g records e) =
      unknown_refused ns g content (λ n. records (not_some ns n)) (fault_is UnknownName (qualified ns) (ResolvesFile ns) (FileHasUnknown ns) (names_are_agreed ns) g e)

  naming_refused : (f : SchemaFault) → IsNamingError bytes f → RefusedFor bytes f
  naming_refused f (naming.not_json e) = says.not_json e
  naming_refused f (naming.bad_shape d g json e) = shape_refused d g json (fault_is BadShape (stated d) (DescribesNamespaces d) (IsNoFile d) (file_agrees told d) g e)
  naming_refused f (naming.bad_names d ns g json e n) = names_refused ns g (content_is d ns json e) n

  unsound_refused : (s : ResolvedSchema) (f : SchemaFault) → DescribesFile bytes s → IsUnsound s f → RefusedFor bytes f
  unsound_refused s f h (parsed.type_cycle none) = says.type_cycle s (named_is s h) (leads_back laws bytes s h none)
  unsound_refused s f h (parsed.action_cycle none cycle) = says.action_cycle s (named_is s h) (λ l. none (has_no_expansion laws bytes s h l)) cycle
  unsound_refused s f h (parsed.too_large none nor large) = says.too_large s (named_is s h) (λ l. none (has_no_expansion laws bytes s h l)) nor large

  refused_is : (f : SchemaFault) → IsNotParsed bytes f → RefusedFor bytes f
  refused_is f (parsed.naming g n) = naming_refused g n
  refused_is f (parsed.unsound s g h n) = unsound_refused s g h n

  is_refused : (f : SchemaFault) → RefusedFor bytes f → IsNotParsed bytes f
  is_refused f (says.not_json e) = parsed.naming NotJson (naming.not_json e)
  is_refused f (says.no_file d json n) = parsed.naming BadShape (naming.bad_shape d BadShape json ((file_agrees told d).fails n))
  is_refused f (says.no_record ns h n) = parsed.naming BadShape (naming.bad_names h.value ns BadShape h.json (is_content ns h) (naming.no_record (not_some ns n)))
  is_refused f (says.unknown_name ns h records n) =
      parsed.naming UnknownName (naming.bad_names h.value ns UnknownName h.json (is_content ns h) (naming.unknown UnknownName (λ m. records (some_is_not ns m)) ((names_are_agreed ns).fails n)))
  is_refused f (says.type_cycle s h cycle) = parsed.unsound s TypeCycle (is_named s h) (parsed.type_cycle (has_no_expansion laws bytes s (is_named s h) cycle))
  is_refused f (says.action_cycle s h none cycle) =
      parsed.unsound s ActionCycle (is_named s h) (parsed.action_cycle (λ n. none (leads_back laws bytes s (is_named s h) n)) cycle)
  is_refused f (says.too_large s h none nor large) =
      parsed.unsound s TypeTooLarge (is_named s h) (parsed.too_large (λ n. none (leads_back laws bytes s (is_named s h) n)) nor large)

-- ---- the laws

pub declarations_are_read : Told → Cyclic → DeclarationsAreRead
declarations_are_read told laws bytes s = (named_is told laws bytes s, is_named told laws bytes s)

pub schemas_are_read : Told → Cyclic → SchemasAreRead
schemas_are_read told laws bytes = record {
  states = λ v. (schema_is told laws bytes v, is_schema told laws bytes v);
  refuses = λ f. (refused_is told laws bytes f, is_refused told laws bytes f);
}

module _ (read : SchemasAreRead) where
  pub some_outcome : SomeParsed → SomeOutcome
  some_outcome some bytes = by (some bytes)
    where
      by : ParsedOrNot bytes → SchemaOrRefusal bytes
      by (parsed.parsed v h) = outcomes.states v (((read bytes).states v).0 h)
      by (parsed.not_parsed f h) = outcomes.refused f (((read bytes).refuses f).0 h)

  pub one_schema : OneParsed → OneSchema
  one_schema one bytes v w h k = one bytes v w (((read bytes).states v).1 h) (((read bytes).states w).1 k)

  pub never_both : NotBothParsed → NotBoth
  never_both both bytes v f h k = both bytes v f (((read bytes).states v).1 h) (((read bytes).refuses f).1 k)

  pub one_refusal : OneNotParsed → OneRefusal
  one_refusal one bytes f g h k = one bytes f g (((read bytes).refuses f).1 h) (((read bytes).refuses g).1 k)

  pub well_formed : ParsedSchemasAreWellFormed → StatedSchemasAreWellFormed
  well_formed formed bytes v h = formed bytes v (((read bytes).states v).1 h)
