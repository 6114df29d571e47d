-- Attributes that were written, before those that are left.
use Rattle.std.proofs.Common.{◌≡◌, ◌∙◌, ℕ, ◌+◌, ◌<◌, ◌≤◌, Bool, Option, Some, None, option_map, String, Global, string_bytes, List, [], ◌∷◌, ◌++◌, length, drop, get_or, refl, sym, ap}
use Rattle.std.proofs.lemmas.List.{drop_all}
use Rattle.json_words.proofs.EachSame.{cut}
use Rattle.schema_types.specs.declared.cedar.CedarType.{CedarType}
use Rattle.schema_types.specs.declared.qualified.QualifiedType.{QualifiedType}
use Rattle.schema_types.specs.Cedar.{CedarFields, no_fields, field}
use Rattle.schema_types.specs.QualifiedViews.{qualified_view, qualified_fields_view}
use Rattle.schema_types.specs.CedarViews.{cedar_view, cedar_fields_view}
use Rattle.schema_types.specs.TypeTables.{TypeTable}
use Rattle.schema_types.specs.inner.Table.{written_in, fields_in}

abbrev pub Field : Type 0
Field = List ℕ × CedarType × Bool

abbrev pub before : List Field → CedarFields → CedarFields
before [] later = later
before (f ∷ fs) later = field f.0 (cedar_view f.1) f.2 (before fs later)

before_push : (fs : List Field) (f : Field) (later : CedarFields) → before (fs ++ f ∷ []) later ≡ before fs (field f.0 (cedar_view f.1) f.2 later)
before_push [] f later = refl
before_push (g ∷ fs) f later = ap (λ (l : CedarFields). field g.0 (cedar_view g.1) g.2 l) (before_push fs f later)

before_none : (fs : List Field) → before fs no_fields ≡ cedar_fields_view fs
before_none [] = refl
before_none (g ∷ fs) = ap (λ (l : CedarFields). field g.0 (cedar_view g.1) g.2 l) (before_none fs)

-- ---- a name may be missing

abbrev QualifiedField : Type 0
QualifiedField = String Global × QualifiedType × Bool

abbrev pub after : List Field → Option CedarFields → Option CedarFields
after front o = option_map (before front) o

after_push : (front : List Field) (f : Field) (o : Option CedarFields) → after front (option_map (field f.0 (cedar_view f.1) f.2) o) ≡ after (front ++ f ∷ []) o
after_push front f (Some later) = ap (λ (l : CedarFields). Some l) (sym (before_push front f later))
after_push front f None = refl

pub wrote : (known : TypeTable) (total : Option CedarFields) (front : List Field) (f : Field) (fs : List QualifiedField) (i : ℕ) (g : QualifiedField) → i < length fs → g ≡ get_or fs i g
    → f.0 ≡ string_bytes g.0 → Some (cedar_view f.1) ≡ written_in known (qualified_view g.1) → f.2 ≡ g.2
    → total ≡ after front (fields_in known (qualified_fields_view (drop i fs))) → total ≡ after (front ++ f ∷ []) (fields_in known (qualified_fields_view (drop (i + 1) fs)))
unfolding written_in
wrote known total front f fs i g lt at key type required so_far =
    so_far ∙ ap (λ (l : List QualifiedField). after front (fields_in known (qualified_fields_view l))) (cut fs i g lt at) ∙ rw (← key, ← type, ← required) (after_push front f (fields_in known (qualified_fields_view (drop (i + 1) fs))))

pub lacks : (known : TypeTable) (total : Option CedarFields) (front : List Field) (fs : List QualifiedField) (i : ℕ) (g : QualifiedField) → i < length fs → g ≡ get_or fs i g
    → None ≡ written_in known (qualified_view g.1) → total ≡ after front (fields_in known (qualified_fields_view (drop i fs))) → None ≡ total
unfolding written_in
lacks known total front fs i g lt at missing so_far =
    sym (so_far ∙ ap (λ (l : List QualifiedField). after front (fields_in known (qualified_fields_view l))) (cut fs i g lt at) ∙ rw (← missing) refl)

pub all_wrote : (known : TypeTable) (total : Option CedarFields) (front : List Field) (fs : List QualifiedField) (i : ℕ) → length fs ≤ i
    → total ≡ after front (fields_in known (qualified_fields_view (drop i fs))) → Some (cedar_fields_view front) ≡ total
unfolding written_in
all_wrote known total front fs i le so_far =
    sym (so_far ∙ ap (λ (l : List QualifiedField). after front (fields_in known (qualified_fields_view l))) (drop_all i fs le) ∙ ap (λ (l : CedarFields). Some l) (before_none front))
