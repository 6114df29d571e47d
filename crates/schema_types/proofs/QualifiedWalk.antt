-- Finding the names of the attributes that are left, behind those that were found.
use Rattle.std.proofs.Common.{◌≡◌, ◌∙◌, ℕ, ◌+◌, ◌<◌, ◌≤◌, Bool, Option, String, Global, string_bytes, List, [], ◌∷◌, ◌++◌, length, drop, get_or, Result, Ok, Err, refl, sym, ap}
use Rattle.std.proofs.lemmas.List.{drop_all}
use Rattle.json_words.specs.ReadsAs.{◌>>=◌, Fails}
use Rattle.schema_types.specs.declared.fault.SchemaFault.TheVariants.{NoMemory}
use Rattle.schema_types.specs.declared.fault.SchemaFault.{SchemaFault}
use Rattle.schema_types.specs.declared.raw.RawType.{RawType}
use Rattle.schema_types.specs.declared.qualified.QualifiedType.{QualifiedType}
use Rattle.schema_types.specs.Qualified.{QualifiedFields, no_fields, field}
use Rattle.schema_types.specs.Views.{raw_view, fields_view}
use Rattle.schema_types.specs.QualifiedViews.{qualified_view, qualified_fields_view}
use Rattle.schema_types.specs.Names.{Scope, qualified_of, fields_of}
use Rattle.json_words.proofs.EachSame.{cut}

abbrev Field : Type 0
Field = String Global × QualifiedType × Bool

abbrev RawField : Type 0
RawField = String Global × RawType × Bool

abbrev pub before : List Field → QualifiedFields → QualifiedFields
before [] later = later
before (f ∷ fs) later = field (string_bytes f.0) (qualified_view f.1) f.2 (before fs later)

abbrev pub with_front : List Field → Result QualifiedFields SchemaFault → Result QualifiedFields SchemaFault
with_front front read = read >>= λ later. Ok (before front later)

before_push : (fs : List Field) (f : Field) (later : QualifiedFields) → before (fs ++ f ∷ []) later ≡ before fs (field (string_bytes f.0) (qualified_view f.1) f.2 later)
before_push [] f later = refl
before_push (g ∷ fs) f later = ap (λ (l : QualifiedFields). field (string_bytes g.0) (qualified_view g.1) g.2 l) (before_push fs f later)

before_none : (fs : List Field) → before fs no_fields ≡ qualified_fields_view fs
before_none [] = refl
before_none (g ∷ fs) = ap (λ (l : QualifiedFields). field (string_bytes g.0) (qualified_view g.1) g.2 l) (before_none fs)

front_push : (fs : List Field) (f : Field) (read : Result QualifiedFields SchemaFault) → with_front fs (read >>= λ later. Ok (field (string_bytes f.0) (qualified_view f.1) f.2 later)) ≡ with_front (fs ++ f ∷ []) read
front_push fs f (Ok later) = ap (λ (l : QualifiedFields). Ok l) (sym (before_push fs f later))
front_push fs f (Err e) = refl

pub goes : (s : Scope) (own : Option (List ℕ)) (total : Result QualifiedFields SchemaFault) (front : List Field) (f : Field) (fs : List RawField) (i : ℕ) (g : RawField) → i < length fs → g ≡ get_or fs i g
    → string_bytes f.0 ≡ string_bytes g.0 → qualified_of s own (raw_view g.1) ≡ Ok (qualified_view f.1) → f.2 ≡ g.2
    → total ≡ with_front front (fields_of s own (fields_view (drop i fs))) → total ≡ with_front (front ++ f ∷ []) (fields_of s own (fields_view (drop (i + 1) fs)))
unfolding qualified_of
goes s own total front f fs i g lt at key type required so_far =
    so_far ∙ ap (λ (l : List RawField). with_front front (fields_of s own (fields_view l))) (cut fs i g lt at) ∙ rw (← key, type, ← required) (front_push front f (fields_of s own (fields_view (drop (i + 1) fs))))

pub ends : (s : Scope) (own : Option (List ℕ)) (total : Result QualifiedFields SchemaFault) (front : List Field) (fs : List RawField) (i : ℕ) (g : RawField) (x : SchemaFault) → i < length fs → g ≡ get_or fs i g
    → Fails NoMemory x (qualified_of s own (raw_view g.1)) → total ≡ with_front front (fields_of s own (fields_view (drop i fs))) → Fails NoMemory x total
unfolding qualified_of
ends s own total front fs i g x lt at fails so_far other =
    so_far ∙ ap (λ (l : List RawField). with_front front (fields_of s own (fields_view l))) (cut fs i g lt at) ∙ rw (fails other) refl

pub all_found : (s : Scope) (own : Option (List ℕ)) (total : Result QualifiedFields SchemaFault) (front : List Field) (fs : List RawField) (i : ℕ) → length fs ≤ i
    → total ≡ with_front front (fields_of s own (fields_view (drop i fs))) → total ≡ Ok (qualified_fields_view front)
unfolding qualified_of
all_found s own total front fs i le so_far =
    so_far ∙ ap (λ (l : List RawField). with_front front (fields_of s own (fields_view l))) (drop_all i fs le) ∙ ap (λ (l : QualifiedFields). Ok l) (before_none front)
