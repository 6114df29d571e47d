-- Reading the rest of a record's attributes, behind those that were read.
use Rattle.std.proofs.Common.{◌≡◌, ◌∙◌, Bool, true, String, Global, string_bytes, List, [], ◌∷◌, ◌++◌, Result, Ok, Err, refl, sym, ap}
use Rattle.serde_json.specs.View.{view, members_view}
use Rattle.serde_json.specs.declared.value.Value.{Value}
use Rattle.json_words.specs.ReadsAs.{◌>>=◌, Fails}
use Rattle.schema_types.specs.declared.fault.SchemaFault.TheVariants.{NoMemory}
use Rattle.schema_types.specs.declared.fault.SchemaFault.{SchemaFault}
use Rattle.schema_types.specs.declared.raw.RawType.{RawType}
use Rattle.schema_types.specs.Raw.{Raw, RawFields, no_fields, field}
use Rattle.schema_types.specs.Views.{raw_view, fields_view}
use Rattle.schema_types.specs.TypeShape.{type_of, required_in, fields_in}

abbrev Field : Type 0
Field = String Global × RawType × Bool

abbrev pub before : List Field → RawFields → RawFields
before [] later = later
before (f ∷ fs) later = field (string_bytes f.0) (raw_view f.1) f.2 (before fs later)

abbrev pub with_front : List Field → Result RawFields SchemaFault → Result RawFields SchemaFault
with_front front read = read >>= λ later. Ok (before front later)

before_push : (fs : List Field) (f : Field) (later : RawFields) → before (fs ++ f ∷ []) later ≡ before fs (field (string_bytes f.0) (raw_view f.1) f.2 later)
before_push [] f later = refl
before_push (g ∷ fs) f later = ap (λ (l : RawFields). field (string_bytes g.0) (raw_view g.1) g.2 l) (before_push fs f later)

before_none : (fs : List Field) → before fs no_fields ≡ fields_view fs
before_none [] = refl
before_none (g ∷ fs) = ap (λ (l : RawFields). field (string_bytes g.0) (raw_view g.1) g.2 l) (before_none fs)

front_push : (fs : List Field) (f : Field) (read : Result RawFields SchemaFault) → with_front fs (read >>= λ later. Ok (field (string_bytes f.0) (raw_view f.1) f.2 later)) ≡ with_front (fs ++ f ∷ []) read
front_push fs f (Ok later) = ap (λ (l : RawFields). Ok l) (sym (before_push fs f later))
front_push fs f (Err e) = refl

abbrev pub Entry : Type 0
Entry = String Global × Value

abbrev needs : Entry → Result Bool SchemaFault
needs e = required_in (view e.1)

pub field_goes : (e : Entry) (left : List Entry) (front : List Field) (f : Field) (total : Result RawFields SchemaFault)
    → string_bytes f.0 ≡ string_bytes e.0 → type_of true (view e.1) ≡ Ok (raw_view f.1) → needs e ≡ Ok f.2
    → total ≡ with_front front (fields_in (members_view (e ∷ left))) → total ≡ with_front (front ++ f ∷ []) (fields_in (members_view left))
unfolding type_of
field_goes e left front f total key read required so_far = so_far ∙ rw (read, required, ← key) (front_push front f (fields_in (members_view left)))

pub field_ends : (e : Entry) (left : List Entry) (front : List Field) (total : Result RawFields SchemaFault) (x : SchemaFault)
    → Fails NoMemory x (type_of true (view e.1)) → total ≡ with_front front (fields_in (members_view (e ∷ left))) → Fails NoMemory x total
unfolding type_of
field_ends e left front total x fails so_far other = so_far ∙ rw (fails other) refl

pub required_ends : (e : Entry) (left : List Entry) (front : List Field) (t : Raw) (total : Result RawFields SchemaFault) (x : SchemaFault)
    → type_of true (view e.1) ≡ Ok t → Fails NoMemory x (needs e) → total ≡ with_front front (fields_in (members_view (e ∷ left))) → Fails NoMemory x total
unfolding type_of
required_ends e left front t total x read fails so_far other = so_far ∙ rw (read, fails other) refl

pub fields_done : (front : List Field) (total : Result RawFields SchemaFault) → total ≡ with_front front (fields_in (members_view [])) → total ≡ Ok (fields_view front)
unfolding type_of
fields_done front total so_far = so_far ∙ ap (λ (l : RawFields). Ok l) (before_none front)
