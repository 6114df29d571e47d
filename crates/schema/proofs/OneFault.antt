-- The reading function of types has one fault.
use Rattle.std.proofs.Common.{◌≡◌, ℕ, List, Bool, true, false, cond, Option, Some, None, Result, Ok, refl, subst}
use Rattle.std.specs.Prelude.{codes}
use Rattle.std.specs.Str.{bytes_eq}
use Rattle.serde_json.specs.Data.{Data, Members, no_members, member}
use Rattle.serde_json.specs.Data as json
use Rattle.serde_json.specs.Find.{get, as_bool, as_str}
use Rattle.json_words.specs.ReadsAs.{◌>>=◌, or_fault, demand}
use Rattle.json_words.specs.Keys.{has_only}
use Rattle.values.specs.Paths.{is_path}
use Rattle.schema_types.specs.Raw as raw
use Rattle.schema_types.specs.Raw.{Raw, RawFields}
use Rattle.schema_types.specs.Forms.{form_named, keys_of}
use Rattle.schema_types.specs.Optional.{optional, required_text, truth_or, closed_in, is_false}
use Rattle.schema_types.specs.TypeShape.{type_name, name_in, reserved_type, or_path, entity_or_common, extension_named, there, by_form, formed, required_in, type_of, type_at, fields_at, attributes_of, fields_in}
use Rattle.schema_types.specs.declared.forms.Form.{Form}
use Rattle.schema_types.specs.declared.forms.Form.TheVariants.{Text, Long, Boolean, Set, Record, Entity, Extension, EntityOrCommon, Common}
use Rattle.schema_types.specs.declared.fault.SchemaFault.{SchemaFault}
use Rattle.schema_types.specs.declared.fault.SchemaFault.TheVariants.{BadShape}
use Rattle.schema.proofs.Steps.{some_is}
use Rattle.schema.proofs.Only.{Only, only_ok, only_wrong, only_bind, only_demand, only_or}

only_text : (k : List ℕ) (d : Data) → Only BadShape (required_text k d)
only_text k d = only_bind (or_fault BadShape (get k d)) (λ found. or_fault BadShape (as_str found)) (only_or BadShape (get k d)) (λ found. only_or BadShape (as_str found))

only_name : (w : List ℕ) → Only BadShape (type_name w)
unfolding type_name
only_name w = only_bind (demand BadShape (is_path w)) (λ path. Ok w) (only_demand BadShape (is_path w)) (λ path. only_ok BadShape w)

only_truth : (b : Bool) (o : Option Data) → Only BadShape (truth_or b o)
only_truth b None = only_ok BadShape b
only_truth b (Some d) = only_or BadShape (as_bool d)

pub only_closed : (o : Option Data) → Only BadShape (closed_in o)
only_closed o = only_bind (truth_or false o) (λ more. demand BadShape (is_false more)) (only_truth false o) (λ more. only_demand BadShape (is_false more))

pub only_required : (d : Data) → Only BadShape (required_in d)
only_required d = only_truth true (optional (codes "required") d)

only_path : (o : Option Raw) (w : List ℕ) → Only BadShape (or_path o w)
only_path (Some t) w = only_ok BadShape t
only_path None w = only_bind (type_name w) (λ n. Ok (raw.entity_or_common n)) (only_name w) (λ n. only_ok BadShape (raw.entity_or_common n))

abbrev OnlyAt : {A : Type 0} → Option (Result A SchemaFault) → Type 0
OnlyAt {A = A} o = (r : Result A SchemaFault) → o ≡ Some r → Only BadShape r

only_there : {A : Type 0} (o : Option (Result A SchemaFault)) → OnlyAt o → Only BadShape (there o)
only_there None h = only_wrong BadShape
only_there (Some r) h = h r refl

only_by : (f : Form) (w : List ℕ) (d : Data) (el : Option (Result Raw SchemaFault)) (fs : Option (Result RawFields SchemaFault)) → OnlyAt el → OnlyAt fs
    → Only BadShape (by_form f w d el fs)
only_by Text w d el fs one more = only_ok BadShape raw.text
only_by Long w d el fs one more = only_ok BadShape raw.long
only_by Boolean w d el fs one more = only_ok BadShape raw.boolean
only_by Set w d el fs one more = only_bind (there el) (λ t. Ok (raw.set t)) (only_there el one) (λ t. only_ok BadShape (raw.set t))
only_by Record w d el fs one more =
    only_bind (closed_in (optional (codes "additionalAttributes") d)) (λ closed. there fs >>= λ gs. Ok (raw.record_of gs)) (only_closed (optional (codes "additionalAttributes") d)) (λ closed.
    only_bind (there fs) (λ gs. Ok (raw.record_of gs)) (only_there fs more) (λ gs. only_ok BadShape (raw.record_of gs)))
only_by Entity w d el fs one more =
    only_bind (name_in d) (λ n. Ok (raw.entity n)) (only_bind (required_text (codes "name") d) type_name (only_text (codes "name") d) only_name) (λ n. only_ok BadShape (raw.entity n))
only_by Extension w d el fs one more =
    only_bind (required_text (codes "name") d) (λ n. or_fault BadShape (extension_named n)) (only_text (codes "name") d) (λ n. only_or BadShape (extension_named n))
only_by EntityOrCommon w d el fs one more =
    only_bind (required_text (codes "name") d) entity_or_common (only_text (codes "name") d) (λ n. only_path (reserved_type n) n)
only_by Common w d el fs one more = only_bind (type_name w) (λ n. Ok (raw.common n)) (only_name w) (λ n. only_ok BadShape (raw.common n))

only_formed : (a : Bool) (d : Data) (el : Option (Result Raw SchemaFault)) (fs : Option (Result RawFields SchemaFault)) → OnlyAt el → OnlyAt fs → Only BadShape (formed a d el fs)
unfolding formed
only_formed a d el fs one more =
    only_bind (required_text (codes "type") d) (λ w. demand BadShape (has_only (keys_of a (form_named w)) d) >>= λ keys. by_form (form_named w) w d el fs) (only_text (codes "type") d) (λ w.
    only_bind (demand BadShape (has_only (keys_of a (form_named w)) d)) (λ keys. by_form (form_named w) w d el fs) (only_demand BadShape (has_only (keys_of a (form_named w)) d)) (λ keys.
    only_by (form_named w) w d el fs one more))

none_at : {A : Type 0} → OnlyAt {A = A} None
none_at r e = absurd cc

at_key : {A : Type 0} (b : Bool) (here : Result A SchemaFault) (later : Option (Result A SchemaFault)) → Only BadShape here → OnlyAt later → OnlyAt (cond b (Some here) later)
at_key {A = A} true here later one more r e = subst (λ (x : Result A SchemaFault). Only BadShape x) (some_is here r e) one
at_key false here later one more r e = more r e

mutual
  unfolding type_of

  pub only_type : (a : Bool) (d : Data) → Only BadShape (type_of a d)
  only_type a json.null = only_wrong BadShape
  only_type a (json.boolean b) = only_wrong BadShape
  only_type a (json.number n) = only_wrong BadShape
  only_type a (json.string s) = only_wrong BadShape
  only_type a (json.array ds) = only_wrong BadShape
  only_type a (json.object ms) =
      only_formed a (json.object ms) (type_at (codes "element") ms) (fields_at (codes "attributes") ms) (only_type_at (codes "element") ms) (only_fields_at (codes "attributes") ms)

  only_type_at : (k : List ℕ) (ms : Members) → OnlyAt (type_at k ms)
  only_type_at k no_members = none_at
  only_type_at k (member l d ms) = at_key (bytes_eq k l) (type_of false d) (type_at k ms) (only_type false d) (only_type_at k ms)

  only_fields_at : (k : List ℕ) (ms : Members) → OnlyAt (fields_at k ms)
  only_fields_at k no_members = none_at
  only_fields_at k (member l d ms) = at_key (bytes_eq k l) (attributes_of d) (fields_at k ms) (only_attributes d) (only_fields_at k ms)

  only_attributes : (d : Data) → Only BadShape (attributes_of d)
  only_attributes json.null = only_wrong BadShape
  only_attributes (json.boolean b) = only_wrong BadShape
  only_attributes (json.number n) = only_wrong BadShape
  only_attributes (json.string s) = only_wrong BadShape
  only_attributes (json.array ds) = only_wrong BadShape
  only_attributes (json.object ms) = only_fields ms

  only_fields : (ms : Members) → Only BadShape (fields_in ms)
  only_fields no_members = only_ok BadShape raw.no_fields
  only_fields (member k d ms) =
      only_bind (type_of true d) (λ t. required_in d >>= λ required. fields_in ms >>= λ fs. Ok (raw.field k t required fs)) (only_type true d) (λ t.
      only_bind (required_in d) (λ required. fields_in ms >>= λ fs. Ok (raw.field k t required fs)) (only_required d) (λ required.
      only_bind (fields_in ms) (λ fs. Ok (raw.field k t required fs)) (only_fields ms) (λ fs. only_ok BadShape (raw.field k t required fs))))
