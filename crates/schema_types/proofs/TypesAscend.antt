-- Ascending keys stay ascending, from JSON to types written out.
use Rattle.std.proofs.Common.{◌≡◌, ℕ, List, [], ◌∷◌, Bool, true, false, cond, Option, Some, None, Result, Ok, refl, ap, sym, subst}
use Rattle.std.specs.Prelude.{codes}
use Rattle.std.specs.Str.{bytes_eq}
use Rattle.std.specs.List.Sorted.{IsStrictlySortedBy}
use Rattle.serde_json.specs.Data.{Data, null, boolean, number, string, array, object, Members, no_members, member}
use Rattle.json_words.specs.ReadsAs.{◌>>=◌, or_fault, demand}
use Rattle.json_words.specs.Keys.{has_only}
use Rattle.json_words.proofs.EachLemmas.{bind_ok}
use Rattle.schema_types.specs.Raw as raw
use Rattle.schema_types.specs.Raw.{Raw, RawFields}
use Rattle.schema_types.specs.Qualified as qualified
use Rattle.schema_types.specs.Qualified.{Qualified, QualifiedFields}
use Rattle.schema_types.specs.Cedar.{Cedar, CedarFields}
use Rattle.schema_types.specs.Forms.{form_named, keys_of}
use Rattle.schema_types.specs.Names.{Scope, found, built_in, or_entity, or_common, any_named, entity_named, common_named, qualified_of, fields_of}
use Rattle.schema_types.specs.Optional.{optional, required_text, closed_in}
use Rattle.schema_types.specs.TypeShape.{type_name, name_in, reserved_type, or_path, entity_or_common, extension_named, there, by_form, formed, required_in, type_of, type_at, fields_at, attributes_of, fields_in}
use Rattle.schema_types.specs.Expansions as written
use Rattle.schema_types.specs.Expansions.{Declarations, IsExpansion, AreFieldExpansions}
use Rattle.schema_types.specs.declared.forms.Form.{Form}
use Rattle.schema_types.specs.declared.forms.Form.TheVariants.{Text, Long, Boolean, Set, Record, Entity, Extension, EntityOrCommon, Common}
use Rattle.schema_types.specs.declared.fault.SchemaFault.{SchemaFault}
use Rattle.schema_types.specs.declared.fault.SchemaFault.TheVariants.{BadShape, UnknownName}
use Rattle.schema_types.specs.Ascending.{Ascend, member_keys, DataAscends, MembersAscend, raw_keys, RawAscends, RawFieldsAscend, qualified_keys, QualifiedAscends, QualifiedFieldsAscend, KeysAscend, FieldKeysAscend}
use Rattle.schema_types.specs.Ascending as ascending
use Rattle.schema_types.specs.AscendingLaw.{AllAscend}

abbrev ok : {A : Type 0} → A → Result A SchemaFault
ok x = Ok x

ok_same : {A : Type 0} (x y : A) → ok x ≡ ok y → x ≡ y
ok_same x y e = cc

abbrev some : {A : Type 0} → A → Option A
some x = Some x

some_same : {A : Type 0} (x y : A) → some x ≡ some y → x ≡ y
some_same x y e = cc

none_some : {B A : Type 0} {x : A} → None ≡ some x → B
none_some e = absurd cc

some_there : {A : Type 0} (f : SchemaFault) (o : Option A) (x : A) → or_fault f o ≡ ok x → o ≡ some x
some_there {A = A} f (Some y) x e = ap (λ (z : A). some z) (ok_same y x e)
some_there f None x e = absurd cc

none_ascend : Ascend []
unfolding IsStrictlySortedBy
none_ascend = tt

-- ---- from JSON

by_ok : (r s : Raw) → RawAscends r → ok r ≡ ok s → RawAscends s
by_ok r s here e = subst RawAscends (ok_same r s e) here

-- what was read at a key, where anything was
abbrev ElementAscends : Option (Result Raw SchemaFault) → Type 0
ElementAscends o = (r : Raw) → o ≡ some (ok r) → RawAscends r

abbrev RecordAscends : RawFields → Type 0
RecordAscends rs = Ascend (raw_keys rs) × RawFieldsAscend rs

abbrev AttributesAscend : Option (Result RawFields SchemaFault) → Type 0
AttributesAscend o = (rs : RawFields) → o ≡ some (ok rs) → RecordAscends rs

stood : {A : Type 0} (o : Option (Result A SchemaFault)) (x : A) → there o ≡ ok x → o ≡ some (ok x)
stood {A = A} (Some read) x e = ap (λ (z : Result A SchemaFault). some z) e
stood None x e = absurd cc

chosen : (r m : Raw) (b : Bool) (rest : Option Raw) → cond b (some m) rest ≡ some r → RawAscends m → (rest ≡ some r → RawAscends r) → RawAscends r
chosen r m true rest e here more = subst RawAscends (some_same m r e) here
chosen r m false rest e here more = more e

reserved_ascends : (w : List ℕ) (r : Raw) → reserved_type w ≡ some r → RawAscends r
unfolding reserved_type
reserved_ascends w r e =
    chosen r raw.text (bytes_eq w (codes "__cedar::String")) _ e tt (λ e1.
    chosen r raw.long (bytes_eq w (codes "__cedar::Long")) _ e1 tt (λ e2.
    chosen r raw.boolean (bytes_eq w (codes "__cedar::Boolean")) _ e2 tt (λ e3.
    chosen r raw.boolean (bytes_eq w (codes "__cedar::Bool")) _ e3 tt (λ e4.
    chosen r raw.ipaddr (bytes_eq w (codes "__cedar::ipaddr")) _ e4 tt (λ e5.
    chosen r raw.decimal (bytes_eq w (codes "__cedar::decimal")) _ e5 tt (λ e6. none_some e6))))))

extension_ascends : (w : List ℕ) (r : Raw) → extension_named w ≡ some r → RawAscends r
unfolding extension_named
extension_ascends w r e =
    chosen r raw.ipaddr (bytes_eq w (codes "ipaddr")) _ e tt (λ e1.
    chosen r raw.decimal (bytes_eq w (codes "decimal")) _ e1 tt (λ e2. none_some e2))

path_ascends : (o : Option Raw) (w : List ℕ) (r : Raw) → ((s : Raw) → o ≡ some s → RawAscends s) → or_path o w ≡ ok r → RawAscends r
path_ascends (Some s) w r here e = by_ok s r (here s refl) e
path_ascends None w r here e = let a = bind_ok (type_name w) (λ n. ok (raw.entity_or_common n)) r e in by_ok (raw.entity_or_common a.0) r tt a.2

form_ascends : (f : Form) (w : List ℕ) (d : Data) (element : Option (Result Raw SchemaFault)) (fields : Option (Result RawFields SchemaFault)) (r : Raw)
    → ElementAscends element → AttributesAscend fields → by_form f w d element fields ≡ ok r → RawAscends r
form_ascends Text w d element fields r one more e = by_ok raw.text r tt e
form_ascends Long w d element fields r one more e = by_ok raw.long r tt e
form_ascends Boolean w d element fields r one more e = by_ok raw.boolean r tt e
form_ascends Set w d element fields r one more e =
    let a = bind_ok (there element) (λ t. ok (raw.set t)) r e in by_ok (raw.set a.0) r (one a.0 (stood element a.0 a.1)) a.2
form_ascends Record w d element fields r one more e =
    let a = bind_ok (closed_in (optional (codes "additionalAttributes") d)) (λ closed. there fields >>= λ fs. ok (raw.record_of fs)) r e in
    let b = bind_ok (there fields) (λ fs. ok (raw.record_of fs)) r a.2 in
    by_ok (raw.record_of b.0) r (more b.0 (stood fields b.0 b.1)) b.2
form_ascends Entity w d element fields r one more e = let a = bind_ok (name_in d) (λ n. ok (raw.entity n)) r e in by_ok (raw.entity a.0) r tt a.2
form_ascends Extension w d element fields r one more e =
    let a = bind_ok (required_text (codes "name") d) (λ n. or_fault BadShape (extension_named n)) r e in
    extension_ascends a.0 r (some_there BadShape (extension_named a.0) r a.2)
form_ascends EntityOrCommon w d element fields r one more e =
    let a = bind_ok (required_text (codes "name") d) entity_or_common r e in
    path_ascends (reserved_type a.0) a.0 r (reserved_ascends a.0) a.2
form_ascends Common w d element fields r one more e = let a = bind_ok (type_name w) (λ n. ok (raw.common n)) r e in by_ok (raw.common a.0) r tt a.2

formed_ascends : (is_attribute : Bool) (d : Data) (element : Option (Result Raw SchemaFault)) (fields : Option (Result RawFields SchemaFault)) (r : Raw)
    → ElementAscends element → AttributesAscend fields → formed is_attribute d element fields ≡ ok r → RawAscends r
unfolding formed
formed_ascends is_attribute d element fields r one more e =
    let a = bind_ok (required_text (codes "type") d) (λ w. demand BadShape (has_only (keys_of is_attribute (form_named w)) d) >>= λ keys. by_form (form_named w) w d element fields) r e in
    let b = bind_ok (demand BadShape (has_only (keys_of is_attribute (form_named a.0)) d)) (λ keys. by_form (form_named a.0) a.0 d element fields) r a.2 in
    form_ascends (form_named a.0) a.0 d element fields r one more b.2

at_key : {A : Type 0} (P : A → Type 0) (b : Bool) (here later : Option (Result A SchemaFault)) → ((x : A) → here ≡ some (ok x) → P x) → ((x : A) → later ≡ some (ok x) → P x)
    → (x : A) → cond b here later ≡ some (ok x) → P x
at_key P true here later one more x e = one x e
at_key P false here later one more x e = more x e

read_same : {A : Type 0} (r : Result A SchemaFault) (x : A) → some r ≡ some (ok x) → r ≡ ok x
read_same r x e = some_same r (ok x) e

mutual
  unfolding type_of

  pub type_ascends : (is_attribute : Bool) (d : Data) (r : Raw) → type_of is_attribute d ≡ ok r → DataAscends d → RawAscends r
  type_ascends is_attribute null r e h = absurd cc
  type_ascends is_attribute (boolean b) r e h = absurd cc
  type_ascends is_attribute (number n) r e h = absurd cc
  type_ascends is_attribute (string s) r e h = absurd cc
  type_ascends is_attribute (array ds) r e h = absurd cc
  type_ascends is_attribute (object ms) r e h =
      formed_ascends is_attribute (object ms) (type_at (codes "element") ms) (fields_at (codes "attributes") ms) r (element_ascends (codes "element") ms h.1) (record_ascends (codes "attributes") ms h.1) e

  element_ascends : (k : List ℕ) (ms : Members) → MembersAscend ms → ElementAscends (type_at k ms)
  element_ascends k no_members h = λ r e. none_some e
  element_ascends k (member l d ms) h =
      at_key RawAscends (bytes_eq k l) (some (type_of false d)) (type_at k ms) (λ r e. type_ascends false d r (read_same (type_of false d) r e) h.0) (element_ascends k ms h.1)

  record_ascends : (k : List ℕ) (ms : Members) → MembersAscend ms → AttributesAscend (fields_at k ms)
  record_ascends k no_members h = λ rs e. none_some e
  record_ascends k (member l d ms) h =
      at_key RecordAscends (bytes_eq k l) (some (attributes_of d)) (fields_at k ms) (λ rs e. attributes_ascend d rs (read_same (attributes_of d) rs e) h.0) (record_ascends k ms h.1)

  attributes_ascend : (d : Data) (rs : RawFields) → attributes_of d ≡ ok rs → DataAscends d → RecordAscends rs
  attributes_ascend null rs e h = absurd cc
  attributes_ascend (boolean b) rs e h = absurd cc
  attributes_ascend (number n) rs e h = absurd cc
  attributes_ascend (string s) rs e h = absurd cc
  attributes_ascend (array ds) rs e h = absurd cc
  attributes_ascend (object ms) rs e h =
      let m = members_ascend ms rs e h.1 in
      (subst Ascend (sym m.0) h.0, m.1)

  members_ascend : (ms : Members) (rs : RawFields) → fields_in ms ≡ ok rs → MembersAscend ms → (raw_keys rs ≡ member_keys ms) × RawFieldsAscend rs
  members_ascend no_members rs e h = subst (λ (x : RawFields). (raw_keys x ≡ []) × RawFieldsAscend x) (ok_same raw.no_fields rs e) (refl, tt)
  members_ascend (member k d ms) rs e h =
      let a = bind_ok (type_of true d) (λ t. required_in d >>= λ required. fields_in ms >>= λ fs. ok (raw.field k t required fs)) rs e in
      let b = bind_ok (required_in d) (λ required. fields_in ms >>= λ fs. ok (raw.field k a.0 required fs)) rs a.2 in
      let c = bind_ok (fields_in ms) (λ fs. ok (raw.field k a.0 b.0 fs)) rs b.2 in
      let m = members_ascend ms c.0 c.1 h.1 in
      subst (λ (x : RawFields). (raw_keys x ≡ k ∷ member_keys ms) × RawFieldsAscend x) (ok_same (raw.field k a.0 b.0 c.0) rs c.2)
      (ap (λ (ks : List (List ℕ)). k ∷ ks) m.0, (type_ascends true d a.0 a.1 h.0, m.1))

-- ---- to types whose names were found

by_found : (r s : Qualified) → QualifiedAscends r → ok r ≡ ok s → QualifiedAscends s
by_found r s here e = subst QualifiedAscends (ok_same r s e) here

choose : (n m : Qualified) (b : Bool) (rest : Option Qualified) → cond b (some m) rest ≡ some n → QualifiedAscends m → (rest ≡ some n → QualifiedAscends n) → QualifiedAscends n
choose n m true rest e here more = subst QualifiedAscends (some_same m n e) here
choose n m false rest e here more = more e

built_in_ascends : (w : List ℕ) (n : Qualified) → built_in w ≡ some n → QualifiedAscends n
unfolding built_in
built_in_ascends w n e =
    choose n qualified.text (bytes_eq w (codes "String")) _ e tt (λ e1.
    choose n qualified.long (bytes_eq w (codes "Long")) _ e1 tt (λ e2.
    choose n qualified.boolean (bytes_eq w (codes "Boolean")) _ e2 tt (λ e3.
    choose n qualified.boolean (bytes_eq w (codes "Bool")) _ e3 tt (λ e4.
    choose n qualified.ipaddr (bytes_eq w (codes "ipaddr")) _ e4 tt (λ e5.
    choose n qualified.decimal (bytes_eq w (codes "decimal")) _ e5 tt (λ e6. none_some e6))))))

or_entity_ascends : (w : List ℕ) (n : Qualified) (o : Option (List ℕ)) → or_entity o (built_in w) ≡ some n → QualifiedAscends n
or_entity_ascends w n (Some q) e = subst QualifiedAscends (some_same (qualified.entity q) n e) tt
or_entity_ascends w n None e = built_in_ascends w n e

or_common_ascends : (s : Scope) (own : Option (List ℕ)) (w : List ℕ) (n : Qualified) (o : Option (List ℕ)) → or_common o (or_entity (found s.entities own w) (built_in w)) ≡ some n → QualifiedAscends n
or_common_ascends s own w n (Some q) e = subst QualifiedAscends (some_same (qualified.common q) n e) tt
or_common_ascends s own w n None e = or_entity_ascends w n (found s.entities own w) e

any_ascends : (s : Scope) (own : Option (List ℕ)) (w : List ℕ) (n : Qualified) → any_named s own w ≡ some n → QualifiedAscends n
unfolding any_named
any_ascends s own w n e = or_common_ascends s own w n (found s.commons own w) e

mutual
  unfolding qualified_of entity_named common_named

  pub found_ascends : (s : Scope) (own : Option (List ℕ)) (r : Raw) (n : Qualified) → qualified_of s own r ≡ ok n → RawAscends r → QualifiedAscends n
  found_ascends s own raw.text n e h = by_found qualified.text n tt e
  found_ascends s own raw.long n e h = by_found qualified.long n tt e
  found_ascends s own raw.boolean n e h = by_found qualified.boolean n tt e
  found_ascends s own raw.decimal n e h = by_found qualified.decimal n tt e
  found_ascends s own raw.ipaddr n e h = by_found qualified.ipaddr n tt e
  found_ascends s own (raw.set r) n e h =
      let a = bind_ok (qualified_of s own r) (λ m. ok (qualified.set m)) n e in
      by_found (qualified.set a.0) n (found_ascends s own r a.0 a.1 h) a.2
  found_ascends s own (raw.record_of rs) n e h =
      let a = bind_ok (fields_of s own rs) (λ m. ok (qualified.record_of m)) n e in
      let m = found_fields s own rs a.0 a.1 h.1 in
      by_found (qualified.record_of a.0) n (subst Ascend (sym m.0) h.0, m.1) a.2
  found_ascends s own (raw.entity w) n e h =
      let a = bind_ok (or_fault UnknownName (found s.entities own w)) (λ q. ok (qualified.entity q)) n e in by_found (qualified.entity a.0) n tt a.2
  found_ascends s own (raw.common w) n e h =
      let a = bind_ok (or_fault UnknownName (found s.commons own w)) (λ q. ok (qualified.common q)) n e in by_found (qualified.common a.0) n tt a.2
  found_ascends s own (raw.entity_or_common w) n e h = any_ascends s own w n (some_there UnknownName (any_named s own w) n e)

  found_fields : (s : Scope) (own : Option (List ℕ)) (rs : RawFields) (ns : QualifiedFields) → fields_of s own rs ≡ ok ns → RawFieldsAscend rs → (qualified_keys ns ≡ raw_keys rs) × QualifiedFieldsAscend ns
  found_fields s own raw.no_fields ns e h = subst (λ (x : QualifiedFields). (qualified_keys x ≡ []) × QualifiedFieldsAscend x) (ok_same qualified.no_fields ns e) (refl, tt)
  found_fields s own (raw.field k r required rs) ns e h =
      let a = bind_ok (qualified_of s own r) (λ n. fields_of s own rs >>= λ ms. ok (qualified.field k n required ms)) ns e in
      let b = bind_ok (fields_of s own rs) (λ ms. ok (qualified.field k a.0 required ms)) ns a.2 in
      let m = found_fields s own rs b.0 b.1 h.1 in
      subst (λ (x : QualifiedFields). (qualified_keys x ≡ k ∷ raw_keys rs) × QualifiedFieldsAscend x) (ok_same (qualified.field k a.0 required b.0) ns b.2)
      (ap (λ (ks : List (List ℕ)). k ∷ ks) m.0, (found_ascends s own r a.0 a.1 h.0, m.1))

-- ---- and to types written out

module _ (commons : Declarations) (all : AllAscend commons) where
  mutual
    pub written_ascends : (r : Qualified) (t : Cedar) → IsExpansion commons r t → QualifiedAscends r → KeysAscend t
    written_ascends _ _ written.text h = tt
    written_ascends _ _ written.long h = tt
    written_ascends _ _ written.boolean h = tt
    written_ascends _ _ written.decimal h = tt
    written_ascends _ _ written.ipaddr h = tt
    written_ascends _ _ (written.set r t w) h = written_ascends r t w h
    written_ascends _ _ (written.record_of rs ts w) h = let m = written_fields rs ts w h.1 in (subst Ascend (sym m.0) h.0, m.1)
    written_ascends _ _ (written.entity n) h = tt
    written_ascends _ _ (written.common q r t d w) h = written_ascends r t w (all q r d)

    written_fields : (rs : QualifiedFields) (ts : CedarFields) → AreFieldExpansions commons rs ts → QualifiedFieldsAscend rs → (ascending.keys_of ts ≡ qualified_keys rs) × FieldKeysAscend ts
    written_fields _ _ written.no_fields h = (refl, tt)
    written_fields _ _ (written.field k r t required rs ts w ws) h =
        let m = written_fields rs ts ws h.1 in
        (ap (λ (ks : List (List ℕ)). k ∷ ks) m.0, (written_ascends r t w h.0, m.1))
