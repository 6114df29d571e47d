-- A type whose names were found names only common types that are declared.
use Rattle.std.proofs.Common.{◌≡◌, inl, inr, ℕ, Bool, true, false, cond, List, Option, Some, None, Result, Ok, refl, ap, subst}
use Rattle.std.specs.Prelude.{codes}
use Rattle.std.specs.Str.{bytes_eq}
use Rattle.json_words.specs.ReadsAs.{◌>>=◌, or_fault}
use Rattle.json_words.proofs.EachLemmas.{bind_ok}
use Rattle.schema_types.specs.Raw as raw
use Rattle.schema_types.specs.Raw.{Raw, RawFields}
use Rattle.schema_types.specs.Qualified as qualified
use Rattle.schema_types.specs.Qualified.{Qualified, QualifiedFields}
use Rattle.schema_types.specs.Mentions.{Mentions, FieldsMention, MentionsEntity, FieldsMentionEntity}
use Rattle.schema_types.specs.Names.{Scope, is_qualified, full_name, as_declared, found, built_in, or_entity, or_common, any_named, entity_named, common_named, qualified_of, fields_of}
use Rattle.schema_types.specs.declared.fault.SchemaFault.{SchemaFault}
use Rattle.schema_types.specs.declared.fault.SchemaFault.TheVariants.{UnknownName}

abbrev some : {A : Type 0} → A → Option A
some x = Some x

abbrev ok : {A : Type 0} → A → Result A SchemaFault
ok x = Ok x

none_some : {A : Type 0} {x : A} → None ≡ Some x → ⊥
none_some e = cc

some_same : {A : Type 0} (x y : A) → some x ≡ some y → x ≡ y
some_same x y e = cc

ok_same : {A : Type 0} (x y : A) → ok x ≡ ok y → x ≡ y
ok_same x y e = cc

fault_some : {A : Type 0} (o : Option A) (x : A) → or_fault UnknownName o ≡ ok x → o ≡ some x
fault_some {A = A} (Some y) x e = ap (λ (z : A). some z) (ok_same y x e)
fault_some None x e = absurd cc

-- ---- what is found is declared

module _ (declared : List ℕ → Bool) (w q : List ℕ) where
  picked : (b : Bool) → declared w ≡ b → cond b (some w) None ≡ some q → declared q ≡ true
  picked true e h = subst (λ (x : List ℕ). declared x ≡ true) (some_same w q h) e
  picked false e h = absurd (none_some h)

found_by : (declared : List ℕ → Bool) (full w q : List ℕ) (b d : Bool) → declared full ≡ d → cond b (cond (declared w) (some w) None) (cond d (some full) (cond (declared w) (some w) None)) ≡ some q → declared q ≡ true
found_by declared full w q true d e h = picked declared w q (declared w) refl h
found_by declared full w q false true e h = subst (λ (x : List ℕ). declared x ≡ true) (some_same full q h) e
found_by declared full w q false false e h = picked declared w q (declared w) refl h

pub found_declared : (declared : List ℕ → Bool) (own : Option (List ℕ)) (w q : List ℕ) → found declared own w ≡ some q → declared q ≡ true
unfolding found as_declared
found_declared declared own w q e = found_by declared (full_name own w) w q (is_qualified w) (declared (full_name own w)) refl e

-- ---- each name of a common type is declared

abbrev pub NamesDeclared : Scope → Qualified → Type 0
NamesDeclared s n = (q : List ℕ) → Mentions n q → s.commons q ≡ true

abbrev FieldsDeclared : Scope → QualifiedFields → Type 0
FieldsDeclared s ns = (q : List ℕ) → FieldsMention ns q → s.commons q ≡ true

by_ok : (s : Scope) (m n : Qualified) → NamesDeclared s m → ok m ≡ ok n → NamesDeclared s n
by_ok s m n here e = subst (λ (x : Qualified). NamesDeclared s x) (ok_same m n e) here

by_some : (s : Scope) (m n : Qualified) → NamesDeclared s m → some m ≡ some n → NamesDeclared s n
by_some s m n here e = subst (λ (x : Qualified). NamesDeclared s x) (some_same m n e) here

choose : (s : Scope) (n m : Qualified) (b : Bool) (rest : Option Qualified) → cond b (some m) rest ≡ some n → NamesDeclared s m → (rest ≡ some n → NamesDeclared s n) → NamesDeclared s n
choose s n m true rest e here more = by_some s m n here e
choose s n m false rest e here more = more e

built_in_declared : (s : Scope) (w : List ℕ) (n : Qualified) → built_in w ≡ some n → NamesDeclared s n
unfolding built_in
built_in_declared s w n e =
    choose s n qualified.text (bytes_eq w (codes "String")) _ e (λ q m. absurd m) (λ e1.
    choose s n qualified.long (bytes_eq w (codes "Long")) _ e1 (λ q m. absurd m) (λ e2.
    choose s n qualified.boolean (bytes_eq w (codes "Boolean")) _ e2 (λ q m. absurd m) (λ e3.
    choose s n qualified.boolean (bytes_eq w (codes "Bool")) _ e3 (λ q m. absurd m) (λ e4.
    choose s n qualified.ipaddr (bytes_eq w (codes "ipaddr")) _ e4 (λ q m. absurd m) (λ e5.
    choose s n qualified.decimal (bytes_eq w (codes "decimal")) _ e5 (λ q m. absurd m) (λ e6. absurd (none_some e6)))))))

common_declared : (s : Scope) (own : Option (List ℕ)) (w q : List ℕ) → found s.commons own w ≡ some q → NamesDeclared s (qualified.common q)
common_declared s own w q e p m = subst (λ (x : List ℕ). s.commons x ≡ true) m (found_declared s.commons own w q e)

any_entity : (s : Scope) (w : List ℕ) (n : Qualified) (o : Option (List ℕ)) → or_entity o (built_in w) ≡ some n → NamesDeclared s n
any_entity s w n (Some q) e = by_some s (qualified.entity q) n (λ p m. absurd m) e
any_entity s w n None e = built_in_declared s w n e

any_common : (s : Scope) (own : Option (List ℕ)) (w : List ℕ) (n : Qualified) (o : Option (List ℕ)) → found s.commons own w ≡ o
    → or_common o (or_entity (found s.entities own w) (built_in w)) ≡ some n → NamesDeclared s n
any_common s own w n (Some q) e there = by_some s (qualified.common q) n (common_declared s own w q e) there
any_common s own w n None e there = any_entity s w n (found s.entities own w) there

any_declared : (s : Scope) (own : Option (List ℕ)) (w : List ℕ) (n : Qualified) → any_named s own w ≡ some n → NamesDeclared s n
unfolding any_named
any_declared s own w n e = any_common s own w n (found s.commons own w) refl e

mutual
  unfolding qualified_of entity_named common_named

  pub names_declared : (s : Scope) (own : Option (List ℕ)) (r : Raw) (n : Qualified) → qualified_of s own r ≡ ok n → (q : List ℕ) → Mentions n q → s.commons q ≡ true
  names_declared s own raw.text n e = by_ok s qualified.text n (λ q m. absurd m) e
  names_declared s own raw.long n e = by_ok s qualified.long n (λ q m. absurd m) e
  names_declared s own raw.boolean n e = by_ok s qualified.boolean n (λ q m. absurd m) e
  names_declared s own raw.decimal n e = by_ok s qualified.decimal n (λ q m. absurd m) e
  names_declared s own raw.ipaddr n e = by_ok s qualified.ipaddr n (λ q m. absurd m) e
  names_declared s own (raw.set r) n e =
      let a = bind_ok (qualified_of s own r) (λ m. ok (qualified.set m)) n e in
      by_ok s (qualified.set a.0) n (names_declared s own r a.0 a.1) a.2
  names_declared s own (raw.record_of rs) n e =
      let a = bind_ok (fields_of s own rs) (λ m. ok (qualified.record_of m)) n e in
      by_ok s (qualified.record_of a.0) n (fields_declared s own rs a.0 a.1) a.2
  names_declared s own (raw.entity w) n e =
      let a = bind_ok (or_fault UnknownName (found s.entities own w)) (λ q. ok (qualified.entity q)) n e in by_ok s (qualified.entity a.0) n (λ q m. absurd m) a.2
  names_declared s own (raw.common w) n e =
      let a = bind_ok (or_fault UnknownName (found s.commons own w)) (λ q. ok (qualified.common q)) n e in
      by_ok s (qualified.common a.0) n (common_declared s own w a.0 (fault_some (found s.commons own w) a.0 a.1)) a.2
  names_declared s own (raw.entity_or_common w) n e = any_declared s own w n (fault_some (any_named s own w) n e)

  fields_declared : (s : Scope) (own : Option (List ℕ)) (rs : RawFields) (ns : QualifiedFields) → fields_of s own rs ≡ ok ns → (q : List ℕ) → FieldsMention ns q → s.commons q ≡ true
  fields_declared s own raw.no_fields ns e = subst (λ (m : QualifiedFields). FieldsDeclared s m) (ok_same qualified.no_fields ns e) (λ q m. absurd m)
  fields_declared s own (raw.field k r required rs) ns e =
      let a = bind_ok (qualified_of s own r) (λ n. fields_of s own rs >>= λ ms. ok (qualified.field k n required ms)) ns e in
      let b = bind_ok (fields_of s own rs) (λ ms. ok (qualified.field k a.0 required ms)) ns a.2 in
      subst (λ (m : QualifiedFields). FieldsDeclared s m) (ok_same (qualified.field k a.0 required b.0) ns b.2)
      (λ q m. either q a.0 b.0 (names_declared s own r a.0 a.1 q) (fields_declared s own rs b.0 b.1 q) m)
    where
      either : (q : List ℕ) (n : Qualified) (ms : QualifiedFields) → (Mentions n q → s.commons q ≡ true) → (FieldsMention ms q → s.commons q ≡ true) → FieldsMention (qualified.field k n required ms) q → s.commons q ≡ true
      either q n ms one more (inl m) = one m
      either q n ms one more (inr m) = more m

-- ---- each name of an entity type is declared

abbrev EntitiesDeclared : Scope → Qualified → Type 0
EntitiesDeclared s n = (q : List ℕ) → MentionsEntity n q → s.entities q ≡ true

abbrev FieldEntitiesDeclared : Scope → QualifiedFields → Type 0
FieldEntitiesDeclared s ns = (q : List ℕ) → FieldsMentionEntity ns q → s.entities q ≡ true

e_ok : (s : Scope) (m n : Qualified) → EntitiesDeclared s m → ok m ≡ ok n → EntitiesDeclared s n
e_ok s m n here e = subst (λ (x : Qualified). EntitiesDeclared s x) (ok_same m n e) here

e_some : (s : Scope) (m n : Qualified) → EntitiesDeclared s m → some m ≡ some n → EntitiesDeclared s n
e_some s m n here e = subst (λ (x : Qualified). EntitiesDeclared s x) (some_same m n e) here

e_choose : (s : Scope) (n m : Qualified) (b : Bool) (rest : Option Qualified) → cond b (some m) rest ≡ some n → EntitiesDeclared s m → (rest ≡ some n → EntitiesDeclared s n) → EntitiesDeclared s n
e_choose s n m true rest e here more = e_some s m n here e
e_choose s n m false rest e here more = more e

e_built_in : (s : Scope) (w : List ℕ) (n : Qualified) → built_in w ≡ some n → EntitiesDeclared s n
unfolding built_in
e_built_in s w n e =
    e_choose s n qualified.text (bytes_eq w (codes "String")) _ e (λ q m. absurd m) (λ e1.
    e_choose s n qualified.long (bytes_eq w (codes "Long")) _ e1 (λ q m. absurd m) (λ e2.
    e_choose s n qualified.boolean (bytes_eq w (codes "Boolean")) _ e2 (λ q m. absurd m) (λ e3.
    e_choose s n qualified.boolean (bytes_eq w (codes "Bool")) _ e3 (λ q m. absurd m) (λ e4.
    e_choose s n qualified.ipaddr (bytes_eq w (codes "ipaddr")) _ e4 (λ q m. absurd m) (λ e5.
    e_choose s n qualified.decimal (bytes_eq w (codes "decimal")) _ e5 (λ q m. absurd m) (λ e6. absurd (none_some e6)))))))

e_entity : (s : Scope) (own : Option (List ℕ)) (w q : List ℕ) → found s.entities own w ≡ some q → EntitiesDeclared s (qualified.entity q)
e_entity s own w q e p m = subst (λ (x : List ℕ). s.entities x ≡ true) m (found_declared s.entities own w q e)

e_or_entity : (s : Scope) (own : Option (List ℕ)) (w : List ℕ) (n : Qualified) (o : Option (List ℕ)) → found s.entities own w ≡ o → or_entity o (built_in w) ≡ some n → EntitiesDeclared s n
e_or_entity s own w n (Some q) is e = e_some s (qualified.entity q) n (e_entity s own w q is) e
e_or_entity s own w n None is e = e_built_in s w n e

e_or_common : (s : Scope) (own : Option (List ℕ)) (w : List ℕ) (n : Qualified) (o : Option (List ℕ)) → or_common o (or_entity (found s.entities own w) (built_in w)) ≡ some n → EntitiesDeclared s n
e_or_common s own w n (Some q) e = e_some s (qualified.common q) n (λ p m. absurd m) e
e_or_common s own w n None e = e_or_entity s own w n (found s.entities own w) refl e

e_any : (s : Scope) (own : Option (List ℕ)) (w : List ℕ) (n : Qualified) → any_named s own w ≡ some n → EntitiesDeclared s n
unfolding any_named
e_any s own w n e = e_or_common s own w n (found s.commons own w) e

mutual
  unfolding qualified_of entity_named common_named

  pub entities_declared : (s : Scope) (own : Option (List ℕ)) (r : Raw) (n : Qualified) → qualified_of s own r ≡ ok n → (q : List ℕ) → MentionsEntity n q → s.entities q ≡ true
  entities_declared s own raw.text n e = e_ok s qualified.text n (λ q m. absurd m) e
  entities_declared s own raw.long n e = e_ok s qualified.long n (λ q m. absurd m) e
  entities_declared s own raw.boolean n e = e_ok s qualified.boolean n (λ q m. absurd m) e
  entities_declared s own raw.decimal n e = e_ok s qualified.decimal n (λ q m. absurd m) e
  entities_declared s own raw.ipaddr n e = e_ok s qualified.ipaddr n (λ q m. absurd m) e
  entities_declared s own (raw.set r) n e =
      let a = bind_ok (qualified_of s own r) (λ m. ok (qualified.set m)) n e in
      e_ok s (qualified.set a.0) n (entities_declared s own r a.0 a.1) a.2
  entities_declared s own (raw.record_of rs) n e =
      let a = bind_ok (fields_of s own rs) (λ m. ok (qualified.record_of m)) n e in
      e_ok s (qualified.record_of a.0) n (field_entities_declared s own rs a.0 a.1) a.2
  entities_declared s own (raw.entity w) n e =
      let a = bind_ok (or_fault UnknownName (found s.entities own w)) (λ q. ok (qualified.entity q)) n e in
      e_ok s (qualified.entity a.0) n (e_entity s own w a.0 (fault_some (found s.entities own w) a.0 a.1)) a.2
  entities_declared s own (raw.common w) n e =
      let a = bind_ok (or_fault UnknownName (found s.commons own w)) (λ q. ok (qualified.common q)) n e in
      e_ok s (qualified.common a.0) n (λ q m. absurd m) a.2
  entities_declared s own (raw.entity_or_common w) n e = e_any s own w n (fault_some (any_named s own w) n e)

  field_entities_declared : (s : Scope) (own : Option (List ℕ)) (rs : RawFields) (ns : QualifiedFields) → fields_of s own rs ≡ ok ns → (q : List ℕ) → FieldsMentionEntity ns q → s.entities q ≡ true
  field_entities_declared s own raw.no_fields ns e = subst (λ (m : QualifiedFields). FieldEntitiesDeclared s m) (ok_same qualified.no_fields ns e) (λ q m. absurd m)
  field_entities_declared s own (raw.field k r required rs) ns e =
      let a = bind_ok (qualified_of s own r) (λ n. fields_of s own rs >>= λ ms. ok (qualified.field k n required ms)) ns e in
      let b = bind_ok (fields_of s own rs) (λ ms. ok (qualified.field k a.0 required ms)) ns a.2 in
      subst (λ (m : QualifiedFields). FieldEntitiesDeclared s m) (ok_same (qualified.field k a.0 required b.0) ns b.2)
      (λ q m. either q a.0 b.0 (entities_declared s own r a.0 a.1 q) (field_entities_declared s own rs b.0 b.1 q) m)
    where
      either : (q : List ℕ) (n : Qualified) (ms : QualifiedFields) → (MentionsEntity n q → s.entities q ≡ true) → (FieldsMentionEntity ms q → s.entities q ≡ true) → FieldsMentionEntity (qualified.field k n required ms) q → s.entities q ≡ true
      either q n ms one more (inl m) = one m
      either q n ms one more (inr m) = more m
