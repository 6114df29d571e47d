-- A shape or a context that is written out is a record, since what it means is none that is no record.
use Rattle.std.proofs.Common.{◌≡◌, ◌∙◌, ◌⊎◌, inl, inr, ℕ, List, Bool, true, false, cond, Option, Some, None, is_some, Result, Ok, refl, sym, ap, subst}
use Rattle.std.specs.Prelude.{codes, Contains}
use Rattle.std.specs.Str.{bytes_eq}
use Rattle.json_words.specs.ReadsAs.{or_fault}
use Rattle.json_words.proofs.EachLemmas.{bind_ok}
use Rattle.schema_types.specs.Raw as raw
use Rattle.schema_types.specs.Raw.{Raw}
use Rattle.schema_types.specs.Qualified as qualified
use Rattle.schema_types.specs.Qualified.{Qualified, QualifiedFields}
use Rattle.schema_types.specs.Cedar as cedar
use Rattle.schema_types.specs.Cedar.{Cedar, CedarFields}
use Rattle.schema_types.specs.Expansions as written
use Rattle.schema_types.specs.Expansions.{IsExpansion}
use Rattle.schema_types.specs.Names.{Scope, found, built_in, or_entity, or_common, any_named, entity_named, common_named, qualified_of, fields_of}
use Rattle.schema_types.specs.declared.fault.SchemaFault.{SchemaFault}
use Rattle.schema_types.specs.declared.fault.SchemaFault.TheVariants.{UnknownName}
use Rattle.schema_reading.specs.FileForm.{NamespaceOf}
use Rattle.schema_reading.specs.Qualifying as file
use Rattle.schema_reading.specs.Qualifying.{CommonOf, scope_in, ResolvedSchema}
use Rattle.schema_reading.specs.Records.{common_meant, MeansNoRecord, form, named, MustBeRecord}
use Rattle.schema_reading.specs.Laws.{ShapesAreRecords}
use Rattle.schema_reading.proofs.FoundLemmas.{record_from, common_from}

abbrev ok : {A : Type 0} → A → Result A SchemaFault
ok x = Ok x

ok_same : {A : Type 0} (x y : A) → ok x ≡ ok y → x ≡ y
ok_same x y e = cc

abbrev some : {A : Type 0} → A → Option A
some x = Some x

some_same : {A : Type 0} (x y : A) → some x ≡ some y → x ≡ y
some_same x y e = cc

none_some : {B A : Type 0} {x : A} → None ≡ some x → B
none_some e = absurd cc

fault_some : {A : Type 0} (o : Option A) (x : A) → or_fault UnknownName o ≡ ok x → o ≡ some x
fault_some {A = A} (Some y) x e = ap (λ (z : A). some z) (ok_same y x e)
fault_some None x e = absurd cc

-- neither a record nor the name of a common type
abbrev IsOther : Qualified → Type 0
IsOther qualified.text = Unit {0}
IsOther qualified.long = Unit {0}
IsOther qualified.boolean = Unit {0}
IsOther qualified.decimal = Unit {0}
IsOther qualified.ipaddr = Unit {0}
IsOther (qualified.set r) = Unit {0}
IsOther (qualified.record_of rs) = ⊥
IsOther (qualified.entity n) = Unit {0}
IsOther (qualified.common q) = ⊥

-- ---- what a name that is found may be

choose : (n m : Qualified) (b : Bool) (rest : Option Qualified) → cond b (some m) rest ≡ some n → IsOther m → (rest ≡ some n → IsOther n) → IsOther n
choose n m true rest e here more = subst IsOther (some_same m n e) here
choose n m false rest e here more = more e

built_in_other : (w : List ℕ) (n : Qualified) → built_in w ≡ some n → IsOther n
unfolding built_in
built_in_other w n e =
    choose n qualified.text (bytes_eq w (codes "String")) _ e tt (λ e1.
    choose n qualified.long (bytes_eq w (codes "Long")) _ e1 tt (λ e2.
    choose n qualified.boolean (bytes_eq w (codes "Boolean")) _ e2 tt (λ e3.
    choose n qualified.boolean (bytes_eq w (codes "Bool")) _ e3 tt (λ e4.
    choose n qualified.ipaddr (bytes_eq w (codes "ipaddr")) _ e4 tt (λ e5.
    choose n qualified.decimal (bytes_eq w (codes "decimal")) _ e5 tt (λ e6. none_some e6))))))

module _ (ns : List NamespaceOf) (own : Option (List ℕ)) where
  abbrev Sc : Scope
  Sc = scope_in ns

  not_entity : (w q : List ℕ) (o : Option (List ℕ)) → or_entity o (built_in w) ≡ some (qualified.common q) → ⊥
  not_entity w q (Some p) e = subst IsOther (some_same (qualified.entity p) (qualified.common q) e) tt
  not_entity w q None e = built_in_other w (qualified.common q) e

  any_common : (w q : List ℕ) (o : Option (List ℕ)) → or_common o (or_entity (found Sc.entities own w) (built_in w)) ≡ some (qualified.common q) → o ≡ some q
  any_common w q (Some p) e = let same = some_same (qualified.common p) (qualified.common q) e in let is : p ≡ q = cc same in ap (λ (x : List ℕ). some x) is
  any_common w q None e = absurd (not_entity w q (found Sc.entities own w) e)

  -- what means a common type names it
  common_is : (r : Raw) (q : List ℕ) → qualified_of Sc own r ≡ ok (qualified.common q) → common_meant Sc own r ≡ some q
  unfolding qualified_of entity_named common_named any_named
  common_is raw.text q e = absurd (subst IsOther (ok_same qualified.text (qualified.common q) e) tt)
  common_is raw.long q e = absurd (subst IsOther (ok_same qualified.long (qualified.common q) e) tt)
  common_is raw.boolean q e = absurd (subst IsOther (ok_same qualified.boolean (qualified.common q) e) tt)
  common_is raw.decimal q e = absurd (subst IsOther (ok_same qualified.decimal (qualified.common q) e) tt)
  common_is raw.ipaddr q e = absurd (subst IsOther (ok_same qualified.ipaddr (qualified.common q) e) tt)
  common_is (raw.set r) q e =
      let a = bind_ok (qualified_of Sc own r) (λ m. ok (qualified.set m)) (qualified.common q) e in
      absurd (subst IsOther (ok_same (qualified.set a.0) (qualified.common q) a.2) tt)
  common_is (raw.record_of rs) q e =
      let a = bind_ok (fields_of Sc own rs) (λ m. ok (qualified.record_of m)) (qualified.common q) e in
      absurd (record_common a.0 q (ok_same (qualified.record_of a.0) (qualified.common q) a.2))
    where
      record_common : (m : QualifiedFields) (q : List ℕ) → qualified.record_of m ≡ qualified.common q → ⊥
      record_common m q e = cc
  common_is (raw.entity w) q e =
      let a = bind_ok (or_fault UnknownName (found Sc.entities own w)) (λ p. ok (qualified.entity p)) (qualified.common q) e in
      absurd (subst IsOther (ok_same (qualified.entity a.0) (qualified.common q) a.2) tt)
  common_is (raw.common w) q e =
      let a = bind_ok (or_fault UnknownName (found Sc.commons own w)) (λ p. ok (qualified.common p)) (qualified.common q) e in
      let same = ok_same (qualified.common a.0) (qualified.common q) a.2 in
      let is : a.0 ≡ q = cc same in
      fault_some (found Sc.commons own w) a.0 a.1 ∙ ap (λ (x : List ℕ). some x) is
  common_is (raw.entity_or_common w) q e = any_common w q (found Sc.commons own w) (fault_some (any_named Sc own w) (qualified.common q) e)

  any_other : (w : List ℕ) (r : Qualified) (o : Option (List ℕ)) → found Sc.commons own w ≡ o → or_common o (or_entity (found Sc.entities own w) (built_in w)) ≡ some r → IsOther r
      → MeansNoRecord ns own (raw.entity_or_common w)
  any_other w r (Some p) e there other = absurd (subst IsOther (sym (some_same (qualified.common p) r there)) other)
  any_other w r None e there other = form own (raw.entity_or_common w) e (ap (λ (o : Option Qualified). is_some o) there)

  -- what means neither a record nor a common type means no record
  other_is : (r : Raw) (n : Qualified) → qualified_of Sc own r ≡ ok n → IsOther n → MeansNoRecord ns own r
  unfolding qualified_of entity_named common_named any_named
  other_is raw.text n e other = form own raw.text refl refl
  other_is raw.long n e other = form own raw.long refl refl
  other_is raw.boolean n e other = form own raw.boolean refl refl
  other_is raw.decimal n e other = form own raw.decimal refl refl
  other_is raw.ipaddr n e other = form own raw.ipaddr refl refl
  other_is (raw.set r) n e other = form own (raw.set r) refl refl
  other_is (raw.record_of rs) n e other =
      let a = bind_ok (fields_of Sc own rs) (λ m. ok (qualified.record_of m)) n e in
      absurd (subst IsOther (sym (ok_same (qualified.record_of a.0) n a.2)) other)
  other_is (raw.entity w) n e other = form own (raw.entity w) refl refl
  other_is (raw.common w) n e other =
      let a = bind_ok (or_fault UnknownName (found Sc.commons own w)) (λ p. ok (qualified.common p)) n e in
      absurd (subst IsOther (sym (ok_same (qualified.common a.0) n a.2)) other)
  other_is (raw.entity_or_common w) n e other = any_other w n (found Sc.commons own w) refl (fault_some (any_named Sc own w) n e) other

abbrev IsRecord : Cedar → Type 0
IsRecord t = (fs : CedarFields) × (t ≡ cedar.record_of fs)

module _ (ns : List NamespaceOf) (s : ResolvedSchema) (file_is : file.qualified ns ≡ ok s) where
  -- either what is written out is a record, or what is stated means no record
  record_or : (own : Option (List ℕ)) (r : Raw) (n : Qualified) (t : Cedar) → IsExpansion s.commons n t → qualified_of (scope_in ns) own r ≡ ok n → IsRecord t ⊎ MeansNoRecord ns own r
  record_or own r _ _ written.text e = inr (other_is ns own r qualified.text e tt)
  record_or own r _ _ written.long e = inr (other_is ns own r qualified.long e tt)
  record_or own r _ _ written.boolean e = inr (other_is ns own r qualified.boolean e tt)
  record_or own r _ _ written.decimal e = inr (other_is ns own r qualified.decimal e tt)
  record_or own r _ _ written.ipaddr e = inr (other_is ns own r qualified.ipaddr e tt)
  record_or own r _ _ (written.set m t w) e = inr (other_is ns own r (qualified.set m) e tt)
  record_or own r _ _ (written.record_of ms ts w) e = inl (ts, refl)
  record_or own r _ _ (written.entity n) e = inr (other_is ns own r (qualified.entity n) e tt)
  record_or own r _ _ (written.common q m t d w) e =
      let c = common_from ns s file_is q m d in
      by c.0 c.1 c.2 (record_or c.0.own c.0.type m t w c.3)
    where
      by : (c : CommonOf) → Contains (file.commons_declared ns) c → c.name ≡ q → IsRecord t ⊎ MeansNoRecord ns c.own c.type → IsRecord t ⊎ MeansNoRecord ns own r
      by c here is (inl record_is) = inl record_is
      by c here is (inr none) = inr (named own r c (common_is ns own r q e ∙ ap (λ (x : List ℕ). some x) (sym is)) here none)

pub shapes_are_records : ShapesAreRecords
shapes_are_records bytes s h r here t w =
    let x = record_from h.namespaces s h.named.found r here in
    by x.0 x.1 x.2 x.3 (record_or h.namespaces s h.named.found x.0.name x.1 r t w x.4)
  where
    by : (n : NamespaceOf) (raw : Raw) → Contains h.namespaces n → MustBeRecord n raw → IsRecord t ⊎ MeansNoRecord h.namespaces n.name raw → IsRecord t
    by n raw inside stands (inl record_is) = record_is
    by n raw inside stands (inr none) = absurd (h.named.records (record { namespace = n; type = raw; stated = inside; stands = stands; means = none }))
