-- What a table says is so, and what it can't say has no end.
use Rattle.std.proofs.Common.{◌≡◌, ◌∙◌, ◌⊎◌, inl, inr, ℕ, ◌+◌, ◌≤◌, min, max, List, [], ◌∷◌, Option, Some, None, option_map, option_and_then, refl, sym, ap, arith, subst}
use Rattle.schema_types.specs.Qualified as qualified
use Rattle.schema_types.specs.Qualified.{Qualified, QualifiedFields}
use Rattle.schema_types.specs.Cedar as cedar
use Rattle.schema_types.specs.Cedar.{Cedar, CedarFields}
use Rattle.schema_types.specs.Expansions as written
use Rattle.schema_types.specs.Expansions.{Declarations, Declares, IsExpansion, AreFieldExpansions}
use Rattle.schema_types.specs.TypeTables.{Extent, size_of, TableEntry, TypeTable, IsTable}
use Rattle.schema_types.specs.inner.Table.{IsWithin, leaf_size, no_size, node_size, side_by_side, size_in, sizes_in, written_in, fields_in, AreSettled}
use Rattle.schema_types.proofs.Sizes.{not_large}

-- ---- nothing that a settled table lacks has an end

settled : (known : TypeTable) (ds : Declarations) → AreSettled known ds → (q : List ℕ) (r : Qualified) → Declares ds q r → known q ≡ None → size_in known r ≡ None
settled known [] h q r (d) none = absurd d
settled known (d ∷ ds) h q r (inl p) none = subst (λ x. size_in known x ≡ None) p.1 (h.0 (ap known p.0 ∙ none))
settled known (d ∷ ds) h q r (inr p) none = settled known ds h.1 q r p none

pub none_some : {A : Type 0} {x : A} → None ≡ Some x → ⊥
none_some e = cc

pub known_or : {A : Type 0} (o : Option A) → (o ≡ None) ⊎ ((x : A) × (o ≡ Some x))
known_or None = inl refl
known_or (Some x) = inr (x, refl)

name_has_size : (known : TypeTable) (q : List ℕ) → (known q ≡ None) ⊎ ((k : TableEntry) × (known q ≡ Some k)) → (r : Qualified) (s : Extent) → size_in known r ≡ Some s → (known q ≡ None → size_in known r ≡ None)
    → (s : Extent) × (size_in known (qualified.common q) ≡ Some s)
unfolding size_in
name_has_size known q (inl none) r s sized lacks = absurd (none_some (sym (lacks none) ∙ sized))
name_has_size known q (inr p) r s sized lacks = (p.0.size, rw p.1 refl)

mutual
  unfolding size_in

  pub has_size : (commons : Declarations) (known : TypeTable) → AreSettled known commons → (r : Qualified) (t : Cedar) → IsExpansion commons r t → (s : Extent) × (size_in known r ≡ Some s)
  has_size commons known h _ _ written.text = (leaf_size, refl)
  has_size commons known h _ _ written.long = (leaf_size, refl)
  has_size commons known h _ _ written.boolean = (leaf_size, refl)
  has_size commons known h _ _ written.decimal = (leaf_size, refl)
  has_size commons known h _ _ written.ipaddr = (leaf_size, refl)
  has_size commons known h _ _ (written.set r t w) =
      let p = has_size commons known h r t w in (node_size p.0, rw p.1 refl)
  has_size commons known h _ _ (written.record_of rs ts w) =
      let p = have_sizes commons known h no_size rs ts w in (node_size p.0, rw p.1 refl)
  has_size commons known h _ _ (written.entity n) = (leaf_size, refl)
  has_size commons known h _ _ (written.common q r t d w) =
      let p = has_size commons known h r t w in name_has_size known q (known_or (known q)) r p.0 p.1 (settled known commons h q r d)

  pub have_sizes : (commons : Declarations) (known : TypeTable) → AreSettled known commons → (total : Extent) (rs : QualifiedFields) (ts : CedarFields) → AreFieldExpansions commons rs ts → (s : Extent) × (sizes_in known total rs ≡ Some s)
  have_sizes commons known h total _ _ written.no_fields = (total, refl)
  have_sizes commons known h total _ _ (written.field k r t b rs ts w ws) =
      let p = has_size commons known h r t w in
      let q = have_sizes commons known h (side_by_side total p.0) rs ts ws in (q.0, rw p.1 q.1)

-- ---- what a table gives is so

pub record Found (commons : Declarations) (known : TypeTable) (r : Qualified) (s : Extent) : Type 0 where
  pub type : Cedar
  pub is_written : IsExpansion commons r type
  pub size_is : s ≡ size_of type
  pub at_hand : IsWithin s → written_in known r ≡ Some type

record FieldsFound (commons : Declarations) (known : TypeTable) (total : Extent) (rs : QualifiedFields) (s : Extent) : Type 0 where
  types : CedarFields
  are_written : AreFieldExpansions commons rs types
  parts_are : s.parts ≡ min (total.parts + cedar.field_parts types) 10001
  depth_is : s.deep ≡ min (max total.deep (cedar.field_depth types)) 65
  at_hand : IsWithin s → fields_in known rs ≡ Some types

record IsCapped (s : Extent) : Type 0 where
  parts : s.parts ≤ 10001
  deep : s.deep ≤ 65

size_eq : (a b c d : ℕ) → a ≡ b → c ≡ d → (let x : Extent = record { parts = a; deep = c } in x) ≡ record { parts = b; deep = d }
size_eq a b c d e f = cc

mapped_some : {A B : Type 0} (f : A → B) (o : Option A) (y : B) → option_map f o ≡ Some y → (x : A) × (o ≡ Some x) × (f x ≡ y)
mapped_some f (Some x) y e = (x, refl, cc)
mapped_some f None y e = absurd (none_some e)

chained_some : {A B : Type 0} (f : A → Option B) (o : Option A) (y : B) → option_and_then f o ≡ Some y → (x : A) × (o ≡ Some x) × (f x ≡ Some y)
chained_some f (Some x) y e = (x, refl, e)
chained_some f None y e = absurd (none_some e)

leaf : (commons : Declarations) (known : TypeTable) (r : Qualified) (t : Cedar) (s : Extent) → IsExpansion commons r t → size_of t ≡ leaf_size → written_in known r ≡ Some t → Some leaf_size ≡ Some s → Found commons known r s
leaf commons known r t s w sized made e = let is : leaf_size ≡ s = cc e in record { type = t; is_written = w; size_is = sym is ∙ sym sized; at_hand = λ h. made }

name_written : (known : TypeTable) (q : List ℕ) (k : TableEntry) (t : Cedar) → known q ≡ Some k → k.whole ≡ Some t → written_in known (qualified.common q) ≡ Some t
unfolding written_in
name_written known q k t e w = rw e w

within_above : (x s : Extent) → node_size x ≡ s → IsWithin s → IsWithin x
within_above x s e w = let a = ap (λ (y : Extent). y.parts) e in let b = ap (λ (y : Extent). y.deep) e in (omega (arith, a, w.0), omega (arith, b, w.1))

mutual
  unfolding size_in written_in

  pub sound : (commons : Declarations) (known : TypeTable) → IsTable commons known → (r : Qualified) (s : Extent) → size_in known r ≡ Some s → Found commons known r s
  sound commons known h qualified.text s e = leaf commons known qualified.text cedar.text s written.text refl refl e
  sound commons known h qualified.long s e = leaf commons known qualified.long cedar.long s written.long refl refl e
  sound commons known h qualified.boolean s e = leaf commons known qualified.boolean cedar.boolean s written.boolean refl refl e
  sound commons known h qualified.decimal s e = leaf commons known qualified.decimal cedar.decimal s written.decimal refl refl e
  sound commons known h qualified.ipaddr s e = leaf commons known qualified.ipaddr cedar.ipaddr s written.ipaddr refl refl e
  sound commons known h (qualified.set r) s e =
      let p = mapped_some node_size (size_in known r) s e in
      let f = sound commons known h r p.0 p.1 in
      let parts_is = ap (λ (x : Extent). x.parts) (f.size_is) in
      let deep_is = ap (λ (x : Extent). x.deep) (f.size_is) in record {
        type = cedar.set f.type;
        is_written = written.set r f.type f.is_written;
        size_is = sym p.2 ∙ size_eq _ _ _ _ (omega (arith, parts_is)) (omega (arith, deep_is));
        at_hand = λ w. rw (f.at_hand (within_above p.0 s p.2 w)) refl;
      }
  sound commons known h (qualified.record_of rs) s e =
      let p = mapped_some node_size (sizes_in known no_size rs) s e in
      let f = sound_fields commons known h no_size rs p.0 (record { parts = omega arith; deep = omega arith }) p.1 in
      let parts_is = f.parts_are in
      let deep_is = f.depth_is in record {
        type = cedar.record_of f.types;
        is_written = written.record_of rs f.types f.are_written;
        size_is = sym p.2 ∙ size_eq _ _ _ _ (omega (arith, parts_is)) (omega (arith, deep_is));
        at_hand = λ w. rw (f.at_hand (within_above p.0 s p.2 w)) refl;
      }
  sound commons known h (qualified.entity n) s e = leaf commons known (qualified.entity n) (cedar.entity n) s (written.entity n) refl refl e
  sound commons known h (qualified.common q) s e =
      let p = mapped_some (λ (k : TableEntry). k.size) (known q) s e in
      let f = h q p.0 p.1 in record {
        type = f.type;
        is_written = f.is_written;
        size_is = sym p.2 ∙ f.size_is;
        at_hand = λ w. name_written known q p.0 f.type p.1 (f.at_hand (not_large p.0.size f.type f.size_is (subst IsWithin (sym p.2) w)));
      }

  sound_fields : (commons : Declarations) (known : TypeTable) → IsTable commons known → (total : Extent) (rs : QualifiedFields) (s : Extent) → IsCapped total → sizes_in known total rs ≡ Some s → FieldsFound commons known total rs s
  sound_fields commons known h total qualified.no_fields s capped e = let is : total ≡ s = cc e in let a = ap (λ (x : Extent). x.parts) is in let b = ap (λ (x : Extent). x.deep) is in record {
    types = cedar.no_fields;
    are_written = written.no_fields;
    parts_are = omega (arith, a, capped.parts);
    depth_is = omega (arith, b, capped.deep);
    at_hand = λ w. refl;
  }
  sound_fields commons known h total (qualified.field k r b rs) s capped e =
      let p = chained_some (λ x. sizes_in known (side_by_side total x) rs) (size_in known r) s e in
      let f = sound commons known h r p.0 p.1 in
      let one_parts = ap (λ (x : Extent). x.parts) (f.size_is) in
      let one_depth = ap (λ (x : Extent). x.deep) (f.size_is) in
      let g = sound_fields commons known h (side_by_side total p.0) rs s (record { parts = omega arith; deep = omega (arith, one_depth, capped.deep) }) p.2 in record {
        types = cedar.field k f.type b g.types;
        are_written = written.field k r f.type b rs g.types f.is_written g.are_written;
        parts_are = omega (arith, one_parts, g.parts_are);
        depth_is = omega (arith, one_depth, g.depth_is);
        at_hand = λ w. rw (f.at_hand (omega (arith, g.parts_are, one_parts, w.0), omega (arith, g.depth_is, one_depth, w.1)), g.at_hand w) refl;
      }
