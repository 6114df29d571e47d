-- In each type that a file states the keys ascend, since those of the file's objects do.
use Rattle.std.proofs.Common.{◌≡◌, ◌∙◌, ◌⊎◌, ℕ, false, List, [], ◌∷◌, Option, Some, None, Result, Ok, refl, sym, ap, subst, inl, inr}
use Rattle.std.specs.Prelude.{codes, Contains}
use Rattle.std.specs.Ordering.{match_ordering, nat_cmp}
use Rattle.std.specs.Cmp.Lexicographic.{slice_cmp}
use Rattle.std.specs.declared.cmp.Ordering.{Ordering}
use Rattle.std.specs.declared.cmp.Ordering.TheVariants.{Less, Equal, Greater}
use Rattle.std.specs.List.Sorted.{IsStrictlySortedBy}
use Rattle.serde_json.specs.Data.{Data, null, boolean, number, string, array, object, Members, no_members, member}
use Rattle.serde_json.specs.Find.{get, get_member, as_object}
use Rattle.plain.proofs.Members.{Contains-cases, Contains-none}
use Rattle.json_words.specs.ReadsAs.{◌>>=◌, demand, or_fault}
use Rattle.json_words.specs.Each.{each_member}
use Rattle.json_words.specs.Keys.{has_only}
use Rattle.json_words.proofs.EachLemmas.{bind_ok}
use Rattle.schema_types.specs.declared.fault.SchemaFault.{SchemaFault}
use Rattle.schema_types.specs.declared.fault.SchemaFault.TheVariants.{BadShape}
use Rattle.schema_types.specs.Raw.{Raw}
use Rattle.schema_types.specs.Ascending.{Ascend, member_keys, DataAscends, MembersAscend, RawAscends}
use Rattle.schema_types.specs.AscendingLaw.{StatedTypesAscend}
use Rattle.schema_types.specs.Forms.{form_named}
use Rattle.schema_types.specs.Optional.{optional, present, unless_null}
use Rattle.schema_types.specs.TypeShape.{type_of}
use Rattle.schema_reading.specs.inner.FileLaws.{IsTypeOf, common, shape, context, FilesTypesAscend}
use Rattle.schema_reading.specs.FileForm.{EntityTypeOf, AppliesToOf, ActionOf, NamespaceOf, ident, is_common, common_of, members_in, names_in, names_at, type_in, entity_type_name, entity_type_of, is_empty_in, parents_in, applies_to_of, applies_to_in, action_of, namespace_name, commons_of, entity_types_of, actions_of, namespaces_of, commons_in, entity_types_in, actions_in, namespace_of, stated}

abbrev ok : {A : Type 0} → A → Result A SchemaFault
ok x = Ok x

ok_same : {A : Type 0} (x y : A) → ok x ≡ ok y → x ≡ y
ok_same x y e = cc

abbrev some : {A : Type 0} → A → Option A
some x = Some x

some_same : {A : Type 0} (x y : A) → some x ≡ some y → x ≡ y
some_same x y e = cc

none_some : {B A : Type 0} {x : A} → None ≡ some x → B
none_some e = absurd cc

pub there_is : {A : Type 0} (f : SchemaFault) (o : Option A) (x : A) → or_fault f o ≡ ok x → o ≡ some x
there_is {A = A} f (Some y) x e = ap (λ (z : A). some z) (ok_same y x e)
there_is f None x e = absurd cc

-- ---- what stands in data whose keys ascend

abbrev Both : Members → Type 0
Both ms = Ascend (member_keys ms) × MembersAscend ms

none_both : Both no_members
unfolding IsStrictlySortedBy
none_both = (tt, tt)

pub object_ascends : (d : Data) (ms : Members) → DataAscends d → as_object d ≡ some ms → Both ms
object_ascends null ms h e = none_some e
object_ascends (boolean b) ms h e = none_some e
object_ascends (number n) ms h e = none_some e
object_ascends (string s) ms h e = none_some e
object_ascends (array ds) ms h e = none_some e
object_ascends (object xs) ms h e = subst Both (some_same xs ms e) h

member_ascends : (k : List ℕ) (ms : Members) (e : Data) → MembersAscend ms → get_member k ms ≡ some e → DataAscends e
member_ascends k no_members e h at = none_some at
member_ascends k (member l d ms) e h at = by (slice_cmp nat_cmp k l) (λ later. member_ascends k ms e h.1 later) at
  where
    by : (r : Ordering) → (get_member k ms ≡ some e → DataAscends e) → match_ordering r (get_member k ms) (some d) (get_member k ms) ≡ some e → DataAscends e
    by Less more found = more found
    by Equal more found = subst DataAscends (some_same d e found) h.0
    by Greater more found = more found

value_ascends : (k : List ℕ) (d e : Data) → DataAscends d → get k d ≡ some e → DataAscends e
value_ascends k null e h at = none_some at
value_ascends k (boolean b) e h at = none_some at
value_ascends k (number n) e h at = none_some at
value_ascends k (string s) e h at = none_some at
value_ascends k (array ds) e h at = none_some at
value_ascends k (object ms) e h at = member_ascends k ms e h.1 at

not_null : (d e : Data) → unless_null d ≡ some e → d ≡ e
not_null null e at = none_some at
not_null (boolean b) e at = some_same (boolean b) e at
not_null (number n) e at = some_same (number n) e at
not_null (string s) e at = some_same (string s) e at
not_null (array ds) e at = some_same (array ds) e at
not_null (object ms) e at = some_same (object ms) e at

present_is : (o : Option Data) (e : Data) → present o ≡ some e → o ≡ some e
present_is None e at = none_some at
present_is (Some d) e at = ap (λ (x : Data). some x) (not_null d e at)

pub optional_ascends : (k : List ℕ) (d e : Data) → DataAscends d → optional k d ≡ some e → DataAscends e
optional_ascends k d e h at = value_ascends k d e h (present_is (get k d) e at)

members_at : (o : Option Data) (ms : Members) → ((e : Data) → o ≡ some e → DataAscends e) → members_in o ≡ ok ms → Both ms
members_at None ms h e = subst Both (ok_same no_members ms e) none_both
members_at (Some d) ms h e = object_ascends d ms (h d refl) (there_is BadShape (as_object d) ms e)

pub optional_members : (k : List ℕ) (d : Data) (ms : Members) → DataAscends d → members_in (optional k d) ≡ ok ms → Both ms
optional_members k d ms h e = members_at (optional k d) ms (λ x at. optional_ascends k d x h at) e

-- ---- each member that was read

module _ {B : Type 0} (f : List ℕ → Data → Result B SchemaFault) where
  abbrev From : B → Type 0
  From x = (k : List ℕ) × (d : Data) × (f k d ≡ ok x) × DataAscends d

  read_from : (ms : Members) (xs : List B) → each_member f ms ≡ ok xs → MembersAscend ms → (x : B) → Contains xs x → From x
  unfolding each_member
  read_from no_members xs e h x here = Contains-none x (subst (λ (l : List B). Contains l x) (sym (ok_same [] xs e)) here)
  read_from (member k d ms) xs e h x here =
      let a = bind_ok (f k d) (λ y. each_member f ms >>= λ ys. ok (y ∷ ys)) xs e in
      let b = bind_ok (each_member f ms) (λ ys. ok (a.0 ∷ ys)) xs a.2 in
      by a.0 b.0 a.1 (Contains-cases a.0 b.0 x (subst (λ (l : List B). Contains l x) (sym (ok_same (a.0 ∷ b.0) xs b.2)) here)) (λ later. read_from ms b.0 b.1 h.1 x later)
    where
      by : (y : B) (ys : List B) → f k d ≡ ok y → (y ≡ x) ⊎ Contains ys x → (Contains ys x → From x) → From x
      by y ys one (inl same) later = (k, d, one ∙ ap (λ (z : B). ok z) same, h.0)
      by y ys one (inr there) later = later there

-- ---- the types of a namespace

module _ (ascend : StatedTypesAscend) where
  type_at_ascends : (o : Option Data) (found : Option Raw) (r : Raw) → ((e : Data) → o ≡ some e → DataAscends e) → type_in o ≡ ok found → found ≡ some r → RawAscends r
  type_at_ascends None found r h e is = none_some (ok_same None found e ∙ is)
  type_at_ascends (Some d) found r h e is =
      let a = bind_ok (type_of false d) (λ t. ok (some t)) found e in
      subst RawAscends (some_same a.0 r (ok_same (some a.0) found a.2 ∙ is)) (ascend false d a.0 a.1 (h d refl))

  common_ascends : (k : List ℕ) (d : Data) (c : List ℕ × Raw) → common_of k d ≡ ok c → DataAscends d → RawAscends c.1
  unfolding common_of
  common_ascends k d c e h =
      let a = bind_ok (ident k) (λ name. demand BadShape (is_common (form_named k)) >>= λ free. type_of false d >>= λ t. ok (name, t)) c e in
      let b = bind_ok (demand BadShape (is_common (form_named k))) (λ free. type_of false d >>= λ t. ok (a.0, t)) c a.2 in
      let t = bind_ok (type_of false d) (λ t. ok (a.0, t)) c b.2 in
      subst RawAscends (ap (λ (x : List ℕ × Raw). x.1) (ok_same (a.0, t.0) c t.2)) (ascend false d t.0 t.1 h)

  shape_ascends : (k : List ℕ) (d : Data) (x : EntityTypeOf) (r : Raw) → entity_type_of k d ≡ ok x → DataAscends d → x.shape ≡ some r → RawAscends r
  unfolding entity_type_of
  shape_ascends k d x r e h is =
      let a = bind_ok (entity_type_name k) _ x e in
      let b = bind_ok (demand BadShape (has_only (codes "memberOfTypes" ∷ codes "shape" ∷ codes "annotations" ∷ []) d)) _ x a.2 in
      let p = bind_ok (names_in (optional (codes "memberOfTypes") d)) _ x b.2 in
      let s = bind_ok (type_in (optional (codes "shape") d)) _ x p.2 in
      type_at_ascends (optional (codes "shape") d) s.0 r (λ y at. optional_ascends (codes "shape") d y h at) s.1
      (ap (λ (y : EntityTypeOf). y.shape) (ok_same (record { name = a.0; parents = p.0; shape = s.0 }) x s.2) ∙ is)

  context_ascends : (d : Data) (u : AppliesToOf) (r : Raw) → applies_to_of d ≡ ok u → DataAscends d → u.context ≡ some r → RawAscends r
  unfolding applies_to_of
  context_ascends d u r e h is =
      let a = bind_ok (demand BadShape (has_only (codes "principalTypes" ∷ codes "resourceTypes" ∷ codes "context" ∷ codes "annotations" ∷ []) d)) _ u e in
      let p = bind_ok (names_at (codes "principalTypes") d) _ u a.2 in
      let q = bind_ok (names_at (codes "resourceTypes") d) _ u p.2 in
      let s = bind_ok (type_in (optional (codes "context") d)) _ u q.2 in
      type_at_ascends (optional (codes "context") d) s.0 r (λ y at. optional_ascends (codes "context") d y h at) s.1
      (ap (λ (y : AppliesToOf). y.context) (ok_same (record { principals = p.0; resources = q.0; context = s.0 }) u s.2) ∙ is)

  used_ascends : (o : Option Data) (found : Option AppliesToOf) (u : AppliesToOf) (r : Raw) → ((e : Data) → o ≡ some e → DataAscends e) → applies_to_in o ≡ ok found → found ≡ some u → u.context ≡ some r → RawAscends r
  used_ascends None found u r h e is at = none_some (ok_same None found e ∙ is)
  used_ascends (Some d) found u r h e is at =
      let a = bind_ok (applies_to_of d) (λ t. ok (some t)) found e in
      context_ascends d u r (a.1 ∙ ap (λ (x : AppliesToOf). ok x) (some_same a.0 u (ok_same (some a.0) found a.2 ∙ is))) (h d refl) at

  action_ascends : (k : List ℕ) (d : Data) (x : ActionOf) (u : AppliesToOf) (r : Raw) → action_of k d ≡ ok x → DataAscends d → x.applies_to ≡ some u → u.context ≡ some r → RawAscends r
  unfolding action_of
  action_ascends k d x u r e h is at =
      let a = bind_ok (demand BadShape (has_only (codes "memberOf" ∷ codes "appliesTo" ∷ codes "attributes" ∷ codes "annotations" ∷ []) d)) _ x e in
      let b = bind_ok (demand BadShape (is_empty_in (optional (codes "attributes") d))) _ x a.2 in
      let p = bind_ok (parents_in (optional (codes "memberOf") d)) _ x b.2 in
      let v = bind_ok (applies_to_in (optional (codes "appliesTo") d)) _ x p.2 in
      used_ascends (optional (codes "appliesTo") d) v.0 u r (λ y here. optional_ascends (codes "appliesTo") d y h here) v.1
      (ap (λ (y : ActionOf). y.applies_to) (ok_same (record { id = k; parents = p.0; applies_to = v.0 }) x v.2) ∙ is) at

  -- what is read at the three keys of a namespace
  abbrev Parts : NamespaceOf → Type 0
  Parts n = ((c : List ℕ × Raw) → Contains n.commons c → From common_of c)
      × ((e : EntityTypeOf) → Contains n.entity_types e → From entity_type_of e)
      × ((a : ActionOf) → Contains n.actions a → From action_of a)

  parts_of : (k : List ℕ) (d : Data) (n : NamespaceOf) → namespace_of k d ≡ ok n → DataAscends d → Parts n
  unfolding namespace_of commons_of entity_types_of actions_of
  parts_of k d n e h =
      let a = bind_ok (namespace_name k) _ n e in
      let b = bind_ok (demand BadShape (has_only (codes "commonTypes" ∷ codes "entityTypes" ∷ codes "actions" ∷ codes "annotations" ∷ []) d)) _ n a.2 in
      let x = bind_ok (commons_in (optional (codes "commonTypes") d)) _ n b.2 in
      let y = bind_ok (entity_types_in (optional (codes "entityTypes") d)) _ n x.2 in
      let z = bind_ok (actions_in (optional (codes "actions") d)) _ n y.2 in
      let xm = bind_ok (members_in (optional (codes "commonTypes") d)) commons_of x.0 x.1 in
      let ym = bind_ok (members_in (optional (codes "entityTypes") d)) entity_types_of y.0 y.1 in
      let zm = bind_ok (members_in (optional (codes "actions") d)) actions_of z.0 z.1 in
      subst Parts (ok_same (record { name = a.0; commons = x.0; entity_types = y.0; actions = z.0 }) n z.2) (
        read_from common_of xm.0 x.0 xm.2 (optional_members (codes "commonTypes") d xm.0 h xm.1).1,
        read_from entity_type_of ym.0 y.0 ym.2 (optional_members (codes "entityTypes") d ym.0 h ym.1).1,
        read_from action_of zm.0 z.0 zm.2 (optional_members (codes "actions") d zm.0 h zm.1).1,
      )

  type_ascends : (n : NamespaceOf) → Parts n → (r : Raw) → IsTypeOf n r → RawAscends r
  type_ascends n parts _ (common c here) = let f = parts.0 c here in common_ascends f.0 f.1 c f.2 f.3
  type_ascends n parts _ (shape e r here is) = let f = parts.1 e here in shape_ascends f.0 f.1 e r f.2 f.3 is
  type_ascends n parts _ (context a u r here is at) = let f = parts.2 a here in action_ascends f.0 f.1 a u r f.2 f.3 is at

  pub files_types_ascend : FilesTypesAscend
  unfolding stated namespaces_of
  files_types_ascend d ns e h n here r is =
      let a = bind_ok (or_fault BadShape (as_object d)) namespaces_of ns e in
      let m = object_ascends d a.0 h (there_is BadShape (as_object d) a.0 a.1) in
      let f = read_from namespace_of a.0 ns a.2 m.1 n here in
      type_ascends n (parts_of f.0 f.1 n f.2 f.3) r is
