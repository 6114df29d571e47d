-- What is read at the keys of an object is apart, since the keys ascend.
use Rattle.std.proofs.Common.{◌≡◌, ◌≢◌, ◌∙◌, ℕ, false, List, [], ◌∷◌, map, Option, Some, None, Result, Ok, refl, sym, ap, subst}
use Rattle.std.specs.Prelude.{codes, not}
use Rattle.std.specs.List.{AllByRecursion}
use Rattle.std.specs.List.Sorted.{IsStrictlySortedBy}
use Rattle.std.specs.Ordering.{nat_cmp, ordering_reverse}
use Rattle.std.specs.declared.cmp.Ordering.TheVariants.{Less, Greater}
use Rattle.std.specs.Cmp.Lexicographic.{slice_cmp}
use Rattle.std.specs.Str.{bytes_eq}
use Rattle.std.proofs.lemmas.Cmp.{nat_list_cmp_total}
use Rattle.values.specs.Paths.{is_path}
use Rattle.serde_json.specs.Data.{Data, Members, no_members, member}
use Rattle.serde_json.specs.Find.{as_object}
use Rattle.json_words.specs.ReadsAs.{◌>>=◌, demand, or_fault}
use Rattle.json_words.specs.Each.{each_member}
use Rattle.json_words.specs.Keys.{has_only}
use Rattle.json_words.proofs.EachLemmas.{bind_ok}
use Rattle.schema_types.specs.declared.fault.SchemaFault.{SchemaFault}
use Rattle.schema_types.specs.declared.fault.SchemaFault.TheVariants.{BadShape}
use Rattle.schema_types.specs.Raw.{Raw}
use Rattle.schema_types.specs.Ascending.{Ascend, member_keys, DataAscends, MembersAscend}
use Rattle.schema_types.specs.Forms.{form_named}
use Rattle.schema_types.specs.Names.{is_qualified}
use Rattle.schema_types.specs.Optional.{optional}
use Rattle.schema_types.specs.TypeShape.{type_name, type_of}
use Rattle.schema_reading.specs.DistinctNames.{AreApart, StatesOnce}
use Rattle.schema_reading.specs.inner.FileLaws.{FilesStateOnce}
use Rattle.schema_reading.specs.FileForm.{EntityTypeOf, ActionOf, NamespaceOf, ident, is_common, common_of, members_in, names_in, type_in, entity_type_name, entity_type_of, is_empty_in, parents_in, applies_to_in, action_of, namespace_name, commons_of, entity_types_of, actions_of, namespaces_of, commons_in, entity_types_in, actions_in, namespace_of, stated}
use Rattle.schema_reading.proofs.TypesLemmas.{object_ascends, optional_members, there_is}

abbrev ok : {A : Type 0} → A → Result A SchemaFault
ok x = Ok x

ok_same : {A : Type 0} (x y : A) → ok x ≡ ok y → x ≡ y
ok_same x y e = cc

-- ---- ascending keys

less_greater : Less ≡ Greater → ⊥
less_greater e = cc

apart_keys : (k l : List ℕ) → slice_cmp nat_cmp k l ≡ Less → k ≢ l
apart_keys k l lt same =
    let here : slice_cmp nat_cmp k k ≡ Less = subst (λ (x : List ℕ). slice_cmp nat_cmp k x ≡ Less) (sym same) lt in
    let there : slice_cmp nat_cmp k k ≡ Greater = nat_list_cmp_total.antisymm k k ∙ ap ordering_reverse here in
    less_greater (sym here ∙ there)

module _ {A B : Type 0} (f : List ℕ → Data → Result B SchemaFault) (name : B → A) (key : List ℕ → A) (named : (k : List ℕ) (d : Data) (x : B) → f k d ≡ ok x → name x ≡ key k)
    (one_key : (k l : List ℕ) → key k ≡ key l → k ≡ l) where
  members_lack : (k : List ℕ) (ms : Members) (xs : List B) → AllByRecursion (λ l. slice_cmp nat_cmp k l ≡ Less) (member_keys ms) → each_member f ms ≡ ok xs
      → AllByRecursion (λ y. key k ≢ y) (map name xs)
  unfolding each_member
  members_lack k no_members xs above e = subst (λ (zs : List B). AllByRecursion (λ y. key k ≢ y) (map name zs)) (ok_same [] xs e) tt
  members_lack k (member l d ms) xs above e =
      let a = bind_ok (f l d) (λ y. each_member f ms >>= λ ys. ok (y ∷ ys)) xs e in
      let b = bind_ok (each_member f ms) (λ ys. ok (a.0 ∷ ys)) xs a.2 in
      subst (λ (zs : List B). AllByRecursion (λ y. key k ≢ y) (map name zs)) (ok_same (a.0 ∷ b.0) xs b.2)
      ((λ same. apart_keys k l above.0 (one_key k l (same ∙ named l d a.0 a.1))), members_lack k ms b.0 above.1 b.1)

  pub members_apart : (ms : Members) (xs : List B) → Ascend (member_keys ms) → each_member f ms ≡ ok xs → AreApart (map name xs)
  unfolding each_member IsStrictlySortedBy
  members_apart no_members xs h e = subst (λ (zs : List B). AreApart (map name zs)) (ok_same [] xs e) tt
  members_apart (member l d ms) xs h e =
      let a = bind_ok (f l d) (λ y. each_member f ms >>= λ ys. ok (y ∷ ys)) xs e in
      let b = bind_ok (each_member f ms) (λ ys. ok (a.0 ∷ ys)) xs a.2 in
      subst (λ (zs : List B). AreApart (map name zs)) (ok_same (a.0 ∷ b.0) xs b.2)
      (subst (λ (x : A). AllByRecursion (λ y. x ≢ y) (map name b.0)) (sym (named l d a.0 a.1)) (members_lack l ms b.0 h.0 b.1), members_apart ms b.0 h.1 b.1)

-- ---- what is read under a key has it as its name

type_named : (w n : List ℕ) → type_name w ≡ ok n → n ≡ w
unfolding type_name
type_named w n e = let a = bind_ok (demand BadShape (is_path w)) (λ p. ok w) n e in sym (ok_same w n a.2)

ident_named : (w n : List ℕ) → ident w ≡ ok n → n ≡ w
unfolding ident
ident_named w n e =
    let a = bind_ok (type_name w) (λ path. demand BadShape (not (is_qualified w)) >>= λ one. ok path) n e in
    let b = bind_ok (demand BadShape (not (is_qualified w))) (λ one. ok a.0) n a.2 in
    sym (ok_same a.0 n b.2) ∙ type_named w a.0 a.1

common_named : (k : List ℕ) (d : Data) (c : List ℕ × Raw) → common_of k d ≡ ok c → c.0 ≡ k
unfolding common_of
common_named k d c e =
    let a = bind_ok (ident k) (λ name. demand BadShape (is_common (form_named k)) >>= λ free. type_of false d >>= λ t. ok (name, t)) c e in
    let b = bind_ok (demand BadShape (is_common (form_named k))) (λ free. type_of false d >>= λ t. ok (a.0, t)) c a.2 in
    let t = bind_ok (type_of false d) (λ t. ok (a.0, t)) c b.2 in
    ap (λ (x : List ℕ × Raw). x.0) (sym (ok_same (a.0, t.0) c t.2)) ∙ ident_named k a.0 a.1

entity_named : (k n : List ℕ) → entity_type_name k ≡ ok n → n ≡ k
entity_named k n e =
    let a = bind_ok (ident k) (λ name. demand BadShape (not (bytes_eq k (codes "Action"))) >>= λ free. ok name) n e in
    let b = bind_ok (demand BadShape (not (bytes_eq k (codes "Action")))) (λ free. ok a.0) n a.2 in
    sym (ok_same a.0 n b.2) ∙ ident_named k a.0 a.1

entity_type_named : (k : List ℕ) (d : Data) (x : EntityTypeOf) → entity_type_of k d ≡ ok x → x.name ≡ k
unfolding entity_type_of
entity_type_named k d x e =
    let a = bind_ok (entity_type_name k) _ x e in
    let b = bind_ok (demand BadShape (has_only (codes "memberOfTypes" ∷ codes "shape" ∷ codes "annotations" ∷ []) d)) _ x a.2 in
    let p = bind_ok (names_in (optional (codes "memberOfTypes") d)) _ x b.2 in
    let s = bind_ok (type_in (optional (codes "shape") d)) _ x p.2 in
    ap (λ (y : EntityTypeOf). y.name) (sym (ok_same (record { name = a.0; parents = p.0; shape = s.0 }) x s.2)) ∙ entity_named k a.0 a.1

action_named : (k : List ℕ) (d : Data) (x : ActionOf) → action_of k d ≡ ok x → x.id ≡ k
unfolding action_of
action_named k d x e =
    let a = bind_ok (demand BadShape (has_only (codes "memberOf" ∷ codes "appliesTo" ∷ codes "attributes" ∷ codes "annotations" ∷ []) d)) _ x e in
    let b = bind_ok (demand BadShape (is_empty_in (optional (codes "attributes") d))) _ x a.2 in
    let p = bind_ok (parents_in (optional (codes "memberOf") d)) _ x b.2 in
    let u = bind_ok (applies_to_in (optional (codes "appliesTo") d)) _ x p.2 in
    ap (λ (y : ActionOf). y.id) (sym (ok_same (record { id = k; parents = p.0; applies_to = u.0 }) x u.2))

-- the name of a namespace is its key; the empty key is no name
abbrev key_name : List ℕ → Option (List ℕ)
key_name [] = None
key_name (c ∷ cs) = Some (c ∷ cs)

some_same : (x y : List ℕ) → Some x ≡ Some y → x ≡ y
some_same x y e = cc

one_key_name : (k l : List ℕ) → key_name k ≡ key_name l → k ≡ l
one_key_name [] [] e = refl
one_key_name [] (d ∷ l) e = absurd cc
one_key_name (c ∷ k) [] e = absurd cc
one_key_name (c ∷ k) (d ∷ l) e = some_same (c ∷ k) (d ∷ l) e

key_named : (k : List ℕ) (o : Option (List ℕ)) → namespace_name k ≡ ok o → o ≡ key_name k
unfolding namespace_name
key_named [] o e = sym (ok_same None o e)
key_named (c ∷ cs) o e =
    let a = bind_ok (type_name (c ∷ cs)) (λ name. ok (Some name)) o e in
    sym (ok_same (Some a.0) o a.2) ∙ ap (λ (x : List ℕ). Some x) (type_named (c ∷ cs) a.0 a.1)

namespace_named : (k : List ℕ) (d : Data) (n : NamespaceOf) → namespace_of k d ≡ ok n → n.name ≡ key_name k
unfolding namespace_of
namespace_named k d n e =
    let a = bind_ok (namespace_name k) _ n e in
    let b = bind_ok (demand BadShape (has_only (codes "commonTypes" ∷ codes "entityTypes" ∷ codes "actions" ∷ codes "annotations" ∷ []) d)) _ n a.2 in
    let x = bind_ok (commons_in (optional (codes "commonTypes") d)) _ n b.2 in
    let y = bind_ok (entity_types_in (optional (codes "entityTypes") d)) _ n x.2 in
    let z = bind_ok (actions_in (optional (codes "actions") d)) _ n y.2 in
    ap (λ (m : NamespaceOf). m.name) (sym (ok_same (record { name = a.0; commons = x.0; entity_types = y.0; actions = z.0 }) n z.2)) ∙ key_named k a.0 a.1

-- ---- so no two of these have one name

commons_apart : (ms : Members) (xs : List (List ℕ × Raw)) → Ascend (member_keys ms) → commons_of ms ≡ ok xs → AreApart (map (λ c. c.0) xs)
unfolding commons_of
commons_apart = members_apart common_of (λ c. c.0) (λ k. k) common_named (λ k l e. e)

entity_types_apart : (ms : Members) (xs : List EntityTypeOf) → Ascend (member_keys ms) → entity_types_of ms ≡ ok xs → AreApart (map (λ x. x.name) xs)
unfolding entity_types_of
entity_types_apart = members_apart entity_type_of (λ x. x.name) (λ k. k) entity_type_named (λ k l e. e)

actions_apart : (ms : Members) (xs : List ActionOf) → Ascend (member_keys ms) → actions_of ms ≡ ok xs → AreApart (map (λ x. x.id) xs)
unfolding actions_of
actions_apart = members_apart action_of (λ x. x.id) (λ k. k) action_named (λ k l e. e)

namespaces_apart : (ms : Members) (xs : List NamespaceOf) → Ascend (member_keys ms) → namespaces_of ms ≡ ok xs → AreApart (map (λ n. n.name) xs)
unfolding namespaces_of
namespaces_apart = members_apart namespace_of (λ n. n.name) key_name namespace_named one_key_name

-- ---- in a namespace

namespace_once : (k : List ℕ) (d : Data) (n : NamespaceOf) → namespace_of k d ≡ ok n → DataAscends d → StatesOnce n
unfolding namespace_of
namespace_once k d n e h =
    let a = bind_ok (namespace_name k) _ n e in
    let b = bind_ok (demand BadShape (has_only (codes "commonTypes" ∷ codes "entityTypes" ∷ codes "actions" ∷ codes "annotations" ∷ []) d)) _ n a.2 in
    let x = bind_ok (commons_in (optional (codes "commonTypes") d)) _ n b.2 in
    let y = bind_ok (entity_types_in (optional (codes "entityTypes") d)) _ n x.2 in
    let z = bind_ok (actions_in (optional (codes "actions") d)) _ n y.2 in
    let xm = bind_ok (members_in (optional (codes "commonTypes") d)) commons_of x.0 x.1 in
    let ym = bind_ok (members_in (optional (codes "entityTypes") d)) entity_types_of y.0 y.1 in
    let zm = bind_ok (members_in (optional (codes "actions") d)) actions_of z.0 z.1 in
    subst StatesOnce (ok_same (record { name = a.0; commons = x.0; entity_types = y.0; actions = z.0 }) n z.2) (record {
      commons = commons_apart xm.0 x.0 (optional_members (codes "commonTypes") d xm.0 h xm.1).0 xm.2;
      entity_types = entity_types_apart ym.0 y.0 (optional_members (codes "entityTypes") d ym.0 h ym.1).0 ym.2;
      actions = actions_apart zm.0 z.0 (optional_members (codes "actions") d zm.0 h zm.1).0 zm.2;
    })

each_once : (ms : Members) (ns : List NamespaceOf) → each_member namespace_of ms ≡ ok ns → MembersAscend ms → AllByRecursion StatesOnce ns
unfolding each_member
each_once no_members ns e h = subst (λ (xs : List NamespaceOf). AllByRecursion StatesOnce xs) (ok_same [] ns e) tt
each_once (member k d ms) ns e h =
    let a = bind_ok (namespace_of k d) (λ y. each_member namespace_of ms >>= λ ys. ok (y ∷ ys)) ns e in
    let b = bind_ok (each_member namespace_of ms) (λ ys. ok (a.0 ∷ ys)) ns a.2 in
    subst (λ (xs : List NamespaceOf). AllByRecursion StatesOnce xs) (ok_same (a.0 ∷ b.0) ns b.2) (namespace_once k d a.0 a.1 h.0, each_once ms b.0 b.1 h.1)

pub files_state_once : FilesStateOnce
unfolding stated namespaces_of
files_state_once d ns e h =
    let a = bind_ok (or_fault BadShape (as_object d)) namespaces_of ns e in
    let m = object_ascends d a.0 h (there_is BadShape (as_object d) a.0 a.1) in
    record { namespaces = namespaces_apart a.0 ns m.0 a.2; names = each_once a.0 ns a.2 m.1 }
