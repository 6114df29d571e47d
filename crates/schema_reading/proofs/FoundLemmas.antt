-- What is found comes from what is stated, and what is stated is found.
use Rattle.std.proofs.Common.{◌≡◌, ◌∙◌, ◌⊎◌, inl, inr, ℕ, suc, List, [], ◌∷◌, map, Bool, true, false, Option, Some, None, Result, Ok, refl, sym, ap, subst, true≢false}
use Rattle.std.specs.Prelude.{◌||◌, Contains}
use Rattle.std.specs.List.{list_any}
use Rattle.std.specs.Str.{bytes_eq}
use Rattle.std.proofs.lemmas.List.Elements.{Contains-append_left, Contains-append_right, Contains-append_cases}
use Rattle.std.proofs.lemmas.Slice.Eq.{bytes_eq-Decides}
use Rattle.json_words.specs.ReadsAs.{◌>>=◌}
use Rattle.json_words.specs.Each.{each}
use Rattle.json_words.proofs.EachLemmas.{bind_ok}
use Rattle.values.specs.declared.entity_uid.EntityUid.{EntityUid}
use Rattle.plain.proofs.Members.{Contains-here, Contains-there, Contains-cases, Contains-none}
use Rattle.schema_types.specs.Raw.{Raw}
use Rattle.schema_types.specs.Qualified.{Qualified}
use Rattle.schema_types.specs.Expansions.{Declarations, Declares}
use Rattle.schema_types.specs.Names.{Scope, full_name, qualified_of}
use Rattle.schema_types.specs.declared.fault.SchemaFault.{SchemaFault}
use Rattle.schema_reading.specs.FileForm.{EntityTypeOf, AppliesToOf, ActionOf, NamespaceOf}
use Rattle.schema_types.specs.Mentions.{IsClosed}
use Rattle.schema_types.specs.Law.{ResolvedCommonsAreDeclared}
use Rattle.schema_reading.specs.Laws.{IsShapeOrContext, DeclaresItsCommonTypes}
use Rattle.schema_reading.specs.Naming.{DescribesFile}
use Rattle.schema_reading.specs.Records.{MustBeRecord}
use Rattle.schema_reading.specs.Qualifying.{all_of, CommonOf, common_in, commons_declared, scope_in, is_action_in, ResolvedEntityType, ResolvedAppliesTo, ResolvedAction, ResolvedSchema, entity_types_named, type_named, parents_named, applies_to_named, qualified_common, qualified_entity_type, qualified_use, qualified_action, qualified_commons, qualified_entity_types, qualified_actions, qualified_namespace, qualified_namespaces, together, qualified}

abbrev ok : {A : Type 0} → A → Result A SchemaFault
ok x = Ok x

pub ok_same : {A : Type 0} (x y : A) → ok x ≡ ok y → x ≡ y
ok_same x y e = cc

abbrev some : {A : Type 0} → A → Option A
some x = Some x

some_same : {A : Type 0} (x y : A) → some x ≡ some y → x ≡ y
some_same x y e = cc

none_some : {B A : Type 0} {x : A} → None ≡ some x → B
none_some e = absurd cc

-- ---- reading each

-- f reads x as y, at some place
abbrev Reads : {A B : Type 0} → (ℕ → A → Result B SchemaFault) → A → B → Type 0
Reads f x y = (i : ℕ) × (f i x ≡ ok y)

abbrev From : {A B : Type 0} → (ℕ → A → Result B SchemaFault) → List A → B → Type 0
From {A = A} f xs y = (x : A) × Contains xs x × Reads f x y

-- each that was read comes from one of the list
pub read_from : {A B : Type 0} (f : ℕ → A → Result B SchemaFault) (k : ℕ) (xs : List A) (ys : List B) → each f k xs ≡ ok ys → (y : B) → Contains ys y → From f xs y
unfolding each
read_from {B = B} f k [] ys e y here = Contains-none y (subst (λ (l : List B). Contains l y) (sym (ok_same [] ys e)) here)
read_from {A = A} {B = B} f k (x ∷ xs) ys e y here =
    let a = bind_ok (f k x) (λ z. each f (suc k) xs >>= λ zs. ok (z ∷ zs)) ys e in
    let b = bind_ok (each f (suc k) xs) (λ zs. ok (a.0 ∷ zs)) ys a.2 in
    by a.0 b.0 a.1 (Contains-cases a.0 b.0 y (subst (λ (l : List B). Contains l y) (sym (ok_same (a.0 ∷ b.0) ys b.2)) here)) (λ later. read_from f (suc k) xs b.0 b.1 y later)
  where
    more : From f xs y → From f (x ∷ xs) y
    more (z, there, reads) = (z, Contains-there x xs z there, reads)

    by : (z : B) (zs : List B) → f k x ≡ ok z → (z ≡ y) ⊎ Contains zs y → (Contains zs y → From f xs y) → From f (x ∷ xs) y
    by z zs one (inl same) later = (x, Contains-here x xs, (k, one ∙ ap (λ (w : B). ok w) same))
    by z zs one (inr there) later = more (later there)

abbrev To : {A B : Type 0} → (ℕ → A → Result B SchemaFault) → A → List B → Type 0
To {B = B} f x ys = (y : B) × Contains ys y × Reads f x y

-- each of the list was read
pub read_to : {A B : Type 0} (f : ℕ → A → Result B SchemaFault) (k : ℕ) (xs : List A) (ys : List B) → each f k xs ≡ ok ys → (x : A) → Contains xs x → To f x ys
unfolding each
read_to f k [] ys e x here = Contains-none x here
read_to {A = A} {B = B} f k (z ∷ xs) ys e x here =
    let a = bind_ok (f k z) (λ w. each f (suc k) xs >>= λ ws. ok (w ∷ ws)) ys e in
    let b = bind_ok (each f (suc k) xs) (λ ws. ok (a.0 ∷ ws)) ys a.2 in
    subst (λ (l : List B). To f x l) (ok_same (a.0 ∷ b.0) ys b.2) (by a.0 b.0 a.1 (Contains-cases z xs x here) (λ later. read_to f (suc k) xs b.0 b.1 x later))
  where
    more : (w : B) (ws : List B) → To f x ws → To f x (w ∷ ws)
    more w ws (y, there, reads) = (y, Contains-there w ws y there, reads)

    by : (w : B) (ws : List B) → f k z ≡ ok w → (z ≡ x) ⊎ Contains xs x → (Contains xs x → To f x ws) → To f x (w ∷ ws)
    by w ws one (inl same) later = (w, Contains-here w ws, (k, ap (λ (v : A). f k v) (sym same) ∙ one))
    by w ws one (inr there) later = more w ws (later there)

-- ---- all of several lists

pub all_of_from : {A B : Type 0} (g : A → List B) (xs : List A) (y : B) → Contains (all_of g xs) y → (x : A) × Contains xs x × Contains (g x) y
all_of_from g [] y here = Contains-none y here
all_of_from {A = A} {B = B} g (x ∷ xs) y here = by (Contains-append_cases (g x) (all_of g xs) y here) (λ later. all_of_from g xs y later)
  where
    more : ((z : A) × Contains xs z × Contains (g z) y) → (z : A) × Contains (x ∷ xs) z × Contains (g z) y
    more (z, there, inside) = (z, Contains-there x xs z there, inside)

    by : Contains (g x) y ⊎ Contains (all_of g xs) y → (Contains (all_of g xs) y → (z : A) × Contains xs z × Contains (g z) y) → (z : A) × Contains (x ∷ xs) z × Contains (g z) y
    by (inl inside) later = (x, Contains-here x xs, inside)
    by (inr there) later = more (later there)

pub all_of_to : {A B : Type 0} (g : A → List B) (xs : List A) (x : A) (y : B) → Contains xs x → Contains (g x) y → Contains (all_of g xs) y
all_of_to g [] x y here inside = Contains-none x here
all_of_to {A = A} g (z ∷ xs) x y here inside = by (Contains-cases z xs x here) (λ later. all_of_to g xs x y later inside)
  where
    by : (z ≡ x) ⊎ Contains xs x → (Contains xs x → Contains (all_of g xs) y) → Contains (all_of g (z ∷ xs)) y
    by (inl same) later = Contains-append_left (g z) (all_of g xs) y (subst (λ (w : A). Contains (g w) y) (sym same) inside)
    by (inr there) later = Contains-append_right (g z) (all_of g xs) y (later there)

pub map_from : {A B : Type 0} (g : A → B) (xs : List A) (y : B) → Contains (map g xs) y → (x : A) × Contains xs x × (g x ≡ y)
map_from g [] y here = Contains-none y here
map_from {A = A} g (x ∷ xs) y here = by (Contains-cases (g x) (map g xs) y here) (λ later. map_from g xs y later)
  where
    more : ((z : A) × Contains xs z × (g z ≡ y)) → (z : A) × Contains (x ∷ xs) z × (g z ≡ y)
    more (z, there, is) = (z, Contains-there x xs z there, is)

    by : (g x ≡ y) ⊎ Contains (map g xs) y → (Contains (map g xs) y → (z : A) × Contains xs z × (g z ≡ y)) → (z : A) × Contains (x ∷ xs) z × (g z ≡ y)
    by (inl same) later = (x, Contains-here x xs, same)
    by (inr there) later = more (later there)

pub map_to : {A B : Type 0} (g : A → B) (xs : List A) (x : A) → Contains xs x → Contains (map g xs) (g x)
map_to g [] x here = Contains-none x here
map_to {A = A} {B = B} g (z ∷ xs) x here = by (Contains-cases z xs x here) (λ later. map_to g xs x later)
  where
    by : (z ≡ x) ⊎ Contains xs x → (Contains xs x → Contains (map g xs) (g x)) → Contains (g z ∷ map g xs) (g x)
    by (inl same) later = subst (λ (w : A). Contains (g z ∷ map g xs) (g w)) same (Contains-here (g z) (map g xs))
    by (inr there) later = Contains-there (g z) (map g xs) (g x) (later there)

-- ---- declarations

pub declares_from : (ds : Declarations) (q : List ℕ) (r : Qualified) → Declares ds q r → Contains ds (q, r)
declares_from [] q r here = absurd here
declares_from (d ∷ ds) q r (inl p) =
    subst (λ (x : List ℕ × Qualified). Contains (d ∷ ds) x) (λ i. (p.0 i, p.1 i)) (Contains-here d ds)
declares_from (d ∷ ds) q r (inr p) = Contains-there d ds (q, r) (declares_from ds q r p)

pub declares_to : (ds : Declarations) (d : List ℕ × Qualified) → Contains ds d → Declares ds d.0 d.1
declares_to [] d here = Contains-none d here
declares_to (e ∷ ds) d here = by (Contains-cases e ds d here) (λ later. declares_to ds d later)
  where
    by : (e ≡ d) ⊎ Contains ds d → (Contains ds d → Declares ds d.0 d.1) → Declares (e ∷ ds) d.0 d.1
    by (inl same) later = inl (ap (λ (x : List ℕ × Qualified). x.0) same, ap (λ (x : List ℕ × Qualified). x.1) same)
    by (inr there) later = inr (later there)

pub some_passes : {A : Type 0} (p : A → Bool) (xs : List A) → list_any p xs ≡ true → (x : A) × Contains xs x × (p x ≡ true)
some_passes p [] h = absurd (true≢false (sym h))
some_passes {A = A} p (x ∷ xs) h = by (p x) refl h (λ later. some_passes p xs later)
  where
    more : ((z : A) × Contains xs z × (p z ≡ true)) → (z : A) × Contains (x ∷ xs) z × (p z ≡ true)
    more (z, there, is) = (z, Contains-there x xs z there, is)

    by : (b : Bool) → p x ≡ b → (b || list_any p xs) ≡ true → (list_any p xs ≡ true → (z : A) × Contains xs z × (p z ≡ true)) → (z : A) × Contains (x ∷ xs) z × (p z ≡ true)
    by true e h later = (x, Contains-here x xs, e)
    by false e h later = more (later h)

-- ---- of a file with each name found

module _ (ns : List NamespaceOf) (s : ResolvedSchema) (named : qualified ns ≡ ok s) where
  -- of a namespace that is stated, p is that with each name found
  abbrev FromNamespace : ResolvedSchema → Type 0
  FromNamespace p = (n : NamespaceOf) × Contains ns n × (qualified_namespace (scope_in ns) (is_action_in ns) n ≡ ok p)

  pub parts_of : (parts : List ResolvedSchema) × (qualified_namespaces (scope_in ns) (is_action_in ns) ns ≡ ok parts) × (together parts ≡ s)
  unfolding qualified
  parts_of =
      let b = bind_ok (qualified_namespaces (scope_in ns) (is_action_in ns) ns) (λ parts. ok (together parts)) s named in
      (b.0, b.1, ok_same (together b.0) s b.2)

  pub namespace_from : (p : ResolvedSchema) → Contains parts_of.0 p → FromNamespace p
  unfolding qualified_namespaces
  namespace_from p here = let x = read_from (λ i n. qualified_namespace (scope_in ns) (is_action_in ns) n) 0 ns parts_of.0 parts_of.1 p here in (x.0, x.1, x.2.1)

  pub namespace_to : (n : NamespaceOf) → Contains ns n → (p : ResolvedSchema) × Contains parts_of.0 p × (qualified_namespace (scope_in ns) (is_action_in ns) n ≡ ok p)
  unfolding qualified_namespaces
  namespace_to n here = let x = read_to (λ i m. qualified_namespace (scope_in ns) (is_action_in ns) m) 0 ns parts_of.0 parts_of.1 n here in (x.0, x.1, x.2.1)

module _ (sc : Scope) (is_action : EntityUid → Bool) (n : NamespaceOf) (p : ResolvedSchema) (named : qualified_namespace sc is_action n ≡ ok p) where
  pub namespace_parts : (qualified_commons sc n.name n.commons ≡ ok p.commons) × (qualified_entity_types sc n.name n.entity_types ≡ ok p.entity_types)
      × (qualified_actions sc is_action n.name n.actions ≡ ok p.actions)
  unfolding qualified_namespace
  namespace_parts =
      let a = bind_ok (qualified_commons sc n.name n.commons) _ p named in
      let b = bind_ok (qualified_entity_types sc n.name n.entity_types) _ p a.2 in
      let d = bind_ok (qualified_actions sc is_action n.name n.actions) _ p b.2 in
      let same : (let x : ResolvedSchema = record { commons = a.0; entity_types = b.0; actions = d.0 } in x) ≡ p = ok_same (record { commons = a.0; entity_types = b.0; actions = d.0 }) p d.2 in
      (a.1 ∙ ap (λ (x : ResolvedSchema). ok x.commons) same, b.1 ∙ ap (λ (x : ResolvedSchema). ok x.entity_types) same, d.1 ∙ ap (λ (x : ResolvedSchema). ok x.actions) same)

-- r is what the type raw means, as it stands in the namespace own
abbrev Means : Scope → Option (List ℕ) → Option Raw → Qualified → Type 0
Means sc own o r = (raw : Raw) × (o ≡ some raw) × (qualified_of sc own raw ≡ ok r)

type_from : (sc : Scope) (own : Option (List ℕ)) (o : Option Raw) (found : Option Qualified) → type_named sc own o ≡ ok found → (r : Qualified) → found ≡ some r → Means sc own o r
type_from sc own None found e r is = none_some (ok_same None found e ∙ is)
type_from sc own (Some raw) found e r is =
    let a = bind_ok (qualified_of sc own raw) (λ t. ok (some t)) found e in
    (raw, refl, a.1 ∙ ap (λ (x : Qualified). ok x) (some_same a.0 r (ok_same (some a.0) found a.2 ∙ is)))

shape_from : (sc : Scope) (own : Option (List ℕ)) (x : EntityTypeOf) (e : ResolvedEntityType) → qualified_entity_type sc own x ≡ ok e → (r : Qualified) → e.shape ≡ some r → Means sc own x.shape r
unfolding qualified_entity_type
shape_from sc own x e read r is =
    let a = bind_ok (entity_types_named sc own x.parents) _ e read in
    let b = bind_ok (type_named sc own x.shape) _ e a.2 in
    let same : (let y : ResolvedEntityType = record { name = full_name own x.name; parents = a.0; shape = b.0 } in y) ≡ e = ok_same (record { name = full_name own x.name; parents = a.0; shape = b.0 }) e b.2 in
    type_from sc own x.shape b.0 b.1 r (ap (λ (y : ResolvedEntityType). y.shape) same ∙ is)

context_from : (sc : Scope) (own : Option (List ℕ)) (u : AppliesToOf) (f : ResolvedAppliesTo) → qualified_use sc own u ≡ ok f → (r : Qualified) → f.context ≡ some r → Means sc own u.context r
unfolding qualified_use
context_from sc own u f read r is =
    let a = bind_ok (entity_types_named sc own u.principals) _ f read in
    let b = bind_ok (entity_types_named sc own u.resources) _ f a.2 in
    let d = bind_ok (type_named sc own u.context) _ f b.2 in
    let same : (let y : ResolvedAppliesTo = record { principals = a.0; resources = b.0; context = d.0 } in y) ≡ f = ok_same (record { principals = a.0; resources = b.0; context = d.0 }) f d.2 in
    type_from sc own u.context d.0 d.1 r (ap (λ (y : ResolvedAppliesTo). y.context) same ∙ is)

pub use_from : (sc : Scope) (own : Option (List ℕ)) (o : Option AppliesToOf) (found : Option ResolvedAppliesTo) → applies_to_named sc own o ≡ ok found → (f : ResolvedAppliesTo) → found ≡ some f → (u : AppliesToOf) × (o ≡ some u) × (qualified_use sc own u ≡ ok f)
use_from sc own None found e f is = none_some (ok_same None found e ∙ is)
use_from sc own (Some u) found e f is =
    let a = bind_ok (qualified_use sc own u) (λ t. ok (some t)) found e in
    (u, refl, a.1 ∙ ap (λ (x : ResolvedAppliesTo). ok x) (some_same a.0 f (ok_same (some a.0) found a.2 ∙ is)))

pub applies_from : (sc : Scope) (is_action : EntityUid → Bool) (own : Option (List ℕ)) (x : ActionOf) (a : ResolvedAction) → qualified_action sc is_action own x ≡ ok a → (f : ResolvedAppliesTo) → a.applies_to ≡ some f
    → (u : AppliesToOf) × (x.applies_to ≡ some u) × (qualified_use sc own u ≡ ok f)
unfolding qualified_action
applies_from sc is_action own x a read f is =
    let p = bind_ok (parents_named is_action own x.parents) _ a read in
    let u = bind_ok (applies_to_named sc own x.applies_to) _ a p.2 in
    let same = ap (λ (y : ResolvedAction). y.applies_to) (ok_same _ a u.2) in
    use_from sc own x.applies_to u.0 u.1 f (same ∙ is)

module _ (ns : List NamespaceOf) (s : ResolvedSchema) (named : qualified ns ≡ ok s) where
  -- a shape or a context of s is what one of a namespace means
  pub record_from : (r : Qualified) → IsShapeOrContext s r → (n : NamespaceOf) × (raw : Raw) × Contains ns n × MustBeRecord n raw × (qualified_of (scope_in ns) n.name raw ≡ ok r)
  unfolding qualified_entity_types qualified_actions
  record_from r (inl (e, here, is)) =
      let parts = parts_of ns s named in
      let x = all_of_from (λ p. p.entity_types) parts.0 e (subst (λ (y : ResolvedSchema). Contains y.entity_types e) (sym parts.2) here) in
      let n = namespace_from ns s named x.0 x.1 in
      let inside = namespace_parts (scope_in ns) (is_action_in ns) n.0 x.0 n.2 in
      let t = read_from (λ i y. qualified_entity_type (scope_in ns) n.0.name y) 0 n.0.entity_types x.0.entity_types inside.1 e x.2 in
      let m = shape_from (scope_in ns) n.0.name t.0 e t.2.1 r is in
      (n.0, m.0, n.1, inl (t.0, t.1, m.1), m.2)
  record_from r (inr (a, here, (f, applies, is))) =
      let parts = parts_of ns s named in
      let x = all_of_from (λ p. p.actions) parts.0 a (subst (λ (y : ResolvedSchema). Contains y.actions a) (sym parts.2) here) in
      let n = namespace_from ns s named x.0 x.1 in
      let inside = namespace_parts (scope_in ns) (is_action_in ns) n.0 x.0 n.2 in
      let t = read_from (λ i y. qualified_action (scope_in ns) (is_action_in ns) n.0.name y) 0 n.0.actions x.0.actions inside.2 a x.2 in
      let u = applies_from (scope_in ns) (is_action_in ns) n.0.name t.0 a t.2.1 f applies in
      let m = context_from (scope_in ns) n.0.name u.0 f u.2 r is in
      (n.0, m.0, n.1, inr (t.0, t.1, (u.0, u.1, m.1)), m.2)

  -- a common type of s is what one of a namespace means
  pub common_from : (q : List ℕ) (r : Qualified) → Declares s.commons q r
      → (c : CommonOf) × Contains (commons_declared ns) c × (c.name ≡ q) × (qualified_of (scope_in ns) c.own c.type ≡ ok r)
  unfolding qualified_commons qualified_common
  common_from q r here =
      let parts = parts_of ns s named in
      let x = all_of_from (λ p. p.commons) parts.0 (q, r) (subst (λ (y : ResolvedSchema). Contains y.commons (q, r)) (sym parts.2) (declares_from s.commons q r here)) in
      let n = namespace_from ns s named x.0 x.1 in
      let inside = namespace_parts (scope_in ns) (is_action_in ns) n.0 x.0 n.2 in
      let t = read_from (λ i y. qualified_common (scope_in ns) n.0.name y) 0 n.0.commons x.0.commons inside.0 (q, r) x.2 in
      let a = bind_ok (qualified_of (scope_in ns) n.0.name t.0.1) (λ z. ok (full_name n.0.name t.0.0, z)) (q, r) t.2.1 in
      let same = ok_same (full_name n.0.name t.0.0, a.0) (q, r) a.2 in (
        common_in n.0.name t.0,
        all_of_to (λ m. map (λ c. common_in m.name c) m.commons) ns n.0 (common_in n.0.name t.0) n.1 (map_to (λ c. common_in n.0.name c) n.0.commons t.0 t.1),
        ap (λ (d : List ℕ × Qualified). d.0) same,
        a.1 ∙ ap (λ (d : List ℕ × Qualified). ok d.1) same,
      )

  -- a common type of a namespace is one of s
  pub common_to : (c : CommonOf) → Contains (commons_declared ns) c → (r : Qualified) × Declares s.commons c.name r
  unfolding qualified_commons qualified_common
  common_to c here =
      let parts = parts_of ns s named in
      let x = all_of_from (λ n. map (λ y. common_in n.name y) n.commons) ns c here in
      let m = map_from (λ y. common_in x.0.name y) x.0.commons c x.2 in
      let p = namespace_to ns s named x.0 x.1 in
      let inside = namespace_parts (scope_in ns) (is_action_in ns) x.0 p.0 p.2 in
      let t = read_to (λ i y. qualified_common (scope_in ns) x.0.name y) 0 x.0.commons p.0.commons inside.0 m.0 m.1 in
      let a = bind_ok (qualified_of (scope_in ns) x.0.name m.0.1) (λ z. ok (full_name x.0.name m.0.0, z)) t.0 t.2.1 in
      let name : t.0.0 ≡ c.name = ap (λ (d : List ℕ × Qualified). d.0) (sym (ok_same (full_name x.0.name m.0.0, a.0) t.0 a.2)) ∙ ap (λ (y : CommonOf). y.name) m.2 in
      let there = subst (λ (y : ResolvedSchema). Contains y.commons t.0) parts.2 (all_of_to (λ y. y.commons) parts.0 p.0 t.0 p.1 t.1) in
      (t.0.1, subst (λ (q : List ℕ). Declares s.commons q t.0.1) name (declares_to s.commons t.0 there))

  -- what a type of the file names is declared
  closed : ResolvedCommonsAreDeclared → (own : Option (List ℕ)) (raw : Raw) (r : Qualified) → qualified_of (scope_in ns) own raw ≡ ok r → IsClosed s.commons r
  closed declared own raw r e q m =
      let x = some_passes (λ c. bytes_eq c.name q) (commons_declared ns) (declared (scope_in ns) own raw r e q m) in
      let t = common_to x.0 x.1 in
      (t.0, subst (λ (p : List ℕ). Declares s.commons p t.0) ((bytes_eq-Decides x.0.name q).0 x.2) t.1)

pub names_its_own : ResolvedCommonsAreDeclared → (bytes : List ℕ) (s : ResolvedSchema) → DescribesFile bytes s → DeclaresItsCommonTypes s
names_its_own declared bytes s h = record {
  commons = λ q r here. let c = common_from h.namespaces s h.named.found q r here in closed h.namespaces s h.named.found declared c.0.own c.0.type r c.3;
  records = λ r here. let x = record_from h.namespaces s h.named.found r here in closed h.namespaces s h.named.found declared x.0.name x.1 r x.4;
}
