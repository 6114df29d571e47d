-- What actions and entity types are called, and that the actions above an action are declared.
use Rattle.std.proofs.Common.{◌≡◌, ◌∙◌, ℕ, suc, List, [], ◌∷◌, ◌++◌, map, Option, Some, None, Result, Ok, Err, Bool}
use Rattle.std.proofs.Common.{true, false, not, cond, refl, sym, ap, subst, inl, inr}
use Rattle.std.specs.Prelude.{◌⊎◌, Contains, codes, ⊤, ◌==◌, ◌||◌}
use Rattle.std.specs.Str.{bytes_eq}
use Rattle.std.specs.Ordering.{is_eq}
use Rattle.serde_json.specs.Data.{Data, Members, no_members, member}
use Rattle.serde_json.specs.Find.{as_object}
use Rattle.json_words.specs.ReadsAs.{◌>>=◌, or_fault, demand}
use Rattle.json_words.specs.Keys.{has_only}
use Rattle.json_words.specs.Each.{each, each_member}
use Rattle.values.specs.declared.entity_uid.EntityUid.{EntityUid}
use Rattle.values.specs.Names.{uid_cmp}
use Rattle.values.specs.Paths.{is_path}
use Rattle.ancestor_search.specs.Deciding.{Contains-here, Contains-there, Contains-none, Contains-cases}
use Rattle.ancestor_search.specs.Deciding.{any_at, same_uid}
use Rattle.schema_types.specs.Names.{is_qualified, full_name, Scope}
use Rattle.schema_types.specs.TypeShape.{type_name}
use Rattle.schema_types.specs.Actions.{action_type, action_uid, declared_action, first_of, action_of_type}
use Rattle.schema_types.specs.declared.fault.SchemaFault.{SchemaFault}
use Rattle.schema_types.specs.declared.fault.SchemaFault.TheVariants.{BadShape, UnknownName}
use Rattle.schema_types.specs.Raw.{Raw}
use Rattle.schema_types.specs.Qualified.{Qualified}
use Rattle.schema_types.specs.Optional.{optional}
use Rattle.schema_reading.specs.declared.stated.StatedParent.{StatedParent}
use Rattle.schema_reading.specs.FileForm.{EntityTypeOf, ActionOf, NamespaceOf, members_in, ident}
use Rattle.schema_reading.specs.FileForm.{entity_type_name, entity_type_of, names_in, type_in, namespace_name}
use Rattle.schema_reading.specs.FileForm.{namespace_of, commons_in, entity_types_in, actions_in}
use Rattle.schema_reading.specs.FileForm.{entity_types_of, namespaces_of, stated}
use Rattle.schema_reading.specs.Qualifying.{ResolvedAppliesTo, ResolvedAction, ResolvedEntityType, ResolvedSchema, all_of, scope_in}
use Rattle.schema_reading.specs.Qualifying.{is_action_in, actions_declared, type_named, entity_types_named, applies_to_named}
use Rattle.schema_reading.specs.Qualifying.{action_meant, action_meant_at, parent_named, parents_named}
use Rattle.schema_reading.specs.Qualifying.{qualified_entity_type, qualified_action, qualified_commons}
use Rattle.schema_reading.specs.Qualifying.{qualified_entity_types, qualified_actions, qualified_namespace}
use Rattle.schema_reading.specs.Qualifying.{qualified_namespaces, together, qualified}
use Rattle.schema_reading.specs.Naming.{DescribesFile}
use Rattle.schema.specs.Schemas.{IsAction}
use Rattle.schema.specs.WellFormed.{IsActionType}
use Rattle.schema.proofs.HierarchyLemmas.{contains_map}

-- ---- steps of reading

bound : {A B F : Type 0} (r : Result A F) (f : A → Result B F) (y : B) → (r >>= f) ≡ Ok y → (x : A) × (r ≡ Ok x) × (f x ≡ Ok y)
bound (Ok x) f y h = (x, refl, h)
bound (Err e) f y h = absurd cc

demanded : (b : Bool) (x : ⊤) → demand BadShape b ≡ Ok x → b ≡ true
demanded true x h = refl
demanded false x h = absurd cc

some_of : {A : Type 0} (f : SchemaFault) (o : Option A) (x : A) → or_fault f o ≡ Ok x → o ≡ Some x
some_of f (Some y) x h = cc
some_of f None x h = absurd cc

negated : (b : Bool) → not b ≡ true → b ≡ false
negated true h = absurd cc
negated false h = refl

-- what a list was read as has something read of each, and that alone
module _ {A B F : Type 0} (f : ℕ → A → Result B F) where
  each_from : (k : ℕ) (xs : List A) (ys : List B) → each f k xs ≡ Ok ys → (y : B) → Contains ys y → (i : ℕ) × (x : A) × Contains xs x × (f i x ≡ Ok y)
  unfolding each
  each_from k [] ys h y c = let none : [] ≡ ys = cc in Contains-none y (subst (λ (zs : List B). Contains zs y) (sym none) c)
  each_from k (x ∷ xs) ys h y c =
      let a = bound (f k x) (λ (z : B). each f (suc k) xs >>= λ (zs : List B). Ok (z ∷ zs)) ys h in
      let b = bound (each f (suc k) xs) (λ (zs : List B). Ok (a.0 ∷ zs)) ys a.2 in
      let same : a.0 ∷ b.0 ≡ ys = cc (b.2) in
      elim (Contains-cases a.0 b.0 y (subst (λ (zs : List B). Contains zs y) (sym same) c)) [
        | inl e ↦ (k, x, Contains-here x xs, subst (λ (z : B). f k x ≡ Ok z) e a.1)
        | inr t ↦ let rest = each_from (suc k) xs b.0 b.1 y t in (rest.0, rest.1, Contains-there x xs rest.1 rest.2, rest.3)
      ]

  each_to : (k : ℕ) (xs : List A) (ys : List B) → each f k xs ≡ Ok ys → (x : A) → Contains xs x → (i : ℕ) × (y : B) × Contains ys y × (f i x ≡ Ok y)
  unfolding each
  each_to k [] ys h x c = Contains-none x c
  each_to k (w ∷ xs) ys h x c =
      let a = bound (f k w) (λ (z : B). each f (suc k) xs >>= λ (zs : List B). Ok (z ∷ zs)) ys h in
      let b = bound (each f (suc k) xs) (λ (zs : List B). Ok (a.0 ∷ zs)) ys a.2 in
      let same : a.0 ∷ b.0 ≡ ys = cc (b.2) in
      elim (Contains-cases w xs x c) [
        | inl e ↦ (k, a.0, subst (λ (zs : List B). Contains zs a.0) same (Contains-here a.0 b.0), subst (λ (z : A). f k z ≡ Ok a.0) e a.1)
        | inr t ↦
            let rest = each_to (suc k) xs b.0 b.1 x t in
            (rest.0, rest.1, subst (λ (zs : List B). Contains zs rest.1) same (Contains-there a.0 b.0 rest.1 rest.2), rest.3)
      ]

member_from : {B F : Type 0} (f : List ℕ → Data → Result B F) (ms : Members) (ys : List B) → each_member f ms ≡ Ok ys → (y : B) → Contains ys y
    → (k : List ℕ) × (d : Data) × (f k d ≡ Ok y)
unfolding each_member
member_from {B = B} f no_members ys h y c = let none : [] ≡ ys = cc in Contains-none y (subst (λ (zs : List B). Contains zs y) (sym none) c)
member_from {B = B} f (member k d ms) ys h y c =
    let a = bound (f k d) (λ (z : B). each_member f ms >>= λ (zs : List B). Ok (z ∷ zs)) ys h in
    let b = bound (each_member f ms) (λ (zs : List B). Ok (a.0 ∷ zs)) ys a.2 in
    let same : a.0 ∷ b.0 ≡ ys = cc (b.2) in
    elim (Contains-cases a.0 b.0 y (subst (λ (zs : List B). Contains zs y) (sym same) c)) [
      | inl e ↦ (k, d, subst (λ (z : B). f k d ≡ Ok z) e a.1)
      | inr t ↦ member_from f ms b.0 b.1 y t
    ]

-- ---- lists of lists, joined

module _ {A : Type 0} where
  in_first : (xs ys : List A) (x : A) → Contains xs x → Contains (xs ++ ys) x
  in_first [] ys x h = Contains-none x h
  in_first (w ∷ xs) ys x h = elim (Contains-cases w xs x h) [
    | inl e ↦ subst (λ (z : A). Contains (w ∷ xs ++ ys) z) e (Contains-here w (xs ++ ys))
    | inr t ↦ Contains-there w (xs ++ ys) x (in_first xs ys x t)
  ]

  in_second : (xs ys : List A) (x : A) → Contains ys x → Contains (xs ++ ys) x
  in_second [] ys x h = h
  in_second (w ∷ xs) ys x h = Contains-there w (xs ++ ys) x (in_second xs ys x h)

  in_either : (xs ys : List A) (x : A) → Contains (xs ++ ys) x → Contains xs x ⊎ Contains ys x
  in_either [] ys x h = inr h
  in_either (w ∷ xs) ys x h = elim (Contains-cases w (xs ++ ys) x h) [
    | inl e ↦ inl (subst (λ (z : A). Contains (w ∷ xs) z) e (Contains-here w xs))
    | inr t ↦ elim (in_either xs ys x t) [ inl i ↦ inl (Contains-there w xs x i) | inr j ↦ inr j ]
  ]

module _ {A B : Type 0} (f : A → List B) where
  from_all : (xs : List A) (y : B) → Contains (all_of f xs) y → (x : A) × Contains xs x × Contains (f x) y
  from_all [] y c = Contains-none y c
  from_all (x ∷ xs) y c = elim (in_either (f x) (all_of f xs) y c) [
    | inl h ↦ (x, Contains-here x xs, h)
    | inr t ↦ let rest = from_all xs y t in (rest.0, Contains-there x xs rest.0 rest.1, rest.2)
  ]

  to_all : (xs : List A) (x : A) (y : B) → Contains xs x → Contains (f x) y → Contains (all_of f xs) y
  to_all [] x y h c = Contains-none x h
  to_all (w ∷ xs) x y h c = elim (Contains-cases w xs x h) [
    | inl e ↦ in_first (f w) (all_of f xs) y (subst (λ (z : A). Contains (f z) y) (sym e) c)
    | inr t ↦ in_second (f w) (all_of f xs) y (to_all xs x y t c)
  ]

-- ---- the last word of a name

-- what stands behind the last colon
abbrev last_word : List ℕ → List ℕ
last_word [] = []
last_word (x ∷ xs) = cond (is_qualified xs) (last_word xs) (cond (x == 58) xs (x ∷ xs))

parts_false : (b c : Bool) → (b || c) ≡ false → (b ≡ false) × (c ≡ false)
parts_false true c h = absurd cc
parts_false false c h = (refl, h)

or_true : (b c : Bool) → c ≡ true → (b || c) ≡ true
or_true true c h = refl
or_true false c h = h

last_alone : (w : List ℕ) → is_qualified w ≡ false → last_word w ≡ w
last_alone [] h = refl
last_alone (x ∷ xs) h = let p = parts_false (x == 58) (is_qualified xs) h in rw (p.1, p.0) refl

has_colon : (ns w : List ℕ) → is_qualified (ns ++ codes "::" ++ w) ≡ true
has_colon [] w = refl
has_colon (x ∷ ns) w = or_true (x == 58) (is_qualified (ns ++ codes "::" ++ w)) (has_colon ns w)

last_behind : (ns w : List ℕ) → is_qualified w ≡ false → last_word (ns ++ codes "::" ++ w) ≡ w
last_behind [] w h = rw h refl
last_behind (x ∷ ns) w h = rw (has_colon ns w) (last_behind ns w h)

last_of_full : (own : Option (List ℕ)) (w : List ℕ) → is_qualified w ≡ false → last_word (full_name own w) ≡ w
last_of_full None w h = last_alone w h
last_of_full (Some ns) w h = last_behind ns w h

-- an entity type that is called as the actions' types are is called `Action`
called_action : (own other : Option (List ℕ)) (k : List ℕ) → is_qualified k ≡ false → full_name own k ≡ action_type other → k ≡ codes "Action"
called_action own other k plain same =
    sym (last_of_full own k plain) ∙ ap last_word same ∙ last_of_full other (codes "Action") refl

-- ---- what a file states of entity types

-- an identifier that is not `Action`
record IsTypeWord (k : List ℕ) : Type 0 where
  plain : is_qualified k ≡ false
  other : bytes_eq k (codes "Action") ≡ false

word_read : (w name : List ℕ) → ident w ≡ Ok name → (is_qualified w ≡ false) × (w ≡ name)
unfolding ident type_name
word_read w name h =
    let a = bound (type_name w) (λ (path : List ℕ). demand BadShape (not (is_qualified w)) >>= λ (one : ⊤). Ok path) name h in
    let p = bound (demand BadShape (is_path w)) (λ (path : ⊤). Ok w) a.0 a.1 in
    let b = bound (demand BadShape (not (is_qualified w))) (λ (one : ⊤). Ok a.0) name a.2 in
    let same : a.0 ≡ name = cc (b.2) in
    let same_too : w ≡ a.0 = cc (p.2) in
    (negated (is_qualified w) (demanded (not (is_qualified w)) b.0 b.1), same_too ∙ same)

type_word : (k : List ℕ) (d : Data) (e : EntityTypeOf) → entity_type_of k d ≡ Ok e → IsTypeWord e.name
unfolding entity_type_of
type_word k d e h =
    let a = bound (entity_type_name k) (λ (name : List ℕ). demand BadShape (has_only (codes "memberOfTypes" ∷ codes "shape" ∷ codes "annotations" ∷ []) d) >>= λ (keys : ⊤). names_in (optional (codes "memberOfTypes") d) >>= λ (parents : List (List ℕ)). type_in (optional (codes "shape") d) >>= λ (shape : Option Raw). Ok (record { name = name; parents = parents; shape = shape })) e h in
    let b = bound (demand BadShape (has_only (codes "memberOfTypes" ∷ codes "shape" ∷ codes "annotations" ∷ []) d)) (λ (keys : ⊤). names_in (optional (codes "memberOfTypes") d) >>= λ (parents : List (List ℕ)). type_in (optional (codes "shape") d) >>= λ (shape : Option Raw). Ok (record { name = a.0; parents = parents; shape = shape })) e a.2 in
    let c = bound (names_in (optional (codes "memberOfTypes") d)) (λ (parents : List (List ℕ)). type_in (optional (codes "shape") d) >>= λ (shape : Option Raw). Ok (record { name = a.0; parents = parents; shape = shape })) e b.2 in
    let g = bound (type_in (optional (codes "shape") d)) (λ (shape : Option Raw). Ok (record { name = a.0; parents = c.0; shape = shape })) e c.2 in
    let made : EntityTypeOf = record { name = a.0; parents = c.0; shape = g.0 } in
    let same : made ≡ e = cc (g.2) in
    let i = bound (ident k) (λ (name : List ℕ). demand BadShape (not (bytes_eq k (codes "Action"))) >>= λ (free : ⊤). Ok name) a.0 a.1 in
    let j = bound (demand BadShape (not (bytes_eq k (codes "Action")))) (λ (free : ⊤). Ok i.0) a.0 i.2 in
    let word = word_read k i.0 i.1 in
    let name : i.0 ≡ a.0 = cc (j.2) in
    let is : IsTypeWord k = record { plain = word.0; other = negated (bytes_eq k (codes "Action")) (demanded (not (bytes_eq k (codes "Action"))) j.0 j.1) } in
    subst (λ (x : EntityTypeOf). IsTypeWord x.name) same (subst IsTypeWord (word.1 ∙ name) is)

types_words : (o : Option Data) (es : List EntityTypeOf) → entity_types_in o ≡ Ok es → (e : EntityTypeOf) → Contains es e → IsTypeWord e.name
unfolding entity_types_of
types_words o es h e c =
    let a = bound (members_in o) (λ (ms : Members). entity_types_of ms) es h in
    let from = member_from entity_type_of a.0 es a.2 e c in
    type_word from.0 from.1 e from.2

namespace_words : (k : List ℕ) (d : Data) (n : NamespaceOf) → namespace_of k d ≡ Ok n → (e : EntityTypeOf) → Contains n.entity_types e → IsTypeWord e.name
unfolding namespace_of
namespace_words k d n h e c =
    let ks = codes "commonTypes" ∷ codes "entityTypes" ∷ codes "actions" ∷ codes "annotations" ∷ [] in
    let one = bound (namespace_name k) (λ (name : Option (List ℕ)). demand BadShape (has_only ks d) >>= λ (keys : ⊤). commons_in (optional (codes "commonTypes") d) >>= λ (commons : List (List ℕ × Raw)). entity_types_in (optional (codes "entityTypes") d) >>= λ (types : List EntityTypeOf). actions_in (optional (codes "actions") d) >>= λ (actions : List ActionOf). Ok (record { name = name; commons = commons; entity_types = types; actions = actions })) n h in
    let two = bound (demand BadShape (has_only ks d)) (λ (keys : ⊤). commons_in (optional (codes "commonTypes") d) >>= λ (commons : List (List ℕ × Raw)). entity_types_in (optional (codes "entityTypes") d) >>= λ (types : List EntityTypeOf). actions_in (optional (codes "actions") d) >>= λ (actions : List ActionOf). Ok (record { name = one.0; commons = commons; entity_types = types; actions = actions })) n one.2 in
    let three = bound (commons_in (optional (codes "commonTypes") d)) (λ (commons : List (List ℕ × Raw)). entity_types_in (optional (codes "entityTypes") d) >>= λ (types : List EntityTypeOf). actions_in (optional (codes "actions") d) >>= λ (actions : List ActionOf). Ok (record { name = one.0; commons = commons; entity_types = types; actions = actions })) n two.2 in
    let four = bound (entity_types_in (optional (codes "entityTypes") d)) (λ (types : List EntityTypeOf). actions_in (optional (codes "actions") d) >>= λ (actions : List ActionOf). Ok (record { name = one.0; commons = three.0; entity_types = types; actions = actions })) n three.2 in
    let five = bound (actions_in (optional (codes "actions") d)) (λ (actions : List ActionOf). Ok (record { name = one.0; commons = three.0; entity_types = four.0; actions = actions })) n four.2 in
    let made : NamespaceOf = record { name = one.0; commons = three.0; entity_types = four.0; actions = five.0 } in
    let same : made ≡ n = cc (five.2) in
    types_words (optional (codes "entityTypes") d) four.0 four.1 e (subst (λ (x : NamespaceOf). Contains x.entity_types e) (sym same) c)

stated_words : (d : Data) (ns : List NamespaceOf) → stated d ≡ Ok ns → (n : NamespaceOf) → Contains ns n → (e : EntityTypeOf) → Contains n.entity_types e → IsTypeWord e.name
unfolding stated namespaces_of
stated_words d ns h n there e c =
    let a = bound (or_fault BadShape (as_object d)) (λ (ms : Members). namespaces_of ms) ns h in
    let from = member_from namespace_of a.0 ns a.2 n there in
    namespace_words from.0 from.1 n from.2 e c

-- ---- a namespace with each name found

record IsFound (s : Scope) (is_action : EntityUid → Bool) (n : NamespaceOf) (part : ResolvedSchema) : Type 0 where
  entity_types : qualified_entity_types s n.name n.entity_types ≡ Ok part.entity_types
  actions : qualified_actions s is_action n.name n.actions ≡ Ok part.actions

is_found : (s : Scope) (is_action : EntityUid → Bool) (n : NamespaceOf) (part : ResolvedSchema) → qualified_namespace s is_action n ≡ Ok part → IsFound s is_action n part
unfolding qualified_namespace
is_found s is_action n part h =
    let one = bound (qualified_commons s n.name n.commons) (λ (commons : List (List ℕ × Qualified)). qualified_entity_types s n.name n.entity_types >>= λ (types : List ResolvedEntityType). qualified_actions s is_action n.name n.actions >>= λ (actions : List ResolvedAction). Ok (record { commons = commons; entity_types = types; actions = actions })) part h in
    let two = bound (qualified_entity_types s n.name n.entity_types) (λ (types : List ResolvedEntityType). qualified_actions s is_action n.name n.actions >>= λ (actions : List ResolvedAction). Ok (record { commons = one.0; entity_types = types; actions = actions })) part one.2 in
    let three = bound (qualified_actions s is_action n.name n.actions) (λ (actions : List ResolvedAction). Ok (record { commons = one.0; entity_types = two.0; actions = actions })) part two.2 in
    let made : ResolvedSchema = record { commons = one.0; entity_types = two.0; actions = three.0 } in
    let same : made ≡ part = cc (three.2) in
    subst (λ (p : ResolvedSchema). IsFound s is_action n p) same (record { entity_types = two.1; actions = three.1 })

entity_type_found : (s : Scope) (own : Option (List ℕ)) (e : EntityTypeOf) (f : ResolvedEntityType) → qualified_entity_type s own e ≡ Ok f → f.name ≡ full_name own e.name
unfolding qualified_entity_type
entity_type_found s own e f h =
    let one = bound (entity_types_named s own e.parents) (λ (parents : List (List ℕ)). type_named s own e.shape >>= λ (shape : Option Qualified). Ok (record { name = full_name own e.name; parents = parents; shape = shape })) f h in
    let two = bound (type_named s own e.shape) (λ (shape : Option Qualified). Ok (record { name = full_name own e.name; parents = one.0; shape = shape })) f one.2 in
    let made : ResolvedEntityType = record { name = full_name own e.name; parents = one.0; shape = two.0 } in
    let same : made ≡ f = cc (two.2) in
    ap (λ (x : ResolvedEntityType). x.name) (sym same)

-- an action as it was stated: its uid, and its parents
record IsStated (is_action : EntityUid → Bool) (own : Option (List ℕ)) (a : ActionOf) (f : ResolvedAction) : Type 0 where
  uid : f.uid ≡ action_uid (action_type own) a.id
  parents : parents_named is_action own a.parents ≡ Ok f.parents

action_found : (s : Scope) (is_action : EntityUid → Bool) (own : Option (List ℕ)) (a : ActionOf) (f : ResolvedAction) → qualified_action s is_action own a ≡ Ok f → IsStated is_action own a f
unfolding qualified_action
action_found s is_action own a f h =
    let one = bound (parents_named is_action own a.parents) (λ (parents : List EntityUid). applies_to_named s own a.applies_to >>= λ (applies_to : Option ResolvedAppliesTo). Ok (record { uid = action_uid (action_type own) a.id; parents = parents; applies_to = applies_to })) f h in
    let two = bound (applies_to_named s own a.applies_to) (λ (applies_to : Option ResolvedAppliesTo). Ok (record { uid = action_uid (action_type own) a.id; parents = one.0; applies_to = applies_to })) f one.2 in
    let made : ResolvedAction = record { uid = action_uid (action_type own) a.id; parents = one.0; applies_to = two.0 } in
    let same : made ≡ f = cc (two.2) in
    subst (λ (x : ResolvedAction). IsStated is_action own a x) same (record { uid = refl; parents = one.1 })

-- ---- a parent that is named is declared

some_is : (u w : EntityUid) → Some u ≡ Some w → u ≡ w
some_is u w e = cc

declared_is : (is_action : EntityUid → Bool) (t id : List ℕ) (b : Bool) (u : EntityUid) → is_action (action_uid t id) ≡ b → cond b (Some (action_uid t id)) None ≡ Some u → is_action u ≡ true
declared_is is_action t id true u is h = subst (λ (x : EntityUid). is_action x ≡ true) (some_is (action_uid t id) u h) is
declared_is is_action t id false u is h = absurd cc

of_declared : (is_action : EntityUid → Bool) (t id : List ℕ) (u : EntityUid) → declared_action is_action t id ≡ Some u → is_action u ≡ true
of_declared is_action t id u h = declared_is is_action t id (is_action (action_uid t id)) u refl h

first_is : (o p : Option EntityUid) (u : EntityUid) → first_of o p ≡ Some u → (o ≡ Some u) ⊎ (p ≡ Some u)
first_is (Some x) p u h = inl h
first_is None p u h = inr h

typed_is : (is_action : EntityUid → Bool) (own : Option (List ℕ)) (w id : List ℕ) (b : Bool) (u : EntityUid)
    → cond b (declared_action is_action w id) (first_of (declared_action is_action (full_name own w) id) (declared_action is_action w id)) ≡ Some u → is_action u ≡ true
typed_is is_action own w id true u h = of_declared is_action w id u h
typed_is is_action own w id false u h = elim (first_is (declared_action is_action (full_name own w) id) (declared_action is_action w id) u h) [
  | inl e ↦ of_declared is_action (full_name own w) id u e
  | inr e ↦ of_declared is_action w id u e
]

meant_at : (is_action : EntityUid → Bool) (own o : Option (List ℕ)) (id : List ℕ) (u : EntityUid) → action_meant_at is_action own o id ≡ Some u → is_action u ≡ true
unfolding action_of_type
meant_at is_action own None id u h = of_declared is_action (action_type own) id u h
meant_at is_action own (Some w) id u h = typed_is is_action own w id (is_qualified w) u h

parent_is : (is_action : EntityUid → Bool) (own : Option (List ℕ)) (p : StatedParent) (u : EntityUid) → parent_named is_action own p ≡ Ok u → is_action u ≡ true
unfolding parent_named
parent_is is_action own p u h = meant_at is_action own p.type_name p.id u (some_of UnknownName (action_meant is_action own p) u h)

-- ---- the whole file

pub record AreNamed (s : ResolvedSchema) : Type 0 where
  pub actions : (a : ResolvedAction) → Contains s.actions a → IsActionType a.uid.type_name
  pub parents : (a : ResolvedAction) → Contains s.actions a → (w : EntityUid) → Contains a.parents w → IsAction s w
  pub entity_types : (e : ResolvedEntityType) → Contains s.entity_types e → IsActionType e.name → ⊥

module _ (ns : List NamespaceOf) (parts : List ResolvedSchema) (all : qualified_namespaces (scope_in ns) (is_action_in ns) ns ≡ Ok parts) where
  part_from : (p : ResolvedSchema) → Contains parts p → (n : NamespaceOf) × Contains ns n × IsFound (scope_in ns) (is_action_in ns) n p
  unfolding qualified_namespaces
  part_from p c =
      let from = each_from (λ i n. qualified_namespace (scope_in ns) (is_action_in ns) n) 0 ns parts all p c in
      (from.1, from.2, is_found (scope_in ns) (is_action_in ns) from.1 p from.3)

  part_to : (n : NamespaceOf) → Contains ns n → (p : ResolvedSchema) × Contains parts p × IsFound (scope_in ns) (is_action_in ns) n p
  unfolding qualified_namespaces
  part_to n c =
      let to = each_to (λ i x. qualified_namespace (scope_in ns) (is_action_in ns) x) 0 ns parts all n c in
      (to.1, to.2, is_found (scope_in ns) (is_action_in ns) n to.1 to.3)

  -- an action of the file, with its namespace
  action_from : (f : ResolvedAction) → Contains (together parts).actions f → (n : NamespaceOf) × (a : ActionOf) × IsStated (is_action_in ns) n.name a f
  unfolding qualified_actions
  action_from f c =
      let at = from_all (λ (p : ResolvedSchema). p.actions) parts f c in
      let n = part_from at.0 at.1 in
      let from = each_from (λ i x. qualified_action (scope_in ns) (is_action_in ns) n.0.name x) 0 n.0.actions at.0.actions n.2.actions f at.2 in
      (n.0, from.1, action_found (scope_in ns) (is_action_in ns) n.0.name from.1 f from.3)

  declared_at : (u : EntityUid) → Contains (actions_declared ns) u → IsAction (together parts) u
  unfolding qualified_actions
  declared_at u c =
      let at = from_all (λ (n : NamespaceOf). map (λ (a : ActionOf). action_uid (action_type n.name) a.id) n.actions) ns u c in
      let a = contains_map (λ (a : ActionOf). action_uid (action_type at.0.name) a.id) at.0.actions u at.2 in
      let p = part_to at.0 at.1 in
      let to = each_to (λ i x. qualified_action (scope_in ns) (is_action_in ns) at.0.name x) 0 at.0.actions p.0.actions p.2.actions a.0 a.1 in
      let is = action_found (scope_in ns) (is_action_in ns) at.0.name a.0 to.1 to.3 in
      (to.1, to_all (λ (q : ResolvedSchema). q.actions) parts p.0 to.1 p.1 to.2, is.uid ∙ a.2)

  declared_by : (u : EntityUid) → is_action_in ns u ≡ true → IsAction (together parts) u
  declared_by u h =
      let at = any_at (λ (a : EntityUid). is_eq (uid_cmp a u)) (actions_declared ns) h in
      declared_at u (subst (λ (x : EntityUid). Contains (actions_declared ns) x) (same_uid at.0 u at.2) at.1)

  entity_type_apart : ((n : NamespaceOf) → Contains ns n → (e : EntityTypeOf) → Contains n.entity_types e → IsTypeWord e.name)
      → (f : ResolvedEntityType) → Contains (together parts).entity_types f → IsActionType f.name → ⊥
  unfolding qualified_entity_types
  entity_type_apart words f c action =
      let at = from_all (λ (p : ResolvedSchema). p.entity_types) parts f c in
      let n = part_from at.0 at.1 in
      let from = each_from (λ i x. qualified_entity_type (scope_in ns) n.0.name x) 0 n.0.entity_types at.0.entity_types n.2.entity_types f at.2 in
      let word = words n.0 n.1 from.1 from.2 in
      let name : f.name ≡ full_name n.0.name from.1.name = entity_type_found (scope_in ns) n.0.name from.1 f from.3 in
      let called = called_action n.0.name action.0 from.1.name word.plain (sym name ∙ action.1) in
      let other : bytes_eq (codes "Action") (codes "Action") ≡ false = subst (λ (k : List ℕ). bytes_eq k (codes "Action") ≡ false) called word.other in
      absurd cc

  are_named : ((n : NamespaceOf) → Contains ns n → (e : EntityTypeOf) → Contains n.entity_types e → IsTypeWord e.name) → AreNamed (together parts)
  unfolding parents_named
  are_named words = record {
    actions = λ f c. let at = action_from f c in (at.0.name, ap (λ (u : EntityUid). u.type_name) at.2.uid);
    parents = λ f c w m.
        let at = action_from f c in
        let from = each_from (λ i x. parent_named (is_action_in ns) at.0.name x) 0 at.1.parents f.parents at.2.parents w m in
        declared_by w (parent_is (is_action_in ns) at.0.name from.1 w from.3);
    entity_types = entity_type_apart words;
  }

pub names_of : (bytes : List ℕ) (s : ResolvedSchema) → DescribesFile bytes s → AreNamed s
unfolding qualified
names_of bytes s is =
    let a = bound (qualified_namespaces (scope_in is.namespaces) (is_action_in is.namespaces) is.namespaces) (λ (parts : List ResolvedSchema). Ok (together parts)) s is.named.found in
    let same : together a.0 ≡ s = cc (a.2) in
    subst AreNamed same (are_named is.namespaces a.0 a.1 (stated_words is.value is.namespaces is.shape))
