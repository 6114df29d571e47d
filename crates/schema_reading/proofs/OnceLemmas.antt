-- No full name and no action is declared twice, since no name stands twice in its namespace, nor a namespace in the file.
use Rattle.std.proofs.Common.{◌≡◌, ◌≢◌, ◌∙◌, inl, inr, ℕ, suc, List, [], ◌∷◌, ◌++◌, map, Bool, true, false, Option}
use Rattle.std.proofs.Common.{Some, None, Result, Ok, refl, sym, ap, subst, true≢false}
use Rattle.std.specs.Prelude.{◌==◌, ◌||◌, ⊤, codes, not}
use Rattle.std.specs.List.{AllByRecursion}
use Rattle.std.specs.Str.{bytes_eq}
use Rattle.std.proofs.lemmas.List.{append_assoc, map-append}
use Rattle.serde_json.specs.Data.{Data, Members, no_members, member}
use Rattle.serde_json.specs.Find.{as_object}
use Rattle.json_words.specs.ReadsAs.{◌>>=◌, or_fault, demand}
use Rattle.json_words.specs.Each.{each, each_member}
use Rattle.json_words.specs.Keys.{has_only}
use Rattle.json_words.proofs.EachLemmas.{bind_ok}
use Rattle.values.specs.declared.entity_uid.EntityUid.{EntityUid}
use Rattle.values.specs.Paths.{is_path}
use Rattle.schema_types.specs.Raw.{Raw}
use Rattle.schema_types.specs.Qualified.{Qualified}
use Rattle.schema_types.specs.Expansions.{Declarations, Declares}
use Rattle.schema_types.specs.Law.{AreOnce}
use Rattle.schema_types.specs.Optional.{optional}
use Rattle.schema_types.specs.Forms.{form_named}
use Rattle.schema_types.specs.Names.{Scope, is_qualified, full_name, qualified_of}
use Rattle.schema_types.specs.TypeShape.{type_name, type_of}
use Rattle.schema_types.specs.declared.fault.SchemaFault.{SchemaFault}
use Rattle.schema_types.specs.declared.fault.SchemaFault.TheVariants.{BadShape}
use Rattle.schema_reading.specs.DistinctNames.{AreApart, StatesOnce, HaveDistinctNames}
use Rattle.schema_reading.specs.FileForm.{EntityTypeOf, ActionOf, NamespaceOf, ident, is_common, common_of, commons_of}
use Rattle.schema_reading.specs.FileForm.{entity_type_name, entity_type_of, entity_types_of, names_in, type_in, members_in}
use Rattle.schema_reading.specs.FileForm.{commons_in, entity_types_in, actions_in, namespace_name, namespace_of}
use Rattle.schema_reading.specs.FileForm.{namespaces_of, stated}
use Rattle.schema_reading.specs.Qualifying.{ResolvedEntityType, ResolvedAction, ResolvedSchema, all_of, entity_types_named}
use Rattle.schema_reading.specs.Qualifying.{type_named, parents_named, applies_to_named, qualified_common, qualified_commons}
use Rattle.schema_reading.specs.Qualifying.{qualified_entity_type, qualified_entity_types, qualified_action}
use Rattle.schema_reading.specs.Qualifying.{qualified_actions, qualified_namespace, qualified_namespaces, together}
use Rattle.schema_reading.specs.Qualifying.{scope_in, is_action_in, qualified}
use Rattle.schema_types.specs.Actions.{action_type, action_uid}
use Rattle.schema_types.specs.AscendingLaw.{JsonAscends}
use Rattle.schema_reading.specs.inner.FileLaws.{FilesStateOnce}
use Rattle.schema_reading.specs.Laws.{DeclaresOnce, FilesDeclareOnce}
use Rattle.schema_reading.proofs.FoundLemmas.{namespace_parts}

abbrev ok : {A : Type 0} → A → Result A SchemaFault
ok x = Ok x

ok_same : {A : Type 0} (x y : A) → ok x ≡ ok y → x ≡ y
ok_same x y e = cc

abbrev Lacks : {A : Type 0} → A → List A → Type 0
Lacks x ys = AllByRecursion (λ y. x ≢ y) ys

-- ---- lists without repeats

abbrev AllLack : {A : Type 0} → List A → List A → Type 0
AllLack xs ys = AllByRecursion (λ x. Lacks x ys) xs

lacks_both : {A : Type 0} (x : A) (ys zs : List A) → Lacks x ys → Lacks x zs → Lacks x (ys ++ zs)
lacks_both x [] zs h k = k
lacks_both x (y ∷ ys) zs h k = (h.0, lacks_both x ys zs h.1 k)

apart_both : {A : Type 0} (xs ys : List A) → AreApart xs → AreApart ys → AllLack xs ys → AreApart (xs ++ ys)
apart_both [] ys h k apart = k
apart_both (x ∷ xs) ys h k apart = (lacks_both x xs ys h.0 apart.0, apart_both xs ys h.1 k apart.1)

unknown_name : (ds : Declarations) (q : List ℕ) (r : Qualified) → Lacks q (map (λ d. d.0) ds) → Declares ds q r → ⊥
unknown_name [] q r h here = here
unknown_name (d ∷ ds) q r h (inl p) = h.0 (sym p.0)
unknown_name (d ∷ ds) q r h (inr p) = unknown_name ds q r h.1 p

declared_once : (ds : Declarations) → AreApart (map (λ d. d.0) ds) → AreOnce ds
declared_once [] h q r s a b = absurd a
declared_once (d ∷ ds) h q r s (inl a) (inl b) = sym a.1 ∙ b.1
declared_once (d ∷ ds) h q r s (inl a) (inr b) = absurd (unknown_name ds d.0 s h.0 (subst (λ (x : List ℕ). Declares ds x s) (sym a.0) b))
declared_once (d ∷ ds) h q r s (inr a) (inl b) = absurd (unknown_name ds d.0 r h.0 (subst (λ (x : List ℕ). Declares ds x r) (sym b.0) a))
declared_once (d ∷ ds) h q r s (inr a) (inr b) = declared_once ds h.1 q r s a b

-- ---- full names of words without a colon

abbrev IsPlain : List ℕ → Type 0
IsPlain w = is_qualified w ≡ false

or_true : (a b : Bool) → b ≡ true → (a || b) ≡ true
or_true true b h = refl
or_true false b h = h

colon_inside : (front v : List ℕ) → is_qualified (front ++ 58 ∷ v) ≡ true
colon_inside [] v = refl
colon_inside (c ∷ front) v = or_true (c == 58) (is_qualified (front ++ 58 ∷ v)) (colon_inside front v)

cons_head : (x y : ℕ) (xs ys : List ℕ) → x ∷ xs ≡ y ∷ ys → x ≡ y
cons_head x y xs ys e = cc

cons_tail : (x y : ℕ) (xs ys : List ℕ) → x ∷ xs ≡ y ∷ ys → xs ≡ ys
cons_tail x y xs ys e = cc

split_once : (a b w v : List ℕ) → IsPlain w → IsPlain v → a ++ 58 ∷ w ≡ b ++ 58 ∷ v → (a ≡ b) × (w ≡ v)
split_once [] [] w v h k e = (refl, cons_tail 58 58 w v e)
split_once [] (y ∷ b) w v h k e =
    let same : w ≡ b ++ 58 ∷ v = cons_tail 58 y w (b ++ 58 ∷ v) e in absurd (true≢false (sym (ap is_qualified same ∙ colon_inside b v) ∙ h))
split_once (x ∷ a) [] w v h k e =
    let same : a ++ 58 ∷ w ≡ v = cons_tail x 58 (a ++ 58 ∷ w) v e in absurd (true≢false (sym (ap is_qualified (sym same) ∙ colon_inside a w) ∙ k))
split_once (x ∷ a) (y ∷ b) w v h k e =
    let first : x ≡ y = cons_head x y (a ++ 58 ∷ w) (b ++ 58 ∷ v) e in
    let p = split_once a b w v h k (cons_tail x y (a ++ 58 ∷ w) (b ++ 58 ∷ v) e) in ((λ i. first i ∷ p.0 i), p.1)

last_colon : (n w : List ℕ) → n ++ codes "::" ++ w ≡ (n ++ 58 ∷ []) ++ 58 ∷ w
last_colon n w = append_assoc n (codes "::") w ∙ sym (append_assoc n (58 ∷ []) (58 ∷ w))

unlike : {B : Type 0} (n v w : List ℕ) → IsPlain w → w ≡ n ++ codes "::" ++ v → B
unlike n v w h e = absurd (true≢false (sym (ap is_qualified (e ∙ last_colon n v) ∙ colon_inside (n ++ 58 ∷ []) v) ∙ h))

full_once : (m n : Option (List ℕ)) (w v : List ℕ) → IsPlain w → IsPlain v → full_name m w ≡ full_name n v → (m ≡ n) × (w ≡ v)
full_once None None w v h k e = (refl, e)
full_once None (Some n) w v h k e = unlike n v w h e
full_once (Some m) None w v h k e = unlike m w v k (sym e)
full_once (Some m) (Some n) w v h k e =
    let p = split_once (m ++ 58 ∷ []) (n ++ 58 ∷ []) w v h k (sym (last_colon m w) ∙ e ∙ last_colon n v) in
    let q = split_once m n [] [] refl refl p.0 in (ap (λ (x : List ℕ). Some x) q.0, p.1)

-- an action is of its namespace's type
abbrev Any : List ℕ → Type 0
Any w = Unit {0}

abbrev full_uid : Option (List ℕ) → List ℕ → EntityUid
full_uid own id = action_uid (action_type own) id

uid_once : (m n : Option (List ℕ)) (w v : List ℕ) → Any w → Any v → full_uid m w ≡ full_uid n v → (m ≡ n) × (w ≡ v)
uid_once m n w v h k e =
    ((full_once m n (codes "Action") (codes "Action") refl refl (ap (λ (u : EntityUid). u.type_name) e)).0, ap (λ (u : EntityUid). u.id) e)

-- ---- namespaces, each with its words

abbrev Part : Type 0
Part = Option (List ℕ) × List (List ℕ)

module _ {N : Type 0} (full : Option (List ℕ) → List ℕ → N) (Good : List ℕ → Type 0)
    (joint : (m n : Option (List ℕ)) (w v : List ℕ) → Good w → Good v → full m w ≡ full n v → (m ≡ n) × (w ≡ v)) where
  own_lacks : (own : Option (List ℕ)) (w : List ℕ) (ws : List (List ℕ)) → Good w → AllByRecursion Good ws → Lacks w ws → Lacks (full own w) (map (full own) ws)
  own_lacks own w [] h k l = tt
  own_lacks own w (v ∷ ws) h k l = ((λ e. l.0 (joint own own w v h k.0 e).1), own_lacks own w ws h k.1 l.1)

  own_apart : (own : Option (List ℕ)) (ws : List (List ℕ)) → AllByRecursion Good ws → AreApart ws → AreApart (map (full own) ws)
  own_apart own [] h k = tt
  own_apart own (w ∷ ws) h k = (own_lacks own w ws h.0 h.1 k.0, own_apart own ws h.1 k.1)

  others_lack : (m n : Option (List ℕ)) → m ≢ n → (w : List ℕ) (vs : List (List ℕ)) → Good w → AllByRecursion Good vs → Lacks (full m w) (map (full n) vs)
  others_lack m n apart w [] h k = tt
  others_lack m n apart w (v ∷ vs) h k = ((λ e. apart (joint m n w v h k.0 e).0), others_lack m n apart w vs h k.1)

  abbrev IsGood : Part → Type 0
  IsGood p = AllByRecursion Good p.1 × AreApart p.1

  full_names : List Part → List N
  full_names [] = []
  full_names (p ∷ ps) = map (full p.0) p.1 ++ full_names ps

  word_lacks : (own : Option (List ℕ)) (w : List ℕ) (ps : List Part) → Good w → Lacks own (map (λ p. p.0) ps) → AllByRecursion IsGood ps → Lacks (full own w) (full_names ps)
  unfolding full_names
  word_lacks own w [] h l g = tt
  word_lacks own w (p ∷ ps) h l g =
      lacks_both (full own w) (map (full p.0) p.1) (full_names ps) (others_lack own p.0 l.0 w p.1 h g.0.0) (word_lacks own w ps h l.1 g.1)

  words_lack : (own : Option (List ℕ)) (ws : List (List ℕ)) (ps : List Part) → AllByRecursion Good ws → Lacks own (map (λ p. p.0) ps) → AllByRecursion IsGood ps
      → AllLack (map (full own) ws) (full_names ps)
  words_lack own [] ps h l g = tt
  words_lack own (w ∷ ws) ps h l g = (word_lacks own w ps h.0 l g, words_lack own ws ps h.1 l g)

  all_apart : (ps : List Part) → AreApart (map (λ p. p.0) ps) → AllByRecursion IsGood ps → AreApart (full_names ps)
  unfolding full_names
  all_apart [] h g = tt
  all_apart (p ∷ ps) h g =
      apart_both (map (full p.0) p.1) (full_names ps) (own_apart p.0 p.1 g.0.0 g.0.1) (all_apart ps h.1 g.1) (words_lack p.0 p.1 ps g.0.0 h.0 g.1)

  -- ---- the names that were found are those that are stated

  module _ {A B : Type 0} (of : NamespaceOf → List A) (word : A → List ℕ) (get : ResolvedSchema → List B) (name : B → N) where
    abbrev part_of : NamespaceOf → Part
    part_of n = (n.name, map word (of n))

    module _ (sc : Scope) (is_action : EntityUid → Bool)
        (inside : (n : NamespaceOf) (p : ResolvedSchema) → qualified_namespace sc is_action n ≡ ok p → map name (get p) ≡ map (full n.name) (map word (of n))) where
      parts_named : (k : ℕ) (ns : List NamespaceOf) (parts : List ResolvedSchema) → each (λ i n. qualified_namespace sc is_action n) k ns ≡ ok parts
          → map name (all_of get parts) ≡ full_names (map part_of ns)
      unfolding each full_names
      parts_named k [] parts e = ap (λ (l : List ResolvedSchema). map name (all_of get l)) (sym (ok_same [] parts e))
      parts_named k (n ∷ ns) parts e =
          let a = bind_ok (qualified_namespace sc is_action n) (λ y. each (λ i n. qualified_namespace sc is_action n) (suc k) ns >>= λ ys. ok (y ∷ ys)) parts e in
          let b = bind_ok (each (λ i n. qualified_namespace sc is_action n) (suc k) ns) (λ ys. ok (a.0 ∷ ys)) parts a.2 in
          let one = inside n a.0 a.1 in
          let rest = parts_named (suc k) ns b.0 b.1 in
          ap (λ (l : List ResolvedSchema). map name (all_of get l)) (sym (ok_same (a.0 ∷ b.0) parts b.2))
          ∙ map-append name (get a.0) (all_of get b.0) ∙ (λ i. one i ++ rest i)

    firsts : (ns : List NamespaceOf) → map (λ p. p.0) (map part_of ns) ≡ map (λ n. n.name) ns
    firsts [] = refl
    firsts (n ∷ ns) = ap (λ (l : List (Option (List ℕ))). n.name ∷ l) (firsts ns)

    goods : (ns : List NamespaceOf) → AllByRecursion (λ n. AllByRecursion Good (map word (of n))) ns → AllByRecursion (λ n. AreApart (map word (of n))) ns → AllByRecursion IsGood (map part_of ns)
    goods [] h k = tt
    goods (n ∷ ns) h k = ((h.0, k.0), goods ns h.1 k.1)

    found_apart : (ns : List NamespaceOf) (s : ResolvedSchema) → qualified ns ≡ ok s → (all : (p q : ResolvedSchema) → p ≡ q → get p ≡ get q)
        → (together_is : (parts : List ResolvedSchema) → get (together parts) ≡ all_of get parts)
        → ((n : NamespaceOf) (p : ResolvedSchema) → qualified_namespace (scope_in ns) (is_action_in ns) n ≡ ok p → map name (get p) ≡ map (full n.name) (map word (of n)))
        → AreApart (map (λ n. n.name) ns) → AllByRecursion (λ n. AllByRecursion Good (map word (of n))) ns → AllByRecursion (λ n. AreApart (map word (of n))) ns
        → AreApart (map name (get s))
    unfolding qualified qualified_namespaces
    found_apart ns s found all together_is inside spaces good apart =
        let b = bind_ok (qualified_namespaces (scope_in ns) (is_action_in ns) ns) (λ parts. ok (together parts)) s found in
        let named = parts_named (scope_in ns) (is_action_in ns) inside 0 ns b.0 b.1 in
        let same : get s ≡ all_of get b.0 = sym (all (together b.0) s (ok_same (together b.0) s b.2)) ∙ together_is b.0 in
        subst AreApart (sym (ap (λ (l : List B). map name l) same ∙ named)) (all_apart (map part_of ns) (subst AreApart (sym (firsts ns)) spaces) (goods ns good apart))

-- ---- what each declaration is named

each_named : {A B N : Type 0} (f : ℕ → A → Result B SchemaFault) (name : B → N) (full : A → N) → ((i : ℕ) (x : A) (y : B) → f i x ≡ ok y → name y ≡ full x)
    → (k : ℕ) (xs : List A) (ys : List B) → each f k xs ≡ ok ys → map name ys ≡ map full xs
unfolding each
each_named {B = B} f name full named k [] ys e = ap (λ (l : List B). map name l) (sym (ok_same [] ys e))
each_named {B = B} f name full named k (x ∷ xs) ys e =
    let a = bind_ok (f k x) (λ z. each f (suc k) xs >>= λ zs. ok (z ∷ zs)) ys e in
    let b = bind_ok (each f (suc k) xs) (λ zs. ok (a.0 ∷ zs)) ys a.2 in
    let one = named k x a.0 a.1 in
    let rest = each_named f name full named (suc k) xs b.0 b.1 in
    ap (λ (l : List B). map name l) (sym (ok_same (a.0 ∷ b.0) ys b.2)) ∙ (λ i. one i ∷ rest i)

map_map : {A B C : Type 0} (f : B → C) (g : A → B) (xs : List A) → map (λ x. f (g x)) xs ≡ map f (map g xs)
map_map f g [] = refl
map_map {C = C} f g (x ∷ xs) = ap (λ (l : List C). f (g x) ∷ l) (map_map f g xs)

module _ (sc : Scope) (is_action : EntityUid → Bool) where
  common_is : (own : Option (List ℕ)) (i : ℕ) (c : List ℕ × Raw) (d : List ℕ × Qualified) → qualified_common sc own c ≡ ok d → d.0 ≡ full_name own c.0
  unfolding qualified_common
  common_is own i c d e =
      let a = bind_ok (qualified_of sc own c.1) (λ t. ok (full_name own c.0, t)) d e in
      ap (λ (x : List ℕ × Qualified). x.0) (sym (ok_same (full_name own c.0, a.0) d a.2))

  entity_type_is : (own : Option (List ℕ)) (i : ℕ) (x : EntityTypeOf) (e : ResolvedEntityType) → qualified_entity_type sc own x ≡ ok e → e.name ≡ full_name own x.name
  unfolding qualified_entity_type
  entity_type_is own i x e read =
      let a = bind_ok (entity_types_named sc own x.parents) _ e read in
      let b = bind_ok (type_named sc own x.shape) _ e a.2 in
      ap (λ (y : ResolvedEntityType). y.name) (sym (ok_same (record { name = full_name own x.name; parents = a.0; shape = b.0 }) e b.2))

  action_is : (own : Option (List ℕ)) (i : ℕ) (x : ActionOf) (a : ResolvedAction) → qualified_action sc is_action own x ≡ ok a → a.uid ≡ full_uid own x.id
  unfolding qualified_action
  action_is own i x a read =
      let p = bind_ok (parents_named is_action own x.parents) _ a read in
      let u = bind_ok (applies_to_named sc own x.applies_to) _ a p.2 in
      ap (λ (y : ResolvedAction). y.uid) (sym (ok_same (record { uid = action_uid (action_type own) x.id; parents = p.0; applies_to = u.0 }) a u.2))

  module _ (n : NamespaceOf) (p : ResolvedSchema) (e : qualified_namespace sc is_action n ≡ ok p) where
    commons_are : map (λ d. d.0) p.commons ≡ map (full_name n.name) (map (λ c. c.0) n.commons)
    unfolding qualified_commons
    commons_are =
        each_named (λ i x. qualified_common sc n.name x) (λ d. d.0) (λ c. full_name n.name c.0) (common_is n.name) 0 n.commons p.commons (namespace_parts sc is_action n p e).0
        ∙ map_map (full_name n.name) (λ c. c.0) n.commons

    entity_types_are : map (λ x. x.name) p.entity_types ≡ map (full_name n.name) (map (λ x. x.name) n.entity_types)
    unfolding qualified_entity_types
    entity_types_are =
        each_named (λ i x. qualified_entity_type sc n.name x) (λ x. x.name) (λ x. full_name n.name x.name) (entity_type_is n.name) 0 n.entity_types p.entity_types (namespace_parts sc is_action n p e).1
        ∙ map_map (full_name n.name) (λ x. x.name) n.entity_types

    actions_are : map (λ a. a.uid) p.actions ≡ map (full_uid n.name) (map (λ x. x.id) n.actions)
    unfolding qualified_actions
    actions_are =
        each_named (λ i x. qualified_action sc is_action n.name x) (λ a. a.uid) (λ x. full_uid n.name x.id) (action_is n.name) 0 n.actions p.actions (namespace_parts sc is_action n p e).2
        ∙ map_map (full_uid n.name) (λ x. x.id) n.actions

-- ---- what is declared has no namespace in its name

demanded : (b : Bool) (u : ⊤) → demand BadShape b ≡ ok u → b ≡ true
demanded true u e = refl
demanded false u e = absurd cc

not_false : (b : Bool) → not b ≡ true → b ≡ false
not_false true e = absurd (true≢false (sym e))
not_false false e = refl

type_named_is : (w n : List ℕ) → type_name w ≡ ok n → n ≡ w
unfolding type_name
type_named_is w n e = let a = bind_ok (demand BadShape (is_path w)) (λ p. ok w) n e in sym (ok_same w n a.2)

ident_plain : (w n : List ℕ) → ident w ≡ ok n → IsPlain n
unfolding ident
ident_plain w n e =
    let a = bind_ok (type_name w) (λ path. demand BadShape (not (is_qualified w)) >>= λ one. ok path) n e in
    let b = bind_ok (demand BadShape (not (is_qualified w))) (λ one. ok a.0) n a.2 in
    let same : w ≡ n = sym (type_named_is w a.0 a.1) ∙ ok_same a.0 n b.2 in
    subst IsPlain same (not_false (is_qualified w) (demanded (not (is_qualified w)) b.0 b.1))

common_plain : (k : List ℕ) (d : Data) (c : List ℕ × Raw) → common_of k d ≡ ok c → IsPlain c.0
unfolding common_of
common_plain k d c e =
    let a = bind_ok (ident k) (λ name. demand BadShape (is_common (form_named k)) >>= λ free. type_of false d >>= λ t. ok (name, t)) c e in
    let b = bind_ok (demand BadShape (is_common (form_named k))) (λ free. type_of false d >>= λ t. ok (a.0, t)) c a.2 in
    let t = bind_ok (type_of false d) (λ t. ok (a.0, t)) c b.2 in
    subst (λ (x : List ℕ × Raw). IsPlain x.0) (ok_same (a.0, t.0) c t.2) (ident_plain k a.0 a.1)

entity_name_plain : (k n : List ℕ) → entity_type_name k ≡ ok n → IsPlain n
entity_name_plain k n e =
    let a = bind_ok (ident k) (λ name. demand BadShape (not (bytes_eq k (codes "Action"))) >>= λ free. ok name) n e in
    let b = bind_ok (demand BadShape (not (bytes_eq k (codes "Action")))) (λ free. ok a.0) n a.2 in
    subst IsPlain (ok_same a.0 n b.2) (ident_plain k a.0 a.1)

entity_type_plain : (k : List ℕ) (d : Data) (x : EntityTypeOf) → entity_type_of k d ≡ ok x → IsPlain x.name
unfolding entity_type_of
entity_type_plain k d x e =
    let a = bind_ok (entity_type_name k) _ x e in
    let b = bind_ok (demand BadShape (has_only (codes "memberOfTypes" ∷ codes "shape" ∷ codes "annotations" ∷ []) d)) _ x a.2 in
    let p = bind_ok (names_in (optional (codes "memberOfTypes") d)) _ x b.2 in
    let s = bind_ok (type_in (optional (codes "shape") d)) _ x p.2 in
    subst (λ (y : EntityTypeOf). IsPlain y.name) (ok_same (record { name = a.0; parents = p.0; shape = s.0 }) x s.2) (entity_name_plain k a.0 a.1)

members_have : {A B : Type 0} (f : List ℕ → Data → Result B SchemaFault) (see : B → A) (P : A → Type 0) → ((k : List ℕ) (d : Data) (x : B) → f k d ≡ ok x → P (see x))
    → (ms : Members) (xs : List B) → each_member f ms ≡ ok xs → AllByRecursion P (map see xs)
unfolding each_member
members_have {B = B} f see P has no_members xs e = subst (λ (zs : List B). AllByRecursion P (map see zs)) (ok_same [] xs e) tt
members_have {B = B} f see P has (member k d ms) xs e =
    let a = bind_ok (f k d) (λ y. each_member f ms >>= λ ys. ok (y ∷ ys)) xs e in
    let b = bind_ok (each_member f ms) (λ ys. ok (a.0 ∷ ys)) xs a.2 in
    subst (λ (zs : List B). AllByRecursion P (map see zs)) (ok_same (a.0 ∷ b.0) xs b.2) (has k d a.0 a.1, members_have f see P has ms b.0 b.1)

record ArePlain (n : NamespaceOf) : Type 0 where
  commons : AllByRecursion IsPlain (map (λ c. c.0) n.commons)
  entity_types : AllByRecursion IsPlain (map (λ x. x.name) n.entity_types)

namespace_plain : (k : List ℕ) (d : Data) (n : NamespaceOf) → namespace_of k d ≡ ok n → ArePlain n
unfolding namespace_of commons_of entity_types_of
namespace_plain k d n e =
    let a = bind_ok (namespace_name k) _ n e in
    let b = bind_ok (demand BadShape (has_only (codes "commonTypes" ∷ codes "entityTypes" ∷ codes "actions" ∷ codes "annotations" ∷ []) d)) _ n a.2 in
    let x = bind_ok (commons_in (optional (codes "commonTypes") d)) _ n b.2 in
    let y = bind_ok (entity_types_in (optional (codes "entityTypes") d)) _ n x.2 in
    let z = bind_ok (actions_in (optional (codes "actions") d)) _ n y.2 in
    let xs = bind_ok (members_in (optional (codes "commonTypes") d)) (λ ms. commons_of ms) x.0 x.1 in
    let ys = bind_ok (members_in (optional (codes "entityTypes") d)) (λ ms. entity_types_of ms) y.0 y.1 in
    subst ArePlain (ok_same (record { name = a.0; commons = x.0; entity_types = y.0; actions = z.0 }) n z.2) (record {
      commons = members_have common_of (λ c. c.0) IsPlain common_plain xs.0 x.0 xs.2;
      entity_types = members_have entity_type_of (λ t. t.name) IsPlain entity_type_plain ys.0 y.0 ys.2;
    })

-- ---- no declaration stands twice

plain_at : {A : Type 0} (of : NamespaceOf → List A) (word : A → List ℕ) → ((n : NamespaceOf) → ArePlain n → AllByRecursion IsPlain (map word (of n))) → (ns : List NamespaceOf) → AllByRecursion ArePlain (map (λ n. n) ns)
    → AllByRecursion (λ n. AllByRecursion IsPlain (map word (of n))) ns
plain_at of word at [] h = tt
plain_at of word at (n ∷ ns) h = (at n h.0, plain_at of word at ns h.1)

any_at : (ws : List (List ℕ)) → AllByRecursion Any ws
any_at [] = tt
any_at (w ∷ ws) = (tt, any_at ws)

all_any : (ns : List NamespaceOf) → AllByRecursion (λ n. AllByRecursion Any (map (λ x. x.id) n.actions)) ns
all_any [] = tt
all_any (n ∷ ns) = (any_at (map (λ x. x.id) n.actions), all_any ns)

apart_at : {A : Type 0} (of : NamespaceOf → List A) (word : A → List ℕ) → ((n : NamespaceOf) → StatesOnce n → AreApart (map word (of n))) → (ns : List NamespaceOf) → AllByRecursion StatesOnce ns
    → AllByRecursion (λ n. AreApart (map word (of n))) ns
apart_at of word at [] h = tt
apart_at of word at (n ∷ ns) h = (at n h.0, apart_at of word at ns h.1)

declares_once : (d : Data) (ns : List NamespaceOf) (s : ResolvedSchema) → stated d ≡ ok ns → HaveDistinctNames ns → qualified ns ≡ ok s → DeclaresOnce s
unfolding stated namespaces_of
declares_once d ns s shape once found =
    let a = bind_ok (or_fault BadShape (as_object d)) (λ ms. namespaces_of ms) ns shape in
    let plain = members_have namespace_of (λ n. n) ArePlain namespace_plain a.0 ns a.2 in record {
      commons = declared_once s.commons (found_apart full_name IsPlain full_once (λ n. n.commons) (λ c. c.0) (λ p. p.commons) (λ x. x.0) ns s found (λ p q e. ap (λ (x : ResolvedSchema). x.commons) e) (λ parts. refl)
          (commons_are (scope_in ns) (is_action_in ns)) once.namespaces (plain_at (λ n. n.commons) (λ c. c.0) (λ n h. h.commons) ns plain) (apart_at (λ n. n.commons) (λ c. c.0) (λ n h. h.commons) ns once.names));
      entity_types = found_apart full_name IsPlain full_once (λ n. n.entity_types) (λ x. x.name) (λ p. p.entity_types) (λ x. x.name) ns s found (λ p q e. ap (λ (x : ResolvedSchema). x.entity_types) e) (λ parts. refl)
          (entity_types_are (scope_in ns) (is_action_in ns)) once.namespaces (plain_at (λ n. n.entity_types) (λ x. x.name) (λ n h. h.entity_types) ns plain) (apart_at (λ n. n.entity_types) (λ x. x.name) (λ n h. h.entity_types) ns once.names);
      actions = found_apart full_uid Any uid_once (λ n. n.actions) (λ x. x.id) (λ p. p.actions) (λ x. x.uid) ns s found (λ p q e. ap (λ (x : ResolvedSchema). x.actions) e) (λ parts. refl)
          (actions_are (scope_in ns) (is_action_in ns)) once.namespaces (all_any ns) (apart_at (λ n. n.actions) (λ x. x.id) (λ n h. h.actions) ns once.names);
    }

pub files_declare_once : JsonAscends → FilesStateOnce → FilesDeclareOnce
files_declare_once ascend once bytes s h = declares_once h.value h.namespaces s h.shape (once h.value h.namespaces h.shape (ascend bytes h.value h.json)) h.named.found
