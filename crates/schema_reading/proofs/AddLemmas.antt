-- What was added, one after another.
use Rattle.std.proofs.Common.{◌≡◌, ◌∙◌, ℕ, Bool, true, false, cond, List, [], ◌∷◌, ◌++◌, map, String, Global}
use Rattle.std.proofs.Common.{string_bytes, string_cmp, refl, ap}
use Rattle.std.specs.Prelude.{◌||◌}
use Rattle.std.specs.Ordering.{is_eq, nat_cmp}
use Rattle.std.specs.Cmp.Lexicographic.{slice_cmp}
use Rattle.std.specs.List.{list_any}
use Rattle.std.specs.Str.{bytes_eq}
use Rattle.std.specs.BTreeMap.{is_at}
use Rattle.std.specs.BTreeSet.{BTreeSet, contains, contains_text, Updates}
use Rattle.std.proofs.lemmas.Map.Text.{btree_set_updates_text}
use Rattle.values.specs.declared.entity_uid.EntityUid.{EntityUid}
use Rattle.values.specs.Names.{uid_cmp}
use Rattle.schema_types.specs.declared.names.Names.{Names}
use Rattle.schema_types.specs.Names.{full_name}
use Rattle.schema_reading.specs.FileForm.{NamespaceOf}
use Rattle.schema_reading.specs.Qualifying.{common_in, commons_declared, entity_types_declared, actions_declared}
use Rattle.schema_types.specs.Actions.{action_type, action_uid}
use Rattle.schema_reading.specs.inner.Adding.{has_name, has_uid, IsUnionWith, AddsNamespace, AddsAll, Declares, any_common}
use Rattle.schema_reading.specs.inner.Adding.{any_name, any_uid}

pub or_cond : (b x : Bool) → cond b true x ≡ (b || x)
or_cond true x = refl
or_cond false x = refl

or_none : (b x : Bool) → x ≡ false → (b || x) ≡ b
or_none true x e = refl
or_none false x e = e

both_ways : (a b x y : Bool) → x ≡ (a || y) → (b || x) ≡ ((a || b) || y)
both_ways true true x y e = refl
both_ways true false x y e = e
both_ways false true x y e = refl
both_ways false false x y e = e

-- first the one, and then the rest
pub adds_before : {S X : Type 0} (has : S → X → Bool) (one rest : X → Bool) (cur new last : S) → IsUnionWith has one cur new → IsUnionWith has rest new last → IsUnionWith has (λ q. one q || rest q) cur last
adds_before has one rest cur new last h k = λ q. k q ∙ both_ways (one q) (rest q) (has new q) (has cur q) (h q)

-- the same of one test
adds_by : {S X : Type 0} (has : S → X → Bool) (one other : X → Bool) (cur last : S) → ((q : X) → one q ≡ other q) → IsUnionWith has one cur last → IsUnionWith has other cur last
adds_by has one other cur last same h = λ q. h q ∙ ap (λ (b : Bool). b || has cur q) (same q)

any_both : {X : Type 0} (test : X → Bool) (xs ys : List X) → (list_any test xs || list_any test ys) ≡ list_any test (xs ++ ys)
any_both test [] ys = refl
any_both test (x ∷ xs) ys = or_both (test x) (list_any test xs) (list_any test ys) ∙ ap (λ (b : Bool). test x || b) (any_both test xs ys)
  where
    or_both : (a b d : Bool) → ((a || b) || d) ≡ (a || (b || d))
    or_both true b d = refl
    or_both false b d = refl

pub all_before : (n : NamespaceOf) (ns : List NamespaceOf) (cur new last : Names) → AddsNamespace n cur new → AddsAll ns new last → AddsAll (n ∷ ns) cur last
all_before n ns cur new last h k = record {
  commons = adds_by has_name _ (any_common (commons_declared (n ∷ ns))) cur.commons last.commons
      (λ q. any_both (λ c. bytes_eq c.name q) (map (λ c. common_in n.name c) n.commons) (commons_declared ns))
      (adds_before has_name (any_common (map (λ c. common_in n.name c) n.commons)) (any_common (commons_declared ns)) cur.commons new.commons last.commons h.commons k.commons);
  entities = adds_by has_name _ (any_name (entity_types_declared (n ∷ ns))) cur.entities last.entities
      (λ q. any_both (λ e. bytes_eq e q) (map (λ e. full_name n.name e.name) n.entity_types) (entity_types_declared ns))
      (adds_before has_name (any_name (map (λ e. full_name n.name e.name) n.entity_types)) (any_name (entity_types_declared ns)) cur.entities new.entities last.entities h.entities k.entities);
  actions = adds_by has_uid _ (any_uid (actions_declared (n ∷ ns))) cur.actions last.actions
      (λ u. any_both (λ a. is_eq (uid_cmp a u)) (map (λ a. action_uid (action_type n.name) a.id) n.actions) (actions_declared ns))
      (adds_before has_uid (any_uid (map (λ a. action_uid (action_type n.name) a.id) n.actions)) (any_uid (actions_declared ns)) cur.actions new.actions last.actions h.actions k.actions);
}

pub all_none : (names : Names) → AddsAll [] names names
all_none names = record { commons = λ q. refl; entities = λ q. refl; actions = λ u. refl }

no_name : (s : BTreeSet (String Global)) → s.keys ≡ [] → (q : List ℕ) → contains_text s q ≡ false
no_name s e q = ap (λ (ks : List (String Global)). list_any (is_at (λ k. slice_cmp nat_cmp q (string_bytes k))) ks) e

no_uid : (s : BTreeSet EntityUid) → s.keys ≡ [] → (u : EntityUid) → contains uid_cmp s u ≡ false
no_uid s e u = ap (λ (ks : List EntityUid). list_any (is_at (uid_cmp u)) ks) e

-- what is added to nothing is all there is
pub all_from_none : (ns : List NamespaceOf) (none last : Names) → none.commons.keys ≡ [] → none.entities.keys ≡ [] → none.actions.keys ≡ [] → AddsAll ns none last → Declares ns last
all_from_none ns none last c e a h =
    let commons : (q : List ℕ) → contains_text last.commons q ≡ any_common (commons_declared ns) q =
    λ q. h.commons q ∙ or_none (any_common (commons_declared ns) q) (contains_text none.commons q) (no_name none.commons c q) in
    let entities : (q : List ℕ) → contains_text last.entities q ≡ any_name (entity_types_declared ns) q =
    λ q. h.entities q ∙ or_none (any_name (entity_types_declared ns) q) (contains_text none.entities q) (no_name none.entities e q) in
    let actions : (u : EntityUid) → contains uid_cmp last.actions u ≡ any_uid (actions_declared ns) u =
    λ u. h.actions u ∙ or_none (any_uid (actions_declared ns) u) (contains uid_cmp none.actions u) (no_uid none.actions a u) in
    record {
      scope = λ i. record { commons = λ q. commons q i; entities = λ q. entities q i };
      actions = λ i u. actions u i;
    }

-- ---- one insertion

pub name_added : (old new : BTreeSet (String Global)) (text : String Global) (written full name : List ℕ) → string_bytes text ≡ written → written ≡ full → full ≡ name
    → Updates string_cmp old new text true → IsUnionWith has_name (λ q. bytes_eq name q) old new
name_added old new text written full name t w f h = λ q.
    btree_set_updates_text (string_bytes text) old new true h q ∙ or_cond (bytes_eq (string_bytes text) q) (contains_text old q)
    ∙ ap (λ (n : List ℕ). bytes_eq n q || contains_text old q) (t ∙ w ∙ f)

pub uid_added : (old new : BTreeSet EntityUid) (added uid : EntityUid) → added ≡ uid → Updates uid_cmp old new added true → IsUnionWith has_uid (λ u. is_eq (uid_cmp uid u)) old new
uid_added old new added uid same h = λ u.
    h.0 u ∙ or_cond (is_eq (uid_cmp added u)) (contains uid_cmp old u) ∙ ap (λ (a : EntityUid). is_eq (uid_cmp a u) || contains uid_cmp old u) same
