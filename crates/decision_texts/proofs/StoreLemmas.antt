-- What a store of entities looks up is what its entities state.
use Rattle.std.proofs.Common.{◌≡◌, ◌∙◌, Bool, true, false, List, [], ◌∷◌, ◌++◌, Option, Some, None, map, inl, inr, refl, sym}
use Rattle.std.proofs.Common.{ap, subst}
use Rattle.std.specs.Prelude.{Contains, if◌then◌else◌, ◌||◌, is_some}
use Rattle.std.specs.List.{list_any}
use Rattle.std.specs.Ordering.{is_eq}
use Rattle.std.proofs.lemmas.Bool.{cases_Bool}
use Rattle.std.proofs.lemmas.List.Elements.{Contains-append_left, Contains-append_right}
use Rattle.values.specs.declared.entity_uid.EntityUid.{EntityUid}
use Rattle.values.specs.Names.{uid_cmp, uid_cmp-IsTotalOrder, uid_cmp-IsAntisymmetric}
use Rattle.values.specs.Uids.{equal-is}
use Rattle.plain.proofs.Members.{Contains-here, Contains-there, Contains-none}
use Rattle.entity_data.specs.ancestor_search.Decided.{is_same, HaveAllParents}
use Rattle.entity_data.specs.evaluator.Operators.{entities_with}
use Rattle.entity_data.specs.declared.entity.Entity.{Entity}
use Rattle.entity_data.specs.declared.data.EntityData.{EntityData}
use Rattle.entity_data.specs.Entities.{EntityMap, Actions, action_or, with_actions, entity_data_in}
use Rattle.entity_data.specs.Entities.{attributes_of, kept_parents}
use Rattle.entity_data.specs.EntityStores.{Entries, kept_in, Puts, data_of}
use Rattle.decision_texts.specs.Settings.{Reading}
use Rattle.decision_texts.specs.Decisions.{stated, entity_data_with}
use Rattle.decision_texts.specs.inner.Stores.{Holds, entity_data_stored}

-- ---- one more entity behind others

not_first : (b : Bool) (x : EntityData) (o : Option EntityData) → (if b then Some x else o) ≡ None → (b ≡ false) × (o ≡ None)
not_first true x o h = absurd (cc)
not_first false x o h = (refl, h)

true_false : {G : Type 0} (b : Bool) → b ≡ true → b ≡ false → G
true_false b yes' no' = let e : true ≡ false = sym yes' ∙ no' in absurd (cc)

other : (x e q : EntityUid) → is_same x q ≡ true → is_same x e ≡ false → is_same e q ≡ false
other x e q same apart = elim (cases_Bool (is_same e q)) [
  | inl y ↦
      let xq = (equal-is uid_cmp-IsTotalOrder uid_cmp-IsAntisymmetric x q).0 same in
      let eq = (equal-is uid_cmp-IsTotalOrder uid_cmp-IsAntisymmetric e q).0 y in
      true_false (is_same x e) ((equal-is uid_cmp-IsTotalOrder uid_cmp-IsAntisymmetric x e).1 (xq ∙ sym eq)) apart
  | inr n ↦ n
]

later : (b c : Bool) (x e : EntityData) (o n : Option EntityData) → (b ≡ true → c ≡ false) → (b ≡ false → n ≡ (if c then Some e else o)) →
    (if b then Some x else n) ≡ (if c then Some e else (if b then Some x else o))
later true c x e o n apart behind = rw (apart refl) refl
later false c x e o n apart behind = behind refl

stated_more : (es : List Entity) (e : Entity) (q : EntityUid) → stated es e.uid ≡ None →
    stated (es ++ e ∷ []) q ≡ (if is_same e.uid q then Some (data_of e) else stated es q)
stated_more [] e q none = refl
stated_more (x ∷ es) e q none =
    let parts = not_first (is_same x.uid e.uid) (data_of x) (stated es e.uid) none in
    later (is_same x.uid q) (is_same e.uid q) (data_of x) (data_of e) (stated es q) (stated (es ++ e ∷ []) q)
    (λ same. other x.uid e.uid q same parts.0) (λ apart. stated_more es e q parts.1)

none_in : (o : Option EntityData) → is_some o ≡ false → o ≡ None
none_in None h = refl
none_in (Some x) h = absurd (cc)

-- an entity that the store did not have is put behind those that it has
pub holds_more : (old new : Entries) (es : List Entity) (e : Entity) → Puts (kept_in old) (kept_in new) e
    → is_some (kept_in old e.uid) ≡ false → Holds old es → Holds new (es ++ e ∷ [])
holds_more old new es e puts none held q =
    puts q ∙ ap (λ (o : Option EntityData). if is_same e.uid q then Some (data_of e) else o) (held q)
    ∙ sym (stated_more es e q (sym (held e.uid) ∙ none_in (kept_in old e.uid) none))

-- ---- the store

some_if : (b r : Bool) (x : EntityData) (o : Option EntityData) → is_some o ≡ r → is_some (if b then Some x else o) ≡ (b || r)
some_if true r x o h = refl
some_if false r x o h = h

some_stated : (es : List Entity) (q : EntityUid) → is_some (stated es q) ≡ list_any (λ e. is_same e.uid q) es
some_stated [] q = refl
some_stated (e ∷ es) q = some_if (is_same e.uid q) (list_any (λ x. is_same x.uid q) es) (data_of e) (stated es q) (some_stated es q)

-- the store has exactly the entities' uids
pub has_stated : (store : Entries) (es : List Entity) → Holds store es → (q : EntityUid) → is_some (kept_in store q) ≡ list_any (λ e. is_same e.uid q) es
has_stated store es held q = ap is_some (held q) ∙ some_stated es q

world_same : (actions : Actions) (f g : EntityMap) → ((q : EntityUid) → f q ≡ g q) → entity_data_in (with_actions actions f) ≡ entity_data_in (with_actions actions g)
world_same actions f g same = λ i. entities_with (λ q. attributes_of (action_or (actions q) (same q i))) (λ q. kept_parents (action_or (actions q) (same q i)))

pub held_world : (r : Reading) (store : Entries) (es : List Entity) → Holds store es → entity_data_stored r store ≡ entity_data_with r.actions es
held_world r store es held = world_same r.actions (kept_in store) (stated es) held

-- ---- all entities with parents are those of the array, and actions

abbrev own_uids : List Entity → List EntityUid
own_uids es = map (λ e. e.uid) es

chosen : (own : Bool) (u b a : EntityUid) (us : List EntityUid) (e : EntityData) (o : Option EntityData) → (own ≡ true → u ≡ b) → (Contains (kept_parents o) a → Contains us b) →
    Contains (kept_parents (if own then Some e else o)) a → Contains (u ∷ us) b
chosen true u b a us e o same further c = subst (Contains (u ∷ us)) (same refl) (Contains-here u us)
chosen false u b a us e o same further c = Contains-there u us b (further c)

entity_listed : (es : List Entity) (b a : EntityUid) → Contains (kept_parents (stated es b)) a → Contains (own_uids es) b
entity_listed [] b a c = Contains-none a c
entity_listed (e ∷ es) b a c =
    chosen (is_eq (uid_cmp e.uid b)) e.uid b a (own_uids es) (data_of e) (stated es b) (λ same. (equal-is uid_cmp-IsTotalOrder uid_cmp-IsAntisymmetric e.uid b).0 same) (entity_listed es b a) c

-- what has parents is an action, or an entity
parent_of : (actions : Option (List EntityUid)) (o : Option EntityData) (a : EntityUid) {G : Type 0} → Contains (kept_parents (action_or actions o)) a
    → ((us : List EntityUid) → actions ≡ Some us → G) → (Contains (kept_parents o) a → G) → G
parent_of None o a h f g = g h
parent_of (Some us) o a h f g = f us refl

-- those that may have parents
abbrev pub with_parents : List EntityUid → List Entity → List EntityUid
with_parents declared es = own_uids es ++ declared

pub all_parents : (actions : Actions) (declared : List EntityUid) → ((b : EntityUid) (us : List EntityUid) → actions b ≡ Some us → Contains declared b)
    → (es : List Entity) → HaveAllParents (entity_data_with actions es).parents (with_parents declared es)
all_parents actions declared lists es b a h = parent_of (actions b) (stated es b) a h
    (λ us is. Contains-append_right (own_uids es) declared b (lists b us is))
    (λ m. Contains-append_left (own_uids es) declared b (entity_listed es b a m))
