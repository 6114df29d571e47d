-- Puts one after another: one step for each, and the error of one.
use Rattle.std.proofs.Common.{◌≡◌, inl, inr, ℕ, suc, ◌+◌, ◌<◌, List, [], ◌∷◌, length, map, drop, get_or, Option, Some}
use Rattle.std.proofs.Common.{None, option_map, Err, refl, sym, ap, ◌∙◌, subst, add-one, drop-cons}
use Rattle.serde_json.specs.Data.{Data}
use Rattle.schema_decisions.specs.schema.Views.{schema_view}
use Rattle.schema_decisions.specs.schema.Schemas.{StatedSchema}
use Rattle.site.specs.stamped_store.Store.{Store}
use Rattle.schema_decisions.specs.answer_lines.declared.refusal.Refusal.{Refusal}
use Rattle.plain.specs.AllocationErrors.{OrNoMemory}
use Rattle.schema_decisions.specs.answer_lines.Refusals.{no_memory}
use Rattle.site.specs.declared.fault.SiteFault.{SiteFault}
use Rattle.site.specs.declared.fault.SiteFault.TheVariants as fault
use Rattle.site.specs.SiteViews.{SiteView, schema_of, IsSameSite}
use Rattle.site.specs.Readings.{parsed}
use Rattle.site.specs.Steps.{PutsPolicy, PutsEntity}
use Rattle.site_loading.specs.Puts.{Operation, policy_put, entity_put, put_refusal, Accepts, RefusesAt, AcceptsAll}
use Rattle.site_loading.specs.Puts.{RefusesFirst}

-- ---- one put

-- a rejected put leaves the store unchanged
refused_policy : (schema : StatedSchema) (n : List ℕ) (s t : Store) (id text : List ℕ) (f : SiteFault) → PutsPolicy schema n s id text (Err f) t → PutsPolicy schema n s id text (Err f) s
refused_policy schema n s t id text fault.NoMemory h = refl
refused_policy schema n s t id text fault.ClockFull h = (h.0, (h.1.0, refl))
refused_policy schema n s t id text (fault.Policy f) h = (h.0, refl)
refused_policy schema n s t id text (fault.Check f) h = (h.0, refl)
refused_policy schema n s t id text (fault.Entity f) h = (h.0, refl)
refused_policy schema n s t id text (fault.Message f) h = (h.0, refl)
refused_policy schema n s t id text fault.NotThere h = (h.0, refl)
refused_policy schema n s t id text fault.WouldCycle h = (h.0, refl)
refused_policy schema n s t id text (fault.Request f) h = (h.0, refl)

refused_entity : (schema : StatedSchema) (n : List ℕ) (s t : Store) (json : Option Data) (f : SiteFault) → PutsEntity (parsed schema) n s json (Err f) t → PutsEntity (parsed schema) n s json (Err f) s
refused_entity schema n s t json fault.NoMemory h = refl
refused_entity schema n s t json fault.ClockFull h = (h.0, (h.1.0, refl))
refused_entity schema n s t json (fault.Entity f) h = (h.0, refl)
refused_entity schema n s t json fault.WouldCycle h = (h.0, refl)
refused_entity schema n s t json (fault.Policy f) h = absurd h
refused_entity schema n s t json (fault.Check f) h = absurd h
refused_entity schema n s t json (fault.Message f) h = absurd h
refused_entity schema n s t json fault.NotThere h = absurd h
refused_entity schema n s t json (fault.Request f) h = absurd h

pub policy_refused : (schema : StatedSchema) (n : List ℕ) (s t : Store) (id text : List ℕ) (place : ℕ) (f : SiteFault) (r : Refusal) → PutsPolicy schema n s id text (Err f) t → r ≡ put_refusal place f
    → OrNoMemory no_memory (RefusesAt schema n s place (policy_put id text)) r
policy_refused schema n s t id text place f r h e = λ _. (f, refused_policy schema n s t id text f h, e)

pub entity_refused : (schema : StatedSchema) (n : List ℕ) (s t : Store) (json : Data) (place : ℕ) (f : SiteFault) (r : Refusal) → PutsEntity (parsed schema) n s (Some json) (Err f) t → r ≡ put_refusal place f
    → OrNoMemory no_memory (RefusesAt schema n s place (entity_put json)) r
entity_refused schema n s t json place f r h e = λ _. (f, refused_entity schema n s t (Some json) f h, e)

-- ---- one after another

-- After some of the puts `all`, which led from s to m, `left` remain: what these lead to from m, `all` lead to from
-- s.
pub record Along (schema : StatedSchema) (n : List ℕ) (s : Store) (all : List Operation) (m : Store) (place : ℕ) (left : List Operation) : Type 0 where
  pub go : (t : Store) → AcceptsAll schema n m left t → AcceptsAll schema n s all t
  pub stop : (r : Refusal) → RefusesFirst schema n m place left r → RefusesFirst schema n s 0 all r

pub begins : (schema : StatedSchema) (n : List ℕ) (s : Store) (all : List Operation) → Along schema n s all s 0 all
begins schema n s all = record { go = λ t h. h; stop = λ r h. h }

pub steps : (schema : StatedSchema) (n : List ℕ) (s m t : Store) (all left more : List Operation) (place : ℕ) (operation : Operation) → left ≡ operation ∷ more → Along schema n s all m place left
    → Accepts schema n m operation t → Along schema n s all t (place + 1) more
steps schema n s m t all left more place operation e a took =
    let along = subst (Along schema n s all m place) e a in
    record {
      go = λ u h. along.go u (t, took, h);
      stop = λ r h. along.stop r (inr (t, took, subst (λ (k : ℕ). RefusesFirst schema n t k more r) (add-one place) h));
    }

pub stops : (schema : StatedSchema) (n : List ℕ) (s m : Store) (all left more : List Operation) (place : ℕ) (operation : Operation) (r : Refusal) → left ≡ operation ∷ more → Along schema n s all m place left
    → OrNoMemory no_memory (RefusesAt schema n m place operation) r → OrNoMemory no_memory (RefusesFirst schema n s 0 all) r
stops schema n s m all left more place operation r e a refused = λ other. (subst (Along schema n s all m place) e a).stop r (inl (refused other))

pub ends : (schema : StatedSchema) (n : List ℕ) (s m : Store) (all left : List Operation) (place : ℕ) → left ≡ [] → Along schema n s all m place left → AcceptsAll schema n s all m
ends schema n s m all left place e a = (subst (Along schema n s all m place) e a).go m refl

-- ---- the members of an array, one after another

-- Of the members to come some were put, and those to come now remain.
abbrev pub AreAlong : StatedSchema → List ℕ → Store → Option (List Data) → Store → ℕ → Option (List Data) → Type 0
AreAlong schema n s before m place behind = (ds : List Data) → before ≡ Some ds → (left : List Data) × (behind ≡ Some left) × Along schema n s (map entity_put ds) m place (map entity_put left)

pub all_left : (schema : StatedSchema) (n : List ℕ) (s : Store) (before : Option (List Data)) → AreAlong schema n s before s 0 before
all_left schema n s before ds e = (ds, e, begins schema n s (map entity_put ds))

first_of : (d : Data) (behind : Option (List Data)) (left : List Data) → Some left ≡ option_map (λ ds. d ∷ ds) behind → (more : List Data) × (behind ≡ Some more) × (left ≡ d ∷ more)
first_of d None left e = absurd (cc)
first_of d (Some more) left e = (more, refl, cc)

pub one_put : (schema : StatedSchema) (n : List ℕ) (s m t : Store) (before now behind : Option (List Data)) (place : ℕ) (d : Data) → AreAlong schema n s before m place now
    → now ≡ option_map (λ ds. d ∷ ds) behind → Accepts schema n m (entity_put d) t → AreAlong schema n s before t (place + 1) behind
one_put schema n s m t before now behind place d along next took ds e =
    let a = along ds e in
    let f = first_of d behind a.0 (sym a.1 ∙ next) in
    (f.0, f.1, steps schema n s m t (map entity_put ds) (map entity_put a.0) (map entity_put f.0) place (entity_put d) (ap (map entity_put) f.2) a.2 took)

pub one_refused : (schema : StatedSchema) (n : List ℕ) (s m : Store) (before now behind : Option (List Data)) (place : ℕ) (d : Data) (r : Refusal) → AreAlong schema n s before m place now
    → now ≡ option_map (λ ds. d ∷ ds) behind → OrNoMemory no_memory (RefusesAt schema n m place (entity_put d)) r
    → (ds : List Data) → before ≡ Some ds → OrNoMemory no_memory (RefusesFirst schema n s 0 (map entity_put ds)) r
one_refused schema n s m before now behind place d r along next refused ds e =
    let a = along ds e in
    let f = first_of d behind a.0 (sym a.1 ∙ next) in
    stops schema n s m (map entity_put ds) (map entity_put a.0) (map entity_put f.0) place (entity_put d) r (ap (map entity_put) f.2) a.2 refused

no_more : (left : List Data) → Some left ≡ Some [] → left ≡ []
no_more left e = cc

pub all_put : (schema : StatedSchema) (n : List ℕ) (s m : Store) (before now : Option (List Data)) (place : ℕ) → AreAlong schema n s before m place now → now ≡ Some []
    → (ds : List Data) → before ≡ Some ds → AcceptsAll schema n s (map entity_put ds) m
all_put schema n s m before now place along end ds e =
    let a = along ds e in
    ends schema n s m (map entity_put ds) (map entity_put a.0) place (ap (map entity_put) (no_more a.0 (sym a.1 ∙ end))) a.2

-- what is not JSON was not to come
pub none_put : {P : Type 0} (schema : StatedSchema) (n : List ℕ) (s m : Store) (before now : Option (List Data)) (place : ℕ) → AreAlong schema n s before m place now → now ≡ None
    → (ds : List Data) → before ≡ Some ds → P
none_put schema n s m before now place along end ds e =
    let a = along ds e in
    let never : Some a.0 ≡ None = sym a.1 ∙ end in
    absurd (cc)

-- ---- at one site

-- a step of one site is one of another with its schema and name
pub accepts_same : (a b : SiteView) (operation : Operation) (s t : Store) → IsSameSite a b → Accepts (schema_of b) b.name s operation t → Accepts (schema_of a) a.name s operation t
accepts_same a b operation s t same h =
    subst (λ (x : StatedSchema). Accepts x a.name s operation t) (ap schema_view same.0) (subst (λ (n : List ℕ). Accepts (schema_of b) n s operation t) same.1 h)

pub refuses_same : (a b : SiteView) (operation : Operation) (s : Store) (place : ℕ) (r : Refusal) → IsSameSite a b → OrNoMemory no_memory (RefusesAt (schema_of b) b.name s place operation) r
    → OrNoMemory no_memory (RefusesAt (schema_of a) a.name s place operation) r
refuses_same a b operation s place r same h =
    subst (λ (x : StatedSchema). OrNoMemory no_memory (RefusesAt x a.name s place operation) r) (ap schema_view same.0)
    (subst (λ (n : List ℕ). OrNoMemory no_memory (RefusesAt (schema_of b) n s place operation) r) same.1 h)

pub same_on : (a b c : SiteView) → IsSameSite a b → IsSameSite b c → IsSameSite a c
same_on a b c x y = (y.0 ∙ x.0, y.1 ∙ x.1)

pub turn : {A : Type 0} (xs : List A) (i : ℕ) (x : A) → i < length xs → x ≡ get_or xs i x → drop i xs ≡ x ∷ drop (i + 1) xs
turn xs i x lt e = drop-cons xs i x lt ∙ ap (λ z. z ∷ drop (suc i) xs) (sym e) ∙ ap (λ k. x ∷ drop k xs) (sym (add-one i))
