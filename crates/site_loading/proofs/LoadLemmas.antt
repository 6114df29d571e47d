-- The puts of two files, and their result.
use Rattle.std.proofs.Common.{◌≡◌, ℕ, ◌+◌, ◌<◌, ◌≤◌, List, [], ◌∷◌, length, map, drop, get_or, Option, Some, None}
use Rattle.std.proofs.Common.{Result, Ok, Err, OnOk, IfErr, refl, sym, ap, ◌∙◌, subst, String, string_bytes, option_map}
use Rattle.std.proofs.Common.{option_and_then, Bor, zero, suc, arith}
use Rattle.std.specs.Prelude.{⊤}
use Rattle.std.proofs.lemmas.List.{drop_all, length-map}
use Rattle.std.proofs.lemmas.Slice.Zip.{AllZip-long}
use Rattle.std.specs.declared.alloc.Global.{Global}
use Rattle.serde_json.specs.Data.{Data, Items}
use Rattle.serde_json.specs.Find.{as_array}
use Rattle.json_words.specs.Json.{json_of}
use Rattle.json_words.specs.Each.{list_of}
use Rattle.json_words.specs.ReadsAs.{◌>>=◌, or_fault}
use Rattle.json_words.specs.Arrays.{array_of}
use Rattle.schema_decisions.specs.schema.Schemas.{StatedSchema}
use Rattle.schema_decisions.specs.schema.Views.{schema_view}
use Rattle.schema_decisions.specs.entity_data.declared.entity.Entity.{Entity}
use Rattle.site.specs.stamped_store.Store.{Store, updates}
use Rattle.site.specs.sync_format.Messages.{state_text, updates_stated}
use Rattle.schema_decisions.specs.answer_lines.declared.refusal.Refusal.{Refusal}
use Rattle.schema_decisions.specs.answer_lines.Refusals.{bad_shape, no_memory}
use Rattle.plain.specs.AllocationErrors.{OrNoMemory}
use Rattle.schema_decisions.specs.decision_texts.EntityArrays.{entities_in, entities_of}
use Rattle.schema_decisions.specs.UnderSchema.{reading_under}
use Rattle.site.specs.SiteViews.{SiteView, schema_of, store_in, IsSameSite}
use Rattle.policy_grammar.specs.grammar_syntax.Lexing.{IsBadAt, BadIsNotLexed}
use Rattle.policy_grammar.specs.declared.policy.Policy.{Policy}
use Rattle.policy_grammar.specs.CoreOf.{IsCoreOf}
use Rattle.policy_grammar.specs.Cuts.{AreTextsOf, AreAsManyAsPolicies}
use Rattle.schema_decisions.specs.decision_texts.Decisions.{ArePoliciesOf}
use Rattle.site_loading.specs.Puts.{policy_put, entity_put, AcceptsAll, RefusesFirst}
use Rattle.site_loading.specs.Loads.{policy_puts, items_of, AreNamedTexts, LoadsPolicies, RefusesPolicies}
use Rattle.site_loading.specs.Loads.{LoadsEntities, RefusesEntities, by_put, by_stored}
use Rattle.site_loading.specs.Loads.{LoadsIfNamed, RefusesIfNamed, IsLoadedState, IsRefused, by_entities}
use Rattle.site_loading.specs.inner.Steps.{HasTokens}
use Rattle.site_loading.proofs.PutLemmas.{turn, same_on}

abbrev pub Files : Type 0
Files = List (String Global × Policy)

abbrev pub words : Files → List (List ℕ)
words ps = map (λ p. string_bytes p.0) ps

abbrev pub cores : Files → List Policy
cores ps = map (λ p. p.1) ps

abbrev pub nows : List (Bor (List ℕ)) → List (List ℕ)
nows ts = map (λ t. t.now) ts

-- ---- what is left to put

-- no text
abbrev pub none : Bor (List ℕ)
none = record { ref_ptr = (0, 0); now = [] }

same_get : {A : Type 0} (xs : List A) (i : ℕ) (d e : A) → i < length xs → get_or xs i d ≡ get_or xs i e
same_get [] i d e lt = absurd (omega (arith, lt))
same_get (x ∷ xs) zero d e lt = refl
same_get (x ∷ xs) (suc i) d e lt = same_get xs i d e (omega (arith, lt))

pub next_puts : (ps : Files) (ts : List (Bor (List ℕ))) (i : ℕ) (p : String Global × Policy) → i < length ps → length ts ≡ length ps → p ≡ get_or ps i p
    → policy_puts (words (drop i ps)) (nows (drop i ts)) ≡ policy_put (string_bytes p.0) (get_or ts i none).now ∷ policy_puts (words (drop (i + 1) ps)) (nows (drop (i + 1) ts))
next_puts ps ts i p lt same e =
    let below : i < length ts = subst (λ (n : ℕ). i < n) (sym same) lt in
    ap (λ (x : Files). policy_puts (words x) (nows (drop i ts))) (turn ps i p lt e)
    ∙ ap (λ (x : List (Bor (List ℕ))). policy_puts (string_bytes p.0 ∷ words (drop (i + 1) ps)) (nows x))
    (turn ts i (get_or ts i none) below (same_get ts i none (get_or ts i none) below))

pub no_puts : (ps : Files) (ts : List (Bor (List ℕ))) (i : ℕ) → length ps ≤ i → policy_puts (words (drop i ps)) (nows (drop i ts)) ≡ []
no_puts ps ts i h = ap (λ (x : Files). policy_puts (words x) (nows (drop i ts))) (drop_all i ps h)

-- ---- policies of a file

pub has_tokens : (bytes : List ℕ) (names : List (List ℕ)) (policies : List Policy) → ArePoliciesOf bytes names policies → HasTokens bytes
has_tokens bytes names policies a = record { utf8 = a.utf8; tokens = a.file.derives.tokens; lexed = a.file.derives.lexed }

pub as_many_texts : AreAsManyAsPolicies → (bytes : List ℕ) (ps : Files) (texts : List (List ℕ)) → ArePoliciesOf bytes (words ps) (cores ps) → AreTextsOf bytes texts → length texts ≡ length ps
as_many_texts law bytes ps texts a cut =
    let d = a.file.derives in
    law _ bytes d.tokens a.file.trees texts d.lexed d.derived cut ∙ sym (AllZip-long (IsCoreOf bytes) a.file.trees (cores ps) a.file.are.cores) ∙ length-map ps (λ p. p.1)

pub as_many_there : AreAsManyAsPolicies → (bytes : List ℕ) (ps : Files) (ts : List (Bor (List ℕ))) → ArePoliciesOf bytes (words ps) (cores ps) → AreTextsOf bytes (nows ts)
    → length ts ≡ length ps
as_many_there law bytes ps ts a cut = sym (length-map ts (λ t. t.now)) ∙ as_many_texts law bytes ps (nows ts) a cut

pub named_texts : AreAsManyAsPolicies → (bytes : List ℕ) (ps : Files) (texts : List (List ℕ)) → ArePoliciesOf bytes (words ps) (cores ps) → AreTextsOf bytes texts → AreNamedTexts bytes (words ps) texts
named_texts law bytes ps texts a cut = record {
  policies = cores ps;
  file = a;
  cut = cut;
  as_many = as_many_texts law bytes ps texts a cut ∙ sym (length-map ps (λ p. string_bytes p.0));
}

-- no token is missing
pub no_bad_token : BadIsNotLexed → (bytes text : List ℕ) (at : ℕ) → HasTokens bytes → text ≡ bytes → IsBadAt text at → ⊥
no_bad_token law bytes text at h e bad = law bytes at h.tokens (subst (λ (x : List ℕ). IsBadAt x at) e bad) h.lexed

-- ---- what the whole comes to, from the puts

pub policies_loaded : AreAsManyAsPolicies → (schema : StatedSchema) (n : List ℕ) (s t : Store) (bytes : List ℕ) (ps : Files) (ts : List (Bor (List ℕ))) (r : Result ⊤ Refusal)
    → ArePoliciesOf bytes (words ps) (cores ps) → AreTextsOf bytes (nows ts) → OnOk r (AcceptsAll schema n s (policy_puts (words ps) (nows ts)) t) → OnOk r (LoadsPolicies schema n s bytes t)
policies_loaded law schema n s t bytes ps ts (Ok done) a cut puts = record { names = words ps; texts = nows ts; are = named_texts law bytes ps (nows ts) a cut; puts = puts }
policies_loaded law schema n s t bytes ps ts (Err e) a cut puts = tt

pub policies_refused : AreAsManyAsPolicies → (schema : StatedSchema) (n : List ℕ) (s : Store) (bytes : List ℕ) (ps : Files) (ts : List (Bor (List ℕ))) (r : Result ⊤ Refusal)
    → ArePoliciesOf bytes (words ps) (cores ps) → AreTextsOf bytes (nows ts) → IfErr r (OrNoMemory no_memory (RefusesFirst schema n s 0 (policy_puts (words ps) (nows ts))))
    → IfErr r (OrNoMemory no_memory (RefusesPolicies schema n s bytes))
policies_refused law schema n s bytes ps ts (Ok done) a cut puts = tt
policies_refused law schema n s bytes ps ts (Err e) a cut puts = λ other. by_put (words ps) (nows ts) (named_texts law bytes ps (nows ts) a cut) (puts other)

-- ---- an array that was judged

-- the result of the JSON array, if there is one
abbrev judged_array : StatedSchema → Option Items → Result (List Entity) Refusal
judged_array s o = or_fault (bad_shape None) o >>= λ (ds : Items). entities_in (reading_under s) ds

abbrev judged : StatedSchema → Option Data → Result (List Entity) Refusal
judged s o = or_fault (bad_shape None) o >>= λ (d : Data). judged_array s (as_array d)

judged_is : (s : StatedSchema) (bytes : List ℕ) → entities_of (reading_under s) bytes ≡ judged s (json_of bytes)
unfolding entities_of
judged_is s bytes = refl

none_array : (s : StatedSchema) (o : Option Items) (es : List Entity) → judged_array s o ≡ Ok es → o ≡ None → ⊥
none_array s None es h e = absurd cc
none_array s (Some d) es h e = absurd cc

none_judged : (s : StatedSchema) (o : Option Data) (es : List Entity) → judged s o ≡ Ok es → option_and_then as_array o ≡ None → ⊥
none_judged s None es h e = absurd cc
none_judged s (Some d) es h e = none_array s (as_array d) es h e

no_list : (o : Option Items) → option_map list_of o ≡ None → o ≡ None
no_list None e = refl
no_list (Some ds) e = absurd cc

-- it has members
pub some_members : (s : StatedSchema) (bytes : List ℕ) (es : List Entity) → entities_of (reading_under s) bytes ≡ Ok es → array_of bytes ≡ None → ⊥
unfolding array_of
some_members s bytes es h none = none_judged s (json_of bytes) es (sym (judged_is s bytes) ∙ h) (no_list (option_and_then as_array (json_of bytes)) none)

some_list : (o : Option (List Data)) → (o ≡ None → ⊥) → (ds : List Data) × (o ≡ Some ds)
some_list None some = absurd (some refl)
some_list (Some ds) some = (ds, refl)

-- namely these
pub members_are : (s : StatedSchema) (bytes : List ℕ) (es : List Entity) → entities_of (reading_under s) bytes ≡ Ok es → (ds : List Data) × (array_of bytes ≡ Some ds)
members_are s bytes es h = some_list (array_of bytes) (some_members s bytes es h)

pub items_are : (bytes : List ℕ) → items_of bytes ≡ array_of bytes
unfolding array_of
items_are bytes = refl

pub entities_loaded : (schema : StatedSchema) (n : List ℕ) (s t : Store) (bytes : List ℕ) (es : List Entity) (xs : List Data) (r : Result ⊤ Refusal) → entities_of (reading_under schema) bytes ≡ Ok es
    → items_of bytes ≡ Some xs → OnOk r (AcceptsAll schema n s (map entity_put xs) t) → OnOk r (LoadsEntities schema n s bytes t)
entities_loaded schema n s t bytes es xs (Ok done) read array puts = record { entities = es; read = read; items = xs; array = array; puts = puts }
entities_loaded schema n s t bytes es xs (Err e) read array puts = tt

pub entities_refused : (schema : StatedSchema) (n : List ℕ) (s : Store) (bytes : List ℕ) (es : List Entity) (xs : List Data) (r : Result ⊤ Refusal) → entities_of (reading_under schema) bytes ≡ Ok es
    → items_of bytes ≡ Some xs → IfErr r (OrNoMemory no_memory (RefusesFirst schema n s 0 (map entity_put xs))) → IfErr r (OrNoMemory no_memory (RefusesEntities schema n s bytes))
entities_refused schema n s bytes es xs (Ok done) read array puts = tt
entities_refused schema n s bytes es xs (Err e) read array puts = λ other. by_stored es xs read array (puts other)

-- ---- at one site

-- a statement about one site holds of another with its schema and name
pub alike : (a b : SiteView) (P : StatedSchema → List ℕ → Type 0) → IsSameSite a b → P (schema_of b) b.name → P (schema_of a) a.name
alike a b P same h = subst (λ (x : StatedSchema). P x a.name) (ap schema_view same.0) (subst (λ (n : List ℕ). P (schema_of b) n) same.1 h)

-- the entities are rejected, after policies that were put
pub refused_behind : (a b : SiteView) (ps es : Option (List ℕ)) (r : Refusal) → IsSameSite a b → LoadsIfNamed (LoadsPolicies (schema_of a) a.name) (store_in a) ps (store_in b)
    → OrNoMemory no_memory (RefusesIfNamed (RefusesEntities (schema_of b) b.name) (store_in b) es) r → OrNoMemory no_memory (IsRefused (schema_of a) a.name (store_in a) ps es) r
refused_behind a b ps es r same loads refused = λ other. by_entities (store_in b) loads
    (alike a b (λ (x : StatedSchema) (n : List ℕ). RefusesIfNamed (RefusesEntities x n) (store_in b) es r) same (refused other))

-- both are put
pub state_loaded : (a b d : SiteView) (ps es : Option (List ℕ)) (bytes : List ℕ) → IsSameSite a b → IsSameSite b d → LoadsIfNamed (LoadsPolicies (schema_of a) a.name) (store_in a) ps (store_in b)
    → LoadsIfNamed (LoadsEntities (schema_of b) b.name) (store_in b) es (store_in d) → bytes ≡ state_text (schema_of d).label (store_in d)
    → updates_stated (schema_of d).label bytes ≡ Ok (updates (store_in d)) → IsLoadedState (schema_of a) a.name (store_in a) ps es bytes
state_loaded a b d ps es bytes same more policies entities text back = record {
  between = store_in b;
  last = store_in d;
  policies_put = policies;
  entities_put = alike a b (λ (x : StatedSchema) (n : List ℕ). LoadsIfNamed (LoadsEntities x n) (store_in b) es (store_in d)) same entities;
  bytes_are = alike a d (λ (x : StatedSchema) (n : List ℕ). bytes ≡ state_text x.label (store_in d)) (same_on a b d same more) text;
  reads_back = alike a d (λ (x : StatedSchema) (n : List ℕ). updates_stated x.label bytes ≡ Ok (updates (store_in d))) (same_on a b d same more) back;
}

-- ---- small steps

pub none_of : {A B : Type 0} (f : A → B) (o : Option A) (q : Option B) → o ≡ None → option_map f o ≡ q → None ≡ q
none_of f o q e h = ap (option_map f) (sym e) ∙ h

pub some_of : {A B : Type 0} (f : A → B) (o : Option A) (x : A) (q : Option B) → o ≡ Some x → option_map f o ≡ q → Some (f x) ≡ q
some_of f o x q e h = ap (option_map f) (sym e) ∙ h
