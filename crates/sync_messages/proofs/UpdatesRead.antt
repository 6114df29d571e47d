-- The updates that bytes state.
use Rattle.std.proofs.Common.{◌≡◌, ◌∙◌, ℕ, List, [], ◌∷◌, map, Bool, true, false, Option, Some, None, Ok, Err, refl, sym, ap, subst, inl, inr, arith}
use Rattle.std.specs.Prelude.{◌⊎◌, ◌||◌, codes}
use Rattle.std.specs.List.{AllZip}
use Rattle.std.specs.List.Sorted.{IsStrictlySortedBy}
use Rattle.std.specs.Str.{bytes_eq}
use Rattle.serde_json.specs.Data.{Data, Items, no_items, item, unsigned, no_members, member}
use Rattle.serde_json.specs.Data as json
use Rattle.serde_json.specs.Find.{get, as_array}
use Rattle.serde_json.specs.View.{items_of}
use Rattle.json_words.specs.Ascending.{Ascend, DataAscends, JsonAscends}
use Rattle.json_words.specs.Each.{each, list_of}
use Rattle.json_words.specs.Json.{json_of, text_at}
use Rattle.json_words.specs.Keys.{has_only}
use Rattle.json_words.specs.ReadsAs.{◌>>=◌, or_fault, demand}
use Rattle.json_words.proofs.EachLemmas.{bind_ok}
use Rattle.values.specs.declared.name.Name.{Name}
use Rattle.values.specs.declared.name.Name.TheVariants as name
use Rattle.stamped_store.specs.declared.entry.Stamp.{Stamp}
use Rattle.stamped_store.specs.Store.{Update, issued}
use Rattle.sync_format.specs.declared.version.MessageVersion.{MessageVersion}
use Rattle.sync_format.specs.declared.version.MessageVersion.TheVariants.{One, Two}
use Rattle.sync_format.specs.declared.fault.MessageFault.{MessageFault}
use Rattle.sync_format.specs.declared.fault.MessageFault.TheVariants.{NotJson, BadShape, OtherSchema}
use Rattle.sync_format.specs.Summaries.{name_json, stamped_in, version_in}
use Rattle.sync_format.specs.Messages.{body_json, entry_json, message_json, text_in, body_in, entry_by, entry_in, entries_of, entries_by, entries_in, is_kind}
use Rattle.sync_format.specs.Messages.{updates_by, updates_in, updates_stated}
use Rattle.validator.specs.schema.Agreement.{Gives, HasOneOutcome}
use Rattle.sync_messages.specs.MessageForms.{DescribesName, DescribesSite, HasVersion, number_of}
use Rattle.sync_messages.specs.MessageForms as says
use Rattle.sync_messages.specs.StatedUpdates.{DescribesEntry, IsUpdates, DescribesUpdates, RefusesUpdates}
use Rattle.sync_messages.proofs.Steps.{done, failed, ok_is, some_is, some_of, passes, bytes_same, Only, only_ok, only_wrong, only_bind, only_demand, only_or, only_each}
use Rattle.sync_messages.proofs.Exact.{exact_object, value_ascends, items_ascend}
use Rattle.sync_messages.proofs.Parts.{Read, Facts, text_is, array_is, HasParts, parts_are, are_parts, only_parts, each_is, is_each}
use Rattle.sync_messages.proofs.FormsRead.{IsReader, value_read, form_read, states, refuses, some_form}
use Rattle.sync_messages.proofs.OneOutcome.{gives, one_outcome}

-- ---- bodies

body_is : (d : Data) (body : Option (List ℕ)) → body_in d ≡ done body → d ≡ body_json body
unfolding body_in text_in
body_is json.null None e = refl
body_is json.null (Some t) e = absurd cc
body_is (json.boolean b) body e = absurd cc
body_is (json.number n) body e = absurd cc
body_is (json.string s) None e = absurd cc
body_is (json.string s) (Some t) e = ap (λ (x : List ℕ). json.string x) (some_is s t (ok_is (Some s) (Some t) e))
body_is (json.array ds) body e = absurd cc
body_is (json.object ms) body e = absurd cc

is_body : (body : Option (List ℕ)) → body_in (body_json body) ≡ done body
unfolding body_in text_in
is_body None = refl
is_body (Some text) = refl

only_body : (d : Data) → Only BadShape (body_in d)
unfolding body_in text_in
only_body json.null = only_ok BadShape None
only_body (json.boolean b) = only_wrong BadShape
only_body (json.number n) = only_wrong BadShape
only_body (json.string s) = only_ok BadShape (Some s)
only_body (json.array ds) = only_wrong BadShape
only_body (json.object ms) = only_wrong BadShape

-- ---- entries

abbrev entry_keys : List (List ℕ)
entry_keys = codes "body" ∷ codes "count" ∷ codes "name" ∷ codes "site" ∷ []

entry_keys_ascend : Ascend entry_keys
unfolding IsStrictlySortedBy
entry_keys_ascend = ((refl, (refl, (refl, tt))), ((refl, (refl, tt)), ((refl, tt), (tt, tt))))

abbrev with_body : MessageVersion → Data → Option (List ℕ) → Read Update
with_body version d body = stamped_in version d >>= λ u. Ok (u.0, issued u.1 body)

abbrev with_found : MessageVersion → Data → Data → Read Update
with_found version d found = body_in found >>= λ body. with_body version d body

entry_step : (version : MessageVersion) (d : Data)
    → entry_in version d ≡ (demand BadShape (has_only entry_keys d) >>= λ shape. or_fault BadShape (get (codes "body") d) >>= λ found. with_found version d found)
unfolding entry_in entry_by
entry_step version d = refl

abbrev read : Update → Read Update
read u = Ok u

entry_made : (version : MessageVersion) (d : Data) (body : Option (List ℕ)) (u : Name × Stamp) (x : Update) → read (u.0, issued u.1 body) ≡ read x → HasParts version d u
    → (get (codes "body") d ≡ Some (body_json body)) → has_only entry_keys d ≡ true → DataAscends d → DescribesEntry version d x
entry_made version d body u x e h at alone asc =
    subst (DescribesEntry version d) (ok_is (u.0, issued u.1 body) x e) (record {
      name = h.name;
      site = h.site;
      is = exact_object ((codes "body", body_json body) ∷ (codes "count", json.number (unsigned u.1.count)) ∷ (codes "name", h.name) ∷ (codes "site", h.site) ∷ []) d entry_keys_ascend asc alone
          (at, (h.at_count, (h.at_name, (h.at_site, tt))));
      states_name = h.states_name;
      states_site = h.states_site;
    })

entry_is : Facts → (version : MessageVersion) (d : Data) (u : Update) → DataAscends d → entry_in version d ≡ done u → DescribesEntry version d u
entry_is facts version d u asc e =
    let a = bind_ok (demand BadShape (has_only entry_keys d)) (λ shape. or_fault BadShape (get (codes "body") d) >>= λ found. with_found version d found) u (sym (entry_step version d) ∙ e) in
    let b = bind_ok (or_fault BadShape (get (codes "body") d)) (λ found. with_found version d found) u a.2 in
    let c = bind_ok (body_in b.0) (λ body. with_body version d body) u b.2 in
    let s = bind_ok (stamped_in version d) (λ v. Ok (v.0, issued v.1 c.0)) u c.2 in
    entry_made version d c.0 s.0 u s.2 (parts_are facts version d asc s.0 s.1)
    (some_of BadShape (get (codes "body") d) b.0 b.1 ∙ ap (λ (x : Data). Some x) (body_is b.0 c.0 c.1))
    (passes BadShape (has_only entry_keys d) a.0 a.1) asc

abbrev stamp_of : Update → Name × Stamp
stamp_of u = (u.0, record { count = u.1.count; site = u.1.site })

abbrev entry_object : Data → Data → Update → Data
entry_object name site u = json.object (member (codes "body") (body_json u.1.body)
    (member (codes "count") (json.number (unsigned u.1.count))
    (member (codes "name") name
    (member (codes "site") site no_members))))

object_read : Facts → (version : MessageVersion) (name site : Data) (u : Update) → DescribesName name u.0 → DescribesSite version site u.1.site → entry_in version (entry_object name site u) ≡ done u
unfolding entry_in entry_by
object_read facts version name site u named sited =
    let parts : HasParts version (entry_object name site u) (stamp_of u) = record { name = name; site = site; at_count = refl; at_name = refl; at_site = refl; states_name = named; states_site = sited } in
    rw (is_body u.1.body, are_parts facts version (entry_object name site u) (stamp_of u) parts) refl

is_entry : Facts → (version : MessageVersion) (d : Data) (u : Update) → DescribesEntry version d u → entry_in version d ≡ done u
is_entry facts version d u h = ap (entry_in version) h.is ∙ object_read facts version h.name h.site u h.states_name h.states_site

only_entry : (version : MessageVersion) (d : Data) → Only BadShape (entry_in version d)
unfolding entry_in entry_by
only_entry version d =
    only_bind (demand BadShape (has_only entry_keys d)) (λ shape. or_fault BadShape (get (codes "body") d) >>= λ found. with_found version d found) (only_demand BadShape (has_only entry_keys d)) (λ shape.
    only_bind (or_fault BadShape (get (codes "body") d)) (λ found. with_found version d found) (only_or BadShape (get (codes "body") d)) (λ found.
    only_bind (body_in found) (λ body. with_body version d body) (only_body found) (λ body.
    only_bind (stamped_in version d) (λ u. Ok (u.0, issued u.1 body)) (only_parts version d) (λ u. only_ok BadShape (u.0, issued u.1 body)))))

-- ---- the whole form

abbrev update_keys : List (List ℕ)
update_keys = codes "entries" ∷ codes "kind" ∷ codes "schema" ∷ codes "version" ∷ []

update_keys_ascend : Ascend update_keys
unfolding IsStrictlySortedBy
update_keys_ascend = ((refl, (refl, (refl, tt))), ((refl, (refl, tt)), ((refl, tt), (tt, tt))))

kind_by : (kind : List ℕ) (a b : Bool) → bytes_eq kind (codes "state") ≡ a → bytes_eq kind (codes "delta") ≡ b → (a || b) ≡ true → (kind ≡ codes "state") ⊎ (kind ≡ codes "delta")
kind_by kind true b e f h = inl (bytes_same kind (codes "state") e)
kind_by kind false true e f h = inr (bytes_same kind (codes "delta") f)
kind_by kind false false e f h = absurd cc

kind_is : (kind : List ℕ) → is_kind kind ≡ true → (kind ≡ codes "state") ⊎ (kind ≡ codes "delta")
kind_is kind h = kind_by kind (bytes_eq kind (codes "state")) (bytes_eq kind (codes "delta")) refl refl h

is_the_kind : (kind : List ℕ) → (kind ≡ codes "state") ⊎ (kind ≡ codes "delta") → is_kind kind ≡ true
is_the_kind kind (inl e) = ap is_kind e
is_the_kind kind (inr e) = ap is_kind e

abbrev Stated : Type 0
Stated = List ℕ × List Update

abbrev with_schema : MessageVersion → Data → List ℕ → Read Stated
with_schema version d schema = entries_in version d >>= λ us. Ok (schema, us)

abbrev with_updating : MessageVersion → Data → Read Stated
with_updating version d = or_fault BadShape (text_at (codes "schema") d) >>= λ schema. with_schema version d schema

abbrev with_kind : MessageVersion → Data → List ℕ → Read Stated
with_kind version d kind = demand BadShape (is_kind kind) >>= λ updating. with_updating version d

abbrev with_keys : MessageVersion → Data → Read Stated
with_keys version d = or_fault BadShape (text_at (codes "kind") d) >>= λ kind. with_kind version d kind

abbrev pub shape : MessageVersion → Data → Read Stated
shape version d = demand BadShape (has_only update_keys d) >>= λ keys. with_keys version d

entries_are : Facts → (version : MessageVersion) (d : Data) → DataAscends d → (us : List Update) → entries_in version d ≡ done us
    → (ds : Items) × (get (codes "entries") d ≡ Some (json.array ds)) × AllZip (DescribesEntry version) (list_of ds) us
unfolding entries_in entries_by entries_of
entries_are facts version d asc us e =
    let a = bind_ok (or_fault BadShape (get (codes "entries") d)) (λ found. or_fault BadShape (as_array found) >>= λ ds. each (λ i x. entry_in version x) 0 (list_of ds)) us e in
    let b = bind_ok (or_fault BadShape (as_array a.0)) (λ ds. each (λ i x. entry_in version x) 0 (list_of ds)) us a.2 in
    let at = array_is (codes "entries") d a.0 b.0 a.1 b.1 in (
      b.0,
      at,
      each_is (entry_in version) DataAscends (DescribesEntry version) (λ x u asc_x h. entry_is facts version x u asc_x h) 0 (list_of b.0) us
          (items_ascend b.0 (value_ascends (codes "entries") d asc (json.array b.0) at)) b.2,
    )

form_is : Facts → (version : MessageVersion) (d : Data) → DataAscends d → (p : Stated) → HasVersion d (number_of version) → shape version d ≡ done p → IsUpdates d p.0 p.1
form_is facts version d asc p there e =
    let a = bind_ok (demand BadShape (has_only update_keys d)) (λ keys. with_keys version d) p e in
    let k = bind_ok (or_fault BadShape (text_at (codes "kind") d)) (λ kind. with_kind version d kind) p a.2 in
    let u = bind_ok (demand BadShape (is_kind k.0)) (λ updating. with_updating version d) p k.2 in
    let s = bind_ok (or_fault BadShape (text_at (codes "schema") d)) (λ schema. with_schema version d schema) p u.2 in
    let n = bind_ok (entries_in version d) (λ us. Ok (s.0, us)) p s.2 in
    let h = entries_are facts version d asc n.0 n.1 in
    subst (λ (q : Stated). IsUpdates d q.0 q.1) (ok_is (s.0, n.0) p n.2) (record {
      version = version;
      kind = k.0;
      entries = h.0;
      is = exact_object ((codes "entries", json.array h.0) ∷ (codes "kind", json.string k.0) ∷ (codes "schema", json.string s.0) ∷ (codes "version", json.number (unsigned (number_of version))) ∷ []) d
          update_keys_ascend asc (passes BadShape (has_only update_keys d) a.0 a.1) (h.1, (text_is (codes "kind") d k.0 k.1, (text_is (codes "schema") d s.0 s.1, (there, tt))));
      is_kind = kind_is k.0 (passes BadShape (is_kind k.0) u.0 u.1);
      state = h.2;
    })

abbrev update_object : Items → List ℕ → List ℕ → MessageVersion → Data
update_object entries kind schema version = json.object (member (codes "entries") (json.array entries)
    (member (codes "kind") (json.string kind)
    (member (codes "schema") (json.string schema)
    (member (codes "version") (json.number (unsigned (number_of version))) no_members))))

shape_read : Facts → (version : MessageVersion) (entries : Items) (kind schema : List ℕ) (us : List Update) → (kind ≡ codes "state") ⊎ (kind ≡ codes "delta")
    → AllZip (DescribesEntry version) (list_of entries) us → shape version (update_object entries kind schema version) ≡ done (schema, us)
unfolding entries_in entries_by entries_of
shape_read facts version entries kind schema us is h =
    rw (is_the_kind kind is, is_each (entry_in version) (DescribesEntry version) (λ d u k. is_entry facts version d u k) 0 (list_of entries) us h) refl

is_form : Facts → (d : Data) (schema : List ℕ) (us : List Update) → IsUpdates d schema us → (version : MessageVersion) × HasVersion d (number_of version) × (shape version d ≡ done (schema, us))
is_form facts d schema us h =
    (h.version, ap (get (codes "version")) h.is, ap (shape h.version) h.is ∙ shape_read facts h.version h.entries h.kind schema us h.is_kind h.state)

only_entries : (version : MessageVersion) (d : Data) → Only BadShape (entries_in version d)
unfolding entries_in entries_by entries_of
only_entries version d =
    only_bind (or_fault BadShape (get (codes "entries") d)) (λ found. or_fault BadShape (as_array found) >>= λ ds. each (λ i x. entry_in version x) 0 (list_of ds)) (only_or BadShape (get (codes "entries") d)) (λ found.
    only_bind (or_fault BadShape (as_array found)) (λ ds. each (λ i x. entry_in version x) 0 (list_of ds)) (only_or BadShape (as_array found)) (λ ds.
    only_each BadShape (λ i x. entry_in version x) (λ i x. only_entry version x) 0 (list_of ds)))

only_form : (version : MessageVersion) (d : Data) → Only BadShape (shape version d)
only_form version d =
    only_bind (demand BadShape (has_only update_keys d)) (λ keys. with_keys version d) (only_demand BadShape (has_only update_keys d)) (λ keys.
    only_bind (or_fault BadShape (text_at (codes "kind") d)) (λ kind. with_kind version d kind) (only_or BadShape (text_at (codes "kind") d)) (λ kind.
    only_bind (demand BadShape (is_kind kind)) (λ updating. with_updating version d) (only_demand BadShape (is_kind kind)) (λ updating.
    only_bind (or_fault BadShape (text_at (codes "schema") d)) (λ schema. with_schema version d schema) (only_or BadShape (text_at (codes "schema") d)) (λ schema.
    only_bind (entries_in version d) (λ us. Ok (schema, us)) (only_entries version d) (λ us. only_ok BadShape (schema, us))))))

-- ---- the reading function reads the form, and then the schema

abbrev last_step : List ℕ → Stated → Read (List Update)
last_step label p = demand OtherSchema (bytes_eq p.0 label) >>= λ same. Ok p.1

by_entries : (label schema : List ℕ) (r : Read (List Update)) → (r >>= λ us. demand OtherSchema (bytes_eq schema label) >>= λ same. Ok us) ≡ ((r >>= λ us. done (schema, us)) >>= last_step label)
by_entries label schema (Ok us) = refl
by_entries label schema (Err f) = refl

by_schema : (label : List ℕ) (o : Read (List ℕ)) (r : Read (List Update))
    → (o >>= λ schema. r >>= λ us. demand OtherSchema (bytes_eq schema label) >>= λ same. Ok us) ≡ ((o >>= λ schema. r >>= λ us. done (schema, us)) >>= last_step label)
by_schema label (Ok schema) r = by_entries label schema r
by_schema label (Err f) r = refl

pub by_test : {A B : Type 0} (f : MessageFault) (b : Bool) (x : Read B) (y : Read A) (k : A → Read B) → x ≡ (y >>= k) → (demand f b >>= λ u. x) ≡ ((demand f b >>= λ u. y) >>= k)
by_test f true x y k e = e
by_test f false x y k e = refl

pub by_kind : {A B C : Type 0} (o : Read C) (test : C → Bool) (f : MessageFault) (x : Read B) (y : Read A) (k : A → Read B) → x ≡ (y >>= k)
    → (o >>= λ c. demand f (test c) >>= λ u. x) ≡ ((o >>= λ c. demand f (test c) >>= λ u. y) >>= k)
by_kind (Ok c) test f x y k e = by_test f (test c) x y k e
by_kind (Err g) test f x y k e = refl

by_step : (label : List ℕ) (version : MessageVersion) (d : Data) → updates_by (entries_in version) label d ≡ (shape version d >>= last_step label)
unfolding updates_by
by_step label version d =
    by_test BadShape (has_only update_keys d)
    (or_fault BadShape (text_at (codes "kind") d) >>= λ kind. demand BadShape (is_kind kind) >>= λ updating. or_fault BadShape (text_at (codes "schema") d) >>= λ schema. entries_in version d >>= λ us. demand OtherSchema (bytes_eq schema label) >>= λ same. Ok us)
    (with_keys version d) (last_step label)
    (by_kind (or_fault BadShape (text_at (codes "kind") d)) is_kind BadShape
    (or_fault BadShape (text_at (codes "schema") d) >>= λ schema. entries_in version d >>= λ us. demand OtherSchema (bytes_eq schema label) >>= λ same. Ok us)
    (with_updating version d) (last_step label)
    (by_schema label (or_fault BadShape (text_at (codes "schema") d)) (entries_in version d)))

pub bind_same : {A B : Type 0} (r : Read A) (f g : A → Read B) → ((x : A) → f x ≡ g x) → (r >>= f) ≡ (r >>= g)
bind_same (Ok x) f g e = e x
bind_same (Err h) f g e = refl

in_step : (label : List ℕ) (d : Data) → updates_in label d ≡ value_read IsUpdates shape label d
unfolding updates_in
in_step label d = bind_same (version_in d) (λ version. updates_by (entries_in version) label d) (λ version. shape version d >>= last_step label) (λ version. by_step label version d)

pub stated_step : (label bytes : List ℕ) → updates_stated label bytes ≡ form_read IsUpdates shape label bytes
unfolding updates_stated
stated_step label bytes = bind_same (or_fault NotJson (json_of bytes)) (λ d. updates_in label d) (λ d. value_read IsUpdates shape label d) (λ d. in_step label d)

-- ---- the theorems

module _ (facts : Facts) (ascends : JsonAscends) (label bytes : List ℕ) where
  reader : IsReader IsUpdates shape
  reader = record { form_is = form_is facts; is_form = is_form facts; only_form = only_form }

  updates_states : (us : List Update) → DescribesUpdates label bytes us → updates_stated label bytes ≡ done us
  updates_states us h = stated_step label bytes ∙ states IsUpdates shape reader ascends label bytes us h

  updates_refuses : (f : MessageFault) → RefusesUpdates label bytes f → updates_stated label bytes ≡ failed f
  updates_refuses f h = stated_step label bytes ∙ refuses IsUpdates shape reader ascends label bytes f h

  pub updates_given : Gives (updates_stated label bytes) (DescribesUpdates label bytes) (RefusesUpdates label bytes)
  updates_given =
      gives (updates_stated label bytes) (DescribesUpdates label bytes) (RefusesUpdates label bytes) updates_states updates_refuses (some_form IsUpdates shape reader ascends label bytes)

  pub updates_outcome : HasOneOutcome (DescribesUpdates label bytes) (RefusesUpdates label bytes)
  updates_outcome =
      one_outcome (updates_stated label bytes) (DescribesUpdates label bytes) (RefusesUpdates label bytes) updates_states updates_refuses (some_form IsUpdates shape reader ascends label bytes)

-- ---- version 2 as it is written

pub site_written : (version : MessageVersion) (d : Data) (site : List ℕ) → DescribesSite version d site → version ≡ Two → d ≡ json.string site
site_written version d site (says.by_number n h) e = absurd cc
site_written version d site (says.by_name s h) e = refl

pub name_written : (d : Data) (n : Name) → DescribesName d n → d ≡ name_json n
name_written d (name.Policy id) h = h
name_written d (name.Entity uid) h = h.0

entry_written : (version : MessageVersion) (d : Data) (u : Update) → version ≡ Two → DescribesEntry version d u → d ≡ entry_json u
entry_written version d u two h =
    h.is ∙ (λ i. entry_object (name_written h.name u.0 h.states_name i) (site_written version h.site u.1.site h.states_site two i) u)

entries_written : (version : MessageVersion) (ds : Items) (us : List Update) → version ≡ Two → AllZip (DescribesEntry version) (list_of ds) us → ds ≡ items_of (map entry_json us)
entries_written version no_items [] two h = refl
entries_written version no_items (u ∷ us) two h = absurd h
entries_written version (item d ds) [] two h = absurd h
entries_written version (item d ds) (u ∷ us) two h =
    let one = entry_written version d u two h.0 in
    let more = entries_written version ds us two h.1 in
    λ i. item (one i) (more i)

pub is_two : (version : MessageVersion) (d : Data) → HasVersion d (number_of version) → HasVersion d 2 → version ≡ Two
is_two Two d at there = refl
is_two One d at there = absurd (one_two (some_is (json.number (unsigned 1)) (json.number (unsigned 2)) (sym at ∙ there)))
  where
    apart : (m n : ℕ) → m ≡ 1 → n ≡ 2 → m ≡ n → ⊥
    apart m n one two same = absurd (omega arith)

    number_one : (m n : ℕ) → json.number (unsigned m) ≡ json.number (unsigned n) → m ≡ n
    number_one m n e = cc

    one_two : json.number (unsigned 1) ≡ json.number (unsigned 2) → ⊥
    one_two e = apart 1 2 refl refl (number_one 1 2 e)

whole_written : (label : List ℕ) (d : Data) (us : List Update) (h : IsUpdates d label us) → h.version ≡ Two → d ≡ message_json h.kind label us
whole_written label d us h two =
    let entries = entries_written h.version h.entries us two h.state in
    h.is ∙ (λ i. update_object (entries i) h.kind label (two i))

by_written : (label : List ℕ) (d : Data) (us : List Update) (kind : List ℕ) → d ≡ message_json kind label us → (kind ≡ codes "state") ⊎ (kind ≡ codes "delta")
    → (d ≡ message_json (codes "state") label us) ⊎ (d ≡ message_json (codes "delta") label us)
by_written label d us kind e (inl is) = inl (e ∙ ap (λ (k : List ℕ). message_json k label us) is)
by_written label d us kind e (inr is) = inr (e ∙ ap (λ (k : List ℕ). message_json k label us) is)

pub updates_written : Facts → JsonAscends → (label bytes : List ℕ) (d : Data) (us : List Update) → json_of bytes ≡ Some d → HasVersion d 2 → updates_stated label bytes ≡ Ok us
    → (d ≡ message_json (codes "state") label us) ⊎ (d ≡ message_json (codes "delta") label us)
updates_written facts ascends label bytes d us e two read =
    let h = ((updates_given facts ascends label bytes).value us).0 read in
    let same : h.value ≡ d = some_is h.value d (sym h.json ∙ e) in
    let form : IsUpdates d label us = subst (λ (x : Data). IsUpdates x label us) same h.form in
    by_written label d us form.kind (whole_written label d us form (is_two form.version d (ap (get (codes "version")) form.is) two)) form.is_kind
