-- The summary that bytes state.
use Rattle.std.proofs.Common.{◌≡◌, ◌∙◌, ℕ, List, [], ◌∷◌, map, Bool, true, false, Some, Ok, Err, refl, sym, ap, subst, inl, inr}
use Rattle.std.proofs.Common.{Ordering, Less, Equal, Greater}
use Rattle.std.specs.Prelude.{◌⊎◌, ◌&&◌, codes}
use Rattle.std.specs.List.{AllZip, AllByRecursion}
use Rattle.std.specs.List.Sorted.{IsStrictlySortedBy}
use Rattle.std.specs.Ordering.{is_lt}
use Rattle.std.specs.Str.{bytes_eq}
use Rattle.serde_json.specs.Data.{Data, Items, no_items, item, unsigned, no_members, member}
use Rattle.serde_json.specs.Data as json
use Rattle.serde_json.specs.Find.{get, as_array}
use Rattle.serde_json.specs.View.{items_of}
use Rattle.json_words.specs.Ascending.{Ascend, DataAscends, JsonAscends}
use Rattle.json_words.specs.Each.{each, list_of}
use Rattle.json_words.specs.Json.{json_of, text_at}
use Rattle.json_words.specs.Keys.{has_only}
use Rattle.json_words.specs.ReadsAs.{◌>>=◌, or_fault, demand}
use Rattle.json_words.proofs.EachLemmas.{bind_ok}
use Rattle.values.specs.declared.name.Name.{Name}
use Rattle.values.specs.Names.{name_cmp, name_cmp-IsTotalOrder}
use Rattle.stamped_store.specs.declared.entry.Stamp.{Stamp}
use Rattle.stamped_store.specs.Deltas.{Summary}
use Rattle.sync_format.specs.declared.version.MessageVersion.{MessageVersion}
use Rattle.sync_format.specs.declared.version.MessageVersion.TheVariants.{Two}
use Rattle.sync_format.specs.declared.fault.MessageFault.{MessageFault}
use Rattle.sync_format.specs.declared.fault.MessageFault.TheVariants.{NotJson, BadShape, OtherSchema}
use Rattle.sync_format.specs.Summaries.{ascend, stamp_json, summary_json, stamped_in, stamp_in, stamps_of, stamps_in, checked_stamp, version_in, summary_in, summary_stated}
use Rattle.validator.specs.schema.Agreement.{Gives, HasOneOutcome}
use Rattle.sync_messages.specs.MessageForms.{DescribesName, DescribesSite, HasVersion, number_of, DescribesForm, RefusesForm}
use Rattle.sync_messages.specs.StatedSummaries.{DescribesStamp, names_of, IsSummary, RefusesStamps, DescribesSummary, RefusesSummary}
use Rattle.sync_messages.specs.StatedSummaries as says
use Rattle.sync_messages.proofs.Steps.{done, failed, ok_is, some_is, passes, bytes_same, Only, only_ok, only_bind, only_demand, only_or, only_each}
use Rattle.sync_messages.proofs.Exact.{exact_object, value_ascends, items_ascend}
use Rattle.sync_messages.proofs.Parts.{Read, Facts, left, right, text_is, array_is, HasParts, parts_are, are_parts, only_parts, each_is, is_each}
use Rattle.sync_messages.proofs.FormsRead.{IsReader, value_read, form_read, states, refuses, some_form}
use Rattle.sync_messages.proofs.Ranges.{all_pass, first_fails, stamps_outcome}
use Rattle.sync_messages.proofs.OneOutcome.{gives, one_outcome}
use Rattle.sync_messages.proofs.UpdatesRead.{by_test, by_kind, is_two, site_written, name_written}

-- ---- names that ascend

less : (o : Ordering) → is_lt o ≡ true → o ≡ Less
less Less h = refl
less Equal h = absurd cc
less Greater h = absurd cc

above_all : (a b : Name) (ns : List Name) → name_cmp a b ≡ Less → AllByRecursion (λ n. name_cmp b n ≡ Less) ns → AllByRecursion (λ n. name_cmp a n ≡ Less) ns
above_all a b [] lt h = tt
above_all a b (n ∷ ns) lt h = (name_cmp-IsTotalOrder.trans a b n lt h.0, above_all a b ns lt h.1)

both : (a b : Bool) → a ≡ true → b ≡ true → (a && b) ≡ true
both true b p q = q
both false b p q = absurd cc

next_ascends : (a b : Name) (ns : List Name) → name_cmp a b ≡ Less → IsStrictlySortedBy name_cmp (b ∷ ns) → IsStrictlySortedBy name_cmp (a ∷ b ∷ ns)
unfolding IsStrictlySortedBy
next_ascends a b ns lt h = ((lt, above_all a b ns lt h.0), h)

one_ascends : (a : Name) → IsStrictlySortedBy name_cmp (a ∷ [])
unfolding IsStrictlySortedBy
one_ascends a = (tt, tt)

none_ascend : IsStrictlySortedBy name_cmp []
unfolding IsStrictlySortedBy
none_ascend = tt

first_two : (a b : Name) (ns : List Name) → IsStrictlySortedBy name_cmp (a ∷ b ∷ ns) → (name_cmp a b ≡ Less) × IsStrictlySortedBy name_cmp (b ∷ ns)
unfolding IsStrictlySortedBy
first_two a b ns h = (h.0.0, h.1)

ascend_is : (m : Summary) → ascend m ≡ true → IsStrictlySortedBy name_cmp (names_of m)
ascend_is [] e = none_ascend
ascend_is (a ∷ []) e = one_ascends a.0
ascend_is (a ∷ b ∷ m) e =
    next_ascends a.0 b.0 (names_of m) (less (name_cmp a.0 b.0) (left (is_lt (name_cmp a.0 b.0)) (ascend (b ∷ m)) e))
    (ascend_is (b ∷ m) (right (is_lt (name_cmp a.0 b.0)) (ascend (b ∷ m)) e))

is_ascend : (m : Summary) → IsStrictlySortedBy name_cmp (names_of m) → ascend m ≡ true
is_ascend [] h = refl
is_ascend (a ∷ []) h = refl
is_ascend (a ∷ b ∷ m) h =
    let two = first_two a.0 b.0 (names_of m) h in
    both (is_lt (name_cmp a.0 b.0)) (ascend (b ∷ m)) (ap is_lt two.0) (is_ascend (b ∷ m) two.1)

-- ---- stamps

abbrev stamp_keys : List (List ℕ)
stamp_keys = codes "count" ∷ codes "name" ∷ codes "site" ∷ []

stamp_keys_ascend : Ascend stamp_keys
unfolding IsStrictlySortedBy
stamp_keys_ascend = ((refl, (refl, tt)), ((refl, tt), (tt, tt)))

stamp_is : Facts → (version : MessageVersion) (d : Data) (u : Name × Stamp) → DataAscends d → stamp_in version d ≡ done u → DescribesStamp version d u
unfolding stamp_in
stamp_is facts version d u asc e =
    let a = bind_ok (demand BadShape (has_only stamp_keys d)) (λ shape. stamped_in version d) u e in
    let h = parts_are facts version d asc u a.2 in
    record {
      name = h.name;
      site = h.site;
      is = exact_object ((codes "count", json.number (unsigned u.1.count)) ∷ (codes "name", h.name) ∷ (codes "site", h.site) ∷ []) d stamp_keys_ascend asc
          (passes BadShape (has_only stamp_keys d) a.0 a.1) (h.at_count, (h.at_name, (h.at_site, tt)));
      states_name = h.states_name;
      states_site = h.states_site;
    }

abbrev stamp_object : Data → Data → Name × Stamp → Data
stamp_object name site u = json.object (member (codes "count") (json.number (unsigned u.1.count))
    (member (codes "name") name
    (member (codes "site") site no_members)))

object_read : Facts → (version : MessageVersion) (name site : Data) (u : Name × Stamp) → DescribesName name u.0 → DescribesSite version site u.1.site → stamp_in version (stamp_object name site u) ≡ done u
unfolding stamp_in
object_read facts version name site u named sited =
    let parts : HasParts version (stamp_object name site u) u = record { name = name; site = site; at_count = refl; at_name = refl; at_site = refl; states_name = named; states_site = sited } in
    are_parts facts version (stamp_object name site u) u parts

is_stamp : Facts → (version : MessageVersion) (d : Data) (u : Name × Stamp) → DescribesStamp version d u → stamp_in version d ≡ done u
is_stamp facts version d u h = ap (stamp_in version) h.is ∙ object_read facts version h.name h.site u h.states_name h.states_site

only_stamp : (version : MessageVersion) (d : Data) → Only BadShape (stamp_in version d)
unfolding stamp_in
only_stamp version d = only_bind (demand BadShape (has_only stamp_keys d)) (λ shape. stamped_in version d) (only_demand BadShape (has_only stamp_keys d)) (λ shape. only_parts version d)

-- ---- the whole form

abbrev summary_keys : List (List ℕ)
summary_keys = codes "kind" ∷ codes "schema" ∷ codes "stamps" ∷ codes "version" ∷ []

summary_keys_ascend : Ascend summary_keys
unfolding IsStrictlySortedBy
summary_keys_ascend = ((refl, (refl, (refl, tt))), ((refl, (refl, tt)), ((refl, tt), (tt, tt))))

abbrev is_summary_kind : List ℕ → Bool
is_summary_kind kind = bytes_eq kind (codes "summary")

abbrev Stated : Type 0
Stated = List ℕ × Summary

abbrev with_schema : MessageVersion → Data → List ℕ → Read Stated
with_schema version d schema = stamps_in version d >>= λ m. Ok (schema, m)

abbrev with_summary : MessageVersion → Data → Read Stated
with_summary version d = or_fault BadShape (text_at (codes "schema") d) >>= λ schema. with_schema version d schema

abbrev with_kind : MessageVersion → Data → List ℕ → Read Stated
with_kind version d kind = demand BadShape (is_summary_kind kind) >>= λ summary. with_summary version d

abbrev with_keys : MessageVersion → Data → Read Stated
with_keys version d = or_fault BadShape (text_at (codes "kind") d) >>= λ kind. with_kind version d kind

abbrev pub shape : MessageVersion → Data → Read Stated
shape version d = demand BadShape (has_only summary_keys d) >>= λ keys. with_keys version d

abbrev with_stamps : Summary → Read Summary
with_stamps m = demand BadShape (ascend m) >>= λ up. Ok m

abbrev with_items : MessageVersion → Items → Read Summary
with_items version ds = each (λ i x. stamp_in version x) 0 (list_of ds) >>= λ m. with_stamps m

record AreStamps (version : MessageVersion) (d : Data) (m : Summary) : Type 0 where
  items : Items
  at : get (codes "stamps") d ≡ Some (json.array items)
  state : AllZip (DescribesStamp version) (list_of items) m
  up : ascend m ≡ true

stamps_are : Facts → (version : MessageVersion) (d : Data) → DataAscends d → (m : Summary) → stamps_in version d ≡ done m → AreStamps version d m
unfolding stamps_in stamps_of
stamps_are facts version d asc m e =
    let a = bind_ok (or_fault BadShape (get (codes "stamps") d)) (λ found. or_fault BadShape (as_array found) >>= λ ds. with_items version ds) m e in
    let b = bind_ok (or_fault BadShape (as_array a.0)) (λ ds. with_items version ds) m a.2 in
    let c = bind_ok (each (λ i x. stamp_in version x) 0 (list_of b.0)) (λ n. with_stamps n) m b.2 in
    let u = bind_ok (demand BadShape (ascend c.0)) (λ up. done c.0) m c.2 in
    let there = array_is (codes "stamps") d a.0 b.0 a.1 b.1 in
    subst (AreStamps version d) (ok_is c.0 m u.2) (record {
      items = b.0;
      at = there;
      state = each_is (stamp_in version) DataAscends (DescribesStamp version) (λ x v asc_x h. stamp_is facts version x v asc_x h) 0 (list_of b.0) c.0
          (items_ascend b.0 (value_ascends (codes "stamps") d asc (json.array b.0) there)) c.1;
      up = passes BadShape (ascend c.0) u.0 u.1;
    })

form_is : Facts → (version : MessageVersion) (d : Data) → DataAscends d → (p : Stated) → HasVersion d (number_of version) → shape version d ≡ done p → IsSummary d p.0 p.1
form_is facts version d asc p there e =
    let a = bind_ok (demand BadShape (has_only summary_keys d)) (λ keys. with_keys version d) p e in
    let k = bind_ok (or_fault BadShape (text_at (codes "kind") d)) (λ kind. with_kind version d kind) p a.2 in
    let u = bind_ok (demand BadShape (is_summary_kind k.0)) (λ summary. with_summary version d) p k.2 in
    let s = bind_ok (or_fault BadShape (text_at (codes "schema") d)) (λ schema. with_schema version d schema) p u.2 in
    let n = bind_ok (stamps_in version d) (λ m. Ok (s.0, m)) p s.2 in
    let h = stamps_are facts version d asc n.0 n.1 in
    let kind : k.0 ≡ codes "summary" = bytes_same k.0 (codes "summary") (passes BadShape (is_summary_kind k.0) u.0 u.1) in
    subst (λ (q : Stated). IsSummary d q.0 q.1) (ok_is (s.0, n.0) p n.2) (record {
      version = version;
      stamps = h.items;
      is = exact_object ((codes "kind", json.string (codes "summary")) ∷ (codes "schema", json.string s.0) ∷ (codes "stamps", json.array h.items) ∷ (codes "version", json.number (unsigned (number_of version))) ∷ []) d
          summary_keys_ascend asc (passes BadShape (has_only summary_keys d) a.0 a.1)
          (text_is (codes "kind") d k.0 k.1 ∙ ap (λ (x : List ℕ). Some (json.string x)) kind, (text_is (codes "schema") d s.0 s.1, (h.at, (there, tt))));
      state = h.state;
      ascend = ascend_is n.0 h.up;
    })

abbrev summary_object : List ℕ → Items → MessageVersion → Data
summary_object schema stamps version = json.object (member (codes "kind") (json.string (codes "summary"))
    (member (codes "schema") (json.string schema)
    (member (codes "stamps") (json.array stamps)
    (member (codes "version") (json.number (unsigned (number_of version))) no_members))))

shape_read : Facts → (version : MessageVersion) (schema : List ℕ) (stamps : Items) (m : Summary) → AllZip (DescribesStamp version) (list_of stamps) m → ascend m ≡ true
    → shape version (summary_object schema stamps version) ≡ done (schema, m)
unfolding stamps_in stamps_of
shape_read facts version schema stamps m h up =
    rw (is_each (stamp_in version) (DescribesStamp version) (λ d u k. is_stamp facts version d u k) 0 (list_of stamps) m h, up) refl

is_form : Facts → (d : Data) (schema : List ℕ) (m : Summary) → IsSummary d schema m → (version : MessageVersion) × HasVersion d (number_of version) × (shape version d ≡ done (schema, m))
is_form facts d schema m h =
    (h.version, ap (get (codes "version")) h.is, ap (shape h.version) h.is ∙ shape_read facts h.version schema h.stamps m h.state (is_ascend m h.ascend))

only_stamps : (version : MessageVersion) (d : Data) → Only BadShape (stamps_in version d)
unfolding stamps_in stamps_of
only_stamps version d =
    only_bind (or_fault BadShape (get (codes "stamps") d)) (λ found. or_fault BadShape (as_array found) >>= λ ds. with_items version ds) (only_or BadShape (get (codes "stamps") d)) (λ found.
    only_bind (or_fault BadShape (as_array found)) (λ ds. with_items version ds) (only_or BadShape (as_array found)) (λ ds.
    only_bind (each (λ i x. stamp_in version x) 0 (list_of ds)) (λ m. with_stamps m) (only_each BadShape (λ i x. stamp_in version x) (λ i x. only_stamp version x) 0 (list_of ds)) (λ m.
    only_bind (demand BadShape (ascend m)) (λ up. done m) (only_demand BadShape (ascend m)) (λ up. only_ok BadShape m))))

only_form : (version : MessageVersion) (d : Data) → Only BadShape (shape version d)
only_form version d =
    only_bind (demand BadShape (has_only summary_keys d)) (λ keys. with_keys version d) (only_demand BadShape (has_only summary_keys d)) (λ keys.
    only_bind (or_fault BadShape (text_at (codes "kind") d)) (λ kind. with_kind version d kind) (only_or BadShape (text_at (codes "kind") d)) (λ kind.
    only_bind (demand BadShape (is_summary_kind kind)) (λ summary. with_summary version d) (only_demand BadShape (is_summary_kind kind)) (λ summary.
    only_bind (or_fault BadShape (text_at (codes "schema") d)) (λ schema. with_schema version d schema) (only_or BadShape (text_at (codes "schema") d)) (λ schema.
    only_bind (stamps_in version d) (λ m. Ok (schema, m)) (only_stamps version d) (λ m. only_ok BadShape (schema, m))))))

-- ---- the reading function reads the form, then the schema, and then checks the ranges

abbrev last_step : List ℕ → Stated → Read Summary
last_step label p = demand OtherSchema (bytes_eq p.0 label) >>= λ same. each checked_stamp 0 p.1

by_stamps : (label schema : List ℕ) (r : Read Summary) → (r >>= λ m. demand OtherSchema (bytes_eq schema label) >>= λ same. each checked_stamp 0 m) ≡ ((r >>= λ m. done (schema, m)) >>= last_step label)
by_stamps label schema (Ok m) = refl
by_stamps label schema (Err f) = refl

by_schema : (label : List ℕ) (o : Read (List ℕ)) (r : Read Summary)
    → (o >>= λ schema. r >>= λ m. demand OtherSchema (bytes_eq schema label) >>= λ same. each checked_stamp 0 m) ≡ ((o >>= λ schema. r >>= λ m. done (schema, m)) >>= last_step label)
by_schema label (Ok schema) r = by_stamps label schema r
by_schema label (Err f) r = refl

abbrev rest_read : List ℕ → MessageVersion → Data → Read Summary
rest_read label version d = or_fault BadShape (text_at (codes "schema") d) >>= λ schema. stamps_in version d >>= λ m. demand OtherSchema (bytes_eq schema label) >>= λ same. each checked_stamp 0 m

abbrev kind_read : List ℕ → MessageVersion → Data → Read Summary
kind_read label version d = or_fault BadShape (text_at (codes "kind") d) >>= λ kind. demand BadShape (is_summary_kind kind) >>= λ summary. rest_read label version d

by_step : (label : List ℕ) (version : MessageVersion) (d : Data) → (demand BadShape (has_only summary_keys d) >>= λ keys. kind_read label version d) ≡ (shape version d >>= last_step label)
by_step label version d =
    by_test BadShape (has_only summary_keys d) (kind_read label version d) (with_keys version d) (last_step label)
    (by_kind (or_fault BadShape (text_at (codes "kind") d)) is_summary_kind BadShape (rest_read label version d) (with_summary version d) (last_step label)
    (by_schema label (or_fault BadShape (text_at (codes "schema") d)) (stamps_in version d)))

split_test : (b : Bool) (m : Summary) → (demand OtherSchema b >>= λ same. each checked_stamp 0 m) ≡ ((demand OtherSchema b >>= λ same. done m) >>= λ n. each checked_stamp 0 n)
split_test true m = refl
split_test false m = refl

split : (label : List ℕ) (r : Read Stated) → (r >>= last_step label) ≡ ((r >>= λ p. demand OtherSchema (bytes_eq p.0 label) >>= λ same. Ok p.1) >>= λ m. each checked_stamp 0 m)
split label (Ok p) = split_test (bytes_eq p.0 label) p.1
split label (Err f) = refl

split_bind : {A B C : Type 0} (r : Read A) (f : A → Read B) (g : A → Read C) (k : C → Read B) → ((x : A) → f x ≡ (g x >>= k)) → (r >>= f) ≡ ((r >>= g) >>= k)
split_bind (Ok x) f g k e = e x
split_bind (Err h) f g k e = refl

in_step : (label : List ℕ) (d : Data) → summary_in label d ≡ (value_read IsSummary shape label d >>= λ m. each checked_stamp 0 m)
unfolding summary_in
in_step label d =
    split_bind (version_in d) (λ version. demand BadShape (has_only summary_keys d) >>= λ keys. kind_read label version d)
    (λ version. shape version d >>= λ p. demand OtherSchema (bytes_eq p.0 label) >>= λ same. Ok p.1) (λ m. each checked_stamp 0 m)
    (λ version. by_step label version d ∙ split label (shape version d))

stated_step : (label bytes : List ℕ) → summary_stated label bytes ≡ (form_read IsSummary shape label bytes >>= λ m. each checked_stamp 0 m)
unfolding summary_stated
stated_step label bytes =
    split_bind (or_fault NotJson (json_of bytes)) (λ d. summary_in label d) (λ d. value_read IsSummary shape label d) (λ m. each checked_stamp 0 m) (λ d. in_step label d)

-- ---- the theorems

module _ (facts : Facts) (ascends : JsonAscends) (label bytes : List ℕ) where
  reader : IsReader IsSummary shape
  reader = record { form_is = form_is facts; is_form = is_form facts; only_form = only_form }

  after : (r : Read Summary) → form_read IsSummary shape label bytes ≡ r → summary_stated label bytes ≡ (r >>= λ m. each checked_stamp 0 m)
  after r e = stated_step label bytes ∙ ap (λ (x : Read Summary). x >>= λ m. each checked_stamp 0 m) e

  summary_states : (m : Summary) → DescribesSummary label bytes m → summary_stated label bytes ≡ done m
  summary_states m h = after (done m) (states IsSummary shape reader ascends label bytes m h.states) ∙ all_pass 0 m h.fit

  summary_refuses : (f : MessageFault) → RefusesSummary label bytes f → summary_stated label bytes ≡ failed f
  summary_refuses f (says.no_summary g h) = after (failed g) (refuses IsSummary shape reader ascends label bytes g h)
  summary_refuses f (says.bad_stamps m g h bad) = after (done m) (states IsSummary shape reader ascends label bytes m h) ∙ first_fails 0 m g bad

  abbrev Outcome : Type 0
  Outcome = ((m : Summary) × DescribesSummary label bytes m) ⊎ ((f : MessageFault) × RefusesSummary label bytes f)

  by_ranges : (m : Summary) → DescribesForm IsSummary label bytes m → AllByRecursion says.Fits m ⊎ ((f : MessageFault) × RefusesStamps 0 m f) → Outcome
  by_ranges m h (inl fit) = inl (m, record { states = h; fit = fit })
  by_ranges m h (inr bad) = inr (bad.0, says.bad_stamps m bad.0 h bad.1)

  by_form : ((m : Summary) × DescribesForm IsSummary label bytes m) ⊎ ((f : MessageFault) × RefusesForm IsSummary label bytes f) → Outcome
  by_form (inl h) = by_ranges h.0 h.1 (stamps_outcome 0 h.0)
  by_form (inr h) = inr (h.0, says.no_summary h.0 h.1)

  some_summary : Outcome
  some_summary = by_form (some_form IsSummary shape reader ascends label bytes)

  pub summary_given : Gives (summary_stated label bytes) (DescribesSummary label bytes) (RefusesSummary label bytes)
  summary_given = gives (summary_stated label bytes) (DescribesSummary label bytes) (RefusesSummary label bytes) summary_states summary_refuses some_summary

  pub summary_outcome : HasOneOutcome (DescribesSummary label bytes) (RefusesSummary label bytes)
  summary_outcome = one_outcome (summary_stated label bytes) (DescribesSummary label bytes) (RefusesSummary label bytes) summary_states summary_refuses some_summary

-- ---- version 2 as it is written

stamp_written : (version : MessageVersion) (d : Data) (u : Name × Stamp) → version ≡ Two → DescribesStamp version d u → d ≡ stamp_json u
stamp_written version d u two h =
    h.is ∙ (λ i. stamp_object (name_written h.name u.0 h.states_name i) (site_written version h.site u.1.site h.states_site two i) u)

stamps_written : (version : MessageVersion) (ds : Items) (m : Summary) → version ≡ Two → AllZip (DescribesStamp version) (list_of ds) m → ds ≡ items_of (map stamp_json m)
stamps_written version no_items [] two h = refl
stamps_written version no_items (u ∷ m) two h = absurd h
stamps_written version (item d ds) [] two h = absurd h
stamps_written version (item d ds) (u ∷ m) two h =
    let one = stamp_written version d u two h.0 in
    let more = stamps_written version ds m two h.1 in
    λ i. item (one i) (more i)

whole_written : (label : List ℕ) (d : Data) (m : Summary) (h : IsSummary d label m) → h.version ≡ Two → d ≡ summary_json label m
whole_written label d m h two =
    let stamps = stamps_written h.version h.stamps m two h.state in
    h.is ∙ (λ i. summary_object label (stamps i) (two i))

pub summary_written : Facts → JsonAscends → (label bytes : List ℕ) (d : Data) (m : Summary) → json_of bytes ≡ Some d → HasVersion d 2 → summary_stated label bytes ≡ Ok m → d ≡ summary_json label m
summary_written facts ascends label bytes d m e two read =
    let h = (((summary_given facts ascends label bytes).value m).0 read).states in
    let same : h.value ≡ d = some_is h.value d (sym h.json ∙ e) in
    let form : IsSummary d label m = subst (λ (x : Data). IsSummary x label m) same h.form in
    whole_written label d m form (is_two form.version d (ap (get (codes "version")) form.is) two)
