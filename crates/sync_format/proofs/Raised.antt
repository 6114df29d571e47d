-- A message of version 1 is read as the raise of what it states with the numbers of sites.
use Rattle.std.proofs.Common.{◌≡◌, ◌∙◌, ℕ, suc, List, [], ◌∷◌, Option, Some, Result, Ok, Err, refl, sym, ap, subst}
use Rattle.std.specs.Prelude.{codes}
use Rattle.std.specs.Str.{bytes_eq}
use Rattle.serde_json.specs.Data.{Data, Items}
use Rattle.serde_json.specs.Find.{get, as_array}
use Rattle.json_words.specs.Each.{each, list_of}
use Rattle.json_words.specs.ReadsAs.{◌>>=◌, or_fault, demand}
use Rattle.json_words.specs.Json.{json_of, text_at}
use Rattle.json_words.specs.Keys.{has_only}
use Rattle.json_words.proofs.EachLemmas.{bind_ok}
use Rattle.values.specs.declared.name.Name.{Name}
use Rattle.stamped_store.specs.declared.entry.Stamp.{Stamp}
use Rattle.stamped_store.specs.Store.{Update, issued}
use Rattle.stamped_store.specs.Raised.{NumberedUpdate, IsSiteNumber, HaveSiteNumbers, raise_update, raise}
use Rattle.sync_format.specs.declared.fault.MessageFault.{MessageFault}
use Rattle.sync_format.specs.declared.fault.MessageFault.TheVariants.{BadShape, OtherSchema}
use Rattle.sync_format.specs.declared.version.MessageVersion.TheVariants.{One}
use Rattle.sync_format.specs.Summaries.{number_at, version_in, numbered_in, stamped_by, stamped_in}
use Rattle.sync_format.specs.NumberedSummaries.{NumberedStamp, raise_stamp}
use Rattle.sync_format.proofs.RaisedSummaries.{map_read, stamped_raised, stamped_number}
use Rattle.sync_format.specs.Messages.{body_in, entry_by, entry_in, entries_of, entries_by, entries_in, is_kind}
use Rattle.sync_format.specs.Messages.{updates_by, updates_in, updates_stated}
use Rattle.sync_format.specs.Numbered.{numbered_entry, numbered_entry_in, numbered_entries_in, IsVersion1Message}
use Rattle.sync_format.proofs.Found.{are_entries}

abbrev Read : Type 0 → Type 0
Read A = Result A MessageFault

abbrev read : {A : Type 0} → A → Read A
read x = Ok x

read_is : {A : Type 0} (x y : A) → read x ≡ read y → x ≡ y
read_is x y h = cc

-- ---- an entry
abbrev made : Option (List ℕ) → Name × Stamp → Read Update
made body u = read (u.0, issued u.1 body)

abbrev numbered : Option (List ℕ) → NumberedStamp → Read NumberedUpdate
numbered body u = read (u.0, numbered_entry u.1 body)

by_stamp : (r : Read NumberedStamp) (body : Option (List ℕ)) → (map_read raise_stamp r >>= made body) ≡ map_read raise_update (r >>= numbered body)
by_stamp (Ok u) body = refl
by_stamp (Err f) body = refl

by_body : (b : Read (Option (List ℕ))) (s : Read (Name × Stamp)) (r : Read NumberedStamp) → s ≡ map_read raise_stamp r
    → (b >>= λ body. s >>= made body) ≡ map_read raise_update (b >>= λ body. r >>= numbered body)
by_body (Ok body) s r same = ap (λ (x : Read (Name × Stamp)). x >>= made body) same ∙ by_stamp r body
by_body (Err f) s r same = refl

by_text : (t : Read Data) (s : Read (Name × Stamp)) (r : Read NumberedStamp) → s ≡ map_read raise_stamp r
    → (t >>= λ text. body_in text >>= λ body. s >>= made body) ≡ map_read raise_update (t >>= λ text. body_in text >>= λ body. r >>= numbered body)
by_text (Ok text) s r same = by_body (body_in text) s r same
by_text (Err f) s r same = refl

then_raised : {A B C : Type 0} (k : B → C) (a : Read A) (f : Read C) (g : Read B) → f ≡ map_read k g → (a >>= λ x. f) ≡ map_read k (a >>= λ x. g)
then_raised k (Ok x) f g same = same
then_raised k (Err e) f g same = refl

entry_raised : (d : Data) → entry_in One d ≡ map_read raise_update (numbered_entry_in d)
unfolding entry_in entry_by numbered_entry_in
entry_raised d =
    let text = or_fault BadShape (get (codes "body") d) in
    then_raised raise_update (demand BadShape (has_only (codes "body" ∷ codes "count" ∷ codes "name" ∷ codes "site" ∷ []) d))
    (text >>= λ found. body_in found >>= λ body. stamped_in One d >>= made body) (text >>= λ found. body_in found >>= λ body. stamped_by numbered_in d >>= numbered body)
    (by_text text (stamped_in One d) (stamped_by numbered_in d) (stamped_raised d))

-- ---- all entries
by_rest : (u : NumberedUpdate) (rest : Read (List Update)) (rs : Read (List NumberedUpdate)) → rest ≡ map_read raise rs
    → (rest >>= λ us. read (raise_update u ∷ us)) ≡ map_read raise (rs >>= λ us. read (u ∷ us))
by_rest u rest (Ok us) h = ap (λ (r : Read (List Update)). r >>= λ vs. read (raise_update u ∷ vs)) h
by_rest u rest (Err f) h = ap (λ (r : Read (List Update)). r >>= λ vs. read (raise_update u ∷ vs)) h

by_first : (one : Read Update) (r : Read NumberedUpdate) (rest : Read (List Update)) (rs : Read (List NumberedUpdate)) → one ≡ map_read raise_update r → rest ≡ map_read raise rs
    → (one >>= λ u. rest >>= λ us. read (u ∷ us)) ≡ map_read raise (r >>= λ u. rs >>= λ us. read (u ∷ us))
by_first one (Ok u) rest rs is more = ap (λ (o : Read Update). o >>= λ v. rest >>= λ us. read (v ∷ us)) is ∙ by_rest u rest rs more
by_first one (Err f) rest rs is more = ap (λ (o : Read Update). o >>= λ v. rest >>= λ us. read (v ∷ us)) is

each_raised : (k : ℕ) (ds : List Data) → each (λ i d. entry_in One d) k ds ≡ map_read raise (each (λ i d. numbered_entry_in d) k ds)
unfolding each
each_raised k [] = refl
each_raised k (d ∷ ds) = by_first (entry_in One d) (numbered_entry_in d) (each (λ i x. entry_in One x) (suc k) ds) (each (λ i x. numbered_entry_in x) (suc k) ds) (entry_raised d) (each_raised (suc k) ds)

by_list : (l : Read Items) → (l >>= λ ds. each (λ i d. entry_in One d) 0 (list_of ds)) ≡ map_read raise (l >>= λ ds. each (λ i d. numbered_entry_in d) 0 (list_of ds))
by_list (Ok ds) = each_raised 0 (list_of ds)
by_list (Err f) = refl

by_key : (a : Read Data)
    → (a >>= λ found. or_fault BadShape (as_array found) >>= λ ds. each (λ i d. entry_in One d) 0 (list_of ds))
    ≡ map_read raise (a >>= λ found. or_fault BadShape (as_array found) >>= λ ds. each (λ i d. numbered_entry_in d) 0 (list_of ds))
by_key (Ok found) = by_list (or_fault BadShape (as_array found))
by_key (Err f) = refl

entries_raised : (d : Data) → entries_in One d ≡ map_read raise (numbered_entries_in d)
unfolding entries_in entries_by entries_of numbered_entries_in
entries_raised d = by_key (or_fault BadShape (get (codes "entries") d))

-- ---- the whole
by_schema : (o : Read (List Update)) (r : Read (List NumberedUpdate)) (label schema : List ℕ) → o ≡ map_read raise r
    → (o >>= λ us. demand OtherSchema (bytes_eq schema label) >>= λ same. read us) ≡ map_read raise (r >>= λ us. demand OtherSchema (bytes_eq schema label) >>= λ same. read us)
by_schema o (Ok ns) label schema h =
    ap (λ (x : Read (List Update)). x >>= λ us. demand OtherSchema (bytes_eq schema label) >>= λ same. read us) h
    ∙ then_raised raise (demand OtherSchema (bytes_eq schema label)) (read (raise ns)) (read ns) refl
by_schema o (Err f) label schema h = ap (λ (x : Read (List Update)). x >>= λ us. demand OtherSchema (bytes_eq schema label) >>= λ same. read us) h

by_label : (s : Read (List ℕ)) (o : Read (List Update)) (r : Read (List NumberedUpdate)) (label : List ℕ) → o ≡ map_read raise r
    → (s >>= λ schema. o >>= λ us. demand OtherSchema (bytes_eq schema label) >>= λ same. read us)
    ≡ map_read raise (s >>= λ schema. r >>= λ us. demand OtherSchema (bytes_eq schema label) >>= λ same. read us)
by_label (Ok schema) o r label h = by_schema o r label schema h
by_label (Err f) o r label h = refl

by_kind : (k s : Read (List ℕ)) (o : Read (List Update)) (r : Read (List NumberedUpdate)) (label : List ℕ) → o ≡ map_read raise r
    → (k >>= λ kind. demand BadShape (is_kind kind) >>= λ updating. s >>= λ schema. o >>= λ us. demand OtherSchema (bytes_eq schema label) >>= λ same. read us)
    ≡ map_read raise (k >>= λ kind. demand BadShape (is_kind kind) >>= λ updating. s >>= λ schema. r >>= λ us. demand OtherSchema (bytes_eq schema label) >>= λ same. read us)
by_kind (Ok kind) s o r label h =
    then_raised raise (demand BadShape (is_kind kind)) (s >>= λ schema. o >>= λ us. demand OtherSchema (bytes_eq schema label) >>= λ same. read us)
    (s >>= λ schema. r >>= λ us. demand OtherSchema (bytes_eq schema label) >>= λ same. read us) (by_label s o r label h)
by_kind (Err f) s o r label h = refl

behind_version : (label : List ℕ) (d : Data) → updates_by (entries_in One) label d ≡ map_read raise (updates_by numbered_entries_in label d)
unfolding updates_by
behind_version label d =
    let kind = or_fault BadShape (text_at (codes "kind") d) in
    let schema = or_fault BadShape (text_at (codes "schema") d) in
    then_raised raise (demand BadShape (has_only (codes "entries" ∷ codes "kind" ∷ codes "schema" ∷ codes "version" ∷ []) d))
    (kind >>= λ k. demand BadShape (is_kind k) >>= λ updating. schema >>= λ s. entries_in One d >>= λ us. demand OtherSchema (bytes_eq s label) >>= λ same. read us)
    (kind >>= λ k. demand BadShape (is_kind k) >>= λ updating. schema >>= λ s. numbered_entries_in d >>= λ us. demand OtherSchema (bytes_eq s label) >>= λ same. read us)
    (by_kind kind schema (entries_in One d) (numbered_entries_in d) label (entries_raised d))

version_one : (d : Data) → number_at (codes "version") d ≡ Ok 1 → version_in d ≡ Ok One
unfolding version_in
version_one d h = rw h refl

value_raised : (label : List ℕ) (d : Data) → number_at (codes "version") d ≡ Ok 1 → updates_in label d ≡ map_read raise (updates_by numbered_entries_in label d)
unfolding updates_in
value_raised label d h = rw (version_one d h) (behind_version label d)

stated_raised : (label bytes : List ℕ) (d : Data) → json_of bytes ≡ Some d → number_at (codes "version") d ≡ Ok 1
    → updates_stated label bytes ≡ map_read raise (updates_by numbered_entries_in label d)
unfolding updates_stated
stated_raised label bytes d json h = rw json (value_raised label d h)

-- a message of version 1 is read as the raise of its updates
pub message_raised : (label bytes : List ℕ) (ns : List NumberedUpdate) → IsVersion1Message label bytes ns → updates_stated label bytes ≡ Ok (raise ns)
message_raised label bytes ns h = stated_raised label bytes h.value h.json h.version ∙ ap (map_read raise) h.stated

was_read : (r : Read (List NumberedUpdate)) (us : List Update) → map_read raise r ≡ read us → (ns : List NumberedUpdate) × (r ≡ read ns)
was_read (Ok ns) us h = (ns, refl)
was_read (Err f) us h = absurd cc

-- and a message that is read as version 1 is one
pub message_numbered : (label bytes : List ℕ) (d : Data) (us : List Update) → json_of bytes ≡ Some d → number_at (codes "version") d ≡ Ok 1 → updates_stated label bytes ≡ Ok us
    → (ns : List NumberedUpdate) × IsVersion1Message label bytes ns
message_numbered label bytes d us json version e =
    let found = was_read (updates_by numbered_entries_in label d) us (sym (stated_raised label bytes d json version) ∙ e) in
    (found.0, record { value = d; json = json; version = version; stated = found.1 })

pub read_raised : (label bytes : List ℕ) (us : List Update) (ns : List NumberedUpdate) → updates_stated label bytes ≡ Ok us → updates_stated label bytes ≡ Ok (raise ns) → us ≡ raise ns
read_raised label bytes us ns e h = read_is us (raise ns) (sym e ∙ h)

-- ---- its numbers are ones that sites had
abbrev of_body : Data → Option (List ℕ) → Read NumberedUpdate
of_body d body = stamped_by numbered_in d >>= numbered body

stamp_numbered : (s : NumberedStamp) (body : Option (List ℕ)) (u : NumberedUpdate) → numbered body s ≡ read u → IsSiteNumber s.1.site → IsSiteNumber u.1.site
stamp_numbered s body u e h = subst (λ (v : NumberedUpdate). IsSiteNumber v.1.site) (read_is (s.0, numbered_entry s.1 body) u e) h

entry_numbered : (d : Data) (u : NumberedUpdate) → numbered_entry_in d ≡ read u → IsSiteNumber u.1.site
unfolding numbered_entry_in entry_by
entry_numbered d u e =
    let text = or_fault BadShape (get (codes "body") d) in
    let a = bind_ok (demand BadShape (has_only (codes "body" ∷ codes "count" ∷ codes "name" ∷ codes "site" ∷ []) d)) (λ shape. text >>= λ found. body_in found >>= λ body. of_body d body) u e in
    let b = bind_ok text (λ found. body_in found >>= λ body. of_body d body) u a.2 in
    let c = bind_ok (body_in b.0) (λ body. of_body d body) u b.2 in
    let s = bind_ok (stamped_by numbered_in d) (numbered c.0) u c.2 in
    stamp_numbered s.0 c.0 u s.2 (stamped_number d s.0 s.1)

numbers_of : (k : ℕ) (ds : List Data) (ns : List NumberedUpdate) → each (λ i d. numbered_entry_in d) k ds ≡ read ns → HaveSiteNumbers ns
unfolding each
numbers_of k [] ns e = subst HaveSiteNumbers (read_is [] ns e) tt
numbers_of k (d ∷ ds) ns e =
    let a = bind_ok (numbered_entry_in d) (λ y. each (λ i x. numbered_entry_in x) (suc k) ds >>= λ ys. read (y ∷ ys)) ns e in
    let b = bind_ok (each (λ i x. numbered_entry_in x) (suc k) ds) (λ ys. read (a.0 ∷ ys)) ns a.2 in
    subst HaveSiteNumbers (read_is (a.0 ∷ b.0) ns b.2) (entry_numbered d a.0 a.1, numbers_of (suc k) ds b.0 b.1)

entries_numbered : (d : Data) (ns : List NumberedUpdate) → numbered_entries_in d ≡ read ns → HaveSiteNumbers ns
unfolding numbered_entries_in entries_by entries_of
entries_numbered d ns e =
    let a = bind_ok (or_fault BadShape (get (codes "entries") d)) (λ found. or_fault BadShape (as_array found) >>= λ ds. each (λ i x. numbered_entry_in x) 0 (list_of ds)) ns e in
    let b = bind_ok (or_fault BadShape (as_array a.0)) (λ ds. each (λ i x. numbered_entry_in x) 0 (list_of ds)) ns a.2 in
    numbers_of 0 (list_of b.0) ns b.2

pub message_numbers : (label bytes : List ℕ) (ns : List NumberedUpdate) → IsVersion1Message label bytes ns → HaveSiteNumbers ns
message_numbers label bytes ns h = entries_numbered h.value ns (are_entries numbered_entries_in label h.value ns h.stated)
