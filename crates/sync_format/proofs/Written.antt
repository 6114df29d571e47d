-- A message's JSON nests little, is read as the updates that it was written from, and determines them.
use Rattle.std.proofs.Common.{◌≡◌, ◌∙◌, ℕ, suc, ◌≤◌, List, [], ◌∷◌, map, true, Ok, Option, Some, None, refl, sym, ap}
use Rattle.std.proofs.Common.{arith}
use Rattle.std.specs.Str.{bytes_eq}
use Rattle.std.specs.FinMap.{same_entries_map}
use Rattle.std.proofs.lemmas.Bool.{le-leb}
use Rattle.std.proofs.lemmas.Slice.Eq.{bytes_eq-Decides}
use Rattle.serde_json.specs.Data.{Data, depth, items_depth}
use Rattle.serde_json.specs.Read.{max_depth}
use Rattle.serde_json.specs.View.{items_of}
use Rattle.json_words.specs.Each.{each, list_of}
use Rattle.json_words.specs.Json.{json_of}
use Rattle.values.specs.declared.name.Name.{Name}
use Rattle.values.specs.declared.name.Name.TheVariants.{Policy, Entity}
use Rattle.values.specs.declared.entity_uid.EntityUid.{EntityUid}
use Rattle.stamped_store.specs.Store.{Store, Update, updates}
use Rattle.stamped_store.specs.SiteNames.{SiteTestIsExact}
use Rattle.stamped_store.specs.Raised.{NumberedUpdate, IsSiteNumber, HaveSiteNumbers, raise_update, raise}
use Rattle.sync_format.specs.declared.version.MessageVersion.TheVariants.{One, Two}
use Rattle.sync_format.specs.Summaries.{IsName, IsStamped, name_json, name_in, version_in, numbered_in, raised_in}
use Rattle.sync_format.specs.Summaries.{named_in, stamped_by, stamped_in}
use Rattle.sync_format.specs.Messages.{body_json, entry_json, message_json, text_in, body_in, entry_by, entry_in}
use Rattle.sync_format.specs.Messages.{entries_of, entries_by, entries_in, is_kind, updates_by, updates_in}
use Rattle.sync_format.specs.Messages.{updates_stated}
use Rattle.sync_format.specs.Numbered.{numbered_entry_json, numbered_message_json}
use Rattle.sync_format.specs.Updates.{stamped, AreInRange}

-- ---- how deep it nests
depth_name : (n : Name) → depth (name_json n) ≤ 2
depth_name (Policy id) = omega arith
depth_name (Entity uid) = omega arith

depth_body : (b : Option (List ℕ)) → depth (body_json b) ≤ 0
depth_body None = omega arith
depth_body (Some text) = omega arith

depth_entry : (u : Update) → depth (entry_json u) ≤ 3
depth_entry u = omega (arith, depth_name u.0, depth_body u.1.body)

depth_entries : (us : List Update) → items_depth (items_of (map entry_json us)) ≤ 3
depth_entries [] = omega arith
depth_entries (u ∷ us) = omega (arith, depth_entry u, depth_entries us)

pub depth_message : (kind label : List ℕ) (us : List Update) → depth (message_json kind label us) ≤ max_depth
depth_message kind label us = omega (arith, depth_entries us)

pub stated_back : (bytes label : List ℕ) (us : List Update) (value : Data) → json_of bytes ≡ Some value → updates_in label value ≡ Ok us → updates_stated label bytes ≡ Ok us
unfolding updates_stated
stated_back bytes label us value is read = rw is read

-- ---- read back
abbrev pub NamesBack : Type 0
NamesBack = (n : Name) → IsName n → name_in (name_json n) ≡ Ok n

body_again : (b : Option (List ℕ)) → body_in (body_json b) ≡ Ok b
unfolding body_in text_in
body_again None = refl
body_again (Some text) = refl

entry_again : NamesBack → SiteTestIsExact → (u : Update) → IsStamped (stamped u) → entry_in Two (entry_json u) ≡ Ok u
unfolding entry_in entry_by stamped_in stamped_by named_in
entry_again names sites u h = rw (body_again u.1.body, (sites u.1.site).1 h.site, names u.0 h.name) refl

entries_again : NamesBack → SiteTestIsExact → (k : ℕ) (us : List Update) → AreInRange us → each (λ i d. entry_in Two d) k (list_of (items_of (map entry_json us))) ≡ Ok us
unfolding each
entries_again names sites k [] h = refl
entries_again names sites k (u ∷ us) h = rw (entry_again names sites u h.0, entries_again names sites (suc k) us h.1) refl

bytes_eq_same : (s : List ℕ) → bytes_eq s s ≡ true
bytes_eq_same s = (bytes_eq-Decides s s).1 refl

entries_in_again : NamesBack → SiteTestIsExact → (kind label : List ℕ) (us : List Update) → AreInRange us → entries_in Two (message_json kind label us) ≡ Ok us
unfolding entries_in entries_by entries_of
entries_in_again names sites kind label us h = entries_again names sites 0 us h

pub message_again : NamesBack → SiteTestIsExact → (kind label : List ℕ) (us : List Update) → is_kind kind ≡ true → AreInRange us → updates_in label (message_json kind label us) ≡ Ok us
unfolding updates_in updates_by version_in
message_again names sites kind label us is h = rw (is, entries_in_again names sites kind label us h, bytes_eq_same label) refl

-- ---- version 1 read
numbered_entry_again : NamesBack → (n : NumberedUpdate) → IsSiteNumber n.1.site → IsName n.0 → entry_in One (numbered_entry_json n) ≡ Ok (raise_update n)
unfolding entry_in entry_by stamped_in stamped_by raised_in numbered_in
numbered_entry_again names n h named = rw (body_again n.1.body, le-leb _ _ h.0, le-leb _ _ h.1, names n.0 named) refl

numbered_entries_again : NamesBack → (k : ℕ) (ns : List NumberedUpdate) → HaveSiteNumbers ns → AreInRange (raise ns)
    → each (λ i d. entry_in One d) k (list_of (items_of (map numbered_entry_json ns))) ≡ Ok (raise ns)
unfolding each
numbered_entries_again names k [] h r = refl
numbered_entries_again names k (n ∷ ns) h r = rw (numbered_entry_again names n h.0 r.0.name, numbered_entries_again names (suc k) ns h.1 r.1) refl

numbered_entries_in_again : NamesBack → (kind label : List ℕ) (ns : List NumberedUpdate) → HaveSiteNumbers ns → AreInRange (raise ns)
    → entries_in One (numbered_message_json kind label ns) ≡ Ok (raise ns)
unfolding entries_in entries_by entries_of
numbered_entries_in_again names kind label ns h r = numbered_entries_again names 0 ns h r

pub numbered_message_again : NamesBack → (kind label : List ℕ) (ns : List NumberedUpdate) → is_kind kind ≡ true → HaveSiteNumbers ns → AreInRange (raise ns)
    → updates_in label (numbered_message_json kind label ns) ≡ Ok (raise ns)
unfolding updates_in updates_by version_in
numbered_message_again names kind label ns is h r = rw (is, numbered_entries_in_again names kind label ns h r, bytes_eq_same label) refl

-- ---- told apart
body_one : (a b : Option (List ℕ)) → body_json a ≡ body_json b → a ≡ b
body_one None None h = refl
body_one None (Some t) h = absurd (cc)
body_one (Some s) None h = absurd (cc)
body_one (Some s) (Some t) h = let same : s ≡ t = cc in ap (λ (x : List ℕ). Some x) same

same_uid : (a b : EntityUid) → a.type_name ≡ b.type_name → a.id ≡ b.id → a ≡ b
same_uid a b t s = λ i. record { type_name = t i; id = s i }

name_one : (a b : Name) → name_json a ≡ name_json b → a ≡ b
name_one (Policy a) (Policy b) h = let same : a ≡ b = cc in ap Policy same
name_one (Policy a) (Entity b) h = absurd (cc)
name_one (Entity a) (Policy b) h = absurd (cc)
name_one (Entity a) (Entity b) h =
    let ids : a.id ≡ b.id = cc in
    let types : a.type_name ≡ b.type_name = cc in
    ap Entity (same_uid a b types ids)

same_update : (u v : Update) → u.0 ≡ v.0 → u.1.count ≡ v.1.count → u.1.site ≡ v.1.site → u.1.body ≡ v.1.body → u ≡ v
same_update u v n c s b = λ i. (n i, record { count = c i; site = s i; body = b i })

entry_one : (u v : Update) → entry_json u ≡ entry_json v → u ≡ v
entry_one u v h =
    let bodies : body_json u.1.body ≡ body_json v.1.body = cc in
    let counts : u.1.count ≡ v.1.count = cc in
    let names : name_json u.0 ≡ name_json v.0 = cc in
    let sites : u.1.site ≡ v.1.site = cc in
    same_update u v (name_one u.0 v.0 names) counts sites (body_one u.1.body v.1.body bodies)

entries_one : (us vs : List Update) → items_of (map entry_json us) ≡ items_of (map entry_json vs) → us ≡ vs
entries_one [] [] h = refl
entries_one [] (v ∷ vs) h = absurd (cc)
entries_one (u ∷ us) [] h = absurd (cc)
entries_one (u ∷ us) (v ∷ vs) h =
    let first : entry_json u ≡ entry_json v = cc in
    let rest : items_of (map entry_json us) ≡ items_of (map entry_json vs) = cc in
    let same = entry_one u v first in
    let more = entries_one us vs rest in
    λ i. same i ∷ more i

message_one : (kind label : List ℕ) (us vs : List Update) → message_json kind label us ≡ message_json kind label vs → us ≡ vs
message_one kind label us vs h =
    let items : items_of (map entry_json us) ≡ items_of (map entry_json vs) = cc in
    entries_one us vs items

some_is : (d e : Data) → Some d ≡ Some e → d ≡ e
some_is d e h = cc

pub store_one : (kind label bytes : List ℕ) (s t : Store) → json_of bytes ≡ Some (message_json kind label (updates s)) → json_of bytes ≡ Some (message_json kind label (updates t)) → s ≡ t
store_one kind label bytes s t h k =
    let same = some_is (message_json kind label (updates s)) (message_json kind label (updates t)) (sym h ∙ k) in
    same_entries_map s t (message_one kind label (updates s) (updates t) same)
