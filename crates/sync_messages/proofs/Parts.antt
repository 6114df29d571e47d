-- Parts of messages: the reading functions give the names, sites and numbers that JSON states.
use Rattle.std.proofs.Common.{◌≡◌, ◌∙◌, ℕ, suc, List, [], ◌∷◌, Bool, true, false, Option, Some, None, Result, Ok, refl, ap, subst}
use Rattle.std.specs.Prelude.{◌&&◌, codes, nat_le, option_and_then, if◌then◌else◌}
use Rattle.std.specs.List.{AllByRecursion, AllZip}
use Rattle.std.specs.List.Sorted.{IsStrictlySortedBy}
use Rattle.std.proofs.lemmas.Bool.{leb-true, le-leb}
use Rattle.serde_json.specs.Data.{Data, Num, unsigned, negative, float, Items, no_members, member}
use Rattle.serde_json.specs.Data as json
use Rattle.serde_json.specs.Find.{get, as_str, as_array, as_number, as_u64}
use Rattle.json_words.specs.Ascending.{Ascend, DataAscends}
use Rattle.json_words.specs.Each.{each}
use Rattle.json_words.specs.Json.{text_at}
use Rattle.json_words.specs.Keys.{has_only}
use Rattle.json_words.specs.ReadsAs.{◌>>=◌, or_fault, demand}
use Rattle.json_words.proofs.EachLemmas.{bind_ok}
use Rattle.plain.specs.Words.{IsPath}
use Rattle.values.specs.declared.name.Name.{Name}
use Rattle.values.specs.declared.name.Name.TheVariants.{Policy, Entity}
use Rattle.values.specs.declared.entity_uid.EntityUid.{EntityUid}
use Rattle.stamped_store.specs.declared.entry.Stamp.{Stamp}
use Rattle.stamped_store.specs.Raised.{IsSiteNumber}
use Rattle.stamped_store.specs.SiteNames.{IsSiteName, SiteTestIsExact, SiteDigitsAreNames, is_site_name, five_digits}
use Rattle.sync_format.specs.entity_uids.Uids.{IsUid, IsPlainUid, uid_in, uid_json}
use Rattle.sync_format.specs.entity_uids.Laws.{UidsAreFound}
use Rattle.sync_format.specs.declared.version.MessageVersion.{MessageVersion}
use Rattle.sync_format.specs.declared.version.MessageVersion.TheVariants.{One, Two}
use Rattle.sync_format.specs.declared.fault.MessageFault.{MessageFault}
use Rattle.sync_format.specs.declared.fault.MessageFault.TheVariants.{BadShape}
use Rattle.sync_format.specs.Summaries.{IsName, StampAt, name_json, number_at, policy_in, entity_name_in, name_in}
use Rattle.sync_format.specs.Summaries.{numbered_in, raised_in, named_in, site_in, stamped_by, stamped_in}
use Rattle.sync_messages.specs.MessageForms.{DescribesName, DescribesSite}
use Rattle.sync_messages.specs.MessageForms as says
use Rattle.sync_messages.proofs.Steps.{done, ok_is, none_some, some_is, some_of, passes, Only, only_ok, only_bind, only_demand, only_or}
use Rattle.sync_messages.proofs.Exact.{exact_object, value_ascends, not_there}

abbrev pub Read : Type 0 → Type 0
Read A = Result A MessageFault

-- what lower crates prove of names and sites
pub record Facts : Type 0 where
  pub uids : UidsAreFound
  pub names : (n : Name) → IsName n → name_in (name_json n) ≡ Ok n
  pub tested : SiteTestIsExact
  pub digits : SiteDigitsAreNames

pub left : (a b : Bool) → (a && b) ≡ true → a ≡ true
left true b h = refl
left false b h = absurd cc

pub right : (a b : Bool) → (a && b) ≡ true → b ≡ true
right true b h = h
right false b h = absurd cc

-- ---- values at a key

text_by : (o : Option Data) (s : List ℕ) → option_and_then as_str o ≡ Some s → o ≡ Some (json.string s)
text_by None s e = absurd cc
text_by (Some json.null) s e = absurd cc
text_by (Some (json.boolean b)) s e = absurd cc
text_by (Some (json.number n)) s e = absurd cc
text_by (Some (json.string x)) s e = ap (λ (y : List ℕ). Some (json.string y)) (some_is x s e)
text_by (Some (json.array ds)) s e = absurd cc
text_by (Some (json.object ms)) s e = absurd cc

pub text_is : (k : List ℕ) (d : Data) (s : List ℕ) → or_fault BadShape (text_at k d) ≡ done s → get k d ≡ Some (json.string s)
text_is k d s e = text_by (get k d) s (some_of BadShape (text_at k d) s e)

pub is_text : (k : List ℕ) (d : Data) (s : List ℕ) → get k d ≡ Some (json.string s) → text_at k d ≡ Some s
is_text k d s e = ap (λ (o : Option Data). option_and_then as_str o) e

array_by : (d : Data) (ds : Items) → as_array d ≡ Some ds → d ≡ json.array ds
array_by json.null ds e = absurd cc
array_by (json.boolean b) ds e = absurd cc
array_by (json.number n) ds e = absurd cc
array_by (json.string x) ds e = absurd cc
array_by (json.array es) ds e = ap (λ (x : Items). json.array x) (some_is es ds e)
array_by (json.object ms) ds e = absurd cc

pub array_is : (k : List ℕ) (d found : Data) (ds : Items) → or_fault BadShape (get k d) ≡ done found → or_fault BadShape (as_array found) ≡ done ds → get k d ≡ Some (json.array ds)
array_is k d found ds e f = some_of BadShape (get k d) found e ∙ ap (λ (x : Data). Some x) (array_by found ds (some_of BadShape (as_array found) ds f))

abbrev number_of_found : Option Data → Read ℕ
number_of_found o = or_fault BadShape o >>= λ found. or_fault BadShape (option_and_then as_u64 (as_number found))

number_by : (o : Option Data) (n : ℕ) → number_of_found o ≡ done n → o ≡ Some (json.number (unsigned n))
number_by None n e = absurd cc
number_by (Some json.null) n e = absurd cc
number_by (Some (json.boolean b)) n e = absurd cc
number_by (Some (json.number (unsigned m))) n e = ap (λ (x : ℕ). Some (json.number (unsigned x))) (ok_is m n e)
number_by (Some (json.number (negative z))) n e = absurd cc
number_by (Some (json.number (float x))) n e = absurd cc
number_by (Some (json.string x)) n e = absurd cc
number_by (Some (json.array ds)) n e = absurd cc
number_by (Some (json.object ms)) n e = absurd cc

pub number_is : (k : List ℕ) (d : Data) (n : ℕ) → number_at k d ≡ done n → get k d ≡ Some (json.number (unsigned n))
number_is k d n e = number_by (get k d) n e

pub is_number : (k : List ℕ) (d : Data) (n : ℕ) → get k d ≡ Some (json.number (unsigned n)) → number_at k d ≡ done n
is_number k d n e = ap number_of_found e

pub only_number : (k : List ℕ) (d : Data) → Only BadShape (number_at k d)
only_number k d = only_bind (or_fault BadShape (get k d)) (λ found. or_fault BadShape (option_and_then as_u64 (as_number found))) (only_or BadShape (get k d)) (λ found. only_or BadShape (option_and_then as_u64 (as_number found)))

-- ---- names

-- one key ascends, and two
pub one_key : (k : List ℕ) → Ascend (k ∷ [])
unfolding IsStrictlySortedBy
one_key k = (tt, tt)

uid_keys : Ascend (codes "id" ∷ codes "type" ∷ [])
unfolding IsStrictlySortedBy
uid_keys = ((refl, tt), (tt, tt))

policy_states : (d : Data) → DataAscends d → has_only (codes "policy" ∷ []) d ≡ true → (n : Name) → policy_in d ≡ done n → DescribesName d n
unfolding policy_in
policy_states d asc alone n e =
    let a = bind_ok (or_fault BadShape (text_at (codes "policy") d)) (λ id. done (Policy id)) n e in
    subst (DescribesName d) (ok_is (Policy a.0) n a.2)
    (exact_object ((codes "policy", json.string a.0) ∷ []) d (one_key (codes "policy")) asc alone (text_is (codes "policy") d a.0 a.1, tt))

plain_by : (d : Data) (uid : EntityUid) (inner : Option Data) → get (codes "__entity") d ≡ inner → inner ≡ None → IsUid d uid → IsPlainUid d uid
plain_by d uid None e none is = rw e at is
plain_by d uid (Some x) e none is = absurd (none_some x (Some x) none refl)

found_by : UidsAreFound → (d : Data) (uid : EntityUid) (o : Option EntityUid) → uid_in d ≡ o → or_fault BadShape o ≡ done uid → IsUid d uid
found_by all d uid None e h = absurd cc
found_by all d uid (Some x) e h =
    let same : x ≡ uid = ok_is x uid h in
    let named : IsUid d x = rw e at (all d) in
    subst (IsUid d) same named

uid_states : UidsAreFound → (d : Data) → DataAscends d → has_only (codes "id" ∷ codes "type" ∷ []) d ≡ true → (uid : EntityUid) → or_fault BadShape (uid_in d) ≡ done uid
    → (d ≡ uid_json uid) × IsPath uid.type_name
uid_states all d asc alone uid e =
    let p = plain_by d uid (get (codes "__entity") d) refl (not_there (codes "__entity") (codes "id" ∷ codes "type" ∷ []) d refl alone) (found_by all d uid (uid_in d) refl e) in (
      exact_object ((codes "id", json.string uid.id) ∷ (codes "type", json.string uid.type_name) ∷ []) d uid_keys asc alone
          (text_by (get (codes "id") d) uid.id p.id, (text_by (get (codes "type") d) uid.type_name p.type_name, tt)),
      p.path,
    )

abbrev named : Name → Read Name
named n = Ok n

entity_made : (d found : Data) (uid : EntityUid) (n : Name) → named (Entity uid) ≡ named n → d ≡ json.object (member (codes "entity") found no_members) → (found ≡ uid_json uid) × IsPath uid.type_name
    → DescribesName d n
entity_made d found uid n same outer inner =
    subst (DescribesName d) (ok_is (Entity uid) n same) (outer ∙ ap (λ (x : Data). json.object (member (codes "entity") x no_members)) inner.0, inner.1)

entity_states : UidsAreFound → (d : Data) → DataAscends d → (n : Name) → entity_name_in d ≡ done n → DescribesName d n
unfolding entity_name_in
entity_states all d asc n e =
    let a = bind_ok (demand BadShape (has_only (codes "entity" ∷ []) d)) (λ x. or_fault BadShape (get (codes "entity") d) >>= λ found. demand BadShape (has_only (codes "id" ∷ codes "type" ∷ []) found) >>= λ y. or_fault BadShape (uid_in found) >>= λ uid. done (Entity uid)) n e in
    let b = bind_ok (or_fault BadShape (get (codes "entity") d)) (λ found. demand BadShape (has_only (codes "id" ∷ codes "type" ∷ []) found) >>= λ y. or_fault BadShape (uid_in found) >>= λ uid. done (Entity uid)) n a.2 in
    let c = bind_ok (demand BadShape (has_only (codes "id" ∷ codes "type" ∷ []) b.0)) (λ y. or_fault BadShape (uid_in b.0) >>= λ uid. done (Entity uid)) n b.2 in
    let u = bind_ok (or_fault BadShape (uid_in b.0)) (λ uid. done (Entity uid)) n c.2 in
    let at = some_of BadShape (get (codes "entity") d) b.0 b.1 in
    let inner = uid_states all b.0 (value_ascends (codes "entity") d asc b.0 at) (passes BadShape (has_only (codes "id" ∷ codes "type" ∷ []) b.0) c.0 c.1) u.0 u.1 in
    let outer = exact_object ((codes "entity", b.0) ∷ []) d (one_key (codes "entity")) asc (passes BadShape (has_only (codes "entity" ∷ []) d) a.0 a.1) (at, tt) in
    entity_made d b.0 u.0 n u.2 outer inner

name_by : (t : Bool) (d : Data) (n : Name) → (t ≡ true → policy_in d ≡ done n → DescribesName d n) → (entity_name_in d ≡ done n → DescribesName d n)
    → (if t then policy_in d else entity_name_in d) ≡ done n → DescribesName d n
name_by true d n f g h = f refl h
name_by false d n f g h = g h

pub name_is : Facts → (d : Data) → DataAscends d → (n : Name) → name_in d ≡ done n → DescribesName d n
unfolding name_in
name_is facts d asc n e = name_by (has_only (codes "policy" ∷ []) d) d n (λ alone h. policy_states d asc alone n h) (λ h. entity_states facts.uids d asc n h) e

policy_back : (id : List ℕ) → name_in (name_json (Policy id)) ≡ done (Policy id)
unfolding name_in policy_in
policy_back id = refl

pub is_name : Facts → (d : Data) (n : Name) → DescribesName d n → name_in d ≡ done n
is_name facts d (Policy id) h = ap name_in h ∙ policy_back id
is_name facts d (Entity uid) h = ap name_in h.0 ∙ facts.names (Entity uid) h.1

only_name_by : (t : Bool) (a b : Read Name) → Only BadShape a → Only BadShape b → Only BadShape (if t then a else b)
only_name_by true a b f g = f
only_name_by false a b f g = g

only_policy : (d : Data) → Only BadShape (policy_in d)
unfolding policy_in
only_policy d = only_bind (or_fault BadShape (text_at (codes "policy") d)) (λ id. done (Policy id)) (only_or BadShape (text_at (codes "policy") d)) (λ id. only_ok BadShape (Policy id))

only_entity : (d : Data) → Only BadShape (entity_name_in d)
unfolding entity_name_in
only_entity d =
    only_bind (demand BadShape (has_only (codes "entity" ∷ []) d)) (λ x. or_fault BadShape (get (codes "entity") d) >>= λ found. demand BadShape (has_only (codes "id" ∷ codes "type" ∷ []) found) >>= λ y. or_fault BadShape (uid_in found) >>= λ uid. done (Entity uid)) (only_demand BadShape (has_only (codes "entity" ∷ []) d)) (λ x.
    only_bind (or_fault BadShape (get (codes "entity") d)) (λ found. demand BadShape (has_only (codes "id" ∷ codes "type" ∷ []) found) >>= λ y. or_fault BadShape (uid_in found) >>= λ uid. done (Entity uid)) (only_or BadShape (get (codes "entity") d)) (λ found.
    only_bind (demand BadShape (has_only (codes "id" ∷ codes "type" ∷ []) found)) (λ y. or_fault BadShape (uid_in found) >>= λ uid. done (Entity uid)) (only_demand BadShape (has_only (codes "id" ∷ codes "type" ∷ []) found)) (λ y.
    only_bind (or_fault BadShape (uid_in found)) (λ uid. done (Entity uid)) (only_or BadShape (uid_in found)) (λ uid. only_ok BadShape (Entity uid)))))

only_name : (d : Data) → Only BadShape (name_in d)
unfolding name_in
only_name d = only_name_by (has_only (codes "policy" ∷ []) d) (policy_in d) (entity_name_in d) (only_policy d) (only_entity d)

-- ---- sites

abbrev SiteAt : MessageVersion → Data → List ℕ → Type 0
SiteAt version d site = (x : Data) × (get (codes "site") d ≡ Some x) × DescribesSite version x site

both : (a b : Bool) → a ≡ true → b ≡ true → (a && b) ≡ true
both true b p q = q
both false b p q = absurd cc

number_site : (d : Data) (site : List ℕ) → raised_in d ≡ done site → SiteAt One d site
unfolding raised_in numbered_in
number_site d site e =
    let o = bind_ok (numbered_in d) (λ n. done (five_digits n)) site e in
    let a = bind_ok (number_at (codes "site") d) (λ n. demand BadShape (nat_le 1 n && nat_le n 65535) >>= λ q. done n) o.0 o.1 in
    let b = bind_ok (demand BadShape (nat_le 1 a.0 && nat_le a.0 65535)) (λ q. done a.0) o.0 a.2 in
    let range = passes BadShape (nat_le 1 a.0 && nat_le a.0 65535) b.0 b.1 in
    let same : five_digits a.0 ≡ site = ap five_digits (ok_is a.0 o.0 b.2) ∙ ok_is (five_digits o.0) site o.2 in
    let fits : IsSiteNumber a.0 = (leb-true 1 a.0 (left (nat_le 1 a.0) (nat_le a.0 65535) range), leb-true a.0 65535 (right (nat_le 1 a.0) (nat_le a.0 65535) range)) in
    (json.number (unsigned a.0), number_is (codes "site") d a.0 a.1, subst (DescribesSite One (json.number (unsigned a.0))) same (says.by_number a.0 fits))

name_site : SiteTestIsExact → (d : Data) (site : List ℕ) → named_in d ≡ done site → SiteAt Two d site
unfolding named_in
name_site tested d site e =
    let a = bind_ok (or_fault BadShape (text_at (codes "site") d)) (λ s. demand BadShape (is_site_name s) >>= λ q. done s) site e in
    let b = bind_ok (demand BadShape (is_site_name a.0)) (λ q. done a.0) site a.2 in
    let named : IsSiteName a.0 = (tested a.0).0 (passes BadShape (is_site_name a.0) b.0 b.1) in
    (json.string a.0, text_is (codes "site") d a.0 a.1, subst (DescribesSite Two (json.string a.0)) (ok_is a.0 site b.2) (says.by_name a.0 named))

pub site_is : Facts → (version : MessageVersion) (d : Data) (site : List ℕ) → site_in version d ≡ done site → SiteAt version d site
site_is facts One d site e = number_site d site e
site_is facts Two d site e = name_site facts.tested d site e

numbered_back : (d : Data) (n : ℕ) → IsSiteNumber n → get (codes "site") d ≡ Some (json.number (unsigned n)) → raised_in d ≡ done (five_digits n)
unfolding raised_in numbered_in
numbered_back d n h at = rw (at, le-leb _ _ h.0, le-leb _ _ h.1) refl

named_back : SiteTestIsExact → (d : Data) (site : List ℕ) → IsSiteName site → get (codes "site") d ≡ Some (json.string site) → named_in d ≡ done site
unfolding named_in
named_back tested d site h at = rw (at, (tested site).1 h) refl

pub is_site : Facts → (version : MessageVersion) (d x : Data) (site : List ℕ) → get (codes "site") d ≡ Some x → DescribesSite version x site → site_in version d ≡ done site
is_site facts version d x site at (says.by_number n h) = numbered_back d n h at
is_site facts version d x site at (says.by_name s h) = named_back facts.tested d s h at

only_numbered : (d : Data) → Only BadShape (numbered_in d)
unfolding numbered_in
only_numbered d =
    only_bind (number_at (codes "site") d) (λ n. demand BadShape (nat_le 1 n && nat_le n 65535) >>= λ q. done n) (only_number (codes "site") d) (λ n.
    only_bind (demand BadShape (nat_le 1 n && nat_le n 65535)) (λ q. done n) (only_demand BadShape (nat_le 1 n && nat_le n 65535)) (λ q. only_ok BadShape n))

only_site : (version : MessageVersion) (d : Data) → Only BadShape (site_in version d)
unfolding raised_in named_in
only_site One d = only_bind (numbered_in d) (λ n. done (five_digits n)) (only_numbered d) (λ n. only_ok BadShape (five_digits n))
only_site Two d =
    only_bind (or_fault BadShape (text_at (codes "site") d)) (λ s. demand BadShape (is_site_name s) >>= λ q. done s) (only_or BadShape (text_at (codes "site") d)) (λ s.
    only_bind (demand BadShape (is_site_name s)) (λ q. done s) (only_demand BadShape (is_site_name s)) (λ q. only_ok BadShape s))

-- ---- a name with its stamp

-- `HasParts version d u` holds if `d` has the count, the name and the site of `u` at its keys
pub record HasParts (version : MessageVersion) (d : Data) (u : Name × Stamp) : Type 0 where
  pub name : Data
  pub site : Data
  pub at_count : get (codes "count") d ≡ Some (json.number (unsigned u.1.count))
  pub at_name : get (codes "name") d ≡ Some name
  pub at_site : get (codes "site") d ≡ Some site
  pub states_name : DescribesName name u.0
  pub states_site : DescribesSite version site u.1.site

abbrev SiteStamp : Type 0
SiteStamp = Name × StampAt (List ℕ)

abbrev as_stamp : SiteStamp → Name × Stamp
as_stamp u = (u.0, record { count = u.1.count; site = u.1.site })

abbrev with_name : ℕ → List ℕ → Data → Read SiteStamp
with_name count site found = name_in found >>= λ name. Ok (name, record { count = count; site = site })

abbrev with_site : Data → ℕ → List ℕ → Read SiteStamp
with_site d count site = or_fault BadShape (get (codes "name") d) >>= λ found. with_name count site found

abbrev of_count : MessageVersion → Data → ℕ → Read SiteStamp
of_count version d count = site_in version d >>= λ site. with_site d count site

parts_by : Facts → (version : MessageVersion) (d : Data) → DataAscends d → (u : SiteStamp) → stamped_by (site_in version) d ≡ done u → HasParts version d (as_stamp u)
unfolding stamped_by
parts_by facts version d asc u e =
    let b = bind_ok (number_at (codes "count") d) (λ count. of_count version d count) u e in
    let c = bind_ok (site_in version d) (λ site. with_site d b.0 site) u b.2 in
    let o = bind_ok (or_fault BadShape (get (codes "name") d)) (λ found. with_name b.0 c.0 found) u c.2 in
    let stamp : StampAt (List ℕ) = record { count = b.0; site = c.0 } in
    let m = bind_ok (name_in o.0) (λ name. Ok (name, stamp)) u o.2 in
    let at = some_of BadShape (get (codes "name") d) o.0 o.1 in
    let s = site_is facts version d c.0 c.1 in
    subst (λ (v : SiteStamp). HasParts version d (as_stamp v)) (ok_is (m.0, stamp) u m.2) (record {
      name = o.0;
      site = s.0;
      at_count = number_is (codes "count") d b.0 b.1;
      at_name = at;
      at_site = s.1;
      states_name = name_is facts o.0 (value_ascends (codes "name") d asc o.0 at) m.0 m.1;
      states_site = s.2;
    })

pub parts_are : Facts → (version : MessageVersion) (d : Data) → DataAscends d → (u : Name × Stamp) → stamped_in version d ≡ done u → HasParts version d u
unfolding stamped_in
parts_are facts version d asc u e =
    let a = bind_ok (stamped_by (site_in version) d) (λ v. done (as_stamp v)) u e in
    subst (HasParts version d) (ok_is (as_stamp a.0) u a.2) (parts_by facts version d asc a.0 a.1)

pub are_parts : Facts → (version : MessageVersion) (d : Data) (u : Name × Stamp) → HasParts version d u → stamped_in version d ≡ done u
unfolding stamped_in stamped_by
are_parts facts version d u h =
    rw (h.at_count, is_site facts version d h.site u.1.site h.at_site h.states_site, h.at_name, is_name facts h.name u.0 h.states_name) refl

pub only_parts : (version : MessageVersion) (d : Data) → Only BadShape (stamped_in version d)
unfolding stamped_in stamped_by
only_parts version d =
    only_bind (stamped_by (site_in version) d) (λ v. done (as_stamp v))
    (only_bind (number_at (codes "count") d) (λ count. of_count version d count) (only_number (codes "count") d) (λ count.
    only_bind (site_in version d) (λ site. with_site d count site) (only_site version d) (λ site.
    only_bind (or_fault BadShape (get (codes "name") d)) (λ found. with_name count site found) (only_or BadShape (get (codes "name") d)) (λ found.
    only_bind (name_in found) (λ name. Ok (name, record { count = count; site = site })) (only_name found) (λ name. only_ok BadShape (name, record { count = count; site = site }))))))
    (λ v. only_ok BadShape (as_stamp v))

-- ---- each element of an array

pub each_is : {A B : Type 0} (f : A → Read B) (P : A → Type 0) (R : A → B → Type 0) → ((x : A) (y : B) → P x → f x ≡ done y → R x y)
    → (k : ℕ) (xs : List A) (ys : List B) → AllByRecursion P xs → each (λ i x. f x) k xs ≡ done ys → AllZip R xs ys
unfolding each
each_is f P R one k [] ys h e = subst (AllZip R []) (ok_is [] ys e) tt
each_is f P R one k (x ∷ xs) ys h e =
    let a = bind_ok (f x) (λ y. each (λ i z. f z) (suc k) xs >>= λ zs. Ok (y ∷ zs)) ys e in
    let b = bind_ok (each (λ i z. f z) (suc k) xs) (λ zs. Ok (a.0 ∷ zs)) ys a.2 in
    subst (AllZip R (x ∷ xs)) (ok_is (a.0 ∷ b.0) ys b.2) (one x a.0 h.0 a.1, each_is f P R one (suc k) xs b.0 h.1 b.1)

pub is_each : {A B : Type 0} (f : A → Read B) (R : A → B → Type 0) → ((x : A) (y : B) → R x y → f x ≡ done y)
    → (k : ℕ) (xs : List A) (ys : List B) → AllZip R xs ys → each (λ i x. f x) k xs ≡ done ys
unfolding each
is_each f R one k [] [] h = refl
is_each f R one k [] (y ∷ ys) h = absurd h
is_each f R one k (x ∷ xs) [] h = absurd h
is_each f R one k (x ∷ xs) (y ∷ ys) h = rw (one x y h.0, is_each f R one (suc k) xs ys h.1) refl
