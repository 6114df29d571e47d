-- What is read as a summary has names and stamps in their ranges, and its names ascend.
use Rattle.std.proofs.Common.{◌≡◌, ◌∙◌, ℕ, suc, List, [], ◌∷◌, length, Bool, true, false, Result, Ok, Option, Some}
use Rattle.std.proofs.Common.{None, refl, sym, ap, subst, arith}
use Rattle.std.specs.Prelude.{⊤, ◌&&◌, codes, nat_le, if◌then◌else◌}
use Rattle.std.specs.Str.{bytes_eq}
use Rattle.std.specs.List.{AllByRecursion}
use Rattle.std.proofs.lemmas.Bool.{leb-true}
use Rattle.serde_json.specs.Data.{Data}
use Rattle.serde_json.specs.Find.{get, as_array}
use Rattle.json_words.specs.Each.{each, list_of}
use Rattle.json_words.specs.ReadsAs.{◌>>=◌, or_fault, demand}
use Rattle.json_words.specs.Json.{json_of, text_at}
use Rattle.json_words.specs.Keys.{has_only}
use Rattle.json_words.proofs.EachLemmas.{bind_ok}
use Rattle.plain.specs.Words.{IsPath}
use Rattle.values.specs.declared.name.Name.{Name}
use Rattle.values.specs.declared.name.Name.TheVariants.{Policy, Entity}
use Rattle.values.specs.declared.entity_uid.EntityUid.{EntityUid}
use Rattle.entity_uids.specs.Uids.{IsUid, uid_in}
use Rattle.entity_uids.specs.Laws.{UidsAreFound}
use Rattle.stamped_store.specs.declared.entry.Stamp.{Stamp}
use Rattle.stamped_store.specs.Deltas.{Summary}
use Rattle.stamped_store.specs.Raised.{IsSiteNumber}
use Rattle.stamped_store.specs.SiteNames.{IsSiteName, SiteTestIsExact, SiteDigitsAreNames, is_site_name, five_digits}
use Rattle.sync_format.specs.declared.version.MessageVersion.{MessageVersion}
use Rattle.sync_format.specs.declared.version.MessageVersion.TheVariants.{One, Two}
use Rattle.sync_format.specs.declared.fault.MessageFault.{MessageFault}
use Rattle.sync_format.specs.declared.fault.MessageFault.TheVariants.{NotJson, BadShape, OtherSchema, CountRange}
use Rattle.sync_format.specs.declared.fault.MessageFault.TheVariants.{BadEntry}
use Rattle.sync_format.specs.Summaries.{ascend, IsName, IsStamped, AreStamped, number_at, policy_in, entity_name_in}
use Rattle.sync_format.specs.Summaries.{name_in, version_in, numbered_in, raised_in, named_in, site_in, StampAt}
use Rattle.sync_format.specs.Summaries.{stamped_by, stamped_in, stamp_in, stamps_of, stamps_in, is_name_in_range}
use Rattle.sync_format.specs.Summaries.{bad_id, checked_stamp, summary_in, summary_stated}

abbrev read : {A : Type 0} → A → Result A MessageFault
read x = Ok x

read_is : {A : Type 0} (x y : A) → read x ≡ read y → x ≡ y
read_is x y h = cc

demanded : (f : MessageFault) (b : Bool) (t : ⊤) → demand f b ≡ read t → b ≡ true
demanded f true t h = refl
demanded f false t h = absurd cc

left : (a b : Bool) → (a && b) ≡ true → a ≡ true
left true b h = refl
left false b h = absurd cc

right : (a b : Bool) → (a && b) ≡ true → b ≡ true
right true b h = h
right false b h = absurd cc

-- ---- a name
abbrev IsSpelled : Name → Type 0
IsSpelled (Policy id) = Unit {0}
IsSpelled (Entity uid) = IsPath uid.type_name

path_named : (d : Data) (uid : EntityUid) (inner : Option Data) → get (codes "__entity") d ≡ inner → IsUid d uid → IsPath uid.type_name
path_named d uid None e is = (rw e at is).path
path_named d uid (Some x) e is = (rw e at is).is.path

path_found : UidsAreFound → (d : Data) (uid : EntityUid) (o : Option EntityUid) → uid_in d ≡ o → or_fault BadShape o ≡ read uid → IsPath uid.type_name
path_found all d uid None e h = absurd cc
path_found all d uid (Some x) e h =
    let same : x ≡ uid = read_is x uid h in
    let named : IsUid d x = rw e at (all d) in
    subst (λ (u : EntityUid). IsPath u.type_name) same (path_named d x (get (codes "__entity") d) refl named)

policy_spelled : (d : Data) (n : Name) → policy_in d ≡ read n → IsSpelled n
unfolding policy_in
policy_spelled d n e =
    let a = bind_ok (or_fault BadShape (text_at (codes "policy") d)) (λ id. read (Policy id)) n e in
    subst IsSpelled (read_is (Policy a.0) n a.2) tt

entity_spelled : UidsAreFound → (d : Data) (n : Name) → entity_name_in d ≡ read n → IsSpelled n
unfolding entity_name_in
entity_spelled all d n e =
    let a = bind_ok (demand BadShape (has_only (codes "entity" ∷ []) d)) (λ x. or_fault BadShape (get (codes "entity") d) >>= λ found. demand BadShape (has_only (codes "id" ∷ codes "type" ∷ []) found) >>= λ y. or_fault BadShape (uid_in found) >>= λ uid. read (Entity uid)) n e in
    let b = bind_ok (or_fault BadShape (get (codes "entity") d)) (λ found. demand BadShape (has_only (codes "id" ∷ codes "type" ∷ []) found) >>= λ y. or_fault BadShape (uid_in found) >>= λ uid. read (Entity uid)) n a.2 in
    let c = bind_ok (demand BadShape (has_only (codes "id" ∷ codes "type" ∷ []) b.0)) (λ y. or_fault BadShape (uid_in b.0) >>= λ uid. read (Entity uid)) n b.2 in
    let u = bind_ok (or_fault BadShape (uid_in b.0)) (λ uid. read (Entity uid)) n c.2 in
    subst IsSpelled (read_is (Entity u.0) n u.2) (path_found all b.0 u.0 (uid_in b.0) refl u.1)

either : {P : Type 0} (t : Bool) (a b r : Result Name MessageFault) → (a ≡ r → P) → (b ≡ r → P) → (if t then a else b) ≡ r → P
either true a b r f g h = f h
either false a b r f g h = g h

name_spelled : UidsAreFound → (d : Data) (n : Name) → name_in d ≡ read n → IsSpelled n
unfolding name_in
name_spelled all d n e = either (has_only (codes "policy" ∷ []) d) (policy_in d) (entity_name_in d) (read n) (policy_spelled d n) (entity_spelled all d n) e

-- ---- a stamp
record IsShaped (u : Name × Stamp) : Type 0 where
  name : IsSpelled u.0
  site : IsSiteName u.1.site

-- the number of a site
pub number_in_range : (d : Data) (site : ℕ) → numbered_in d ≡ read site → IsSiteNumber site
unfolding numbered_in
number_in_range d site e =
    let a = bind_ok (number_at (codes "site") d) (λ found. demand BadShape (nat_le 1 found && nat_le found 65535) >>= λ numbered. read found) site e in
    let b = bind_ok (demand BadShape (nat_le 1 a.0 && nat_le a.0 65535)) (λ numbered. read a.0) site a.2 in
    let range = demanded BadShape (nat_le 1 a.0 && nat_le a.0 65535) b.0 b.1 in
    subst IsSiteNumber (read_is a.0 site b.2)
    (leb-true 1 a.0 (left (nat_le 1 a.0) (nat_le a.0 65535) range), leb-true a.0 65535 (right (nat_le 1 a.0) (nat_le a.0 65535) range))

-- a site of either version
raised_sound : SiteDigitsAreNames → (d : Data) (name : List ℕ) → raised_in d ≡ read name → IsSiteName name
unfolding raised_in
raised_sound digits d name e =
    let a = bind_ok (numbered_in d) (λ site. read (five_digits site)) name e in
    let range = number_in_range d a.0 a.1 in
    subst IsSiteName (read_is (five_digits a.0) name a.2) (digits a.0 (omega (arith, range.1)))

named_sound : SiteTestIsExact → (d : Data) (name : List ℕ) → named_in d ≡ read name → IsSiteName name
unfolding named_in
named_sound tested d name e =
    let a = bind_ok (or_fault BadShape (text_at (codes "site") d)) (λ site. demand BadShape (is_site_name site) >>= λ named. read site) name e in
    let b = bind_ok (demand BadShape (is_site_name a.0)) (λ named. read a.0) name a.2 in
    subst IsSiteName (read_is a.0 name b.2) ((tested a.0).0 (demanded BadShape (is_site_name a.0) b.0 b.1))

site_sound : SiteTestIsExact → SiteDigitsAreNames → (version : MessageVersion) (d : Data) (name : List ℕ) → site_in version d ≡ read name → IsSiteName name
site_sound tested digits One d name e = raised_sound digits d name e
site_sound tested digits Two d name e = named_sound tested d name e

abbrev SiteStamp : Type 0
SiteStamp = Name × StampAt (List ℕ)

abbrev as_stamp : SiteStamp → Name × Stamp
as_stamp u = (u.0, record { count = u.1.count; site = u.1.site })

abbrev with_name : ℕ → List ℕ → Data → Result SiteStamp MessageFault
with_name count site found = name_in found >>= λ name. read (name, record { count = count; site = site })

abbrev with_site : Data → ℕ → List ℕ → Result SiteStamp MessageFault
with_site d count site = or_fault BadShape (get (codes "name") d) >>= λ found. with_name count site found

abbrev of_count : MessageVersion → Data → ℕ → Result SiteStamp MessageFault
of_count version d count = site_in version d >>= λ site. with_site d count site

-- facts about uids and sites
pub record AreFound : Type 0 where
  pub uids : UidsAreFound
  pub tested : SiteTestIsExact
  pub digits : SiteDigitsAreNames

by_site_shaped : AreFound → (version : MessageVersion) (d : Data) (u : SiteStamp) → stamped_by (site_in version) d ≡ read u → IsSpelled u.0 × IsSiteName u.1.site
unfolding stamped_by
by_site_shaped all version d u e =
    let b = bind_ok (number_at (codes "count") d) (λ count. of_count version d count) u e in
    let c = bind_ok (site_in version d) (λ site. with_site d b.0 site) u b.2 in
    let o = bind_ok (or_fault BadShape (get (codes "name") d)) (λ found. with_name b.0 c.0 found) u c.2 in
    let stamp : StampAt (List ℕ) = record { count = b.0; site = c.0 } in
    let m = bind_ok (name_in o.0) (λ name. read (name, stamp)) u o.2 in
    subst (λ (v : SiteStamp). IsSpelled v.0 × IsSiteName v.1.site) (read_is (m.0, stamp) u m.2)
    (name_spelled all.uids o.0 m.0 m.1, site_sound all.tested all.digits version d c.0 c.1)

stamped_shaped : AreFound → (version : MessageVersion) (d : Data) (u : Name × Stamp) → stamped_in version d ≡ read u → IsShaped u
unfolding stamped_in
stamped_shaped all version d u e =
    let a = bind_ok (stamped_by (site_in version) d) (λ v. read (as_stamp v)) u e in
    let h = by_site_shaped all version d a.0 a.1 in
    let shaped : IsShaped (as_stamp a.0) = record { name = h.0; site = h.1 } in
    subst IsShaped (read_is (as_stamp a.0) u a.2) shaped

stamp_shaped : AreFound → (version : MessageVersion) (d : Data) (u : Name × Stamp) → stamp_in version d ≡ read u → IsShaped u
unfolding stamp_in
stamp_shaped all version d u e =
    let a = bind_ok (demand BadShape (has_only (codes "count" ∷ codes "name" ∷ codes "site" ∷ []) d)) (λ shape. stamped_in version d) u e in
    stamped_shaped all version d u a.2

all_shaped : AreFound → (version : MessageVersion) (k : ℕ) (ds : List Data) (m : Summary) → each (λ i d. stamp_in version d) k ds ≡ read m → AllByRecursion IsShaped m
unfolding each
all_shaped all version k [] m e = subst (AllByRecursion IsShaped) (read_is [] m e) tt
all_shaped all version k (d ∷ ds) m e =
    let a = bind_ok (stamp_in version d) (λ y. each (λ i x. stamp_in version x) (suc k) ds >>= λ ys. read (y ∷ ys)) m e in
    let b = bind_ok (each (λ i x. stamp_in version x) (suc k) ds) (λ ys. read (a.0 ∷ ys)) m a.2 in
    subst (AllByRecursion IsShaped) (read_is (a.0 ∷ b.0) m b.2) (stamp_shaped all version d a.0 a.1, all_shaped all version (suc k) ds b.0 b.1)

-- ---- judged
id_in_range : (n : Name) → IsSpelled n → is_name_in_range n ≡ true → IsName n
id_in_range (Policy id) h is = (leb-true 1 (length id) (left (nat_le 1 (length id)) (nat_le (length id) 256) is), leb-true (length id) 256 (right (nat_le 1 (length id)) (nat_le (length id) 256) is))
id_in_range (Entity uid) h is = h

judged_stamped : (k : ℕ) (u v : Name × Stamp) → IsShaped u → checked_stamp k u ≡ read v → IsStamped v
unfolding checked_stamp
judged_stamped k u v h e =
    let test = nat_le 1 u.1.count && nat_le u.1.count 1_000_000_000_000_000_000 in
    let a = bind_ok (demand (CountRange k) test) (λ counted. demand (BadEntry k bad_id) (is_name_in_range u.0) >>= λ named. read u) v e in
    let b = bind_ok (demand (BadEntry k bad_id) (is_name_in_range u.0)) (λ named. read u) v a.2 in
    let range = demanded (CountRange k) test a.0 a.1 in
    let stamped : IsStamped u = record {
      name = id_in_range u.0 h.name (demanded (BadEntry k bad_id) (is_name_in_range u.0) b.0 b.1);
      counted = leb-true 1 u.1.count (left (nat_le 1 u.1.count) (nat_le u.1.count 1_000_000_000_000_000_000) range);
      bounded = leb-true u.1.count 1_000_000_000_000_000_000 (right (nat_le 1 u.1.count) (nat_le u.1.count 1_000_000_000_000_000_000) range);
      site = h.site;
    } in
    subst IsStamped (read_is u v b.2) stamped

judged_same : (k : ℕ) (u v : Name × Stamp) → checked_stamp k u ≡ read v → u ≡ v
unfolding checked_stamp
judged_same k u v e =
    let test = nat_le 1 u.1.count && nat_le u.1.count 1_000_000_000_000_000_000 in
    let a = bind_ok (demand (CountRange k) test) (λ counted. demand (BadEntry k bad_id) (is_name_in_range u.0) >>= λ named. read u) v e in
    let b = bind_ok (demand (BadEntry k bad_id) (is_name_in_range u.0)) (λ named. read u) v a.2 in
    read_is u v b.2

-- a stamp that was read and passed the checks
pub judged_in_range : AreFound → (k : ℕ) (version : MessageVersion) (d : Data) (u v : Name × Stamp) → stamped_in version d ≡ read u → checked_stamp k u ≡ read v → IsStamped u
judged_in_range all k version d u v e h = subst IsStamped (sym (judged_same k u v h)) (judged_stamped k u v (stamped_shaped all version d u e) h)

all_stamped : (k : ℕ) (us m : Summary) → AllByRecursion IsShaped us → each checked_stamp k us ≡ read m → AreStamped m × (us ≡ m)
unfolding each
all_stamped k [] m h e = (subst AreStamped (read_is [] m e) tt, read_is [] m e)
all_stamped k (u ∷ us) m h e =
    let a = bind_ok (checked_stamp k u) (λ y. each checked_stamp (suc k) us >>= λ ys. read (y ∷ ys)) m e in
    let b = bind_ok (each checked_stamp (suc k) us) (λ ys. read (a.0 ∷ ys)) m a.2 in
    let rest = all_stamped (suc k) us b.0 h.1 b.1 in
    let same : u ∷ us ≡ a.0 ∷ b.0 = ap (λ (x : Name × Stamp). x ∷ us) (judged_same k u a.0 a.1) ∙ ap (λ (xs : Summary). a.0 ∷ xs) rest.1 in
    (subst AreStamped (read_is (a.0 ∷ b.0) m b.2) (judged_stamped k u a.0 h.0 a.1, rest.0), same ∙ read_is (a.0 ∷ b.0) m b.2)

stamps_shaped : AreFound → (version : MessageVersion) (d : Data) (m : Summary) → stamps_in version d ≡ read m → AllByRecursion IsShaped m × (ascend m ≡ true)
unfolding stamps_in stamps_of
stamps_shaped all version d m e =
    let a = bind_ok (or_fault BadShape (get (codes "stamps") d)) (λ found. or_fault BadShape (as_array found) >>= λ ds. stamps_of version ds >>= λ stamps. demand BadShape (ascend stamps) >>= λ up. read stamps) m e in
    let b = bind_ok (or_fault BadShape (as_array a.0)) (λ ds. stamps_of version ds >>= λ stamps. demand BadShape (ascend stamps) >>= λ up. read stamps) m a.2 in
    let c = bind_ok (stamps_of version b.0) (λ stamps. demand BadShape (ascend stamps) >>= λ up. read stamps) m b.2 in
    let g = bind_ok (demand BadShape (ascend c.0)) (λ up. read c.0) m c.2 in
    let same = read_is c.0 m g.2 in
    (subst (AllByRecursion IsShaped) same (all_shaped all version 0 (list_of b.0) c.0 c.1), subst (λ (x : Summary). ascend x ≡ true) same (demanded BadShape (ascend c.0) g.0 g.1))

-- ---- the whole
abbrev of_schema : MessageVersion → List ℕ → Data → List ℕ → Result Summary MessageFault
of_schema version label d schema = stamps_in version d >>= λ stamps. demand OtherSchema (bytes_eq schema label) >>= λ same. each checked_stamp 0 stamps

abbrev of_kind : MessageVersion → List ℕ → Data → List ℕ → Result Summary MessageFault
of_kind version label d kind = demand BadShape (bytes_eq kind (codes "summary")) >>= λ summary. or_fault BadShape (text_at (codes "schema") d) >>= λ schema. of_schema version label d schema

abbrev of_shape : MessageVersion → List ℕ → Data → Result Summary MessageFault
of_shape version label d = or_fault BadShape (text_at (codes "kind") d) >>= λ kind. of_kind version label d kind

abbrev of_version : MessageVersion → List ℕ → Data → Result Summary MessageFault
of_version version label d = demand BadShape (has_only (codes "kind" ∷ codes "schema" ∷ codes "stamps" ∷ codes "version" ∷ []) d) >>= λ shape. of_shape version label d

value_stamped : AreFound → (label : List ℕ) (d : Data) (m : Summary) → summary_in label d ≡ read m → AreStamped m × (ascend m ≡ true)
unfolding summary_in
value_stamped all label d m e =
    let b = bind_ok (version_in d) (λ version. of_version version label d) m e in
    let version = b.0 in
    let c = bind_ok (demand BadShape (has_only (codes "kind" ∷ codes "schema" ∷ codes "stamps" ∷ codes "version" ∷ []) d)) (λ shape. of_shape version label d) m b.2 in
    let f = bind_ok (or_fault BadShape (text_at (codes "kind") d)) (λ kind. of_kind version label d kind) m c.2 in
    let g = bind_ok (demand BadShape (bytes_eq f.0 (codes "summary"))) (λ summary. or_fault BadShape (text_at (codes "schema") d) >>= λ schema. of_schema version label d schema) m f.2 in
    let h = bind_ok (or_fault BadShape (text_at (codes "schema") d)) (λ schema. of_schema version label d schema) m g.2 in
    let s = bind_ok (stamps_in version d) (λ stamps. demand OtherSchema (bytes_eq h.0 label) >>= λ same. each checked_stamp 0 stamps) m h.2 in
    let o = bind_ok (demand OtherSchema (bytes_eq h.0 label)) (λ same. each checked_stamp 0 s.0) m s.2 in
    let shaped = stamps_shaped all version d s.0 s.1 in
    let whole = all_stamped 0 s.0 m shaped.0 o.2 in
    (whole.0, subst (λ (x : Summary). ascend x ≡ true) whole.1 shaped.1)

pub read_stamped : AreFound → (label bytes : List ℕ) (m : Summary) → summary_stated label bytes ≡ read m → AreStamped m × (ascend m ≡ true)
unfolding summary_stated
read_stamped all label bytes m e =
    let a = bind_ok (or_fault NotJson (json_of bytes)) (λ d. summary_in label d) m e in
    value_stamped all label a.0 m a.2
