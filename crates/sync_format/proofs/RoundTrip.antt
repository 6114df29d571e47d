-- A summary's JSON is read as the summary.
use Rattle.std.proofs.Common.{◌≡◌, ◌∙◌, ℕ, suc, ◌≤◌, List, [], ◌∷◌, map, Bool, true, false, Ok, Some, refl, sym, ap}
use Rattle.std.proofs.Common.{subst, arith, T}
use Rattle.std.specs.Prelude.{◌&&◌}
use Rattle.std.specs.Ordering.{is_lt}
use Rattle.std.specs.Str.{bytes_eq}
use Rattle.std.specs.FinMap.{entries_sorted}
use Rattle.std.specs.FinMap.Entries.{is_sorted, below_all}
use Rattle.std.proofs.lemmas.Bool.{le-leb}
use Rattle.std.proofs.lemmas.Slice.Eq.{bytes_eq-Decides}
use Rattle.serde_json.specs.Data.{Data, depth, items_depth}
use Rattle.serde_json.specs.Read.{max_depth}
use Rattle.serde_json.specs.View.{items_of}
use Rattle.json_words.specs.Each.{each, list_of}
use Rattle.json_words.specs.Json.{json_of}
use Rattle.plain.specs.Words.{IsPath}
use Rattle.values.specs.declared.name.Name.{Name}
use Rattle.values.specs.declared.name.Name.TheVariants.{Policy, Entity}
use Rattle.values.specs.declared.entity_uid.EntityUid.{EntityUid}
use Rattle.values.specs.Names.{name_cmp}
use Rattle.values.specs.Paths.{PathTestIsExact}
use Rattle.entity_uids.specs.Uids.{uid_in, plain_uid_in, uid_json}
use Rattle.stamped_store.specs.declared.entry.Stamp.{Stamp}
use Rattle.stamped_store.specs.Deltas.{Summary, stamp_of, summary_of}
use Rattle.stamped_store.specs.Store.{Store, Update, updates}
use Rattle.stamped_store.specs.SiteNames.{SiteTestIsExact}
use Rattle.stamped_store.specs.Raised.{IsSiteNumber}
use Rattle.sync_format.specs.declared.version.MessageVersion.TheVariants.{One, Two}
use Rattle.sync_format.specs.Summaries.{version_in, numbered_in, raised_in, named_in, ascend, IsName, IsStamped}
use Rattle.sync_format.specs.Summaries.{AreStamped, name_json, stamp_json, summary_json, policy_in, entity_name_in}
use Rattle.sync_format.specs.Summaries.{name_in, stamped_by, stamped_in, stamp_in, stamps_of, stamps_in}
use Rattle.sync_format.specs.Summaries.{is_name_in_range, checked_stamp, summary_in, summary_stated}
use Rattle.sync_format.specs.NumberedSummaries.{NumberedStamp, HaveNumbers, raise_stamp, raise_stamps, numbered_stamp_json}
use Rattle.sync_format.specs.NumberedSummaries.{numbered_summary_json}

-- ---- one stamp
uid_again : PathTestIsExact → (uid : EntityUid) → IsPath uid.type_name → uid_in (uid_json uid) ≡ Some uid
unfolding uid_in plain_uid_in
uid_again told uid path = rw ((told uid.type_name).1 path) refl

pub name_again : PathTestIsExact → (n : Name) → IsName n → name_in (name_json n) ≡ Ok n
unfolding name_in policy_in entity_name_in
name_again told (Policy id) h = refl
name_again told (Entity uid) h = rw (uid_again told uid h) refl

stamp_again : PathTestIsExact → SiteTestIsExact → (u : Name × Stamp) → IsStamped u → stamp_in Two (stamp_json u) ≡ Ok u
unfolding stamp_in stamped_in stamped_by named_in
stamp_again told sites u h = rw ((sites u.1.site).1 h.site, name_again told u.0 h.name) refl

id_again : (n : Name) → IsName n → is_name_in_range n ≡ true
id_again (Policy id) h = rw (le-leb _ _ h.0, le-leb _ _ h.1) refl
id_again (Entity uid) h = refl

pub judged_again : (k : ℕ) (u : Name × Stamp) → IsStamped u → checked_stamp k u ≡ Ok u
unfolding checked_stamp
judged_again k u h = rw (le-leb _ _ h.counted, le-leb _ _ h.bounded, id_again u.0 h.name) refl

-- ---- all stamps
stamps_again : PathTestIsExact → SiteTestIsExact → (k : ℕ) (m : Summary) → AreStamped m → each (λ i d. stamp_in Two d) k (list_of (items_of (map stamp_json m))) ≡ Ok m
unfolding each
stamps_again told sites k [] h = refl
stamps_again told sites k (u ∷ m) h = rw (stamp_again told sites u h.0, stamps_again told sites (suc k) m h.1) refl

all_judged : (k : ℕ) (m : Summary) → AreStamped m → each checked_stamp k m ≡ Ok m
unfolding each
all_judged k [] h = refl
all_judged k (u ∷ m) h = rw (judged_again k u h.0, all_judged (suc k) m h.1) refl

bytes_eq_same : (s : List ℕ) → bytes_eq s s ≡ true
bytes_eq_same s = (bytes_eq-Decides s s).1 refl

stamps_in_again : PathTestIsExact → SiteTestIsExact → (label : List ℕ) (m : Summary) → AreStamped m → ascend m ≡ true → stamps_in Two (summary_json label m) ≡ Ok m
unfolding stamps_in stamps_of
stamps_in_again told sites label m h up = rw (stamps_again told sites 0 m h, up) refl

pub summary_again : PathTestIsExact → SiteTestIsExact → (label : List ℕ) (m : Summary) → AreStamped m → ascend m ≡ true → summary_in label (summary_json label m) ≡ Ok m
unfolding summary_in version_in
summary_again told sites label m h up = rw (stamps_in_again told sites label m h up, bytes_eq_same label) (all_judged 0 m h)

-- ---- the same of version 1
numbered_stamp_again : PathTestIsExact → (n : NumberedStamp) → IsSiteNumber n.1.site → IsName n.0 → stamp_in One (numbered_stamp_json n) ≡ Ok (raise_stamp n)
unfolding stamp_in stamped_in stamped_by raised_in numbered_in
numbered_stamp_again told n h named = rw (le-leb _ _ h.0, le-leb _ _ h.1, name_again told n.0 named) refl

numbered_stamps_again : PathTestIsExact → (k : ℕ) (ns : List NumberedStamp) → HaveNumbers ns → AreStamped (raise_stamps ns)
    → each (λ i d. stamp_in One d) k (list_of (items_of (map numbered_stamp_json ns))) ≡ Ok (raise_stamps ns)
unfolding each
numbered_stamps_again told k [] h s = refl
numbered_stamps_again told k (n ∷ ns) h s = rw (numbered_stamp_again told n h.0 s.0.name, numbered_stamps_again told (suc k) ns h.1 s.1) refl

numbered_stamps_in_again : PathTestIsExact → (label : List ℕ) (ns : List NumberedStamp) → HaveNumbers ns → AreStamped (raise_stamps ns) → ascend (raise_stamps ns) ≡ true
    → stamps_in One (numbered_summary_json label ns) ≡ Ok (raise_stamps ns)
unfolding stamps_in stamps_of
numbered_stamps_in_again told label ns h s up = rw (numbered_stamps_again told 0 ns h s, up) refl

pub numbered_again : PathTestIsExact → (label : List ℕ) (ns : List NumberedStamp) → HaveNumbers ns → AreStamped (raise_stamps ns) → ascend (raise_stamps ns) ≡ true
    → summary_in label (numbered_summary_json label ns) ≡ Ok (raise_stamps ns)
unfolding summary_in version_in
numbered_again told label ns h s up = rw (numbered_stamps_in_again told label ns h s up, bytes_eq_same label) (all_judged 0 (raise_stamps ns) s)

-- ---- the summary of a store ascends
left_of : (a b : Bool) → T (a && b) → T a
left_of true b h = tt
left_of false b h = h

right_of : (a b : Bool) → T (a && b) → T b
right_of true b h = h
right_of false b h = absurd h

is_true : (b : Bool) → T b → b ≡ true
is_true true h = refl
is_true false h = absurd h

both : (a b : Bool) → a ≡ true → b ≡ true → (a && b) ≡ true
both true b p q = q
both false b p q = absurd (cc)

abbrev stamped : Update → Name × Stamp
stamped u = (u.0, stamp_of u.1)

ascend_sorted : (us : List Update) → T (is_sorted name_cmp us) → ascend (map stamped us) ≡ true
ascend_sorted [] h = refl
ascend_sorted (u ∷ []) h = refl
ascend_sorted (u ∷ v ∷ us) h =
    let first : T (below_all name_cmp u.0 (v ∷ us)) = left_of (below_all name_cmp u.0 (v ∷ us)) (is_sorted name_cmp (v ∷ us)) h in
    both (is_lt (name_cmp u.0 v.0)) (ascend (map stamped (v ∷ us)))
    (is_true (is_lt (name_cmp u.0 v.0)) (left_of (is_lt (name_cmp u.0 v.0)) (below_all name_cmp u.0 us) first))
    (ascend_sorted (v ∷ us) (right_of (below_all name_cmp u.0 (v ∷ us)) (is_sorted name_cmp (v ∷ us)) h))

pub summary_ascends : (s : Store) → ascend (summary_of s) ≡ true
summary_ascends s = ascend_sorted (updates s) (entries_sorted s)

-- ---- the text
depth_name : (n : Name) → depth (name_json n) ≤ 2
depth_name (Policy id) = omega arith
depth_name (Entity uid) = omega arith

depth_stamp : (u : Name × Stamp) → depth (stamp_json u) ≤ 3
depth_stamp u = omega (arith, depth_name u.0)

depth_stamps : (m : Summary) → items_depth (items_of (map stamp_json m)) ≤ 3
depth_stamps [] = omega arith
depth_stamps (u ∷ m) = omega (arith, depth_stamp u, depth_stamps m)

pub depth_summary : (label : List ℕ) (m : Summary) → depth (summary_json label m) ≤ max_depth
depth_summary label m = omega (arith, depth_stamps m)

-- what was written of a value that is a summary's is read as the summary
pub stated_back : (label bytes : List ℕ) (m : Summary) (value : Data) → value ≡ summary_json label m → (depth value ≤ max_depth → json_of bytes ≡ Some value)
    → summary_in label (summary_json label m) ≡ Ok m → summary_stated label bytes ≡ Ok m
unfolding summary_stated
stated_back label bytes m value is back again =
    let flat : depth value ≤ max_depth = subst (λ (d : Data). depth d ≤ max_depth) (sym is) (depth_summary label m) in
    let read : json_of bytes ≡ Some (summary_json label m) = back flat ∙ ap (λ (d : Data). Some d) is in
    rw read again
