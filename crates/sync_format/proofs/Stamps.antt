-- Names, stamps and summaries, written token by token.
use Rattle.std.proofs.Common.{◌≡◌, ◌∙◌, ℕ, List, [], ◌∷◌, ◌++◌, map, refl, sym, ap, subst}
use Rattle.std.specs.Prelude.{codes}
use Rattle.std.specs.declared.alloc.Global.{Global}
use Rattle.std.specs.declared.string.String.{String}
use Rattle.std.proofs.lemmas.List.{map-append}
use Rattle.json.specs.Token.{begin_object, end_object, begin_array, end_array, key}
use Rattle.json.specs.Written.{Written}
use Rattle.serde_json.specs.Data.{Data, number, unsigned, string, array, no_members, member, put}
use Rattle.serde_json.specs.View.{items_of}
use Rattle.values.specs.declared.entity_uid.EntityUid.{EntityUid}
use Rattle.values.specs.declared.name.Name.{Name}
use Rattle.stamped_store.specs.declared.entry.Entry.{Entry}
use Rattle.stamped_store.specs.declared.entry.Stamp.{Stamp}
use Rattle.stamped_store.specs.Abstraction.{abstract_entries}
use Rattle.stamped_store.specs.Deltas.{Summary, stamp_of, summary_of}
use Rattle.stamped_store.specs.Store.{StoreEntries, Update, abstract_store, abstract_updates, updates, id_name}
use Rattle.stamped_store.specs.Store.{entity_name}
use Rattle.sync_format.specs.Summaries.{name_json, stamp_json, summary_json}
use Rattle.entity_uids.specs.Tokens.{AppendsTokens, IsReadAgain, AppendsValue, AppendsMember, AppendsAll}
use Rattle.sync_format.specs.inner.SummaryWriting.{stamps_json}
use Rattle.entity_uids.proofs.Appending.{and_then, member_again, object_again, both_written, one_written, array_written}

-- ---- a stamp
stamp_again : (u : Name × Stamp) → IsReadAgain (number (unsigned u.1.count)) → IsReadAgain (name_json u.0) → IsReadAgain (stamp_json u)
stamp_again u h k =
    let count = number (unsigned u.1.count) in
    let site = member (codes "site") (string u.1.site) no_members in
    object_again (member (codes "count") count (member (codes "name") (name_json u.0) site))
    (member_again (codes "count") count (member (codes "name") (name_json u.0) site) no_members h ∙ member_again (codes "name") (name_json u.0) site (member (codes "count") count no_members) k)

pub stamp_written : {a b c d e f : Written} (u : Name × Stamp) (site : List ℕ) → site ≡ u.1.site → AppendsTokens a b (begin_object ∷ []) → AppendsMember b c (codes "count") (number (unsigned u.1.count))
    → AppendsMember c d (codes "name") (name_json u.0) → AppendsMember d e (codes "site") (string site) → AppendsTokens e f (end_object ∷ []) → AppendsValue a f (stamp_json u)
stamp_written {d = d} {e = e} u site same first count name told last =
    let of_site : AppendsMember d e (codes "site") (string u.1.site) = subst (λ (s : List ℕ). AppendsMember d e (codes "site") (string s)) same told in
    record {
      written = and_then first (and_then count.written (and_then name.written (and_then of_site.written last)));
      again = stamp_again u count.again name.again;
    }

-- ---- those of entries
module _ {K P : Type 0} (name : K → Name) where
  stamps_more : (es : List (K × Entry P)) (e : K × Entry P) → stamps_json name es ++ stamp_json (name e.0, e.1.stamp) ∷ [] ≡ stamps_json name (es ++ e ∷ [])
  stamps_more [] e = refl
  stamps_more (x ∷ es) e = ap (λ (ds : List Data). stamp_json (name x.0, x.1.stamp) ∷ ds) (stamps_more es e)

  pub one_more : {a b c : Written} (es : List (K × Entry P)) (e : K × Entry P) → AppendsAll a b (stamps_json name es) → AppendsValue b c (stamp_json (name e.0, e.1.stamp))
      → AppendsAll a c (stamps_json name (es ++ e ∷ []))
  one_more {a} {b} {c} es e h k = subst (AppendsAll a c) (stamps_more es e) (both_written h (one_written k))

-- policies and then entities
abbrev stamped : Update → Name × Stamp
stamped u = (u.0, stamp_of u.1)

in_order : {P E : Type 0} (k : StoreEntries P E) → updates (abstract_store k) ≡ abstract_updates k
    → stamps_json id_name k.policies ++ stamps_json entity_name k.entities ≡ map stamp_json (summary_of (abstract_store k))
in_order k order =
    let ps = abstract_entries id_name k.policies in
    let es = abstract_entries entity_name k.entities in
    sym (ap (λ (us : List Update). map stamp_json (map stamped us)) order ∙ ap (map stamp_json) (map-append stamped ps es) ∙ map-append stamp_json (map stamped ps) (map stamped es))

pub store_written : {P E : Type 0} {a b c d f : Written} (k : StoreEntries P E) (ps : List (String Global × Entry P)) (es : List (EntityUid × Entry E))
    → updates (abstract_store k) ≡ abstract_updates k → ps ≡ k.policies → es ≡ k.entities
    → AppendsTokens a b (begin_array ∷ []) → AppendsAll b c (stamps_json id_name ps) → AppendsAll c d (stamps_json entity_name es) → AppendsTokens d f (end_array ∷ [])
    → AppendsValue a f (array (items_of (map stamp_json (summary_of (abstract_store k)))))
store_written {a = a} {b = b} {c = c} {d = d} {f = f} k ps es order of_policies of_entities first policies entities last =
    let front : AppendsAll b c (stamps_json id_name k.policies) = subst (λ xs. AppendsAll b c (stamps_json id_name xs)) of_policies policies in
    let back : AppendsAll c d (stamps_json entity_name k.entities) = subst (λ xs. AppendsAll c d (stamps_json entity_name xs)) of_entities entities in
    array_written first (subst (AppendsAll b d) (in_order k order) (both_written front back)) last

-- ---- a summary
pub summary_written : {a b c d e f g h : Written} (label : List ℕ) (m : Summary) → AppendsTokens a b (begin_object ∷ []) → AppendsMember b c (codes "kind") (string (codes "summary"))
    → AppendsMember c d (codes "schema") (string label) → AppendsTokens d e (key (codes "stamps") ∷ []) → AppendsValue e f (array (items_of (map stamp_json m)))
    → AppendsMember f g (codes "version") (number (unsigned 2)) → AppendsTokens g h (end_object ∷ []) → AppendsValue a h (summary_json label m)
summary_written label m first kind schema named stamps version last =
    let all = array (items_of (map stamp_json m)) in
    let two = number (unsigned 2) in
    let end = member (codes "version") two no_members in
    let before = member (codes "kind") (string (codes "summary")) (member (codes "schema") (string label) no_members) in
    record {
      written = and_then first (and_then kind.written (and_then schema.written (and_then named (and_then stamps.written (and_then version.written last)))));
      again = object_again (member (codes "kind") (string (codes "summary")) (member (codes "schema") (string label) (member (codes "stamps") all end)))
          (member_again (codes "stamps") all end before stamps.again ∙ member_again (codes "version") two no_members (put (codes "stamps") all before) version.again);
    }
