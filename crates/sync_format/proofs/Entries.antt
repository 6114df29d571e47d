-- Entries and whole messages, written token by token.
use Rattle.std.proofs.Common.{◌≡◌, ◌∙◌, ℕ, List, [], ◌∷◌, map, Bool, true, false, Option, Some, sym, subst}
use Rattle.std.specs.Prelude.{codes, if◌then◌else◌}
use Rattle.json.specs.Token.{begin_object, end_object, key}
use Rattle.json.specs.Written.{Written}
use Rattle.serde_json.specs.Data.{number, unsigned, string, array, no_members, member, put}
use Rattle.serde_json.specs.View.{items_of}
use Rattle.stamped_store.specs.declared.entry.Stamp.{Stamp}
use Rattle.stamped_store.specs.Deltas.{is_unseen}
use Rattle.stamped_store.specs.Store.{Update}
use Rattle.sync_format.specs.Summaries.{name_json}
use Rattle.entity_uids.specs.Tokens.{AppendsTokens, IsReadAgain, AppendsValue, AppendsMember, AppendsAll}
use Rattle.entity_uids.proofs.Appending.{and_then, member_again, object_again, none_written, one_written}
use Rattle.sync_format.specs.Messages.{body_json, entry_json, message_json}
use Rattle.sync_format.specs.inner.Writing.{missing_json_by}

-- ---- an entry
entry_again : (u : Update) → IsReadAgain (body_json u.1.body) → IsReadAgain (number (unsigned u.1.count)) → IsReadAgain (name_json u.0) → IsReadAgain (entry_json u)
entry_again u b h k =
    let body = body_json u.1.body in
    let count = number (unsigned u.1.count) in
    let name = name_json u.0 in
    let site = member (codes "site") (string u.1.site) no_members in
    let first = member (codes "body") body no_members in
    object_again (member (codes "body") body (member (codes "count") count (member (codes "name") name site)))
    (member_again (codes "body") body (member (codes "count") count (member (codes "name") name site)) no_members b
    ∙ member_again (codes "count") count (member (codes "name") name site) first h
    ∙ member_again (codes "name") name site (put (codes "count") count first) k)

pub entry_written : {a b c d e f g : Written} (u : Update) (site : List ℕ) → site ≡ u.1.site → AppendsTokens a b (begin_object ∷ []) → AppendsMember b c (codes "body") (body_json u.1.body)
    → AppendsMember c d (codes "count") (number (unsigned u.1.count)) → AppendsMember d e (codes "name") (name_json u.0) → AppendsMember e f (codes "site") (string site)
    → AppendsTokens f g (end_object ∷ []) → AppendsValue a g (entry_json u)
entry_written {e = e} {f = f} u site same first body count name told last =
    let of_site : AppendsMember e f (codes "site") (string u.1.site) = subst (λ (s : List ℕ). AppendsMember e f (codes "site") (string s)) same told in
    record {
      written = and_then first (and_then body.written (and_then count.written (and_then name.written (and_then of_site.written last))));
      again = entry_again u body.again count.again name.again;
    }

-- ---- if it is news
pub no_news : (known : Option Stamp) (u : Update) (b : Bool) (w : Written) → b ≡ is_unseen known (Some u.1) → b ≡ false → AppendsAll w w (missing_json_by known u)
no_news known u b w is told = subst (λ (x : Bool). AppendsAll w w (if x then entry_json u ∷ [] else [])) (sym told ∙ is) (none_written w)

pub one_news : {v w : Written} (known : Option Stamp) (u : Update) (b : Bool) → b ≡ is_unseen known (Some u.1) → b ≡ true → AppendsValue v w (entry_json u) → AppendsAll v w (missing_json_by known u)
one_news {v} {w} known u b is told h = subst (λ (x : Bool). AppendsAll v w (if x then entry_json u ∷ [] else [])) (sym told ∙ is) (one_written h)

-- ---- a message
pub message_written : {a b c d e f g h : Written} (kind label : List ℕ) (us : List Update) → AppendsTokens a b (begin_object ∷ []) → AppendsTokens b c (key (codes "entries") ∷ [])
    → AppendsValue c d (array (items_of (map entry_json us))) → AppendsMember d e (codes "kind") (string kind) → AppendsMember e f (codes "schema") (string label)
    → AppendsMember f g (codes "version") (number (unsigned 2)) → AppendsTokens g h (end_object ∷ []) → AppendsValue a h (message_json kind label us)
message_written kind label us first named entries of_kind schema version last =
    let all = array (items_of (map entry_json us)) in
    let two = number (unsigned 2) in
    let end = member (codes "version") two no_members in
    let rest = member (codes "kind") (string kind) (member (codes "schema") (string label) end) in
    let before = member (codes "entries") all (member (codes "kind") (string kind) (member (codes "schema") (string label) no_members)) in
    record {
      written = and_then first (and_then named (and_then entries.written (and_then of_kind.written (and_then schema.written (and_then version.written last)))));
      again = object_again (member (codes "entries") all rest)
          (member_again (codes "entries") all rest no_members entries.again ∙ member_again (codes "version") two no_members before version.again);
    }
