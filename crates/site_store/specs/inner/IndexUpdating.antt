-- Defines when a store's policy index is valid except for one id, as during an incremental update.
use Rattle.std.specs.Prelude.{◌≡◌, ℕ, List, Option, Some, None, false}
use Rattle.std.specs.Str.{bytes_eq}
use Rattle.scope_index.specs.policy_grammar.declared.policy.Policy.{Policy}
use Rattle.scope_index.specs.Keys.{Kept, kept_at}
use Rattle.site_store.specs.Indexed.{PolicyEntries, policy_at}

-- `AreIndexedBut id es kept` holds if, for all ids except `id`, the index with the content `kept` has exactly the
-- policies of the entries `es`, each under its id.
abbrev pub AreIndexedBut : List ℕ → PolicyEntries → Kept → Type 0
AreIndexedBut id es kept = (q : List ℕ) → bytes_eq id q ≡ false → kept_at kept q ≡ policy_at es q

-- `noted found before` is the policy that the index has for an id after an entry was added under this id. It is
-- `found`, the policy of the entry; if the entry is a tombstone, it is `before`, the policy that the index had.
abbrev pub noted : Option Policy → Option Policy → Option Policy
noted None before = before
noted (Some p) before = Some p
