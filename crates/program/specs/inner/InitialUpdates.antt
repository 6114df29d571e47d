-- Defines how the initial site of a run applies the updates of a message.
use Rattle.std.specs.Prelude.{◌≡◌, ℕ, List, ◌++◌}
use Rattle.program_drills.specs.policy_grammar.declared.policy.Policy.{Policy}
use Rattle.program_drills.specs.entity_data.declared.entity.Entity.{Entity}
use Rattle.program_lines.specs.stamped_store.Store.{store_of, updates}
use Rattle.program_exchanges.specs.sync_format.declared.update.Update.{Update as SentUpdate}
use Rattle.program_exchanges.specs.sync_format.Updates.{plain_updates}
use Rattle.site_loading.specs.site.SiteViews.{SiteView, schema_of, store_in, IsSameSite}
use Rattle.program_drills.specs.sync_messages.Messages.{IsMessageOf}

-- `TakesState before bytes after` holds if the site `before` applied all updates of the message `bytes` and became
-- `after`.
abbrev pub TakesState : SiteView → List ℕ → SiteView → Type 0
TakesState before bytes after = (us : List (SentUpdate Policy Entity)) × IsMessageOf (schema_of before) bytes us
    × (store_in after ≡ store_of (updates (store_in before) ++ plain_updates us)) × IsSameSite before after
