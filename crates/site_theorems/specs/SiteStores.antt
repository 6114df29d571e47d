-- Defines the updates that each site of a system applied, over relations between bytes and what they describe, and the
-- theorem that the site's store is their join.
-- Rules of this product: sites have numbers from 1 and are empty at first; an event that names a site, a message or a
-- summary that does not exist applies nothing, and neither does an event that makes a message or a summary.
use Rattle.std.specs.Prelude.{◌≡◌, ℕ, List, [], ◌∷◌, ◌++◌, Option, Some}
use Rattle.site.specs.schema.Schemas.{StatedSchema}
use Rattle.site.specs.stamped_store.Store.{Store, Update, store_of, IsStoreOf}
use Rattle.site.specs.Inputs.{Input}
use Rattle.site.specs.declared.event.Event.{Event}
use Rattle.site.specs.declared.event.EventReply.{EventReply}
use Rattle.site.specs.declared.event.EventReply.TheVariants.{Replied}
use Rattle.site.specs.Sites.{SiteName, numbered, World}
use Rattle.site.specs.Worlds.{input_of, IsWorld}
use Rattle.site_theorems.specs.Steps.{IsStep}
use Rattle.site_theorems.specs.Runs.{Applies}

-- `AppliesIn schema i a us` holds if `us` are the updates that an event with the reply `a` applied at its site, a site
-- of `schema`. Here `i` is the input that the event gave the site, if it gave one.
abbrev pub AppliesIn : StatedSchema → Option Input → EventReply → List Update → Type 0
AppliesIn schema (Some i) (Replied r) us = Applies schema i r us
AppliesIn schema _ _ us = us ≡ []

-- `AppliesAt schema k w e a us` holds if `us` are the updates that the event `e` with the reply `a` applied at the site
-- of `schema` with the number `k`. The state `w` has the messages and summaries that were made.
pub data AppliesAt (schema : StatedSchema) (k : ℕ) (w : World) (e : Event) (a : EventReply) (us : List Update) : Type 0
  where
    here : e.site ≡ k → AppliesIn schema (input_of w e.operation) a us → AppliesAt schema k w e a us
    elsewhere : (e.site ≡ k → ⊥) → us ≡ [] → AppliesAt schema k w e a us

-- `AppliedAt schema k w es rs us` holds if `us` are the updates that the events `es` with the replies `rs` applied, in
-- their order, at the site of `schema` with the number `k`. The state `w` has the messages and summaries that were
-- made.
abbrev pub AppliedAt : StatedSchema → ℕ → World → List Event → List EventReply → List Update → Type 0
AppliedAt schema k w [] [] us = us ≡ []
AppliedAt schema k w [] (a ∷ rs) us = ⊥
AppliedAt schema k w (e ∷ es) [] us = ⊥
AppliedAt schema k w (e ∷ es) (a ∷ rs) us =
    (first : List Update) × (more : List Update) × AppliesAt schema k w e a first × AppliedAt schema k w es rs more
    × (us ≡ first ++ more)

-- `HoldsApplied schema k es rs w` holds if the events `es` with the replies `rs` applied exactly one list of updates at
-- the site of `schema` with the number `k`, and the store of this site in `w` is the join of this list.
pub record HoldsApplied (schema : StatedSchema) (k : ℕ) (es : List Event) (rs : List EventReply) (w : World) : Type 0
  where
    pub us : List Update
    pub applied : AppliedAt schema k w es rs us
    pub only : (vs : List Update) → AppliedAt schema k w es rs vs → vs ≡ us
    pub t : Store
    pub held : numbered w.stores k ≡ Some t
    pub greatest : IsStoreOf us t
    pub store : t ≡ store_of us

-- `SitesHoldApplied`: in each state of each system, the store of each site is the join of the updates that the site
-- applied.
abbrev pub SitesHoldApplied : Type 0
SitesHoldApplied = (schema : StatedSchema) (sites : List SiteName) (es : List Event) (rs : List EventReply) (w : World)
    → IsWorld (IsStep schema) sites es rs w → (k : ℕ) (n : SiteName) → numbered sites k ≡ Some n
    → HoldsApplied schema k es rs w
