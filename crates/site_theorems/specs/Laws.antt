-- Defines the theorem that the steps of a site, as its contracts cite them, are those over relations between bytes and
-- what they describe.
use Rattle.std.specs.Prelude.{◌↔◌, ℕ, List}
use Rattle.site.specs.schema.Schemas.{StatedSchema}
use Rattle.site.specs.stamped_store.Store.{Store}
use Rattle.site.specs.Inputs.{Input}
use Rattle.site.specs.declared.reply.Reply.{Reply}
use Rattle.site.specs.Runs.{Step}
use Rattle.site_theorems.specs.Steps.{IsStep}

-- `StepsAreAsStated`: `Step`, which the contracts of a site cite, and `IsStep`, which rests on relations between bytes
-- and what they describe, relate the same inputs, replies and stores.
abbrev pub StepsAreAsStated : Type 0
StepsAreAsStated = (schema : StatedSchema) (n : List ℕ) (s : Store) (i : Input) (r : Reply) (t : Store)
    → Step schema n s i r t ↔ IsStep schema n s i r t
