-- Defines the theorem that no answer of a site has an error of type, of an attribute or of an extension function.
-- Source: cedar-spec, cedar-lean/Cedar/Thm/Validation.lean (`validation_is_sound`).
use Rattle.std.specs.Prelude.{ℕ, List, Ok}
use Rattle.std.specs.List.{AllByRecursion}
use Rattle.site_store.specs.schema.Schemas.{StatedSchema, IsSchemaOf}
use Rattle.site_store.specs.stamped_store.Store.{Store}
use Rattle.site.specs.SoundAnswers.{HasPermittedErrors}
use Rattle.site.specs.Inputs.{Input}
use Rattle.site.specs.declared.reply.Reply.{Reply}
use Rattle.site.specs.declared.reply.Reply.TheVariants as reply
use Rattle.site.specs.Runs.{Run}

-- `IsPermittedReply r` holds if the reply `r` is not an answer to a request, or each error in the answer is
-- `EntityDoesNotExist` or `ArithBoundsError`.
abbrev pub IsPermittedReply : Reply → Type 0
IsPermittedReply (reply.Answered (Ok a)) = HasPermittedErrors a
IsPermittedReply _ = Unit {0}

-- `ArePermittedReplies replies` holds if each of `replies` is permitted.
abbrev pub ArePermittedReplies : List Reply → Type 0
ArePermittedReplies replies = AllByRecursion IsPermittedReply replies

-- `RunsAreSound`: under a schema that bytes describe, all replies of a run are permitted, whatever the first store.
abbrev pub RunsAreSound : Type 0
RunsAreSound = (bytes : List ℕ) (schema : StatedSchema) → IsSchemaOf bytes schema → (n : List ℕ) (s : Store)
    (inputs : List Input) (replies : List Reply) (t : Store) → Run schema n s inputs replies t
    → ArePermittedReplies replies
