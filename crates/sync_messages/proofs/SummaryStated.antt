-- A summary that is read is the one that bytes state, and its error the cause.
use Rattle.std.proofs.Common.{◌≡◌, Result, Ok, Err, MatchResult}
use Rattle.json_words.specs.ReadsAs.{ReadsAs}
use Rattle.stamped_store.specs.Deltas.{Summary}
use Rattle.sync_format.specs.declared.fault.MessageFault.{MessageFault}
use Rattle.sync_format.specs.declared.fault.MessageFault.TheVariants.{NoMemory}
use Rattle.validator.specs.schema.Agreement.{Gives}

pub summary_as_stated : (r read : Result Summary MessageFault) (Describes : Summary → Type 0) (Refuses : MessageFault → Type 0)
    → Gives read Describes Refuses → ReadsAs NoMemory (λ m. m) r read → MatchResult r Describes (λ f. (f ≡ NoMemory → ⊥) → Refuses f)
summary_as_stated (Ok m) read Describes Refuses gives h = (gives.value m).0 h
summary_as_stated (Err f) read Describes Refuses gives h = λ apart. (gives.fault f).0 (h apart)
