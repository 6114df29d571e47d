-- Defines the codes of a site's errors, and a site's error for each error of the parser, the validator and messages.
-- Source: docs/codes.md.
-- Rules of this product: the codes.
use Rattle.std.specs.Prelude.{ℕ, Option, Some, None}
use Rattle.site_store.specs.policy_grammar.Faults as policy_faults
use Rattle.site_store.specs.policy_grammar.declared.fault.ReadFault.{ReadFault}
use Rattle.site_store.specs.policy_grammar.declared.fault.ReadFault.TheVariants as reading
use Rattle.entities.specs.Faults as entity_faults
use Rattle.sync_messages.specs.typing.Codes as check_faults
use Rattle.sync_messages.specs.typing.declared.fault.TypeFault.{TypeFault}
use Rattle.sync_messages.specs.typing.declared.fault.TypeFault.TheVariants as checking
use Rattle.sync_messages.specs.sync_format.Faults as message_faults
use Rattle.sync_messages.specs.sync_format.declared.fault.MessageFault.{MessageFault}
use Rattle.sync_messages.specs.sync_format.declared.fault.MessageFault.TheVariants as sending
use Rattle.site.specs.declared.fault.SiteFault.{SiteFault}
use Rattle.site.specs.declared.fault.SiteFault.TheVariants as fault

-- `code_of f` is the code of the error `f`. An error of a policy, of validation, of an entity or of a message has the
-- code of the error that `f` holds. An error of a request has 63, and the code of the error in `f` is reported within
-- (`within_of f`).
abbrev pub code_of : SiteFault → ℕ
code_of fault.NoMemory = 1
code_of (fault.Policy f) = policy_faults.code_of f
code_of (fault.Check f) = check_faults.code_of f
code_of (fault.Entity f) = entity_faults.code_of f
code_of (fault.Message f) = message_faults.code_of f
code_of fault.NotThere = 60
code_of fault.WouldCycle = 61
code_of fault.ClockFull = 62
code_of (fault.Request f) = 63

-- `within_of f` is the code that is reported within the error `f`, if there is one.
abbrev pub within_of : SiteFault → Option ℕ
within_of (fault.Message f) = message_faults.within_of f
within_of (fault.Request f) = Some (entity_faults.code_of f)
within_of _ = None

-- `of_reading f` is the site's error for the parser's error `f`; `NoMemory` stays `NoMemory`.
abbrev pub of_reading : ReadFault → SiteFault
of_reading reading.NoMemory = fault.NoMemory
of_reading f = fault.Policy f

-- `of_checking f` is the site's error for the validator's error `f`; `NoMemory` stays `NoMemory`.
abbrev pub of_checking : TypeFault → SiteFault
of_checking checking.NoMemory = fault.NoMemory
of_checking f = fault.Check f

-- `of_message f` is the site's error for the error `f` of a message; `NoMemory` stays `NoMemory`.
abbrev pub of_message : MessageFault → SiteFault
of_message sending.NoMemory = fault.NoMemory
of_message f = fault.Message f
