-- A fault of the policies, or want of memory.
use Rattle.answer_lines.specs.policy_grammar.declared.fault.ReadFault.{ReadFault}
use Rattle.answer_lines.specs.policy_grammar.declared.fault.ReadFault.TheVariants as fault
use Rattle.plain.specs.AllocationErrors.{OrNoMemory}

-- a reason that is no want of memory may be given in other words
pub weaker : (R S : ReadFault → Type 0) → ((why : ReadFault) → R why → S why) → (why : ReadFault) → OrNoMemory fault.NoMemory R why
    → OrNoMemory fault.NoMemory S why
weaker R S h why is_fault other = h why (is_fault other)
