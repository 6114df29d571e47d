-- Defines the errors of a fetch as errors of a pull.
use Rattle.schema_decisions.specs.answer_lines.Refusals.{no_memory}
use Rattle.http_streams.specs.declared.fetch.FetchFault.{FetchFault}
use Rattle.http_streams.specs.declared.fetch.FetchFault.TheVariants as fetch
use Rattle.program_exchanges.specs.declared.fault.NetworkFault.TheVariants as network
use Rattle.program_exchanges.specs.declared.fault.PullFault.{PullFault}
use Rattle.program_exchanges.specs.declared.fault.PullFault.TheVariants.{Refused, Network}

-- `pull_fault f` is the error `f` of a fetch as an error of a pull.
abbrev pub pull_fault : FetchFault → PullFault
pull_fault fetch.NoMemory = Refused no_memory
pull_fault f = Network (network.Fetch f)
