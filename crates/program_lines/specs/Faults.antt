-- Defines why arguments are not a command: an error that clap may report for them, a request for help, an invalid site
-- name, a missing option or an invalid number, or out of memory.
-- Source: the contracts of the crate clap.
-- Rules of this product: the site name is checked after all that clap checks.
use Rattle.std.specs.Prelude.{◌≡◌, Bool, true, false, List, [], ⊤}
use Rattle.clap.specs.Words.{Text, IsAmong, fault_of, kind_of, subcommand_of}
use Rattle.clap.specs.declared.error.Error.{Error}
use Rattle.clap.specs.declared.error.ErrorKind.{ErrorKind}
use Rattle.clap.specs.declared.error.ErrorKind.TheVariants.{DisplayHelp, DisplayVersion, OutOfMemory}
use Rattle.program_lines.specs.declared.fault.LineFault.{LineFault}
use Rattle.program_lines.specs.declared.fault.LineFault.TheVariants.{Help, Words, Site, Incomplete, NotText, NoMemory}
use Rattle.program_lines.specs.Apps.{site_app}
use Rattle.program_lines.specs.Lines.{IsNoLine, HasInvalidSite}

-- `is_help kind` tests whether `kind` is a request for help or for the version.
abbrev pub is_help : ErrorKind → Bool
is_help DisplayHelp = true
is_help DisplayVersion = true
is_help _ = false

-- `is_memory kind` tests whether `kind` is a failed allocation.
abbrev pub is_memory : ErrorKind → Bool
is_memory OutOfMemory = true
is_memory _ = false

-- `IsReportedFault words error` holds if the kind of `error` is among the kinds of error that clap may report for
-- `words`.
abbrev pub IsReportedFault : List Text → Error → Type 0
IsReportedFault words error = IsAmong (kind_of error) (fault_of site_app words)

-- `IsFaultOf words f` holds if `f` says why `words` are not a command. `NoMemory` is possible for any arguments.
abbrev pub IsFaultOf : List Text → LineFault → Type 0
IsFaultOf words (Help error) = (is_help (kind_of error) ≡ true) × IsReportedFault words error
IsFaultOf words (Words error) = (is_help (kind_of error) ≡ false) × IsReportedFault words error
IsFaultOf words Site = (fault_of site_app words ≡ []) × HasInvalidSite (subcommand_of site_app words)
IsFaultOf words Incomplete = (fault_of site_app words ≡ []) × IsNoLine (subcommand_of site_app words)
    × (HasInvalidSite (subcommand_of site_app words) → ⊥)
IsFaultOf words NotText = ⊥
IsFaultOf words NoMemory = ⊤
