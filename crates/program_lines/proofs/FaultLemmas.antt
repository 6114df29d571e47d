-- Which fault is told of a command line: what an error of clap's is told as, and what a command lacks.
use Rattle.std.proofs.Common.{◌≡◌, ◌∙◌, inl, inr, Bool, true, false, Option, refl, List, sym, ap, [], if◌then◌else◌, subst}
use Rattle.clap.specs.Words.{Row, Text, HasKind, fault_of, kind_of, subcommand_of}
use Rattle.program_lines.specs.Lines.{IsNoLine, HasInvalidSite}
use Rattle.clap.specs.declared.error.Error.{Error}
use Rattle.clap.specs.declared.error.ErrorKind.{ErrorKind}
use Rattle.clap.specs.declared.error.ErrorKind.TheVariants.{OutOfMemory}
use Rattle.program_lines.specs.declared.fault.LineFault.{LineFault}
use Rattle.program_lines.specs.declared.fault.LineFault.TheVariants.{Help, Words, Site, Incomplete, NotText, NoMemory}
use Rattle.program_lines.specs.Apps.{site_app}
use Rattle.program_lines.specs.Faults.{IsFaultOf, is_help, is_memory}
use Rattle.program_lines.specs.inner.ClapErrors.{IsWhyIncomplete, line_fault_of}

no_help : {k : ErrorKind} → k ≡ OutOfMemory → is_help k ≡ true → ⊥
no_help e f = let bad : false ≡ true = sym (ap is_help e) ∙ f in absurd cc

other_than_memory : {k : ErrorKind} → k ≡ OutOfMemory → is_memory k ≡ false → ⊥
other_than_memory e f = let bad : true ≡ false = sym (ap is_memory e) ∙ f in absurd cc

sorted_by : (words : List Text) (error : Error) (help memory : Bool) → is_help (kind_of error) ≡ help → is_memory (kind_of error) ≡ memory
    → HasKind (fault_of site_app words) error → IsFaultOf words (if help then Help error else if memory then NoMemory else Words error)
sorted_by words error true memory h m (inl oom) = absurd (no_help oom h)
sorted_by words error true memory h m (inr among) = (h, among)
sorted_by words error false true h m has = tt
sorted_by words error false false h m (inl oom) = absurd (other_than_memory oom m)
sorted_by words error false false h m (inr among) = (h, among)

-- an error of clap's is told as what it is
pub sorted_fault : (words : List Text) (error : Error) → HasKind (fault_of site_app words) error → IsFaultOf words (line_fault_of error)
sorted_fault words error has = sorted_by words error (is_help (kind_of error)) (is_memory (kind_of error)) refl refl has

-- what a command lacks, where no line was made of it
pub lacking_fault : (words : List Text) (named : Option (Text × List Row)) (fault : LineFault) → subcommand_of site_app words ≡ named
    → fault_of site_app words ≡ [] → IsNoLine named → IsWhyIncomplete named fault → IsFaultOf words fault
lacking_fault words named (Help error) is free none lacks = absurd lacks
lacking_fault words named (Words error) is free none lacks = absurd lacks
lacking_fault words named Site is free none lacks = (free, subst HasInvalidSite (sym is) lacks)
lacking_fault words named Incomplete is free none lacks = (free, subst IsNoLine (sym is) none, λ other. lacks (subst HasInvalidSite is other))
lacking_fault words named NotText is free none lacks = absurd lacks
lacking_fault words named NoMemory is free none lacks = absurd lacks
