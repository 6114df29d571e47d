use Rattle.std.proofs.Common.{◌∙◌, ap, sym, subst, map, string_bytes}
use Rattle.clap.specs.Words.{App, HasKind, fault_of, is_simple, is_simple_and_free, subcommand_of}
use Rattle.program_lines.specs.Apps.{site_app}
use Rattle.program_lines.specs.Faults.{IsFaultOf}
use Rattle.program_lines.specs.Lines.{IsNamed}
use Rattle.program_lines.proofs.FaultLemmas.{lacking_fault, sorted_fault}
use Rattle.program_lines.proofs.LineLemmas.{named_sites}
use Rattle.program_lines.proofs.line.line_of.Goals as goal

pub returns-in-Err-clause-err : goal.returns-in-Err-clause-err
returns-in-Err-clause-err c =
    let same = c.in_ok-command.ensures.0 in
    let words = map string_bytes c.args.words.now in
    let has : HasKind (fault_of site_app words) c.in-Err.error =
    subst (λ (a : App). HasKind (fault_of a words) c.in-Err.error) same (c.in-Err.ensures.kinds (ap is_simple_and_free same)) in
    subst (IsFaultOf words) (sym c.line_fault_of.ensures) (sorted_fault words c.in-Err.error has)

pub returns-in-Some-clause-taken : goal.returns-in-Some-clause-taken
returns-in-Some-clause-taken c =
    let same = c.in_ok-command.ensures.0 in
    ap (λ (a : App). fault_of a (map string_bytes c.args.words.now)) (sym same) ∙ c.in-Ok.ensures.kinds (ap is_simple_and_free same)

pub returns-clause-err : goal.returns-clause-err
returns-clause-err c =
    let same = c.in_ok-command.ensures.0 in
    let words = map string_bytes c.args.words.now in
    let found = (c.in-Ok.ensures.matches (ap is_simple same)).1 ∙ ap (λ (a : App). subcommand_of a words) same in
    let free = ap (λ (a : App). fault_of a words) (sym same) ∙ c.in-Ok.ensures.kinds (ap is_simple_and_free same) in
    lacking_fault words _ c.why_incomplete.result (sym found) free c.in-None.ensures c.why_incomplete.ensures

pub returns-in-Some-clause-ok : goal.returns-in-Some-clause-ok
returns-in-Some-clause-ok c =
    let same = c.in_ok-command.ensures.0 in
    let words = map string_bytes c.args.words.now in
    let found = (c.in-Ok.ensures.matches (ap is_simple same)).1 ∙ ap (λ (a : App). subcommand_of a words) same in
    subst (IsNamed c.in-Some.line) found c.in-Some.ensures

pub returns-in-Some-clause-sites : goal.returns-in-Some-clause-sites
returns-in-Some-clause-sites c = named_sites c.in-Some.line _ c.in-Some.ensures
