use Rattle.std.proofs.Common.{List, ◌∙◌, ap, sym, subst}
use Rattle.values.specs.Fields.{Field, put}
use Rattle.values.specs.Values.{record_of, fields_of}
use Rattle.values.specs.WellFormed.{IsWellFormed}
use Rattle.values.specs.ValueView.{of_entries}
use Rattle.values.proofs.Records.{insertion}
use Rattle.values.proofs.WellFormedLemmas.{put_well_formed}
use Rattle.values.proofs.record.Record.insert.Goals as goal

pub returns-clause-ok : goal.returns-clause-ok
returns-clause-ok c =
    let entries = c.self.inside.fields.entries in
    ap of_entries c.in_ok-insert.ensures.entries
    ∙ (insertion entries c.into_string.result c.args.value
    ∙ (ap (λ k. put k c.args.value (of_entries entries)) c.into_string.ensures ∙ ap (put c.args.key c.args.value) c.self.view_is))

pub invariant_of-self : goal.invariant_of-self
invariant_of-self c = rw c.in_err-insert.ensures.err c.self.invariant

pub invariant_of-self-2 : goal.invariant_of-self-2
invariant_of-self-2 c =
    let entries = c.self.inside.fields.entries in
    let is = ap of_entries c.in_ok-insert.ensures.entries
    ∙ (insertion entries c.into_string.result c.args.value ∙ ap (λ k. put k c.args.value (of_entries entries)) c.into_string.ensures) in
    subst (λ (fs : List Field). IsWellFormed (record_of (fields_of fs))) (sym is)
    (put_well_formed c.args.key c.args.value (of_entries entries) c.self.invariant c.is_well_formed.ensures)
