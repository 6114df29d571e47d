use Rattle.std.proofs.Common.{◌∙◌, ap, subst, Option, None, Some}
use Rattle.explanations.specs.declared.finding.SourceFinding.{SourceFinding}
use Rattle.fault_places.specs.declared.spans.Span.{Span}
use Rattle.explanations.specs.Policies.{IsSpanFound}
use Rattle.explanations.proofs.Appending.{on_ok}
use Rattle.explanations.proofs.policies.push_fault.Goals as goal
use Rattle.explanations.proofs.policies.push_fault.Goals.{in-Some, in-None}

pub returns : goal.returns
returns c =
    let code = c.from.ensures ∙ c.code.ensures in
    on_ok c.push_source.result c.push_source.ensures (λ e. (
      e.0,
      elim c.match-branch-2.branch [
        | in-Some w ↦ record {
          finding = _;
          code = ap (λ (f : SourceFinding). f.code) w.finding-is ∙ code;
          found = Some w.in-Some.span;
          is_found = subst (λ (o : Option Span). IsSpanFound c.args.text.now c.args.piece c.args.fault.now o) w.in-Some.is c.in_ok-span.ensures;
          start = ap (λ (f : SourceFinding). f.start) w.finding-is ∙ w.saturating_add.ensures;
          end = ap (λ (f : SourceFinding). f.end) w.finding-is ∙ w.saturating_add-in-Some.ensures;
          cause = ap (λ (f : SourceFinding). f.cause.now) w.finding-is ∙ c.as_str.ensures.value;
          detail = ap (λ (f : SourceFinding). f.detail.now) w.finding-is ∙ c.as_str-2.ensures.value;
          note = ap (λ (f : SourceFinding). f.note.now) w.finding-is;
          is_text = e.1;
        }
        | in-None w ↦ record {
          finding = _;
          code = ap (λ (f : SourceFinding). f.code) w.finding-is ∙ code;
          found = None;
          is_found = subst (λ (o : Option Span). IsSpanFound c.args.text.now c.args.piece c.args.fault.now o) w.in-None.is c.in_ok-span.ensures;
          start = ap (λ (f : SourceFinding). f.start) w.finding-is;
          end = ap (λ (f : SourceFinding). f.end) w.finding-is;
          cause = ap (λ (f : SourceFinding). f.cause.now) w.finding-is ∙ c.as_str.ensures.value;
          detail = ap (λ (f : SourceFinding). f.detail.now) w.finding-is ∙ c.as_str-2.ensures.value;
          note = ap (λ (f : SourceFinding). f.note.now) w.finding-is;
          is_text = e.1;
        }
      ],
      e.2,
    ))
