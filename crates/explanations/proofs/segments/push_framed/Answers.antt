use Rattle.std.proofs.Common.{◌∙◌, List, ℕ, ◌++◌, sym, ap, string_bytes}
use Rattle.explanations.specs.ExplanationText.{readable}
use Rattle.explanations.proofs.Joined.{on_pushed, framed_as}
use Rattle.explanations.proofs.segments.push_framed.Goals as goal

pub returns : goal.returns
returns c =
    let text = c.args.text.now in
    on_pushed c.push_str-3.result (string_bytes c.push_str-2.new.self) c.args.after.now (string_bytes c.push_str-3.new.self) c.push_str-3.ensures.bytes
    (framed_as c.args.before.now text c.args.after.now c.args.most (readable text c.args.most) c.mark_if.result.now (string_bytes c.args.out.now)
    (string_bytes c.push_str.new.self) (string_bytes c.push_chars.new.out) (string_bytes c.push_str-2.new.self) (string_bytes c.push_str-3.new.self)
    (sym c.if-is_empty.false ∙ c.is_empty.ensures)
    (ap (λ (l : List ℕ). readable text c.args.most ++ l) (rw c.count_chars.ensures at c.mark_if.ensures)) c.in_ok-push_str.ensures.bytes
    c.in_ok-push_chars.ensures c.in_ok-push_str-2.ensures.bytes)
