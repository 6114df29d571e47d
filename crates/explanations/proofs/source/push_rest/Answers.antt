use Rattle.std.proofs.Common.{◌≡◌, ◌∙◌, List, ℕ, [], ◌∷◌, ◌++◌, ap, codes, append_assoc, refl, string_bytes}
use Rattle.explanations.specs.ExplanationText.{detail_line}
use Rattle.explanations.proofs.Appending.{on_ok}
use Rattle.explanations.proofs.source.push_rest.Goals as goal

lines_of : (a b c d e : List ℕ) → a ++ (b ++ (c ++ (d ++ e))) ≡ (a ++ b) ++ ((c ++ d) ++ e)
lines_of a b c d e = simp append_assoc refl

pub returns : goal.returns
returns c =
    on_ok c.push_all.result c.push_all.ensures (λ is. is ∙ ap (λ (l : List ℕ). string_bytes c.args.out.now ++ l)
    (lines_of (detail_line c.args.detail.now) (detail_line c.args.note.now) (codes "  hint: ") c.args.advice.now (10 ∷ [])))
