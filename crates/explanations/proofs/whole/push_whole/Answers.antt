use Rattle.std.proofs.Common.{◌≡◌, ◌∙◌, ℕ, List, [], ◌∷◌, ◌++◌, append_assoc, append-nil, ap, refl, string_bytes, length, codes}
use Rattle.explanations.specs.ExplanationText.{says_line, detail_line, hint_line, file_line, index_words, readable, whole_text}
use Rattle.explanations.proofs.Appending.{on_ok}
use Rattle.explanations.proofs.whole.push_whole.Goals as goal

in_one : (a b c d e o p q : List ℕ) → o ≡ a ++ b → p ≡ o ++ c → q ≡ p ++ ((d ++ []) ++ e) → q ≡ a ++ (((b ++ c) ++ d) ++ e)
in_one a b c d e o p q first second third = rw third rw second rw first rw (append-nil d) (simp append_assoc refl)

file_of : (a b c d : List ℕ) → a ++ (b ++ (c ++ d)) ≡ ((a ++ b) ++ c) ++ d
file_of a b c d = simp append_assoc refl

pub returns : goal.returns
returns c =
    let finding = c.args.finding.now in
    let file = c.args.file.now in
    let says = c.says_and_advice.result.0.now in
    let advice = c.says_and_advice.result.1.now in
    on_ok c.push_rest.result c.push_rest.ensures (λ last. (
      whole_text file finding says advice,
      record { says = says; advice = advice; words = c.says_and_advice.ensures.words; clean = c.says_and_advice.ensures.clean; is = refl },
      in_one (string_bytes c.args.out.now) (says_line finding.code says []) (file_line file finding.index) (detail_line finding.detail.now) (hint_line advice)
          (string_bytes c.push_says.new.out) (string_bytes c.push_all.new.out) (string_bytes c.push_rest.new.out) c.in_ok-push_says.ensures
          (c.in_ok-push_all.ensures ∙ ap (λ (l : List ℕ). string_bytes c.push_says.new.out ++ l) (file_of (codes " --> ") (readable file (length file)) (index_words finding.index) (10 ∷ [])))
          last,
    ))
