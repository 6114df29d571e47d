use Rattle.std.proofs.Common.{◌≡◌, ◌∙◌, ◌++◌, [], ℕ, List, ap, codes, append_assoc}
use Rattle.std.specs.Prelude.{decimal}
use Rattle.std.proofs.lemmas.List.{append-nil}
use Rattle.explanations.proofs.print.code_text.Goals as goal

abbrev lines : List ℕ → List ℕ → List ℕ → List ℕ → List ℕ
lines name meaning example advice =
    codes ", " ++ (name ++ (codes "\nmeans: " ++ (meaning ++ (codes "\nexample: " ++ (example ++ (codes "\nwhat to do: " ++ advice))))))

-- the segments, as they are written and as they are read
grouped : (code name meaning example advice : List ℕ) → code ++ lines name meaning example advice
    ≡ code ++ codes ", " ++ name ++ codes "\nmeans: " ++ meaning ++ codes "\nexample: " ++ example ++ codes "\nwhat to do: " ++ advice
grouped code name meaning example advice = simp append_assoc

pub returns : goal.returns
returns c =
    let words = c.args.words.now in
    let name = words.name.now in
    let meaning = words.meaning.now in
    let example = words.example.now in
    let advice = words.advice.now in
    c.in_ok-push_all.ensures ∙ ap (λ l. l ++ lines name meaning example (advice ++ [])) c.in_ok-text.ensures.ok
    ∙ ap (λ (l : List ℕ). decimal words.code ++ lines name meaning example l) (append-nil advice)
    ∙ grouped (decimal words.code) name meaning example advice
