-- Marks that a loop makes, one more at each turn.
use Rattle.std.proofs.Common.{◌≡◌, ℕ, ◌+◌, ◌<◌, List, [], ◌∷◌, ◌++◌, length, take, get_or, map, sym, ◌∙◌, ap}
use Rattle.std.proofs.lemmas.List.{take_more, map-append}
use Rattle.grammar_desugaring.specs.grammar_syntax.Lexing.{spelling_of}
use Rattle.grammar_parsing.specs.declared.tree.Annotation.{Annotation}
use Rattle.grammar_desugaring.specs.grammar_syntax.declared.repeats.NameAt as code
use Rattle.grammar_desugaring.specs.Repeats.{NameAt, abstract_names}
use Rattle.policy_grammar.specs.Annotations.{key_at}

-- a mark of code
abbrev seen : code.NameAt → NameAt
seen m = record { name = m.name.now; at = m.at }

shown-push : (old new : List code.NameAt) (m : code.NameAt) → new ≡ old ++ m ∷ [] → abstract_names new ≡ abstract_names old ++ seen m ∷ []
shown-push old new m pushed = ap abstract_names pushed ∙ map-append seen old (m ∷ [])

abbrev mark : List ℕ → ℕ → NameAt
mark name at = record { name = name; at = at }

same_mark : (m n : NameAt) → m.name ≡ n.name → m.at ≡ n.at → m ≡ n
same_mark m n names places = ap (λ (x : List ℕ). mark x m.at) names ∙ ap (mark n.name) places

pub annotation-step : (text : List ℕ) (xs : List Annotation) (i : ℕ) (d : Annotation) (old new : List code.NameAt) (m : code.NameAt) → abstract_names old ≡ map (key_at text) (take i xs) →
    i < length xs → new ≡ old ++ m ∷ [] → m.name.now ≡ spelling_of text (get_or xs i d).key → m.at ≡ (get_or xs i d).at.start → abstract_names new ≡ map (key_at text) (take (i + 1) xs)
annotation-step text xs i d old new m was below pushed name at =
    shown-push old new m pushed ∙ ap (λ ms. ms ++ seen m ∷ []) was ∙ ap (λ n. map (key_at text) (take i xs) ++ n ∷ []) (same_mark (seen m) (key_at text (get_or xs i d)) name at)
    ∙ sym (ap (map (key_at text)) (take_more xs i d below) ∙ map-append (key_at text) (take i xs) (get_or xs i d ∷ []))
