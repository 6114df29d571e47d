-- Marks that loops make, one after another.
use Rattle.std.proofs.Common.{◌≡◌, ℕ, List, [], ◌∷◌, ◌++◌, map, sym, ◌∙◌, ap, ◌+◌, ◌<◌, length, get_or, take}
use Rattle.std.proofs.lemmas.List.{map-append, take_more}
use Rattle.grammar_syntax.specs.declared.repeats.NameAt as code
use Rattle.grammar_desugaring.specs.Repeats.{NameAt, abstract_names}

abbrev mark : List ℕ → ℕ → NameAt
mark name at = record { name = name; at = at }

same_mark : (m n : NameAt) → m.name ≡ n.name → m.at ≡ n.at → m ≡ n
same_mark m n names places = ap (λ (x : List ℕ). mark x m.at) names ∙ ap (mark n.name) places

-- one mark more, of one item more
pub shown-step : {A : Type 0} (f : A → NameAt) (xs : List A) (i : ℕ) (d : A) (old new : List code.NameAt) (m : code.NameAt) → abstract_names old ≡ map f (take i xs) → i < length xs →
    new ≡ old ++ m ∷ [] → m.name.now ≡ (f (get_or xs i d)).name → m.at ≡ (f (get_or xs i d)).at → abstract_names new ≡ map f (take (i + 1) xs)
shown-step f xs i d old new m was below pushed name at =
    ap abstract_names pushed ∙ map-append (λ x. mark x.name.now x.at) old (m ∷ []) ∙ ap (λ ms. ms ++ mark m.name.now m.at ∷ []) was
    ∙ ap (λ n. map f (take i xs) ++ n ∷ []) (same_mark (mark m.name.now m.at) (f (get_or xs i d)) name at)
    ∙ sym (ap (map f) (take_more xs i d below) ∙ map-append f (take i xs) (get_or xs i d ∷ []))
