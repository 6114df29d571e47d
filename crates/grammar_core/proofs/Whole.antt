-- A whole pattern, from its parts.
use Rattle.std.specs.Prelude.{◌≡◌, ◌↔◌, IsTrue, ℕ, Bool, List, [], ◌∷◌, ◌++◌}
use Rattle.std.proofs.Common.{sym, ap, ◌∙◌, subst, length}
use Rattle.std.specs.Bool.{one_answer}
use Rattle.std.proofs.lemmas.List.{nil_from_length}
use Rattle.grammar_core.specs.Like.{Matches, literal, after_stars}
use Rattle.grammar_core.specs.LikeTest.{Joins, is_match, is_match-Decides, joined_from_joins, joins_from_joined, literal_alone}

-- what the test says, where an answer is the relation's
pub test_is : (r : Bool) (pattern : List (List ℕ)) (text : List ℕ) → (IsTrue r ↔ Matches pattern text) → r ≡ is_match pattern text
test_is r pattern text h = one_answer r (is_match pattern text) h (is_match-Decides pattern text)

-- a pattern with a wildcard
pub matches_first : (r : Bool) (pattern before middle : List (List ℕ)) (first last text : List ℕ) → pattern ≡ before ++ last ∷ [] → before ≡ first ∷ middle →
    (IsTrue r ↔ Joins (literal first ∷ after_stars (middle ++ last ∷ [])) text) → (IsTrue r ↔ Matches pattern text)
matches_first r pattern before middle first last text whole parts h =
    let is : pattern ≡ first ∷ (middle ++ last ∷ []) = whole ∙ ap (λ (xs : List (List ℕ)). xs ++ last ∷ []) parts in
    subst (λ (p : List (List ℕ)). IsTrue r ↔ Matches p text) (sym is) (
      λ t. joined_from_joins (literal first ∷ after_stars (middle ++ last ∷ [])) text (h.0 t),
      λ m. h.1 (joins_from_joined (literal first ∷ after_stars (middle ++ last ∷ [])) text m),
    )

-- a pattern without one
pub matches_last : (r : Bool) (pattern before : List (List ℕ)) (last text : List ℕ) → pattern ≡ before ++ last ∷ [] → length before ≡ 0 →
    (IsTrue r ↔ (text ≡ last)) → (IsTrue r ↔ Matches pattern text)
matches_last r pattern before last text whole none h =
    let is : pattern ≡ last ∷ [] = whole ∙ ap (λ (xs : List (List ℕ)). xs ++ last ∷ []) (nil_from_length before none) in
    subst (λ (p : List (List ℕ)). IsTrue r ↔ Matches p text) (sym is)
    (λ t. (literal_alone last text).1 (h.0 t), λ m. h.1 ((literal_alone last text).0 m))
