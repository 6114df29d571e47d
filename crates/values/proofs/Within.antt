-- A path in a namespace is a path.
use Rattle.std.proofs.Common.{◌≡◌, ◌∙◌, ℕ, List, [], ◌∷◌, ◌++◌, refl, ap}
use Rattle.std.specs.Prelude.{codes}
use Rattle.std.proofs.lemmas.List.{append_assoc}
use Rattle.extensions.specs.plain.Words.{IsPath, AreIdents, joined_path}

join_both : (first : List ℕ) (more : List (List ℕ)) (next : List ℕ) (rest : List (List ℕ))
    → joined_path first more ++ codes "::" ++ joined_path next rest ≡ joined_path first (more ++ next ∷ rest)
join_both first [] next rest = refl
join_both first (word ∷ more) next rest =
    let front = first ++ codes "::" in
    let middle = joined_path word more in
    let last = joined_path next rest in
    ap (λ (t : List ℕ). t ++ last) (append_assoc front middle (codes "::")) ∙ append_assoc front (middle ++ codes "::") last
    ∙ ap (λ (t : List ℕ). front ++ t) (join_both word more next rest)

both_idents : (ws vs : List (List ℕ)) → AreIdents ws → AreIdents vs → AreIdents (ws ++ vs)
both_idents [] vs h k = k
both_idents (w ∷ ws) vs h k = (h.0, both_idents ws vs h.1 k)

pub IsPath-within : (a b : List ℕ) → IsPath a → IsPath b → IsPath (a ++ codes "::" ++ b)
IsPath-within a b (first, more, h, e) (next, rest, k, d) = (
  first,
  more ++ next ∷ rest,
  both_idents (first ∷ more) (next ∷ rest) h k,
  ap (λ (t : List ℕ). t ++ codes "::" ++ b) e ∙ ap (λ (t : List ℕ). joined_path first more ++ codes "::" ++ t) d ∙ join_both first more next rest,
)

-- the same where the text was made in steps
pub IsPath-made : (a b first last begun longer whole result : List ℕ) → IsPath a → IsPath b
    → first ≡ a → begun ≡ first → longer ≡ begun ++ codes "::" → last ≡ b → whole ≡ longer ++ last → result ≡ whole → IsPath result
IsPath-made a b first last begun longer whole result p q f s l t w r =
    let same : result ≡ a ++ codes "::" ++ b = r ∙ w ∙ (λ i. l i ++ t i) ∙ ap (λ (x : List ℕ). x ++ codes "::" ++ b) (s ∙ f) in
    rw same (IsPath-within a b p q)
