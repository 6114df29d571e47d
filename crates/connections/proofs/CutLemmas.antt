-- A stream is cut into requests in one way.
use Rattle.std.proofs.Common.{◌≡◌, ℕ, List, [], ◌∷◌, ◌++◌, refl, sym, ap, ◌∙◌, subst, append_assoc}
use Rattle.std.proofs.lemmas.List.{append_cancel_left}
use Rattle.std.specs.List.{flat_map}
use Rattle.connections.specs.Framing.{IsPrefixFree, HasNoRequest, AreRequests, HasOneCut}

module _ (is_request is_unfinished : List ℕ → Type 0) (free : IsPrefixFree is_request)
    (none : HasNoRequest is_request is_unfinished) where
  abbrev join : List (List ℕ) → List ℕ
  join rs = flat_map (λ r. r) rs

  cut : (rs qs : List (List ℕ)) (rest more : List ℕ) → AreRequests is_request is_unfinished rs
      → AreRequests is_request is_unfinished qs → is_unfinished rest → is_unfinished more
      → join rs ++ rest ≡ join qs ++ more → (rs ≡ qs) × (rest ≡ more)
  cut [] [] rest more x y u v same = (refl, same)
  cut [] (q ∷ qs) rest more x y u v same =
      absurd (none q (join qs ++ more) y.0 (subst is_unfinished (same ∙ append_assoc q (join qs) more) u))
  cut (r ∷ rs) [] rest more x y u v same =
      absurd (none r (join rs ++ rest) x.0 (subst is_unfinished (sym same ∙ append_assoc r (join rs) rest) v))
  cut (r ∷ rs) (q ∷ qs) rest more x y u v same =
      let whole : r ++ (join rs ++ rest) ≡ q ++ (join qs ++ more) =
      sym (append_assoc r (join rs) rest) ∙ same ∙ append_assoc q (join qs) more in
      let first = free r q (join rs ++ rest) (join qs ++ more) x.0 y.0 whole in
      let later = append_cancel_left q (join rs ++ rest) (join qs ++ more) (ap (λ (t : List ℕ). t ++ (join rs ++ rest)) (sym first) ∙ whole) in
      let next = cut rs qs rest more x.1 y.1 u v later in
      (ap (λ (t : List ℕ). t ∷ rs) first ∙ ap (λ (ts : List (List ℕ)). q ∷ ts) next.0, next.1)

  pub one_cut : HasOneCut is_request is_unfinished
  one_cut stream rs qs rest more x y =
      cut rs qs rest more x.requests y.requests x.unfinished y.unfinished (sym x.is ∙ y.is)
