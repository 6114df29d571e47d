-- Names by places are all different: which policies' names may stand twice.
use Rattle.std.proofs.Common.{◌≡◌, ◌⊎◌, ℕ, suc, ◌+◌, ◌<◌, ◌≤◌, ◌^◌, ◌&&◌, ◌||◌, ◌==◌, Bool, true, false, List, [], ◌∷◌}
use Rattle.std.proofs.Common.{◌++◌, length, drop, get_or, Option, Some, None, codes, find, refl, sym, ◌∙◌, ap, inl, inr}
use Rattle.std.proofs.Common.{arith, add-one}
use Rattle.std.specs.Prelude.{is_some}
use Rattle.std.specs.List.{AllZip, enumerate_from, starts_with}
use Rattle.std.specs.Fmt.{decimal}
use Rattle.std.proofs.Math.Seq.{drop-cons}
use Rattle.std.proofs.lemmas.Fmt.{decimal_injective}
use Rattle.grammar_desugaring.specs.ReportedErrors.{least}
use Rattle.grammar_desugaring.specs.Repeats.{NameAt, IsRepeatedAt, repeat_faults, RepeatsAreReported}
use Rattle.grammar_desugaring.proofs.AgainFront.{Later, again-there, again-here, again-front, again-none}
use Rattle.grammar_parsing.specs.declared.tree.Annotation.{Annotation}
use Rattle.grammar_parsing.specs.declared.tree.PolicyTree.{PolicyTree}
use Rattle.policy_grammar.specs.CoreOf.{is_id, IsNameBy, IsNameOf, AreNamesOf}
use Rattle.policy_grammar.specs.Repeats.{policy_names, start_of}
use Rattle.policy_grammar.specs.inner.Parts.{has_id, has_index_prefix, some_index_name, kept, names_to_compare}

-- ---- marks that are kept

later-kept : (b : Bool) (name : List ℕ) (m : NameAt) (ms : List NameAt) (at : ℕ) → Later name (kept b m ms) at → ((m.name ≡ name) × (at ≡ m.at)) ⊎ Later name ms at
later-kept true name m ms at later = later
later-kept false name m ms at later = inr later

later-keeps : (b : Bool) (name : List ℕ) (m : NameAt) (ms : List NameAt) (at : ℕ) → (m.name ≡ name → b ≡ true) → ((m.name ≡ name) × (at ≡ m.at)) ⊎ Later name ms at →
    Later name (kept b m ms) at
later-keeps true name m ms at keeps later = later
later-keeps false name m ms at keeps later = elim later [ inl here ↦ let no' : false ≡ true = keeps here.0 in absurd cc | inr more ↦ more ]

again-kept : (b : Bool) (m : NameAt) (ms : List NameAt) (at : ℕ) → IsRepeatedAt (kept b m ms) at → Later m.name ms at ⊎ IsRepeatedAt ms at
again-kept true m ms at again = again-front m ms at again
again-kept false m ms at again = inr again

again-keeps : (b : Bool) (m : NameAt) (ms : List NameAt) (at : ℕ) → (Later m.name ms at → b ≡ true) → Later m.name ms at ⊎ IsRepeatedAt ms at → IsRepeatedAt (kept b m ms) at
again-keeps true m ms at keeps either = elim either [ inl later ↦ again-here m ms at later | inr again ↦ again-there m ms at again ]
again-keeps false m ms at keeps either = elim either [ inl later ↦ let no' : false ≡ true = keeps later in absurd cc | inr again ↦ again ]

again-keeps-more : (b : Bool) (m : NameAt) (ms : List NameAt) (at : ℕ) → IsRepeatedAt ms at → IsRepeatedAt (kept b m ms) at
again-keeps-more true m ms at again = again-there m ms at again
again-keeps-more false m ms at again = again

-- ---- names that differ

tails : {A : Type 0} (x y : A) (xs ys : List A) → x ∷ xs ≡ y ∷ ys → xs ≡ ys
tails x y xs ys e = cc

or_true : (b : Bool) → (b || true) ≡ true
or_true true = refl
or_true false = refl

placed_prefix : (n : ℕ) → starts_with (λ a b. a == b) (codes "policy" ++ decimal n) (codes "policy") ≡ true
placed_prefix n = refl

six : (a b c d e f : ℕ) (x y : List ℕ) → a ∷ b ∷ c ∷ d ∷ e ∷ f ∷ x ≡ a ∷ b ∷ c ∷ d ∷ e ∷ f ∷ y → x ≡ y
six a b c d e f x y same = tails f f x y (tails e e _ _ (tails d d _ _ (tails c c _ _ (tails b b _ _ (tails a a _ _ same)))))

places_differ : (k p : ℕ) → k < p → p < 2 ^ 64 → codes "policy" ++ decimal k ≡ codes "policy" ++ decimal p → ⊥
places_differ k p below fits same = let e : k ≡ p = decimal_injective k p (omega arith) fits (six _ _ _ _ _ _ (decimal k) (decimal p) same) in absurd (omega arith)

-- two policies of one name are both kept
both-kept : (text : List ℕ) (wide : Bool) (k p : ℕ) (a b : Option Annotation) (n m : List ℕ) → k < p → p < 2 ^ 64 → IsNameBy text k a n → IsNameBy text p b m → m ≡ n →
    ((is_some a && starts_with (λ x y. x == y) n (codes "policy")) ≡ true → wide ≡ true) →
    ((is_some b && starts_with (λ x y. x == y) m (codes "policy")) ≡ true → wide ≡ true) → ((wide || is_some a) ≡ true) × ((wide || is_some b) ≡ true)
both-kept text wide k p (Some a) (Some b) n m below fits first second same one other = (or_true wide, or_true wide)
both-kept text wide k p (Some a) None n m below fits first second same one other =
    let w : wide ≡ true = one (ap (λ x. starts_with (λ x y. x == y) x (codes "policy")) (sym same ∙ second)) in
    (or_true wide, ap (λ b. b || false) w)
both-kept text wide k p None (Some b) n m below fits first second same one other =
    let w : wide ≡ true = other (ap (λ x. starts_with (λ x y. x == y) x (codes "policy")) (same ∙ first)) in
    (ap (λ b. b || false) w, or_true wide)
both-kept text wide k p None None n m below fits first second same one other = absurd (places_differ k p below fits (sym first ∙ sym same ∙ second))

or_left : (a b : Bool) → a ≡ true → (a || b) ≡ true
or_left a b yes' = ap (λ x. x || b) yes'

or_right : (a b : Bool) → b ≡ true → (a || b) ≡ true
or_right a b yes' = ap (λ x. a || x) yes' ∙ or_true a

abbrev IsNamedAtPlace : List ℕ → ℕ × PolicyTree → List ℕ → Type 0
IsNamedAtPlace text = λ placed. IsNameOf text placed.0 placed.1

-- whether a policy of this name is kept, and those of the name behind it
module _ (text : List ℕ) (wide : Bool) where
  -- those behind it that have its name
  behind : (k p : ℕ) (n : List ℕ) (t : PolicyTree) (names : List (List ℕ)) (trees : List PolicyTree) (at : ℕ) → k < p → p + length trees ≤ 2 ^ 64 → IsNameOf text k t n →
      (has_index_prefix text n t ≡ true → wide ≡ true) → AllZip (IsNamedAtPlace text) (enumerate_from p trees) names → (some_index_name text names trees ≡ true → wide ≡ true) →
      Later n (policy_names names trees) at → ((wide || has_id text t) ≡ true) × Later n (names_to_compare text wide names trees) at
  behind k p n t [] trees at below fits is one all meets later = absurd later
  behind k p n t (m ∷ ms) [] at below fits is one all meets later = absurd all
  behind k p n t (m ∷ ms) (u ∷ us) at below fits is one all meets later =
      let other : has_index_prefix text m u ≡ true → wide ≡ true = λ h. meets (or_left (has_index_prefix text m u) (some_index_name text ms us) h) in
      let more : some_index_name text ms us ≡ true → wide ≡ true = λ h. meets (or_right (has_index_prefix text m u) (some_index_name text ms us) h) in
      let both = λ (same : m ≡ n). both-kept text wide k p (find (is_id text) t.annotations) (find (is_id text) u.annotations) n m below (omega arith) is all.0 same one other in
      elim later [
        | inl here ↦ ((both here.0).0, later-keeps (wide || has_id text u) n (record { name = m; at = start_of u }) (names_to_compare text wide ms us) at (λ e. (both e).1) (inl here))
        | inr further ↦
            let rest = behind k (p + 1) n t ms us at (omega arith) (omega arith) is one all.1 more further in
            (rest.0, later-keeps (wide || has_id text u) n (record { name = m; at = start_of u }) (names_to_compare text wide ms us) at (λ e. (both e).1) (inr rest.1))
      ]

  fewer-later : (n : List ℕ) (names : List (List ℕ)) (trees : List PolicyTree) (at : ℕ) → Later n (names_to_compare text wide names trees) at → Later n (policy_names names trees) at
  fewer-later n [] trees at later = absurd later
  fewer-later n (m ∷ ms) [] at later = absurd later
  fewer-later n (m ∷ ms) (u ∷ us) at later =
      elim (later-kept (wide || has_id text u) n (record { name = m; at = start_of u }) (names_to_compare text wide ms us) at later) [
        | inl here ↦ inl here
        | inr more ↦ inr (fewer-later n ms us at more)
      ]

  fewer : (names : List (List ℕ)) (trees : List PolicyTree) (at : ℕ) → IsRepeatedAt (names_to_compare text wide names trees) at → IsRepeatedAt (policy_names names trees) at
  fewer [] trees at again = again-none at again
  fewer (m ∷ ms) [] at again = again-none at again
  fewer (m ∷ ms) (u ∷ us) at again =
      let mark : NameAt = record { name = m; at = start_of u } in
      elim (again-kept (wide || has_id text u) mark (names_to_compare text wide ms us) at again) [
        | inl later ↦ again-here mark (policy_names ms us) at (fewer-later m ms us at later)
        | inr more ↦ again-there mark (policy_names ms us) at (fewer ms us at more)
      ]

  enough : (p : ℕ) (names : List (List ℕ)) (trees : List PolicyTree) (at : ℕ) → p + length trees ≤ 2 ^ 64 → AllZip (IsNamedAtPlace text) (enumerate_from p trees) names →
      (some_index_name text names trees ≡ true → wide ≡ true) → IsRepeatedAt (policy_names names trees) at → IsRepeatedAt (names_to_compare text wide names trees) at
  enough p [] trees at fits all meets again = again-none at again
  enough p (m ∷ ms) [] at fits all meets again = again-none at again
  enough p (m ∷ ms) (u ∷ us) at fits all meets again =
      let mark : NameAt = record { name = m; at = start_of u } in
      let one : has_index_prefix text m u ≡ true → wide ≡ true = λ h. meets (or_left (has_index_prefix text m u) (some_index_name text ms us) h) in
      let more : some_index_name text ms us ≡ true → wide ≡ true = λ h. meets (or_right (has_index_prefix text m u) (some_index_name text ms us) h) in
      elim (again-front mark (policy_names ms us) at again) [
        | inl later ↦
            let found = behind p (p + 1) m u ms us at (omega arith) (omega arith) all.0 one all.1 more later in
            again-keeps (wide || has_id text u) mark (names_to_compare text wide ms us) at (λ _. found.0) (inl found.1)
        | inr further ↦ again-keeps-more (wide || has_id text u) mark (names_to_compare text wide ms us) at (enough (p + 1) ms us at (omega arith) all.1 more further)
      ]

-- The names that may stand twice are enough to be looked at.
pub doubtful-enough : RepeatsAreReported → (text : List ℕ) (wide : Bool) (names : List (List ℕ)) (trees : List PolicyTree) → length trees < 2 ^ 64 → AreNamesOf text trees names →
    wide ≡ some_index_name text names trees → least (repeat_faults (names_to_compare text wide names trees)) ≡ least (repeat_faults (policy_names names trees))
doubtful-enough told text wide names trees fits named is =
    told (names_to_compare text wide names trees) (policy_names names trees) (λ at. fewer text wide names trees at)
    (λ at. enough text wide 0 names trees at (omega arith) named (λ h. is ∙ h))

-- ---- the steps of the loops

pub meets-step : (text : List ℕ) (names : List (List ℕ)) (trees : List PolicyTree) (i : ℕ) (n : List ℕ) (t : PolicyTree) → i < length names → i < length trees →
    some_index_name text (drop i names) (drop i trees) ≡ (has_index_prefix text (get_or names i n) (get_or trees i t) || some_index_name text (drop (i + 1) names) (drop (i + 1) trees))
meets-step text names trees i n t low below =
    ap (λ ns. some_index_name text ns (drop i trees)) (drop-cons names i n low) ∙ ap (some_index_name text (get_or names i n ∷ drop (suc i) names)) (drop-cons trees i t below)
    ∙ ap (λ k. has_index_prefix text (get_or names i n) (get_or trees i t) || some_index_name text (drop k names) (drop k trees)) (sym (add-one i))

pub doubtful-step : (text : List ℕ) (wide : Bool) (names : List (List ℕ)) (trees : List PolicyTree) (i : ℕ) (n : List ℕ) (t : PolicyTree) → i < length names → i < length trees →
    names_to_compare text wide (drop i names) (drop i trees)
    ≡ kept (wide || has_id text (get_or trees i t)) (record { name = get_or names i n; at = start_of (get_or trees i t) }) (names_to_compare text wide (drop (i + 1) names) (drop (i + 1) trees))
doubtful-step text wide names trees i n t low below =
    ap (λ ns. names_to_compare text wide ns (drop i trees)) (drop-cons names i n low) ∙ ap (names_to_compare text wide (get_or names i n ∷ drop (suc i) names)) (drop-cons trees i t below)
    ∙ ap (λ k. kept (wide || has_id text (get_or trees i t)) (record { name = get_or names i n; at = start_of (get_or trees i t) }) (names_to_compare text wide (drop k names) (drop k trees)))
    (sym (add-one i))

kept-none : (b : Bool) (m : NameAt) (ms : List NameAt) → b ≡ false → kept b m ms ≡ ms
kept-none true m ms no' = absurd cc
kept-none false m ms no' = refl

-- a policy that is passed over
pub doubtful-passed : (text : List ℕ) (wide : Bool) (names : List (List ℕ)) (trees : List PolicyTree) (i : ℕ) (n : List ℕ) (t : PolicyTree) (done : List NameAt) →
    done ++ names_to_compare text wide (drop i names) (drop i trees) ≡ names_to_compare text wide names trees → length names ≡ length trees → i < length trees → t ≡ get_or trees i t →
    (wide || has_id text t) ≡ false → done ++ names_to_compare text wide (drop (i + 1) names) (drop (i + 1) trees) ≡ names_to_compare text wide names trees
doubtful-passed text wide names trees i n t done was same below here no' =
    sym (ap (λ ms. done ++ ms) (doubtful-step text wide names trees i n t (omega arith) below
    ∙ kept-none (wide || has_id text (get_or trees i t)) _ _ (ap (λ x. wide || has_id text x) (sym here) ∙ no'))) ∙ was
