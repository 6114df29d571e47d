-- A text cut at some of its tokens: one step for each token.
use Rattle.std.proofs.Common.{◌≡◌, ℕ, ◌+◌, ◌<◌, ◌≤◌, true, false, List, [], ◌∷◌, ◌++◌, map, length, drop, get_or, refl}
use Rattle.std.proofs.Common.{sym, ◌∙◌, subst, arith, add-one, drop-cons, append_assoc}
use Rattle.std.proofs.lemmas.List.{drop_all, append-nil}
use Rattle.std.specs.Prelude.{slice_range}
use Rattle.std.specs.List.{AllByRecursion}
use Rattle.std.specs.Str.{IsCharBoundary, trim_start}
use Rattle.grammar_desugaring.specs.grammar_syntax.declared.token.Token.{Token}
use Rattle.grammar_desugaring.specs.grammar_syntax.Lexing.{IsSpelledIn, AreInOrder}
use Rattle.policy_grammar.specs.Cuts.{is_end, parts_from, policy_texts}

-- Up to a place the texts are cut; the tokens that are left stand behind it.
pub record IsCut (text : List ℕ) (all : List Token) (texts : List (List ℕ)) (from : ℕ) (left : List Token) : Type 0 where
  pub same : texts ++ map trim_start (parts_from text from left) ≡ policy_texts text all
  pub ordered : AreInOrder from left
  pub spelled : AllByRecursion (IsSpelledIn text) left
  pub cut : IsCharBoundary text from

first_left : (ts : List Token) (i : ℕ) (d : Token) → i < length ts → drop i ts ≡ get_or ts i d ∷ drop (i + 1) ts
first_left ts i d h = rw (add-one, drop-cons ts i d) refl

sooner : (least from : ℕ) (ts : List Token) → least ≤ from → AreInOrder from ts → AreInOrder least ts
sooner least from [] h o = tt
sooner least from (t ∷ ts) h o = (omega (arith, o.0), o.1)

-- a token that ends no policy
skip : (text : List ℕ) (all : List Token) (texts : List (List ℕ)) (from : ℕ) (t : Token) (ts : List Token) → is_end t.kind ≡ false → IsCut text all texts from (t ∷ ts) → IsCut text all texts from ts
skip text all texts from t ts h c =
    let some = c.spelled.0.nonempty in
    let least = c.ordered.0 in
    record {
      same = rw h at c.same;
      ordered = sooner from t.end ts (omega arith) c.ordered.1;
      spelled = c.spelled.1;
      cut = c.cut;
    }

-- a token that ends one
take : (text : List ℕ) (all : List Token) (texts : List (List ℕ)) (from : ℕ) (t : Token) (ts : List Token) → is_end t.kind ≡ true → IsCut text all texts from (t ∷ ts)
    → IsCut text all (texts ++ trim_start (slice_range text from t.end) ∷ []) t.end ts
take text all texts from t ts h c =
    record {
      same = append_assoc texts (trim_start (slice_range text from t.end) ∷ []) (map trim_start (parts_from text t.end ts)) ∙ (rw h at c.same);
      ordered = c.ordered.1;
      spelled = c.spelled.1;
      cut = c.spelled.0.end_cut;
    }

pub skip_at : (text : List ℕ) (all : List Token) (texts : List (List ℕ)) (from i : ℕ) (d : Token) → i < length all → is_end (get_or all i d).kind ≡ false → IsCut text all texts from (drop i all)
    → IsCut text all texts from (drop (i + 1) all)
skip_at text all texts from i d l h c = skip text all texts from (get_or all i d) (drop (i + 1) all) h (subst (IsCut text all texts from) (first_left all i d l) c)

pub take_at : (text : List ℕ) (all : List Token) (texts : List (List ℕ)) (from i : ℕ) (d : Token) → i < length all → is_end (get_or all i d).kind ≡ true → IsCut text all texts from (drop i all)
    → IsCut text all (texts ++ trim_start (slice_range text from (get_or all i d).end) ∷ []) (get_or all i d).end (drop (i + 1) all)
take_at text all texts from i d l h c = take text all texts from (get_or all i d) (drop (i + 1) all) h (subst (IsCut text all texts from) (first_left all i d l) c)

-- where the next part would end: behind its start, and the text may be cut there
pub record EndsWell (text : List ℕ) (from to : ℕ) : Type 0 where
  pub ordered : from ≤ to
  pub within : to ≤ length text
  pub cut : IsCharBoundary text to

ends_well : (text : List ℕ) (all : List Token) (texts : List (List ℕ)) (from : ℕ) (t : Token) (ts : List Token) → IsCut text all texts from (t ∷ ts) → EndsWell text from t.end
ends_well text all texts from t ts c =
    let some = c.spelled.0.nonempty in
    let least = c.ordered.0 in
    record { ordered = omega arith; within = c.spelled.0.within; cut = c.spelled.0.end_cut }

pub ends_at : (text : List ℕ) (all : List Token) (texts : List (List ℕ)) (from i : ℕ) (d : Token) → i < length all → IsCut text all texts from (drop i all) → EndsWell text from (get_or all i d).end
ends_at text all texts from i d l c = ends_well text all texts from (get_or all i d) (drop (i + 1) all) (subst (IsCut text all texts from) (first_left all i d l) c)

pub all_cut : (text : List ℕ) (all : List Token) (texts : List (List ℕ)) (from i : ℕ) → length all ≤ i → IsCut text all texts from (drop i all) → texts ≡ policy_texts text all
all_cut text all texts from i h c = sym (append-nil texts) ∙ (rw (drop_all i all h) at c.same)
