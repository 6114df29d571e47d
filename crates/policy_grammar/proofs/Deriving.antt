-- Each text of a policy is derived as one by itself.
use Rattle.std.proofs.Common.{◌≡◌, ◌⊎◌, inl, inr, ℕ, ◌+◌, Bool, true, false, List, [], ◌∷◌, ◌++◌, length, drop, map}
use Rattle.std.proofs.Common.{refl, sym, ap, ◌∙◌, subst, arith, append_assoc}
use Rattle.std.specs.Prelude.{chars, slice_range}
use Rattle.std.specs.List.{AllByRecursion}
use Rattle.std.specs.Str.{IsUtf8, IsCharBoundary, trim_start}
use Rattle.std.proofs.lemmas.Str.{IsCharBoundary-start, IsUtf8-between, encodes-chars}
use Rattle.grammar_desugaring.specs.grammar_syntax.declared.token.Token.{Token}
use Rattle.grammar_desugaring.specs.grammar_syntax.Lexing.{Lex, IsSpelledIn}
use Rattle.grammar_parsing.proofs.of_grammar_syntax.Spelled.{all_spelled}
use Rattle.grammar_parsing.specs.declared.tree.PolicyTree.{PolicyTree}
use Rattle.grammar_parsing.specs.Grammar.{policies, policy}
use Rattle.policy_grammar.specs.Cuts.{is_end, parts_from, DerivesPolicy, EachDerivesPolicy}
use Rattle.policy_grammar.proofs.Splitting.{NoEnd, FirstPart, split}
use Rattle.policy_grammar.proofs.Alone.{trimmed, moved, back, parts_first, part_is, rest_is, last_of}
use Rattle.policy_grammar.proofs.Endless.{policy_ends}
use Rattle.policy_grammar.proofs.Alike.{kinds, policy_kin}

-- a part whose tokens, from some place on, derive a policy
record Derives (levels : ℕ) (w : List ℕ) : Type 0 where
  utf8 : IsUtf8 w
  at : ℕ
  to : ℕ
  tokens : List Token
  lexed : Lex at w tokens to []
  tree : PolicyTree
  derived : policy levels tokens tree

kinds_back : (at : ℕ) (ts : List Token) → kinds ts ≡ kinds (map (back at) ts)
kinds_back at [] = refl
kinds_back at (t ∷ ts) = ap (λ ks. t.kind ∷ ks) (kinds_back at ts)

alone : (levels : ℕ) (w : List ℕ) → Derives levels w → DerivesPolicy levels (trim_start w)
unfolding trim_start
alone levels w d =
    let t = trimmed (chars w) d.at d.to d.tokens (subst (λ (x : List ℕ). Lex d.at x d.tokens d.to []) (sym (encodes-chars w d.utf8)) d.lexed) in
    let m = moved t.at 0 (omega arith) t.lexed in
    let tree = policy_kin levels d.tokens (map (back t.at) d.tokens) d.tree (kinds_back t.at d.tokens) d.derived in
    record { tokens = map (back t.at) d.tokens; lexed = (m.end, m.lexed); tree = tree.0; derived = tree.1 }

all_alone : (levels : ℕ) (ws : List (List ℕ)) → AllByRecursion (Derives levels) ws → AllByRecursion (DerivesPolicy levels) (map trim_start ws)
all_alone levels [] h = tt
all_alone levels (w ∷ ws) h = (alone levels w h.0, all_alone levels ws h.1)

-- ---- the first end is one

pub record SameEnd (a b : List Token) (s t : Token) (x y : List Token) : Type 0 where
  pub before : a ≡ b
  pub last : s ≡ t
  pub more : x ≡ y

clash : (P : Bool) → P ≡ true → P ≡ false → ⊥
clash P h n = let bad : true ≡ false = sym h ∙ n in absurd cc

pub same_end : (a b : List Token) (s t : Token) (x y : List Token) → NoEnd a → NoEnd b → is_end s.kind ≡ true → is_end t.kind ≡ true
    → a ++ s ∷ x ≡ b ++ t ∷ y → SameEnd a b s t x y
same_end [] [] s t x y n m h k e = record { before = refl; last = cc; more = cc }
same_end [] (v ∷ b) s t x y n m h k e = absurd (let same : s ≡ v = cc in clash (is_end v.kind) (ap (λ (z : Token). is_end z.kind) (sym same) ∙ h) m.0)
same_end (u ∷ a) [] s t x y n m h k e = absurd (let same : u ≡ t = cc in clash (is_end u.kind) (ap (λ (z : Token). is_end z.kind) same ∙ k) n.0)
same_end (u ∷ a) (v ∷ b) s t x y n m h k e =
    let first : u ≡ v = cc in
    let rest : a ++ s ∷ x ≡ b ++ t ∷ y = cc in
    let more = same_end a b s t x y n.1 m.1 h k rest in
    record { before = λ i. first i ∷ more.before i; last = more.last; more = more.more }

pub no_such : (a : List Token) (s : Token) (x : List Token) → is_end s.kind ≡ true → NoEnd (a ++ s ∷ x) → ⊥
no_such [] s x h n = clash (is_end s.kind) h n.0
no_such (u ∷ a) s x h n = no_such a s x h n.1

-- ---- all parts

module _ (levels : ℕ) (text : List ℕ) (u : IsUtf8 text) where
  derive : (trees : List PolicyTree) (from to : ℕ) (ts : List Token) → IsCharBoundary text from → AllByRecursion (IsSpelledIn text) ts
      → policies levels ts trees → NoEnd ts ⊎ FirstPart from to (drop from text) ts → AllByRecursion (Derives levels) (parts_from text from ts)
  derive [] from to ts c s d found = subst (λ (x : List Token). AllByRecursion (Derives levels) (parts_from text from x)) (sym d) tt
  derive (tree ∷ trees) from to ts c s d (inl none) =
      let end = policy_ends levels d.0 tree d.3 in
      absurd (no_such end.before end.last d.1 end.ends (subst NoEnd (d.2 ∙ ap (λ (x : List Token). x ++ d.1) end.whole ∙ append_assoc end.before (end.last ∷ []) d.1) none))
  derive (tree ∷ trees) from to ts c s d (inr f) =
      let end = policy_ends levels d.0 tree d.3 in
      let one = same_end f.before end.before f.last end.last f.more d.1 f.none_before end.none_before f.ends end.ends
      (sym f.tokens ∙ d.2 ∙ ap (λ (x : List Token). x ++ d.1) end.whole ∙ append_assoc end.before (end.last ∷ []) d.1) in
      let spelled = last_of (IsSpelledIn text) f.before f.last f.more (subst (AllByRecursion (IsSpelledIn text)) f.tokens s) in
      let is = part_is text f.part f.rest from f.last.end f.whole f.at_end in
      let left = rest_is text f.part f.rest from f.last.end f.whole f.at_end in
      let utf8 : IsUtf8 (slice_range text from f.last.end) = IsUtf8-between text from f.last.end u (omega (arith, f.at_end)) c spelled.0.end_cut in
      let same : d.0 ≡ f.before ++ f.last ∷ [] = end.whole ∙ sym (λ i. one.before i ++ one.last i ∷ []) in
      let first : Derives levels f.part = record {
        utf8 = subst IsUtf8 is utf8;
        at = from;
        to = from + length f.part;
        tokens = f.before ++ f.last ∷ [];
        lexed = f.lexed;
        tree = tree;
        derived = subst (λ (x : List Token). policy levels x tree) same d.3;
      } in
      let more : AllByRecursion (Derives levels) (parts_from text f.last.end f.more) =
      derive trees f.last.end to f.more spelled.0.end_cut spelled.1 (subst (λ (x : List Token). policies levels x trees) (sym one.more) d.4)
      (split (subst (λ (x : List ℕ). Lex f.last.end x f.more to []) (sym left) (subst (λ (m : ℕ). Lex m f.rest f.more to []) (sym f.at_end) f.behind))) in
      subst (AllByRecursion (Derives levels)) (sym (ap (parts_from text from) f.tokens ∙ parts_first text from f.before f.last f.more f.none_before f.ends)) (subst (Derives levels) (sym is) first, more)

pub each_derives : EachDerivesPolicy
each_derives levels text ts trees u h d =
    all_alone levels (parts_from text 0 ts) (derive levels text u trees 0 h.0 ts (IsCharBoundary-start text u) (all_spelled text [] u refl refl h.1) d (split h.1))
