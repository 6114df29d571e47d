-- The text of each policy, with its tokens as they stand in the file, is read as the policy that it is there.
use Rattle.std.proofs.Common.{◌≡◌, ◌⊎◌, inl, inr, ℕ, ◌+◌, ◌-◌, ◌≤◌, List, [], ◌∷◌, ◌++◌, length, take, drop, map, refl}
use Rattle.std.proofs.Common.{sym, ap, ◌∙◌, subst, arith, append_assoc, length-append, take-append-drop}
use Rattle.std.specs.Prelude.{encode_utf8_all, chars, slice_range}
use Rattle.std.specs.List.{AllByRecursion, AllZip}
use Rattle.std.specs.Str.{IsUtf8, IsCharBoundary, trim_start, skip_leading_whitespace}
use Rattle.std.proofs.Math.Seq.{take-append_seam}
use Rattle.std.proofs.lemmas.List.{length-take-le}
use Rattle.std.proofs.lemmas.Str.{IsCharBoundary-start, IsUtf8-between, encodes-chars}
use Rattle.grammar_desugaring.specs.grammar_syntax.declared.token.Token.{Token}
use Rattle.grammar_desugaring.specs.grammar_syntax.Lexing.{Lex, finish, gap, token, IsSpelledIn, OneLexing}
use Rattle.grammar_parsing.proofs.of_grammar_syntax.Parts.{past}
use Rattle.grammar_parsing.proofs.of_grammar_syntax.Spelled.{all_spelled}
use Rattle.grammar_desugaring.specs.grammar_syntax.ParseResults.{HasOneTree}
use Rattle.grammar_parsing.specs.Expressions.{nesting_limit}
use Rattle.grammar_parsing.specs.declared.tree.PolicyTree.{PolicyTree}
use Rattle.grammar_parsing.specs.Grammar.{policies, policy}
use Rattle.policy_grammar.specs.declared.policy.Policy.{Policy}
use Rattle.policy_grammar.specs.CoreOf.{IsCoreOf}
use Rattle.policy_grammar.proofs.Cores.{core-same}
use Rattle.policy_grammar.specs.Cuts.{parts_from, policy_texts}
use Rattle.policy_grammar.proofs.Splitting.{NoEnd, FirstPart, split}
use Rattle.policy_grammar.proofs.Alone.{trimmed, moved, back, parts_first, part_is, rest_is, last_of, part_spaced}
use Rattle.policy_grammar.proofs.Alone.{lex_len}
use Rattle.policy_grammar.proofs.Endless.{policy_ends}
use Rattle.policy_grammar.proofs.Deriving.{same_end, no_such}
use Rattle.policy_grammar.specs.SameReadings.{IsAtMostPolicy, EachIsParsedAsInItsFile}
use Rattle.policy_grammar.proofs.Kin.{AreSame}
use Rattle.policy_grammar.proofs.Scopes.{policy_kin, core_of_other}

-- ---- tokens of a text within another

spell : (text front v rest : List ℕ) (s e : ℕ) → text ≡ front ++ (v ++ rest) → length front ≡ s → e ≡ s + length v → take (e - s) (drop s text) ≡ v
spell text front v rest s e whole at long =
    let n : e - s ≡ length v = omega arith in
    ap (λ (m : ℕ). take m (drop s text)) n ∙ ap (λ (m : ℕ). take (length v) (drop m text)) (sym at) ∙ ap (λ (x : List ℕ). take (length v) (drop (length front) x)) whole
    ∙ ap (λ (x : List ℕ). take (length v) x) (past front (v ++ rest)) ∙ take-append_seam v rest

module _ (text w front rest : List ℕ) (p : ℕ) (whole : text ≡ front ++ (w ++ rest)) (starts : length front ≡ p) where
  in_text : (done v tail : List ℕ) → w ≡ done ++ (v ++ tail) → text ≡ (front ++ done) ++ (v ++ (tail ++ rest))
  in_text done v tail e =
      whole ∙ ap (λ (x : List ℕ). front ++ (x ++ rest)) e
      ∙ ap (λ (x : List ℕ). front ++ x) (append_assoc done (v ++ tail) rest ∙ ap (λ (x : List ℕ). done ++ x) (append_assoc v tail rest))
      ∙ sym (append_assoc front done (v ++ (tail ++ rest)))

  same_from : {at to : ℕ} {tail : List ℕ} {ts : List Token} (done : List ℕ) → Lex at tail ts to [] → w ≡ done ++ tail → at ≡ p + length done → AreSame text w ts (map (back p) ts)
  same_from done finish e l = tt
  same_from done (gap v tail f i g) e l =
      same_from (done ++ v) g (e ∙ ap (λ (x : List ℕ). done ++ x) f ∙ sym (append_assoc done v tail)) (omega (arith, length-append done v))
  same_from {at} done (token k v tail f i g) e l =
      let here = e ∙ ap (λ (x : List ℕ). done ++ x) f in (
        record {
          kind = refl;
          spelled =
              spell text (front ++ done) v (tail ++ rest) at (at + length v) (in_text done v tail here) (omega (arith, length-append front done)) refl
              ∙ sym (spell w done v tail (at - p) (at + length v - p) here (omega arith) (omega arith));
        },
        same_from (done ++ v) g (here ∙ sym (append_assoc done v tail)) (omega (arith, length-append done v)),
      )

  pub same_tokens : {to : ℕ} {ts : List Token} → Lex p w ts to [] → AreSame text w ts (map (back p) ts)
  same_tokens h = same_from [] h refl (omega arith)

-- ---- one part

-- where the text of a part stands in the file
record Stands (text w : List ℕ) (p : ℕ) : Type 0 where
  front : List ℕ
  rest : List ℕ
  whole : text ≡ front ++ (w ++ rest)
  starts : length front ≡ p

stands : (text part rest w : List ℕ) (from p to : ℕ) (ts : List Token) → from ≤ length text → drop from text ≡ part ++ rest → (space : List ℕ) → part ≡ space ++ w
    → to ≡ from + length part → Lex p w ts to [] → Stands text w p
stands text part rest w from p to ts low whole space e end h =
    let long = lex_len h in
    let first : length (take from text) ≡ from = length-take-le from text low in
    record {
      front = take from text ++ space;
      rest = rest;
      whole =
          sym (take-append-drop from text) ∙ ap (λ (x : List ℕ). take from text ++ x) (whole ∙ ap (λ (x : List ℕ). x ++ rest) e ∙ append_assoc space w rest)
          ∙ sym (append_assoc (take from text) space (w ++ rest));
      starts = omega (arith, length-append (take from text) space, length-append space w, ap length e);
    }

module _ (one_list : OneLexing) (one_tree : HasOneTree (policy nesting_limit)) (text : List ℕ) where
  -- what the part is read as, by its tokens as they stand in the file
  read_as : (w : List ℕ) (p to : ℕ) (ts : List Token) (tree : PolicyTree) (core : Policy) → Lex p w ts to [] → Stands text w p → policy nesting_limit ts tree → IsCoreOf text tree core
      → IsAtMostPolicy w core
  read_as w p to ts tree core h s d c read is =
      let m = moved p 0 (omega arith) h in
      let same = same_tokens text w s.front s.rest p s.whole s.starts h in
      let kin = policy_kin text w nesting_limit ts (map (back p) ts) tree same d in
      let known = core_of_other text w tree kin.0 core kin.2 c in
      let tokens : is.derives.tokens ≡ map (back p) ts = one_list w is.derives.tokens (map (back p) ts) is.derives.lexed (m.end, m.lexed) in
      let trees : is.tree ≡ kin.0 =
      one_tree (map (back p) ts) is.tree kin.0 (subst (λ (x : List Token). policy nesting_limit x is.tree) tokens is.derives.derived) kin.1 in
      core-same w kin.0 read core (subst (λ (x : PolicyTree). IsCoreOf w x read) trees is.is.core) known

  part_read : (part rest : List ℕ) (from : ℕ) (ts : List Token) (tree : PolicyTree) (core : Policy) → IsUtf8 part → from ≤ length text → drop from text ≡ part ++ rest
      → Lex from part ts (from + length part) [] → policy nesting_limit ts tree → IsCoreOf text tree core → IsAtMostPolicy (trim_start part) core
  unfolding trim_start
  part_read part rest from ts tree core u low whole h d c =
      let w = encode_utf8_all (skip_leading_whitespace (chars part)) in
      let t = trimmed (chars part) from (from + length part) ts (subst (λ (x : List ℕ). Lex from x ts (from + length part) []) (sym (encodes-chars part u)) h) in
      let spaced = part_spaced part u in
      read_as w t.at (from + length part) ts tree core t.lexed (stands text part rest w from t.at (from + length part) ts low whole spaced.space spaced.whole refl t.lexed) d c

  -- ---- all parts

  parts_read : (u : IsUtf8 text) (trees : List PolicyTree) (cores : List Policy) (from to : ℕ) (ts : List Token) → IsCharBoundary text from → AllByRecursion (IsSpelledIn text) ts
      → policies nesting_limit ts trees → AllZip (IsCoreOf text) trees cores → NoEnd ts ⊎ FirstPart from to (drop from text) ts
      → AllZip (λ w core. IsAtMostPolicy (trim_start w) core) (parts_from text from ts) cores
  parts_read u [] [] from to ts b s d c found = subst (λ (x : List Token). AllZip (λ w core. IsAtMostPolicy (trim_start w) core) (parts_from text from x) []) (sym d) tt
  parts_read u [] (core ∷ cores) from to ts b s d c found = absurd c
  parts_read u (tree ∷ trees) [] from to ts b s d c found = absurd c
  parts_read u (tree ∷ trees) (core ∷ cores) from to ts b s d c (inl none) =
      let end = policy_ends nesting_limit d.0 tree d.3 in
      absurd (no_such end.before end.last d.1 end.ends (subst NoEnd (d.2 ∙ ap (λ (x : List Token). x ++ d.1) end.whole ∙ append_assoc end.before (end.last ∷ []) d.1) none))
  parts_read u (tree ∷ trees) (core ∷ cores) from to ts b s d c (inr f) =
      let end = policy_ends nesting_limit d.0 tree d.3 in
      let one = same_end f.before end.before f.last end.last f.more d.1 f.none_before end.none_before f.ends end.ends
      (sym f.tokens ∙ d.2 ∙ ap (λ (x : List Token). x ++ d.1) end.whole ∙ append_assoc end.before (end.last ∷ []) d.1) in
      let spelled = last_of (IsSpelledIn text) f.before f.last f.more (subst (AllByRecursion (IsSpelledIn text)) f.tokens s) in
      let is = part_is text f.part f.rest from f.last.end f.whole f.at_end in
      let left = rest_is text f.part f.rest from f.last.end f.whole f.at_end in
      let utf8 : IsUtf8 (slice_range text from f.last.end) = IsUtf8-between text from f.last.end u (omega (arith, f.at_end)) b spelled.0.end_cut in
      let same : d.0 ≡ f.before ++ f.last ∷ [] = end.whole ∙ sym (λ i. one.before i ++ one.last i ∷ []) in
      let first : IsAtMostPolicy (trim_start f.part) core =
      part_read f.part f.rest from (f.before ++ f.last ∷ []) tree core (subst IsUtf8 is utf8) b.0 f.whole f.lexed (subst (λ (x : List Token). policy nesting_limit x tree) same d.3) c.0 in
      let more : AllZip (λ w core. IsAtMostPolicy (trim_start w) core) (parts_from text f.last.end f.more) cores =
      parts_read u trees cores f.last.end to f.more spelled.0.end_cut spelled.1 (subst (λ (x : List Token). policies nesting_limit x trees) (sym one.more) d.4) c.1
      (split (subst (λ (x : List ℕ). Lex f.last.end x f.more to []) (sym left) (subst (λ (m : ℕ). Lex m f.rest f.more to []) (sym f.at_end) f.behind))) in
      subst (λ (ws : List (List ℕ)). AllZip (λ w core. IsAtMostPolicy (trim_start w) core) ws (core ∷ cores))
      (sym (ap (parts_from text from) f.tokens ∙ parts_first text from f.before f.last f.more f.none_before f.ends))
      (subst (λ (w : List ℕ). IsAtMostPolicy (trim_start w) core) (sym is) first, more)

zip_map : (ws : List (List ℕ)) (cores : List Policy) → AllZip (λ w core. IsAtMostPolicy (trim_start w) core) ws cores → AllZip IsAtMostPolicy (map trim_start ws) cores
zip_map [] [] h = tt
zip_map [] (core ∷ cores) h = absurd h
zip_map (w ∷ ws) [] h = absurd h
zip_map (w ∷ ws) (core ∷ cores) h = (h.0, zip_map ws cores h.1)

pub each_read : OneLexing → HasOneTree (policy nesting_limit) → EachIsParsedAsInItsFile
each_read one_list one_tree text names cores texts u file cut =
    let d = file.derives in
    let tokens : cut.0 ≡ d.tokens = one_list text cut.0 d.tokens cut.1 d.lexed in
    let texts_are : texts ≡ policy_texts text d.tokens = cut.2 ∙ ap (policy_texts text) tokens in
    subst (λ (ts : List (List ℕ)). AllZip IsAtMostPolicy ts cores) (sym texts_are)
    (zip_map (parts_from text 0 d.tokens) cores
    (parts_read one_list one_tree text u file.trees cores 0 d.lexed.0 d.tokens (IsCharBoundary-start text u) (all_spelled text [] u refl refl d.lexed.1) d.derived file.are.cores (split d.lexed.1)))
