-- As many texts as policies.
use Rattle.std.proofs.Common.{◌≡◌, ℕ, suc, List, [], ◌∷◌, ◌++◌, length, ap, ◌∙◌, append_assoc}
use Rattle.std.proofs.lemmas.List.{length-map}
use Rattle.std.specs.Str.{trim_start}
use Rattle.grammar_desugaring.specs.grammar_syntax.declared.token.Token.{Token}
use Rattle.grammar_desugaring.specs.grammar_syntax.Lexing.{OneLexing}
use Rattle.grammar_parsing.specs.declared.tree.PolicyTree.{PolicyTree}
use Rattle.grammar_parsing.specs.Grammar.{policies}
use Rattle.policy_grammar.specs.Cuts.{parts_from, AreAsManyAsPolicies}
use Rattle.policy_grammar.proofs.Alone.{parts_first}
use Rattle.policy_grammar.proofs.Endless.{policy_ends}

parts_counted : (levels : ℕ) (text : List ℕ) (from : ℕ) (ts : List Token) (trees : List PolicyTree) → policies levels ts trees → length (parts_from text from ts) ≡ length trees
parts_counted levels text from ts [] d = ap (λ (x : List Token). length (parts_from text from x)) d
parts_counted levels text from ts (tree ∷ trees) d =
    let end = policy_ends levels d.0 tree d.3 in
    let whole : ts ≡ end.before ++ end.last ∷ d.1 = d.2 ∙ ap (λ (x : List Token). x ++ d.1) end.whole ∙ append_assoc end.before (end.last ∷ []) d.1 in
    ap (λ (x : List Token). length (parts_from text from x)) whole
    ∙ ap length (parts_first text from end.before end.last d.1 end.none_before end.ends)
    ∙ ap suc (parts_counted levels text end.last.end d.1 trees d.4)

pub as_many : OneLexing → AreAsManyAsPolicies
as_many one levels text ts trees texts lexed derived cut =
    let same : cut.0 ≡ ts = one text cut.0 ts cut.1 lexed in
    ap length cut.2 ∙ length-map (parts_from text 0 cut.0) trim_start ∙ ap (λ (x : List Token). length (parts_from text 0 x)) same ∙ parts_counted levels text 0 ts trees derived
