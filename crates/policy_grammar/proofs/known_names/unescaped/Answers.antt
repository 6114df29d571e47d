use Rattle.std.proofs.Common.{◌≡◌, ◌∷◌, ◌∙◌, ℕ, List, Some, sym, ap, subst, lit<, false}
use Rattle.std.proofs.lemmas.Str.Pattern.{strip_prefix_char, strip_suffix_char}
use Rattle.grammar_desugaring.specs.grammar_syntax.declared.token.TokenKind.{TokenKind}
use Rattle.grammar_desugaring.specs.grammar_syntax.Lexing.{IsToken, spelling_of}
use Rattle.policy_grammar.proofs.Unescaped.{has_slash, states_body}
use Rattle.policy_grammar.proofs.known_names.unescaped.Goals as goal

pub returns : goal.returns
returns c =
    let value = c.in_ok-value.value.now in
    let spelled = spelling_of c.args.text.now c.args.token in
    let first = strip_prefix_char 34 c.spelling.result.now (Some c.in_ok-strip_prefix.field-0) c.in_ok-strip_prefix.ensures.cases (lit< tt) in
    let last = strip_suffix_char 34 c.in_ok-strip_prefix.field-0.now (Some c.in_ok-value.value) c.in_ok-value.ensures.cases (lit< tt) in
    let whole = sym c.spelling.ensures.is ∙ (first ∙ ap (λ (x : List ℕ). 34 ∷ x) last) in
    let token = subst (λ (k : TokenKind). IsToken k spelled) c.requires.string c.requires.spelled.is in
    let plain : has_slash value ≡ false = ap has_slash (sym c.as_bytes.ensures.value) ∙ sym c.contains.ensures.value ∙ c.if-contains.false in
    states_body value spelled token whole plain
