-- What stands behind a policy's scope may be read apart from what stands before.
use Rattle.std.proofs.Common.{◌≡◌, ℕ, List, refl}
use Rattle.grammar_syntax.specs.declared.token.TokenKind.TheVariants as k
use Rattle.grammar_syntax.specs.declared.token.Token.{Token}
use Rattle.grammar_syntax.specs.ParserCombinators.{ParseResult, Read, Stop, and_then, token, pure}
use Rattle.grammar_parsing.specs.declared.tree.Annotation.{Annotation}
use Rattle.grammar_parsing.specs.declared.tree.ScopeTree.{ScopeTree}
use Rattle.grammar_parsing.specs.declared.tree.Condition.{Condition}
use Rattle.grammar_parsing.specs.declared.tree.PolicyTree.{PolicyTree}
use Rattle.grammar_parsing.specs.inner.Parsing as r

abbrev made : List Annotation → Token → ScopeTree → List Condition → PolicyTree
made notes effect s cs = record {
  annotations = notes;
  effect = effect;
  principal = s.principal;
  action = s.action;
  resource = s.resource;
  conditions = cs;
}

pub tail_then : (n : ℕ) (notes : List Annotation) (effect : Token) (s : ScopeTree) (ts : List Token)
    → r.policy_of n notes effect s ts ≡ and_then (r.scope_tail n ts) (λ cs. pure (made notes effect s cs))
unfolding r.policy_of r.scope_tail
tail_then n notes effect s ts = closed (token k.RParen ts)
  where
    ended : (cs : List Condition) (q : ParseResult Token)
        → and_then q (λ _. pure (made notes effect s cs))
        ≡ and_then (and_then q (λ _. pure cs)) (λ ds. pure (made notes effect s ds))
    ended cs (Read t rest) = refl
    ended cs (Stop w rest) = refl

    found : (q : ParseResult (List Condition))
        → and_then q (λ cs us. and_then (token k.Semicolon us) (λ _. pure (made notes effect s cs)))
        ≡ and_then (and_then q (λ cs us. and_then (token k.Semicolon us) (λ _. pure cs)))
        (λ ds. pure (made notes effect s ds))
    found (Read cs rest) = ended cs (token k.Semicolon rest)
    found (Stop w rest) = refl

    closed : (q : ParseResult Token)
        → and_then q (λ _ us. and_then (r.conditions n us)
        (λ cs vs. and_then (token k.Semicolon vs) (λ _. pure (made notes effect s cs))))
        ≡ and_then (and_then q (λ _ us. and_then (r.conditions n us)
        (λ cs vs. and_then (token k.Semicolon vs) (λ _. pure cs)))) (λ ds. pure (made notes effect s ds))
    closed (Read t rest) = found (r.conditions n rest)
    closed (Stop w rest) = refl
