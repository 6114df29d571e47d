-- Defines the names of the policies in a file, which must be distinct; passes on the annotation keys of
-- Annotations.antt, which must be distinct in a policy.
-- Source: Cedar reference guide 4.0, "Annotations": a key occurs once in a policy.
-- Rules of this product: a name occurs once in a file.
use Rattle.std.specs.Prelude.{ℕ, List, [], ◌∷◌, map}
use Rattle.std.specs.List.{zip}
use Rattle.grammar_desugaring.specs.grammar_syntax.declared.token.Token.{Token}
use Rattle.grammar_parsing.specs.declared.tree.Annotation.{Annotation}
use Rattle.grammar_parsing.specs.declared.tree.PolicyTree.{PolicyTree}
use Rattle.grammar_desugaring.specs.Repeats.{NameAt}
pub use Rattle.policy_grammar.specs.Annotations.{key_at, annotation_keys}

-- `start_after annotations effect` is the byte at which a policy with the annotations `annotations` and the effect
-- token `effect` starts.
abbrev pub start_after : List Annotation → Token → ℕ
start_after [] effect = effect.start
start_after (annotation ∷ more) effect = annotation.at.start

-- `start_of tree` is the byte at which the first token of the policy `tree` starts.
abbrev pub start_of : PolicyTree → ℕ
start_of tree = start_after tree.annotations tree.effect

-- `policy_names names trees` are the names `names` of a file's policies `trees`, each with the offset of its policy's
-- first token.
abbrev pub policy_names : List (List ℕ) → List PolicyTree → List NameAt
policy_names names trees = map (λ named. record { name = named.0; at = start_of named.1 }) (zip names trees)
