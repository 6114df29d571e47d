-- Defines the keys, which must be distinct, of a policy's annotations. In each definition `text` is the text that the
-- policy's tokens are in.
-- Source: Cedar reference guide 4.0, "Annotations": a key occurs once in a policy.
use Rattle.std.specs.Prelude.{ℕ, List, map}
use Rattle.grammar_desugaring.specs.grammar_syntax.Lexing.{spelling_of}
use Rattle.grammar_parsing.specs.declared.tree.Annotation.{Annotation}
use Rattle.grammar_parsing.specs.declared.tree.PolicyTree.{PolicyTree}
use Rattle.grammar_desugaring.specs.Repeats.{NameAt}

-- `key_at text annotation` is the key of `annotation`, with the offset of its `@`.
abbrev pub key_at : List ℕ → Annotation → NameAt
key_at text annotation = record { name = spelling_of text annotation.key; at = annotation.at.start }

-- `annotation_keys text tree` are the keys of the annotations of the policy `tree`, in order.
abbrev pub annotation_keys : List ℕ → PolicyTree → List NameAt
annotation_keys text tree = map (key_at text) tree.annotations
