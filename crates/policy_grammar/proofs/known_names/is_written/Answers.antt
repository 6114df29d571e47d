use Rattle.std.proofs.Common.{◌≡◌, ◌∙◌, ℕ, List, [], map, sym, ap, true}
use Rattle.std.specs.Str.{bytes_eq}
use Rattle.std.proofs.lemmas.Slice.Eq.{bytes_eq-Decides}
use Rattle.plain.specs.Words.{joined_path}
use Rattle.grammar_desugaring.specs.grammar_syntax.Lexing.{spelling_of}
use Rattle.grammar_desugaring.specs.grammar_syntax.Grammar.{identifiers}
use Rattle.grammar_desugaring.specs.grammar_syntax.declared.name_trees.PathTree.{PathTree}
use Rattle.grammar_desugaring.specs.Meaning.{path_name}
use Rattle.grammar_desugaring.proofs.WellFormedLemmas.{token_in}
use Rattle.policy_grammar.proofs.known_names.is_written.Goals as goal

pub spelling-requires : goal.spelling-requires
spelling-requires c =
    (token_in c.args.text.now c.requires.tokens c.requires.spelled identifiers c.args.path.now.first c.requires.is_well_formed.0).spelled

-- a path of one word is that word
one_word : (text : List ℕ) (path : PathTree) (name spelled shown : List ℕ) → path.more ≡ [] → spelled ≡ spelling_of text path.first → shown ≡ name
    → bytes_eq spelled shown ≡ true → name ≡ path_name text path
one_word text path name spelled shown none is shows same =
    sym shows ∙ sym ((bytes_eq-Decides spelled shown).0 same) ∙ is
    ∙ sym (ap (λ more. joined_path (spelling_of text path.first) (map (spelling_of text) more)) none)

pub returns-then-is_empty : goal.returns-then-is_empty
returns-then-is_empty c h =
    one_word c.args.text.now c.args.path.now c.args.name.now c.spelling.result.now c.as_str.result.now (c.is_empty.ensures.0 c.if-is_empty.true)
    c.spelling.ensures.is c.as_str.ensures (sym c.eq.ensures ∙ h)
