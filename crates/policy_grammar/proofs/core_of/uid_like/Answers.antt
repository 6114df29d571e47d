use Rattle.std.proofs.Common.{ℕ, List, ◌∙◌, ap}
use Rattle.grammar_desugaring.specs.grammar_syntax.Lexing.{spelling_of}
use Rattle.values.specs.declared.entity_uid.EntityUid.{EntityUid}
use Rattle.grammar_desugaring.specs.Meaning.{path_name}
use Rattle.policy_grammar.proofs.Lists.{text-kind}
use Rattle.policy_grammar.proofs.core_of.uid_like.Goals as goal

pub id_like-requires-clause-string : goal.id_like-requires-clause-string
id_like-requires-clause-string c = text-kind _ c.requires.is_well_formed.1.1

abbrev uid : List ℕ → List ℕ → EntityUid
uid type_name id = record { type_name = type_name; id = id }

pub returns : goal.returns
returns c =
    ap (λ (name : List ℕ). uid name c.in_ok-id.id) c.in_ok-type_name.ensures
    ∙ ap (uid (path_name c.args.text.now c.args.tree.now.path)) (c.strings_are_read.ensures.values c.in_ok-id.id (spelling_of c.args.text.now c.args.tree.now.id) c.in_ok-id.ensures)
