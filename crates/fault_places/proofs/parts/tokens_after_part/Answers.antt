use Rattle.std.proofs.Common.{◌≡◌, ◌⊎◌, inl, inr, ◌+◌, sym, ap, ◌∙◌, drop}
use Rattle.grammar_syntax.specs.declared.name_trees.UidTree.{UidTree}
use Rattle.grammar_parsing.specs.declared.tree.PartTree.{PartTree}
use Rattle.grammar_parsing.specs.declared.tree.PartTree.TheVariants.{Equal, In}
use Rattle.fault_places.specs.TokenCounts.{path_count, uid_count}
use Rattle.fault_places.proofs.Dropping.{twice}
use Rattle.fault_places.specs.Places.{part_count}
use Rattle.fault_places.proofs.parts.tokens_after_part.Goals as goal

of_uid : (x : PartTree) (uid : UidTree) → x ≡ Equal uid ⊎ x ≡ In uid → part_count x ≡ 2 + uid_count uid
of_uid x uid (inl is) = ap part_count is
of_uid x uid (inr is) = ap part_count is

pub returns-in-Equal : goal.returns-in-Equal
returns-in-Equal c =
    twice c.args.tokens.now c.skip-in-Equal.result.now c.tokens_after_uid-in-Equal.result.now 2 (uid_count c.in-Equal.uid) c.skip-in-Equal.ensures c.tokens_after_uid-in-Equal.ensures
    ∙ ap (λ k. drop k c.args.tokens.now) (sym (of_uid c.args.part.now c.in-Equal.uid c.in-Equal.is))

pub returns-in-Is : goal.returns-in-Is
returns-in-Is c =
    twice c.args.tokens.now c.skip-in-Is.result.now c.tokens_after_path.result.now 2 (path_count c.in-Is.path) c.skip-in-Is.ensures c.tokens_after_path.ensures
    ∙ ap (λ p. drop (part_count p) c.args.tokens.now) (sym c.in-Is.is)

pub returns-in-IsIn : goal.returns-in-IsIn
returns-in-IsIn c =
    let n = path_count c.in-IsIn.path in
    twice c.args.tokens.now c.skip-in-IsIn-2.result.now c.tokens_after_uid.result.now (2 + n + 1) (uid_count c.in-IsIn.uid)
    (twice c.args.tokens.now c.tokens_after_path-in-IsIn.result.now c.skip-in-IsIn-2.result.now (2 + n) 1
    (twice c.args.tokens.now c.skip-in-IsIn.result.now c.tokens_after_path-in-IsIn.result.now 2 n c.skip-in-IsIn.ensures c.tokens_after_path-in-IsIn.ensures)
    c.skip-in-IsIn-2.ensures)
    c.tokens_after_uid.ensures
    ∙ ap (λ p. drop (part_count p) c.args.tokens.now) (sym c.in-IsIn.is)
