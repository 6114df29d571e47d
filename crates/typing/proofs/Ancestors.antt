-- What is true of parents is true of ancestors.
use Rattle.std.specs.Prelude.{List, [], ◌∷◌, IsTrue, IsFalse}
use Rattle.values.specs.declared.entity_uid.EntityUid.{EntityUid}
use Rattle.evaluator.specs.ancestor_search.Hierarchy.{Parents, Path}
use Rattle.typing.specs.Environment.{Environment}
use Rattle.typing.specs.Laws.{IsTransitive, ParentsAreAllowed, ParentsDetermineAncestors}

along : (env : Environment) (parents : Parents) → IsTransitive env.may_have_ancestor → ParentsAreAllowed env parents
    → (through : List EntityUid) (u a : EntityUid) → IsFalse (env.is_action_type u.type_name) → Path parents u through a
    → IsTrue (env.may_have_ancestor u.type_name a.type_name)
along env parents below allowed [] u a n p = (allowed u a n p).0
along env parents below allowed (c ∷ cs) u a n p =
    let first = allowed u c n p.0 in
    below u.type_name c.type_name a.type_name first.0 (along env parents below allowed cs c a first.1 p.1)

pub parents_determine_ancestors : ParentsDetermineAncestors
parents_determine_ancestors env parents below allowed u a n p = along env parents below allowed p.0 u a n p.1
