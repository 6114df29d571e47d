use Rattle.std.proofs.Common.{◌∙◌, ap, ◌++◌, ◌∷◌, []}
use Rattle.ancestor_search.specs.Hierarchy.{referenced}
use Rattle.ancestor_search.specs.inner.Backwards.{children_of}
use Rattle.ancestor_search.proofs.Members.{referenced-push}
use Rattle.ancestor_search.proofs.Turned.{children_of-put, one_child_more}
use Rattle.ancestor_search.proofs.named_cycle.add_to.Goals as goal

pub returns : goal.returns
returns c =
    one_child_more (children_of c.args.children.now) (children_of c.take-known.new.children) (children_of c.insert.new.self) c.args.parent.now c.args.child.now (referenced c.push.new.self.items)
    c.take-known.ensures.out (children_of-put c.take-known.new.children c.insert.new.self c.args.parent c.push.new.self c.in_ok-insert.ensures.updates)
    (ap referenced c.in_ok-push.ensures.items ∙ referenced-push c.take-known.result.items c.args.child ∙ ap (λ l. l ++ c.args.child.now ∷ []) c.take-known.ensures.was)
