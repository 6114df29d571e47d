use Rattle.std.proofs.Common.{◌≡◌, drop, ◌||◌, Ok}
use Rattle.evaluator.specs.inner.Computing.{decided_entities, in_members, and_then}
use Rattle.evaluator.proofs.operators.in_members.Given as goal

abbrev pub invariant-loop-member : goal.invariant-loop-member
invariant-loop-member g l =
    let E = decided_entities (g.L.Lookup.stored l.store) (g.L.Ancestry.ancestor_test l.store) in
    in_members E l.a l.members ≡ and_then (in_members E l.a (drop l.member-index l.members)) (λ rest. Ok (l.found || rest))
