-- A request finds each policy whose scope is true of it.
use Rattle.std.proofs.Common.{inl}
use Rattle.std.specs.Prelude.{Option, Some, None}
use Rattle.values.specs.declared.entity_uid.EntityUid.{EntityUid}
use Rattle.values.specs.declared.request.Request.{Request}
use Rattle.ancestor_search.specs.Hierarchy.{Parents, IsIn}
use Rattle.policy_grammar.specs.declared.policy.EntityScope.{EntityScope}
use Rattle.policy_grammar.specs.declared.policy.EntityScope.TheVariants as part
use Rattle.policy_grammar.specs.declared.policy.Scope.{Scope}
use Rattle.scope_index.specs.Keys.{entity_named, key_by, index_key, IsMet}
use Rattle.scope_index.specs.Scopes.{IsEntityScopeTrue, IsScopeTrue}

-- the entity that a true part names is the one asked about, or above it
abbrev pub IsNamedWell : Parents → EntityUid → Option EntityUid → Type 0
IsNamedWell parents uid None = Unit {0}
IsNamedWell parents uid (Some e) = IsIn parents uid e

part_meets : (parents : Parents) (uid : EntityUid) (p : EntityScope) → IsEntityScopeTrue (IsIn parents uid) p uid
    → IsNamedWell parents uid (entity_named p)
part_meets parents uid part.Any h = tt
part_meets parents uid (part.Equal e) h = inl h
part_meets parents uid (part.In e) h = h
part_meets parents uid (part.Is t) h = tt
part_meets parents uid (part.IsIn t e) h = h.1

both_meet : (parents : Parents) (q : Request) (p r : Option EntityUid) → IsNamedWell parents q.principal p
    → IsNamedWell parents q.resource r → IsMet parents q (key_by p r)
both_meet parents q (Some e) r h k = h
both_meet parents q None (Some e) h k = k
both_meet parents q None None h k = tt

pub scope_meets : (parents : Parents) (q : Request) (scope : Scope) → IsScopeTrue parents scope q → IsMet parents q (index_key scope)
scope_meets parents q scope h =
    both_meet parents q (entity_named scope.principal) (entity_named scope.resource)
    (part_meets parents q.principal scope.principal h.0) (part_meets parents q.resource scope.resource h.2)
