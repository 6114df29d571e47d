-- Defines the key of a policy in the index: the entity that its scope names for the principal, or else for the
-- resource, if any; and the candidate policies of a request, those whose key matches the request.
-- Source: Cedar reference guide 4.0, "Policy scope", for the meaning of a scope.
-- Rules of this product: the principal comes first; a part names an entity by `==` or `in`, and not by `is` alone; a
-- scope that names no entity has a key that matches every request.
use Rattle.std.specs.Prelude.{◌≡◌, ℕ, List, Option, Some, None, string_bytes, map}
use Rattle.std.specs.BTreeMap.{is_at}
use Rattle.std.specs.Map.{lookup}
use Rattle.std.specs.Ordering.{nat_cmp}
use Rattle.std.specs.Cmp.Lexicographic.{slice_cmp}
use Rattle.std.specs.Borrow.{Bor}
use Rattle.std.specs.declared.alloc.Global.{Global}
use Rattle.std.specs.declared.string.String.{String}
use Rattle.values.specs.declared.entity_uid.EntityUid.{EntityUid}
use Rattle.values.specs.declared.request.Request.{Request}
use Rattle.ancestor_search.specs.Hierarchy.{Parents, IsIn}
use Rattle.policy_grammar.specs.declared.policy.EntityScope.{EntityScope}
use Rattle.policy_grammar.specs.declared.policy.EntityScope.TheVariants.{Any, Equal, In, Is, IsIn as IsOfTypeIn}
use Rattle.policy_grammar.specs.declared.policy.Scope.{Scope}
use Rattle.policy_grammar.specs.declared.policy.Policy.{Policy}

-- An `IndexKey` is the key of a policy. `Always` matches every request, `Principal e` the requests whose principal is
-- `e` or a descendant of `e`, and `Resource e` those whose resource is `e` or a descendant of `e`.
pub data IndexKey : Type 0 where
  Always : IndexKey
  Principal : EntityUid → IndexKey
  Resource : EntityUid → IndexKey

-- `entity_named part` is the entity that the part `part` of a scope names by `==` or `in`, if it names one.
abbrev pub entity_named : EntityScope → Option EntityUid
entity_named Any = None
entity_named (Equal e) = Some e
entity_named (In e) = Some e
entity_named (Is t) = None
entity_named (IsOfTypeIn t e) = Some e

-- `key_by p r` is the key of a policy whose scope names the entity in `p` for the principal and that in `r` for the
-- resource, where `None` means no entity: `Principal` of the first, else `Resource` of the second, else `Always`.
abbrev pub key_by : Option EntityUid → Option EntityUid → IndexKey
key_by (Some e) r = Principal e
key_by None (Some e) = Resource e
key_by None None = Always

-- `index_key scope` is the key of a policy with the scope `scope`.
abbrev pub index_key : Scope → IndexKey
index_key scope = key_by (entity_named scope.principal) (entity_named scope.resource)

-- `IsMet parents q key` holds if `key` matches the request `q` in the hierarchy `parents`.
abbrev pub IsMet : Parents → Request → IndexKey → Type 0
IsMet parents q Always = Unit {0}
IsMet parents q (Principal e) = IsIn parents q.principal e
IsMet parents q (Resource e) = IsIn parents q.resource e

-- `Kept` is the type of the policies of an index, with their ids.
abbrev pub Kept : Type 0
Kept = List (String Global × Policy)

-- `kept_at kept id` is the policy of `kept` whose id has the bytes `id`, if there is one.
abbrev pub kept_at : Kept → List ℕ → Option Policy
kept_at kept id = lookup (is_at (λ k. slice_cmp nat_cmp id (string_bytes k))) kept

-- A `Candidate` is an id with its policy. `IsCandidate` relates it to the requests that the policy's key matches.
abbrev pub Candidate : Type 0
Candidate = List ℕ × Policy

-- `lent ps` are the ids and policies to which the references `ps` point.
abbrev pub lent : List (Bor (List ℕ) × Bor Policy) → List Candidate
lent ps = map (λ p. (p.0.now, p.1.now)) ps

-- `ids os` are the ids of `os`.
abbrev pub ids : List Candidate → List (List ℕ)
ids os = map (λ o. o.0) os

-- `IsCandidate kept parents q o` holds if `o` is a policy of the index `kept` with its id, and the policy's key matches
-- the request `q` in the hierarchy `parents`.
pub record IsCandidate (kept : Kept) (parents : Parents) (q : Request) (o : Candidate) : Type 0 where
  pub is_kept : kept_at kept o.0 ≡ Some o.1
  pub met : IsMet parents q (index_key o.1.scope)
