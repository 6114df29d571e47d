-- Defines orders of a graph's nodes in which each node comes after its successors.
-- Source: topological order by depth-first search; Tarjan, "Edge-disjoint spanning trees and depth-first search",
-- 1976.
-- Rules of this product: there may be cycles; a node need not come after a successor that leads back to it.
use Rattle.std.specs.Prelude.{◌≡◌, ◌⊎◌, ◌+◌, ◌<◌, ◌≤◌, ◌++◌, ⊤, ℕ, zero, suc, List, [], ◌∷◌, length, map, Contains}
use Rattle.std.specs.Prelude.{Vec}
use Rattle.std.specs.declared.alloc.Global.{Global}

-- `Graph` is the type of graphs: the successors of each node, where a node is an index.
abbrev pub Graph : Type 0
Graph = List (List ℕ)

-- `graph_of edges` is the graph that the vectors `edges` represent.
abbrev pub graph_of : List (Vec ℕ Global) → Graph
graph_of edges = map (λ v. v.items) edges

-- `successors_of g a` are the successors of the node `a` in the graph `g`; `[]` if `a` is not a node of `g`.
abbrev pub successors_of : Graph → ℕ → List ℕ
successors_of [] a = []
successors_of (ends ∷ g) zero = ends
successors_of (ends ∷ g) (suc a) = successors_of g a

-- `Leads g a b` holds if one or more edges of the graph `g` lead from `a` to `b`.
pub data Leads (g : Graph) : ℕ → ℕ → Type 0 where
  edge : (a b : ℕ) → Contains (successors_of g a) b → Leads g a b
  edges : (a b c : ℕ) → Contains (successors_of g a) b → Leads g b c → Leads g a c

-- `one_if_same a b` is 1 if the nodes `a` and `b` are equal, else 0.
abbrev pub one_if_same : ℕ → ℕ → ℕ
one_if_same zero zero = 1
one_if_same zero (suc b) = 0
one_if_same (suc a) zero = 0
one_if_same (suc a) (suc b) = one_if_same a b

-- `times a bs` is the number of times that the node `a` occurs in `bs`.
abbrev pub times : ℕ → List ℕ → ℕ
times a [] = 0
times a (b ∷ bs) = one_if_same a b + times a bs

-- `ComesAfterItsSuccessors g before a` holds if each edge from `a` leads to a node of `before`, to a node that leads
-- back to `a`, or out of the graph `g`.
abbrev pub ComesAfterItsSuccessors : Graph → List ℕ → ℕ → Type 0
ComesAfterItsSuccessors g before a =
    (b : ℕ) → Contains (successors_of g a) b → b < length g → Contains before b ⊎ Leads g b a

-- `ComeAfterSuccessors g before rest` holds if `ComesAfterItsSuccessors` holds for each node of `rest`, with `before`
-- and the nodes of `rest` that precede it as the earlier nodes.
abbrev pub ComeAfterSuccessors : Graph → List ℕ → List ℕ → Type 0
ComeAfterSuccessors g before [] = ⊤
ComeAfterSuccessors g before (a ∷ rest) =
    ComesAfterItsSuccessors g before a × ComeAfterSuccessors g (before ++ a ∷ []) rest

-- `IsSuccessorsFirst g order` holds if `order` has exactly the nodes of the graph `g`, without duplicates, each after
-- its successors except those that lead back to it.
pub record IsSuccessorsFirst (g : Graph) (order : List ℕ) : Type 0 where
  pub once : (a : ℕ) → a < length g → times a order ≡ 1
  pub inside : (a : ℕ) → length g ≤ a → times a order ≡ 0
  pub behind : ComeAfterSuccessors g [] order
