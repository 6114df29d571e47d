-- Defines the invariant of a depth-first search, which lists each node after its successors, except those that lead
-- back to it.
use Rattle.std.specs.Prelude.{◌≡◌, ◌⊎◌, ◌+◌, ◌-◌, ◌<◌, ⊤, ℕ, zero, suc, List, [], ◌∷◌, length, Contains, Bool, true}
use Rattle.std.specs.Prelude.{false, not, if◌then◌else◌, Option, Some, None, slice_index_or}
use Rattle.schema_types.specs.declared.place_order.Step.{Step}
use Rattle.schema_types.specs.Orders.{Graph, successors_of, Leads, one_if_same, times, ComeAfterSuccessors}

-- `is_new seen a` tests whether `a` is a node that is not marked in `seen`.
abbrev pub is_new : List Bool → ℕ → Bool
is_new [] a = false
is_new (s ∷ ss) zero = not s
is_new (s ∷ ss) (suc a) = is_new ss a

-- `one_if_seen seen a` is 1 if the node `a` is marked in `seen`, else 0.
abbrev pub one_if_seen : List Bool → ℕ → ℕ
one_if_seen [] a = 0
one_if_seen (s ∷ ss) zero = if s then 1 else 0
one_if_seen (s ∷ ss) (suc a) = one_if_seen ss a

-- `times_on a path` is the number of times that the node `a` occurs on `path`, a list with the last step of the path
-- first. A `Step` of the code has a node (`place`) and the number of its edges that were followed (`followed`).
abbrev pub times_on : ℕ → List Step → ℕ
times_on a [] = 0
times_on a (s ∷ path) = one_if_same a s.place + times_on a path

-- `entered seen a path` is `path` with a step for the node `a` at its end, if `a` is a node that is not marked in
-- `seen`, else `path`.
abbrev pub entered : List Bool → ℕ → List Step → List Step
entered seen a path = if is_new seen a then record { place = a; followed = 0 } ∷ path else path

-- `IsFollowed g order next a b` holds if, in the graph `g`, the edge from `a` to `b` leads to a node of `order`, to a
-- node that leads back to `a`, or to the node in `next`. The node in `next` is the one after `a` on the path.
abbrev pub IsFollowed : Graph → List ℕ → Option ℕ → ℕ → ℕ → Type 0
IsFollowed g order next a b = (Contains order b ⊎ Leads g b a) ⊎ (next ≡ Some b)

-- `AreFollowed g order next s` holds if `IsFollowed` holds for each edge that the step `s` has followed, unless the
-- edge leads out of the graph `g`.
abbrev pub AreFollowed : Graph → List ℕ → Option ℕ → Step → Type 0
AreFollowed g order next s = (k b : ℕ) → k < s.followed → k < length (successors_of g s.place)
    → slice_index_or (successors_of g s.place) k b ≡ b → b < length g → IsFollowed g order next s.place b

-- `IsEdgeTo g a next` holds if an edge of the graph `g` leads from `a` to the node in `next`, or `next` is `None`.
abbrev pub IsEdgeTo : Graph → ℕ → Option ℕ → Type 0
IsEdgeTo g a None = ⊤
IsEdgeTo g a (Some b) = Contains (successors_of g a) b

-- `IsPath g order next path` holds if `path` is a path of the graph `g` on which `AreFollowed` holds for each step. An
-- edge leads from the node of each step to that of the step after it, and from the last to the node in `next`, if there
-- is one.
abbrev pub IsPath : Graph → List ℕ → Option ℕ → List Step → Type 0
IsPath g order next [] = ⊤
IsPath g order next (s ∷ path) =
    AreFollowed g order next s × IsEdgeTo g s.place next × IsPath g order (Some s.place) path

-- `IsWalk g path seen order` holds if `path` is a path of the graph `g` (`IsPath`), `ComeAfterSuccessors` holds of
-- `order`, and `seen` has an entry for each node of `g`. Each node that is marked in `seen` occurs exactly once, on
-- `path` or in `order`, and no other node occurs.
pub record IsWalk (g : Graph) (path : List Step) (seen : List Bool) (order : List ℕ) : Type 0 where
  pub len : length seen ≡ length g
  pub counts : (a : ℕ) → times a order + times_on a path ≡ one_if_seen seen a
  pub chain : IsPath g order None path
  pub behind : ComeAfterSuccessors g [] order

-- `KeepsSeen old new` holds if each node that is marked in `old` is marked in `new`.
abbrev pub KeepsSeen : List Bool → List Bool → Type 0
KeepsSeen old new = (a : ℕ) → one_if_seen old a ≡ 1 → one_if_seen new a ≡ 1

-- ---- remaining effort

-- `unseen_effort g seen` is the number of nodes of the graph `g` whose entry in `seen` is `false`, plus the number of
-- their edges.
abbrev pub unseen_effort : Graph → List Bool → ℕ
unseen_effort [] ss = 0
unseen_effort (v ∷ vs) [] = 0
unseen_effort (v ∷ vs) (s ∷ ss) = (if s then 0 else suc (length v)) + unseen_effort vs ss

-- `path_effort g path` is the number of steps of `path`, plus the number of their edges in the graph `g` that were not
-- followed.
abbrev pub path_effort : Graph → List Step → ℕ
path_effort g [] = 0
path_effort g (s ∷ path) = suc (length (successors_of g s.place) - s.followed) + path_effort g path

-- `effort g path seen` is the sum of `path_effort g path` and `unseen_effort g seen`: the measure of the search, which
-- decreases with each turn.
abbrev pub effort : Graph → List Step → List Bool → ℕ
effort g path seen = path_effort g path + unseen_effort g seen

-- `WalksOn g path path' seen seen' order order'` describes one turn of the search in the graph `g`, from the lists
-- `path`, `seen` and `order` to the primed ones. It holds if the turn preserves the invariant `IsWalk`, the marks of
-- nodes and the length of `seen`, and, if `seen` has an entry for each node, decreases the measure.
pub record WalksOn (g : Graph) (path path' : List Step) (seen seen' : List Bool) (order order' : List ℕ)
    : Type 0 where
  pub walks : IsWalk g path seen order → IsWalk g path' seen' order'
  pub keeps : KeepsSeen seen seen'
  pub less : length seen ≡ length g → effort g path' seen' < effort g path seen
  pub len : length seen' ≡ length seen
