-- Defines graphs of numbers, and the invariants of a search for their cyclic numbers, which reach themselves. The
-- search follows a path of groups; the numbers of each group reach one another.
use Rattle.std.specs.Prelude.{◌≡◌, ℕ, ◌+◌, ◌-◌, ◌*◌, ◌^◌, ◌<◌, ◌≤◌, Bool, false, List, [], ◌∷◌, ◌++◌, length}
use Rattle.std.specs.Prelude.{Contains, IsTrue, ◌⊎◌, ◌↔◌, slice_index_or, Vec}
use Prim.Native.Nat.{zero, suc}
use Rattle.std.specs.declared.alloc.Global.{Global}
use Rattle.ancestor_search.specs.declared.walk.Bound.{Bound}

-- `Edges` is the type of graphs of numbers: each maps a number to those to which its edges lead. In each definition `e`
-- is the graph, and `place` lists the marks of its numbers (`mark_of`).
abbrev pub Edges : Type 0
Edges = ℕ → List ℕ

-- `edges_of vs` is the graph that the lists `vs` represent; a number past their end has no edges.
abbrev pub edges_of : List (Vec ℕ Global) → Edges
edges_of [] x = []
edges_of (v ∷ vs) zero = v.items
edges_of (v ∷ vs) (suc x) = edges_of vs x

-- `Way e b cs a` holds if a path of one or more edges leads from `b` to `a`, through the numbers `cs`.
abbrev pub Way : Edges → ℕ → List ℕ → ℕ → Type 0
Way e b [] a = Contains (e b) a
Way e b (c ∷ cs) a = Contains (e b) c × Way e c cs a

-- `LeadsTo e a b` holds if a path of one or more edges leads from `b` to `a`.
abbrev pub LeadsTo : Edges → ℕ → ℕ → Type 0
LeadsTo e a b = (through : List ℕ) × Way e b through a

-- `MarksCycles e found` holds if `found` marks exactly the cyclic numbers of the graph `e`.
abbrev pub MarksCycles : Edges → List Bool → Type 0
MarksCycles e found = (x : ℕ) → IsTrue (slice_index_or found x false) ↔ LeadsTo e x x

-- `done_mark`, the greatest number of 64 bits, is the mark of a number whose search is done. Numbers past the end of
-- the list of marks have it too.
abbrev pub done_mark : ℕ
done_mark = 18446744073709551615

-- `mark_of place x` is the mark of the number `x` in the list `place`: 0 if `x` was not seen, its index among the
-- members of the groups, counted from 1, or `done_mark`.
abbrev pub mark_of : List ℕ → ℕ → ℕ
mark_of place x = slice_index_or place x done_mark

-- `IsDone place x` holds if `x` is done, or past the end of `place`.
abbrev pub IsDone : List ℕ → ℕ → Type 0
IsDone place x = mark_of place x ≡ done_mark

-- A `Group` has its members, and the ends of the members' edges that were not yet visited.
pub record Group : Type 0 where
  pub members : List ℕ
  pub pending : List ℕ

-- `members_of gs` and `pending_of gs` concatenate the lists of the groups `gs` of a path, from the first group to the
-- last; `gs` has the last group first.
abbrev pub members_of : List Group → List ℕ
members_of [] = []
members_of (g ∷ gs) = members_of gs ++ g.members

abbrev pub pending_of : List Group → List ℕ
pending_of [] = []
pending_of (g ∷ gs) = pending_of gs ++ g.pending

-- `bound_at members pending` is the bound of a group that begins after the members `members` and the edges `pending`:
-- the lengths of both lists.
abbrev pub bound_at : List ℕ → List ℕ → Bound
bound_at members pending = record { members = length members; pending = length pending }

-- `bound_after gs` is the bound of a group that begins after the groups `gs`.
abbrev pub bound_after : List Group → Bound
bound_after gs = bound_at (members_of gs) (pending_of gs)

-- `bounds_of gs` are the bounds at which the groups `gs` begin, with the bound of the last group last.
abbrev pub bounds_of : List Group → List Bound
bounds_of [] = []
bounds_of (g ∷ gs) = bounds_of gs ++ bound_after gs ∷ []

-- `IsMember gs x` holds if `x` is a member of one of the groups `gs`.
abbrev pub IsMember : List Group → ℕ → Type 0
IsMember [] x = ⊥
IsMember (g ∷ gs) x = Contains g.members x ⊎ IsMember gs x

-- `IsGroup e Beyond g before` holds if `g` may be a group of the path, after the groups `before`. Each edge of a member
-- of `g` leads to a number in `Beyond` (the done numbers and the members of later groups), leads to `g`, or is pending.
-- Each pending edge is an edge of a member. The members reach one another, the groups `before` reach them, and no
-- member is in `Beyond`.
pub record IsGroup (e : Edges) (Beyond : ℕ → Type 0) (g : Group) (before : List Group) : Type 0 where
  pub settled : (x y : ℕ) → Contains g.members x → Contains (e x) y →
      (Beyond y ⊎ Contains g.members y) ⊎ Contains g.pending y
  pub edges : (y : ℕ) → Contains g.pending y → (x : ℕ) × Contains g.members x × Contains (e x) y
  pub joined : (x y : ℕ) → Contains g.members x → Contains g.members y → (x ≡ y) ⊎ LeadsTo e y x
  pub leads : (x y : ℕ) → IsMember before x → Contains g.members y → LeadsTo e y x
  pub apart : (x : ℕ) → Contains g.members x → Beyond x → ⊥

-- `IsPath e Beyond gs` holds if each of `gs`, the last group first, is such a group (`IsGroup`) after the groups before
-- it. The numbers beyond a group are those in `Beyond` and the members of later groups.
abbrev pub IsPath : Edges → (ℕ → Type 0) → List Group → Type 0
IsPath e Beyond [] = Unit {0}
IsPath e Beyond (g ∷ gs) = IsGroup e Beyond g gs × IsPath e (λ x. Beyond x ⊎ Contains g.members x) gs

-- `IsAccounted place members x` holds if `x` is done, or not seen and not among `members`, or marked with its index
-- among `members`, counted from 1.
abbrev pub IsAccounted : List ℕ → List ℕ → ℕ → Type 0
IsAccounted place members x =
    IsDone place x
    ⊎ (((mark_of place x ≡ 0) × (Contains members x → ⊥))
    ⊎ ((k : ℕ) × (mark_of place x ≡ k + 1) × (k < length members) × (slice_index_or members k x ≡ x)))

-- `IsFinished e place found` holds if the edges of done numbers lead to done numbers only, numbers past the end of
-- `found` have no edges, and `found` marks exactly the done numbers that are cyclic.
pub record IsFinished (e : Edges) (place : List ℕ) (found : List Bool) : Type 0 where
  pub closed : (x y : ℕ) → IsDone place x → Contains (e x) y → IsDone place y
  pub empty : (x : ℕ) → length found ≤ x → e x ≡ []
  pub right : (x : ℕ) → IsTrue (slice_index_or found x false) ↔ (IsDone place x × LeadsTo e x x)

-- `IsWalk e place found members path` holds if the marks `place`, the cyclic numbers `found` and the list `members` are
-- those of a search of the graph `e` along the groups `path`.
pub record IsWalk (e : Edges) (place : List ℕ) (found : List Bool) (members : List ℕ) (path : List Group) : Type 0 where
  pub groups : IsPath e (IsDone place) path
  pub stands : (x : ℕ) → IsAccounted place members x
  pub same : members ≡ members_of path
  pub finished : IsFinished e place found

-- `with_edge g y` is the group `g` with one more edge, to `y`, to be visited.
abbrev pub with_edge : Group → ℕ → Group
with_edge g y = record { members = g.members; pending = g.pending ++ y ∷ [] }

-- `one_unseen m` is 1 if the mark `m` is that of a number not seen, else 0; `unseen ms` counts such marks in `ms`.
abbrev pub one_unseen : ℕ → ℕ
one_unseen zero = 1
one_unseen (suc m) = 0

abbrev pub unseen : List ℕ → ℕ
unseen [] = 0
unseen (m ∷ ms) = one_unseen m + unseen ms

-- `effort place pending bounds` is the measure of the search with the marks `place`, the edges `pending` and the bounds
-- `bounds`: it decreases at each step. A number that is seen for the first time adds its edges and one group, together
-- fewer than 2^65 items.
abbrev pub effort : List ℕ → List ℕ → List Bound → ℕ
effort place pending bounds = unseen place * 2 ^ 65 + length pending + length bounds

-- `IsWalking e place found members pending bounds` holds if these lists are those of a search of the graph `e` along
-- some path of groups (`IsWalk`).
abbrev pub IsWalking : Edges → List ℕ → List Bool → List ℕ → List ℕ → List Bound → Type 0
IsWalking e place found members pending bounds =
    (path : List Group) × (bounds ≡ bounds_of path) × (pending ≡ pending_of path) × IsWalk e place found members path

-- `HasRemovedEdge e place y members pending bounds last` holds if the lists are those of a path of groups, except for
-- two removed items: `last`, the bound of the last group, was removed from `bounds`, and an edge of that group to `y`
-- from `pending`. The edge is to be visited next.
abbrev pub HasRemovedEdge : Edges → List ℕ → ℕ → List ℕ → List ℕ → List Bound → Bound → Type 0
HasRemovedEdge e place y members pending bounds last =
    (g : Group) × (gs : List Group) × (bounds ≡ bounds_of gs) × (last ≡ bound_after gs)
    × (members ≡ members_of (g ∷ gs)) × (pending ≡ pending_of (g ∷ gs)) × IsPath e (IsDone place) (with_edge g y ∷ gs)

-- `IsWalkingWithRemovedEdge e place found members pending bounds last y` holds if the lists are those of a search
-- along such a path (`HasRemovedEdge`), whose next edge leads to `y`.
pub record IsWalkingWithRemovedEdge (e : Edges) (place : List ℕ) (found : List Bool) (members pending : List ℕ)
    (bounds : List Bound) (last : Bound) (y : ℕ) : Type 0 where
  pub held : HasRemovedEdge e place y members pending bounds last
  pub stands : (x : ℕ) → IsAccounted place members x
  pub finished : IsFinished e place found

-- `JoinsDownTo at bounds last bounds' last'` holds if the invariant `HasRemovedEdge` is preserved when `bounds'` and
-- `last'` replace `bounds` and `last`, where the edge to be visited leads to the member at index `at`, counted from 1.
-- For example, `bounds'` and `last'` are those of the path with its last groups merged, down to that member's group.
abbrev pub JoinsDownTo : ℕ → List Bound → Bound → List Bound → Bound → Type 0
JoinsDownTo at bounds last bounds' last' =
    (e : Edges) (place : List ℕ) (y : ℕ) (members pending : List ℕ) →
    at ≤ length members → slice_index_or members (at - 1) y ≡ y →
    HasRemovedEdge e place y members pending bounds last → HasRemovedEdge e place y members pending bounds' last'

-- `IsSeen place x` holds if the number `x` was seen.
abbrev pub IsSeen : List ℕ → ℕ → Type 0
IsSeen place x = mark_of place x ≡ 0 → ⊥

-- `KeepsSeen place place'` holds if each number that was seen in `place` is seen in `place'`.
abbrev pub KeepsSeen : List ℕ → List ℕ → Type 0
KeepsSeen place place' = (x : ℕ) → IsSeen place x → IsSeen place' x

-- `HasOpen ys place` holds if one of the numbers `ys` is not done.
abbrev pub HasOpen : List ℕ → List ℕ → Type 0
HasOpen ys place = (y : ℕ) × Contains ys y × (IsDone place y → ⊥)

-- `FindsOpen e place members found found'` holds if `found'` has the length of `found`, and marks exactly the numbers
-- that `found` marks, and each of `members` below this length from which an edge leads to a number that is not done.
pub record FindsOpen (e : Edges) (place members : List ℕ) (found found' : List Bool) : Type 0 where
  pub len : length found' ≡ length found
  pub same : (x : ℕ) → IsTrue (slice_index_or found' x false)
      ↔ (IsTrue (slice_index_or found x false) ⊎ ((x < length found) × Contains members x × HasOpen (e x) place))

-- `Ends members place place'` holds if `place'` is `place` with each of `members` marked as done.
pub record Ends (members place place' : List ℕ) : Type 0 where
  pub each : (x : ℕ) →
      (Contains members x × IsDone place' x) ⊎ ((Contains members x → ⊥) × (mark_of place' x ≡ mark_of place x))
  pub fewer : unseen place' ≤ unseen place
