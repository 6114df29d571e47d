-- Defines joins: the least upper bound of two values.
-- Source: order theory's join (least upper bound), as in "Conflict-free Replicated Data Types" (Shapiro, Preguiça,
-- Baquero, Zawirski 2011), state-based objects.
use Rattle.std.specs.Prelude.{Bool, true, false, Option, Some, None}

-- `IsLeastAbove Below a b j` holds if `j` is the least upper bound of `a` and `b`; `Below x y` holds if `x` is at most
-- `y`.
pub record IsLeastAbove {V : Type 0} (Below : V → V → Type 0) (a b j : V) : Type 0 where
  pub above_left : Below a j
  pub above_right : Below b j
  pub least : (c : V) → Below a c → Below b c → Below j c

-- `Alike Below a b` holds if each of `a` and `b` is at most the other, by the order `Below`.
abbrev pub Alike : {V : Type 0} → (V → V → Type 0) → V → V → Type 0
Alike Below a b = Below a b × Below b a

-- `IsJoin Below join` holds if `Below` is a preorder and `join` gives least upper bounds, and `join` is associative,
-- commutative and idempotent up to `Alike`.
pub record IsJoin {V : Type 0} (Below : V → V → Type 0) (join : V → V → V) : Type 0 where
  pub reflexive : (a : V) → Below a a
  pub transitive : (a b c : V) → Below a b → Below b c → Below a c
  pub above_left : (a b : V) → Below a (join a b)
  pub above_right : (a b : V) → Below b (join a b)
  pub least : (a b c : V) → Below a c → Below b c → Below (join a b) c
  pub associative : (a b c : V) → Alike Below (join (join a b) c) (join a (join b c))
  pub commutative : (a b : V) → Alike Below (join a b) (join b a)
  pub idempotent : (a : V) → Alike Below (join a a) a

-- `join_from_least`: if `Below` is a preorder and `join` gives least upper bounds, `IsJoin Below join` holds, since its
-- three other laws follow.
pub join_from_least : {V : Type 0} (Below : V → V → Type 0) (join : V → V → V)
    → ((a : V) → Below a a) → ((a b c : V) → Below a b → Below b c → Below a c)
    → ((a b : V) → Below a (join a b)) → ((a b : V) → Below b (join a b))
    → ((a b c : V) → Below a c → Below b c → Below (join a b) c)
    → IsJoin Below join
join_from_least Below join r t l m u = record {
  reflexive = r;
  transitive = t;
  above_left = l;
  above_right = m;
  least = u;
  associative = λ a b c. (
    u (join a b) c (join a (join b c))
        (u a b (join a (join b c)) (l a (join b c)) (t b (join b c) (join a (join b c)) (l b c) (m a (join b c))))
        (t c (join b c) (join a (join b c)) (m b c) (m a (join b c))),
    u a (join b c) (join (join a b) c)
        (t a (join a b) (join (join a b) c) (l a b) (l (join a b) c))
        (u b c (join (join a b) c) (t b (join a b) (join (join a b) c) (m a b) (l (join a b) c)) (m (join a b) c)),
  );
  commutative = λ a b. (u a b (join b a) (m b a) (l b a), u b a (join a b) (m a b) (l a b));
  idempotent = λ a. (u a a a (r a) (r a), l a a);
}

-- `option_below below a b` tests whether `a` is at most `b` in the order `below`, where `None` is the least value.
abbrev pub option_below : {V : Type 0} → (V → V → Bool) → Option V → Option V → Bool
option_below below None b = true
option_below below (Some a) None = false
option_below below (Some a) (Some b) = below a b

-- `option_joined join a b` is the join of the values in `a` and `b` by `join`; if `a` or `b` is `None`, it is the other
-- one.
abbrev pub option_joined : {V : Type 0} → (V → V → V) → Option V → Option V → Option V
option_joined join None b = b
option_joined join (Some a) None = Some a
option_joined join (Some a) (Some b) = Some (join a b)
