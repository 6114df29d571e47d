-- A join of values makes a join of stores, seen as what they have at each key.
use Rattle.std.specs.Prelude.{◌≡◌, Bool, true, Option, Some, None, refl, List}
use Rattle.std.proofs.Common.{sym, subst}
use Rattle.std.specs.declared.cmp.Ordering.{Ordering}
use Rattle.stamped_store.specs.Joins.{IsJoin, IsLeastAbove, join_from_least, option_below, option_joined}
use Rattle.stamped_store.specs.JoinMaps.{IsBelowAt, joined_at, value_at, IsBelow, IsJoined}

module _ {V : Type 0} (below : V → V → Bool) (join : V → V → V) (l : IsJoin (λ a b. below a b ≡ true) join) where
  pub itself : (a : Option V) → option_below below a a ≡ true
  itself None = refl
  itself (Some a) = l.reflexive a

  pub chains : (a b c : Option V) → option_below below a b ≡ true → option_below below b c ≡ true → option_below below a c ≡ true
  chains None b c h k = refl
  chains (Some a) None c h k = absurd (cc)
  chains (Some a) (Some b) None h k = absurd (cc)
  chains (Some a) (Some b) (Some c) h k = l.transitive a b c h k

  pub above_first : (a b : Option V) → option_below below a (option_joined join a b) ≡ true
  above_first None b = refl
  above_first (Some a) None = l.reflexive a
  above_first (Some a) (Some b) = l.above_left a b

  pub above_second : (a b : Option V) → option_below below b (option_joined join a b) ≡ true
  above_second None b = itself b
  above_second (Some a) None = refl
  above_second (Some a) (Some b) = l.above_right a b

  pub least_above : (a b c : Option V) → option_below below a c ≡ true → option_below below b c ≡ true → option_below below (option_joined join a b) c ≡ true
  least_above None b c h k = k
  least_above (Some a) None c h k = h
  least_above (Some a) (Some b) None h k = h
  least_above (Some a) (Some b) (Some c) h k = l.least a b c h k

  pub lifted : {K : Type 0} → IsJoin (IsBelowAt {K = K} below) (joined_at join)
  lifted = join_from_least (IsBelowAt below) (joined_at join)
      (λ f q. itself (f q))
      (λ f g h u v q. chains (f q) (g q) (h q) (u q) (v q))
      (λ f g q. above_first (f q) (g q))
      (λ f g q. above_second (f q) (g q))
      (λ f g h u v q. least_above (f q) (g q) (h q) (u q) (v q))

  -- a store that has the join at each key is the least above both
  pub is_least-joined : {K : Type 0} (R : K → K → Ordering) (s t n : List (K × V)) → IsJoined R join s t n → IsLeastAbove (IsBelow R below) s t n
  is_least-joined R s t n e = record {
    above_left = λ q. subst (λ a. option_below below (value_at R s q) a ≡ true) (sym (e q)) (above_first (value_at R s q) (value_at R t q));
    above_right = λ q. subst (λ a. option_below below (value_at R t q) a ≡ true) (sym (e q)) (above_second (value_at R s q) (value_at R t q));
    least = λ u h k q. subst (λ a. option_below below a (value_at R u q) ≡ true) (sym (e q)) (least_above (value_at R s q) (value_at R t q) (value_at R u q) (h q) (k q));
  }
