-- A shortest path, taken step by step.
use Rattle.std.proofs.Common.{◌≡◌, ℕ, ◌+◌, ◌≤◌, ◌<◌, false, List, [], ◌∷◌, ◌++◌, length, refl, ap, sym, subst, ◌∙◌, arith, Option, Some, None, IsSome, append_assoc}
use Rattle.std.proofs.lemmas.List.{append-nil}
use Rattle.std.specs.Prelude.{Contains}
use Rattle.std.specs.Ordering.{is_gt, ordering_then}
use Rattle.std.specs.Cmp.Lexicographic.{slice_cmp}
use Rattle.std.specs.declared.cmp.Ordering.{Ordering}
use Rattle.std.specs.declared.cmp.Ordering.TheVariants.{Less, Equal, Greater}
use Rattle.values.specs.Names.{uid_cmp, uid_cmp-IsAntisymmetric}
use Rattle.values.specs.declared.entity_uid.EntityUid.{EntityUid}
use Rattle.ancestor_search.specs.Hierarchy.{Parents, Path}
use Rattle.ancestor_search.specs.inner.Backwards.{IsLeastFrom, AreDistances, AreKnownUpTo, IsLeastAt, IsWalkBack}

some_is : (o : Option ℕ) → IsSome o → (d : ℕ) × (o ≡ Some d)
some_is None h = cc h
some_is (Some d) h = (d, refl)

-- lists are compared by their first entities, and then by the others
pub then_least : (y e : EntityUid) (ws es : List EntityUid) (o : Ordering) → uid_cmp y e ≡ o → is_gt o ≡ false → (y ≡ e → is_gt (slice_cmp uid_cmp ws es) ≡ false) → is_gt (ordering_then o (slice_cmp uid_cmp ws es)) ≡ false
then_least y e ws es Less is ok rest = refl
then_least y e ws es Equal is ok rest = rest (uid_cmp-IsAntisymmetric y e is)
then_least y e ws es Greater is ok rest = ok

module _ (p : Parents) (end : EntityUid) (dist : EntityUid → Option ℕ) (known : AreDistances p end dist) (k : ℕ) (all : AreKnownUpTo p end dist k) where
  -- a path that no other is shorter than has the known number of edges
  as_long : (y : EntityUid) (d : ℕ) → dist y ≡ Some d → (ws : List EntityUid) → Path p y ws end → ((ds : List EntityUid) → Path p y ds end → length ws ≤ length ds) → length ws + 1 ≡ d
  as_long y d e ws path shortest =
      let (cs, there, long) = known.sound y d e in
      omega (arith, known.least y d e ws path, shortest cs there, long)

  -- on a shortest path from x the next entity is one edge nearer to the end
  nearer : (x : EntityUid) (d : ℕ) → dist x ≡ Some (d + 1) → d ≤ k → (e : EntityUid) (es : List EntityUid) → Contains (p x) e → Path p e es end → length es + 1 ≡ d → dist e ≡ Some d
  nearer x d at_x le e es h path long =
      let (f, is) = some_is (dist e) (all e es path (omega arith)) in
      let (cs, there, long2) = known.sound e f is in
      let no_more : f ≤ length es + 1 = known.least e f is es path in
      let no_less : d + 1 ≤ length (e ∷ cs) + 1 = known.least x (d + 1) at_x (e ∷ cs) (h, there) in
      let same : f ≡ d = omega arith in
      is ∙ ap Some same

  -- the least parent that is nearer begins the least path
  pub IsLeastFrom-step : (x : EntityUid) (d : ℕ) → dist x ≡ Some (d + 1) → d ≤ k → (y : EntityUid) → IsLeastAt (p x) dist d y → (ws : List EntityUid) → IsLeastFrom p end y ws → IsLeastFrom p end x (y ∷ ws)
  IsLeastFrom-step x d at_x le y is ws s =
      let long : length ws + 1 ≡ d = as_long y d is.at ws s.path s.shortest in
      record {
        path = (is.among, s.path);
        shortest = λ ds path. omega (arith, known.least x (d + 1) at_x ds path, long);
        least = least long;
      }
    where
      least : length ws + 1 ≡ d → (ds : List EntityUid) → Path p x ds end → length ds ≡ length (y ∷ ws) → is_gt (slice_cmp uid_cmp (y ∷ ws) ds) ≡ false
      least long [] path same = absurd (omega arith)
      least long (e ∷ es) path same =
          let at_e = nearer x d at_x le e es path.0 path.1 (omega arith) in
          then_least y e ws es (uid_cmp y e) refl (is.least e path.0 at_e) (λ eq. s.least es (subst (λ z. Path p z es end) (sym eq) path.1) (omega arith))

  -- one edge from the end there is nothing between
  pub IsLeastFrom-last : (x : EntityUid) → dist x ≡ Some 1 → IsLeastFrom p end x []
  IsLeastFrom-last x e = record {
    path = let (cs, there, long) = known.sound x 1 e in last cs there long;
    shortest = λ ds path. omega arith;
    least = none;
  }
    where
      last : (cs : List EntityUid) → Path p x cs end → length cs + 1 ≡ 1 → Path p x [] end
      last [] there long = there
      last (c ∷ cs) there long = absurd (omega arith)

      none : (ds : List EntityUid) → Path p x ds end → length ds ≡ length {A = EntityUid} [] → is_gt (slice_cmp uid_cmp [] ds) ≡ false
      none [] path same = refl
      none (e ∷ es) path same = absurd (omega arith)

  -- and such a parent is there
  pub IsLeastAt-there : (x : EntityUid) (d : ℕ) → dist x ≡ Some (d + 1) → 0 < d → d ≤ k → (y : EntityUid) × Contains (p x) y × (dist y ≡ Some d)
  IsLeastAt-there x d at_x pos le = let (cs, there, long) = known.sound x (d + 1) at_x in go cs there long
    where
      go : (cs : List EntityUid) → Path p x cs end → length cs + 1 ≡ d + 1 → (y : EntityUid) × Contains (p x) y × (dist y ≡ Some d)
      go [] there long = absurd (omega arith)
      go (e ∷ es) there long = (e, there.0, nearer x d at_x le e es there.0 there.1 (omega arith))

-- found leads from the start to last, which is `far` edges from the start: the least way on from last completes the least cycle
pub record Walking (p : Parents) (start : EntityUid) (dist : EntityUid → Option ℕ) (far : ℕ) (found : List EntityUid) (last : EntityUid) : Type 0 where
  pub at : dist last ≡ Some far
  pub grows : (ws : List EntityUid) → IsLeastFrom p start last ws → IsWalkBack p start (found ++ ws)

module _ (p : Parents) (start : EntityUid) (dist : EntityUid → Option ℕ) where
  pub Walking-begin : (long : ℕ) → dist start ≡ Some long → Walking p start dist long (start ∷ []) start
  Walking-begin long e = record { at = e; grows = λ ws s. (refl, s) }

  pub Walking-step : (k : ℕ) → AreDistances p start dist → AreKnownUpTo p start dist k → (d : ℕ) (found : List EntityUid) (last next : EntityUid) → Walking p start dist (d + 1) found last → d ≤ k → IsLeastAt (p last) dist d next → Walking p start dist d (found ++ next ∷ []) next
  Walking-step k known all d found last next w le is = record {
    at = is.at;
    grows = λ ws s. rw append_assoc (w.grows (next ∷ ws) (IsLeastFrom-step p start dist known k all last d w.at le next is ws s));
  }

  pub Walking-end : AreDistances p start dist → (found : List EntityUid) (last : EntityUid) → Walking p start dist 1 found last → IsWalkBack p start found
  Walking-end known found last w = rw append-nil at (w.grows [] (last_step w.at))
    where
      last_step : dist last ≡ Some 1 → IsLeastFrom p start last []
      last_step e = IsLeastFrom-last p start dist known 0 (λ x ds path le. absurd (omega arith)) last e

  -- the number of edges is not 0
  pub dist_pos : AreDistances p start dist → (x : EntityUid) (d : ℕ) → dist x ≡ Some d → 0 < d
  dist_pos known x d e = omega (arith, (known.sound x d e).2)
