-- One level more of a search from the end.
use Rattle.std.proofs.Common.{◌≡◌, ℕ, zero, suc, ◌+◌, ◌≤◌, Bool, false, true, List, [], ◌∷◌, length, refl, ap, sym, subst, inl, inr, ◌∙◌, arith, Option, Some, None, IsSome, is_some, cond, ◌<◌}
use Rattle.std.specs.Prelude.{Contains, ◌⊎◌, ◌↔◌, IsTrue}
use Rattle.std.specs.Ordering.{is_eq}
use Rattle.std.specs.Cmp.{tied_itself}
use Rattle.std.proofs.lemmas.Bool.{cases_lt}
use Rattle.values.specs.Names.{uid_cmp, uid_cmp-IsTotalOrder}
use Rattle.values.specs.declared.entity_uid.EntityUid.{EntityUid}
use Rattle.ancestor_search.specs.Hierarchy.{Parents, Path, IsAncestor}
use Rattle.ancestor_search.specs.inner.Backwards.{AreDistances, AreKnownUpTo, ReachesBack, AreChildren, Reaches, is_one_of, is_child_of}
use Rattle.ancestor_search.specs.Deciding.{Contains-there, Contains-cases, Contains-none}
use Rattle.ancestor_search.specs.Deciding.{same_uid, same_self, any_at, any_from}
use Rattle.ancestor_search.specs.Decided.{is_same}
use Rattle.std.specs.Option.{option_or}

abbrev pub LeadsNear : List EntityUid → EntityUid → (EntityUid → Option ℕ) → Type 0
LeadsNear ps end dist = (y : EntityUid) × Contains ps y × ((y ≡ end) ⊎ IsSome (dist y))

-- x is not known, and has a parent that is the end or known
abbrev pub IsNext : Parents → EntityUid → (EntityUid → Option ℕ) → EntityUid → Type 0
IsNext parents end dist x = (dist x ≡ None) × LeadsNear (parents x) end dist

pub record AddsLevel (next : List EntityUid) (far : ℕ) (dist dist' : EntityUid → Option ℕ) : Type 0 where
  pub new : (x : EntityUid) → Contains next x → dist' x ≡ Some far
  pub old : (x : EntityUid) → (Contains next x → ⊥) → dist' x ≡ dist x

-- where the test says that nothing is there
pub none_from_test : {X : Type 0} (o : Option X) → is_some o ≡ false → o ≡ None
none_from_test None e = refl
none_from_test (Some x) e = cc e

-- what a search has found when it has gone k levels
pub record Reaching (p : Parents) (end : EntityUid) (dist : EntityUid → Option ℕ) (k : ℕ) : Type 0 where
  pub known : AreDistances p end dist
  pub all : AreKnownUpTo p end dist k
  pub within : (x : EntityUid) (d : ℕ) → dist x ≡ Some d → d ≤ k

-- the last level of these: those k edges from the end, or the end itself
pub record IsLevel (end : EntityUid) (dist : EntityUid → Option ℕ) (k : ℕ) (level : List EntityUid) : Type 0 where
  pub inside : (y : EntityUid) → Contains level y → (y ≡ end) ⊎ IsSome (dist y)
  pub begun : (y : EntityUid) → y ≡ end → Contains level y ⊎ (0 < k)
  pub front : (y : EntityUid) → dist y ≡ Some k → Contains level y

pub IsLevel-begin : (end : EntityUid) (dist : EntityUid → Option ℕ) → ((x : EntityUid) → dist x ≡ None) → IsLevel end dist 0 (end ∷ [])
IsLevel-begin end dist none = record {
  inside = λ y h. elim (Contains-cases end [] y h) [ inl same ↦ inl (sym same) | inr t ↦ Contains-none y t ];
  begun = λ y same. inl (0, omega arith, sym same);
  front = λ y e. let f = none y in cc (e, f);
}

pub Reaching-begin : (p : Parents) (end : EntityUid) (dist : EntityUid → Option ℕ) → ((x : EntityUid) → dist x ≡ None) → Reaching p end dist 0
Reaching-begin p end dist none = record {
  known = record { sound = λ x d e. absurd (no x d e); least = λ x d e ds path. absurd (no x d e) };
  all = λ x ds path le. absurd (omega arith);
  within = λ x d e. absurd (no x d e);
}
  where
    no : (x : EntityUid) (d : ℕ) → dist x ≡ Some d → ⊥
    no x d e = let f = none x in cc (e, f)

differ : (y x : EntityUid) → y ≡ x → is_eq (uid_cmp y x) ≡ false → ⊥
differ y x same f = let h : is_eq (uid_cmp y x) ≡ true = ap (λ z. is_eq (uid_cmp z x)) same ∙ ap is_eq (tied_itself uid_cmp-IsTotalOrder x) in cc (f, h)

pub among : (xs : List EntityUid) (x : EntityUid) → Contains xs x ⊎ (Contains xs x → ⊥)
among [] x = inr (λ h. Contains-none x h)
among (y ∷ ys) x = at (among ys x) (is_eq (uid_cmp y x)) refl
  where
    at : Contains ys x ⊎ (Contains ys x → ⊥) → (b : Bool) → is_eq (uid_cmp y x) ≡ b → Contains (y ∷ ys) x ⊎ (Contains (y ∷ ys) x → ⊥)
    at rest true e = inl (0, omega arith, same_uid y x e)
    at (inl t) false e = inl (Contains-there y ys x t)
    at (inr no_more) false e = inr (λ h. elim (Contains-cases y ys x h) [ inl same ↦ differ y x same e | inr t ↦ no_more t ])

known_or_not : (o : Option ℕ) → ((d : ℕ) × (o ≡ Some d)) ⊎ (o ≡ None)
known_or_not None = inr refl
known_or_not (Some d) = inl (d, refl)

some_not_none : (o : Option ℕ) {G : Type 0} → IsSome o → o ≡ None → G
some_not_none None s e = cc s
some_not_none (Some d) s e = cc e

module _ (p : Parents) (end : EntityUid) (dist : EntityUid → Option ℕ) where
  -- where there is no next level, all that have a path to the end are known
  closed : ((x : EntityUid) → IsNext p end dist x → ⊥) → (x : EntityUid) (ds : List EntityUid) → Path p x ds end → IsSome (dist x)
  closed none x [] h = elim (known_or_not (dist x)) [ inl k ↦ rw k.1 refl | inr e ↦ absurd (none x (e, (end, h, inl refl))) ]
  closed none x (c ∷ cs) h = let there = closed none c cs h.1 in elim (known_or_not (dist x)) [ inl k ↦ rw k.1 refl | inr e ↦ absurd (none x (e, (c, h.0, inr there))) ]

  pub not_on_cycle : (next : List EntityUid) → ((x : EntityUid) → Contains next x ↔ IsNext p end dist x) → next ≡ [] → dist end ≡ None → IsAncestor p end end → ⊥
  not_on_cycle next is empty e above =
      let there = closed (λ x h. Contains-none x (subst (λ xs. Contains xs x) empty ((is x).1 h))) end above.0 above.1 in
      some_not_none (dist end) there e

  module _ (k : ℕ) (r : Reaching p end dist k) (next : List EntityUid) (is : (x : EntityUid) → Contains next x ↔ IsNext p end dist x) where
    -- an entity of the next level is k + 1 edges from the end
    level : (x : EntityUid) → Contains next x → (cs : List EntityUid) × Path p x cs end × (length cs + 1 ≡ k + 1)
    level x h =
        let (none, (y, there, near)) = (is x).0 h in
        elim near [
          | inl same ↦
              let one : Contains (p x) end = subst (λ z. Contains (p x) z) same there in
              ([], one, at_first none one k refl)
          | inr some ↦ by_known none y there some
        ]
      where
        at_first : dist x ≡ None → Contains (p x) end → (j : ℕ) → j ≡ k → length {A = EntityUid} [] + 1 ≡ k + 1
        at_first none one zero e = omega arith
        at_first none one (suc j) e = some_not_none (dist x) (r.all x [] one (omega arith)) none

        exact : dist x ≡ None → (y : EntityUid) (cs : List EntityUid) → Contains (p x) y → Path p y cs end → length cs + 1 ≤ k → length (y ∷ cs) + 1 ≡ k + 1
        exact none y cs there path le = elim (cases_lt (length cs + 1) k) [
          | inl below ↦ some_not_none (dist x) (r.all x (y ∷ cs) (there, path) (omega arith)) none
          | inr above ↦ omega arith
        ]

        by_known : dist x ≡ None → (y : EntityUid) → Contains (p x) y → IsSome (dist y) → (cs : List EntityUid) × Path p x cs end × (length cs + 1 ≡ k + 1)
        by_known none y there some = elim (known_or_not (dist y)) [
          | inl f ↦
              let (cs, path, long) = r.known.sound y f.0 f.1 in
              let no_more = r.within y f.0 f.1 in
              (y ∷ cs, (there, path), exact none y cs there path (omega arith))
          | inr e ↦ some_not_none (dist y) some e
        ]

    pub Reaching-step : (dist' : EntityUid → Option ℕ) → AddsLevel next (k + 1) dist dist' → Reaching p end dist' (k + 1)
    Reaching-step dist' a = record {
      known = record { sound = sound; least = least };
      all = all;
      within = within;
    }
      where
        sound : (x : EntityUid) (d : ℕ) → dist' x ≡ Some d → (cs : List EntityUid) × Path p x cs end × (length cs + 1 ≡ d)
        sound x d e = elim (among next x) [
          | inl t ↦ let (cs, path, long) = level x t in let same : Some d ≡ Some (k + 1) = sym e ∙ a.new x t in (cs, path, let eq : d ≡ k + 1 = cc same in omega arith)
          | inr not_there ↦ r.known.sound x d (sym (a.old x not_there) ∙ e)
        ]

        least : (x : EntityUid) (d : ℕ) → dist' x ≡ Some d → (ds : List EntityUid) → Path p x ds end → d ≤ length ds + 1
        least x d e ds path = elim (among next x) [
          | inl t ↦
              let same : Some d ≡ Some (k + 1) = sym e ∙ a.new x t in
              let eq : d ≡ k + 1 = cc same in
              elim (cases_lt (length ds) k) [
                | inl below ↦ some_not_none (dist x) (r.all x ds path (omega arith)) ((is x).0 t).0
                | inr above ↦ omega arith
              ]
          | inr not_there ↦ r.known.least x d (sym (a.old x not_there) ∙ e) ds path
        ]

        within : (x : EntityUid) (d : ℕ) → dist' x ≡ Some d → d ≤ k + 1
        within x d e = elim (among next x) [
          | inl t ↦ let same : Some d ≡ Some (k + 1) = sym e ∙ a.new x t in let eq : d ≡ k + 1 = cc same in omega arith
          | inr not_there ↦ let le = r.within x d (sym (a.old x not_there) ∙ e) in omega arith
        ]

        near : (x : EntityUid) (ds : List EntityUid) → Path p x ds end → length ds + 1 ≤ k + 1 → dist x ≡ None → IsNext p end dist x
        near x [] path le none = (none, (end, path, inl refl))
        near x (c ∷ cs) path le none = (none, (c, path.0, inr (r.all c cs path.1 (omega arith))))

        all : AreKnownUpTo p end dist' (k + 1)
        all x ds path le = elim (among next x) [
          | inl t ↦ rw (a.new x t) refl
          | inr not_there ↦ elim (known_or_not (dist x)) [
            | inl f ↦ rw (a.old x not_there, f.1) refl
            | inr none ↦ absurd (not_there ((is x).1 (near x ds path le none)))
          ]
        ]

  pub ReachesBack-end : (k : ℕ) → Reaching p end dist k → IsSome (dist end) → ReachesBack p end dist
  ReachesBack-end k r there = record { back = there; known = r.known; all = λ d e x ds path le. let top = r.within end d e in r.all x ds path (omega arith) }

pub first_of : (xs : List EntityUid) → (length xs ≡ 0 → ⊥) → (x : EntityUid) × (ys : List EntityUid) × (xs ≡ x ∷ ys) × Contains xs x
first_of [] h = absurd (h refl)
first_of (x ∷ ys) h = (x, ys, refl, (0, omega arith, refl))

-- one level more, by the children of the last
module _ (p : Parents) (end : EntityUid) (kids : EntityUid → List EntityUid) (are : AreChildren p kids) (dist dist' : EntityUid → Option ℕ) (k : ℕ)
    (r : Reaching p end dist k) (level next : List EntityUid) (l : IsLevel end dist k level) (n n' : ℕ)
    (s : Reaches (is_child_of kids level) (k + 1) dist dist' [] next n n') where
  pub next_is : (x : EntityUid) → Contains next x ↔ (dist' x ≡ Some (k + 1))
  next_is = s.front (λ x. (λ h. Contains-none x h, λ e. let le = r.within x (k + 1) e in absurd (omega (arith, le))))

  child_from : (x : EntityUid) → IsTrue (is_child_of kids level x) → LeadsNear (p x) end dist
  child_from x t =
      let (y, there, child) = any_at (λ y. is_one_of (kids y) x) level t in
      let (z, among_kids, same) = any_at (λ z. is_same z x) (kids y) child in
      (y, (are y x).0 (subst (λ w. Contains (kids y) w) (same_uid z x same) among_kids), l.inside y there)

  from_next : (x : EntityUid) → Contains next x → IsNext p end dist x
  from_next x h = at (dist x) refl (is_child_of kids level x) refl (sym (s.each x) ∙ (next_is x).0 h)
    where
      at : (o : Option ℕ) → dist x ≡ o → (b : Bool) → is_child_of kids level x ≡ b → option_or o (cond b (Some (k + 1)) None) ≡ Some (k + 1) → IsNext p end dist x
      at (Some d) e b f g = let le = r.within x d e in let eq : d ≡ k + 1 = cc g in absurd (omega (arith, le, eq))
      at None e true f g = (e, child_from x f)
      at None e false f g = cc g

  in_level : (x : EntityUid) → dist x ≡ None → (y : EntityUid) → Contains (p x) y → (y ≡ end) ⊎ IsSome (dist y) → Contains level y
  in_level x none y there (inl same) = elim (l.begun y same) [
    | inl t ↦ t
    | inr pos ↦ some_not_none (dist x) (r.all x [] (subst (λ z. Contains (p x) z) same there) (omega (arith, pos))) none
  ]
  in_level x none y there (inr some) = elim (known_or_not (dist y)) [
    | inl f ↦
        let (cs, path, long) = r.known.sound y f.0 f.1 in
        let le = r.within y f.0 f.1 in
        elim (cases_lt f.0 k) [
          | inl below ↦ some_not_none (dist x) (r.all x (y ∷ cs) (there, path) (omega (arith, below, long))) none
          | inr above ↦ let same : f.0 ≡ k = omega (arith, above, le) in l.front y (f.1 ∙ ap Some same)
        ]
    | inr e ↦ some_not_none (dist y) some e
  ]

  to_next : (x : EntityUid) → IsNext p end dist x → Contains next x
  to_next x (none, (y, there, near)) =
      let child = any_from (λ z. is_one_of (kids z) x) level y (in_level x none y there near)
      (any_from (λ z. is_same z x) (kids y) x ((are y x).1 there) (same_self x)) in
      (next_is x).1 (s.each x ∙ ap (λ o. option_or o (cond (is_child_of kids level x) (Some (k + 1)) None)) none ∙ ap (λ b. cond b (Some (k + 1)) None) child)

  pub level_is : (x : EntityUid) → Contains next x ↔ IsNext p end dist x
  level_is x = (from_next x, to_next x)

  pub adds_level : AddsLevel next (k + 1) dist dist'
  adds_level = record {
    new = λ x h. (next_is x).0 h;
    old = λ x not_there. at x not_there (dist x) (is_child_of kids level x) refl (s.each x);
  }
    where
      at : (x : EntityUid) → (Contains next x → ⊥) → (o : Option ℕ) (b : Bool) → is_child_of kids level x ≡ b → dist' x ≡ option_or o (cond b (Some (k + 1)) None) → dist' x ≡ o
      at x not_there (Some d) b f g = g
      at x not_there None true f g = absurd (not_there ((next_is x).1 g))
      at x not_there None false f g = g

  pub IsLevel-step : IsLevel end dist' (k + 1) next
  IsLevel-step = record {
    inside = λ y h. inr (rw ((next_is y).0 h) refl);
    begun = λ y same. inr (omega arith);
    front = λ y e. (next_is y).1 e;
  }
