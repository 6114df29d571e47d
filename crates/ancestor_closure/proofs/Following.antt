-- What is kept is right after a change, and where a change was refused.
use Rattle.std.proofs.Common.{◌≡◌, ◌∙◌, Bool, true, false, List, [], refl, sym, subst, inl, inr, Result, Ok, Err, OnOk, OnErr}
use Rattle.std.specs.Prelude.{Contains, ◌⊎◌, ◌↔◌}
use Rattle.values.specs.declared.entity_uid.EntityUid.{EntityUid}
use Rattle.ancestor_search.specs.Hierarchy.{Parents, IsAncestor}
use Rattle.ancestor_search.specs.Decided.{is_same}
use Rattle.ancestor_search.specs.Deciding.{same_uid, Contains-none}
use Rattle.ancestor_search.proofs.Levels.{among}
use Rattle.ancestor_closure.specs.Lists.{IsListOf, IsCacheContent, AgreeBut, IsStaleContent, AddsChild}
use Rattle.ancestor_closure.specs.declared.changing.Change.{Change}
use Rattle.ancestor_closure.specs.inner.OneChange.{TakesChild, firsts, written, IsInOwn, Enters, Leaves, IsPlanned}
use Rattle.ancestor_closure.proofs.Paths.{IsListOf-kept, IsAncestor-turned, differ, same_above}
use Rattle.ancestor_closure.proofs.Written.{firsts-at, firsts-has, written-away, written-right}

pub ok_as : {T E : Type 0} {A B : Type 0} (r : Result T E) → (A → B) → OnOk r A → OnOk r B
ok_as (Ok x) f a = f a
ok_as (Err x) f a = tt

pub ok_always : {T E : Type 0} {A : Type 0} (r : Result T E) → A → OnOk r A
ok_always (Ok x) a = a
ok_always (Err x) a = tt

pub err_as : {T E : Type 0} {A B : Type 0} (r : Result T E) → (A → B) → OnErr r A → OnErr r B
err_as (Ok x) f a = tt
err_as (Err x) f a = f a

pub err_always : {T E : Type 0} {A : Type 0} (r : Result T E) → A → OnErr r A
err_always (Ok x) a = tt
err_always (Err x) a = a

-- the same lists and children
pub kept-same : (p : Parents) (anc anc' ch ch' : EntityUid → List EntityUid) (cyc : List EntityUid) → ((q : EntityUid) → anc' q ≡ anc q) → ((q : EntityUid) → ch' q ≡ ch q)
    → IsCacheContent p anc ch cyc → IsCacheContent p anc' ch' cyc
kept-same p anc anc' ch ch' cyc e f k = record {
  above = λ b. subst (λ l. IsListOf p b l) (sym (e b)) (k.above b);
  below = λ a b. subst (λ l. Contains l b ↔ Contains (p b) a) (sym (f a)) (k.below a b);
  on_cycles = k.on_cycles;
}

pub but-same : (uid : EntityUid) (p : Parents) (anc anc' ch ch' : EntityUid → List EntityUid) (cyc : List EntityUid) → ((q : EntityUid) → anc' q ≡ anc q) → ((q : EntityUid) → ch' q ≡ ch q)
    → IsStaleContent uid p anc ch cyc → IsStaleContent uid p anc' ch' cyc
but-same uid p anc anc' ch ch' cyc e f k = record { before = k.before; kept = kept-same k.before anc anc' ch ch' cyc e f k.kept; others = k.others }

-- with the same parents nothing changes
pub kept-with : (P Q : Parents) (anc ch : EntityUid → List EntityUid) (cyc : List EntityUid) → ((b a : EntityUid) → Contains (P b) a ↔ Contains (Q b) a)
    → IsCacheContent P anc ch cyc → IsCacheContent Q anc ch cyc
kept-with P Q anc ch cyc same k = record {
  above = λ b. ((λ a. (λ h. on a b (((k.above b).0 a).0 h), λ up. ((k.above b).0 a).1 (back a b up))), (k.above b).1);
  below = λ a b. (λ h. (same b a).0 ((k.below a b).0 h), λ h. (k.below a b).1 ((same b a).1 h));
  on_cycles = λ a. (λ h. on a a ((k.on_cycles a).0 h), λ up. (k.on_cycles a).1 (back a a up));
}
  where
    on : (a b : EntityUid) → IsAncestor P a b → IsAncestor Q a b
    on = same_above P Q (λ b a. (same b a).0)

    back : (a b : EntityUid) → IsAncestor Q a b → IsAncestor P a b
    back = same_above Q P (λ b a. (same b a).1)

-- where the entity had no parents and gets none
pub none_kept : (Q : Parents) (uid : EntityUid) (anc ch : EntityUid → List EntityUid) (cyc : List EntityUid) → IsStaleContent uid Q anc ch cyc → ((x : EntityUid) → Contains (Q uid) x → ⊥)
    → anc uid ≡ [] → IsCacheContent Q anc ch cyc
none_kept Q uid anc ch cyc but none alone = kept-with but.before Q anc ch cyc (λ b a. at b a (is_same uid b) refl) but.kept
  where
    had_none : (x : EntityUid) → Contains (but.before uid) x → ⊥
    had_none x h = Contains-none x (subst (λ l. Contains l x) alone (((but.kept.above uid).0 x).1 ([], h)))

    at : (b a : EntityUid) (t : Bool) → is_same uid b ≡ t → Contains (but.before b) a ↔ Contains (Q b) a
    at b a true same =
        let one = same_uid uid b same in (
          λ h. absurd (had_none a (subst (λ z. Contains (but.before z) a) (sym one) h)),
          λ h. absurd (none a (subst (λ z. Contains (Q z) a) (sym one) h)),
        )
    at b a false apart = let e = but.others b apart in (λ h. subst (λ l. Contains l a) e h, λ h. subst (λ l. Contains l a) (sym e) h)

-- where the entity has the parents already that it gets
pub already_kept : (Q : Parents) (uid : EntityUid) (anc ch : EntityUid → List EntityUid) (cyc : List EntityUid) → IsStaleContent uid Q anc ch cyc
    → ((x : EntityUid) → Contains (Q uid) x ↔ (Contains (anc uid) x × Contains (ch x) uid)) → IsCacheContent Q anc ch cyc
already_kept Q uid anc ch cyc but same = kept-with but.before Q anc ch cyc (λ b a. at b a (is_same uid b) refl) but.kept
  where
    own : (a : EntityUid) → Contains (but.before uid) a ↔ Contains (Q uid) a
    own a = (
      λ h. (same a).1 (((but.kept.above uid).0 a).1 ([], h), (but.kept.below a uid).1 h),
      λ h. (but.kept.below a uid).0 ((same a).0 h).1,
    )

    at : (b a : EntityUid) (t : Bool) → is_same uid b ≡ t → Contains (but.before b) a ↔ Contains (Q b) a
    at b a true one = subst (λ z. Contains (but.before z) a ↔ Contains (Q z) a) (same_uid uid b one) (own a)
    at b a false apart = let e = but.others b apart in (λ h. subst (λ l. Contains l a) e h, λ h. subst (λ l. Contains l a) (sym e) h)

module _ (uid : EntityUid) (P Q : Parents) (agree : AgreeBut uid P Q) (anc ch : EntityUid → List EntityUid) (cyc : List EntityUid)
    (kept : IsCacheContent P anc ch cyc) (change : Change) (plan : IsPlanned Q uid anc ch change) where
  -- a list that is not written is right as it stands
  others : (q : EntityUid) → Contains (firsts change.lists.items) q ⊎ IsListOf Q q (anc q)
  others q = at (is_same uid q) refl
    where
      planned : Contains change.entities.items q → Contains (firsts change.lists.items) q
      planned h = subst (λ l. Contains l q) (sym plan.lists_of) h

      at : (b : Bool) → is_same uid q ≡ b → Contains (firsts change.lists.items) q ⊎ IsListOf Q q (anc q)
      at true same = inl (planned ((plan.entities q).1 (inl (same_uid uid q same))))
      at false apart = elim (among (anc q) uid) [
        | inl t ↦ inl (planned ((plan.entities q).1 (inr (IsAncestor-turned P ch (λ x y. (kept.below x y).1) q uid (((kept.above q).0 uid).0 t)))))
        | inr none ↦ inr (IsListOf-kept P Q uid agree q (anc q) (differ uid q apart) (λ above. none (((kept.above q).0 uid).1 above)) (kept.above q))
      ]

  pub lists_right : (q : EntityUid) → IsListOf Q q (written change.lists.items q (anc q))
  lists_right q = written-right Q q (anc q) change.lists.items (plan.right q) (others q)

  -- whose lists are written
  pub whose : (q : EntityUid) → Contains (firsts change.lists.items) q → (uid ≡ q) ⊎ Contains (anc q) uid
  whose q h = elim ((plan.entities q).0 (subst (λ l. Contains l q) plan.lists_of h)) [
    | inl same ↦ inl same
    | inr below ↦ inr (((kept.above q).0 uid).1 (IsAncestor-turned ch P (λ x y. (kept.below y x).0) uid q below))
  ]

  -- the parents before the change
  before_is : (x : EntityUid) → Contains change.before.items x ↔ Contains (P uid) x
  before_is x = (
    λ h. (kept.below x uid).0 ((plan.before x).0 h).1,
    λ h. (plan.before x).1 (((kept.above uid).0 x).1 ([], h), (kept.below x uid).1 h),
  )

  module _ (ch1 ch2 : EntityUid → List EntityUid) (cyc1 cyc2 : List EntityUid) (adds : AddsChild change.after.items change.uid ch ch1) (enters : Enters change.lists.items cyc cyc1) where
    -- the change was made
    module _ (anc2 : EntityUid → List EntityUid) (wrote : (q : EntityUid) → anc2 q ≡ written change.lists.items q (anc q))
        (added : (x : EntityUid) → Contains change.after.items x → Contains (ch1 x) change.uid) (entered : (x : EntityUid) → IsInOwn change.lists.items x → Contains cyc1 x)
        (takes : TakesChild change.before.items change.after.items change.uid ch1 ch2) (leaves : Leaves change.entities.items anc2 cyc1 cyc2) where
      above_after : (q : EntityUid) → IsListOf Q q (anc2 q)
      above_after q = subst (λ l. IsListOf Q q l) (sym (wrote q)) (lists_right q)

      own_child : (a : EntityUid) → Contains (ch2 a) uid ↔ Contains (Q uid) a
      own_child a = (
        λ h. elim (adds.from a uid (takes.from a uid h)) [
          | inl old ↦ elim (among change.after.items a) [
            | inl there ↦ (plan.after a).0 there
            | inr not ↦ absurd (takes.taken a ((before_is a).1 ((kept.below a uid).0 old)) not (subst (λ z. Contains (ch2 a) z) (sym plan.uid_is) h))
          ]
          | inr new ↦ (plan.after a).0 new.0
        ],
        λ h.
            let there = (plan.after a).1 h in
            elim (takes.kept a uid (subst (λ z. Contains (ch1 a) z) plan.uid_is (added a there))) [
              | inl t ↦ t
              | inr gone ↦ absurd (gone.2 there)
            ],
      )

      other_child : (a b : EntityUid) → is_same uid b ≡ false → Contains (ch2 a) b ↔ Contains (Q b) a
      other_child a b apart =
          let ne : change.uid ≡ b → ⊥ = λ e. differ uid b apart (sym plan.uid_is ∙ e) in
          let e = agree b apart in (
            λ h. elim (adds.from a b (takes.from a b h)) [
              | inl old ↦ subst (λ l. Contains l a) e ((kept.below a b).0 old)
              | inr new ↦ absurd (ne new.1)
            ],
            λ h. elim (takes.kept a b (adds.kept a b ((kept.below a b).1 (subst (λ l. Contains l a) (sym e) h)))) [
              | inl t ↦ t
              | inr gone ↦ absurd (ne gone.0)
            ],
          )

      below_after : (a b : EntityUid) → Contains (ch2 a) b ↔ Contains (Q b) a
      below_after a b = at (is_same uid b) refl
        where
          at : (t : Bool) → is_same uid b ≡ t → Contains (ch2 a) b ↔ Contains (Q b) a
          at true same = subst (λ z. Contains (ch2 a) z ↔ Contains (Q z) a) (same_uid uid b same) (own_child a)
          at false apart = other_child a b apart

      -- on a cycle is who is in its own list
      own : (a : EntityUid) → Contains (anc2 a) a ↔ IsAncestor Q a a
      own a = (above_after a).0 a

      inside : (a : EntityUid) → Contains change.entities.items a → Contains cyc2 a ↔ IsAncestor Q a a
      inside a there = (
        λ h. elim (among (anc2 a) a) [
          | inl on ↦ (own a).0 on
          | inr off ↦ absurd (leaves.taken a there off h)
        ],
        λ up.
            let (list, found) = firsts-at change.lists.items a (subst (λ l. Contains l a) (sym plan.lists_of) there) in
            let on : Contains list.items a = ((plan.right a list found).0 a).1 up in
            elim (leaves.kept a (entered a (list, found, on))) [
              | inl t ↦ t
              | inr gone ↦ absurd (gone.1 ((own a).1 up))
            ],
      )

      outside : (a : EntityUid) → (Contains change.entities.items a → ⊥) → Contains cyc2 a ↔ IsAncestor Q a a
      outside a not =
          let away : Contains (firsts change.lists.items) a → ⊥ = λ h. not (subst (λ l. Contains l a) plan.lists_of h) in
          let same : anc2 a ≡ anc a = wrote a ∙ written-away change.lists.items a (anc a) away in (
            λ h. elim (enters.from a (leaves.from a h)) [
              | inl old ↦ (own a).0 (subst (λ l. Contains l a) (sym same) (((kept.above a).0 a).1 ((kept.on_cycles a).0 old)))
              | inr new ↦ absurd (away (firsts-has change.lists.items a new.0 new.1))
            ],
            λ up.
                let old : Contains cyc a = (kept.on_cycles a).1 (((kept.above a).0 a).0 (subst (λ l. Contains l a) same ((own a).1 up))) in
                elim (leaves.kept a (enters.kept a old)) [
                  | inl t ↦ t
                  | inr gone ↦ absurd (not gone.0)
                ],
          )

      pub made : IsCacheContent Q anc2 ch2 cyc2
      made = record {
        above = above_after;
        below = below_after;
        on_cycles = λ a. elim (among change.entities.items a) [ inl there ↦ inside a there | inr not ↦ outside a not ];
      }

-- the change was taken back, in each graph that was kept
module _ (p Q : Parents) (uid : EntityUid) (anc ch : EntityUid → List EntityUid) (cyc : List EntityUid)
    (kept : IsCacheContent p anc ch cyc) (change : Change) (plan : IsPlanned Q uid anc ch change)
    (ch1 ch2 : EntityUid → List EntityUid) (cyc1 cyc2 : List EntityUid) (adds : AddsChild change.after.items change.uid ch ch1) (enters : Enters change.lists.items cyc cyc1)
    (takes : TakesChild change.after.items change.before.items change.uid ch1 ch2) (leaves : Leaves change.entities.items anc cyc1 cyc2) where
  below_back : (a b : EntityUid) → Contains (ch2 a) b ↔ Contains (p b) a
  below_back a b = (
    λ h. (kept.below a b).0 (elim (adds.from a b (takes.from a b h)) [
      | inl old ↦ old
      | inr new ↦ elim (among change.before.items a) [
        | inl was ↦ subst (λ z. Contains (ch a) z) (sym plan.uid_is ∙ new.1) ((plan.before a).0 was).1
        | inr not ↦ absurd (takes.taken a new.0 not (subst (λ z. Contains (ch2 a) z) (sym new.1) h))
      ]
    ]),
    λ h. elim (takes.kept a b (adds.kept a b ((kept.below a b).1 h))) [
      | inl t ↦ t
      | inr gone ↦
          let edge : Contains (p uid) a = subst (λ z. Contains (p z) a) (sym gone.0 ∙ plan.uid_is) h in
          absurd (gone.2 ((plan.before a).1 (((kept.above uid).0 a).1 ([], edge), (kept.below a uid).1 edge)))
    ],
  )

  cycles_back : (a : EntityUid) → Contains cyc2 a ↔ IsAncestor p a a
  cycles_back a = (
    λ h. elim (enters.from a (leaves.from a h)) [
      | inl old ↦ (kept.on_cycles a).0 old
      | inr new ↦ elim (among (anc a) a) [
        | inl on ↦ ((kept.above a).0 a).0 on
        | inr off ↦ absurd (leaves.taken a (subst (λ l. Contains l a) plan.lists_of (firsts-has change.lists.items a new.0 new.1)) off h)
      ]
    ],
    λ up. elim (leaves.kept a (enters.kept a ((kept.on_cycles a).1 up))) [
      | inl t ↦ t
      | inr gone ↦ absurd (gone.1 (((kept.above a).0 a).1 up))
    ],
  )

  pub taken_back : IsCacheContent p anc ch2 cyc2
  taken_back = record { above = kept.above; below = below_back; on_cycles = cycles_back }
