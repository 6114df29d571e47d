-- Sets and records of well-formed values are well formed, and so is what they hold.
use Rattle.std.proofs.Common.{◌≡◌, ℕ, zero, suc, List, [], ◌∷◌, Some, Ordering, Less, Equal, Greater, refl, sym, subst}
use Rattle.std.proofs.Common.{arith}
use Rattle.std.specs.Prelude.{Contains}
use Rattle.std.specs.Ordering.{match_ordering}
use Rattle.std.specs.List.Sorted.{IsStrictlySortedBy}
use Rattle.values.specs.Values.{PlainValue, set, record_of, values_of, fields_of, list_of-values_of, pairs_of-fields_of}
use Rattle.values.specs.Fields.{Field, AreKeysAscending, put, find_field}
use Rattle.values.specs.Sets.{set_list}
use Rattle.values.specs.Uids.{text_cmp}
use Rattle.values.specs.ValueOrder.{value_cmp}
use Rattle.values.specs.WellFormed.{IsWellFormed, AreMembersWellFormed, AreFieldsWellFormed}
use Rattle.extensions.proofs.of_plain.Members.{Contains-here, Contains-there}
use Rattle.values.proofs.Puts.{put_ascending}
use Rattle.values.proofs.Unique.{set_of}

pub all_members : (vs : List PlainValue) → ((v : PlainValue) → Contains vs v → IsWellFormed v) → AreMembersWellFormed (values_of vs)
all_members [] h = tt
all_members (v ∷ vs) h = (h v (Contains-here v vs), all_members vs (λ w inside. h w (Contains-there v vs w inside)))

pub set_is_well_formed : (vs : List PlainValue) → IsStrictlySortedBy value_cmp vs → AreMembersWellFormed (values_of vs) → IsWellFormed (set (values_of vs))
set_is_well_formed vs s h = (subst (IsStrictlySortedBy value_cmp) (sym (list_of-values_of vs)) s, h)

pub set_well_formed : (vs : List PlainValue) → ((v : PlainValue) → Contains vs v → IsWellFormed v) → IsWellFormed (set (values_of (set_list vs)))
set_well_formed vs h =
    let is = set_of vs in (
      subst (IsStrictlySortedBy value_cmp) (sym (list_of-values_of (set_list vs))) is.ascending,
      all_members (set_list vs) (λ v inside. h v ((is.members v).0 inside)),
    )

pub one_member : (vs : List PlainValue) → AreMembersWellFormed (values_of vs) → (v : PlainValue) → Contains vs v → IsWellFormed v
one_member [] h v (k, lt, e) = absurd (omega arith)
one_member (w ∷ vs) h v (zero, lt, e) = subst IsWellFormed e h.0
one_member (w ∷ vs) h v (suc k, lt, e) = one_member vs h.1 v (k, omega arith, e)

pub member_well_formed : (s : List PlainValue) → IsWellFormed (set (values_of s)) → (v : PlainValue) → Contains s v → IsWellFormed v
member_well_formed s h v inside = one_member s h.1 v inside

all_put : (k : List ℕ) (v : PlainValue) (fs : List Field) → AreFieldsWellFormed (fields_of fs) → IsWellFormed v → AreFieldsWellFormed (fields_of (put k v fs))
all_put k v [] h w = (w, tt)
all_put k v (f ∷ fs) h w =
    elim (text_cmp k f.0) as (λ o. AreFieldsWellFormed (fields_of (match_ordering o ((k, v) ∷ f ∷ fs) ((f.0, v) ∷ fs) (f ∷ put k v fs)))) [
      | Less ↦ (w, h)
      | Equal ↦ (w, h.1)
      | Greater ↦ (h.0, all_put k v fs h.1 w)
    ]

pub none_well_formed : IsWellFormed (record_of (fields_of []))
unfolding IsStrictlySortedBy
none_well_formed = (tt, tt)

pub put_well_formed : (k : List ℕ) (v : PlainValue) (fs : List Field) → IsWellFormed (record_of (fields_of fs)) → IsWellFormed v → IsWellFormed (record_of (fields_of (put k v fs)))
put_well_formed k v fs h w =
    let before : AreKeysAscending fs = subst AreKeysAscending (pairs_of-fields_of fs) h.0 in
    (subst AreKeysAscending (sym (pairs_of-fields_of (put k v fs))) (put_ascending k v fs before), all_put k v fs h.1 w)

one_field : (k : List ℕ) (v : PlainValue) (fs : List Field) → AreFieldsWellFormed (fields_of fs) → find_field k fs ≡ Some v → IsWellFormed v
one_field k v [] h e = absurd (cc)
one_field k v (f ∷ fs) h e = at (text_cmp k f.0) refl (λ rest. one_field k v fs h.1 rest)
  where
    at : (o : Ordering) → text_cmp k f.0 ≡ o → (find_field k fs ≡ Some v → IsWellFormed v) → IsWellFormed v
    at Less is behind = behind (rw is at e)
    at Equal is behind = let found : Some f.1 ≡ Some v = rw is at e in let same : f.1 ≡ v = cc in subst IsWellFormed same h.0
    at Greater is behind = behind (rw is at e)

pub field_well_formed : (fs : List Field) → IsWellFormed (record_of (fields_of fs)) → (k : List ℕ) (v : PlainValue) → find_field k fs ≡ Some v → IsWellFormed v
field_well_formed fs h k v e = one_field k v fs h.1 e
