-- Uids in ascending order, each once.
use Rattle.std.proofs.Common.{◌≡◌, ◌∙◌, List, [], ◌∷◌, Less, refl, ap}
use Rattle.std.specs.List.{AllByRecursion}
use Rattle.std.specs.List.Sorted.{IsStrictlySortedBy}
use Rattle.values.specs.declared.entity_uid.EntityUid.{EntityUid}
use Rattle.values.specs.Names.{uid_cmp}
use Rattle.entity_data.specs.ancestor_search.Hierarchy.{IsAscending}
use Rattle.entity_data.specs.UidSets.{put_uid, uid_set}
use Rattle.entity_data.proofs.UidLemmas.{all_put}

-- ---- what holds of each

-- what holds of each uid holds of each of the set
pub all_set : (P : EntityUid → Type 0) (us : List EntityUid) → AllByRecursion P us → AllByRecursion P (uid_set us)
all_set P [] a = tt
all_set P (u ∷ us) a = all_put P u (uid_set us) a.0 (all_set P us a.1)

-- uids that ascend are their own set
put_first : (u : EntityUid) (vs : List EntityUid) → AllByRecursion (λ w. uid_cmp u w ≡ Less) vs → put_uid u vs ≡ u ∷ vs
put_first u [] a = refl
put_first u (v ∷ vs) a = rw a.0 refl

pub set_same : (us : List EntityUid) → IsAscending us → uid_set us ≡ us
unfolding IsStrictlySortedBy
set_same [] s = refl
set_same (u ∷ us) s = ap (put_uid u) (set_same us s.1) ∙ put_first u us s.0
