-- Defines sets of uids as lists that ascend, without duplicates.
use Rattle.std.specs.Prelude.{List, [], ◌∷◌}
use Rattle.std.specs.Ordering.{match_ordering}
use Rattle.values.specs.declared.entity_uid.EntityUid.{EntityUid}
use Rattle.values.specs.Names.{uid_cmp}

-- `put_uid u us` is the set `us` with the uid `u` added.
abbrev pub put_uid : EntityUid → List EntityUid → List EntityUid
put_uid u [] = u ∷ []
put_uid u (v ∷ vs) = match_ordering (uid_cmp u v) (u ∷ v ∷ vs) (v ∷ vs) (v ∷ put_uid u vs)

-- `uid_set us` is the set of the uids `us`.
abbrev pub uid_set : List EntityUid → List EntityUid
uid_set [] = []
uid_set (u ∷ us) = put_uid u (uid_set us)
