-- One entity is named at most.
use Rattle.std.proofs.Common.{◌≡◌, ℕ, List, Option, Some, None, MatchOption}
use Rattle.serde_json.specs.Data.{Data}
use Rattle.serde_json.specs.Find.{get, as_str}
use Rattle.std.specs.Prelude.{codes}
use Rattle.values.specs.declared.entity_uid.EntityUid.{EntityUid}
use Rattle.policy_grammar.specs.PolicyText.{IsUidText}
use Rattle.entity_uids.specs.Uids.{IsPlainUid, IsUid, IsUnderEntity}
use Rattle.entity_uids.specs.Laws.{OneUid, OneName}

text_same : (o : Option (List ℕ)) (x y : List ℕ) → o ≡ Some x → o ≡ Some y → x ≡ y
text_same o x y h g = cc

plain_same : (d : Data) (u v : EntityUid) → IsPlainUid d u → IsPlainUid d v → u ≡ v
plain_same d u v a b =
    let name : u.type_name ≡ v.type_name = text_same _ u.type_name v.type_name a.type_name b.type_name in
    let id : u.id ≡ v.id = text_same _ u.id v.id a.id b.id in
    λ i. record { type_name = name i; id = id i }

uid_same : (d : Data) (u v : EntityUid) (inner : Option Data) → MatchOption inner (IsPlainUid d u) (λ e. IsUnderEntity d e u)
    → MatchOption inner (IsPlainUid d v) (λ e. IsUnderEntity d e v) → u ≡ v
uid_same d u v None a b = plain_same d u v a b
uid_same d u v (Some inner) a b = plain_same inner u v a.is b.is

pub one_uid : OneUid
one_uid d u v a b = uid_same d u v (get (codes "__entity") d) a b

name_same : ((text : List ℕ) (u v : EntityUid) → IsUidText text u → IsUidText text v → u ≡ v) → (d : Data) (u v : EntityUid) (text : Option (List ℕ))
    → MatchOption text (IsUid d u) (λ t. IsUidText t u) → MatchOption text (IsUid d v) (λ t. IsUidText t v) → u ≡ v
name_same law d u v None a b = one_uid d u v a b
name_same law d u v (Some text) a b = law text u v a b

pub one_name : ((text : List ℕ) (u v : EntityUid) → IsUidText text u → IsUidText text v → u ≡ v) → OneName
one_name law d u v a b = name_same law d u v (as_str d) a b
