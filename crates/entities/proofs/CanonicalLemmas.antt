-- What writing an entity makes.
use Rattle.std.proofs.Common.{◌≡◌, List, [], ◌∷◌, map, refl, subst}
use Rattle.std.specs.Prelude.{codes}
use Rattle.json.specs.Token.{begin_object, end_object, key}
use Rattle.json.specs.Written.{Written}
use Rattle.serde_json.specs.Data.{Data, object, array, Members, no_members, member}
use Rattle.serde_json.specs.View.{items_of}
use Rattle.values.specs.Values.{fields_of}
use Rattle.values.specs.declared.entity_uid.EntityUid.{EntityUid}
use Rattle.entity_uids.specs.Tokens.{AppendsTokens, tokens_of, AppendsValue}
use Rattle.entity_uids.specs.Uids.{uid_json}
use Rattle.entity_uids.proofs.Nested.{object_begun, member_next, member_written, object_ended}
use Rattle.entities.specs.CanonicalValues.{fields_json}
use Rattle.entity_data.specs.declared.entity.Entity.{Entity}
use Rattle.entities.specs.Canonical.{canonical_json}

pub uid_written : {old new : Written} (uid : EntityUid) → AppendsTokens old new (tokens_of (uid_json uid)) → AppendsValue old new (uid_json uid)
uid_written uid h = record { written = h; again = refl }

-- the three members of an entity, between the brackets
pub entity_written : {a b c d e f g h i : Written} (entity : Entity) (parents : List EntityUid) → parents ≡ entity.parents → AppendsTokens a b (begin_object ∷ [])
    → AppendsTokens b c (key (codes "attrs") ∷ []) → AppendsValue c d (object (fields_json (fields_of entity.attrs)))
    → AppendsTokens d e (key (codes "parents") ∷ []) → AppendsValue e f (array (items_of (map uid_json parents)))
    → AppendsTokens f g (key (codes "uid") ∷ []) → AppendsValue g h (uid_json entity.uid) → AppendsTokens h i (end_object ∷ []) → AppendsValue a i (canonical_json entity)
entity_written {e = e} {f = f} entity parents same first attrs_key attrs parents_key listed uid_key uid last =
    let of_attrs : Data = object (fields_json (fields_of entity.attrs)) in
    let of_parents : Data = array (items_of (map uid_json entity.parents)) in
    let behind_parents : Members = member (codes "uid") (uid_json entity.uid) no_members in
    let behind_attrs : Members = member (codes "parents") of_parents behind_parents in
    let its_parents : AppendsValue e f of_parents = subst (λ (us : List EntityUid). AppendsValue e f (array (items_of (map uid_json us)))) same listed in
    let begun = object_begun (member (codes "attrs") of_attrs behind_attrs) first in
    let with_attrs = member_next (codes "attrs") of_attrs behind_attrs refl begun (member_written attrs_key attrs) in
    let with_parents = member_next (codes "parents") of_parents behind_parents refl with_attrs (member_written parents_key its_parents) in
    object_ended refl (member_next (codes "uid") (uid_json entity.uid) no_members refl with_parents (member_written uid_key uid)) last
