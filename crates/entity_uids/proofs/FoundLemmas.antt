-- The function finds what a value names.
use Rattle.std.proofs.Common.{◌≡◌, ◌∙◌, true, ℕ, List, [], ◌∷◌, Option, Some, None, inl, inr, refl, sym, ap}
use Rattle.std.specs.Prelude.{codes}
use Rattle.std.proofs.lemmas.Bool.{cases_Bool}
use Rattle.serde_json.specs.Data.{Data}
use Rattle.serde_json.specs.Find.{get}
use Rattle.json_words.specs.Keys.{has_only}
use Rattle.json_words.specs.Json.{text_at}
use Rattle.values.specs.declared.entity_uid.EntityUid.{EntityUid}
use Rattle.values.specs.Paths.{is_path, PathTestIsExact}
use Rattle.entity_uids.specs.Uids.{IsPlainUid, IsUid, IsRead, uid_made_of, plain_uid_in, uid_under, uid_in}
use Rattle.entity_uids.specs.Laws.{OneUid, UidsAreFound}
use Rattle.entity_uids.proofs.UidLemmas.{plain, under_entity}

made : PathTestIsExact → (d : Data) (name id : Option (List ℕ)) → text_at (codes "type") d ≡ name → text_at (codes "id") d ≡ id
    → has_only (codes "type" ∷ codes "id" ∷ []) d ≡ true → IsRead (IsPlainUid d) (uid_made_of name id)
made told d None id at_type at_id alone = λ uid is. let named = is.type_name in absurd (cc)
made told d (Some name) None at_type at_id alone = λ uid is. let named = is.id in absurd (cc)
made told d (Some name) (Some id) at_type at_id alone = elim (cases_Bool (is_path name)) [
  | inl y ↦ rw y (record { alone = alone; type_name = at_type; path = (told name).0 y; id = at_id })
  | inr n ↦ rw n (λ uid is.
      let same : Some name ≡ Some uid.type_name = sym at_type ∙ is.type_name in
      let path : is_path uid.type_name ≡ true = (told uid.type_name).1 is.path in
      absurd (cc))
]

plain_found : PathTestIsExact → (d : Data) → IsRead (IsPlainUid d) (plain_uid_in d)
unfolding plain_uid_in
plain_found told d = elim (cases_Bool (has_only (codes "type" ∷ codes "id" ∷ []) d)) [
  | inl y ↦ rw y (made told d (text_at (codes "type") d) (text_at (codes "id") d) refl refl y)
  | inr n ↦ rw n (λ uid is. let alone = is.alone in absurd (cc))
]

under : PathTestIsExact → (d : Data) (inner : Option Data) → get (codes "__entity") d ≡ inner → IsRead (IsUid d) (uid_under d inner)
under told d None e = plain d e (plain_uid_in d) (plain_found told d)
under told d (Some inner) e = elim (cases_Bool (has_only (codes "__entity" ∷ []) d)) [
  | inl y ↦ rw y (under_entity d inner e y (plain_uid_in inner) (plain_found told inner))
  | inr n ↦ rw n (λ uid is. let alone = (rw e at is).alone in absurd (cc))
]

pub found : PathTestIsExact → UidsAreFound
unfolding uid_in
found told d = under told d (get (codes "__entity") d) refl

both : OneUid → (d : Data) (a b : Option EntityUid) → IsRead (IsUid d) a → IsRead (IsUid d) b → a ≡ b
both one d None None x y = refl
both one d None (Some v) x y = absurd (x v y)
both one d (Some u) None x y = absurd (y u x)
both one d (Some u) (Some v) x y = ap Some (one d u v x y)

-- what was read is what the function finds
pub same : OneUid → UidsAreFound → (d : Data) (o : Option EntityUid) → IsRead (IsUid d) o → o ≡ uid_in d
same one all d o is = both one d o (uid_in d) is (all d)
