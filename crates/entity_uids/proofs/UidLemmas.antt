-- Which of the two spellings a value has.
use Rattle.std.proofs.Common.{◌≡◌, true, ℕ, List, [], ◌∷◌, Option, Some, None, MatchOption, Result, Ok, Err, IfOk, refl, sym, ap, subst}
use Rattle.std.specs.Prelude.{codes}
use Rattle.serde_json.specs.Data.{Data, null, boolean, number, string, array, object, Members, no_members, member}
use Rattle.serde_json.specs.Find.{get, as_object}
use Rattle.json_words.specs.Keys.{has_only}
use Rattle.plain.specs.Words.{IsPath}
use Rattle.values.specs.declared.entity_uid.EntityUid.{EntityUid}
use Rattle.entity_uids.specs.Uids.{IsPlainUid, IsUid, IsRead}

pub plain : (d : Data) → get (codes "__entity") d ≡ None → (o : Option EntityUid) → IsRead (IsPlainUid d) o → IsRead (IsUid d) o
plain d e None h = λ uid is. h uid (rw e at is)
plain d e (Some uid) h = rw e h

pub under_entity : (d inner : Data) → get (codes "__entity") d ≡ Some inner → has_only (codes "__entity" ∷ []) d ≡ true
    → (o : Option EntityUid) → IsRead (IsPlainUid inner) o → IsRead (IsUid d) o
under_entity d inner e alone None h = λ uid is. h uid ((rw e at is).is)
under_entity d inner e alone (Some uid) h = rw e (record { alone = alone; is = h })

-- ---- the spelling whose two keys are found in their order

object_of : (d : Data) (ms : Members) → as_object d ≡ Some ms → d ≡ object ms
object_of null ms e = absurd (cc)
object_of (boolean b) ms e = absurd (cc)
object_of (number n) ms e = absurd (cc)
object_of (string s) ms e = absurd (cc)
object_of (array ds) ms e = absurd (cc)
object_of (object found) ms e = let same : found ≡ ms = cc in ap object same

abbrev spelling : List ℕ → List ℕ → Members
spelling name id = member (codes "id") (string id) (member (codes "type") (string name) no_members)

-- what is made of a type's name and an id
abbrev Made : List ℕ → List ℕ → Option EntityUid → Type 0
Made name id o = MatchOption o (IsPath name → ⊥) (λ u. IsPath name × (u.type_name ≡ name) × (u.id ≡ id))

of_spelling : (name id : List ℕ) (o : Option EntityUid) → Made name id o → IsRead (IsUid (object (spelling name id))) o
of_spelling name id None none = λ uid is. let named : Some name ≡ Some uid.type_name = is.type_name in
    let same : uid.type_name ≡ name = cc in none (subst IsPath same is.path)
of_spelling name id (Some u) made = record {
  alone = refl;
  type_name = ap Some (sym made.1);
  path = subst IsPath (sym made.1) made.0;
  id = ap Some (sym made.2);
}

read_of : (d : Data) (name id : List ℕ) → as_object d ≡ Some (spelling name id) → (o : Option EntityUid) → Made name id o → IsRead (IsUid d) o
read_of d name id e o made = subst (λ x. IsRead (IsUid x) o) (sym (object_of d (spelling name id) e)) (of_spelling name id o made)

pub spelled : {E : Type 0} (d : Data) (name id : List ℕ) → as_object d ≡ Some (spelling name id) → (r : Result (Option EntityUid) E) → IfOk r (Made name id) → IfOk r (IsRead (IsUid d))
spelled d name id e (Ok o) made = read_of d name id e o made
spelled d name id e (Err f) made = tt
