-- Members whose names ascend are read by the fields from the next name on.
use Rattle.std.proofs.Common.{◌≡◌, ◌∙◌, ℕ, List, [], ◌∷◌, Option, Result, Ok, String, Global, string_bytes, string_cmp, Less, Greater, refl, ap, subst}
use Rattle.std.specs.List.{AllByRecursion}
use Rattle.std.specs.Ordering.{ordering_reverse}
use Rattle.std.specs.Map.{keys_of}
use Rattle.std.specs.List.Sorted.{IsStrictlySortedBy}
use Rattle.serde_json.specs.View.{view, members_view}
use Rattle.values.specs.Fields.{Field}
use Rattle.values.specs.Uids.{text_cmp, text_cmp-IsTotalOrder}
use Rattle.schema_types.specs.Cedar.{Cedar, CedarFields}
use Rattle.json_words.specs.ReadsAs.{◌>>=◌, or_fault}
use Rattle.entities.specs.declared.fault.EntityFault.{EntityFault}
use Rattle.entities.specs.declared.fault.EntityFault.TheVariants.{Undeclared}
use Rattle.entities.specs.Parts.{declared_at}
use Rattle.entities.specs.Typing.{typed_value, typed_members}
use Rattle.entities.specs.inner.FieldSuffixes.{DeclareAlikeFrom}
use Rattle.entities.proofs.Walk.{Entry, Ordered, with_front}

-- ---- members whose names ascend are read alike

abbrev AreFrom : List ℕ → List Entry → Type 0
AreFrom name es = AllByRecursion (λ (e : Entry). text_cmp (string_bytes e.0) name ≡ Less → ⊥) es

abbrev done : List Field → Result (List Field) EntityFault
done vs = Ok vs

read_alike : (name : List ℕ) (fs gs : CedarFields) → DeclareAlikeFrom name fs gs → (es : List Entry) → AreFrom name es → typed_members fs (members_view es) ≡ typed_members gs (members_view es)
unfolding typed_value
read_alike name fs gs alike [] from = refl
read_alike name fs gs alike (e ∷ es) from =
    ap (λ (o : Option Cedar). or_fault Undeclared o >>= λ t. typed_value t (view e.1) >>= λ v. typed_members fs (members_view es) >>= λ vs. done ((string_bytes e.0, v) ∷ vs)) (alike (string_bytes e.0) from.0)
    ∙ ap (λ (r : Result (List Field) EntityFault). or_fault Undeclared (declared_at (string_bytes e.0) gs) >>= λ t. typed_value t (view e.1) >>= λ v. r >>= λ vs. done ((string_bytes e.0, v) ∷ vs)) (read_alike name fs gs alike es from.1)

-- names behind the first are not in front of it
behind : (x y : List ℕ) → text_cmp x y ≡ Less → text_cmp y x ≡ Less → ⊥
behind x y below above = let turned : text_cmp y x ≡ Greater = text_cmp-IsTotalOrder.antisymm y x ∙ ap ordering_reverse below in absurd cc

itself : (x : List ℕ) → text_cmp x x ≡ Less → ⊥
itself x below = behind x x below below

all_behind : (x : String Global) (es : List Entry) → AllByRecursion (λ y. string_cmp x y ≡ Less) (keys_of es) → AreFrom (string_bytes x) es
all_behind x [] a = tt
all_behind x (e ∷ es) a = (behind (string_bytes x) (string_bytes e.0) a.0, all_behind x es a.1)

from_first : (front : List Field) (e : Entry) (left : List Entry) → Ordered front (e ∷ left) → AreFrom (string_bytes e.0) (e ∷ left)
unfolding IsStrictlySortedBy
from_first front e left h = (itself (string_bytes e.0), all_behind e.0 left h.0.0)

-- what is read of the members that are left, by the fields from the next name on
pub ahead : (name : List ℕ) (fs gs : CedarFields) (e : Entry) (left : List Entry) (front : List Field) (total : Result (List Field) EntityFault) → name ≡ string_bytes e.0
    → DeclareAlikeFrom name fs gs → Ordered front (e ∷ left)
    → total ≡ with_front front (typed_members fs (members_view (e ∷ left))) → total ≡ with_front front (typed_members gs (members_view (e ∷ left)))
ahead name fs gs e left front total is alike order so_far =
    so_far ∙ ap (λ (r : Result (List Field) EntityFault). with_front front r)
    (read_alike (string_bytes e.0) fs gs (subst (λ (n : List ℕ). DeclareAlikeFrom n fs gs) is alike) (e ∷ left) (from_first front e left order))
