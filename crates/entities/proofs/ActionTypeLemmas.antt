-- The test for an action's type tells the types that actions have.
use Rattle.std.proofs.Common.{◌≡◌, ◌∙◌, ℕ, List, [], ◌∷◌, ◌++◌, ◌-◌, length, take, Some, None, Bool, true, false, refl, sym, ap, subst, inl, inr}
use Rattle.std.specs.Prelude.{◌⊎◌, codes, ◌||◌, ◌==◌}
use Rattle.std.specs.List.{ends_with}
use Rattle.std.specs.Str.{bytes_eq}
use Rattle.std.proofs.lemmas.Slice.Eq.{bytes_eq-Decides, ends_is}
use Rattle.std.proofs.lemmas.Bool.Decides.{Decides-eqb}
use Rattle.schema_types.specs.Names.{full_name}
use Rattle.schema.specs.WellFormed.{IsActionType}
use Rattle.entities.specs.Entities.{is_action_type}
use Rattle.entities.specs.Laws.{ActionTypeTestIsExact}

glue : (xs ys zs : List ℕ) → xs ++ (ys ++ zs) ≡ (xs ++ ys) ++ zs
glue [] ys zs = refl
glue (x ∷ xs) ys zs = ap (λ (ws : List ℕ). x ∷ ws) (glue xs ys zs)

or_true : (b c : Bool) → c ≡ true → (b || c) ≡ true
or_true true c h = refl
or_true false c h = h

one_true : (b c : Bool) → (b || c) ≡ true → (b ≡ true) ⊎ (c ≡ true)
one_true true c h = inl refl
one_true false c h = inr h

parted : (namespace : List ℕ) → namespace ++ codes "::Action" ≡ full_name (Some namespace) (codes "Action")
parted namespace = glue namespace (codes "::") (codes "Action")

told : (name : List ℕ) → IsActionType name → is_action_type name ≡ true
told name (None, is) = subst (λ (n : List ℕ). is_action_type n ≡ true) (sym is) refl
told name (Some namespace, is) =
    let ends : ends_with (λ a b. a == b) name (codes "::Action") ≡ true =
    (ends_is Decides-eqb name (codes "::Action") (ends_with (λ a b. a == b) name (codes "::Action")) refl).1 namespace (is ∙ sym (parted namespace)) in
    or_true (bytes_eq name (codes "Action")) (ends_with (λ a b. a == b) name (codes "::Action")) ends

found : (name : List ℕ) → is_action_type name ≡ true → IsActionType name
found name h = elim (one_true (bytes_eq name (codes "Action")) (ends_with (λ a b. a == b) name (codes "::Action")) h) [
  | inl whole ↦ (None, (bytes_eq-Decides name (codes "Action")).0 whole)
  | inr ends ↦
      let is = (ends_is Decides-eqb name (codes "::Action") (ends_with (λ a b. a == b) name (codes "::Action")) refl).0 ends in
      (Some (take (length name - length (codes "::Action")) name), is ∙ parted (take (length name - length (codes "::Action")) name))
]

pub action_type_test_is_exact : ActionTypeTestIsExact
action_type_test_is_exact name = (found name, told name)
