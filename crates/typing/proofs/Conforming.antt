-- The example conforms.
use Rattle.std.specs.Prelude.{◌≡◌, ◌⊎◌, ℕ, List, [], ◌∷◌, pos, Bool, true, false, codes, IsTrue, IsFalse, Contains}
use Rattle.std.specs.Prelude.{Some, None, if◌then◌else◌, refl}
use Rattle.std.specs.Bool.{Decides}
use Rattle.std.proofs.Common.{inl, inr, ap, sym, ◌∙◌, subst}
use Rattle.std.proofs.lemmas.Bool.{cases_Bool, false≢true}
use Rattle.std.specs.Ordering.{is_eq}
use Rattle.std.specs.Str.{bytes_eq}
use Rattle.values.specs.declared.entity_uid.EntityUid.{EntityUid}
use Rattle.values.specs.Fields.{Field}
use Rattle.values.specs.Uids.{uid_cmp, uid_cmp-IsTotalOrder, uid_cmp-IsAntisymmetric, equal-is}
use Rattle.values.specs.Values.{PlainValue, boolean, long}
use Rattle.grammar_core.specs.declared.leaf.Literal.TheVariants as literal
use Rattle.grammar_core.specs.declared.leaf.Variable.TheVariants as variable
use Rattle.grammar_core.specs.declared.operator.Binary.TheVariants as binary
use Rattle.grammar_core.specs.declared.expr.Expr.{Expr}
use Rattle.grammar_core.specs.declared.expr.Expr.TheVariants as form
use Rattle.evaluator.specs.ancestor_search.Hierarchy.{Path, IsAncestor}
use Rattle.typing.specs.Types
use Rattle.typing.specs.Types.{StaticType, declared_as, field_declared_at}
use Rattle.typing.specs.Membership
use Rattle.typing.specs.Membership.{Of, FieldOf}
use Rattle.typing.specs.Conforming.{Conforms}
use Rattle.typing.specs.Gained.{Capability}
use Rattle.typing.specs.Literals.{UndecidedByLiterals}
use Rattle.typing.specs.Rows
use Rattle.typing.specs.Typing
use Rattle.typing.specs.Typing.{Types}
use Rattle.typing.specs.Faults
use Rattle.typing.specs.Laws.{SomethingConforms, SomethingIsTyped, SomethingIsFaulty}
use Rattle.typing.specs.Example
use Rattle.typing.specs.Example.{alice, staff, plan, view, readers, parents, environment}
use Rattle.plain.proofs.Members.{Contains-here, Contains-there, Contains-cases, Contains-none}
use Rattle.typing.proofs.Values.{None-Some, Some-same, FieldsFit, find_first, record_fits}

same : (a b : EntityUid) → is_eq (uid_cmp a b) ≡ true → a ≡ b
same a b e = (equal-is uid_cmp-IsTotalOrder uid_cmp-IsAntisymmetric a b).0 e

-- ---- attributes

one_case : (b r : Bool) {v : PlainValue} {t : StaticType} → Of v t
    → FieldOf (if b then Some v else None) (if b then declared_as r t else Types.undeclared)
one_case true true h = Membership.has_required h
one_case true false h = Membership.has_optional h
one_case false r h = Membership.absent

one_field_fits : (k : List ℕ) (v : PlainValue) (t : StaticType) (r : Bool) → Of v t
    → FieldsFit ((k, v) ∷ []) (Types.field_type k t r Types.no_field_types)
one_field_fits k v t r h = λ l.
    subst (λ o. FieldOf o (field_declared_at l (Types.field_type k t r Types.no_field_types))) (sym (find_first l (k, v) []))
    (one_case (bytes_eq l k) r h)

alice_fits : (fs : List Field) → Example.stored alice ≡ Some fs → FieldsFit fs (environment.attributes alice.type_name)
alice_fits fs e =
    subst (λ gs. FieldsFit gs (environment.attributes alice.type_name)) (Some-same e)
    (one_field_fits (codes "age") (long (pos 30)) Types.long_type false Membership.of_long)

plan_fits : (fs : List Field) → Example.stored plan ≡ Some fs → FieldsFit fs (environment.attributes plan.type_name)
plan_fits fs e = subst (λ gs. FieldsFit gs (environment.attributes plan.type_name)) (Some-same e) (λ k. Membership.absent)

not_stored : (u : EntityUid) → is_eq (uid_cmp alice u) ≡ false → is_eq (uid_cmp plan u) ≡ false → Example.stored u ≡ None
not_stored u e f =
    ap (λ b. if b then Some ((codes "age", long (pos 30)) ∷ []) else (if is_eq (uid_cmp plan u) then Some [] else None)) e
    ∙ ap (λ b. if b then Some [] else None) f

attributes_fit : (u : EntityUid) (fs : List Field) → Example.stored u ≡ Some fs → FieldsFit fs (environment.attributes u.type_name)
attributes_fit u fs e = elim (cases_Bool (is_eq (uid_cmp alice u))) [
  | inl a ↦ at alice u (same alice u a) alice_fits fs e
  | inr n ↦ elim (cases_Bool (is_eq (uid_cmp plan u))) [
    | inl p ↦ at plan u (same plan u p) plan_fits fs e
    | inr m ↦ None-Some (sym (not_stored u n m) ∙ e)
  ]
]
  where
    at : (v u : EntityUid) → v ≡ u → ((fs : List Field) → Example.stored v ≡ Some fs → FieldsFit fs (environment.attributes v.type_name))
        → (fs : List Field) → Example.stored u ≡ Some fs → FieldsFit fs (environment.attributes u.type_name)
    at v u e f = subst (λ w. (fs : List Field) → Example.stored w ≡ Some fs → FieldsFit fs (environment.attributes w.type_name)) e f

-- ---- ancestors

only : {x a : EntityUid} → Contains (x ∷ []) a → x ≡ a
only {x} {a} m = elim (Contains-cases x [] a m) [ inl e ↦ e | inr n ↦ Contains-none a n ]

-- who is above whom
IsEdge : EntityUid → EntityUid → Type 0
IsEdge u a = ((view ≡ u) × (readers ≡ a)) ⊎ ((alice ≡ u) × (staff ≡ a))

edge_case : (u a : EntityUid) (b c : Bool) → is_eq (uid_cmp view u) ≡ b → is_eq (uid_cmp alice u) ≡ c
    → Contains (if b then readers ∷ [] else (if c then staff ∷ [] else [])) a → IsEdge u a
unfolding IsEdge
edge_case u a true c e f m = inl (same view u e, only m)
edge_case u a false true e f m = inr (same alice u f, only m)
edge_case u a false false e f m = Contains-none a m

edge : (u a : EntityUid) → Contains (parents u) a → IsEdge u a
edge u a m = edge_case u a (is_eq (uid_cmp view u)) (is_eq (uid_cmp alice u)) refl refl m

no_path : (c : EntityUid) → parents c ≡ [] → (cs : List EntityUid) (a : EntityUid) → Path parents c cs a → ⊥
no_path c e [] a p = Contains-none a (subst (λ us. Contains us a) e p)
no_path c e (d ∷ ds) a p = Contains-none d (subst (λ us. Contains us d) e p.0)

top_has_none : (u c : EntityUid) → IsEdge u c → parents c ≡ []
unfolding IsEdge
top_has_none u c (inl e) = subst (λ d. parents d ≡ []) e.1 refl
top_has_none u c (inr e) = subst (λ d. parents d ≡ []) e.1 refl

path_is_edge : (u : EntityUid) (through : List EntityUid) (a : EntityUid) → Path parents u through a → IsEdge u a
path_is_edge u [] a p = edge u a p
path_is_edge u (c ∷ cs) a p = absurd (no_path c (top_has_none u c (edge u c p.0)) cs a p.1)

above_is_edge : (u a : EntityUid) → IsAncestor parents a u → IsEdge u a
above_is_edge u a p = path_is_edge u p.0 a p.1

more_parents : (a : EntityUid) (b c : Bool) → Contains (if b then readers ∷ [] else []) a
    → Contains (if b then readers ∷ [] else (if c then staff ∷ [] else [])) a
more_parents a true c m = m
more_parents a false c m = Contains-none a m

action_above : (u a : EntityUid) → IsTrue (environment.is_action_type u.type_name) → IsEdge u a → Contains (environment.action_ancestors u) a
unfolding IsEdge
action_above u a i (inl e) =
    subst (λ v. Contains (environment.action_ancestors v) a) e.0
    (subst (λ b. Contains (environment.action_ancestors view) b) e.1 (Contains-here readers []))
action_above u a i (inr e) = absurd (false≢true (subst (λ v. IsTrue (environment.is_action_type v.type_name)) (sym e.0) i))

type_above : (u a : EntityUid) → IsFalse (environment.is_action_type u.type_name) → IsEdge u a
    → IsTrue (environment.may_have_ancestor u.type_name a.type_name)
unfolding IsEdge
type_above u a n (inl e) = absurd (false≢true (sym (subst (λ v. IsFalse (environment.is_action_type v.type_name)) (sym e.0) n)))
type_above u a n (inr e) =
    subst (λ v. IsTrue (environment.may_have_ancestor v.type_name a.type_name)) e.0
    (subst (λ b. IsTrue (environment.may_have_ancestor alice.type_name b.type_name)) e.1 refl)

has_parents : (u a : EntityUid) → IsEdge u a → Contains (alice ∷ view ∷ []) u
unfolding IsEdge
has_parents u a (inl e) = subst (λ v. Contains (alice ∷ view ∷ []) v) e.0 (Contains-there alice (view ∷ []) view (Contains-here view []))
has_parents u a (inr e) = subst (λ v. Contains (alice ∷ view ∷ []) v) e.0 (Contains-here alice (view ∷ []))

conforms : Conforms environment Example.world Example.request
conforms = record {
  principal = refl;
  action = refl;
  resource = refl;
  context = record_fits ((codes "known", boolean true) ∷ []) environment.context (one_field_fits (codes "known") (boolean true) Types.boolean_type true Membership.of_boolean);
  attributes = λ u fs e. record_fits fs _ (attributes_fit u fs e);
  actions = λ u i a. (
    (λ m. ([], more_parents a (is_eq (uid_cmp view u)) (is_eq (uid_cmp alice u)) m)),
    (λ p. action_above u a i (above_is_edge u a p)),
  );
  ancestors = λ u a n p. type_above u a n (above_is_edge u a p);
}

pub something_conforms : SomethingConforms
something_conforms = (conforms, λ u a m. has_parents u a (edge u a m))

-- ---- and what is typed there

unsettled : (a b : Expr) → UndecidedByLiterals environment binary.Less a b
unsettled a b r s = elim s [ ]

nothing_known : (p : Capability) → Decides false (Contains [] p)
nothing_known p = ((λ e. absurd (false≢true e)), (λ c. Contains-none p c))

principal_age : Capability
principal_age = (form.Variable variable.Principal, codes "age")

age_known : Decides true (Contains (principal_age ∷ []) principal_age)
age_known = ((λ e. Contains-here principal_age []), (λ c. refl))

has_age_typed : Types environment [] Example.has_age Types.boolean_type ((form.Variable variable.Principal, codes "age") ∷ [])
has_age_typed = Typing.types_has (form.Variable variable.Principal) (codes "age") (Typing.types_variable variable.Principal) (nothing_known _) refl

pub something_is_typed : SomethingIsTyped
unfolding principal_age
something_is_typed =
    Typing.and_of_both Example.has_age Example.is_aged has_age_typed Rows.perhaps
    (Typing.types_binary binary.Less (form.Literal (literal.Long (pos 0))) (form.Field (form.Variable variable.Principal) (codes "age")) (unsettled _ _)
    (Typing.types_literal (literal.Long (pos 0)))
    (Typing.types_field (form.Variable variable.Principal) (codes "age") (Typing.types_variable variable.Principal) age_known refl) refl)
    Types.is_either

pub something_is_faulty : SomethingIsFaulty
something_is_faulty =
    Faults.fault_right_of_or Example.has_age Example.is_aged has_age_typed Rows.perhaps_not
    (Faults.fault_in_operand (Faults.of_binary binary.Less (form.Literal (literal.Long (pos 0))) (form.Field (form.Variable variable.Principal) (codes "age")) (unsettled _ _))
    (Faults.fault_later (Typing.types_literal (literal.Long (pos 0)))
    (Faults.fault_here (Faults.fault_of_field (form.Variable variable.Principal) (codes "age") (Typing.types_variable variable.Principal) (nothing_known _) refl))))
