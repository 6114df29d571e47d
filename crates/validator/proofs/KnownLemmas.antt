-- The checks of the walk decide whether a schema declares a name.
use Rattle.std.specs.Prelude.{◌≡◌, ℕ, List, [], ◌∷◌, Contains, All, IsTrue, IsFalse, is_some, ◌||◌, Bool, true, false}
use Rattle.std.specs.Prelude.{if◌then◌else◌, Ok, Err, refl}
use Rattle.std.specs.Bool.{Decides, one_answer}
use Rattle.std.specs.List.{list_any}
use Rattle.std.specs.Str.{bytes_eq}
use Rattle.std.specs.Cmp.{eq_by_cmp_equiv}
use Rattle.std.proofs.Common.{sym, ap, ◌∙◌, inl, inr, arith, zero, suc}
use Rattle.std.proofs.lemmas.Bool.{false≢true, or_cases, or_left, or_right}
use Rattle.std.proofs.lemmas.List.Elements.{All-nil, All-cons, All-head, All-tail}
use Rattle.std.proofs.lemmas.Map.Views.{Contains-from_any, list_any-from_Contains, tells_apart}
use Rattle.std.proofs.lemmas.Slice.Eq.{bytes_eq-Decides}
use Rattle.values.specs.declared.entity_uid.EntityUid.{EntityUid}
use Rattle.values.specs.Names.{uid_cmp-IsTotalOrder, uid_cmp-IsAntisymmetric}
use Rattle.type_checker.specs.schema.Schemas.{StatedSchema}
use Rattle.type_checker.specs.schema.WellFormed.{IsWellFormed}
use Rattle.type_checker.specs.entities.Entities.{is_action_type}
use Rattle.type_checker.specs.typing.declared.fault.TypeFault.{TypeFault}
use Rattle.type_checker.specs.typing.declared.fault.TypeFault.TheVariants.{UnknownType, UnknownAction}
use Rattle.validator.specs.Names.{Name, tested_type, entity}
use Rattle.validator.specs.Unknown
use Rattle.validator.specs.Unknown.{IsEntityType, IsTypeOfAction, IsUnknown, IsKnown, FirstUnknown}
use Rattle.validator.specs.inner.Walking.{WalkResult, and_then, or_fault, is_type_of_action, is_declared_action}
use Rattle.validator.specs.inner.Walking.{action_check, other_check, name_check, names_check}

-- ---- actions

pub declared_holds : (s : StatedSchema) (u : EntityUid) → Decides (is_declared_action s u) (Contains s.actions u)
declared_holds s u = (
  Contains-from_any (tells_apart uid_cmp-IsAntisymmetric) u s.actions,
  list_any-from_Contains (eq_by_cmp_equiv uid_cmp-IsTotalOrder) u s.actions,
)

-- the declared actions are those whose parents are stated
pub has_parents : (s : StatedSchema) → IsWellFormed s → (u : EntityUid) → is_some (s.member_of u) ≡ is_declared_action s u
has_parents s w u = one_answer _ _ ((w.actions_stated u).1, (w.actions_stated u).0) (declared_holds s u)

-- some member passes
any_found : {X : Type 0} (test : X → Bool) (xs : List X) → list_any test xs ≡ true → (x : X) × Contains xs x × (test x ≡ true)
any_found test [] e = absurd (false≢true e)
any_found test (x ∷ xs) e = elim (or_cases (test x) (list_any test xs) e) [
  | inl t ↦ (x, (0, omega arith, refl), t)
  | inr t ↦ let h = any_found test xs t in let m = h.1 in (h.0, (suc m.0, omega arith, m.2), h.2)
]

any_passes : {X : Type 0} (test : X → Bool) (xs : List X) (x : X) → Contains xs x → test x ≡ true → list_any test xs ≡ true
any_passes test [] x m t = absurd (omega (arith, m.1))
any_passes test (y ∷ ys) x (zero, lt, e) t = or_left (test y) (list_any test ys) (ap test e ∙ t)
any_passes test (y ∷ ys) x (suc k, lt, e) t = or_right (test y) (list_any test ys) (any_passes test ys x (k, omega arith, e) t)

type_of_action_holds : (s : StatedSchema) (n : List ℕ) → Decides (is_type_of_action s n) (IsTypeOfAction s n)
type_of_action_holds s n = (
  λ e. let h = any_found (λ (u : EntityUid). bytes_eq u.type_name n) s.actions e in (h.0, h.1, (bytes_eq-Decides h.0.type_name n).0 h.2),
  λ h. any_passes (λ (u : EntityUid). bytes_eq u.type_name n) s.actions h.0 h.1 ((bytes_eq-Decides h.0.type_name n).1 h.2),
)

-- ---- one name

-- the result of checking a name, by the definitions
abbrev pub ReportsName : StatedSchema → Name → WalkResult → Type 0
ReportsName s n (Ok u) = IsKnown s n
ReportsName s n (Err f) = IsUnknown s n f

abbrev pub ReportsNames : StatedSchema → List Name → WalkResult → Type 0
ReportsNames s ns (Ok u) = All (IsKnown s) ns
ReportsNames s ns (Err f) = FirstUnknown s ns f

not_tested : {s : StatedSchema} {n : List ℕ} {f : TypeFault} → IsUnknown s (tested_type n) f
    → ¬ IsEntityType s n × ¬ IsTypeOfAction s n
not_tested (Unknown.unknown_tested_type n e a) = (e, a)

not_entity : {s : StatedSchema} {u : EntityUid} {f : TypeFault} → IsUnknown s (entity u) f → IsTrue (is_action_type u.type_name)
    → ¬ Contains s.actions u
not_entity (Unknown.unknown_type u i n) t = absurd (false≢true (sym i ∙ t))
not_entity (Unknown.unknown_action u i n) t = n

not_other : {s : StatedSchema} {u : EntityUid} {f : TypeFault} → IsUnknown s (entity u) f → IsFalse (is_action_type u.type_name)
    → ¬ IsEntityType s u.type_name
not_other (Unknown.unknown_type u i n) t = n
not_other (Unknown.unknown_action u i n) t = absurd (false≢true (sym t ∙ i))

tested_case : (s : StatedSchema) (n : List ℕ) (a b : Bool) → is_some (s.shape n) ≡ a → is_type_of_action s n ≡ b
    → ReportsName s (tested_type n) (or_fault UnknownType (a || b))
tested_case s n true b e g = λ f h. (not_tested h).0 e
tested_case s n false true e g = λ f h. (not_tested h).1 ((type_of_action_holds s n).0 g)
tested_case s n false false e g =
    Unknown.unknown_tested_type n (λ t. false≢true (sym e ∙ t)) (λ t. false≢true (sym g ∙ (type_of_action_holds s n).1 t))

action_case : (s : StatedSchema) (u : EntityUid) → IsTrue (is_action_type u.type_name) → (b : Bool) → is_declared_action s u ≡ b
    → ReportsName s (entity u) (or_fault UnknownAction b)
action_case s u i true e = λ f h. not_entity h i ((declared_holds s u).0 e)
action_case s u i false e = Unknown.unknown_action u i (λ m. false≢true (sym e ∙ (declared_holds s u).1 m))

other_case : (s : StatedSchema) (u : EntityUid) → IsFalse (is_action_type u.type_name) → (b : Bool) → is_some (s.shape u.type_name) ≡ b
    → ReportsName s (entity u) (or_fault UnknownType b)
other_case s u i true e = λ f h. not_other h i e
other_case s u i false e = Unknown.unknown_type u i (λ t. false≢true (sym e ∙ t))

entity_case : (s : StatedSchema) (u : EntityUid) (a : Bool) → is_action_type u.type_name ≡ a
    → ReportsName s (entity u) (if a then action_check s u else other_check s u)
entity_case s u true i = action_case s u i (is_declared_action s u) refl
entity_case s u false i = other_case s u i (is_some (s.shape u.type_name)) refl

pub name_tells : (s : StatedSchema) (n : Name) → ReportsName s n (name_check s n)
name_tells s (tested_type n) = tested_case s n (is_some (s.shape n)) (is_type_of_action s n) refl refl
name_tells s (entity u) = entity_case s u (is_action_type u.type_name) refl

-- a name has one error at most
one_cause : (s : StatedSchema) (n : Name) (f g : TypeFault) → IsUnknown s n f → IsUnknown s n g → f ≡ g
one_cause s n f g (Unknown.unknown_tested_type m a b) (Unknown.unknown_tested_type l c d) = refl
one_cause s n f g (Unknown.unknown_type u i a) (Unknown.unknown_type v j b) = refl
one_cause s n f g (Unknown.unknown_type u i a) (Unknown.unknown_action v j b) = absurd (false≢true (sym i ∙ j))
one_cause s n f g (Unknown.unknown_action u i a) (Unknown.unknown_type v j b) = absurd (false≢true (sym j ∙ i))
one_cause s n f g (Unknown.unknown_action u i a) (Unknown.unknown_action v j b) = refl

-- ---- several names

more_tell : (s : StatedSchema) (n : Name) (ns : List Name) (r q : WalkResult) → ReportsName s n r → ReportsNames s ns q → ReportsNames s (n ∷ ns) (and_then r q)
more_tell s n ns (Ok u) (Ok v) h g = All-cons (IsKnown s) n ns h g
more_tell s n ns (Ok u) (Err f) h g = Unknown.unknown_later h g
more_tell s n ns (Err f) q h g = Unknown.unknown_here h

pub names_tell : (s : StatedSchema) (ns : List Name) → ReportsNames s ns (names_check s ns)
names_tell s [] = All-nil (IsKnown s)
names_tell s (n ∷ ns) = more_tell s n ns (name_check s n) (names_check s ns) (name_tells s n) (names_tell s ns)

-- the first undeclared name has one error at most
pub one_first : (s : StatedSchema) (ns : List Name) (f g : TypeFault) → FirstUnknown s ns f → FirstUnknown s ns g → f ≡ g
one_first s [] f g h k = elim h [ ]
one_first s (n ∷ ns) f g (Unknown.unknown_here h) (Unknown.unknown_here k) = one_cause s n f g h k
one_first s (n ∷ ns) f g (Unknown.unknown_here h) (Unknown.unknown_later k l) = absurd (k f h)
one_first s (n ∷ ns) f g (Unknown.unknown_later h l) (Unknown.unknown_here k) = absurd (h g k)
one_first s (n ∷ ns) f g (Unknown.unknown_later h l) (Unknown.unknown_later k m) = one_first s ns f g l m

-- if all names are declared, there is no first undeclared one
pub none_first : (s : StatedSchema) (ns : List Name) (f : TypeFault) → All (IsKnown s) ns → FirstUnknown s ns f → ⊥
none_first s [] f h k = elim k [ ]
none_first s (n ∷ ns) f h (Unknown.unknown_here k) = All-head (IsKnown s) n ns h f k
none_first s (n ∷ ns) f h (Unknown.unknown_later k l) = none_first s ns f (All-tail (IsKnown s) n ns h) l
