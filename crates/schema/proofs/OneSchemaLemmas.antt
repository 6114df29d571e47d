-- Bytes state one schema at most.
use Rattle.std.proofs.Common.{◌≡◌, ◌≢◌, ◌∙◌, Bool, true, false, ℕ, List, [], ◌∷◌, map, Option, Some, None, refl, sym}
use Rattle.std.proofs.Common.{ap, subst, inl, inr}
use Rattle.std.specs.Prelude.{Contains, IsTrue, IsSome, ◌↔◌}
use Rattle.std.specs.List.{AllByRecursion}
use Rattle.std.specs.List.Sorted.{IsStrictlySortedBy}
use Rattle.std.specs.Cmp.{IsTotalOrder, tied_itself}
use Rattle.std.specs.declared.cmp.Ordering.{Ordering}
use Rattle.std.specs.declared.cmp.Ordering.TheVariants.{Less, Equal}
use Rattle.std.proofs.lemmas.Cmp.{on_total}
use Rattle.values.specs.declared.entity_uid.EntityUid.{EntityUid}
use Rattle.ancestor_search.specs.Hierarchy.{AscendingListsAreOne}
use Rattle.ancestor_search.specs.Deciding.{Contains-here, Contains-there, Contains-cases, Contains-none}
use Rattle.schema_types.specs.Qualified.{Qualified}
use Rattle.schema_types.specs.Cedar.{Cedar}
use Rattle.schema_types.specs.Law.{OneWritten}
use Rattle.schema_reading.specs.DistinctNames.{AreApart}
use Rattle.schema_reading.specs.Qualifying.{ResolvedEntityType, ResolvedAppliesTo, ResolvedAction, ResolvedSchema}
use Rattle.schema_reading.specs.Laws as names
use Rattle.schema_reading.specs.Laws.{DeclaresOnce}
use Rattle.schema.specs.declared.parts.EnvironmentKey.{EnvironmentKey}
use Rattle.schema.specs.Schemas.{StatedSchema, EnvironmentOf, MatchesDeclarations, Applies, IsRecordOf, IsEnvironment, IsEnvironmentKey}
use Rattle.schema.specs.Schemas.{place_cmp}
use Rattle.schema.specs.inner.ByNaming.{OneParsed}
use Rattle.schema.proofs.PlaceLemmas.{place_cmp-IsTotalOrder}

-- ---- lists whose keys are apart

all_at : {A : Type 0} (P : A → Type 0) (ys : List A) (y : A) → AllByRecursion P ys → Contains ys y → P y
all_at P [] y a h = Contains-none y h
all_at P (x ∷ xs) y a h = elim (Contains-cases x xs y h) [
  | inl same ↦ subst P same a.0
  | inr later ↦ all_at P xs y a.1 later
]

contains_key : {A B : Type 0} (key : A → B) (xs : List A) (x : A) → Contains xs x → Contains (map key xs) (key x)
contains_key key [] x h = Contains-none x h
contains_key {B = B} key (y ∷ ys) x h = elim (Contains-cases y ys x h) [
  | inl same ↦ subst (λ (k : B). Contains (key y ∷ map key ys) k) (ap key same) (Contains-here (key y) (map key ys))
  | inr later ↦ Contains-there (key y) (map key ys) (key x) (contains_key key ys x later)
]

apart_same : {A B : Type 0} (key : A → B) (xs : List A) → AreApart (map key xs) → (e f : A) → Contains xs e → Contains xs f → key e ≡ key f → e ≡ f
apart_same key [] apart e f h k same = Contains-none e h
apart_same key (x ∷ xs) apart e f h k same = elim (Contains-cases x xs e h) [
  | inl here ↦ elim (Contains-cases x xs f k) [
    | inl too ↦ sym here ∙ too
    | inr later ↦ absurd (all_at (λ y. key x ≢ y) (map key xs) (key f) apart.0 (contains_key key xs f later) (ap key here ∙ same))
  ]
  | inr before ↦ elim (Contains-cases x xs f k) [
    | inl too ↦ absurd (all_at (λ y. key x ≢ y) (map key xs) (key e) apart.0 (contains_key key xs e before) (ap key too ∙ sym same))
    | inr later ↦ apart_same key xs apart.1 e f before later same
  ]
]

some_same : {A : Type 0} (x y : A) → Some x ≡ Some y → x ≡ y
some_same x y e = cc

is_none : {A : Type 0} {G : Type 0} (o : Option A) → o ≡ None → IsSome o → G
is_none None e h = absurd cc
is_none (Some x) e h = absurd cc

bool_same : (x y : Bool) → IsTrue x ↔ IsTrue y → x ≡ y
bool_same true y h = sym (h.0 refl)
bool_same false true h = h.1 refl
bool_same false false h = refl

contains_map : {A B : Type 0} (f : A → B) (xs : List A) (y : B) → Contains (map f xs) y → (x : A) × Contains xs x × (f x ≡ y)
contains_map f [] y h = Contains-none y h
contains_map f (x ∷ xs) y h = elim (Contains-cases (f x) (map f xs) y h) [
  | inl same ↦ (x, Contains-here x xs, same)
  | inr later ↦ let found = contains_map f xs y later in (found.0, Contains-there x xs found.0 found.1, found.2)
]

-- ---- ascending lists of the same items

module _ {X : Type 0} {R : X → X → Ordering} (total : IsTotalOrder R) where
  above_first : (x : X) (xs : List X) → IsStrictlySortedBy R (x ∷ xs) → (a : X) → Contains xs a → R x a ≡ Less
  unfolding IsStrictlySortedBy
  above_first x xs h a there = all_at (λ z. R x z ≡ Less) xs a h.0 there

  rest_ascends : (x : X) (xs : List X) → IsStrictlySortedBy R (x ∷ xs) → IsStrictlySortedBy R xs
  unfolding IsStrictlySortedBy
  rest_ascends x xs h = h.1

  not_below_itself : (x y : X) → x ≡ y → R x y ≡ Less → ⊥
  not_below_itself x y e less =
      let tied : R x x ≡ Equal = tied_itself total x in
      let below : R x x ≡ Less = subst (λ z. R x z ≡ Less) (sym e) less in
      cc (tied, below)

  first_same : (x : X) (xs : List X) (y : X) (ys : List X) → IsStrictlySortedBy R (x ∷ xs) → IsStrictlySortedBy R (y ∷ ys) → Contains (y ∷ ys) x → Contains (x ∷ xs) y → x ≡ y
  first_same x xs y ys h k there back = elim (Contains-cases y ys x there) [
    | inl e ↦ sym e
    | inr t ↦ elim (Contains-cases x xs y back) [
      | inl e ↦ e
      | inr u ↦ absurd (not_below_itself x x refl (total.trans x y x (above_first x xs h y u) (above_first y ys k x t)))
    ]
  ]

  rest_in : (x : X) (xs : List X) (y : X) (ys : List X) → IsStrictlySortedBy R (x ∷ xs) → x ≡ y → (a : X) → (Contains (x ∷ xs) a → Contains (y ∷ ys) a) → Contains xs a → Contains ys a
  rest_in x xs y ys h e a goes there = elim (Contains-cases y ys a (goes (Contains-there x xs a there))) [
    | inl same ↦ absurd (not_below_itself x a (e ∙ same) (above_first x xs h a there))
    | inr t ↦ t
  ]

  lists_are_one : (xs ys : List X) → IsStrictlySortedBy R xs → IsStrictlySortedBy R ys → ((a : X) → Contains xs a ↔ Contains ys a) → xs ≡ ys
  lists_are_one [] [] h k same = refl
  lists_are_one [] (y ∷ ys) h k same = Contains-none y ((same y).1 (Contains-here y ys))
  lists_are_one (x ∷ xs) [] h k same = Contains-none x ((same x).0 (Contains-here x xs))
  lists_are_one (x ∷ xs) (y ∷ ys) h k same =
      let first : x ≡ y = first_same x xs y ys h k ((same x).0 (Contains-here x xs)) ((same y).1 (Contains-here y ys)) in
      let rest : xs ≡ ys = lists_are_one xs ys (rest_ascends x xs h) (rest_ascends y ys k) (λ a. (rest_in x xs y ys h first a (same a).0, rest_in y ys x xs k (sym first) a (same a).1)) in
      λ i. first i ∷ rest i

-- ---- environments in order of their places

abbrev environment_cmp : EnvironmentOf → EnvironmentOf → Ordering
environment_cmp e f = place_cmp e.place f.place

environment_cmp-IsTotalOrder : IsTotalOrder environment_cmp
environment_cmp-IsTotalOrder = on_total (λ e. e.place) place_cmp-IsTotalOrder

all_below : (p : EnvironmentKey) (es : List EnvironmentOf) → AllByRecursion (λ q. place_cmp p q ≡ Less) (map (λ e. e.place) es) → AllByRecursion (λ e. place_cmp p e.place ≡ Less) es
all_below p [] h = h
all_below p (e ∷ es) h = (h.0, all_below p es h.1)

in_order : (es : List EnvironmentOf) → IsStrictlySortedBy place_cmp (map (λ e. e.place) es) → IsStrictlySortedBy environment_cmp es
unfolding IsStrictlySortedBy
in_order [] h = h
in_order (e ∷ es) h = (all_below e.place es h.0, in_order es h.1)

module _ (one : OneWritten) (lists : AscendingListsAreOne) (s : ResolvedSchema) (once : DeclaresOnce s) where
  record_same : (o : Option Qualified) (t u : Cedar) → IsRecordOf s.commons o t → IsRecordOf s.commons o u → t ≡ u
  record_same None t u a b = a ∙ sym b
  record_same (Some r) t u a b = one s.commons once.commons r t u a b

  use_same : (p : EnvironmentKey) (x y : ResolvedAppliesTo) → Applies s p x → Applies s p y → x ≡ y
  use_same p x y a b =
      let action = apart_same (λ (z : ResolvedAction). z.uid) s.actions once.actions a.action b.action a.declared b.declared (a.is ∙ sym b.is) in
      some_same x y (sym a.applies ∙ ap (λ (z : ResolvedAction). z.applies_to) action ∙ b.applies)

  environment_same : (e f : EnvironmentOf) → e.place ≡ f.place → IsEnvironment s e → IsEnvironment s f → e ≡ f
  environment_same e f at (x, a, is) (y, b, is') =
      let uses = use_same f.place x y (subst (λ (p : EnvironmentKey). Applies s p x) at a) b in
      let contexts = record_same y.context e.context f.context (subst (λ (z : ResolvedAppliesTo). IsRecordOf s.commons z.context e.context) uses is) is' in
      λ i. record { place = at i; context = contexts i }

  there : (fs : List EnvironmentOf) → ((e : EnvironmentOf) → Contains fs e → IsEnvironment s e) → ((p : EnvironmentKey) → IsEnvironmentKey s p → Contains (map (λ e. e.place) fs) p)
      → (e : EnvironmentOf) → IsEnvironment s e → Contains fs e
  there fs are all e is =
      let at = contains_map (λ (x : EnvironmentOf). x.place) fs e.place (all e.place (is.0, is.1)) in
      subst (λ (x : EnvironmentOf). Contains fs x) (environment_same at.0 e at.2 (are at.0 at.1) is) at.1

  one_list : (es fs : List EnvironmentOf) → ((e : EnvironmentOf) → Contains es e → IsEnvironment s e) → ((e : EnvironmentOf) → Contains fs e → IsEnvironment s e)
      → ((p : EnvironmentKey) → IsEnvironmentKey s p → Contains (map (λ e. e.place) es) p) → ((p : EnvironmentKey) → IsEnvironmentKey s p → Contains (map (λ e. e.place) fs) p)
      → IsStrictlySortedBy place_cmp (map (λ e. e.place) es) → IsStrictlySortedBy place_cmp (map (λ e. e.place) fs) → es ≡ fs
  one_list es fs are are' all all' ordered ordered' =
      lists_are_one environment_cmp-IsTotalOrder es fs (in_order es ordered) (in_order fs ordered')
      (λ e. ((λ h. there fs are' all' e (are e h)), (λ h. there es are all e (are' e h))))

  module _ (v w : StatedSchema) (a : MatchesDeclarations s v) (b : MatchesDeclarations s w) where
    shape_same : (n : List ℕ) (o p : Option Cedar) → v.shape n ≡ o → w.shape n ≡ p → o ≡ p
    shape_same n None None e f = refl
    shape_same n (Some t) None e f =
        let x = a.shapes n t e in
        is_none (w.shape n) f (subst (λ (m : List ℕ). IsSome (w.shape m)) x.2 (b.all_shapes x.0 x.1))
    shape_same n None (Some u) e f =
        let x = b.shapes n u f in
        is_none (v.shape n) e (subst (λ (m : List ℕ). IsSome (v.shape m)) x.2 (a.all_shapes x.0 x.1))
    shape_same n (Some t) (Some u) e f =
        let x = a.shapes n t e in
        let y = b.shapes n u f in
        let same = apart_same (λ (z : ResolvedEntityType). z.name) s.entity_types once.entity_types x.0 y.0 x.1 y.1 (x.2 ∙ sym y.2) in
        ap (λ (z : Cedar). Some z) (record_same y.0.shape t u (subst (λ (z : ResolvedEntityType). IsRecordOf s.commons z.shape t) same x.3) y.3)

    member_of_same : (u : EntityUid) (o p : Option (List EntityUid)) → v.member_of u ≡ o → w.member_of u ≡ p → o ≡ p
    member_of_same u None None e f = refl
    member_of_same u (Some us) None e f = is_none (w.member_of u) f (b.all_member_of u (a.member_of u us e).0)
    member_of_same u None (Some us) e f = is_none (v.member_of u) e (a.all_member_of u (b.member_of u us f).0)
    member_of_same u (Some us) (Some vs) e f = ap (λ (z : List EntityUid). Some z) ((a.member_of u us e).1 ∙ sym (b.member_of u vs f).1)

    ancestors_same : (u : EntityUid) (o p : Option (List EntityUid)) → v.ancestors u ≡ o → w.ancestors u ≡ p → o ≡ p
    ancestors_same u None None e f = refl
    ancestors_same u (Some us) None e f = is_none (w.ancestors u) f (b.all_ancestors u (a.ancestors u us e).0)
    ancestors_same u None (Some us) e f = is_none (v.ancestors u) e (a.all_ancestors u (b.ancestors u us f).0)
    ancestors_same u (Some us) (Some vs) e f =
        let x = a.ancestors u us e in
        let y = b.ancestors u vs f in
        ap (λ (z : List EntityUid). Some z) (lists us vs x.1 y.1 (λ q. ((λ h. (y.2 q).1 ((x.2 q).0 h)), (λ h. (x.2 q).1 ((y.2 q).0 h)))))

    actions_same : v.actions ≡ w.actions
    actions_same = lists v.actions w.actions a.actions_ascend b.actions_ascend (λ q. ((λ h. (b.actions q).1 ((a.actions q).0 h)), (λ h. (a.actions q).1 ((b.actions q).0 h))))

    parents_same : (child above : List ℕ) → v.may_have_parent child above ≡ w.may_have_parent child above
    parents_same child above =
        let x = a.parents child above in
        let y = b.parents child above in
        bool_same (v.may_have_parent child above) (w.may_have_parent child above) ((λ h. y.1 (x.0 h)), (λ h. x.1 (y.0 h)))

    one_answer : v.label ≡ w.label → v ≡ w
    one_answer labels =
        let together = one_list v.environments w.environments a.environments b.environments a.all_environments b.all_environments a.environments_ascend b.environments_ascend in
        λ i. record {
          label = labels i;
          environments = together i;
          actions = actions_same i;
          shape = λ n. shape_same n (v.shape n) (w.shape n) refl refl i;
          member_of = λ u. member_of_same u (v.member_of u) (w.member_of u) refl refl i;
          ancestors = λ u. ancestors_same u (v.ancestors u) (w.ancestors u) refl refl i;
          may_have_parent = λ child above. parents_same child above i;
        }

pub one_schema : OneWritten → names.FilesDeclareOnce → AscendingListsAreOne → names.OneFile → OneParsed
one_schema one once lists file bytes v w a b =
    let same = file bytes a.named b.named a.states b.states in
    one_answer one lists b.named (once bytes b.named b.states) v w (subst (λ (s : ResolvedSchema). MatchesDeclarations s v) same a.answers) b.answers (a.label ∙ sym b.label)
