-- The parts of a file agree with their relations.
use Rattle.std.proofs.Common.{◌≡◌, ◌∙◌, ℕ, List, [], ◌∷◌, Option, Some, None, Result, refl, ap, subst, inl, inr}
use Rattle.std.specs.Prelude.{◌⊎◌, ⊤, Contains}
use Rattle.std.specs.List.{AllZip}
use Rattle.serde_json.specs.Data.{Data, Items, Members, no_members, member}
use Rattle.serde_json.specs.Data as json
use Rattle.serde_json.specs.Find.{get, as_array, as_object}
use Rattle.json_words.specs.ReadsAs.{◌>>=◌, or_fault, demand}
use Rattle.json_words.specs.Each.{each, list_of, each_member}
use Rattle.json_words.specs.Keys.{has_only}
use Rattle.schema_types.specs.Optional.{unless_null, present, optional}
use Rattle.schema_types.specs.declared.fault.SchemaFault.{SchemaFault}
use Rattle.schema_types.specs.declared.fault.SchemaFault.TheVariants.{BadShape}
use Rattle.schema.specs.ObjectKeys.{HasOnly, HasOther, IsAbsent}
use Rattle.schema.specs.ObjectKeys as keys
use Rattle.schema.specs.ObjectParts.{HasAt, GivenAt, NotGivenAt, MaybeAt, ListAt, WrongAt, IsArrayOf, IsNoArrayOf, DescribeEach, HasMember, IsObjectOf, IsNoObjectOf}
use Rattle.schema.specs.ObjectParts as says
use Rattle.schema.proofs.Steps.{done, failed}
use Rattle.schema.proofs.KeysRead.{is_only, is_other, keys_known}
use Rattle.schema.proofs.Agree.{Agrees, said_as, two_steps, each_agrees}

-- ---- keys

only_demanded : (ks : List (List ℕ)) (d : Data) (u : ⊤) → HasOnly ks d → demand BadShape (has_only ks d) ≡ done u
only_demanded ks d u h = ap (demand BadShape) (is_only ks d h)

keys_by : (ks : List (List ℕ)) (d : Data) → HasOnly ks d ⊎ HasOther ks d → ((u : ⊤) × HasOnly ks d) ⊎ HasOther ks d
keys_by ks d (inl h) = inl (tt, h)
keys_by ks d (inr n) = inr n

pub keys_agree : (ks : List (List ℕ)) (d : Data) → Agrees BadShape (demand BadShape (has_only ks d)) (λ u. HasOnly ks d) (HasOther ks d)
keys_agree ks d = record {
  states = only_demanded ks d;
  fails = λ n. ap (demand BadShape) (is_other ks d n);
  known = keys_by ks d (keys_known ks d);
}

-- ---- what stands at a key

kept : (d : Data) → (d ≡ json.null → ⊥) → unless_null d ≡ Some d
kept json.null h = absurd (h refl)
kept (json.boolean b) h = refl
kept (json.number n) h = refl
kept (json.string s) h = refl
kept (json.array ds) h = refl
kept (json.object ms) h = refl

has_is : (k : List ℕ) (d found : Data) → HasAt k d found → optional k d ≡ Some found
has_is k d found h = ap present h.stands ∙ kept found h.counts

pub absent_is : (k : List ℕ) (d : Data) → IsAbsent k d → optional k d ≡ None
absent_is k d (keys.nothing at) = ap present at
absent_is k d (keys.is_null at) = ap present at

abbrev StandsOrNot : List ℕ → Data → Type 0
StandsOrNot k d = ((found : Data) × HasAt k d found) ⊎ IsAbsent k d

stands_by : (k : List ℕ) (d : Data) (o : Option Data) → get k d ≡ o → StandsOrNot k d
stands_by k d None at = inr (keys.nothing at)
stands_by k d (Some json.null) at = inr (keys.is_null at)
stands_by k d (Some (json.boolean b)) at = inl (json.boolean b, record { stands = at; counts = λ e. absurd cc })
stands_by k d (Some (json.number n)) at = inl (json.number n, record { stands = at; counts = λ e. absurd cc })
stands_by k d (Some (json.string s)) at = inl (json.string s, record { stands = at; counts = λ e. absurd cc })
stands_by k d (Some (json.array ds)) at = inl (json.array ds, record { stands = at; counts = λ e. absurd cc })
stands_by k d (Some (json.object ms)) at = inl (json.object ms, record { stands = at; counts = λ e. absurd cc })

stands_or_not : (k : List ℕ) (d : Data) → StandsOrNot k d
stands_or_not k d = stands_by k d (get k d) refl

-- a part of a list or a value at an optional key
module _ {A : Type 0} (g : Option Data → Result (Option A) SchemaFault) (read : Data → Result A SchemaFault) (Describes : Data → A → Type 0) (IsNone : Data → Type 0)
    (none : g None ≡ done None) (some : (d : Data) → g (Some d) ≡ (read d >>= λ x. done (Some x))) (k : List ℕ) (d : Data) (one : (d : Data) → Agrees BadShape (read d) (Describes d) (IsNone d)) where
  maybe_states : (o : Option A) → MaybeAt Describes k d o → g (optional k d) ≡ done o
  maybe_states o (says.stands found x has h) =
      ap g (has_is k d found has) ∙ some found ∙ ap (λ (r : Result A SchemaFault). r >>= λ y. done (Some y)) ((one found).states x h)
  maybe_states o (says.absent h) = ap g (absent_is k d h) ∙ none

  maybe_fails : WrongAt IsNone k d → g (optional k d) ≡ failed BadShape
  maybe_fails h = ap g (has_is k d h.found h.has) ∙ some h.found ∙ ap (λ (r : Result A SchemaFault). r >>= λ y. done (Some y)) ((one h.found).fails h.wrong)

  maybe_found : (found : Data) → HasAt k d found → ((x : A) × Describes found x) ⊎ IsNone found → ((o : Option A) × MaybeAt Describes k d o) ⊎ WrongAt IsNone k d
  maybe_found found has (inl h) = inl (Some h.0, says.stands found h.0 has h.1)
  maybe_found found has (inr n) = inr (record { found = found; has = has; wrong = n })

  maybe_known : StandsOrNot k d → ((o : Option A) × MaybeAt Describes k d o) ⊎ WrongAt IsNone k d
  maybe_known (inl h) = maybe_found h.0 h.1 (one h.0).known
  maybe_known (inr h) = inl (None, says.absent h)

  pub maybe_agrees : Agrees BadShape (g (optional k d)) (MaybeAt Describes k d) (WrongAt IsNone k d)
  maybe_agrees = record { states = maybe_states; fails = maybe_fails; known = maybe_known (stands_or_not k d) }

module _ {A : Type 0} (g : Option Data → Result (List A) SchemaFault) (Describes : Data → List A → Type 0) (IsNone : Data → Type 0)
    (none : g None ≡ done []) (k : List ℕ) (d : Data) (one : (d : Data) → Agrees BadShape (g (Some d)) (Describes d) (IsNone d)) where
  list_states : (xs : List A) → ListAt Describes k d xs → g (optional k d) ≡ done xs
  list_states xs (says.stands found ys has h) = ap g (has_is k d found has) ∙ (one found).states ys h
  list_states xs (says.absent h) = ap g (absent_is k d h) ∙ none

  list_fails : WrongAt IsNone k d → g (optional k d) ≡ failed BadShape
  list_fails h = ap g (has_is k d h.found h.has) ∙ (one h.found).fails h.wrong

  list_found : (found : Data) → HasAt k d found → ((x : List A) × Describes found x) ⊎ IsNone found → ((xs : List A) × ListAt Describes k d xs) ⊎ WrongAt IsNone k d
  list_found found has (inl h) = inl (h.0, says.stands found h.0 has h.1)
  list_found found has (inr n) = inr (record { found = found; has = has; wrong = n })

  list_known : StandsOrNot k d → ((xs : List A) × ListAt Describes k d xs) ⊎ WrongAt IsNone k d
  list_known (inl h) = list_found h.0 h.1 (one h.0).known
  list_known (inr h) = inl ([], says.absent h)

  pub list_agrees : Agrees BadShape (g (optional k d)) (ListAt Describes k d) (WrongAt IsNone k d)
  list_agrees = record { states = list_states; fails = list_fails; known = list_known (stands_or_not k d) }

module _ {A : Type 0} (read : Data → Result A SchemaFault) (Describes : Data → A → Type 0) (IsNone : Data → Type 0)
    (k : List ℕ) (d : Data) (one : (d : Data) → Agrees BadShape (read d) (Describes d) (IsNone d)) where
  abbrev at_key : Option Data → Result A SchemaFault
  at_key o = or_fault BadShape o >>= read

  given_states : (x : A) → GivenAt Describes k d x → at_key (get k d) ≡ done x
  given_states x h = ap at_key h.stands ∙ (one h.found).states x h.states

  given_fails : NotGivenAt IsNone k d → at_key (get k d) ≡ failed BadShape
  given_fails (says.nothing at) = ap at_key at
  given_fails (says.wrong found at n) = ap at_key at ∙ (one found).fails n

  given_found : (found : Data) → get k d ≡ Some found → ((x : A) × Describes found x) ⊎ IsNone found → ((x : A) × GivenAt Describes k d x) ⊎ NotGivenAt IsNone k d
  given_found found at (inl h) = inl (h.0, record { found = found; stands = at; states = h.1 })
  given_found found at (inr n) = inr (says.wrong found at n)

  given_known : (o : Option Data) → get k d ≡ o → ((x : A) × GivenAt Describes k d x) ⊎ NotGivenAt IsNone k d
  given_known None at = inr (says.nothing at)
  given_known (Some found) at = given_found found at (one found).known

  pub given_agrees : Agrees BadShape (or_fault BadShape (get k d) >>= read) (GivenAt Describes k d) (NotGivenAt IsNone k d)
  given_agrees = record { states = given_states; fails = given_fails; known = given_known (get k d) refl }

-- ---- arrays

abbrev ArrayOrNot : Data → Type 0
ArrayOrNot d = ((ds : Items) × (d ≡ json.array ds)) ⊎ ((ds : Items) → d ≡ json.array ds → ⊥)

array_or_not : (d : Data) → ArrayOrNot d
array_or_not json.null = inr (λ ds e. absurd cc)
array_or_not (json.boolean b) = inr (λ ds e. absurd cc)
array_or_not (json.number n) = inr (λ ds e. absurd cc)
array_or_not (json.string s) = inr (λ ds e. absurd cc)
array_or_not (json.array ds) = inl (ds, refl)
array_or_not (json.object ms) = inr (λ ds e. absurd cc)

no_array_is : (d : Data) → ((ds : Items) → d ≡ json.array ds → ⊥) → as_array d ≡ None
no_array_is json.null none = refl
no_array_is (json.boolean b) none = refl
no_array_is (json.number n) none = refl
no_array_is (json.string s) none = refl
no_array_is (json.array ds) none = absurd (none ds refl)
no_array_is (json.object ms) none = refl

module _ {A : Type 0} (f : ℕ → Data → Result A SchemaFault) (Describes : Data → A → Type 0) (IsNone : Data → Type 0) (one : (i : ℕ) (d : Data) → Agrees BadShape (f i d) (Describes d) (IsNone d)) where
  abbrev ItemsAgree : Items → Type 0
  ItemsAgree ds = Agrees BadShape (each f 0 (list_of ds)) (AllZip Describes (list_of ds)) ((d : Data) × Contains (list_of ds) d × IsNone d)

  items_agree : (ds : Items) → ItemsAgree ds
  items_agree ds = each_agrees BadShape f Describes IsNone one 0 (list_of ds)

  abbrev in_array : Option Items → Result (List A) SchemaFault
  in_array o = or_fault BadShape o >>= λ ds. each f 0 (list_of ds)

  array_states : (d : Data) (xs : List A) → IsArrayOf Describes d xs → in_array (as_array d) ≡ done xs
  array_states d xs h = ap (λ (e : Data). in_array (as_array e)) h.is_array ∙ (items_agree h.items).states xs h.state

  array_fails : (d : Data) → IsNoArrayOf IsNone d → in_array (as_array d) ≡ failed BadShape
  array_fails d (says.no_array none) = ap in_array (no_array_is d none)
  array_fails d (says.wrong_item ds found at stands n) = ap (λ (e : Data). in_array (as_array e)) at ∙ (items_agree ds).fails (found, stands, n)

  array_found : (d : Data) (ds : Items) → d ≡ json.array ds → ((xs : List A) × AllZip Describes (list_of ds) xs) ⊎ ((e : Data) × Contains (list_of ds) e × IsNone e)
      → ((xs : List A) × IsArrayOf Describes d xs) ⊎ IsNoArrayOf IsNone d
  array_found d ds at (inl h) = inl (h.0, record { items = ds; is_array = at; state = h.1 })
  array_found d ds at (inr n) = inr (says.wrong_item ds n.0 at n.1 n.2)

  array_known : (d : Data) → ArrayOrNot d → ((xs : List A) × IsArrayOf Describes d xs) ⊎ IsNoArrayOf IsNone d
  array_known d (inl h) = array_found d h.0 h.1 (items_agree h.0).known
  array_known d (inr none) = inr (says.no_array none)

  pub array_agrees : (d : Data) → Agrees BadShape (or_fault BadShape (as_array d) >>= λ ds. each f 0 (list_of ds)) (IsArrayOf Describes d) (IsNoArrayOf IsNone d)
  array_agrees d = record { states = array_states d; fails = array_fails d; known = array_known d (array_or_not d) }

-- ---- objects

abbrev ObjectOrNot : Data → Type 0
ObjectOrNot d = ((ms : Members) × (d ≡ json.object ms)) ⊎ ((ms : Members) → d ≡ json.object ms → ⊥)

object_or_not : (d : Data) → ObjectOrNot d
object_or_not json.null = inr (λ ds e. absurd cc)
object_or_not (json.boolean b) = inr (λ ds e. absurd cc)
object_or_not (json.number n) = inr (λ ds e. absurd cc)
object_or_not (json.string s) = inr (λ ds e. absurd cc)
object_or_not (json.array ds) = inr (λ ds e. absurd cc)
object_or_not (json.object ms) = inl (ms, refl)

no_object_is : (d : Data) → ((ms : Members) → d ≡ json.object ms → ⊥) → as_object d ≡ None
no_object_is json.null none = refl
no_object_is (json.boolean b) none = refl
no_object_is (json.number n) none = refl
no_object_is (json.string s) none = refl
no_object_is (json.array ds) none = refl
no_object_is (json.object ms) none = absurd (none ms refl)

module _ {A : Type 0} (f : List ℕ → Data → Result A SchemaFault) (Describes : List ℕ → Data → A → Type 0) (IsNone : List ℕ → Data → Type 0)
    (one : (k : List ℕ) (d : Data) → Agrees BadShape (f k d) (Describes k d) (IsNone k d)) where
  abbrev SomeWrong : Members → Type 0
  SomeWrong ms = (k : List ℕ) × (d : Data) × HasMember ms k d × IsNone k d

  abbrev Both : List ℕ → Data → Members → List A → Type 0
  Both k d ms zs = (x : A) × Describes k d x × ((xs : List A) × DescribeEach Describes ms xs × (x ∷ xs ≡ zs))

  both_to : (k : List ℕ) (d : Data) (ms : Members) (zs : List A) → Both k d ms zs → DescribeEach Describes (member k d ms) zs
  both_to k d ms zs (x, h, rest) = subst (DescribeEach Describes (member k d ms)) rest.2 (says.next_member k d ms x rest.0 h rest.1)

  both_from : (k : List ℕ) (d : Data) (ms : Members) (zs : List A) → DescribeEach Describes (member k d ms) zs → Both k d ms zs
  both_from k d ms zs (says.next_member l e ns x xs h rest) = (x, h, (xs, rest, refl))

  wrong_to : (k : List ℕ) (d : Data) (ms : Members) → IsNone k d ⊎ (SomeWrong ms ⊎ ⊥) → SomeWrong (member k d ms)
  wrong_to k d ms (inl n) = (k, d, says.first_member k d ms, n)
  wrong_to k d ms (inr (inl (l, e, stands, n))) = (l, e, says.later_member k d ms l e stands, n)
  wrong_to k d ms (inr (inr h)) = absurd h

  wrong_by : (k : List ℕ) (d : Data) (ms : Members) (l : List ℕ) (e : Data) → HasMember (member k d ms) l e → IsNone l e → IsNone k d ⊎ (SomeWrong ms ⊎ ⊥)
  wrong_by k d ms l e (says.first_member m x ns) n = inl n
  wrong_by k d ms l e (says.later_member o y ns m x stands) n = inr (inl (m, x, stands, n))

  wrong_from : (k : List ℕ) (d : Data) (ms : Members) → SomeWrong (member k d ms) → IsNone k d ⊎ (SomeWrong ms ⊎ ⊥)
  wrong_from k d ms (l, e, stands, n) = wrong_by k d ms l e stands n

  no_member_in : (k : List ℕ) (d : Data) → HasMember no_members k d → ⊥
  no_member_in k d h = elim h [ ]

  empty_states : (xs : List A) → DescribeEach Describes no_members xs → done {F = SchemaFault} [] ≡ done xs
  empty_states xs says.no_member = refl

  pub members_agree : (ms : Members) → Agrees BadShape (each_member f ms) (DescribeEach Describes ms) (SomeWrong ms)
  unfolding each_member
  members_agree no_members = record { states = empty_states; fails = λ h. absurd (no_member_in h.0 h.1 h.2); known = inl ([], says.no_member) }
  members_agree (member k d ms) =
      said_as (DescribeEach Describes (member k d ms)) (SomeWrong (member k d ms))
      (two_steps (λ (x : A) (xs : List A). x ∷ xs) (one k d) (members_agree ms))
      (both_to k d ms) (both_from k d ms) (wrong_to k d ms) (wrong_from k d ms)

  abbrev in_object : Option Members → Result (List A) SchemaFault
  in_object o = or_fault BadShape o >>= λ ms. each_member f ms

  object_states : (d : Data) (xs : List A) → IsObjectOf Describes d xs → in_object (as_object d) ≡ done xs
  object_states d xs h = ap (λ (e : Data). in_object (as_object e)) h.is_object ∙ (members_agree h.members).states xs h.state

  object_fails : (d : Data) → IsNoObjectOf IsNone d → in_object (as_object d) ≡ failed BadShape
  object_fails d (says.no_object none) = ap in_object (no_object_is d none)
  object_fails d (says.wrong_member ms k found at stands n) = ap (λ (e : Data). in_object (as_object e)) at ∙ (members_agree ms).fails (k, found, stands, n)

  object_found : (d : Data) (ms : Members) → d ≡ json.object ms → ((xs : List A) × DescribeEach Describes ms xs) ⊎ SomeWrong ms → ((xs : List A) × IsObjectOf Describes d xs) ⊎ IsNoObjectOf IsNone d
  object_found d ms at (inl h) = inl (h.0, record { members = ms; is_object = at; state = h.1 })
  object_found d ms at (inr n) = inr (says.wrong_member ms n.0 n.1 at n.2 n.3)

  object_known : (d : Data) → ObjectOrNot d → ((xs : List A) × IsObjectOf Describes d xs) ⊎ IsNoObjectOf IsNone d
  object_known d (inl h) = object_found d h.0 h.1 (members_agree h.0).known
  object_known d (inr none) = inr (says.no_object none)

  pub object_agrees : (d : Data) → Agrees BadShape (or_fault BadShape (as_object d) >>= λ ms. each_member f ms) (IsObjectOf Describes d) (IsNoObjectOf IsNone d)
  object_agrees d = record { states = object_states d; fails = object_fails d; known = object_known d (object_or_not d) }
