-- Lists of names, each of which is appended to those before it.
use Rattle.std.proofs.Common.{◌≡◌, ◌∙◌, ℕ, ◌+◌, ◌<◌, ◌≤◌, ◌==◌, Bool, true, false, List, [], ◌∷◌, ◌++◌, map, take, length, get_or, sym, ap, refl, arith}
use Rattle.std.specs.Prelude.{codes}
use Rattle.std.proofs.lemmas.Bool.Decides.{nat_tests}
use Rattle.std.proofs.lemmas.List.{append_assoc, append-nil, take_more, take_all, map-append}
use Rattle.std.specs.Borrow.{Bor}
use Rattle.schema_types.specs.declared.cedar.CedarType.{CedarType}
use Rattle.schema_types.specs.CedarViews.{cedar_fields_view}
use Rattle.type_checker.specs.FromSchemas.{static_fields}
use Rattle.type_checker.specs.Views.{leaf_view, static_view, static_step, built_fields}
use Rattle.type_checker.specs.declared.static_type.BooleanType.TheVariants as truth
use Rattle.type_checker.specs.declared.static_type.Leaf.{Leaf}
use Rattle.type_checker.specs.declared.static_type.Leaf.TheVariants as leaf
use Rattle.type_checker.specs.declared.static_type.StaticType.TheOpen.{StaticType-F}
use Rattle.type_checker.specs.declared.static_type.StaticType.TheVariants as variant
use Rattle.type_checker.specs.declared.static_type.StaticType.TheViews as shown
use Rattle.type_checker.specs.declared.static_type.StaticType.TheViews.{out-StaticType, roll-StaticType, roll-out-StaticType}
use Rattle.type_checker.specs.declared.static_type.StaticType.TheFolds.{fold-roll-StaticType}
use Rattle.type_checker.specs.declared.static_type.StaticType.{StaticType}
use Rattle.typing.specs.Types as types
use Rattle.typing.specs.Types.{FieldTypes}
use Rattle.fault_places.specs.Words.{field_names, fields_of, more_names, names_or}
use Rattle.fault_places.proofs.Appending.{in_turn}
use Rattle.fault_places.proofs.Listing.{leaf_is, declared_is, built_is}

-- what precedes a name after these
abbrev pub separator_in : List ℕ → List (List ℕ) → List ℕ
separator_in before [] = before
separator_in before (n ∷ ns) = codes ", "

more_at_end : (ns : List (List ℕ)) (n : List ℕ) → more_names (ns ++ n ∷ []) ≡ more_names ns ++ (codes ", " ++ n)
more_at_end [] n = append-nil (codes ", " ++ n)
more_at_end (m ∷ ns) n = ap (λ l. codes ", " ++ m ++ l) (more_at_end ns n) ∙ sym (append_assoc (codes ", " ++ m) (more_names ns) (codes ", " ++ n))

at_end : (before : List ℕ) (ns : List (List ℕ)) (n : List ℕ)
    → names_or [] before (ns ++ n ∷ []) ≡ names_or [] before ns ++ (separator_in before ns ++ n)
at_end before [] n = append-nil (before ++ n)
at_end before (m ∷ ns) n = ap (λ l. before ++ m ++ l) (more_at_end ns n) ∙ sym (append_assoc (before ++ m) (more_names ns) (codes ", " ++ n))

one_taken : {X : Type 0} (name : X → List ℕ) (xs : List X) (i : ℕ) (x : X) → i < length xs → x ≡ get_or xs i x
    → map name (take (i + 1) xs) ≡ map name (take i xs) ++ name x ∷ []
one_taken name xs i x below here =
    ap (map name) (take_more xs i x below ∙ ap (λ y. take i xs ++ y ∷ []) (sym here)) ∙ map-append name (take i xs) (x ∷ [])

-- one name more

pub one_named : {X : Type 0} (name : X → List ℕ) (before : List ℕ) (xs : List X) (i : ℕ) (x : X) (old mid sep new comma : List ℕ) → i < length xs
    → x ≡ get_or xs i x → mid ≡ old ++ names_or [] before (map name (take i xs)) → comma ≡ separator_in before (map name (take i xs)) → sep ≡ mid ++ comma
    → new ≡ sep ++ name x → new ≡ old ++ names_or [] before (map name (take (i + 1) xs))
one_named name before xs i x old mid sep new comma below here was is first second =
    let ns = map name (take i xs) in
    in_turn old mid new (names_or [] before ns) (separator_in before ns ++ name x) was
    (in_turn mid sep new (separator_in before ns) (name x) (first ∙ ap (λ l. mid ++ l) is) second)
    ∙ ap (λ l. old ++ l) (sym (at_end before ns (name x)) ∙ ap (names_or [] before) (sym (one_taken name xs i x below here)))

pub comma_behind : {X : Type 0} (name : X → List ℕ) (before : List ℕ) (xs : List X) (i : ℕ) (x : X) → i < length xs → x ≡ get_or xs i x
    → codes ", " ≡ separator_in before (map name (take (i + 1) xs))
comma_behind name before xs i x below here =
    not_first (map name (take i xs)) (name x) ∙ ap (separator_in before) (sym (one_taken name xs i x below here))
  where
    not_first : (ns : List (List ℕ)) (n : List ℕ) → codes ", " ≡ separator_in before (ns ++ n ∷ [])
    not_first [] n = refl
    not_first (m ∷ ns) n = refl

-- there are some, or none

is_zero : (n : ℕ) (b : Bool) → b ≡ (n == 0) → b ≡ true → n ≡ 0
is_zero n b e is = grind (arith, nat_tests, e, is)

pub none_named : {X : Type 0} (name : X → List ℕ) (empty before : List ℕ) (xs : List X) (b : Bool) → b ≡ (length xs == 0) → b ≡ true
    → empty ≡ names_or empty before (map name xs)
none_named name empty before [] b e is = refl
none_named name empty before (x ∷ xs) b e is =
    let zero : length (x ∷ xs) ≡ 0 = is_zero (length (x ∷ xs)) b e is in
    absurd (omega (arith, zero))

pub named_to_end : {X : Type 0} (name : X → List ℕ) (empty before : List ℕ) (xs : List X) (i : ℕ) (b : Bool) (old new : List ℕ) → b ≡ (length xs == 0)
    → b ≡ false → length xs ≤ i → new ≡ old ++ names_or [] before (map name (take i xs)) → new ≡ old ++ names_or empty before (map name xs)
named_to_end {X} name empty before xs i b old new e is past so =
    so ∙ ap (λ l. old ++ l) (ap (λ ys. names_or [] before (map name ys)) (take_all i xs past) ∙ some xs e)
  where
    some : (ys : List X) → b ≡ (length ys == 0) → names_or [] before (map name ys) ≡ names_or empty before (map name ys)
    some [] f = absurd cc
    some (y ∷ ys) f = refl

-- ---- fields

abbrev pub Declared : Type 0
Declared = List ℕ × CedarType × Bool

abbrev declared_name : Declared → List ℕ
declared_name f = f.0

declared_names : (fs : List Declared) → map declared_name fs ≡ field_names (static_fields (cedar_fields_view fs))
declared_names [] = refl
declared_names (f ∷ fs) = ap (λ ns. f.0 ∷ ns) (declared_names fs)

abbrev pub Built : Type 0
Built = Bor (List ℕ) × StaticType × Bool

abbrev built_name : Built → List ℕ
built_name f = f.0.now

abbrev built_view : List Built → FieldTypes
built_view fs = built_fields (map (λ f. (f.0, static_view f.1, f.2)) fs)

built_names : (fs : List Built) → map built_name fs ≡ field_names (built_view fs)
built_names [] = refl
built_names (f ∷ fs) = ap (λ ns. f.0.now ∷ ns) (built_names fs)

-- the names of a type's attributes, by its outermost layer
module _ (attributes : List ℕ → FieldTypes) (t : StaticType) where
  abbrev names_of : types.StaticType → List (List ℕ)
  names_of s = field_names (fields_of attributes s)

  pub entity_names : (l : Leaf) (n : Bor (List ℕ)) (fs : List Declared) → t ≡ variant.Leaf l → l ≡ leaf.Entity n
      → static_fields (cedar_fields_view fs) ≡ attributes n.now → map declared_name fs ≡ names_of (static_view t)
  entity_names l n fs e f h =
      declared_names fs ∙ ap field_names h ∙ sym (ap names_of (leaf_is t l e) ∙ ap (λ k. names_of (leaf_view k)) f)

  pub declared_record_names : (fs : Bor (List Declared)) → t ≡ variant.DeclaredRecord fs → map declared_name fs.now ≡ names_of (static_view t)
  declared_record_names fs e = declared_names fs.now ∙ sym (ap names_of (declared_is t fs e))

  pub built_record_names : (fs gs : List Built) → t ≡ shown.Record fs → gs ≡ fs → map built_name gs ≡ names_of (static_view t)
  built_record_names fs gs e f = built_names gs ∙ ap (λ hs. field_names (built_view hs)) f ∙ sym (ap names_of (built_is t fs e))

  pub leaf_names : (l : Leaf) → t ≡ variant.Leaf l → ((n : Bor (List ℕ)) → l ≡ leaf.Entity n → ⊥) → [] ≡ names_of (static_view t)
  leaf_names l e no_entity = of l no_entity ∙ sym (ap names_of (leaf_is t l e))
    where
      of : (k : Leaf) → ((n : Bor (List ℕ)) → k ≡ leaf.Entity n → ⊥) → [] ≡ names_of (leaf_view k)
      of (leaf.Boolean truth.True) other = refl
      of (leaf.Boolean truth.False) other = refl
      of (leaf.Boolean truth.Either) other = refl
      of leaf.Long other = refl
      of leaf.Text other = refl
      of (leaf.Entity n) other = absurd (other n refl)
      of leaf.Decimal other = refl
      of leaf.Ipaddr other = refl

  pub set_names : ((l : Leaf) → t ≡ variant.Leaf l → ⊥) → ((fs : Bor (List Declared)) → t ≡ variant.DeclaredRecord fs → ⊥)
      → ((fs : List Built) → t ≡ shown.Record fs → ⊥) → [] ≡ names_of (static_view t)
  set_names no_leaf no_declared no_built = of (out-StaticType t) refl
    where
      is : (y : StaticType-F StaticType) → out-StaticType t ≡ y → t ≡ roll-StaticType y
      is y o = sym (roll-out-StaticType t) ∙ ap roll-StaticType o

      view : (y : StaticType-F StaticType) → out-StaticType t ≡ y → [] ≡ names_of (static_view (roll-StaticType y)) → [] ≡ names_of (static_view t)
      view y o e = e ∙ sym (ap (λ s. names_of (static_view s)) (is y o))

      of : (y : StaticType-F StaticType) → out-StaticType t ≡ y → [] ≡ names_of (static_view t)
      of (StaticType-F.Leaf l) o = absurd (no_leaf l (is (StaticType-F.Leaf l) o ∙ shown.rolls-Leaf l))
      of (StaticType-F.DeclaredRecord fs) o = absurd (no_declared fs (is (StaticType-F.DeclaredRecord fs) o ∙ shown.rolls-DeclaredRecord fs))
      of (StaticType-F.Record fs) o = absurd (no_built fs (is (StaticType-F.Record fs) o ∙ shown.rolls-Record fs))
      of (StaticType-F.DeclaredSet m) o =
          view (StaticType-F.DeclaredSet m) o (sym (ap names_of (fold-roll-StaticType types.StaticType static_step (StaticType-F.DeclaredSet m))))
      of (StaticType-F.Set m) o =
          view (StaticType-F.Set m) o (sym (ap names_of (fold-roll-StaticType types.StaticType static_step (StaticType-F.Set m))))
