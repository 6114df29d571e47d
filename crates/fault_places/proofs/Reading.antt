-- The attribute that a form reads, and whether it is declared.
use Rattle.std.specs.Prelude.{◌≡◌, ◌↔◌, ℕ, List, [], ◌∷◌, map, Bool, true, false, IsTrue, Ok, Err, is_ok, refl}
use Rattle.std.specs.Prelude.{Option, Some, None, option_map, slice_get, length, if◌then◌else◌, codes}
use Rattle.std.proofs.Common.{◌<◌, ◌≤◌, ◌++◌, get_or, sym, ◌∙◌, ap}
use Rattle.std.proofs.lemmas.Option.{slice_get-map, slice_get_read, slice_get_past}
use Rattle.grammar_core.specs.declared.expr.Expr.{Expr}
use Rattle.grammar_core.specs.declared.expr.Expr.TheOpen.{Expr-F}
use Rattle.grammar_core.specs.declared.expr.Expr.TheVariants as form
use Rattle.grammar_core.specs.declared.expr.Expr.TheViews.{out-Expr, roll-Expr, roll-out-Expr}
use Rattle.type_checker.specs.declared.static_type.StaticType.{StaticType}
use Rattle.type_checker.specs.schema.declared.parts.Environment.{Environment}
use Rattle.type_checker.specs.schema.Schemas.{EnvironmentOf, StatedSchema}
use Rattle.type_checker.specs.schema.Views.{environment_view}
use Rattle.type_checker.specs.FromSchemas.{typing_environment_of}
use Rattle.type_checker.specs.Views.{static_view}
use Rattle.fault_places.specs.declared.blaming.TypeBlame.{TypeBlame}
use Rattle.typing.specs.declared.fault.TypeFault.{TypeFault}
use Rattle.typing.specs.declared.fault.TypeFault.TheVariants as fault
use Rattle.typing.specs.Environment as typing
use Rattle.typing.specs.Types as types
use Rattle.typing.specs.Rows.{Row, field_type_of}
use Rattle.fault_places.specs.Words.{type_word, which_words, attribute_in, attribute_of, field_names, fields_of, declaration_words, declared_words, name_detail}
use Rattle.fault_places.specs.Words.{types_words, is_missing, typing_cause, environment_words, what_words, detail_in, typing_detail}
use Rattle.fault_places.proofs.Appending.{in_turn, nothing_more}

form_reads : (x w : Expr) (y : Expr-F Expr) → x ≡ w → out-Expr w ≡ y → attribute_in y ≡ attribute_of x
form_reads x w y e f = sym (ap attribute_in (ap out-Expr e ∙ f))

reads_none : (x : Expr) → ((a : Expr) (k : List ℕ) → x ≡ form.Field a k → ⊥) → [] ≡ attribute_of x
reads_none x no_field = at (out-Expr x) refl
  where
    at : (y : Expr-F Expr) → out-Expr x ≡ y → [] ≡ attribute_in y
    at (Expr-F.Field a k) e = absurd (no_field a k (sym (roll-out-Expr x) ∙ (ap roll-Expr e ∙ form.rolls-Field a k)))
    at (Expr-F.Literal l) e = refl
    at (Expr-F.Variable v) e = refl
    at (Expr-F.If a b c) e = refl
    at (Expr-F.And a b) e = refl
    at (Expr-F.Or a b) e = refl
    at (Expr-F.Unary op a) e = refl
    at (Expr-F.Binary op a b) e = refl
    at (Expr-F.Has a k) e = refl
    at (Expr-F.Set xs) e = refl
    at (Expr-F.Record fs) e = refl
    at (Expr-F.UnaryCall called a) e = refl
    at (Expr-F.BinaryCall called a b) e = refl

not_missing : (f : TypeFault) → ¬ (f ≡ fault.AttributeMayBeMissing) → false ≡ is_missing f
not_missing fault.AttributeMayBeMissing other = absurd (other refl)
not_missing fault.NoMemory other = refl
not_missing fault.UnknownType other = refl
not_missing fault.UnknownAction other = refl
not_missing fault.Unexpected other = refl
not_missing fault.NoCommonType other = refl
not_missing fault.EmptySet other = refl
not_missing fault.BadExtensionLiteral other = refl

-- ---- the cause

module _ (f : TypeFault) (x : Expr) where
  -- the attribute that the form reads
  pub read_cause : (w : Expr) (y : Expr-F Expr) → f ≡ fault.AttributeMayBeMissing → x ≡ w → out-Expr w ≡ y → attribute_in y ≡ typing_cause f x
  read_cause w y is e o = form_reads x w y e o ∙ sym (ap (λ g. typing_cause g x) is)

  pub nothing_read : f ≡ fault.AttributeMayBeMissing → ((a : Expr) (k : List ℕ) → x ≡ form.Field a k → ⊥) → [] ≡ typing_cause f x
  nothing_read is no_field = reads_none x no_field ∙ sym (ap (λ g. typing_cause g x) is)

  pub no_cause : ¬ (f ≡ fault.AttributeMayBeMissing) → [] ≡ typing_cause f x
  no_cause other = ap (λ (m : Bool). if m then attribute_of x else []) (not_missing f other)

-- ---- whether it is declared

abbrev IsType : Row → Type 0
IsType r = (t : types.StaticType) × (r ≡ Ok t)

decided : (r : Row) (b : Bool) → IsTrue b ↔ IsType r → b ≡ is_ok r
decided (Ok t) b h = h.1 (t, refl)
decided (Err n) false h = refl
decided (Err n) true h = absurd (apart (h.0 refl))
  where
    apart : IsType (Err n) → ⊥
    apart (t, e) = cc

first_declared : (E : typing.Environment) (k : List ℕ) (ts : List StaticType) (t : StaticType) (b : Bool) → Some t ≡ slice_get ts 0
    → IsTrue b ↔ IsType (field_type_of E true k (static_view t))
    → declaration_words b (static_view t) (field_names (fields_of E.attributes (static_view t))) ≡ declared_words E k (map static_view ts)
first_declared E k [] t b is h = absurd (some_not_none is)
  where
    some_not_none : Some t ≡ None → ⊥
    some_not_none e = cc
first_declared E k (u ∷ rest) t b is h =
    ap (λ c. declaration_words c (static_view t) (field_names (fields_of E.attributes (static_view t)))) (decided (field_type_of E true k (static_view t)) b h)
    ∙ ap (λ s. declared_words E k (static_view s ∷ map static_view rest)) (some_same is)
  where
    some_same : Some t ≡ Some u → t ≡ u
    some_same e = cc

pub none_declared : (E : typing.Environment) (k : List ℕ) (ts : List StaticType) → None ≡ slice_get ts 0 → declared_words E k (map static_view ts) ≡ []
none_declared E k [] is = refl
none_declared E k (u ∷ rest) is = absurd (none_not_some is)
  where
    none_not_some : None ≡ Some u → ⊥
    none_not_some e = cc

-- the first type declares it, or does not
module _ (E : typing.Environment) (k : List ℕ) (ts : List StaticType) (t : StaticType) (b : Bool) (is : Some t ≡ slice_get ts 0)
    (h : IsTrue b ↔ IsType (field_type_of E true k (static_view t))) (w : List ℕ) (named : w ≡ type_word (static_view t)) (old : List ℕ) where
  abbrev names : List (List ℕ)
  names = field_names (fields_of E.attributes (static_view t))

  in_words : (c : Bool) → b ≡ c → declaration_words c (static_view t) names ≡ declared_words E k (map static_view ts)
  in_words c e = ap (λ d. declaration_words d (static_view t) names) (sym e) ∙ first_declared E k ts t b is h

  pub optional_in : (new : List ℕ) → b ≡ true → new ≡ old ++ (codes ": optional in " ++ w) → new ≡ old ++ declared_words E k (map static_view ts)
  optional_in new e first = first ∙ ap (λ v. old ++ (codes ": optional in " ++ v)) named ∙ ap (λ l. old ++ l) (in_words true e)

  pub not_declared_in : (mid new : List ℕ) → b ≡ false → mid ≡ old ++ (codes ": not declared in " ++ w) → new ≡ mid ++ which_words names
      → new ≡ old ++ declared_words E k (map static_view ts)
  not_declared_in mid new e first second =
      in_turn old mid new (codes ": not declared in " ++ w) (which_words names) first second
      ∙ ap (λ v. old ++ (codes ": not declared in " ++ (v ++ which_words names))) named
      ∙ ap (λ l. old ++ l) (in_words false e)

pub no_name_detail : (s : StatedSchema) (f : TypeFault) → ¬ (f ≡ fault.UnknownAction) → [] ≡ name_detail s f
no_name_detail s fault.UnknownAction other = absurd (other refl)
no_name_detail s fault.NoMemory other = refl
no_name_detail s fault.UnknownType other = refl
no_name_detail s fault.Unexpected other = refl
no_name_detail s fault.NoCommonType other = refl
no_name_detail s fault.AttributeMayBeMissing other = refl
no_name_detail s fault.EmptySet other = refl
no_name_detail s fault.BadExtensionLiteral other = refl

-- ---- environments

module _ (s : StatedSchema) (xs : List Environment) (i : ℕ) (are : map environment_view xs ≡ s.environments) where
  looked_up : slice_get s.environments i ≡ option_map environment_view (slice_get xs i)
  looked_up = ap (λ (es : List EnvironmentOf). slice_get es i) (sym are) ∙ slice_get-map environment_view xs i

  pub environment_there : (x : Environment) → i < length xs → x ≡ get_or xs i x → slice_get s.environments i ≡ Some (environment_view x)
  environment_there x below here = looked_up ∙ ap (option_map environment_view) (slice_get_read xs (length xs) i x refl below here)

  pub environment_past : length xs ≤ i → slice_get s.environments i ≡ None
  environment_past past = looked_up ∙ ap (option_map environment_view) (slice_get_past xs i past)

module _ (s : StatedSchema) (b : TypeBlame) (old : List ℕ) where
  abbrev in_one : Option EnvironmentOf → List ℕ
  in_one o = detail_in s o b.fault b.place.form.now (map static_view b.place.types.items)

  pub detail_there : (e : EnvironmentOf) (mid new : List ℕ) → slice_get s.environments b.environment ≡ Some e → mid ≡ old ++ environment_words e
      → new ≡ mid ++ what_words (typing_environment_of s e) b.fault b.place.form.now (map static_view b.place.types.items) → new ≡ old ++ typing_detail s b
  detail_there e mid new h first second =
      in_turn old mid new (environment_words e) _ first second ∙ ap (λ (o : Option EnvironmentOf). old ++ in_one o) (sym h)

  pub detail_past : slice_get s.environments b.environment ≡ None → old ≡ old ++ typing_detail s b
  detail_past h = nothing_more old ∙ ap (λ (o : Option EnvironmentOf). old ++ in_one o) (sym h)

  -- the error is that of an attribute, or another

  pub detail_missing : (e : EnvironmentOf) (mid new k : List ℕ) → slice_get s.environments b.environment ≡ Some e
      → mid ≡ old ++ environment_words e → b.fault ≡ fault.AttributeMayBeMissing → k ≡ typing_cause b.fault b.place.form.now
      → new ≡ mid ++ declared_words (typing_environment_of s e) k (map static_view b.place.types.items) → new ≡ old ++ typing_detail s b
  detail_missing e mid new k h first is named second =
      let E = typing_environment_of s e in
      let x = b.place.form.now in
      let ts = map static_view b.place.types.items in
      let words : declared_words E k ts ≡ what_words E b.fault x ts =
      ap (λ n. declared_words E n ts) (named ∙ ap (λ f. typing_cause f x) is) ∙ sym (ap (λ f. what_words E f x ts) is) in
      detail_there e mid new h first (second ∙ ap (λ l. mid ++ l) words)

  pub detail_other : (e : EnvironmentOf) (mid new : List ℕ) → slice_get s.environments b.environment ≡ Some e
      → mid ≡ old ++ environment_words e → ¬ (b.fault ≡ fault.AttributeMayBeMissing)
      → new ≡ mid ++ types_words (map static_view b.place.types.items) → new ≡ old ++ typing_detail s b
  detail_other e mid new h first other second =
      let E = typing_environment_of s e in
      let x = b.place.form.now in
      let ts = map static_view b.place.types.items in
      let words : types_words ts ≡ what_words E b.fault x ts =
      ap (λ (m : Bool). if m then declared_words E (attribute_of x) ts else types_words ts) (not_missing b.fault other) in
      detail_there e mid new h first (second ∙ ap (λ l. mid ++ l) words)
