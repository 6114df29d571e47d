-- The first name of an expression that a schema does not declare, operand by operand.
use Rattle.std.specs.Prelude.{◌≡◌, ℕ, ◌+◌, ◌-◌, ◌<◌, List, [], ◌∷◌, ◌++◌, map, length, take, drop, All, Option, Some, None, slice_get}
use Rattle.std.specs.Prelude.{refl}
use Rattle.std.proofs.Common.{sym, ap, ◌∙◌, subst, append_assoc, arith}
use Rattle.std.proofs.lemmas.List.{append-nil, length-append, take_at}
use Rattle.std.proofs.lemmas.List.Elements.{All-nil, All-cons, All-head, All-tail, All-append}
use Rattle.grammar_core.specs.Size.{values_of, height}
use Rattle.grammar_core.specs.declared.expr.Named.{Named}
use Rattle.grammar_core.specs.declared.expr.Expr.{Expr}
use Rattle.grammar_core.specs.declared.expr.Expr.TheVariants as form
use Rattle.grammar_core.specs.declared.expr.Expr.TheOpen.{Expr-F}
use Rattle.grammar_core.specs.declared.expr.Expr.TheViews.{out-Expr, roll-Expr, roll-out-Expr}
use Rattle.grammar_core.specs.declared.leaf.Literal.{Literal}
use Rattle.grammar_core.specs.declared.operator.Unary.{Unary}
use Rattle.grammar_core.proofs.Forms.{Cases, by_forms, field_all, fold_literal, fold_variable, fold_if, fold_and, fold_or}
use Rattle.grammar_core.proofs.Forms.{fold_unary, fold_binary, fold_field, fold_has, fold_set, fold_record}
use Rattle.grammar_core.proofs.Forms.{fold_unary_call, fold_binary_call}
use Rattle.type_checker.specs.schema.Schemas.{StatedSchema}
use Rattle.typing.specs.declared.fault.TypeFault.{TypeFault}
use Rattle.validator.specs.Names.{Name, joined, names_in, names_step, operator_names}
use Rattle.validator.specs.Unknown
use Rattle.validator.specs.Unknown.{IsUnknown, IsKnown, FirstUnknown}
use Rattle.typing.specs.Places.{operands_in, operands_of}
use Rattle.typing.proofs.Items.{within, parted, grown, as_many, all_taken}
use Rattle.typing.proofs.Lower.{lower}
use Rattle.fault_places.specs.NamesAt
use Rattle.fault_places.specs.NamesAt.{names_at, name_view, FirstUnknownAt}
use Rattle.fault_places.specs.inner.UnknownNames.{IsOwnName, IsNameFound}
use Rattle.fault_places.specs.declared.unknown_names.NameFault.{NameFault}

-- ---- names by operands

abbrev Split : Expr → List Expr → List Name → Type 0
Split x xs own = names_in x ≡ joined (map names_in xs) ++ own

abbrev IsSplit : Expr → Type 0
IsSplit x = Split x (operands_of x) (names_at (out-Expr x))

split_at : (x : Expr) (y : Expr-F Expr) → out-Expr x ≡ y → Split x (operands_in y) (names_at y) → IsSplit x
split_at x y e h = subst (λ z. Split x (operands_in z) (names_at z)) (sym e) h

one_list : (p : List Name) → p ≡ (p ++ []) ++ []
one_list p = sym (append-nil (p ++ []) ∙ append-nil p)

two_lists : (p q : List Name) → p ++ q ≡ (p ++ (q ++ [])) ++ []
two_lists p q = sym (append-nil (p ++ (q ++ [])) ∙ ap (λ r. p ++ r) (append-nil q))

three_lists : (p q r : List Name) → p ++ (q ++ r) ≡ (p ++ (q ++ (r ++ []))) ++ []
three_lists p q r = sym (append-nil (p ++ (q ++ (r ++ []))) ∙ ap (λ s. p ++ (q ++ s)) (append-nil r))

values_names : (fs : List (Named Expr)) → values_of (map (field_all (List Name) names_step) fs) ≡ map names_in (map (λ f. f.value) fs)
values_names [] = refl
values_names (f ∷ fs) = ap (λ nss. names_in f.value ∷ nss) (values_names fs)

split_cases : Cases IsSplit
split_cases = record {
  literal = λ l. split_at (form.Literal l) (Expr-F.Literal l) (form.outs-Literal l) (fold_literal (List Name) names_step l);
  variable = λ v. split_at (form.Variable v) (Expr-F.Variable v) (form.outs-Variable v) (fold_variable (List Name) names_step v);
  if_form = λ a b c f g h. split_at (form.If a b c) (Expr-F.If a b c) (form.outs-If a b c)
      (fold_if (List Name) names_step a b c ∙ three_lists (names_in a) (names_in b) (names_in c));
  and_form = λ a b f g. split_at (form.And a b) (Expr-F.And a b) (form.outs-And a b)
      (fold_and (List Name) names_step a b ∙ two_lists (names_in a) (names_in b));
  or_form = λ a b f g. split_at (form.Or a b) (Expr-F.Or a b) (form.outs-Or a b)
      (fold_or (List Name) names_step a b ∙ two_lists (names_in a) (names_in b));
  unary = λ op a f. split_at (form.Unary op a) (Expr-F.Unary op a) (form.outs-Unary op a)
      (fold_unary (List Name) names_step op a ∙ ap (λ p. p ++ operator_names op) (sym (append-nil (names_in a))));
  binary = λ op a b f g. split_at (form.Binary op a b) (Expr-F.Binary op a b) (form.outs-Binary op a b)
      (fold_binary (List Name) names_step op a b ∙ two_lists (names_in a) (names_in b));
  field = λ a k f. split_at (form.Field a k) (Expr-F.Field a k) (form.outs-Field a k)
      (fold_field (List Name) names_step a k ∙ one_list (names_in a));
  has = λ a k f. split_at (form.Has a k) (Expr-F.Has a k) (form.outs-Has a k)
      (fold_has (List Name) names_step a k ∙ one_list (names_in a));
  set = λ xs h. split_at (form.Set xs) (Expr-F.Set xs) (form.outs-Set xs)
      (fold_set (List Name) names_step xs ∙ sym (append-nil (joined (map names_in xs))));
  record_form = λ fs h. split_at (form.Record fs) (Expr-F.Record fs) (form.outs-Record fs)
      (fold_record (List Name) names_step fs
      ∙ (ap joined (values_names fs) ∙ sym (append-nil (joined (map names_in (map (λ f. f.value) fs))))));
  unary_call = λ o a f. split_at (form.UnaryCall o a) (Expr-F.UnaryCall o a) (form.outs-UnaryCall o a)
      (fold_unary_call (List Name) names_step o a ∙ one_list (names_in a));
  binary_call = λ o a b f g. split_at (form.BinaryCall o a b) (Expr-F.BinaryCall o a b) (form.outs-BinaryCall o a b)
      (fold_binary_call (List Name) names_step o a b ∙ two_lists (names_in a) (names_in b));
}

names_split : (x : Expr) → IsSplit x
names_split x = by_forms IsSplit split_cases x

-- ---- known and unknown names

module _ (s : StatedSchema) where
  abbrev pub AreKnown : Expr → Type 0
  AreKnown y = All (IsKnown s) (names_in y)

  joined_known : (xs : List Expr) → All AreKnown xs → All (IsKnown s) (joined (map names_in xs))
  joined_known [] h = All-nil (IsKnown s)
  joined_known (x ∷ xs) h =
      All-append (IsKnown s) (names_in x) (joined (map names_in xs)) (All-head AreKnown x xs h) (joined_known xs (All-tail AreKnown x xs h))

  in_front : (ns ms : List Name) (f : TypeFault) → FirstUnknown s ns f → FirstUnknown s (ns ++ ms) f
  in_front [] ms f h = elim h [ ]
  in_front (n ∷ ns) ms f (Unknown.unknown_here h) = Unknown.unknown_here h
  in_front (n ∷ ns) ms f (Unknown.unknown_later k h) = Unknown.unknown_later k (in_front ns ms f h)

  behind : (ns ms : List Name) (f : TypeFault) → All (IsKnown s) ns → FirstUnknown s ms f → FirstUnknown s (ns ++ ms) f
  behind [] ms f k h = h
  behind (n ∷ ns) ms f k h =
      Unknown.unknown_later (All-head (IsKnown s) n ns k) (behind ns ms f (All-tail (IsKnown s) n ns k) h)

  joined_unknown : (before rest : List Expr) (y : Expr) (f : TypeFault) → All AreKnown before → FirstUnknown s (names_in y) f
      → FirstUnknown s (joined (map names_in (before ++ y ∷ rest))) f
  joined_unknown [] rest y f k h = in_front (names_in y) (joined (map names_in rest)) f h
  joined_unknown (x ∷ xs) rest y f k h =
      behind (names_in x) (joined (map names_in (xs ++ y ∷ rest))) f (All-head AreKnown x xs k)
      (joined_unknown xs rest y f (All-tail AreKnown x xs k) h)

  -- all operands and the form's own name are known
  pub known_all : (x : Expr) → All AreKnown (operands_of x) → All (IsKnown s) (names_at (out-Expr x)) → AreKnown x
  known_all x h g =
      subst (All (IsKnown s)) (sym (names_split x))
      (All-append (IsKnown s) (joined (map names_in (operands_of x))) (names_at (out-Expr x)) (joined_known (operands_of x) h) g)

  -- the form's own name is the first unknown one
  pub itself_first : (x : Expr) (n : Name) (f : TypeFault) → All AreKnown (operands_of x) → names_at (out-Expr x) ≡ n ∷ []
      → IsUnknown s n f → FirstUnknown s (names_in x) f
  itself_first x n f h e u =
      subst (λ ns. FirstUnknown s ns f) (sym (names_split x))
      (behind (joined (map names_in (operands_of x))) (names_at (out-Expr x)) f (joined_known (operands_of x) h)
      (subst (λ ns. FirstUnknown s ns f) (sym e) (Unknown.unknown_here u)))

  -- the first unknown one is in an operand
  pub operand_first : (x : Expr) (before rest : List Expr) (y : Expr) (f : TypeFault) → operands_of x ≡ before ++ y ∷ rest
      → All AreKnown before → FirstUnknown s (names_in y) f → FirstUnknown s (names_in x) f
  operand_first x before rest y f e k h =
      subst (λ ns. FirstUnknown s ns f) (sym (names_split x))
      (in_front (joined (map names_in (operands_of x))) (names_at (out-Expr x)) f
      (subst (λ xs. FirstUnknown s (joined (map names_in xs)) f) (sym e) (joined_unknown before rest y f k h)))

  -- ---- one operand after the other

  pub known_more : (x : Expr) (i : ℕ) (y : Expr) → slice_get (operands_of x) i ≡ Some y → All AreKnown (take i (operands_of x))
      → AreKnown y → All AreKnown (take (i + 1) (operands_of x))
  known_more x i y e h k =
      subst (All AreKnown) (sym (grown (operands_of x) i y e))
      (All-append AreKnown (take i (operands_of x)) (y ∷ []) h (All-cons AreKnown y [] k (All-nil AreKnown)))

  pub known_end : (x : Expr) (i : ℕ) → slice_get (operands_of x) i ≡ None → All AreKnown (take i (operands_of x))
      → All AreKnown (operands_of x)
  known_end x i e h = subst (All AreKnown) (all_taken (operands_of x) i e) h

  pub found_in : (x : Expr) (i : ℕ) (y : Expr) (p : List ℕ) (n : Name) (f : TypeFault) → slice_get (operands_of x) i ≡ Some y
      → All AreKnown (take i (operands_of x)) → FirstUnknown s (names_in y) f → FirstUnknownAt s y p n f
      → FirstUnknown s (names_in x) f × FirstUnknownAt s x (i ∷ p) n f
  found_in x i y p n f e h k g =
      let xs = operands_of x in
      let parts = parted xs i y e in (
        operand_first x (take i xs) (drop (i + 1) xs) y f parts h k,
        subst (λ j. FirstUnknownAt s x (j ∷ p) n f) (as_many xs i y e)
            (NamesAt.unknown_in (take i xs) (drop (i + 1) xs) parts h g),
      )

  -- ---- the form's own name

  none_named : All (IsKnown s) []
  none_named = All-nil (IsKnown s)

  pub no_name : (x : Expr) → ((l : Literal) → x ≡ form.Literal l → ⊥) → ((op : Unary) (a : Expr) → x ≡ form.Unary op a → ⊥)
      → IsOwnName s x None
  no_name x no_literal no_unary = at (out-Expr x) refl
    where
      is : (y : Expr-F Expr) (z : Expr) → out-Expr x ≡ y → roll-Expr y ≡ z → x ≡ z
      is y z e f = sym (roll-out-Expr x) ∙ (ap roll-Expr e ∙ f)

      none : (y : Expr-F Expr) → out-Expr x ≡ y → names_at y ≡ [] → IsOwnName s x None
      none y e n = subst (λ z. All (IsKnown s) (names_at z)) (sym e) (subst (All (IsKnown s)) (sym n) none_named)

      at : (y : Expr-F Expr) → out-Expr x ≡ y → IsOwnName s x None
      at (Expr-F.Literal l) e = absurd (no_literal l (is (Expr-F.Literal l) (form.Literal l) e (form.rolls-Literal l)))
      at (Expr-F.Unary op a) e = absurd (no_unary op a (is (Expr-F.Unary op a) (form.Unary op a) e (form.rolls-Unary op a)))
      at (Expr-F.Variable v) e = none (Expr-F.Variable v) e refl
      at (Expr-F.If a b c) e = none (Expr-F.If a b c) e refl
      at (Expr-F.And a b) e = none (Expr-F.And a b) e refl
      at (Expr-F.Or a b) e = none (Expr-F.Or a b) e refl
      at (Expr-F.Binary op a b) e = none (Expr-F.Binary op a b) e refl
      at (Expr-F.Field a name) e = none (Expr-F.Field a name) e refl
      at (Expr-F.Has a name) e = none (Expr-F.Has a name) e refl
      at (Expr-F.Set xs) e = none (Expr-F.Set xs) e refl
      at (Expr-F.Record fs) e = none (Expr-F.Record fs) e refl
      at (Expr-F.UnaryCall called a) e = none (Expr-F.UnaryCall called a) e refl
      at (Expr-F.BinaryCall called a b) e = none (Expr-F.BinaryCall called a b) e refl

  -- no operand has the first unknown name: the form itself, or none
  pub found_itself : (x : Expr) (old : List ℕ) (o : Option NameFault) (new : List ℕ) → new ≡ old → All AreKnown (operands_of x)
      → IsOwnName s x o → IsNameFound s x old new o
  found_itself x old None new e k h = (known_all x k h, e)
  found_itself x old (Some f) new e k h = (
    [],
    e ∙ sym (append-nil old),
    itself_first x (name_view f.name) f.fault k h.0 h.1,
    NamesAt.unknown_itself k h.0 h.1,
  )

  pub found_below : (x : Expr) (old : List ℕ) (i : ℕ) (y : Expr) (f : NameFault) (between new : List ℕ)
      → slice_get (operands_of x) i ≡ Some y → All AreKnown (take i (operands_of x)) → between ≡ old ++ i ∷ []
      → IsNameFound s y between new (Some f) → IsNameFound s x old new (Some f)
  found_below x old i y f between new e k b h =
      let p = h.0 in
      let g = found_in x i y p (name_view f.name) f.fault e k h.2 h.3 in
      (i ∷ p, h.1 ∙ (ap (λ q. q ++ p) b ∙ append_assoc old (i ∷ []) p), g.0, g.1)

  -- what is told of the whole
  pub name_told : (x : Expr) (old new : List ℕ) (f : NameFault) → old ≡ [] → IsNameFound s x old new (Some f)
      → FirstUnknown s (names_in x) f.fault × FirstUnknownAt s x new (name_view f.name) f.fault
  name_told x old new f e h =
      let p : new ≡ h.0 = h.1 ∙ ap (λ q. q ++ h.0) e in
      (h.2, subst (λ q. FirstUnknownAt s x q (name_view f.name) f.fault) (sym p) h.3)

  pub known_start : (x : Expr) → All AreKnown (take 0 (operands_of x))
  known_start x = All-nil AreKnown

-- ---- the walk

pub lower_there : (x : Expr) (i : ℕ) (y : Expr) → slice_get (operands_of x) i ≡ Some y → height y < height x
lower_there x i y e = lower x (take i (operands_of x)) (drop (i + 1) (operands_of x)) y (parted (operands_of x) i y e)

pub fewer_left : (x : Expr) (i : ℕ) (y : Expr) → slice_get (operands_of x) i ≡ Some y
    → length (operands_of x) - (i + 1) < length (operands_of x) - i
fewer_left x i y e = let lt = within (operands_of x) i y e in omega (arith, lt)

-- the last index is taken from a path again
pub popped : (old all rest : List ℕ) (i many : ℕ) → all ≡ old ++ i ∷ [] → many ≡ length all → rest ≡ take (many - 1) all → rest ≡ old
popped old all rest i many e m h =
    let longer : length all ≡ length old + 1 = ap length e ∙ length-append old (i ∷ []) in
    let fewer : length old ≡ many - 1 = omega (arith, longer, m) in
    h ∙ (ap (take (many - 1)) e ∙ take_at old (i ∷ []) (many - 1) fewer)
