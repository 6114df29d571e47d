-- The result of walking over an expression is that of checking its names in turn.
use Rattle.std.specs.Prelude.{◌≡◌, List, [], ◌∷◌, ◌++◌, map, Ok, Err, refl}
use Rattle.std.proofs.Common.{sym, ap, ◌∙◌}
use Rattle.grammar_core.proofs.Forms.{Every, Cases, by_forms, fold_literal, fold_variable, fold_if, fold_and, fold_or}
use Rattle.grammar_core.proofs.Forms.{fold_unary, fold_binary, fold_field, fold_has, fold_set, fold_record}
use Rattle.grammar_core.proofs.Forms.{fold_unary_call, fold_binary_call}
use Rattle.grammar_core.specs.Size.{values_of}
use Rattle.grammar_core.specs.declared.leaf.Literal.{Literal}
use Rattle.grammar_core.specs.declared.leaf.Literal.TheVariants as literal
use Rattle.grammar_core.specs.declared.operator.Unary.{Unary}
use Rattle.grammar_core.specs.declared.operator.Unary.TheVariants as unary
use Rattle.grammar_core.specs.declared.expr.Named.{Named}
use Rattle.grammar_core.specs.declared.expr.Expr.{Expr}
use Rattle.grammar_core.specs.declared.expr.Expr.TheVariants as form
use Rattle.type_checker.specs.schema.Schemas.{StatedSchema}
use Rattle.validator.specs.Names.{Name, literal_names, operator_names, joined, names_step, names_in}
use Rattle.validator.specs.inner.Walking.{WalkResult, and_then, in_turn, literal_check, operator_check, walk_step, walk}
use Rattle.validator.specs.inner.Walking.{named_walk, name_check, names_check, parts_check}

and_assoc : (p q r : WalkResult) → and_then p (and_then q r) ≡ and_then (and_then p q) r
and_assoc (Ok u) q r = refl
and_assoc (Err f) q r = refl

and_end : (r : WalkResult) → and_then r (Ok tt) ≡ r
and_end (Ok u) = refl
and_end (Err f) = refl

module _ (s : StatedSchema) where
  abbrev told : List Name → WalkResult
  told = names_check s

  told_joined : (ms ns : List Name) → told (ms ++ ns) ≡ and_then (told ms) (told ns)
  told_joined [] ns = refl
  told_joined (m ∷ ms) ns = ap (and_then (name_check s m)) (told_joined ms ns) ∙ and_assoc (name_check s m) (told ms) (told ns)

  two : (r q : WalkResult) (ms ns : List Name) → r ≡ told ms → q ≡ told ns → and_then r q ≡ told (ms ++ ns)
  two r q ms ns e f = ap (λ x. and_then x q) e ∙ ap (and_then (told ms)) f ∙ sym (told_joined ms ns)

  of_literal : (l : Literal) → literal_check s l ≡ told (literal_names l)
  of_literal (literal.Boolean b) = refl
  of_literal (literal.Long z) = refl
  of_literal (literal.Text t) = refl
  of_literal (literal.Entity u) = sym (and_end _)

  of_operator : (op : Unary) → operator_check s op ≡ told (operator_names op)
  of_operator unary.Not = refl
  of_operator unary.Negate = refl
  of_operator (unary.Like p) = refl
  of_operator (unary.Is n) = sym (and_end _)

  Walked : Expr → Type 0
  Walked x = walk s x ≡ told (names_in x)

  at : (x : Expr) (r : WalkResult) (ns : List Name) → walk s x ≡ r → names_in x ≡ ns → r ≡ told ns → Walked x
  unfolding Walked
  at x r ns e f g = e ∙ g ∙ ap told (sym f)

  walked_each : (xs : List Expr) → Every Walked xs → in_turn (map (walk s) xs) ≡ told (joined (map names_in xs))
  unfolding Walked
  walked_each [] h = refl
  walked_each (x ∷ xs) h = two (walk s x) (in_turn (map (walk s) xs)) (names_in x) (joined (map names_in xs)) h.0 (walked_each xs h.1)

  abbrev named_names : Named Expr → Named (List Name)
  named_names f = record { name = f.name; value = names_in f.value }

  walked_fields : (fs : List (Named Expr)) → Every (λ f. Walked f.value) fs
      → in_turn (values_of (map (named_walk s) fs)) ≡ told (joined (values_of (map named_names fs)))
  unfolding Walked
  walked_fields [] h = refl
  walked_fields (f ∷ fs) h =
      two (walk s f.value) (in_turn (values_of (map (named_walk s) fs))) (names_in f.value) (joined (values_of (map named_names fs))) h.0 (walked_fields fs h.1)

  walked_cases : Cases Walked
  unfolding Walked
  walked_cases = record {
    literal = λ l. at (form.Literal l) _ _ (fold_literal WalkResult (walk_step s) l) (fold_literal (List Name) names_step l) (of_literal l);
    variable = λ x. at (form.Variable x) _ _ (fold_variable WalkResult (walk_step s) x) (fold_variable (List Name) names_step x) refl;
    if_form = λ a b c f g h. at (form.If a b c) _ _ (fold_if WalkResult (walk_step s) a b c) (fold_if (List Name) names_step a b c)
        (two (walk s a) _ (names_in a) _ f (two (walk s b) (walk s c) (names_in b) (names_in c) g h));
    and_form = λ a b f g. at (form.And a b) _ _ (fold_and WalkResult (walk_step s) a b) (fold_and (List Name) names_step a b)
        (two (walk s a) (walk s b) (names_in a) (names_in b) f g);
    or_form = λ a b f g. at (form.Or a b) _ _ (fold_or WalkResult (walk_step s) a b) (fold_or (List Name) names_step a b)
        (two (walk s a) (walk s b) (names_in a) (names_in b) f g);
    unary = λ op a f. at (form.Unary op a) _ _ (fold_unary WalkResult (walk_step s) op a) (fold_unary (List Name) names_step op a)
        (two (walk s a) (operator_check s op) (names_in a) (operator_names op) f (of_operator op));
    binary = λ op a b f g. at (form.Binary op a b) _ _ (fold_binary WalkResult (walk_step s) op a b) (fold_binary (List Name) names_step op a b)
        (two (walk s a) (walk s b) (names_in a) (names_in b) f g);
    field = λ a k f. at (form.Field a k) _ _ (fold_field WalkResult (walk_step s) a k) (fold_field (List Name) names_step a k) f;
    has = λ a k f. at (form.Has a k) _ _ (fold_has WalkResult (walk_step s) a k) (fold_has (List Name) names_step a k) f;
    set = λ xs h. at (form.Set xs) _ _ (fold_set WalkResult (walk_step s) xs) (fold_set (List Name) names_step xs) (walked_each xs h);
    record_form = λ fs h. at (form.Record fs) _ _ (fold_record WalkResult (walk_step s) fs) (fold_record (List Name) names_step fs) (walked_fields fs h);
    unary_call = λ c a f. at (form.UnaryCall c a) _ _ (fold_unary_call WalkResult (walk_step s) c a) (fold_unary_call (List Name) names_step c a) f;
    binary_call = λ c a b f g. at (form.BinaryCall c a b) _ _ (fold_binary_call WalkResult (walk_step s) c a b) (fold_binary_call (List Name) names_step c a b)
        (two (walk s a) (walk s b) (names_in a) (names_in b) f g);
  }

  pub walked : (x : Expr) → walk s x ≡ told (names_in x)
  unfolding Walked
  walked x = by_forms Walked walked_cases x

  walk_and : (a b : Expr) → walk s (form.And a b) ≡ and_then (walk s a) (walk s b)
  walk_and a b = fold_and WalkResult (walk_step s) a b

  -- the parts of a scope and a condition, in turn, are the whole
  pub parts_walked : (p a r c : Expr)
      → parts_check s (p ∷ a ∷ r ∷ []) c ≡ told (names_in (form.And p (form.And a (form.And r c))))
  parts_walked p a r c =
      sym (and_assoc (walk s p) (and_then (walk s a) (and_then (walk s r) (Ok tt))) (walk s c))
      ∙ ap (and_then (walk s p)) (sym (and_assoc (walk s a) (and_then (walk s r) (Ok tt)) (walk s c))
      ∙ ap (and_then (walk s a)) (ap (λ x. and_then x (walk s c)) (and_end (walk s r)) ∙ sym (walk_and r c)) ∙ sym (walk_and a (form.And r c)))
      ∙ sym (walk_and p (form.And a (form.And r c)))
      ∙ walked (form.And p (form.And a (form.And r c)))
