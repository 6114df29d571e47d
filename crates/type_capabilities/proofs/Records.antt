-- Records, compared by their names and then by their values.
use Rattle.std.proofs.Common.{◌≡◌, ℕ, List, [], ◌∷◌, length, map, Ordering, nat_cmp, refl, sym, ap, ◌∙◌}
use Rattle.std.specs.Ordering.{ordering_then}
use Rattle.std.specs.Cmp.Lexicographic.{slice_cmp}
use Rattle.values.specs.Uids.{text_cmp}
use Rattle.grammar_core.specs.declared.expr.Named.{Named}
use Rattle.grammar_core.specs.declared.expr.Expr.{Expr}
use Rattle.grammar_core.specs.declared.expr.Expr.TheVariants as form
use Rattle.grammar_core.specs.declared.expr.Expr.TheViews.{out-Expr}
use Rattle.grammar_core.specs.declared.expr.Expr.TheOpen.{Expr-F}
use Rattle.grammar_core.proofs.Forms.{field_all, fold_record}
use Rattle.type_capabilities.specs.Order.{expr_cmp, layers_cmp, each_cmp, names, names_cmp}
use Rattle.type_capabilities.specs.NodeCodes.{same_length, same_names}

abbrev A : Type 0
A = Expr → Ordering

abbrev step : Expr-F A → A
step l y = layers_cmp l (out-Expr y)

values : (fs : List (Named Expr)) → map (λ f. f.value) (map (field_all A step) fs) ≡ map (λ f. expr_cmp f.value) fs
values [] = refl
values (f ∷ fs) = ap (λ vs. expr_cmp f.value ∷ vs) (values fs)

abbrev fields_cmp : ℕ → List (List ℕ) → List A → List (Named Expr) → Ordering
fields_cmp n ks vs gs =
    ordering_then (ordering_then (nat_cmp n (length gs)) (slice_cmp text_cmp ks (names gs))) (each_cmp vs (map (λ g. g.value) gs))

both : (fs gs : List (Named Expr)) → expr_cmp (form.Record fs) (form.Record gs)
    ≡ fields_cmp (length fs) (names fs) (map (λ f. expr_cmp f.value) fs) gs
both fs gs =
    let all = map (field_all A step) fs in
    ap (λ h. h (form.Record gs)) (fold_record A step fs)
    ∙ (ap (layers_cmp (Expr-F.Record all)) (form.outs-Record gs)
    ∙ (ap (λ n. fields_cmp n (names all) (map (λ f. f.value) all) gs) (same_length (field_all A step) fs)
    ∙ (ap (λ ks. fields_cmp (length fs) ks (map (λ f. f.value) all) gs) (same_names A step fs)
    ∙ ap (λ vs. fields_cmp (length fs) (names fs) vs gs) (values fs))))

pub record_is : (x y : Expr) (fs gs : List (Named Expr)) (o : Ordering) → x ≡ form.Record fs → y ≡ form.Record gs
    → o ≡ ordering_then (nat_cmp (length fs) (length gs)) (names_cmp fs gs)
    → ordering_then o (each_cmp (map (λ f. expr_cmp f.value) fs) (map (λ f. f.value) gs)) ≡ expr_cmp x y
record_is x y fs gs o d e h =
    ap (λ z. ordering_then z (each_cmp (map (λ f. expr_cmp f.value) fs) (map (λ f. f.value) gs))) h
    ∙ (sym (both fs gs) ∙ (ap (λ z. expr_cmp z (form.Record gs)) (sym d) ∙ ap (expr_cmp x) (sym e)))
