-- Measures of core forms, from those of their parts.
use Rattle.std.proofs.lemmas.Bool.{cases_Bool, eqb-true}
use Rattle.std.proofs.Common.{◌≡◌, Bool, true, false, inl, inr, ℕ, suc, ◌+◌, max, refl, ap, ◌∙◌, sym, arith, List, [], ◌∷◌, ◌++◌, map, length, Option, Some, None, append_assoc, nat_eq, if◌then◌else◌}
use Rattle.std.proofs.lemmas.List.{append-nil, map-append}
use Rattle.std.specs.List.{fold, flat_map}
use Rattle.grammar_syntax.specs.declared.tree.Comparison.{Comparison}
use Rattle.grammar_syntax.specs.declared.tree.Comparison.TheVariants as is
use Rattle.grammar_core.specs.declared.expr.Expr.{Expr}
use Rattle.grammar_core.specs.declared.expr.Expr.TheVariants as core
use Rattle.grammar_core.specs.declared.leaf.Literal.{Literal}
use Rattle.grammar_core.specs.declared.leaf.Variable.{Variable}
use Rattle.grammar_core.specs.declared.operator.Unary.{Unary}
use Rattle.grammar_core.specs.declared.operator.Unary.TheVariants.{Not}
use Rattle.grammar_core.specs.declared.operator.Binary.{Binary}
use Rattle.grammar_core.specs.declared.operator.Binary.TheVariants.{Equal, In, Less, LessOrEqual}
use Rattle.grammar_core.specs.declared.operator.UnaryCall.{UnaryCall}
use Rattle.grammar_core.specs.declared.operator.BinaryCall.{BinaryCall}
use Rattle.grammar_core.specs.Size.{height, height_step, node_count, node_count_step, capped, greatest, total}
use Rattle.grammar_core.proofs.Forms.{fold_literal, fold_variable, fold_if, fold_and, fold_or, fold_unary, fold_binary, fold_field, fold_has, fold_set, fold_unary_call, fold_binary_call}
use Rattle.grammar_desugaring.specs.declared.fault.DesugarFault.{DesugarFault}
use Rattle.grammar_desugaring.specs.declared.fault.DesugarFault.TheVariants.{UnknownCall, Arity}
use Rattle.grammar_desugaring.specs.declared.measure.Measure.{Measure}
use Rattle.grammar_core.specs.declared.operator.Method.{Method}
use Rattle.grammar_core.specs.declared.operator.Method.TheVariants as method
use Rattle.grammar_desugaring.specs.ReportedErrors.{earlier_of, least}
use Rattle.grammar_core.specs.Operators.{function_takes, method_takes}
use Rattle.grammar_desugaring.specs.Core.{compared, method_called, no_call}
use Rattle.grammar_desugaring.specs.Core as spec
use Rattle.grammar_desugaring.specs.Faults.{call_faults}
use Rattle.grammar_desugaring.specs.TreeMeasures.{measure, of, of_row}
use Rattle.grammar_desugaring.specs.Sums.{leaf, node_measure, side_by_side, paired, called, with_fault, measured_compared}
use Rattle.grammar_desugaring.proofs.Least.{least-append}

pub same : (h k f g : ℕ) (o p : Option DesugarFault) → h ≡ k → f ≡ g → o ≡ p → measure h f o ≡ measure k g p
same h k f g o p a b c = ap (λ x. measure x f o) a ∙ ap (λ x. measure k x o) b ∙ ap (measure k g) c

-- without the cap
abbrev as_is : ℕ → ℕ → Option DesugarFault → Measure
as_is h f o = record { height = h; node_count = f; fault = o }

made : (h k f g : ℕ) (o : Option DesugarFault) → h ≡ k → f ≡ g → as_is h f o ≡ as_is k g o
made h k f g o a b = ap (λ x. as_is x f o) a ∙ ap (λ x. as_is k x o) b

pub capped_above : (h f : ℕ) (o : Option DesugarFault) → measure (h + 1) (f + 1) o ≡ node_measure (measure h f o)
capped_above h f o =
    let e : capped (h + 1) ≡ capped (capped h + 1) = omega arith in
    let d : capped (f + 1) ≡ capped (capped f + 1) = omega arith in
    made (capped (h + 1)) (capped (capped h + 1)) (capped (f + 1)) (capped (capped f + 1)) o e d

capped_beside : (h k f g : ℕ) (o p : Option DesugarFault) → measure (max h k) (f + g) (earlier_of o p) ≡ side_by_side (measure h f o) (measure k g p)
capped_beside h k f g o p =
    let e : capped (max h k) ≡ capped (max (capped h) (capped k)) = omega arith in
    let d : capped (f + g) ≡ capped (capped f + capped g) = omega arith in
    made (capped (max h k)) (capped (max (capped h) (capped k))) (capped (f + g)) (capped (capped f + capped g)) (earlier_of o p) e d

pub of-Literal : (l : Literal) (fs : List DesugarFault) → of (core.Literal l) fs ≡ leaf (least fs)
of-Literal l fs = same _ _ _ _ _ _ (fold_literal ℕ height_step l) (fold_literal ℕ node_count_step l) refl

pub of-Variable : (v : Variable) (fs : List DesugarFault) → of (core.Variable v) fs ≡ leaf (least fs)
of-Variable v fs = same _ _ _ _ _ _ (fold_variable ℕ height_step v) (fold_variable ℕ node_count_step v) refl

pub of-Unary : (op : Unary) (a : Expr) (fs : List DesugarFault) → of (core.Unary op a) fs ≡ node_measure (of a fs)
of-Unary op a fs = same _ _ _ _ _ _ (fold_unary ℕ height_step op a) (fold_unary ℕ node_count_step op a) refl ∙ capped_above (height a) (node_count a) (least fs)

pub of-UnaryCall : (call : UnaryCall) (a : Expr) (fs : List DesugarFault) → of (core.UnaryCall call a) fs ≡ node_measure (of a fs)
of-UnaryCall call a fs = same _ _ _ _ _ _ (fold_unary_call ℕ height_step call a) (fold_unary_call ℕ node_count_step call a) refl ∙ capped_above (height a) (node_count a) (least fs)

pub of-Field : (a : Expr) (name : List ℕ) (fs : List DesugarFault) → of (core.Field a name) fs ≡ node_measure (of a fs)
of-Field a name fs = same _ _ _ _ _ _ (fold_field ℕ height_step a name) (fold_field ℕ node_count_step a name) refl ∙ capped_above (height a) (node_count a) (least fs)

pub of-Has : (a : Expr) (name : List ℕ) (fs : List DesugarFault) → of (core.Has a name) fs ≡ node_measure (of a fs)
of-Has a name fs = same _ _ _ _ _ _ (fold_has ℕ height_step a name) (fold_has ℕ node_count_step a name) refl ∙ capped_above (height a) (node_count a) (least fs)

pub of-Set : (es : List Expr) (fs : List DesugarFault) → of (core.Set es) fs ≡ node_measure (of_row es fs)
of-Set es fs = same _ _ _ _ _ _ (fold_set ℕ height_step es) (fold_set ℕ node_count_step es) refl ∙ capped_above (greatest (map height es)) (total (map node_count es)) (least fs)

two : (h k f g : ℕ) (fs gs : List DesugarFault) → measure (max h k + 1) (f + g + 1) (least (fs ++ gs)) ≡ paired (measure h f (least fs)) (measure k g (least gs))
two h k f g fs gs =
    ap (measure (max h k + 1) (f + g + 1)) (least-append fs gs) ∙ capped_above (max h k) (f + g) (earlier_of (least fs) (least gs))
    ∙ ap node_measure (capped_beside h k f g (least fs) (least gs))

pub of-And : (a b : Expr) (fs gs : List DesugarFault) → of (core.And a b) (fs ++ gs) ≡ paired (of a fs) (of b gs)
of-And a b fs gs = same _ _ _ _ _ _ (fold_and ℕ height_step a b) (fold_and ℕ node_count_step a b) refl ∙ two (height a) (height b) (node_count a) (node_count b) fs gs

pub of-Or : (a b : Expr) (fs gs : List DesugarFault) → of (core.Or a b) (fs ++ gs) ≡ paired (of a fs) (of b gs)
of-Or a b fs gs = same _ _ _ _ _ _ (fold_or ℕ height_step a b) (fold_or ℕ node_count_step a b) refl ∙ two (height a) (height b) (node_count a) (node_count b) fs gs

pub of-Binary : (op : Binary) (a b : Expr) (fs gs : List DesugarFault) → of (core.Binary op a b) (fs ++ gs) ≡ paired (of a fs) (of b gs)
of-Binary op a b fs gs = same _ _ _ _ _ _ (fold_binary ℕ height_step op a b) (fold_binary ℕ node_count_step op a b) refl ∙ two (height a) (height b) (node_count a) (node_count b) fs gs

pub of-BinaryCall : (call : BinaryCall) (a b : Expr) (fs gs : List DesugarFault) → of (core.BinaryCall call a b) (fs ++ gs) ≡ paired (of a fs) (of b gs)
of-BinaryCall call a b fs gs =
    same _ _ _ _ _ _ (fold_binary_call ℕ height_step call a b) (fold_binary_call ℕ node_count_step call a b) refl ∙ two (height a) (height b) (node_count a) (node_count b) fs gs

three : (a b c : ℕ) → a + b + c + 1 ≡ a + (b + c) + 1
three a b c = omega arith

pub of-If : (a b c : Expr) (fs gs hs : List DesugarFault) → of (core.If a b c) (fs ++ (gs ++ hs)) ≡ node_measure (side_by_side (of a fs) (side_by_side (of b gs) (of c hs)))
of-If a b c fs gs hs =
    same _ _ _ _ _ _ (fold_if ℕ height_step a b c) (fold_if ℕ node_count_step a b c ∙ three (node_count a) (node_count b) (node_count c)) refl
    ∙ two (height a) (max (height b) (height c)) (node_count a) (node_count b + node_count c) fs (gs ++ hs)
    ∙ ap (λ j. node_measure (side_by_side (of a fs) j))
    (ap (measure (max (height b) (height c)) (node_count b + node_count c)) (least-append gs hs) ∙ capped_beside (height b) (height c) (node_count b) (node_count c) (least gs) (least hs))

pub of-compared : (operator : Comparison) (a b : Expr) (fs gs : List DesugarFault) → of (compared operator a b) (fs ++ gs) ≡ measured_compared operator (of a fs) (of b gs)
of-compared is.Less a b fs gs = of-Binary Less a b fs gs
of-compared is.LessOrEqual a b fs gs = of-Binary LessOrEqual a b fs gs
of-compared is.Greater a b fs gs = of-Unary Not (core.Binary LessOrEqual a b) (fs ++ gs) ∙ ap node_measure (of-Binary LessOrEqual a b fs gs)
of-compared is.GreaterOrEqual a b fs gs = of-Unary Not (core.Binary Less a b) (fs ++ gs) ∙ ap node_measure (of-Binary Less a b fs gs)
of-compared is.Equal a b fs gs = of-Binary Equal a b fs gs
of-compared is.NotEqual a b fs gs = of-Unary Not (core.Binary Equal a b) (fs ++ gs) ∙ ap node_measure (of-Binary Equal a b fs gs)
of-compared is.In a b fs gs = of-Binary In a b fs gs

-- rows

greatest-snoc : (ns : List ℕ) (n : ℕ) → greatest (ns ++ n ∷ []) ≡ max (greatest ns) n
greatest-snoc [] n = omega arith
greatest-snoc (m ∷ ns) n = let more : greatest (ns ++ n ∷ []) ≡ max (greatest ns) n = greatest-snoc ns n in omega arith

total-snoc : (ns : List ℕ) (n : ℕ) → total (ns ++ n ∷ []) ≡ total ns + n
total-snoc [] n = omega arith
total-snoc (m ∷ ns) n = let more : total (ns ++ n ∷ []) ≡ total ns + n = total-snoc ns n in omega arith

pub row-snoc : (es : List Expr) (e : Expr) (fs gs : List DesugarFault) → of_row (es ++ e ∷ []) (fs ++ gs) ≡ side_by_side (of_row es fs) (of e gs)
row-snoc es e fs gs =
    same _ _ _ _ _ _ (ap greatest (map-append height es (e ∷ [])) ∙ greatest-snoc (map height es) (height e))
    (ap total (map-append node_count es (e ∷ [])) ∙ total-snoc (map node_count es) (node_count e)) (least-append fs gs)
    ∙ capped_beside (greatest (map height es)) (height e) (total (map node_count es)) (node_count e) (least fs) (least gs)

-- with a row of no expressions, and faults of none
no_row : (h f : ℕ) (fs gs : List DesugarFault) → measure h f (least (fs ++ gs)) ≡ side_by_side (measure h f (least fs)) (of_row [] gs)
no_row h f fs gs =
    let e : capped h ≡ capped (max (capped h) (capped 0)) = omega arith in
    let d : capped f ≡ capped (capped f + capped 0) = omega arith in
    ap (measure h f) (least-append fs gs) ∙ made (capped h) (capped (max (capped h) (capped 0))) (capped f) (capped (capped f + capped 0)) (earlier_of (least fs) (least gs)) e d

row_one : (e : Expr) (fs : List DesugarFault) → of_row (e ∷ []) fs ≡ of e fs
row_one e fs = let a : max (height e) 0 ≡ height e = omega arith in let b : node_count e + 0 ≡ node_count e = omega arith in same _ _ _ _ _ _ a b refl

-- a chain, whatever is put together
pub fused : {S X : Type 0} (told : S → List DesugarFault → Measure) (step : S → X → S) (extra : X → List DesugarFault) (sum : Measure → X → Measure) →
    ((s : S) (fs : List DesugarFault) (x : X) → told (step s x) (fs ++ extra x) ≡ sum (told s fs) x) → (xs : List X) (s : S) (fs : List DesugarFault) →
    told (fold step s xs) (fs ++ flat_map extra xs) ≡ fold sum (told s fs) xs
fused told step extra sum each [] s fs = ap (told s) (append-nil fs)
fused told step extra sum each (x ∷ xs) s fs =
    ap (told (fold step (step s x) xs)) (sym (append_assoc fs (extra x) (flat_map extra xs))) ∙ fused told step extra sum each xs (step s x) (fs ++ extra x)
    ∙ ap (λ j. fold sum j xs) (each s fs x)

pub fold_map : {S X Y : Type 0} (step : S → Y → S) (f : X → Y) (xs : List X) (s : S) → fold step s (map f xs) ≡ fold (λ t x. step t (f x)) s xs
fold_map step f [] s = refl
fold_map step f (x ∷ xs) s = fold_map step f xs (step s (f x))

pub fold_snoc : {X Y : Type 0} (f : X → Y) (xs : List X) (done : List Y) → fold (λ ys x. ys ++ f x ∷ []) done xs ≡ done ++ map f xs
fold_snoc f [] done = sym (append-nil done)
fold_snoc f (x ∷ xs) done = fold_snoc f xs (done ++ f x ∷ []) ∙ append_assoc done (f x ∷ []) (map f xs)

-- calls

apart : (a b : ℕ) → (a ≡ b → ⊥) → nat_eq a b ≡ false
apart a b other = elim (cases_Bool (nat_eq a b)) [ inl y ↦ absurd (other (eqb-true a b y)) | inr x ↦ x ]

some : (n : ℕ) → nat_eq (suc n) 0 ≡ false
some n = apart (suc n) 0 (λ e. omega (arith, e))

several : (n : ℕ) → nat_eq (suc (suc n)) 1 ≡ false
several n = apart (suc (suc n)) 1 (λ e. omega (arith, e))

abbrev of_fault : Bool → ℕ → List DesugarFault
of_fault right at = if right then [] else Arity at ∷ []

refused : (e : DesugarFault) (gs : List DesugarFault) → of no_call (e ∷ gs) ≡ leaf (earlier_of (Some e) (least gs))
refused e gs = of-Literal _ (e ∷ gs)

refused_behind : (e : DesugarFault) (fs gs : List DesugarFault) → of no_call (fs ++ (e ∷ gs)) ≡ leaf (earlier_of (least fs) (earlier_of (Some e) (least gs)))
refused_behind e fs gs = of-Literal _ (fs ++ (e ∷ gs)) ∙ ap leaf (least-append fs (e ∷ gs))

-- a call that is refused for its count of arguments
count_refused : (right : Bool) (at : ℕ) (gs : List DesugarFault) (row : Measure) → right ≡ false → row.fault ≡ least gs →
    of no_call (of_fault right at ++ gs) ≡ called (least (of_fault right at)) (with_fault (least (of_fault right at)) row)
count_refused true at gs row no' is = absurd (cc)
count_refused false at gs row no' is = refused (Arity at) gs ∙ ap (λ o. leaf (earlier_of (Some (Arity at)) o)) (sym is)

method_refused : (right : Bool) (at : ℕ) (e : Expr) (fs gs : List DesugarFault) (row : Measure) → right ≡ false → row.fault ≡ least gs →
    of no_call (fs ++ (of_fault right at ++ gs)) ≡ called (least (of_fault right at)) (side_by_side (of e fs) (with_fault (least (of_fault right at)) row))
method_refused true at e fs gs row no' is = absurd (cc)
method_refused false at e fs gs row no' is = refused_behind (Arity at) fs gs ∙ ap (λ o. leaf (earlier_of (least fs) (earlier_of (Some (Arity at)) o))) (sym is)

pub of-called : (f : Option UnaryCall) (at : ℕ) (es : List Expr) (gs : List DesugarFault) →
    of (spec.called f es) (call_faults at (function_takes f) (length es) ++ gs)
    ≡ called (least (call_faults at (function_takes f) (length es))) (with_fault (least (call_faults at (function_takes f) (length es))) (of_row es gs))
of-called None at es gs = refused (UnknownCall at) gs
of-called (Some f) at [] gs = refused (Arity at) gs
of-called (Some f) at (e ∷ []) gs = of-UnaryCall f e gs ∙ ap node_measure (sym (row_one e gs))
of-called (Some f) at (e ∷ (d ∷ es)) gs = count_refused (nat_eq (suc (suc (length es))) 1) at gs (of_row (e ∷ (d ∷ es)) gs) (several (length es)) refl

pub of-method : (m : Option Method) (at : ℕ) (e : Expr) (fs : List DesugarFault) (es : List Expr) (gs : List DesugarFault) →
    of (method_called m e es) (fs ++ (call_faults at (method_takes m) (length es) ++ gs))
    ≡ called (least (call_faults at (method_takes m) (length es))) (side_by_side (of e fs) (with_fault (least (call_faults at (method_takes m) (length es))) (of_row es gs)))
of-method None at e fs es gs = refused_behind (UnknownCall at) fs gs
of-method (Some (method.Alone call)) at e fs [] gs =
    of-UnaryCall call e (fs ++ gs)
    ∙ ap node_measure (no_row (height e) (node_count e) fs gs)
of-method (Some (method.Alone call)) at e fs (x ∷ xs) gs = method_refused (nat_eq (suc (length xs)) 0) at e fs gs (of_row (x ∷ xs) gs) (some (length xs)) refl
of-method (Some (method.Operator op)) at e fs [] gs = refused_behind (Arity at) fs gs
of-method (Some (method.Operator op)) at e fs (x ∷ []) gs = of-Binary op e x fs gs ∙ ap (paired (of e fs)) (sym (row_one x gs))
of-method (Some (method.Operator op)) at e fs (x ∷ (y ∷ xs)) gs =
    method_refused (nat_eq (suc (suc (length xs))) 1) at e fs gs (of_row (x ∷ (y ∷ xs)) gs) (several (length xs)) refl
of-method (Some (method.WithArgument call)) at e fs [] gs = refused_behind (Arity at) fs gs
of-method (Some (method.WithArgument call)) at e fs (x ∷ []) gs = of-BinaryCall call e x fs gs ∙ ap (paired (of e fs)) (sym (row_one x gs))
of-method (Some (method.WithArgument call)) at e fs (x ∷ (y ∷ xs)) gs =
    method_refused (nat_eq (suc (suc (length xs))) 1) at e fs gs (of_row (x ∷ (y ∷ xs)) gs) (several (length xs)) refl
