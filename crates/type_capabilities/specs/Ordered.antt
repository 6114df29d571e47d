-- Defines the proof that the order of expressions is that of their lists of node codes (NodeCodes), and so is total and
-- antisymmetric.
use Rattle.std.specs.Prelude.{◌≡◌, ℕ, List, [], ◌∷◌, ◌++◌, map, length, Bool, true, false, refl}
use Rattle.std.proofs.Common.{ap, sym, ◌∙◌, append_assoc, arith}
use Rattle.std.proofs.lemmas.List.{append-nil}
use Rattle.std.specs.declared.cmp.Ordering.{Ordering}
use Rattle.std.specs.declared.cmp.Ordering.TheVariants.{Less, Equal, Greater}
use Rattle.std.specs.Ordering.{ordering_then, ordering_reverse, nat_cmp, int_cmp, bool_cmp, on, then_cmp}
use Rattle.std.specs.Cmp.{IsTotalOrder}
use Rattle.std.specs.Cmp.Lexicographic.{slice_cmp}
use Rattle.std.specs.FinMap.{IsAntisymmetric, nat_cmp-IsAntisymmetric, int_cmp-IsAntisymmetric}
use Rattle.std.specs.FinMap.{slice_cmp-IsAntisymmetric}
use Rattle.std.proofs.lemmas.Cmp.{on_total, lists_total, nat_cmp_total, int_cmp_total, nat_list_cmp_total, then_total}
use Rattle.values.specs.Uids.{text_cmp, text_cmp-IsAntisymmetric}
use Rattle.grammar_core.specs.declared.leaf.Literal.{Literal}
use Rattle.grammar_core.specs.declared.leaf.Literal.TheVariants as literal
use Rattle.grammar_core.specs.declared.leaf.Variable.{Variable}
use Rattle.grammar_core.specs.declared.operator.Unary.{Unary}
use Rattle.grammar_core.specs.declared.operator.Unary.TheVariants as unary
use Rattle.grammar_core.specs.declared.operator.Binary.{Binary}
use Rattle.grammar_core.specs.declared.operator.UnaryCall.{UnaryCall}
use Rattle.grammar_core.specs.declared.operator.BinaryCall.{BinaryCall}
use Rattle.grammar_core.specs.declared.expr.Named.{Named}
use Rattle.grammar_core.specs.declared.expr.Expr.{Expr}
use Rattle.grammar_core.specs.declared.expr.Expr.TheVariants as form
use Rattle.grammar_core.specs.declared.expr.Expr.TheViews.{out-Expr}
use Rattle.grammar_core.specs.declared.expr.Expr.TheOpen.{Expr-F}
use Rattle.grammar_core.proofs.Forms.{Every, Cases, by_forms, fold_literal, fold_variable, fold_if, fold_and}
use Rattle.grammar_core.proofs.Forms.{fold_or, fold_unary, fold_binary, fold_field, fold_has, fold_set, fold_record}
use Rattle.grammar_core.proofs.Forms.{fold_unary_call, fold_binary_call}
use Rattle.type_capabilities.specs.Order.{expr_cmp, layers_cmp, literal_cmp, unary_cmp, each_cmp, names, names_cmp}
use Rattle.grammar_core.specs.Operators.{variable_rank, binary_rank, unary_call_rank, binary_call_rank}
use Rattle.type_capabilities.specs.NodeCodes.{Content, NodeCode, literal_content, unary_content, joined}
use Rattle.type_capabilities.specs.NodeCodes.{node_codes, codes_step, layer_codes, codes_out, codes_set, codes_record}
use Rattle.type_capabilities.specs.NodeCodes.{same_length, every_value, same_from_codes, as_number}

-- `content_cmp`, `code_cmp` and `codes_cmp` are the orders of contents, of node codes and of lists of node codes.
abbrev content_cmp : Content → Content → Ordering
content_cmp = then_cmp (on (λ t. t.0) nat_cmp) (then_cmp (on (λ t. t.1.0) nat_cmp)
    (then_cmp (on (λ t. t.1.1.0) int_cmp) (on (λ t. t.1.1.1) (slice_cmp text_cmp))))

abbrev code_cmp : NodeCode → NodeCode → Ordering
code_cmp = then_cmp (on (λ t. t.0) nat_cmp) (on (λ t. t.1) content_cmp)

abbrev codes_cmp : List NodeCode → List NodeCode → Ordering
codes_cmp = slice_cmp code_cmp

-- `then_equal`, `then_assoc` and `both_equal`: `ordering_then` has `Equal` as right identity, is associative, and gives
-- `Equal` only for two `Equal`.
then_equal : (o : Ordering) → ordering_then o Equal ≡ o
then_equal Less = refl
then_equal Equal = refl
then_equal Greater = refl

then_assoc : (o p q : Ordering) → ordering_then (ordering_then o p) q ≡ ordering_then o (ordering_then p q)
then_assoc Less p q = refl
then_assoc Equal p q = refl
then_assoc Greater p q = refl

both_equal : (o p : Ordering) → ordering_then o p ≡ Equal → (o ≡ Equal) × (p ≡ Equal)
both_equal Less p e = absurd (cc)
both_equal Equal p e = (refl, e)
both_equal Greater p e = absurd (cc)

-- ---- content

-- Booleans compare as their numbers, literals and unary operators as their contents.
bool_by_number : (a b : Bool) → int_cmp (as_number a) (as_number b) ≡ bool_cmp a b
bool_by_number false false = refl
bool_by_number false true = refl
bool_by_number true false = refl
bool_by_number true true = refl

literal_by_content : (l m : Literal) → content_cmp (literal_content l) (literal_content m) ≡ literal_cmp l m
literal_by_content (literal.Boolean a) (literal.Boolean b) = then_equal _ ∙ bool_by_number a b
literal_by_content (literal.Long y) (literal.Long z) = then_equal (int_cmp y z)
literal_by_content (literal.Text s) (literal.Text t) = then_equal (text_cmp s t)
literal_by_content (literal.Entity u) (literal.Entity v) =
    ap (ordering_then (text_cmp u.type_name v.type_name)) (then_equal (text_cmp u.id v.id))
literal_by_content l m = refl

unary_by_content : (o p : Unary) → content_cmp (unary_content o) (unary_content p) ≡ unary_cmp o p
unary_by_content unary.Not unary.Not = refl
unary_by_content unary.Negate unary.Negate = refl
unary_by_content (unary.Like p) (unary.Like q) = refl
unary_by_content (unary.Is m) (unary.Is n) = then_equal (text_cmp m n)
unary_by_content o p = refl

-- ---- operands

-- `IsByCodes x` holds if `x` compares with any expression as their node codes do, with any codes after them.
abbrev IsByCodes : Expr → Type 0
IsByCodes x = (y : Expr) (s t : List NodeCode)
    → ordering_then (expr_cmp x y) (codes_cmp s t) ≡ codes_cmp (node_codes x ++ s) (node_codes y ++ t)

-- `AreByCodes o xs ys` holds if the node codes of the operands `xs` and `ys`, with any codes after them, compare as `o`
-- and then as the codes after them.
abbrev AreByCodes : Ordering → List Expr → List Expr → Type 0
AreByCodes o xs ys = (s t : List NodeCode) → ordering_then o (codes_cmp s t)
    ≡ codes_cmp (joined (map node_codes xs) ++ s) (joined (map node_codes ys) ++ t)

-- `one_more`: one more operand on each side is compared before the others. The next lemmas compare no operand, one,
-- two, three, and lists of equal length.
one_more : (x y : Expr) (xs ys : List Expr) (o : Ordering) → IsByCodes x → AreByCodes o xs ys
    → AreByCodes (ordering_then (expr_cmp x y) o) (x ∷ xs) (y ∷ ys)
one_more x y xs ys o h g s t =
    then_assoc (expr_cmp x y) o (codes_cmp s t)
    ∙ (ap (ordering_then (expr_cmp x y)) (g s t)
    ∙ (h y (joined (map node_codes xs) ++ s) (joined (map node_codes ys) ++ t)
    ∙ (ap (λ us. codes_cmp us (node_codes y ++ (joined (map node_codes ys) ++ t)))
    (sym (append_assoc (node_codes x) (joined (map node_codes xs)) s))
    ∙ ap (λ us. codes_cmp ((node_codes x ++ joined (map node_codes xs)) ++ s) us)
    (sym (append_assoc (node_codes y) (joined (map node_codes ys)) t)))))

none_left : AreByCodes Equal [] []
none_left s t = refl

last_one : (x y : Expr) → IsByCodes x → AreByCodes (expr_cmp x y) (x ∷ []) (y ∷ [])
last_one x y h s t =
    ap (λ o. ordering_then o (codes_cmp s t)) (sym (then_equal (expr_cmp x y)))
    ∙ one_more x y [] [] Equal h none_left s t

two : (a b c d : Expr) → IsByCodes a → IsByCodes b
    → AreByCodes (ordering_then (expr_cmp a c) (expr_cmp b d)) (a ∷ b ∷ []) (c ∷ d ∷ [])
two a b c d f g = one_more a c (b ∷ []) (d ∷ []) (expr_cmp b d) f (last_one b d g)

three : (a b c d e f : Expr) → IsByCodes a → IsByCodes b → IsByCodes c
    → AreByCodes (ordering_then (ordering_then (expr_cmp a d) (expr_cmp b e)) (expr_cmp c f)) (a ∷ b ∷ c ∷ [])
    (d ∷ e ∷ f ∷ [])
three a b c d e f g h k s t =
    ap (λ o. ordering_then o (codes_cmp s t)) (then_assoc (expr_cmp a d) (expr_cmp b e) (expr_cmp c f))
    ∙ one_more a d (b ∷ c ∷ []) (e ∷ f ∷ []) (ordering_then (expr_cmp b e) (expr_cmp c f)) g (two b c e f h k) s t

as_many : (xs ys : List Expr) → Every IsByCodes xs → length xs ≡ length ys
    → AreByCodes (each_cmp (map expr_cmp xs) ys) xs ys
as_many [] [] h e = none_left
as_many [] (y ∷ ys) h e = absurd (omega (arith, e))
as_many (x ∷ xs) [] h e = absurd (omega (arith, e))
as_many (x ∷ xs) (y ∷ ys) h e =
    one_more x y xs ys (each_cmp (map expr_cmp xs) ys) h.0 (as_many xs ys h.1 (omega (arith, e)))

-- `headed`: let contents compare as `o`, and operands as `p`. If, for equal contents, `p` and then `t` give `r`, then
-- `o`, `p` and `t`, one after another, give what `o` and then `r` give.
headed : (o p : Ordering) (t r : Ordering) → (o ≡ Equal → ordering_then p t ≡ r)
    → ordering_then (ordering_then o p) t ≡ ordering_then o r
headed Less p t r h = refl
headed Equal p t r h = h refl
headed Greater p t r h = refl

-- `headed_as`: the same with `k` in place of `o` before `r`, where the node codes of the contents compare as `k`, which
-- equals `o`.
headed_as : (o k p t r : Ordering) → k ≡ o → (o ≡ Equal → ordering_then p t ≡ r)
    → ordering_then (ordering_then o p) t ≡ ordering_then k r
headed_as o k p t r e h = headed o p t r h ∙ ap (λ z. ordering_then z r) (sym e)

-- ---- kinds of expressions

-- `LayerIs f l m` holds if the nodes `l` and `m` compare as their node codes do, where `f` is `l` with each operand
-- replaced by its comparison with other expressions.
abbrev LayerIs : Expr-F (Expr → Ordering) → Expr-F Expr → Expr-F Expr → Type 0
LayerIs f l m = (s t : List NodeCode)
    → ordering_then (layers_cmp f m) (codes_cmp s t) ≡ codes_cmp (layer_codes l ++ s) (layer_codes m ++ t)

-- The lemmas `at_..`, one for each kind: a node of this kind compares with any node as their node codes do.
at_literal : (l : Literal) (m : Expr-F Expr) → LayerIs (Expr-F.Literal l) (Expr-F.Literal l) m
at_literal l (Expr-F.Literal m) s t = ap (λ o. ordering_then o (codes_cmp s t)) (sym (literal_by_content l m))
at_literal l m s t = refl

at_variable : (x : Variable) (m : Expr-F Expr) → LayerIs (Expr-F.Variable x) (Expr-F.Variable x) m
at_variable x (Expr-F.Variable y) s t =
    ap (λ o. ordering_then o (codes_cmp s t)) (sym (then_equal (nat_cmp (variable_rank x) (variable_rank y))))
at_variable x m s t = refl

at_if : (a b c : Expr) → IsByCodes a → IsByCodes b → IsByCodes c → (m : Expr-F Expr)
    → LayerIs (Expr-F.If (expr_cmp a) (expr_cmp b) (expr_cmp c)) (Expr-F.If a b c) m
at_if a b c f g h (Expr-F.If d e i) s t = three a b c d e i f g h s t
at_if a b c f g h m s t = refl

at_and : (a b : Expr) → IsByCodes a → IsByCodes b → (m : Expr-F Expr)
    → LayerIs (Expr-F.And (expr_cmp a) (expr_cmp b)) (Expr-F.And a b) m
at_and a b f g (Expr-F.And c d) s t = two a b c d f g s t
at_and a b f g m s t = refl

at_or : (a b : Expr) → IsByCodes a → IsByCodes b → (m : Expr-F Expr)
    → LayerIs (Expr-F.Or (expr_cmp a) (expr_cmp b)) (Expr-F.Or a b) m
at_or a b f g (Expr-F.Or c d) s t = two a b c d f g s t
at_or a b f g m s t = refl

at_unary : (o : Unary) (a : Expr) → IsByCodes a → (m : Expr-F Expr)
    → LayerIs (Expr-F.Unary o (expr_cmp a)) (Expr-F.Unary o a) m
at_unary o a f (Expr-F.Unary p b) s t =
    headed_as (unary_cmp o p) _ (expr_cmp a b) (codes_cmp s t) _ (unary_by_content o p) (λ e. last_one a b f s t)
at_unary o a f m s t = refl

at_binary : (o : Binary) (a b : Expr) → IsByCodes a → IsByCodes b → (m : Expr-F Expr)
    → LayerIs (Expr-F.Binary o (expr_cmp a) (expr_cmp b)) (Expr-F.Binary o a b) m
at_binary o a b f g (Expr-F.Binary p c d) s t =
    let r = nat_cmp (binary_rank o) (binary_rank p) in
    ap (λ z. ordering_then z (codes_cmp s t)) (then_assoc r (expr_cmp a c) (expr_cmp b d))
    ∙ headed_as r (ordering_then r Equal) (ordering_then (expr_cmp a c) (expr_cmp b d))
    (codes_cmp s t) _ (then_equal r)
    (λ e. two a b c d f g s t)
at_binary o a b f g m s t = refl

at_field : (a : Expr) (k : List ℕ) → IsByCodes a → (m : Expr-F Expr)
    → LayerIs (Expr-F.Field (expr_cmp a) k) (Expr-F.Field a k) m
at_field a k f (Expr-F.Field b l) s t =
    headed_as (text_cmp k l) (ordering_then (text_cmp k l) Equal) (expr_cmp a b) (codes_cmp s t) _
    (then_equal (text_cmp k l)) (λ e. last_one a b f s t)
at_field a k f m s t = refl

at_has : (a : Expr) (k : List ℕ) → IsByCodes a → (m : Expr-F Expr)
    → LayerIs (Expr-F.Has (expr_cmp a) k) (Expr-F.Has a k) m
at_has a k f (Expr-F.Has b l) s t =
    headed_as (text_cmp k l) (ordering_then (text_cmp k l) Equal) (expr_cmp a b) (codes_cmp s t) _
    (then_equal (text_cmp k l)) (λ e. last_one a b f s t)
at_has a k f m s t = refl

at_set : (xs : List Expr) → Every IsByCodes xs → (m : Expr-F Expr)
    → LayerIs (Expr-F.Set (map expr_cmp xs)) (Expr-F.Set xs) m
at_set xs h (Expr-F.Set ys) s t =
    let o = nat_cmp (length xs) (length ys) in
    let X = each_cmp (map expr_cmp xs) ys in
    ap (λ n. ordering_then (ordering_then (nat_cmp n (length ys)) X) (codes_cmp s t)) (same_length expr_cmp xs)
    ∙ headed_as o (ordering_then o Equal) X (codes_cmp s t) _ (then_equal o)
    (λ e. as_many xs ys h (nat_cmp-IsAntisymmetric (length xs) (length ys) e) s t)
at_set xs h m s t = refl

-- `compared_fields fs` are the fields `fs`, each value replaced by its comparison with other expressions.
abbrev compared_fields : List (Named Expr) → List (Named (Expr → Ordering))
compared_fields fs = map (λ f. record { name = f.name; value = expr_cmp f.value }) fs

compared_names : (fs : List (Named Expr)) → names (compared_fields fs) ≡ names fs
compared_names [] = refl
compared_names (f ∷ fs) = ap (λ ks. f.name ∷ ks) (compared_names fs)

compared_values : (fs : List (Named Expr))
    → map (λ f. f.value) (compared_fields fs) ≡ map expr_cmp (map (λ f. f.value) fs)
compared_values [] = refl
compared_values (f ∷ fs) = ap (λ vs. expr_cmp f.value ∷ vs) (compared_values fs)

-- `fields_cmp n ks vs gs` compares a record of `n` fields, with the names `ks` and values that compare as `vs`, with
-- the record of the fields `gs`.
abbrev fields_cmp : ℕ → List (List ℕ) → List (Expr → Ordering) → List (Named Expr) → Ordering
fields_cmp n ks vs gs =
    ordering_then (ordering_then (nat_cmp n (length gs)) (slice_cmp text_cmp ks (names gs)))
    (each_cmp vs (map (λ g. g.value) gs))

at_record : (fs : List (Named Expr)) → Every (λ f. IsByCodes f.value) fs → (m : Expr-F Expr)
    → LayerIs (Expr-F.Record (compared_fields fs)) (Expr-F.Record fs) m
at_record fs h (Expr-F.Record gs) s t =
    let xs = map (λ f. f.value) fs in
    let ys = map (λ g. g.value) gs in
    let o = ordering_then (nat_cmp (length fs) (length gs)) (names_cmp fs gs) in
    ap (λ n. ordering_then (fields_cmp n (names (compared_fields fs)) (map (λ f. f.value) (compared_fields fs)) gs)
    (codes_cmp s t))
    (same_length {X = Named Expr} {Y = Named (Expr → Ordering)}
    (λ f. record { name = f.name; value = expr_cmp f.value }) fs)
    ∙ (ap (λ ks. ordering_then (fields_cmp (length fs) ks (map (λ f. f.value) (compared_fields fs)) gs)
    (codes_cmp s t))
    (compared_names fs)
    ∙ (ap (λ vs. ordering_then (fields_cmp (length fs) (names fs) vs gs) (codes_cmp s t)) (compared_values fs)
    ∙ headed o (each_cmp (map expr_cmp xs) ys) (codes_cmp s t) _
    (λ e. as_many xs ys (every_value IsByCodes fs h)
    (same_length {X = Named Expr} {Y = Expr} (λ f. f.value) fs
    ∙ (nat_cmp-IsAntisymmetric (length fs) (length gs)
    (both_equal (nat_cmp (length fs) (length gs)) (names_cmp fs gs) e).0
    ∙ sym (same_length {X = Named Expr} {Y = Expr} (λ g. g.value) gs))) s t)))
at_record fs h m s t = refl

at_unary_call : (c : UnaryCall) (a : Expr) → IsByCodes a → (m : Expr-F Expr)
    → LayerIs (Expr-F.UnaryCall c (expr_cmp a)) (Expr-F.UnaryCall c a) m
at_unary_call c a f (Expr-F.UnaryCall d b) s t =
    let r = nat_cmp (unary_call_rank c) (unary_call_rank d) in
    headed_as r (ordering_then r Equal) (expr_cmp a b) (codes_cmp s t) _ (then_equal r) (λ e. last_one a b f s t)
at_unary_call c a f m s t = refl

at_binary_call : (o : BinaryCall) (a b : Expr) → IsByCodes a → IsByCodes b → (m : Expr-F Expr)
    → LayerIs (Expr-F.BinaryCall o (expr_cmp a) (expr_cmp b)) (Expr-F.BinaryCall o a b) m
at_binary_call o a b f g (Expr-F.BinaryCall p c d) s t =
    let r = nat_cmp (binary_call_rank o) (binary_call_rank p) in
    ap (λ z. ordering_then z (codes_cmp s t)) (then_assoc r (expr_cmp a c) (expr_cmp b d))
    ∙ headed_as r (ordering_then r Equal) (ordering_then (expr_cmp a c) (expr_cmp b d))
    (codes_cmp s t) _ (then_equal r)
    (λ e. two a b c d f g s t)
at_binary_call o a b f g m s t = refl

-- `from_layer`: an expression compares with any other as their node codes do, if its node does.
from_layer : (x : Expr) (f : Expr-F (Expr → Ordering)) (l : Expr-F Expr)
    → expr_cmp x ≡ (λ y. layers_cmp f (out-Expr y)) → node_codes x ≡ layer_codes l
    → ((m : Expr-F Expr) → LayerIs f l m) → IsByCodes x
from_layer x f l e d h y s t =
    ap (λ g. ordering_then (g y) (codes_cmp s t)) e
    ∙ (h (out-Expr y) s t
    ∙ sym (ap (λ us. codes_cmp (us ++ s) (node_codes y ++ t)) d
    ∙ ap (λ us. codes_cmp (layer_codes l ++ s) (us ++ t)) (codes_out y)))

-- `compare_step l y` compares the node `l`, given how its operands compare with other expressions, with the expression
-- `y`. `Comparison` and `NodeCodeList` are the types to which `compare_step` and `codes_step` fold an expression.
abbrev compare_step : Expr-F (Expr → Ordering) → Expr → Ordering
compare_step l y = layers_cmp l (out-Expr y)

abbrev Comparison : Type 0
Comparison = Expr → Ordering

abbrev NodeCodeList : Type 0
NodeCodeList = List NodeCode

-- `all_by_codes`: an expression of each kind compares with any other as their node codes do, if its operands do.
all_by_codes : Cases IsByCodes
all_by_codes = record {
  literal = λ l. from_layer (form.Literal l) (Expr-F.Literal l) (Expr-F.Literal l)
      (fold_literal Comparison compare_step l)
      (fold_literal NodeCodeList codes_step l) (at_literal l);
  variable = λ x. from_layer (form.Variable x) (Expr-F.Variable x) (Expr-F.Variable x)
      (fold_variable Comparison compare_step x)
      (fold_variable NodeCodeList codes_step x) (at_variable x);
  if_form = λ a b c f g h. from_layer (form.If a b c) (Expr-F.If (expr_cmp a) (expr_cmp b) (expr_cmp c))
      (Expr-F.If a b c) (fold_if Comparison compare_step a b c) (fold_if NodeCodeList codes_step a b c)
      (at_if a b c f g h);
  and_form = λ a b f g. from_layer (form.And a b) (Expr-F.And (expr_cmp a) (expr_cmp b)) (Expr-F.And a b)
      (fold_and Comparison compare_step a b) (fold_and NodeCodeList codes_step a b) (at_and a b f g);
  or_form = λ a b f g. from_layer (form.Or a b) (Expr-F.Or (expr_cmp a) (expr_cmp b)) (Expr-F.Or a b)
      (fold_or Comparison compare_step a b) (fold_or NodeCodeList codes_step a b) (at_or a b f g);
  unary = λ o a f. from_layer (form.Unary o a) (Expr-F.Unary o (expr_cmp a)) (Expr-F.Unary o a)
      (fold_unary Comparison compare_step o a) (fold_unary NodeCodeList codes_step o a) (at_unary o a f);
  binary = λ o a b f g. from_layer (form.Binary o a b) (Expr-F.Binary o (expr_cmp a) (expr_cmp b))
      (Expr-F.Binary o a b) (fold_binary Comparison compare_step o a b) (fold_binary NodeCodeList codes_step o a b)
      (at_binary o a b f g);
  field = λ a k f. from_layer (form.Field a k) (Expr-F.Field (expr_cmp a) k) (Expr-F.Field a k)
      (fold_field Comparison compare_step a k) (fold_field NodeCodeList codes_step a k) (at_field a k f);
  has = λ a k f. from_layer (form.Has a k) (Expr-F.Has (expr_cmp a) k) (Expr-F.Has a k)
      (fold_has Comparison compare_step a k) (fold_has NodeCodeList codes_step a k) (at_has a k f);
  set = λ xs h. from_layer (form.Set xs) (Expr-F.Set (map expr_cmp xs)) (Expr-F.Set xs)
      (fold_set Comparison compare_step xs)
      (codes_set xs) (at_set xs h);
  record_form = λ fs h. from_layer (form.Record fs) (Expr-F.Record (compared_fields fs)) (Expr-F.Record fs)
      (fold_record Comparison compare_step fs) (codes_record fs) (at_record fs h);
  unary_call = λ c a f. from_layer (form.UnaryCall c a) (Expr-F.UnaryCall c (expr_cmp a)) (Expr-F.UnaryCall c a)
      (fold_unary_call Comparison compare_step c a) (fold_unary_call NodeCodeList codes_step c a) (at_unary_call c a f);
  binary_call = λ c a b f g. from_layer (form.BinaryCall c a b) (Expr-F.BinaryCall c (expr_cmp a) (expr_cmp b))
      (Expr-F.BinaryCall c a b) (fold_binary_call Comparison compare_step c a b)
      (fold_binary_call NodeCodeList codes_step c a b)
      (at_binary_call c a b f g);
}

-- `by_codes`: expressions compare as their node codes do.
by_codes : (x y : Expr) → expr_cmp x y ≡ codes_cmp (node_codes x) (node_codes y)
by_codes x y =
    sym (then_equal (expr_cmp x y)) ∙ (by_forms IsByCodes all_by_codes x y [] []
    ∙ (ap (λ us. codes_cmp us (node_codes y ++ [])) (append-nil (node_codes x))
    ∙ ap (λ us. codes_cmp (node_codes x) us) (append-nil (node_codes y))))

-- The orders of contents, and of expressions by their node codes, are total.
content_cmp_total : IsTotalOrder content_cmp
content_cmp_total = then_total (on_total (λ t. t.0) nat_cmp_total) (then_total (on_total (λ t. t.1.0) nat_cmp_total)
    (then_total (on_total (λ t. t.1.1.0) int_cmp_total) (on_total (λ t. t.1.1.1) (lists_total nat_list_cmp_total))))

by_codes_total : IsTotalOrder (on node_codes codes_cmp)
by_codes_total = on_total node_codes
    (lists_total (then_total (on_total (λ t. t.0) nat_cmp_total) (on_total (λ t. t.1) content_cmp_total)))

-- The order of expressions is total.
pub expr_cmp-IsTotalOrder : IsTotalOrder expr_cmp
expr_cmp-IsTotalOrder = record {
  antisymm = λ x y. by_codes x y ∙ (by_codes_total.antisymm x y ∙ ap ordering_reverse (sym (by_codes y x)));
  trans = λ x y z h k. by_codes x z ∙ by_codes_total.trans x y z (sym (by_codes x y) ∙ h) (sym (by_codes y z) ∙ k);
  congr = λ x y z h. by_codes x z ∙ (by_codes_total.congr x y z (sym (by_codes x y) ∙ h) ∙ sym (by_codes y z));
}

-- Contents with equal parts are equal. Only equal contents, and only equal node codes, compare as equal.
same_content : (x y : Content) → x.0 ≡ y.0 → x.1.0 ≡ y.1.0 → x.1.1.0 ≡ y.1.1.0 → x.1.1.1 ≡ y.1.1.1 → x ≡ y
same_content x y p q r s =
    ap (λ n. (n, x.1)) p ∙ (ap (λ n. (y.0, (n, x.1.1))) q
    ∙ (ap (λ n. (y.0, (y.1.0, (n, x.1.1.1)))) r ∙ ap (λ n. (y.0, (y.1.0, (y.1.1.0, n)))) s))

content_same : IsAntisymmetric content_cmp
content_same x y e =
    let a = both_equal (nat_cmp x.0 y.0) _ e in
    let b = both_equal (nat_cmp x.1.0 y.1.0) _ a.1 in
    let c = both_equal (int_cmp x.1.1.0 y.1.1.0) _ b.1 in
    same_content x y (nat_cmp-IsAntisymmetric x.0 y.0 a.0) (nat_cmp-IsAntisymmetric x.1.0 y.1.0 b.0)
    (int_cmp-IsAntisymmetric x.1.1.0 y.1.1.0 c.0)
    (slice_cmp-IsAntisymmetric text_cmp-IsAntisymmetric x.1.1.1 y.1.1.1 c.1)

code_same : IsAntisymmetric code_cmp
code_same x y e =
    let a = both_equal (nat_cmp x.0 y.0) _ e in
    ap (λ n. (n, x.1)) (nat_cmp-IsAntisymmetric x.0 y.0 a.0) ∙ ap (λ c. (y.0, c)) (content_same x.1 y.1 a.1)

-- Only equal expressions compare as equal.
pub expr_cmp-IsAntisymmetric : IsAntisymmetric expr_cmp
expr_cmp-IsAntisymmetric x y e =
    same_from_codes x y
    (slice_cmp-IsAntisymmetric code_same (node_codes x) (node_codes y) (sym (by_codes x y) ∙ e))
