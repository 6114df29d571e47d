-- Defines the representation of an expression as a list of node codes. The first is the node code of the expression's
-- kind and its content other than operands; the node codes of its operands follow, from the left. The list determines
-- the expression, and expressions are ordered as their lists.
-- Rules of this product: this representation.
use Rattle.std.specs.Prelude.{
  ◌≡◌,
  ℕ,
  suc,
  ℤ,
  pos,
  List,
  [],
  ◌∷◌,
  ◌++◌,
  map,
  length,
  take,
  drop,
  Bool,
  true,
  false,
  cond,
  ◌==◌,
  refl,
}
use Rattle.std.proofs.Common.{ap, sym, ◌∙◌, append_assoc}
use Rattle.std.proofs.lemmas.List.{append-nil}
use Rattle.grammar_core.specs.declared.leaf.Literal.{Literal}
use Rattle.grammar_core.specs.declared.leaf.Literal.TheVariants as literal
use Rattle.grammar_core.specs.declared.operator.Unary.{Unary}
use Rattle.grammar_core.specs.declared.operator.Unary.TheVariants as unary
use Rattle.grammar_core.specs.declared.expr.Named.{Named}
use Rattle.grammar_core.specs.declared.expr.Expr.{Expr}
use Rattle.grammar_core.specs.declared.expr.Expr.TheVariants as form
use Rattle.grammar_core.specs.declared.expr.Expr.TheViews.{roll-Expr, out-Expr, roll-out-Expr}
use Rattle.grammar_core.specs.declared.expr.Expr.TheOpen.{Expr-F}
use Rattle.grammar_core.specs.declared.expr.Expr.TheFolds.{fold-Expr}
use Rattle.grammar_core.proofs.Forms.{Every, Cases, by_forms, field_all, fold_literal, fold_variable, fold_if, fold_and}
use Rattle.grammar_core.proofs.Forms.{fold_or, fold_unary, fold_binary, fold_field, fold_has, fold_set, fold_record}
use Rattle.grammar_core.proofs.Forms.{fold_unary_call, fold_binary_call}
use Rattle.type_capabilities.specs.Order.{names}
use Rattle.grammar_core.specs.Operators.{variable_rank, variable_of, variable_back}
use Rattle.grammar_core.specs.Operators.{binary_rank, binary_of, binary_back}
use Rattle.grammar_core.specs.Operators.{unary_call_rank, unary_call_of, unary_call_back}
use Rattle.grammar_core.specs.Operators.{binary_call_rank, binary_call_of, binary_call_back}

-- A `Content` is the content of an expression other than operands: a rank, a count, a number, and strings.
abbrev pub Content : Type 0
Content = ℕ × (ℕ × (ℤ × List (List ℕ)))

-- A `NodeCode` is the kind of an expression, with its content.
abbrev pub NodeCode : Type 0
NodeCode = ℕ × Content

-- `as_number b` is 1 if `b`, else 0.
abbrev pub as_number : Bool → ℤ
as_number false = pos 0
as_number true = pos 1

-- `is_one z` tests whether `z` is 1.
abbrev is_one : ℤ → Bool
is_one (pos n) = n == 1
is_one z = false

is_one-as_number : (b : Bool) → is_one (as_number b) ≡ b
is_one-as_number false = refl
is_one-as_number true = refl

-- `nothing` is the content of an expression that has only operands.
abbrev nothing : Content
nothing = (0, (0, (pos 0, [])))

-- `literal_content l` is the content of the literal `l`.
abbrev pub literal_content : Literal → Content
literal_content (literal.Boolean b) = (0, (0, (as_number b, [])))
literal_content (literal.Long z) = (1, (0, (z, [])))
literal_content (literal.Text s) = (2, (0, (pos 0, s ∷ [])))
literal_content (literal.Entity u) = (3, (0, (pos 0, u.type_name ∷ u.id ∷ [])))

-- `unary_content o` is the content of the operator `o`.
abbrev pub unary_content : Unary → Content
unary_content unary.Not = (0, (0, (pos 0, [])))
unary_content unary.Negate = (1, (0, (pos 0, [])))
unary_content (unary.Like p) = (2, (length p, (pos 0, p)))
unary_content (unary.Is n) = (3, (0, (pos 0, n ∷ [])))

-- `head l` is the node code of the kind and the content of the node `l`.
abbrev pub head : {X : Type 0} → Expr-F X → NodeCode
head (Expr-F.Literal l) = (0, literal_content l)
head (Expr-F.Variable x) = (1, (variable_rank x, (0, (pos 0, []))))
head (Expr-F.If a b c) = (2, nothing)
head (Expr-F.And a b) = (3, nothing)
head (Expr-F.Or a b) = (4, nothing)
head (Expr-F.Unary o a) = (5, unary_content o)
head (Expr-F.Binary o a b) = (6, (binary_rank o, (0, (pos 0, []))))
head (Expr-F.Field a k) = (7, (0, (0, (pos 0, k ∷ []))))
head (Expr-F.Has a k) = (8, (0, (0, (pos 0, k ∷ []))))
head (Expr-F.Set xs) = (9, (0, (length xs, (pos 0, []))))
head (Expr-F.Record fs) = (10, (0, (length fs, (pos 0, names fs))))
head (Expr-F.UnaryCall c a) = (11, (unary_call_rank c, (0, (pos 0, []))))
head (Expr-F.BinaryCall c a b) = (12, (binary_call_rank c, (0, (pos 0, []))))

-- `operands l` are the operands of the node `l`, from the left.
abbrev pub operands : {X : Type 0} → Expr-F X → List X
operands (Expr-F.Literal l) = []
operands (Expr-F.Variable x) = []
operands (Expr-F.If a b c) = a ∷ b ∷ c ∷ []
operands (Expr-F.And a b) = a ∷ b ∷ []
operands (Expr-F.Or a b) = a ∷ b ∷ []
operands (Expr-F.Unary o a) = a ∷ []
operands (Expr-F.Binary o a b) = a ∷ b ∷ []
operands (Expr-F.Field a k) = a ∷ []
operands (Expr-F.Has a k) = a ∷ []
operands (Expr-F.Set xs) = xs
operands (Expr-F.Record fs) = map (λ f. f.value) fs
operands (Expr-F.UnaryCall c a) = a ∷ []
operands (Expr-F.BinaryCall c a b) = a ∷ b ∷ []

-- `joined tss` is the concatenation of the lists `tss`.
abbrev pub joined : List (List NodeCode) → List NodeCode
joined [] = []
joined (ts ∷ tss) = ts ++ joined tss

-- `codes_step l` are the node codes of the node `l`, given those of its operands.
abbrev pub codes_step : Expr-F (List NodeCode) → List NodeCode
codes_step l = head l ∷ joined (operands l)

-- `node_codes x` are the node codes of the expression `x`.
abbrev pub node_codes : Expr → List NodeCode
node_codes = fold-Expr (List NodeCode) codes_step

-- `layer_codes l` are the node codes of the node `l`, whose operands are expressions.
abbrev pub layer_codes : Expr-F Expr → List NodeCode
layer_codes l = head l ∷ joined (map node_codes (operands l))

-- ---- fields whose values were folded
-- `same_length`: `map` keeps the length. `same_names` and `folded_values`: a fold of the values of fields keeps their
-- names, and gives the folded values.

pub same_length : {X Y : Type 0} (f : X → Y) (xs : List X) → length (map f xs) ≡ length xs
same_length f [] = refl
same_length f (x ∷ xs) = ap suc (same_length f xs)

module _ (A : Type 0) (step : Expr-F A → A) where
  pub same_names : (fs : List (Named Expr)) → names (map (field_all A step) fs) ≡ names fs
  same_names [] = refl
  same_names (f ∷ fs) = ap (λ ks. f.name ∷ ks) (same_names fs)

  pub folded_values : (fs : List (Named Expr))
      → map (λ f. f.value) (map (field_all A step) fs) ≡ map (fold-Expr A step) (map (λ f. f.value) fs)
  folded_values [] = refl
  folded_values (f ∷ fs) = ap (λ vs. fold-Expr A step f.value ∷ vs) (folded_values fs)

-- `every_value`: if `P` holds for the value of each field, it holds for each member of the list of these values.
pub every_value : (P : Expr → Type 0) (fs : List (Named Expr)) → Every (λ f. P f.value) fs
    → Every P (map (λ f. f.value) fs)
every_value P [] h = tt
every_value P (f ∷ fs) h = (h.0, every_value P fs h.1)

-- ---- the codes of each kind of expression

-- `codes_set` and `codes_record`: the node codes of a set or of a record are those of its node.
pub codes_set : (xs : List Expr) → node_codes (form.Set xs) ≡ layer_codes (Expr-F.Set xs)
codes_set xs = fold_set (List NodeCode) codes_step xs
    ∙ ap (λ n. (9, (0, (n, (pos 0, [])))) ∷ joined (map node_codes xs)) (same_length node_codes xs)

pub codes_record : (fs : List (Named Expr)) → node_codes (form.Record fs) ≡ layer_codes (Expr-F.Record fs)
codes_record fs =
    let all = map (field_all (List NodeCode) codes_step) fs in
    fold_record (List NodeCode) codes_step fs
    ∙ (ap (λ n. (10, (0, (n, (pos 0, names all)))) ∷ joined (map (λ f. f.value) all))
    (same_length (field_all (List NodeCode) codes_step) fs)
    ∙ (ap (λ ks. (10, (0, (length fs, (pos 0, ks)))) ∷ joined (map (λ f. f.value) all))
    (same_names (List NodeCode) codes_step fs)
    ∙ ap (λ vs. (10, (0, (length fs, (pos 0, names fs)))) ∷ joined vs) (folded_values (List NodeCode) codes_step fs)))

-- `codes_roll`: the node codes of the expression that a node forms are the node codes of that node.
codes_roll : (l : Expr-F Expr) → node_codes (roll-Expr l) ≡ layer_codes l
codes_roll (Expr-F.Literal l) = ap node_codes (form.rolls-Literal l) ∙ fold_literal (List NodeCode) codes_step l
codes_roll (Expr-F.Variable x) = ap node_codes (form.rolls-Variable x) ∙ fold_variable (List NodeCode) codes_step x
codes_roll (Expr-F.If a b c) = ap node_codes (form.rolls-If a b c) ∙ fold_if (List NodeCode) codes_step a b c
codes_roll (Expr-F.And a b) = ap node_codes (form.rolls-And a b) ∙ fold_and (List NodeCode) codes_step a b
codes_roll (Expr-F.Or a b) = ap node_codes (form.rolls-Or a b) ∙ fold_or (List NodeCode) codes_step a b
codes_roll (Expr-F.Unary o a) = ap node_codes (form.rolls-Unary o a) ∙ fold_unary (List NodeCode) codes_step o a
codes_roll (Expr-F.Binary o a b) =
    ap node_codes (form.rolls-Binary o a b) ∙ fold_binary (List NodeCode) codes_step o a b
codes_roll (Expr-F.Field a k) = ap node_codes (form.rolls-Field a k) ∙ fold_field (List NodeCode) codes_step a k
codes_roll (Expr-F.Has a k) = ap node_codes (form.rolls-Has a k) ∙ fold_has (List NodeCode) codes_step a k
codes_roll (Expr-F.Set xs) = ap node_codes (form.rolls-Set xs) ∙ codes_set xs
codes_roll (Expr-F.Record fs) = ap node_codes (form.rolls-Record fs) ∙ codes_record fs
codes_roll (Expr-F.UnaryCall c a) =
    ap node_codes (form.rolls-UnaryCall c a) ∙ fold_unary_call (List NodeCode) codes_step c a
codes_roll (Expr-F.BinaryCall c a b) =
    ap node_codes (form.rolls-BinaryCall c a b) ∙ fold_binary_call (List NodeCode) codes_step c a b

-- `codes_out`: the node codes of an expression are the node codes of its node.
pub codes_out : (x : Expr) → node_codes x ≡ layer_codes (out-Expr x)
codes_out x = ap node_codes (sym (roll-out-Expr x)) ∙ codes_roll (out-Expr x)

-- ---- reading the node codes back, from the last to the first

-- `text_1 ts` and `text_2 ts` are the first and the second string of `ts`, or empty.
abbrev text_1 : List (List ℕ) → List ℕ
text_1 [] = []
text_1 (t ∷ ts) = t

abbrev text_2 : List (List ℕ) → List ℕ
text_2 [] = []
text_2 (t ∷ ts) = text_1 ts

-- `literal_of r z ts` is the literal with the rank `r`, the number `z` and the strings `ts`.
abbrev literal_of : ℕ → ℤ → List (List ℕ) → Literal
literal_of r z ts =
    cond (r == 0) (literal.Boolean (is_one z)) (cond (r == 1) (literal.Long z)
    (cond (r == 2) (literal.Text (text_1 ts)) (literal.Entity (record { type_name = text_1 ts; id = text_2 ts }))))

-- `unary_of r ts` is the operator with the rank `r` and the strings `ts`.
abbrev unary_of : ℕ → List (List ℕ) → Unary
unary_of r ts =
    cond (r == 0) unary.Not (cond (r == 1) unary.Negate (cond (r == 2) (unary.Like ts) (unary.Is (text_1 ts))))

-- Below, `st` are the expressions read so far; a node takes as many of them as it has operands.

-- `first st` is the first of the expressions `st`, or `false` if there is none, and `behind st` are the others.
abbrev first : List Expr → Expr
first [] = form.Literal (literal.Boolean false)
first (x ∷ st) = x

abbrev behind : List Expr → List Expr
behind [] = []
behind (x ∷ st) = st

-- `named ks xs` are fields with the names `ks` and the values `xs`.
abbrev named : List (List ℕ) → List Expr → List (Named Expr)
named [] xs = []
named (k ∷ ks) [] = []
named (k ∷ ks) (x ∷ xs) = record { name = k; value = x } ∷ named ks xs

-- `build n r c z ts st` is `st` with an expression of the kind `n` and the content `r`, `c`, `z` and `ts` in place of
-- its operands.
abbrev build : ℕ → ℕ → ℕ → ℤ → List (List ℕ) → List Expr → List Expr
build n r c z ts st =
    cond (n == 0) (form.Literal (literal_of r z ts) ∷ st) (cond (n == 1) (form.Variable (variable_of r) ∷ st)
    (cond (n == 2) (form.If (first st) (first (behind st)) (first (behind (behind st))) ∷ behind (behind (behind st)))
    (cond (n == 3) (form.And (first st) (first (behind st)) ∷ behind (behind st))
    (cond (n == 4) (form.Or (first st) (first (behind st)) ∷ behind (behind st))
    (cond (n == 5) (form.Unary (unary_of r ts) (first st) ∷ behind st)
    (cond (n == 6) (form.Binary (binary_of r) (first st) (first (behind st)) ∷ behind (behind st))
    (cond (n == 7) (form.Field (first st) (text_1 ts) ∷ behind st)
    (cond (n == 8) (form.Has (first st) (text_1 ts) ∷ behind st)
    (cond (n == 9) (form.Set (take c st) ∷ drop c st)
    (cond (n == 10) (form.Record (named ts (take c st)) ∷ drop c st)
    (cond (n == 11) (form.UnaryCall (unary_call_of r) (first st) ∷ behind st)
    (form.BinaryCall (binary_call_of r) (first st) (first (behind st)) ∷ behind (behind st)))))))))))))

-- `read_one t st` is `st` with the expression of the node code `t` in place of its operands, and `read ts` are the
-- expressions with the node codes `ts`.
abbrev read_one : NodeCode → List Expr → List Expr
read_one t st = build t.0 t.1.0 t.1.1.0 t.1.1.1.0 t.1.1.1.1 st

abbrev read : List NodeCode → List Expr
read [] = []
read (t ∷ ts) = read_one t (read ts)

-- `literal_read`, `unary_back` and `named_back`: a literal, a unary operator and the fields of a record are read back
-- from their contents. `take_front` and `drop_front`: `xs ++ st` is `xs` up to the length of `xs`, and `st` after it.
literal_read : (l : Literal) (st : List Expr) → read_one (0, literal_content l) st ≡ form.Literal l ∷ st
literal_read (literal.Boolean b) st = ap (λ c. form.Literal (literal.Boolean c) ∷ st) (is_one-as_number b)
literal_read (literal.Long z) st = refl
literal_read (literal.Text s) st = refl
literal_read (literal.Entity u) st = refl

unary_back : (o : Unary) → unary_of (unary_content o).0 (unary_content o).1.1.1 ≡ o
unary_back unary.Not = refl
unary_back unary.Negate = refl
unary_back (unary.Like p) = refl
unary_back (unary.Is n) = refl

take_front : (xs st : List Expr) → take (length xs) (xs ++ st) ≡ xs
take_front [] st = refl
take_front (x ∷ xs) st = ap (λ ys. x ∷ ys) (take_front xs st)

drop_front : (xs st : List Expr) → drop (length xs) (xs ++ st) ≡ st
drop_front [] st = refl
drop_front (x ∷ xs) st = drop_front xs st

named_back : (fs : List (Named Expr)) → named (names fs) (map (λ f. f.value) fs) ≡ fs
named_back [] = refl
named_back (f ∷ fs) = ap (λ gs. f ∷ gs) (named_back fs)

-- `IsReadBack x` holds if reading the node codes of `x`, with any others after them, gives `x` and then what reading
-- the others gives.
abbrev IsReadBack : Expr → Type 0
IsReadBack x = (ts : List NodeCode) → read (node_codes x ++ ts) ≡ x ∷ read ts

-- `operands_back`: if each of `xs` is read back, so is their list, from their node codes one after another.
operands_back : (xs : List Expr) → Every IsReadBack xs → (ts : List NodeCode)
    → read (joined (map node_codes xs) ++ ts) ≡ xs ++ read ts
operands_back [] h ts = refl
operands_back (x ∷ xs) h ts =
    ap read (append_assoc (node_codes x) (joined (map node_codes xs)) ts)
    ∙ (h.0 (joined (map node_codes xs) ++ ts) ∙ ap (λ st. x ∷ st) (operands_back xs h.1 ts))

-- `from_operands`: an expression `x` is read back from its node codes if they are those of a node `l` whose operands
-- are read back, and if `read_one` builds `x` from these operands.
from_operands : (x : Expr) (l : Expr-F Expr) → node_codes x ≡ layer_codes l → Every IsReadBack (operands l)
    → ((st : List Expr) → read_one (head l) (operands l ++ st) ≡ x ∷ st) → IsReadBack x
from_operands x l e h b ts =
    ap (λ us. read (us ++ ts)) e ∙ (ap (read_one (head l)) (operands_back (operands l) h ts) ∙ b (read ts))

-- `set_built` and `record_built`: `read_one` builds a set from its members, and a record from the values of its fields.
set_built : (xs st : List Expr) → read_one (head (Expr-F.Set xs)) (xs ++ st) ≡ form.Set xs ∷ st
set_built xs st =
    ap (λ ys. form.Set ys ∷ drop (length xs) (xs ++ st)) (take_front xs st)
    ∙ ap (λ ys. form.Set xs ∷ ys) (drop_front xs st)

record_built : (fs : List (Named Expr)) (st : List Expr)
    → read_one (head (Expr-F.Record fs)) (map (λ f. f.value) fs ++ st) ≡ form.Record fs ∷ st
record_built fs st =
    let xs = map (λ f. f.value) fs in
    ap (λ n. form.Record (named (names fs) (take n (xs ++ st))) ∷ drop n (xs ++ st))
    (sym (same_length {X = Named Expr} {Y = Expr} (λ f. f.value) fs))
    ∙ (ap (λ ys. form.Record (named (names fs) ys) ∷ drop (length xs) (xs ++ st)) (take_front xs st)
    ∙ (ap (λ gs. form.Record gs ∷ drop (length xs) (xs ++ st)) (named_back fs)
    ∙ ap (λ ys. form.Record fs ∷ ys) (drop_front xs st)))

-- `all_read_back`: an expression of each kind is read back if its operands are.
all_read_back : Cases IsReadBack
all_read_back = record {
  literal = λ l. from_operands (form.Literal l) (Expr-F.Literal l) (fold_literal (List NodeCode) codes_step l) tt
      (literal_read l);
  variable = λ x. from_operands (form.Variable x) (Expr-F.Variable x) (fold_variable (List NodeCode) codes_step x) tt
      (λ st. ap (λ y. form.Variable y ∷ st) (variable_back x));
  if_form = λ a b c f g h. from_operands (form.If a b c) (Expr-F.If a b c) (fold_if (List NodeCode) codes_step a b c)
      (f, (g, (h, tt))) (λ st. refl);
  and_form = λ a b f g. from_operands (form.And a b) (Expr-F.And a b) (fold_and (List NodeCode) codes_step a b)
      (f, (g, tt)) (λ st. refl);
  or_form = λ a b f g. from_operands (form.Or a b) (Expr-F.Or a b) (fold_or (List NodeCode) codes_step a b)
      (f, (g, tt)) (λ st. refl);
  unary = λ o a f. from_operands (form.Unary o a) (Expr-F.Unary o a) (fold_unary (List NodeCode) codes_step o a)
      (f, tt) (λ st. ap (λ p. form.Unary p a ∷ st) (unary_back o));
  binary = λ o a b f g. from_operands (form.Binary o a b) (Expr-F.Binary o a b)
      (fold_binary (List NodeCode) codes_step o a b) (f, (g, tt))
      (λ st. ap (λ p. form.Binary p a b ∷ st) (binary_back o));
  field = λ a k f. from_operands (form.Field a k) (Expr-F.Field a k) (fold_field (List NodeCode) codes_step a k)
      (f, tt) (λ st. refl);
  has = λ a k f. from_operands (form.Has a k) (Expr-F.Has a k) (fold_has (List NodeCode) codes_step a k)
      (f, tt) (λ st. refl);
  set = λ xs h. from_operands (form.Set xs) (Expr-F.Set xs) (codes_set xs) h (set_built xs);
  record_form = λ fs h. from_operands (form.Record fs) (Expr-F.Record fs) (codes_record fs)
      (every_value IsReadBack fs h) (record_built fs);
  unary_call = λ c a f. from_operands (form.UnaryCall c a) (Expr-F.UnaryCall c a)
      (fold_unary_call (List NodeCode) codes_step c a) (f, tt)
      (λ st. ap (λ d. form.UnaryCall d a ∷ st) (unary_call_back c));
  binary_call = λ c a b f g. from_operands (form.BinaryCall c a b) (Expr-F.BinaryCall c a b)
      (fold_binary_call (List NodeCode) codes_step c a b) (f, (g, tt))
      (λ st. ap (λ d. form.BinaryCall d a b ∷ st) (binary_call_back c));
}

-- `from_codes-codes`: an expression is the first that is read from its node codes.
from_codes-codes : (x : Expr) → first (read (node_codes x)) ≡ x
from_codes-codes x =
    ap (λ ts. first (read ts)) (sym (append-nil (node_codes x))) ∙ ap first (by_forms IsReadBack all_read_back x [])

-- Expressions with the same node codes are equal.
pub same_from_codes : (x y : Expr) → node_codes x ≡ node_codes y → x ≡ y
same_from_codes x y e =
    sym (from_codes-codes x) ∙ (ap (λ ts. first (read ts)) e ∙ from_codes-codes y)
