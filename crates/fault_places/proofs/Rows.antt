-- The items of lists in brackets, in their tokens.
use Rattle.std.proofs.Common.{◌≡◌, ℕ, zero, suc, ◌+◌, ◌++◌, List, [], ◌∷◌, length, take, drop, map, Option, Some, None, refl, sym, ap, ◌∙◌, subst, arith, append_assoc, length-append}
use Rattle.std.specs.List.{slice_get}
use Rattle.std.specs.Option.{option_map}
use Rattle.grammar_syntax.specs.declared.token.Token.{Token}
use Rattle.grammar_syntax.specs.declared.token.TokenKind.TheVariants as k
use Rattle.grammar_syntax.specs.declared.name_trees.PathTree.{PathTree}
use Rattle.grammar_syntax.specs.Kinds.{only}
use Rattle.grammar_syntax.specs.Lang.{Lang, many}
use Rattle.grammar_syntax.specs.Lang as lang
use Rattle.grammar_syntax.specs.Grammar as names
use Rattle.grammar_syntax.specs.declared.tree.RecordEntry.{RecordEntry}
use Rattle.grammar_syntax.specs.declared.tree.ExprTree.{ExprTree}
use Rattle.grammar_syntax.specs.declared.tree.ExprTree.TheVariants as t
use Rattle.grammar_core.specs.declared.expr.Expr.{Expr}
use Rattle.grammar_core.specs.declared.expr.Named.{Named}
use Rattle.grammar_core.specs.declared.expr.Expr.TheVariants as core
use Rattle.grammar_core.specs.declared.operator.UnaryCall.{UnaryCall}
use Rattle.grammar_parsing.specs.Expressions as g
use Rattle.grammar_parsing.specs.Expressions.{expr, any_expr, is_positive}
use Rattle.fault_places.specs.TokenCounts.{tree_count, path_count, entry_count, each_count}
use Rattle.typing.specs.Places.{operands_of, operands_in}
use Rattle.policy_grammar.specs.grammar_desugaring.Core.{core_of, called, function, field, in_entry}
use Rattle.policy_grammar.proofs.of_grammar_desugaring.Cores as cores
use Rattle.fault_places.specs.Forms.{Form, whole, operand, operand_step, row_at, entry_at}
use Rattle.fault_places.proofs.LanguageCounts.{path_fits}
use Rattle.fault_places.proofs.Languages.{Shows, both_shows, past_shows, end_shows, nothing_shows, or_shows}
use Rattle.fault_places.proofs.Lifting.{any_inner}
use Rattle.fault_places.proofs.Lists.{Ends, ends_here, ends_later, past, in_none, in_one, some_same, none_some}
use Rattle.fault_places.proofs.Chains.{any_count}
use Rattle.fault_places.proofs.Standing.{Next}
use Rattle.fault_places.proofs.Deriving.{Shown, shown, by_core, next}

-- an item of a mapped list
pub record Mapped {A B : Type 0} (h : A → B) (xs : List A) (i : ℕ) (y : B) : Type 0 where
  pub item : A
  pub found : slice_get xs i ≡ Some item
  pub same : h item ≡ y

pub mapped : {A B : Type 0} (h : A → B) (xs : List A) (i : ℕ) (y : B) → slice_get (map h xs) i ≡ Some y
    → Mapped h xs i y
mapped h [] i y e = absurd (none_some e)
mapped h (x ∷ xs) zero y e = record { item = x; found = refl; same = some_same e }
mapped h (x ∷ xs) (suc i) y e =
    let m = mapped h xs i y e in record { item = m.item; found = m.found; same = m.same }

-- Item i of a list stands in the tokens ts, behind the items before it, each of which one token follows.
pub record Placed {A : Type 0} (item : Lang A) (count : A → ℕ) (ts : List Token) (xs : List A) (i : ℕ) (x : A) :
    Type 0 where
  pub before : List Token
  pub mine : List Token
  pub behind : List Token
  pub written : ts ≡ before ++ (mine ++ behind)
  pub derives : item mine x
  pub counted : length before ≡ each_count (map count (take i xs))

-- The same where a comma stands before each item.
pub record Commaed {A : Type 0} (item : Lang A) (count : A → ℕ) (ts : List Token) (xs : List A) (i : ℕ) (x : A) :
    Type 0 where
  pub before : List Token
  pub comma : Token
  pub mine : List Token
  pub behind : List Token
  pub written : ts ≡ before ++ comma ∷ (mine ++ behind)
  pub derives : item mine x
  pub counted : length before ≡ each_count (map count (take i xs))

module _ {A : Type 0} (item : Lang A) (count : A → ℕ)
    (item_count : (ts : List Token) (x : A) → item ts x → length ts ≡ count x) where
  commaed : (ts : List Token) (xs : List A) → many (lang.◌>>◌ (lang.one k.Comma) item) ts xs
      → (i : ℕ) (x : A) → slice_get xs i ≡ Some x → Commaed item count ts xs i x
  commaed ts [] d i x e = absurd (none_some e)
  commaed ts (y ∷ xs) d zero x e =
      let c = d.3 in record {
        before = [];
        comma = c.value;
        mine = c.back;
        behind = d.1;
        written = d.2 ∙ ap (λ vs. vs ++ d.1) (c.whole ∙ ap (λ vs. vs ++ c.back) c.first.0);
        derives = subst (item c.back) (some_same e) c.second;
        counted = refl;
      }
  commaed ts (y ∷ xs) d (suc i) x e =
      let c = d.3 in
      let p = commaed d.1 xs d.4 i x e in
      let front : length d.0 ≡ suc (length c.back) = ap length (c.whole ∙ ap (λ vs. vs ++ c.back) c.first.0) in
      let mine = item_count c.back y c.second in
      let rest = p.counted in
      record {
        before = d.0 ++ p.before;
        comma = p.comma;
        mine = p.mine;
        behind = p.behind;
        written = d.2 ∙ ap (λ vs. d.0 ++ vs) p.written ∙ sym (append_assoc d.0 p.before (p.comma ∷ (p.mine ++ p.behind)));
        derives = p.derives;
        counted = length-append d.0 p.before ∙ omega arith;
      }

  -- the items of a list with commas between them
  abbrev Row : Lang (List A)
  Row = lang.◌or◌
      (lang.◌>>=◌ item (λ first. lang.◌>>=◌ (many (lang.◌>>◌ (lang.one k.Comma) item)) (λ more. lang.empty (first ∷ more))))
      (lang.empty [])

  abbrev AllPlaced : List Token → List A → Type 0
  AllPlaced ts xs = (i : ℕ) (x : A) → slice_get xs i ≡ Some x → Placed item count ts xs i x

  several : (us : List Token) (first : A) → item us first → (vs : List Token) (more : List A)
      → many (lang.◌>>◌ (lang.one k.Comma) item) vs more → AllPlaced (us ++ vs) (first ∷ more)
  several us first d vs more m zero x e = record {
    before = [];
    mine = us;
    behind = vs;
    written = refl;
    derives = subst (item us) (some_same e) d;
    counted = refl;
  }
  several us first d vs more m (suc i) x e =
      let p = commaed vs more m i x e in
      let mine = item_count us first d in
      let rest = p.counted in
      record {
        before = (us ++ p.before) ++ p.comma ∷ [];
        mine = p.mine;
        behind = p.behind;
        written = ap (λ ws. us ++ ws) p.written
            ∙ sym (append_assoc us p.before (p.comma ∷ (p.mine ++ p.behind)))
            ∙ sym (append_assoc (us ++ p.before) (p.comma ∷ []) (p.mine ++ p.behind));
        derives = p.derives;
        counted = length-append (us ++ p.before) (p.comma ∷ [])
            ∙ ap (λ n. n + 1) (length-append us p.before) ∙ omega arith;
      }

  pub row_placed : Shows Row AllPlaced
  row_placed =
      or_shows AllPlaced
      (both_shows AllPlaced
      (λ us first d. end_shows (λ more. first ∷ more) (λ vs xs. AllPlaced (us ++ vs) xs)
      (λ vs more m. several us first d vs more m)))
      (nothing_shows [] AllPlaced (λ i x e. absurd (none_some e)))

-- an entry: two tokens, and its value
pub record Keyed (ts : List Token) (x : RecordEntry ExprTree) : Type 0 where
  pub key : Token
  pub colon : Token
  pub rest : List Token
  pub written : ts ≡ key ∷ colon ∷ rest
  pub derives : any_expr rest x.value

-- ## Operands in lists

-- an operand that is an item of a list with a bracket behind it
item_next : (text : List ℕ) (f : Form) (i j : ℕ) (xs : List ExprTree) (us : List Token) (front rest : List Token)
    (L : Lang ExprTree) → ((ts : List Token) (x : ExprTree) → L ts x → any_expr ts x)
    → front ≡ us ++ rest → Ends front f.tokens → operand f i ≡ row_at xs front j
    → ((x : ExprTree) → slice_get xs j ≡ Some x → Placed L tree_count us xs j x)
    → (y : Expr) → slice_get (map (core_of text) xs) j ≡ Some y → Next text f i y
item_next text f i j xs us front rest L up written ends found placed y e =
    let m = mapped (core_of text) xs j y e in
    let p = placed m.item m.found in
    let heres : drop (each_count (map tree_count (take j xs))) front ≡ p.mine ++ (p.behind ++ rest)
    = ap (drop (each_count (map tree_count (take j xs)))) (written ∙ ap (λ ts. ts ++ rest) p.written)
    ∙ past _ p.before (p.mine ++ (p.behind ++ rest)) _
    (append_assoc p.before (p.mine ++ p.behind) rest ∙ ap (λ ts. p.before ++ ts) (append_assoc p.mine p.behind rest))
    p.counted in
    subst (Next text f i) m.same
    (next text f i m.item (drop (each_count (map tree_count (take j xs))) front) p.mine (p.behind ++ rest)
    (found
    ∙ ap (option_map (λ b. whole b (drop (each_count (map tree_count (take j xs))) front))) m.found)
    heres (up p.mine m.item p.derives)
    (ends_later (each_count (map tree_count (take j xs))) _ _ f.tokens refl ends))

module _ (text : List ℕ) (levels : ℕ) where
  inner_count : (ts : List Token) (x : ExprTree) → expr levels ts x → length ts ≡ tree_count x
  inner_count ts x d = any_count ts x (any_inner levels ts x d)

  pub set_shown : (opening closing : Token) (us : List Token) (members : List ExprTree)
      → g.arguments (is_positive levels) (expr levels) us members
      → Shown text (opening ∷ (us ++ closing ∷ [])) (t.Set members)
  set_shown opening closing us members d =
      let ts = opening ∷ (us ++ closing ∷ []) in
      shown text ts (t.Set members) _ (t.outs-Set members)
      (by_core text ts (t.Set members) _ _ (cores.core-Set text members) (ap operands_in (core.outs-Set _))
      (λ behind i y e. let f = whole (t.Set members) (opening ∷ ((us ++ closing ∷ []) ++ behind)) in
      item_next text f i i members us ((us ++ closing ∷ []) ++ behind) (closing ∷ behind) (expr levels) (any_inner levels)
      (append_assoc us (closing ∷ []) behind) (1, refl)
      (ap (λ z. operand_step z f i) (t.outs-Set members))
      (λ x h. row_placed (expr levels) tree_count inner_count us members d i x h) y e))

  -- a call is of one argument, or stands for none
  call_operands : (Q : ℕ → Expr → Type 0) (fn : Option UnaryCall) (ys : List Expr)
      → ((z : Expr) → slice_get ys 0 ≡ Some z → Q 0 z)
      → (i : ℕ) (y : Expr) → slice_get (operands_of (called fn ys)) i ≡ Some y → Q i y
  call_operands Q None ys r i y h =
      in_none Q i y (ap (λ z. slice_get (operands_in z) i) (sym (core.outs-Literal _)) ∙ h)
  call_operands Q (Some fn) [] r i y h =
      in_none Q i y (ap (λ z. slice_get (operands_in z) i) (sym (core.outs-Literal _)) ∙ h)
  call_operands Q (Some fn) (a ∷ []) r i y h =
      in_one Q a (r a refl) i y (ap (λ z. slice_get (operands_in z) i) (sym (core.outs-UnaryCall fn a)) ∙ h)
  call_operands Q (Some fn) (a ∷ (b ∷ more)) r i y h =
      in_none Q i y (ap (λ z. slice_get (operands_in z) i) (sym (core.outs-Literal _)) ∙ h)

  pub call_shown : (ps us : List Token) (opening closing : Token) (path : PathTree) (arguments : List ExprTree) → names.path ps path
      → g.arguments (is_positive levels) (expr levels) us arguments
      → Shown text (ps ++ opening ∷ (us ++ closing ∷ [])) (t.Call path arguments)
  call_shown ps us opening closing path arguments p d =
      let ts = ps ++ opening ∷ (us ++ closing ∷ []) in
      shown text ts (t.Call path arguments) _ (t.outs-Call path arguments)
      (λ behind i y e. let f = whole (t.Call path arguments) ((ps ++ opening ∷ (us ++ closing ∷ [])) ++ behind) in
      let whole_is : f.tokens ≡ ps ++ opening ∷ (us ++ closing ∷ behind)
      = append_assoc ps (opening ∷ (us ++ closing ∷ [])) behind
      ∙ ap (λ vs. ps ++ opening ∷ vs) (append_assoc us (closing ∷ []) behind) in
      let front = drop 1 (drop (path_count path) f.tokens) in
      call_operands (Next text f) (function text path) (map (core_of text) arguments)
      (item_next text f 0 0 arguments us front (closing ∷ behind) (expr levels) (any_inner levels)
      (ap (drop 1) (past f.tokens ps _ (path_count path) whole_is (path_fits ps path p)))
      (ends_later 1 _ _ f.tokens refl (ends_later (path_count path) _ _ f.tokens refl (ends_here f.tokens f.tokens refl)))
      (ap (λ z. operand_step z f 0) (t.outs-Call path arguments))
      (λ x h. row_placed (expr levels) tree_count inner_count us arguments d 0 x h))
      i y
      (ap (λ x. slice_get (operands_of x) i) (sym (cores.core-Call text path arguments)) ∙ e))

  -- ## Records

  key_one : Shows g.key (λ ts x. (key : Token) × (ts ≡ key ∷ []))
  key_one =
      or_shows (λ ts x. (key : Token) × (ts ≡ key ∷ []))
      (end_shows _ (λ ts x. (key : Token) × (ts ≡ key ∷ [])) (λ us a d. (a, d.0)))
      (end_shows _ (λ ts x. (key : Token) × (ts ≡ key ∷ [])) (λ us a d. (a, d.0)))

  entry_keyed : Shows (g.entry (is_positive levels) (expr levels)) Keyed
  entry_keyed =
      both_shows Keyed
      (λ us name d. past_shows (only k.Colon) (λ vs x. Keyed (us ++ vs) x)
      (λ colon. end_shows (λ x. record { key = name; value = x }) (λ vs x. Keyed (us ++ colon ∷ vs) x)
      (λ vs x m. let one = key_one us name d in record {
        key = one.0;
        colon = colon;
        rest = vs;
        written = ap (λ ws. ws ++ colon ∷ vs) one.1;
        derives = any_inner levels vs x m;
      })))

  entry_fits : (ts : List Token) (x : RecordEntry ExprTree) → g.entry (is_positive levels) (expr levels) ts x
      → length ts ≡ entry_count x
  entry_fits ts x d =
      let e = entry_keyed ts x d in
      let n = any_count e.rest x.value e.derives in ap length e.written ∙ omega arith

  values_of : (entries : List (RecordEntry ExprTree))
      → map (λ (f : Named Expr). f.value) (map (field text) (map (in_entry (core_of text)) entries))
      ≡ map (λ x. core_of text x.value) entries
  values_of [] = refl
  values_of (x ∷ entries) = ap (λ ys. core_of text x.value ∷ ys) (values_of entries)

  entry_next : (f : Form) (i : ℕ) (xs : List (RecordEntry ExprTree)) (us front rest : List Token)
      → front ≡ us ++ rest → Ends front f.tokens → operand f i ≡ entry_at xs front i
      → g.entries (is_positive levels) (expr levels) us xs
      → (y : Expr) → slice_get (map (λ x. core_of text x.value) xs) i ≡ Some y → Next text f i y
  entry_next f i xs us front rest written ends found d y e =
      let m = mapped (λ x. core_of text x.value) xs i y e in
      let p = row_placed (g.entry (is_positive levels) (expr levels)) entry_count entry_fits us xs d i m.item m.found in
      let keyed = entry_keyed p.mine m.item p.derives in
      let heres : drop (each_count (map entry_count (take i xs))) front ≡ p.mine ++ (p.behind ++ rest)
      = ap (drop (each_count (map entry_count (take i xs)))) (written ∙ ap (λ ts. ts ++ rest) p.written)
      ∙ past _ p.before (p.mine ++ (p.behind ++ rest)) _
      (append_assoc p.before (p.mine ++ p.behind) rest ∙ ap (λ ts. p.before ++ ts) (append_assoc p.mine p.behind rest))
      p.counted in
      let value : drop 2 (drop (each_count (map entry_count (take i xs))) front) ≡ keyed.rest ++ (p.behind ++ rest)
      = ap (drop 2) (heres ∙ ap (λ ts. ts ++ (p.behind ++ rest)) keyed.written) in
      subst (Next text f i) m.same
      (next text f i m.item.value (drop 2 (drop (each_count (map entry_count (take i xs))) front)) keyed.rest
      (p.behind ++ rest)
      (found
      ∙ ap (option_map (λ b. whole b.value (drop 2 (drop (each_count (map entry_count (take i xs))) front)))) m.found)
      value keyed.derives
      (ends_later 2 _ _ f.tokens refl (ends_later (each_count (map entry_count (take i xs))) _ _ f.tokens refl ends)))

  pub record_shown : (opening closing : Token) (us : List Token) (entries : List (RecordEntry ExprTree))
      → g.entries (is_positive levels) (expr levels) us entries
      → Shown text (opening ∷ (us ++ closing ∷ [])) (t.Record entries)
  record_shown opening closing us entries d =
      let ts = opening ∷ (us ++ closing ∷ []) in
      shown text ts (t.Record entries) _ (t.outs-Record entries)
      (by_core text ts (t.Record entries) _ _ (cores.core-Record text entries)
      (ap operands_in (core.outs-Record _) ∙ values_of entries)
      (λ behind i y e. let f = whole (t.Record entries) (opening ∷ ((us ++ closing ∷ []) ++ behind)) in
      entry_next f i entries us ((us ++ closing ∷ []) ++ behind) (closing ∷ behind)
      (append_assoc us (closing ∷ []) behind) (1, refl)
      (ap (λ z. operand_step z f i) (t.outs-Record entries)) d y e))
