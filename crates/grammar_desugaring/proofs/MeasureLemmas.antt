-- What each form of tree is measured, from the measures of its parts.
use Rattle.std.proofs.Common.{◌≡◌, ℕ, ◌+◌, Bool, refl, ap, ◌∙◌, sym, List, [], ◌∷◌, ◌++◌, map, length, None}
use Rattle.std.proofs.lemmas.List.{append-nil}
use Rattle.std.specs.List.{fold, flat_map}
use Rattle.grammar_syntax.specs.declared.token.Token.{Token}
use Rattle.grammar_syntax.specs.Lexing.{spelling_of}
use Rattle.grammar_syntax.specs.declared.name_trees.PathTree.{PathTree}
use Rattle.grammar_syntax.specs.declared.name_trees.UidTree.{UidTree}
use Rattle.grammar_syntax.specs.declared.tree.Access.{Access}
use Rattle.grammar_syntax.specs.declared.tree.Access.TheVariants as access
use Rattle.grammar_syntax.specs.declared.tree.Comparison.{Comparison}
use Rattle.grammar_syntax.specs.declared.tree.RecordEntry.{RecordEntry}
use Rattle.grammar_syntax.specs.declared.tree.KeyTree.{KeyTree}
use Rattle.grammar_syntax.specs.declared.tree.RequestKeyword.{RequestKeyword}
use Rattle.grammar_syntax.specs.declared.tree.Term.{Term}
use Rattle.grammar_syntax.specs.declared.tree.ExprTree.{ExprTree}
use Rattle.grammar_syntax.specs.declared.tree.ExprTree.TheVariants as t
use Rattle.grammar_core.specs.declared.operator.Unary.TheVariants.{Not, Negate, Like, Is}
use Rattle.grammar_core.specs.declared.operator.Binary.TheVariants.{In, Multiply}
use Rattle.grammar_core.specs.declared.expr.Expr.{Expr}
use Rattle.grammar_core.specs.declared.expr.Expr.TheVariants as core
use Rattle.grammar_core.specs.declared.expr.Named.{Named}
use Rattle.grammar_core.specs.Size.{height, height_step, node_count, node_count_step, greatest, total}
use Rattle.grammar_core.proofs.Forms.{fold_record}
use Rattle.grammar_desugaring.specs.declared.fault.DesugarFault.{DesugarFault}
use Rattle.grammar_desugaring.specs.Numbers.{fits, fits_negated}
use Rattle.grammar_desugaring.specs.Strings.{pattern_of}
use Rattle.grammar_desugaring.specs.Meaning.{path_name, name_of, sign_of}
use Rattle.grammar_core.specs.Operators.{method_of, method_takes}
use Rattle.grammar_desugaring.specs.Core as spec
use Rattle.grammar_desugaring.specs.Core.{core_of, accessed, added, field, in_term, in_entry, in_access, function}
use Rattle.grammar_desugaring.specs.Repeats.{repeat_faults}
use Rattle.grammar_desugaring.specs.ReportedErrors.{earlier_of, least}
use Rattle.grammar_desugaring.specs.Faults.{faults_of, range, call_faults, function_faults, access_faults, key_of}
use Rattle.grammar_desugaring.specs.TreeMeasures.{measure, of, of_row, measured, measured_negated}
use Rattle.grammar_desugaring.specs.Sums.{nothing, leaf, node_measure, side_by_side, paired, called, with_fault, measured_all}
use Rattle.grammar_desugaring.specs.Sums.{measured_chain, measured_term, measured_entry, measured_compared, measured_call}
use Rattle.grammar_desugaring.specs.Sums.{measured_access}
use Rattle.grammar_syntax.proofs.Flat.{flat_map_map}
use Rattle.grammar_desugaring.proofs.Lists.{length-mapped}
use Rattle.grammar_desugaring.proofs.Least.{least-append, earlier_same}
use Rattle.grammar_desugaring.proofs.Sizing.{same, capped_above, of-Literal, of-Variable, of-Unary, of-Field, of-Has, of-Set}
use Rattle.grammar_desugaring.proofs.Sizing.{of-And, of-Or, of-Binary, of-If, of-compared, of-called, of-method, row-snoc}
use Rattle.grammar_desugaring.proofs.Sizing.{fused, fold_map, fold_snoc}
use Rattle.grammar_desugaring.proofs.Cores.{core-Boolean, core-Number, core-Text, core-Variable, core-Uid, core-Call}
use Rattle.grammar_desugaring.proofs.Cores.{core-Parentheses, core-Set, core-Record, core-Member, core-Not, core-Minus}
use Rattle.grammar_desugaring.proofs.Cores.{core-Product, core-Sum, core-Compare, core-Has, core-Like, core-Is, core-IsIn}
use Rattle.grammar_desugaring.proofs.Cores.{core-And, core-Or, core-If, negated-Number, negated-other}
use Rattle.grammar_desugaring.proofs.FaultsOf.{faults-Boolean, faults-Number, faults-Text, faults-Variable, faults-Uid}
use Rattle.grammar_desugaring.proofs.FaultsOf.{faults-Call, faults-Parentheses, faults-Set, faults-Record, faults-Member}
use Rattle.grammar_desugaring.proofs.FaultsOf.{faults-Not, faults-Minus, faults-Product, faults-Sum, faults-Compare, faults-Has}
use Rattle.grammar_desugaring.proofs.FaultsOf.{faults-Like, faults-Is, faults-IsIn, faults-And, faults-Or, faults-If}
use Rattle.grammar_desugaring.proofs.FaultsOf.{negated_faults-Number, negated_faults-other}

same_of : {d e : Expr} {fs gs : List DesugarFault} → d ≡ e → fs ≡ gs → of d fs ≡ of e gs
same_of {d} {e} {fs} {gs} a b = ap (λ x. of x fs) a ∙ ap (of e) b

twice : (fs gs : List DesugarFault) → least (fs ++ gs) ≡ least (fs ++ (fs ++ gs))
twice fs gs =
    least-append fs gs ∙ sym (earlier_same (least fs) (least gs)) ∙ ap (earlier_of (least fs)) (sym (least-append fs gs)) ∙ sym (least-append fs (fs ++ gs))

module _ (text : List ℕ) where
  -- rows
  rowed : (xs : List ExprTree) → of_row (map (core_of text) xs) (flat_map (faults_of text) xs) ≡ measured_all text xs
  rowed xs =
      ap (λ es. of_row es (flat_map (faults_of text) xs)) (sym (fold_snoc (core_of text) xs []))
      ∙ fused of_row (λ es x. es ++ core_of text x ∷ []) (faults_of text) (λ j x. side_by_side j (measured text x)) (λ es fs x. row-snoc es (core_of text x) fs (faults_of text x)) xs [] []

  valued : (entries : List (RecordEntry ExprTree)) →
      of_row (map (λ entry. core_of text entry.value) entries) (flat_map (λ entry. faults_of text entry.value) entries) ≡ fold (measured_entry text) nothing entries
  valued entries =
      ap (λ es. of_row es (flat_map (λ entry. faults_of text entry.value) entries)) (sym (fold_snoc (λ entry. core_of text entry.value) entries []))
      ∙ fused of_row (λ es entry. es ++ core_of text entry.value ∷ []) (λ entry. faults_of text entry.value) (measured_entry text)
      (λ es fs entry. row-snoc es (core_of text entry.value) fs (faults_of text entry.value)) entries [] []

  heights : (step : Expr → ℕ) (entries : List (RecordEntry ExprTree)) → map (λ f. f.value) (map {A = Named Expr} {B = Named ℕ} (λ f. record { name = f.name; value = step f.value })
      (map (field text) (map (in_entry (core_of text)) entries))) ≡ map step (map (λ entry. core_of text entry.value) entries)
  heights step [] = refl
  heights step (entry ∷ entries) = ap (λ ns. step (core_of text entry.value) ∷ ns) (heights step entries)

  of-Record : (entries : List (RecordEntry ExprTree)) (fs : List DesugarFault) →
      of (core.Record (map (field text) (map (in_entry (core_of text)) entries))) fs ≡ node_measure (of_row (map (λ entry. core_of text entry.value) entries) fs)
  of-Record entries fs =
      let values = map (λ entry. core_of text entry.value) entries in
      let fields = map (field text) (map (in_entry (core_of text)) entries) in
      same _ _ _ _ (least fs) (least fs) (fold_record ℕ height_step fields ∙ ap (λ ns. greatest ns + 1) (heights height entries))
      (fold_record ℕ node_count_step fields ∙ ap (λ ns. total ns + 1) (heights node_count entries)) refl
      ∙ capped_above (greatest (map height values)) (total (map node_count values)) (least fs)

  -- calls
  access_law : (e : Expr) (fs : List DesugarFault) (x : Access (List ExprTree)) →
      of (accessed text e (in_access (core_of text) x)) (fs ++ access_faults text (in_access (faults_of text) x)) ≡ measured_access text (of e fs) x
  access_law e fs (access.Field key) = of-Field e (name_of text key) (fs ++ []) ∙ ap (λ gs. node_measure (of e gs)) (append-nil fs)
  access_law e fs (access.Method name xs) =
      let m = method_of (spelling_of text name) in
      let cs = map (core_of text) xs in
      let gs = flat_map (faults_of text) xs in
      ap (λ n. of (accessed text e (access.Method name cs)) (fs ++ (call_faults name.start (method_takes m) n ++ flat_map (λ f. f) (map (faults_of text) xs))))
      (length-mapped (faults_of text) xs ∙ sym (length-mapped (core_of text) xs))
      ∙ ap (λ hs. of (accessed text e (access.Method name cs)) (fs ++ (call_faults name.start (method_takes m) (length cs) ++ hs))) (flat_map_map (λ f. f) (faults_of text) xs)
      ∙ of-method m name.start e fs cs gs
      ∙ ap (λ n. called (least (call_faults name.start (method_takes m) n)) (side_by_side (of e fs) (with_fault (least (call_faults name.start (method_takes m) n)) (of_row cs gs))))
      (length-mapped (core_of text) xs)
      ∙ ap (λ row. called (least (call_faults name.start (method_takes m) (length xs))) (side_by_side (of e fs) (with_fault (least (call_faults name.start (method_takes m) (length xs))) row)))
      (rowed xs)

  pub measured-Boolean : (value : Bool) → measured text (t.Boolean value) ≡ leaf None
  measured-Boolean value =
      same_of (core-Boolean text value) (faults-Boolean text value) ∙ of-Literal _ []

  pub measured-Number : (token : Token) → measured text (t.Number token) ≡ leaf (least (range (fits (spelling_of text token)) token))
  measured-Number token =
      same_of (core-Number text token) (faults-Number text token) ∙ of-Literal _ (range (fits (spelling_of text token)) token)

  pub measured-Text : (token : Token) → measured text (t.Text token) ≡ leaf None
  measured-Text token =
      same_of (core-Text text token) (faults-Text text token) ∙ of-Literal _ []

  pub measured-Variable : (word : RequestKeyword) → measured text (t.Variable word) ≡ leaf None
  measured-Variable word =
      same_of (core-Variable text word) (faults-Variable text word) ∙ of-Variable _ []

  pub measured-Uid : (uid : UidTree) → measured text (t.Uid uid) ≡ leaf None
  measured-Uid uid =
      same_of (core-Uid text uid) (faults-Uid text uid) ∙ of-Literal _ []

  pub measured-Call : (path : PathTree) (arguments : List ExprTree) → measured text (t.Call path arguments) ≡ measured_call text path arguments
  measured-Call path arguments =
      same_of (core-Call text path arguments) (faults-Call text path arguments) ∙ ap (λ n. of (spec.called (function text path) (map (core_of text) arguments)) (function_faults text path n ++ flat_map (faults_of text) arguments)) (sym (length-mapped (core_of text) arguments))
      ∙ of-called (function text path) path.first.start (map (core_of text) arguments) (flat_map (faults_of text) arguments)
      ∙ ap (λ n. called (least (function_faults text path n)) (with_fault (least (function_faults text path n)) (of_row (map (core_of text) arguments) (flat_map (faults_of text) arguments))))
      (length-mapped (core_of text) arguments)
      ∙ ap (λ row. called (least (function_faults text path (length arguments))) (with_fault (least (function_faults text path (length arguments))) row)) (rowed arguments)

  pub measured-Parentheses : (a : ExprTree) → measured text (t.Parentheses a) ≡ measured text a
  measured-Parentheses a =
      same_of (core-Parentheses text a) (faults-Parentheses text a)

  pub measured-Set : (members : List ExprTree) → measured text (t.Set members) ≡ node_measure (measured_all text members)
  measured-Set members =
      same_of (core-Set text members) (faults-Set text members) ∙ of-Set (map (core_of text) members) (flat_map (faults_of text) members) ∙ ap node_measure (rowed members)

  pub measured-Record : (entries : List (RecordEntry ExprTree)) → measured text (t.Record entries) ≡ node_measure (with_fault (least (repeat_faults (map (key_of text) entries))) (fold (measured_entry text) nothing entries))
  measured-Record entries =
      same_of (core-Record text entries) (faults-Record text entries) ∙ of-Record entries (repeat_faults (map (key_of text) entries) ++ flat_map (λ entry. faults_of text entry.value) entries)
      ∙ ap (λ o. node_measure (measure (greatest (map height (map (λ entry. core_of text entry.value) entries))) (total (map node_count (map (λ entry. core_of text entry.value) entries))) o))
      (least-append (repeat_faults (map (key_of text) entries)) (flat_map (λ entry. faults_of text entry.value) entries))
      ∙ ap (λ j. node_measure (with_fault (least (repeat_faults (map (key_of text) entries))) j)) (valued entries)

  pub measured-Member : (a : ExprTree) (accesses : List (Access (List ExprTree))) → measured text (t.Member a accesses) ≡ fold (measured_access text) (measured text a) accesses
  measured-Member a accesses =
      same_of (core-Member text a accesses) (faults-Member text a accesses) ∙ ap (λ e. of e (faults_of text a ++ flat_map (λ x. access_faults text (in_access (faults_of text) x)) accesses)) (fold_map (accessed text) (in_access (core_of text)) accesses (core_of text a))
      ∙ fused of (λ e x. accessed text e (in_access (core_of text) x)) (λ x. access_faults text (in_access (faults_of text) x)) (measured_access text) access_law accesses (core_of text a) (faults_of text a)

  pub measured-Not : (a : ExprTree) → measured text (t.Not a) ≡ node_measure (measured text a)
  measured-Not a =
      same_of (core-Not text a) (faults-Not text a) ∙ of-Unary Not (core_of text a) (faults_of text a)

  pub measured-Minus : (a : ExprTree) → measured text (t.Minus a) ≡ measured_negated text a
  measured-Minus a =
      same_of (core-Minus text a) (faults-Minus text a)

  pub measured-Product : (a : ExprTree) (more : List ExprTree) → measured text (t.Product a more) ≡ measured_chain text (measured text a) more
  measured-Product a more =
      same_of (core-Product text a more) (faults-Product text a more) ∙ ap (λ e. of e (faults_of text a ++ flat_map (faults_of text) more)) (fold_map (core.Binary Multiply) (core_of text) more (core_of text a))
      ∙ fused of (λ e x. (core.Binary Multiply) e (core_of text x)) (faults_of text) (λ j x. paired j (measured text x)) (λ e fs x. of-Binary Multiply e (core_of text x) fs (faults_of text x)) more (core_of text a) (faults_of text a)

  pub measured-Sum : (a : ExprTree) (terms : List (Term ExprTree)) → measured text (t.Sum a terms) ≡ fold (measured_term text) (measured text a) terms
  measured-Sum a terms =
      same_of (core-Sum text a terms) (faults-Sum text a terms) ∙ ap (λ e. of e (faults_of text a ++ flat_map (λ term. faults_of text term.operand) terms)) (fold_map added (in_term (core_of text)) terms (core_of text a))
      ∙ fused of (λ e term. added e (in_term (core_of text) term)) (λ term. faults_of text term.operand) (measured_term text)
      (λ e fs term. of-Binary (sign_of term.sign) e (core_of text term.operand) fs (faults_of text term.operand)) terms (core_of text a) (faults_of text a)

  pub measured-Compare : (a : ExprTree) (operator : Comparison) (b : ExprTree) → measured text (t.Compare a operator b) ≡ measured_compared operator (measured text a) (measured text b)
  measured-Compare a operator b =
      same_of (core-Compare text a operator b) (faults-Compare text a operator b) ∙ of-compared operator (core_of text a) (core_of text b) (faults_of text a) (faults_of text b)

  pub measured-Has : (a : ExprTree) (key : KeyTree) → measured text (t.Has a key) ≡ node_measure (measured text a)
  measured-Has a key =
      same_of (core-Has text a key) (faults-Has text a key) ∙ of-Has (core_of text a) (name_of text key) (faults_of text a)

  pub measured-Like : (a : ExprTree) (token : Token) → measured text (t.Like a token) ≡ node_measure (measured text a)
  measured-Like a token =
      same_of (core-Like text a token) (faults-Like text a token) ∙ of-Unary (Like (pattern_of (spelling_of text token))) (core_of text a) (faults_of text a)

  pub measured-Is : (a : ExprTree) (path : PathTree) → measured text (t.Is a path) ≡ node_measure (measured text a)
  measured-Is a path =
      same_of (core-Is text a path) (faults-Is text a path) ∙ of-Unary (Is (path_name text path)) (core_of text a) (faults_of text a)

  pub measured-IsIn : (a : ExprTree) (path : PathTree) (b : ExprTree) → measured text (t.IsIn a path b) ≡ paired (node_measure (measured text a)) (paired (measured text a) (measured text b))
  measured-IsIn a path b =
      same_of (core-IsIn text a path b) (faults-IsIn text a path b) ∙ ap (measure (height (core.And (core.Unary (Is (path_name text path)) (core_of text a)) (core.Binary In (core_of text a) (core_of text b))))
      (node_count (core.And (core.Unary (Is (path_name text path)) (core_of text a)) (core.Binary In (core_of text a) (core_of text b)))))
      (twice (faults_of text a) (faults_of text b))
      ∙ of-And (core.Unary (Is (path_name text path)) (core_of text a)) (core.Binary In (core_of text a) (core_of text b)) (faults_of text a) (faults_of text a ++ faults_of text b)
      ∙ ap (λ j. paired j (of (core.Binary In (core_of text a) (core_of text b)) (faults_of text a ++ faults_of text b))) (of-Unary (Is (path_name text path)) (core_of text a) (faults_of text a))
      ∙ ap (paired (node_measure (measured text a))) (of-Binary In (core_of text a) (core_of text b) (faults_of text a) (faults_of text b))

  pub measured-And : (a : ExprTree) (more : List ExprTree) → measured text (t.And a more) ≡ measured_chain text (measured text a) more
  measured-And a more =
      same_of (core-And text a more) (faults-And text a more) ∙ ap (λ e. of e (faults_of text a ++ flat_map (faults_of text) more)) (fold_map core.And (core_of text) more (core_of text a))
      ∙ fused of (λ e x. core.And e (core_of text x)) (faults_of text) (λ j x. paired j (measured text x)) (λ e fs x. of-And e (core_of text x) fs (faults_of text x)) more (core_of text a) (faults_of text a)

  pub measured-Or : (a : ExprTree) (more : List ExprTree) → measured text (t.Or a more) ≡ measured_chain text (measured text a) more
  measured-Or a more =
      same_of (core-Or text a more) (faults-Or text a more) ∙ ap (λ e. of e (faults_of text a ++ flat_map (faults_of text) more)) (fold_map core.Or (core_of text) more (core_of text a))
      ∙ fused of (λ e x. core.Or e (core_of text x)) (faults_of text) (λ j x. paired j (measured text x)) (λ e fs x. of-Or e (core_of text x) fs (faults_of text x)) more (core_of text a) (faults_of text a)

  pub measured-If : (a b c : ExprTree) → measured text (t.If a b c) ≡ node_measure (side_by_side (measured text a) (side_by_side (measured text b) (measured text c)))
  measured-If a b c =
      same_of (core-If text a b c) (faults-If text a b c) ∙ of-If (core_of text a) (core_of text b) (core_of text c) (faults_of text a) (faults_of text b) (faults_of text c)

  pub measured_negated-Number : (token : Token) → measured_negated text (t.Number token) ≡ leaf (least (range (fits_negated (spelling_of text token)) token))
  measured_negated-Number token = same_of (negated-Number text token) (negated_faults-Number text token) ∙ of-Literal _ (range (fits_negated (spelling_of text token)) token)

  pub measured_negated-other : (a : ExprTree) → ((token : Token) → a ≡ t.Number token → ⊥) → measured_negated text a ≡ node_measure (measured text a)
  measured_negated-other a other = same_of (negated-other text a other) (negated_faults-other text a other) ∙ of-Unary Negate (core_of text a) (faults_of text a)
