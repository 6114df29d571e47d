-- What is told of policies before their expressions are made.
use Rattle.std.proofs.Common.{◌≡◌, ◌↔◌, IsTrue, ℕ, ◌+◌, ◌<◌, ◌≤◌, true, List, [], ◌∷◌, ◌++◌, length, take, get_or}
use Rattle.std.proofs.Common.{Option, None, sym, ◌∙◌, ap, subst}
use Rattle.std.proofs.lemmas.List.{take_more, take_all, flat_map_more}
use Rattle.std.specs.List.{AllByRecursion, flat_map}
use Rattle.grammar_parsing.specs.declared.tree.PolicyTree.{PolicyTree}
use Rattle.grammar_core.specs.Size as size
use Rattle.grammar_desugaring.specs.declared.fault.DesugarFault.{DesugarFault}
use Rattle.grammar_desugaring.specs.declared.measure.Measure.{Measure}
use Rattle.grammar_desugaring.specs.TreeMeasures.{of}
use Rattle.grammar_desugaring.specs.ReportedErrors.{earlier_of, least, LeastOfBoth}
use Rattle.grammar_desugaring.specs.Repeats.{repeat_faults}
use Rattle.policy_grammar.specs.declared.tree_check.TreeCheck.{TreeCheck}
use Rattle.policy_grammar.specs.Conditions.{conditions_of, condition_faults}
use Rattle.policy_grammar.specs.Limits.{IsSmallOver, IsSmallTree}
use Rattle.policy_grammar.specs.PolicyText.{tree_faults, file_faults}
use Rattle.policy_grammar.specs.Repeats.{annotation_keys, policy_names}
use Rattle.policy_grammar.specs.inner.Parts.{ReportsPolicy, ReportsFile}
use Rattle.policy_grammar.proofs.Lists.{all-left, all-right}
use Rattle.policy_grammar.proofs.Sizes.{decides}

-- of one policy, by its annotations and by the measure of its conditions
pub told-one : LeastOfBoth → (text : List ℕ) (tree : PolicyTree) (repeat : Option DesugarFault) (j : Measure) (tree_check : TreeCheck) →
    repeat ≡ least (repeat_faults (annotation_keys text tree)) → j ≡ of (conditions_of text tree.conditions) (condition_faults text tree.conditions) →
    (IsTrue tree_check.small ↔ IsSmallOver tree j.height j.node_count) → tree_check.fault ≡ earlier_of repeat j.fault → ReportsPolicy text tree tree_check
told-one both text tree repeat j tree_check again is small same =
    let e = conditions_of text tree.conditions in
    record {
      fault = same ∙ ap (λ o. earlier_of o j.fault) again ∙ ap (λ i. earlier_of (least (repeat_faults (annotation_keys text tree))) i.fault) is
          ∙ sym (both (repeat_faults (annotation_keys text tree)) (condition_faults text tree.conditions));
      small = decides tree (size.height e) (size.node_count e) (IsTrue tree_check.small) (subst (λ i. IsTrue tree_check.small ↔ IsSmallOver tree i.height i.node_count) is small);
    }

all-more : {A : Type 0} (P : A → Type 0) (xs : List A) (x : A) → AllByRecursion P xs → P x → AllByRecursion P (xs ++ x ∷ [])
all-more P [] x all p = (p, tt)
all-more P (y ∷ xs) x all p = (all.0, all-more P xs x all.1 p)

-- of one policy more
pub told-more : LeastOfBoth → (text : List ℕ) (trees : List PolicyTree) (i : ℕ) (tree : PolicyTree) (old one new : TreeCheck) → ReportsFile text (take i trees) old → i < length trees →
    tree ≡ get_or trees i tree → ReportsPolicy text tree one → new.fault ≡ earlier_of old.fault one.fault → (IsTrue new.small ↔ (IsTrue old.small × IsTrue one.small)) →
    ReportsFile text (take (i + 1) trees) new
told-more law text trees i tree old one new was below is tells same both =
    let more : take (i + 1) trees ≡ take i trees ++ tree ∷ [] = take_more trees i tree below ∙ ap (λ t. take i trees ++ t ∷ []) (sym is) in
    let faults = flat_map (tree_faults text) (take i trees) in
    subst (λ ts. ReportsFile text ts new) (sym more) (record {
      fault = same ∙ ap (λ o. earlier_of o one.fault) was.fault ∙ ap (earlier_of (least faults)) tells.fault ∙ sym (law faults (tree_faults text tree))
          ∙ ap least (flat_map_more (tree_faults text) [] (take i trees) tree);
      small = (
        λ yes'. all-more (IsSmallTree text) (take i trees) tree (was.small.0 (both.0 yes').0) (tells.small.0 (both.0 yes').1),
        λ all. both.1 (
          was.small.1 (all-left (IsSmallTree text) (take i trees) (tree ∷ []) all),
          tells.small.1 (all-right (IsSmallTree text) (take i trees) (tree ∷ []) all).0,
        ),
      );
    })

pub told-none : (text : List ℕ) (tree_check : TreeCheck) → tree_check.fault ≡ None → tree_check.small ≡ true → ReportsFile text [] tree_check
told-none text tree_check none small = record { fault = none; small = (λ yes'. tt, λ all. small) }

pub told-all : (text : List ℕ) (trees : List PolicyTree) (i : ℕ) (tree_check : TreeCheck) → ReportsFile text (take i trees) tree_check → length trees ≤ i → ReportsFile text trees tree_check
told-all text trees i tree_check tells over = subst (λ ts. ReportsFile text ts tree_check) (take_all i trees over) tells

-- of a file, by its names and by its policies
pub told-file : LeastOfBoth → (text : List ℕ) (trees : List PolicyTree) (names : List (List ℕ)) (repeat : Option DesugarFault) (tree_check : TreeCheck) (told : Option DesugarFault) →
    repeat ≡ least (repeat_faults (policy_names names trees)) → ReportsFile text trees tree_check → told ≡ earlier_of repeat tree_check.fault → told ≡ least (file_faults text trees names)
told-file both text trees names repeat tree_check told again tells is =
    is ∙ ap (λ o. earlier_of o tree_check.fault) again ∙ ap (earlier_of (least (repeat_faults (policy_names names trees)))) tells.fault
    ∙ sym (both (repeat_faults (policy_names names trees)) (flat_map (tree_faults text) trees))
