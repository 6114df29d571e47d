-- A `Turn` or a `NodePlace` that a function does not look for, and the conditions of a policy by their number.
use Rattle.std.proofs.Common.{◌≡◌, ◌<◌, ◌≤◌, ◌-◌, refl, ap, ◌∙◌, ℕ, List, [], ◌∷◌, length, take, drop, get_or, Option, None, Bor, arith}
use Rattle.std.proofs.lemmas.List.{take_all}
use Rattle.grammar_syntax.specs.declared.token.Token.{Token}
use Rattle.grammar_syntax.specs.declared.tree.ExprTree.{ExprTree}
use Rattle.grammar_parsing.specs.declared.tree.PartTree.{PartTree}
use Rattle.grammar_parsing.specs.declared.tree.ActionTree.{ActionTree}
use Rattle.grammar_parsing.specs.declared.tree.Condition.{Condition}
use Rattle.fault_places.specs.declared.turns.Turn.{Turn}
use Rattle.fault_places.specs.declared.turns.Turn.TheVariants as t
use Rattle.fault_places.specs.declared.places.NodePlace.{NodePlace}
use Rattle.fault_places.specs.declared.places.NodePlace.TheVariants as p
use Rattle.fault_places.specs.Places.{abstract_turn, turn, unless_at, if_stop, joint_at, at_condition, at_conditions, condition_count, nowhere, place_of}
use Rattle.fault_places.specs.Names.{at_end, at_second, named}

pub end-other : (x : Turn) (o : Option (List Token)) → (x ≡ t.Stop → ⊥) → None ≡ at_end (abstract_turn x) o
end-other t.Stop o other = absurd (other refl)
end-other x o other = refl

pub second-other : (x : Turn) (o : Option (List Token)) → ((rest : Bor (List ℕ)) → x ≡ t.Right rest → ⊥) → None ≡ at_second (abstract_turn x) o
second-other (t.Right rest) o other = absurd (other rest refl)
second-other x o other = refl

pub unless-other : (x : Turn) (c : Condition) (ts : List Token) → (x ≡ t.Stop → ⊥) → ((rest : Bor (List ℕ)) → x ≡ t.Left rest → ⊥) → nowhere ≡ unless_at (abstract_turn x) c ts
unless-other t.Stop c ts s l = absurd (s refl)
unless-other (t.Left rest) c ts s l = absurd (l rest refl)
unless-other x c ts s l = refl

pub named-other : (x : NodePlace) → ((part : Bor PartTree) (from : Bor (List Token)) (rest : Bor (List ℕ)) → x ≡ p.Entity part from rest → ⊥)
    → ((part : Bor ActionTree) (from : Bor (List Token)) (rest : Bor (List ℕ)) → x ≡ p.Action part from rest → ⊥)
    → ((tree : Bor ExprTree) (from : Bor (List Token)) (rest : Bor (List ℕ)) → x ≡ p.Expression tree from rest → ⊥) → None ≡ named (place_of x)
named-other (p.Entity part from rest) e a x = absurd (e part from rest refl)
named-other (p.Action part from rest) e a x = absurd (a part from rest refl)
named-other (p.Expression tree from rest) e a x = absurd (x tree from rest refl)
named-other y e a x = refl

pub stop-other : (x : Turn) (policy : List Token) → (x ≡ t.Stop → ⊥) → nowhere ≡ if_stop (abstract_turn x) policy
stop-other t.Stop policy other = absurd (other refl)
stop-other x policy other = refl

pub conditions_none : (policy : List Token) (cs : List Condition) (ts : List Token) (path : List ℕ) → length cs < 1
    → if_stop (turn path) policy ≡ at_conditions policy cs ts path
conditions_none policy [] ts path below = refl
conditions_none policy (c ∷ cs) ts path below = absurd (omega arith)

pub conditions_one : (policy : List Token) (cs : List Condition) (ts : List Token) (path : List ℕ) (only : Condition) → only ≡ get_or cs 0 only
    → 1 ≤ length cs → length cs < 2 → at_condition only ts path ≡ at_conditions policy cs ts path
conditions_one policy [] ts path only is above below = absurd (omega arith)
conditions_one policy (c ∷ []) ts path only is above below = ap (λ x. at_condition x ts path) is
conditions_one policy (c ∷ (d ∷ cs)) ts path only is above below = absurd (omega arith)

rest_of : {A : Type 0} (x : A) (xs : List A) → take (length (x ∷ xs) - 1) xs ≡ xs
rest_of x xs = take_all (length (x ∷ xs) - 1) xs (omega arith)

pub conditions_more : (policy : List Token) (cs : List Condition) (ts : List Token) (path : List ℕ) (first : Condition) → first ≡ get_or cs 0 first
    → 2 ≤ length cs
    → joint_at (turn path) policy (at_condition first ts) (at_conditions policy (take (length cs - 1) (drop 1 cs)) (drop (condition_count first) ts))
    ≡ at_conditions policy cs ts path
conditions_more policy [] ts path first is above = absurd (omega arith)
conditions_more policy (c ∷ []) ts path first is above = absurd (omega arith)
conditions_more policy (c ∷ (d ∷ cs)) ts path first is above =
    ap (λ x. joint_at (turn path) policy (at_condition x ts) (at_conditions policy (take (length (c ∷ (d ∷ cs)) - 1) (d ∷ cs)) (drop (condition_count x) ts))) is
    ∙ ap (λ xs. joint_at (turn path) policy (at_condition c ts) (at_conditions policy xs (drop (condition_count c) ts))) (rest_of c (d ∷ cs))
