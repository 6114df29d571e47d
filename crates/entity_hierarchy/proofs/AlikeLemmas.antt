-- Worlds with the same entities, in which the same stand above one another, give the same.
use Rattle.std.proofs.Common.{Option, List, [], ◌∷◌, Result, inl, inr}
use Rattle.std.specs.Prelude.{ℕ}
use Rattle.values.specs.declared.entity_uid.EntityUid.{EntityUid}
use Rattle.values.specs.declared.request.Request.{Request}
use Rattle.values.specs.Values.{PlainValue}
use Rattle.values.specs.Fields.{Field}
use Rattle.authoriser.specs.ancestor_search.Hierarchy.{Parents, IsIn}
use Rattle.authoriser.specs.ancestor_search.LeastCycle.{HasNoCycle, IsLeastCycle}
use Rattle.authoriser.specs.grammar_core.declared.expr.Expr.{Expr}
use Rattle.authoriser.specs.grammar_core.declared.operator.Binary.{Binary}
use Rattle.authoriser.specs.evaluator.declared.fault.EvalFault.{EvalFault}
use Rattle.authoriser.specs.evaluator.Outcomes.{EvaluationResult, IsTruthOf, holds, fails}
use Rattle.authoriser.specs.evaluator.Operators as op
use Rattle.authoriser.specs.evaluator.Operators.{Entities, entities_with, BinaryGives, FieldGives, HasGives}
use Rattle.authoriser.specs.evaluator.Evaluation as rule
use Rattle.authoriser.specs.evaluator.Evaluation.{EvaluatesTo, TestFails, EachEvaluatesTo}
use Rattle.authoriser.specs.policy_grammar.PolicyExpression.{expression_of}
use Rattle.authoriser.specs.policy_grammar.declared.policy.Policy.{Policy}
use Rattle.authoriser.specs.declared.outcome.Outcome.{Outcome as Verdict}
use Rattle.authoriser.specs.declared.outcome.Outcome.TheVariants.{Satisfied, NotSatisfied, Errs}
use Rattle.authoriser.specs.declared.answer.Answer.{Answer}
use Rattle.authoriser.specs.Answers.{NamedPolicy, PolicyOutcome, PolicyEvaluatesTo, ArePolicyOutcomes, IsCycleDenial}
use Rattle.authoriser.specs.Answers.{IsAnswer}
use Rattle.entity_hierarchy.specs.Alike.{LeadAlike, HaveSameCycles, GiveAlike, AnswerAlike}

told : {P Q : Type 0} (r : EvaluationResult) → (P → Q) → (Q → P) → IsTruthOf P r → IsTruthOf Q r
told _ f g (holds p) = holds (f p)
told _ f g (fails n) = fails (λ h. n (g h))

flipped : (P Q : Parents) → LeadAlike P Q → LeadAlike Q P
flipped P Q alike a b = ((alike a b).1, (alike a b).0)

-- ---- the cycles

turned : (P Q : Parents) → HaveSameCycles P Q → HaveSameCycles Q P
turned P Q same walk = ((same walk).1, (same walk).0)

pub none_closed : (P Q : Parents) → LeadAlike P Q → HasNoCycle P → HaveSameCycles P Q
none_closed P Q alike none [] = ((λ h. h), (λ h. h))
none_closed P Q alike none (c ∷ cs) = ((λ h. absurd (none c (cs, h))), (λ h. absurd (none c ((alike c c).1 (cs, h)))))

least_stays : (P Q : Parents) → LeadAlike P Q → HaveSameCycles P Q → (walk : List EntityUid) → IsLeastCycle P walk → IsLeastCycle Q walk
least_stays P Q alike same [] h = h
least_stays P Q alike same (c ∷ cs) h = record {
  closed = (same (c ∷ cs)).0 h.closed;
  first = λ x on. h.first x ((alike x x).1 on);
  shortest = λ ds walk. h.shortest ds ((same (c ∷ ds)).1 walk);
  least = λ ds walk. h.least ds ((same (c ∷ ds)).1 walk);
}

-- ---- what expressions give

module _ (stored : EntityUid → Option (List Field)) (P Q : Parents) (alike : LeadAlike P Q) where
  abbrev W : Entities
  W = entities_with stored P

  abbrev V : Entities
  V = entities_with stored Q

  into : (a b : EntityUid) → IsIn W.parents a b → IsIn V.parents a b
  into a b (inl e) = inl e
  into a b (inr above) = inr ((alike b a).0 above)

  back : (a b : EntityUid) → IsIn V.parents a b → IsIn W.parents a b
  back a b (inl e) = inl e
  back a b (inr above) = inr ((alike b a).1 above)

  binary : (o : Binary) (v w : PlainValue) (r : EvaluationResult) → BinaryGives W o v w r → BinaryGives V o v w r
  binary _ _ _ _ (op.equal t) = op.equal t
  binary _ _ _ _ (op.of_numbers g) = op.of_numbers g
  binary _ _ _ _ (op.no_numbers t n) = op.no_numbers t n
  binary _ _ _ _ (op.in_entity {a} {b} {r} t) = op.in_entity (told r (into a b) (back a b) t)
  binary _ _ _ _ (op.in_set {a} {vs} {r} us is t) =
      op.in_set us is (told r (λ h. (h.0, h.1, into a h.0 h.2)) (λ h. (h.0, h.1, back a h.0 h.2)) t)
  binary _ _ _ _ (op.in_mixed_set v h n) = op.in_mixed_set v h n
  binary _ _ _ _ (op.in_other n m) = op.in_other n m
  binary _ _ _ _ (op.other_in n) = op.other_in n
  binary _ _ _ _ (op.contains t) = op.contains t
  binary _ _ _ _ (op.other_contains n) = op.other_contains n
  binary _ _ _ _ (op.contains_all t) = op.contains_all t
  binary _ _ _ _ (op.contains_any t) = op.contains_any t
  binary _ _ _ _ (op.no_sets t n) = op.no_sets t n

  field : (name : List ℕ) (v : PlainValue) (r : EvaluationResult) → FieldGives W name v r → FieldGives V name v r
  field name _ _ (op.field f) = op.field f
  field name _ _ (op.no_field f) = op.no_field f
  field name _ _ (op.of_entity g) = op.of_entity g
  field name _ _ (op.field_of_other n m) = op.field_of_other n m

  has : (name : List ℕ) (v : PlainValue) (r : EvaluationResult) → HasGives W name v r → HasGives V name v r
  has name _ _ (op.has_field t) = op.has_field t
  has name _ _ (op.has_attribute fs s t) = op.has_attribute fs s t
  has name _ _ (op.none_stored s) = op.none_stored s
  has name _ _ (op.has_of_other n m) = op.has_of_other n m

  module _ (q : Request) where
    mutual
      pub gives : (x : Expr) (r : EvaluationResult) → EvaluatesTo W q x r → EvaluatesTo V q x r
      gives _ _ (rule.gives_literal l) = rule.gives_literal l
      gives _ _ (rule.gives_variable x) = rule.gives_variable x
      gives _ _ (rule.if_true a b c {r} g h) = rule.if_true a b c (gives a _ g) (gives b r h)
      gives _ _ (rule.if_false a b c {r} g h) = rule.if_false a b c (gives a _ g) (gives c r h)
      gives _ _ (rule.if_fails a b c {e} g) = rule.if_fails a b c (test_fails a e g)
      gives _ _ (rule.and_false a b g) = rule.and_false a b (gives a _ g)
      gives _ _ (rule.and_true a b {t} g h) = rule.and_true a b (gives a _ g) (gives b _ h)
      gives _ _ (rule.and_left_fails a b {e} g) = rule.and_left_fails a b (test_fails a e g)
      gives _ _ (rule.and_right_fails a b {e} g h) = rule.and_right_fails a b (gives a _ g) (test_fails b e h)
      gives _ _ (rule.or_true a b g) = rule.or_true a b (gives a _ g)
      gives _ _ (rule.or_false a b {t} g h) = rule.or_false a b (gives a _ g) (gives b _ h)
      gives _ _ (rule.or_left_fails a b {e} g) = rule.or_left_fails a b (test_fails a e g)
      gives _ _ (rule.or_right_fails a b {e} g h) = rule.or_right_fails a b (gives a _ g) (test_fails b e h)
      gives _ _ (rule.operand_fails {x} {xs} {e} of g) = rule.operand_fails of (gives_each xs _ g)
      gives _ _ (rule.gives_unary o a {v} {r} g u) = rule.gives_unary o a (gives a _ g) u
      gives _ _ (rule.gives_binary o a b {v} {w} {r} g h u) = rule.gives_binary o a b (gives a _ g) (gives b _ h) (binary o v w r u)
      gives _ _ (rule.gives_field a name {v} {r} g u) = rule.gives_field a name (gives a _ g) (field name v r u)
      gives _ _ (rule.gives_has a name {v} {r} g u) = rule.gives_has a name (gives a _ g) (has name v r u)
      gives _ _ (rule.gives_set xs {vs} {s} g h) = rule.gives_set xs (gives_each xs _ g) h
      gives _ _ (rule.gives_record xs {vs} g) = rule.gives_record xs (gives_each _ _ g)
      gives _ _ (rule.gives_unary_call called a {v} {r} g u) = rule.gives_unary_call called a (gives a _ g) u
      gives _ _ (rule.gives_binary_call called a b {v} {w} {r} g h u) = rule.gives_binary_call called a b (gives a _ g) (gives b _ h) u

      pub test_fails : (x : Expr) (e : EvalFault) → TestFails W q x e → TestFails V q x e
      test_fails _ _ (rule.test_errs {a} {e} g) = rule.test_errs (gives a _ g)
      test_fails _ _ (rule.no_boolean {a} {v} g n) = rule.no_boolean (gives a _ g) n

      gives_each : (xs : List Expr) (r : Result (List PlainValue) EvalFault) → EachEvaluatesTo W q xs r → EachEvaluatesTo V q xs r
      gives_each _ _ rule.each_none = rule.each_none
      gives_each _ _ (rule.each_more {x} {xs} {v} {vs} g h) = rule.each_more (gives x _ g) (gives_each xs _ h)
      gives_each _ _ (rule.each_fails {x} {xs} {e} g) = rule.each_fails (gives x _ g)
      gives_each _ _ (rule.each_fails_later {x} {xs} {v} {e} g h) = rule.each_fails_later (gives x _ g) (gives_each xs _ h)

    comes_to : (p : Policy) (o : Verdict) → PolicyEvaluatesTo W q p o → PolicyEvaluatesTo V q p o
    comes_to p Satisfied h = gives (expression_of p) _ h
    comes_to p NotSatisfied h = gives (expression_of p) _ h
    comes_to p (Errs e) h = gives (expression_of p) _ h

    judged : (ps : List NamedPolicy) (js : List PolicyOutcome) → ArePolicyOutcomes W q ps js → ArePolicyOutcomes V q ps js
    judged [] [] h = h
    judged [] (j ∷ js) h = h
    judged (p ∷ ps) [] h = h
    judged (p ∷ ps) (j ∷ js) h =
        (record { id = h.0.id; effect = h.0.effect; outcome = comes_to p.policy j.outcome h.0.outcome }, judged ps js h.1)

    denied : HaveSameCycles P Q → (a : Answer) → IsCycleDenial P a → IsCycleDenial Q a
    denied same a d = record { least = least_stays P Q alike same a.cycle d.least; rest = d.rest }

    answered : HaveSameCycles P Q → (ps : List NamedPolicy) (a : Answer) → IsAnswer W q ps a → IsAnswer V q ps a
    answered same ps a (inl d) = inl (denied same a d)
    answered same ps a (inr p) = inr (record {
      acyclic = λ u h. p.acyclic u ((alike u u).1 h);
      policy_outcomes = p.policy_outcomes;
      outcomes = judged ps p.policy_outcomes p.outcomes;
      answer = p.answer;
    })

pub give_alike : (stored : EntityUid → Option (List Field)) (P Q : Parents) → LeadAlike P Q → GiveAlike (entities_with stored P) (entities_with stored Q)
give_alike stored P Q alike q x r = (gives stored P Q alike q x r, gives stored Q P (flipped P Q alike) q x r)

pub answer_alike : (stored : EntityUid → Option (List Field)) (P Q : Parents) → LeadAlike P Q → HaveSameCycles P Q → AnswerAlike (entities_with stored P) (entities_with stored Q)
answer_alike stored P Q alike same q ps a = (answered stored P Q alike q same ps a, answered stored Q P (flipped P Q alike) q (turned P Q same) ps a)
