-- Defines the theorems about the decision of four texts (schema, policies, entities, request): they have exactly one
-- outcome, a line or an error, and the line's ids ascend.
-- Rules of this product: the outcome follows from the texts alone, except that any call may return `NoMemory` instead.
use Rattle.std.specs.Prelude.{◌≡◌, ◌⊎◌, ℕ, List, map}
use Rattle.decision_texts.specs.authoriser.Laws.{AreIdsAscending}
use Rattle.entity_hierarchy.specs.Laws.{stated_world}
use Rattle.decision_texts.specs.answer_lines.declared.refusal.Refusal.{Refusal}
use Rattle.decision_texts.specs.Decisions.{named_policies, stated, IsAnswerTo}
use Rattle.schema_decisions.specs.Decisions.{IsDecided, IsSchemaDecisionRefused}

-- `OneLine`: four texts have at most one answer line.
abbrev pub OneLine : Type 0
OneLine = (schema policies entities request line other : List ℕ) → IsDecided schema policies entities request line
    → IsDecided schema policies entities request other → line ≡ other

-- `NotBoth`: four texts that have an answer line have no error.
abbrev pub NotBoth : Type 0
NotBoth = (schema policies entities request line : List ℕ) (refusal : Refusal)
    → IsDecided schema policies entities request line
    → IsSchemaDecisionRefused schema policies entities request refusal → ⊥

-- `OneRefusal`: four texts have at most one error.
abbrev pub OneRefusal : Type 0
OneRefusal = (schema policies entities request : List ℕ) (refusal other : Refusal)
    → IsSchemaDecisionRefused schema policies entities request refusal
    → IsSchemaDecisionRefused schema policies entities request other → refusal ≡ other

-- `LineOrRefusal`: four texts have an answer line or an error.
abbrev pub LineOrRefusal : Type 0
LineOrRefusal = (schema policies entities request : List ℕ)
    → ((line : List ℕ) × IsDecided schema policies entities request line)
    ⊎ ((refusal : Refusal) × IsSchemaDecisionRefused schema policies entities request refusal)

-- `ListsOfLinesAscend`: in an answer line the ids of the determining policies ascend, and so do the ids of the erroring
-- policies.
abbrev pub ListsOfLinesAscend : Type 0
ListsOfLinesAscend = (schema policies entities request line : List ℕ)
    (x : IsDecided schema policies entities request line) → let answer = x.decided.answered.answer in
    AreIdsAscending answer.reason × AreIdsAscending (map (λ e. e.policy) answer.errors)

-- `MemberOfDecidesAlike`: the answer is the one over the entity data in which each action has the parents that its
-- `memberOf` names (`stated_world`).
abbrev pub MemberOfDecidesAlike : Type 0
MemberOfDecidesAlike = (schema policies entities request line : List ℕ)
    (x : IsDecided schema policies entities request line) → let under = x.decided in
    IsAnswerTo (named_policies under.names under.cores)
    (stated_world x.states.named x.stated (stated under.answered.stored)) under.answered.asked under.answered.answer
