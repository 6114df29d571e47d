-- Defines the theorems that the three texts of a decision have exactly one outcome, a line or an error.
-- Rules of this product: the outcome depends only on the texts and on the setting, except that a call may return
-- `NoMemory` whatever the texts.
use Rattle.std.specs.Prelude.{◌≡◌, ◌⊎◌, ℕ, List, map}
use Rattle.answer_lines.specs.authoriser.Laws.{AreIdsAscending}
use Rattle.answer_lines.specs.declared.refusal.Refusal.{Refusal}
use Rattle.decision_texts.specs.Settings.{Reading}
use Rattle.decision_texts.specs.Decisions.{IsDecided, IsDecisionRefused}

-- `OneLine r`: in the setting `r`, three texts have at most one line.
abbrev pub OneLine : Reading → Type 0
OneLine r = (policies entities request line other : List ℕ) → IsDecided r policies entities request line
    → IsDecided r policies entities request other → line ≡ other

-- `NotBoth r`: in the setting `r`, three texts that have a line have no error.
abbrev pub NotBoth : Reading → Type 0
NotBoth r = (policies entities request line : List ℕ) (refusal : Refusal)
    → IsDecided r policies entities request line → IsDecisionRefused r policies entities request refusal → ⊥

-- `OneRefusal r`: in the setting `r`, three texts have at most one error.
abbrev pub OneRefusal : Reading → Type 0
OneRefusal r = (policies entities request : List ℕ) (refusal other : Refusal)
    → IsDecisionRefused r policies entities request refusal
    → IsDecisionRefused r policies entities request other → refusal ≡ other

-- `LineOrRefusal r`: in the setting `r`, three texts have a line or an error.
abbrev pub LineOrRefusal : Reading → Type 0
LineOrRefusal r = (policies entities request : List ℕ)
    → ((line : List ℕ) × IsDecided r policies entities request line)
    ⊎ ((refusal : Refusal) × IsDecisionRefused r policies entities request refusal)

-- `ListsOfLinesAscend r`: in the answer that a line in the setting `r` reports, the ids of the determining policies
-- ascend, and so do those of the erroring policies.
abbrev pub ListsOfLinesAscend : Reading → Type 0
ListsOfLinesAscend r = (policies entities request line : List ℕ) (x : IsDecided r policies entities request line)
    → let answer = x.answered.answer in
    AreIdsAscending answer.reason × AreIdsAscending (map (λ e. e.policy) answer.errors)
