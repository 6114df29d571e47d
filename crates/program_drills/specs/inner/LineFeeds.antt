-- Defines the text of lines, each with its line feed, and when the lines of events are appended to a text.
use Rattle.std.specs.Prelude.{◌≡◌, ℕ, List, [], ◌∷◌, ◌++◌}
use Rattle.std.specs.List.{AllZip}
use Rattle.http_service.specs.site.declared.event.EventReply.{EventReply}
use Rattle.program_drills.specs.Lines.{line_end}
use Rattle.program_drills.specs.Drills.{IsEventLine}

-- `ended ls` are the lines `ls`, each with its line feed.
abbrev pub ended : List (List ℕ) → List ℕ
ended [] = []
ended (l ∷ ls) = (l ++ line_end ∷ []) ++ ended ls

-- `AppendsEventLines answers before after` holds if `after` is `before` followed by the lines of `answers`: one for
-- each answer, each line with its line feed.
abbrev pub AppendsEventLines : List EventReply → List ℕ → List ℕ → Type 0
AppendsEventLines answers before after =
    (ls : List (List ℕ)) × AllZip IsEventLine answers ls × (after ≡ before ++ ended ls)

-- `AppendsEventLine answer before after` holds if `after` is `before` followed by the line of `answer`, without a line
-- feed.
abbrev pub AppendsEventLine : EventReply → List ℕ → List ℕ → Type 0
AppendsEventLine answer before after = (line : List ℕ) × IsEventLine answer line × (after ≡ before ++ line)
