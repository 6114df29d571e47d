-- Defines the output line of an answer.
-- Rules of this product: compact JSON, keys ascending, each of the four keys always present.
use Rattle.std.specs.Prelude.{ℕ, List, map, codes}
use Rattle.serde_json.specs.Data.{Data, string, object, array, no_members, member}
use Rattle.serde_json.specs.View.{items_of}
use Rattle.serde_json.specs.Written.{compact_text}
use Rattle.entity_uids.specs.Uids.{uid_json}
use Rattle.authoriser.specs.declared.answer.Answer.{Answer}
use Rattle.authoriser.specs.declared.answer.Decision.{Decision}
use Rattle.authoriser.specs.declared.answer.Decision.TheVariants.{Allow, Deny}
use Rattle.authoriser.specs.declared.answer.ErringPolicy.{ErringPolicy}
use Rattle.authoriser.specs.declared.outcome.PolicyError.{PolicyError}
use Rattle.authoriser.specs.declared.outcome.PolicyError.TheVariants.{EntityDoesNotExist, AttrDoesNotExist, TypeError}
use Rattle.authoriser.specs.declared.outcome.PolicyError.TheVariants.{ArithBoundsError, ExtensionError}

-- `decision_word d` is the word of the decision `d`, and `error_word e` that of the error `e`.
abbrev pub decision_word : Decision → List ℕ
decision_word Allow = codes "Allow"
decision_word Deny = codes "Deny"

abbrev pub error_word : PolicyError → List ℕ
error_word EntityDoesNotExist = codes "entityDoesNotExist"
error_word AttrDoesNotExist = codes "attrDoesNotExist"
error_word TypeError = codes "typeError"
error_word ArithBoundsError = codes "arithBoundsError"
error_word ExtensionError = codes "extensionError"

-- `erring_json e` is the JSON of the erroring policy `e` with its error.
abbrev pub erring_json : ErringPolicy → Data
erring_json e = object (member (codes "error") (string (error_word e.error))
    (member (codes "policy") (string e.policy) no_members))

-- `each_json f xs` is the array with the JSON `f x` of each `x` of `xs`, in order.
abbrev pub each_json : {X : Type 0} → (X → Data) → List X → Data
each_json f xs = array (items_of (map f xs))

-- `under_keys cycle decision errors reason` is the object of an answer, with each of these four parts under the key of
-- its name.
abbrev pub under_keys : Data → List ℕ → Data → Data → Data
under_keys cycle decision errors reason = object (member (codes "cycle") cycle
    (member (codes "decision") (string decision)
    (member (codes "errors") errors
    (member (codes "reason") reason no_members))))

-- `answer_json a` is the JSON of the answer `a`.
abbrev pub answer_json : Answer → Data
answer_json a = under_keys (each_json uid_json a.cycle) (decision_word a.decision) (each_json erring_json a.errors)
    (each_json (λ id. string id) a.reason)

-- `answer_line a` is the line of the answer `a`, such as
-- {"cycle":[],"decision":"Allow","errors":[],"reason":["policy0"]}.
unfoldable pub answer_line : Answer → List ℕ
answer_line a = compact_text (answer_json a)
