-- Defines the outcome of three texts (policies, entities, a request) in a setting: the line of an answer, or the first
-- error.
-- Source: Cedar reference guide 4.0, "Authorization".
-- Rules of this product: all policies are parsed before any is checked; they are checked before the entities, and the
-- entities before the request. A file that is too long is rejected before it is checked to be UTF-8. Bytes that are
-- not UTF-8 are a bad token at offset 0.
use Rattle.std.specs.Prelude.{◌≡◌, ◌⊎◌, ◌≤◌, ◌<◌, ℕ, List, [], ◌∷◌, length, if◌then◌else◌, Some, None, Ok, Err}
use Rattle.std.specs.Prelude.{IsPermutation, option_map}
use Rattle.std.specs.List.Sorted.{IsSortedByKey}
use Rattle.std.specs.Ordering.{nat_cmp}
use Rattle.std.specs.Cmp.Lexicographic.{slice_cmp}
use Rattle.std.specs.Str.{IsUtf8}
use Rattle.values.specs.declared.request.Request.{Request}
use Rattle.entity_data.specs.ancestor_search.Decided.{is_same}
use Rattle.entity_data.specs.evaluator.Operators.{Entities}
use Rattle.entity_data.specs.declared.entity.Entity.{Entity}
use Rattle.entity_data.specs.Entities.{EntityMap, Actions, with_actions, entity_data_in}
use Rattle.entity_data.specs.EntityStores.{data_of}
use Rattle.answer_lines.specs.policy_grammar.declared.fault.ReadFault.{ReadFault}
use Rattle.answer_lines.specs.policy_grammar.declared.fault.ReadFault.TheVariants.{TooLong, BadToken}
use Rattle.answer_lines.specs.policy_grammar.declared.policy.Policy.{Policy}
use Rattle.answer_lines.specs.policy_grammar.Faults.{code_of, place_of}
use Rattle.answer_lines.specs.policy_grammar.Limits.{most_file_bytes}
use Rattle.answer_lines.specs.policy_grammar.PolicyText.{IsPolicyFile, IsFileRefused}
use Rattle.answer_lines.specs.authoriser.declared.answer.Answer.{Answer}
use Rattle.answer_lines.specs.authoriser.Answers.{NamedPolicy, IsAnswer}
use Rattle.answer_lines.specs.declared.place.Place.TheVariants.{Byte}
use Rattle.answer_lines.specs.declared.refusal.Refusal.{Refusal}
use Rattle.answer_lines.specs.Lines.{answer_line}
use Rattle.decision_texts.specs.Settings.{Reading}
use Rattle.decision_texts.specs.EntityArrays.{entities_of}
use Rattle.decision_texts.specs.Requests.{IsRequestText, IsRequestRefused}

-- ---- policies

-- `ArePoliciesOf bytes names policies` holds if `bytes` are a file of the policies `policies`, with their names
-- `names`, in the file's order.
pub record ArePoliciesOf (bytes : List ℕ) (names : List (List ℕ)) (policies : List Policy) : Type 0 where
  pub utf8 : IsUtf8 bytes
  pub file : IsPolicyFile bytes names policies

-- `IsFileFault bytes fault` holds if `fault` is the error of `bytes` as a file of policies: too long, not UTF-8, or the
-- error of its text.
abbrev pub IsFileFault : List ℕ → ReadFault → Type 0
IsFileFault bytes fault =
    ((most_file_bytes < length bytes) × (fault ≡ TooLong))
    ⊎ ((length bytes ≤ most_file_bytes) × (IsUtf8 bytes → ⊥) × (fault ≡ BadToken 0))
    ⊎ ((length bytes ≤ most_file_bytes) × IsUtf8 bytes × IsFileRefused bytes fault)

-- `refusal_by fault` is the reported error for the error `fault` of a file of policies, at the same byte offset.
abbrev pub refusal_by : ReadFault → Refusal
refusal_by fault = record { code = code_of fault; place = option_map Byte (place_of fault); within = None }

-- `ArePoliciesRefused bytes refusal` holds if `refusal` is the reported error of `bytes` as a file of policies.
pub record ArePoliciesRefused (bytes : List ℕ) (refusal : Refusal) : Type 0 where
  pub fault : ReadFault
  pub is_fault : IsFileFault bytes fault
  pub is : refusal ≡ refusal_by fault

-- `AreAdmitted r bytes names policies` holds if `bytes` are a file of `policies` with the names `names`, and the
-- setting `r` admits these policies.
pub record AreAdmitted (r : Reading) (bytes : List ℕ) (names : List (List ℕ)) (policies : List Policy) : Type
    0 where
  pub file : ArePoliciesOf bytes names policies
  pub admitted : r.admits policies

-- `AreNotAdmitted r bytes refusal` holds if `refusal` is the error of the file `bytes`, or the error with which the
-- setting `r` rejects the policies of the file.
pub data AreNotAdmitted (r : Reading) (bytes : List ℕ) (refusal : Refusal) : Type 0 where
  unread : ArePoliciesRefused bytes refusal → AreNotAdmitted r bytes refusal
  rejected : (names : List (List ℕ)) (policies : List Policy) → ArePoliciesOf bytes names policies
      → r.rejects policies refusal → AreNotAdmitted r bytes refusal

-- ---- the policies by their names

-- `named_policies names policies` are the policies `policies`, each with the name at its index in `names`.
abbrev pub named_policies : List (List ℕ) → List Policy → List NamedPolicy
named_policies [] policies = []
named_policies (name ∷ names) [] = []
named_policies (name ∷ names) (policy ∷ policies) =
    record { id = name; policy = policy } ∷ named_policies names policies

-- `IsInOrder policies ordered` holds if `ordered` has the same policies as `policies`, ascending by name.
pub record IsInOrder (policies ordered : List NamedPolicy) : Type 0 where
  pub same : IsPermutation policies ordered
  pub ascending : IsSortedByKey (λ p. p.id) (slice_cmp nat_cmp) ordered

-- ---- entity data

-- `stated es q` is the data of the first of the entities `es` with the uid `q`; `None` if none has this uid.
abbrev pub stated : List Entity → EntityMap
stated [] q = None
stated (e ∷ es) q = if is_same e.uid q then Some (data_of e) else stated es q

-- `entity_data_with actions es` is the entity data that evaluation uses: the entities `es`, and the declared actions
-- `actions`.
abbrev pub entity_data_with : Actions → List Entity → Entities
entity_data_with actions es = entity_data_in (with_actions actions (stated es))

-- `IsAnswerTo policies W asked answer` holds if `answer` is the answer to the request `asked` over the entity data `W`
-- and `policies`, evaluated in the order of their names.
pub record IsAnswerTo (policies : List NamedPolicy) (W : Entities) (asked : Request) (answer : Answer) : Type 0 where
  pub ordered : List NamedPolicy
  pub order : IsInOrder policies ordered
  pub is : IsAnswer W asked ordered answer

-- ---- entities and a request, over admitted policies

-- `IsRequestAnswered r policies entities request line` holds if the setting `r` parses the texts `entities` and
-- `request`, and `line` is the line of the answer to that request over `policies` and those entities.
pub record IsRequestAnswered (r : Reading) (policies : List NamedPolicy) (entities request line : List ℕ)
    : Type 0 where
  pub stored : List Entity
  pub array : entities_of r entities ≡ Ok stored
  pub asked : Request
  pub request_stated : IsRequestText r request asked
  pub answer : Answer
  pub answers : IsAnswerTo policies (entity_data_with r.actions stored) asked answer
  pub line_is : line ≡ answer_line answer

-- `AreInputsRejected r entities request refusal` holds if `refusal` is the error of the text `entities` in the setting
-- `r`; or, if `entities` is parsed without an error, the error of the text `request`.
pub data AreInputsRejected (r : Reading) (entities request : List ℕ) (refusal : Refusal) : Type 0 where
  by_entities : entities_of r entities ≡ Err refusal → AreInputsRejected r entities request refusal
  by_request : (stored : List Entity) → entities_of r entities ≡ Ok stored → IsRequestRefused r request refusal
      → AreInputsRejected r entities request refusal

-- ---- the three texts

-- `IsDecided r policies entities request line` holds if the setting `r` parses the texts `policies`, `entities` and
-- `request` and admits the policies, and `line` is the line of the request's answer.
pub record IsDecided (r : Reading) (policies entities request line : List ℕ) : Type 0 where
  pub names : List (List ℕ)
  pub cores : List Policy
  pub admitted : AreAdmitted r policies names cores
  pub answered : IsRequestAnswered r (named_policies names cores) entities request line

-- `IsDecisionRefused r policies entities request refusal` holds if `refusal` is the error of the first text that the
-- setting `r` rejects, in the order `policies`, `entities`, `request`.
pub data IsDecisionRefused (r : Reading) (policies entities request : List ℕ) (refusal : Refusal) : Type 0 where
  by_policies : AreNotAdmitted r policies refusal → IsDecisionRefused r policies entities request refusal
  by_inputs : (names : List (List ℕ)) (cores : List Policy) → AreAdmitted r policies names cores
      → AreInputsRejected r entities request refusal → IsDecisionRefused r policies entities request refusal
