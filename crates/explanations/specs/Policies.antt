-- Defines the explanation of the policies of a file that do not pass validation.
-- Rules of this product: exactly the policies that `check` reports as rejected are explained, once each, in the order
-- of the file, with the code that `check` reports. A policy of at most 10,000 bytes, whose condition has at most 10,000
-- nodes, is explained with the cause and the details that fault_places gives, at the name or the expression at fault; a
-- larger one without a cause, at the whole policy. A note says so if the whole policy is shown. Without a schema no
-- policy is rejected.
use Rattle.std.specs.Prelude.{◌≡◌, ℕ, ◌+◌, ◌-◌, min, nat_le, Bool, true, false, ◌&&◌, List, [], ◌∷◌, ◌++◌, length}
use Rattle.std.specs.Prelude.{Option, Some, None}
use Rattle.std.specs.Prelude.{string_bytes, codes}
use Rattle.grammar_core.specs.Size.{node_count}
use Rattle.policy_grammar.specs.declared.policy.Policy.{Policy}
use Rattle.schema_decisions.specs.schema.Schemas.{StatedSchema}
use Rattle.schema_decisions.specs.typing.declared.fault.TypeFault.{TypeFault}
use Rattle.schema_decisions.specs.typing.declared.fault.TypeFault.TheVariants as fault
use Rattle.schema_decisions.specs.typing.Codes.{code_of}
use Rattle.schema_decisions.specs.validator.Passing.{Passes, IsCheckRefused}
use Rattle.explanations.specs.declared.finding.SourceFinding.{SourceFinding}
use Rattle.explanations.specs.ExplanationText.{IsSourceText}
use Rattle.fault_places.specs.declared.explaining.PolicyFault.{PolicyFault}
use Rattle.fault_places.specs.ReportWording.{IsPolicyFault}
use Rattle.explanations.specs.declared.pieces.Piece.{Piece}
use Rattle.explanations.specs.Pieces.{piece_at}
use Rattle.fault_places.specs.declared.spans.Span.{Span}
use Rattle.fault_places.specs.Spans.{IsSpanOf, IsNameSpanOf}
use Rattle.explanations.specs.TextParts.{IsNothing, IsPartOf, IsSourceAt}

-- `is_searched place policy` tests whether `policy`, at `place`, is searched for the expression at fault: its text has
-- at most 10,000 bytes, and its condition at most 10,000 nodes. (A text of 1,000 bytes may have 1,000,000 nodes: nested
-- `x is T in y` double them, since each is `x is T && x in y`.)
abbrev pub is_searched : Piece → Policy → Bool
is_searched place policy = nat_le (place.end - place.start) 10000 && nat_le (node_count policy.condition) 10000

-- `is_name f` tests for the errors of undeclared names (40, 41).
abbrev pub is_name : TypeFault → Bool
is_name fault.UnknownType = true
is_name fault.UnknownAction = true
is_name f = false

-- `IsNameOrExpressionSpan is_name part path found` holds if `found` is the span of the name at `path` of the policy
-- `part`, if `is_name`; otherwise the span of the expression there.
abbrev pub IsNameOrExpressionSpan : Bool → List ℕ → List ℕ → Option Span → Type 0
IsNameOrExpressionSpan true part path found = IsNameSpanOf part path found
IsNameOrExpressionSpan false part path found = IsSpanOf part path found

-- `IsSpanFound text place f found` holds if `found` is the span of what the error `f` blames in the policy at `place`.
abbrev pub IsSpanFound : List ℕ → Piece → PolicyFault → Option Span → Type 0
IsSpanFound text place f found =
    (part : List ℕ) × IsPartOf text place.start place.end part
    × IsNameOrExpressionSpan (is_name f.fault) part f.path.items found

-- `start_at place found` is the byte of the whole text at which the span `found` in the policy begins; if nothing was
-- found, the byte at which the policy begins. (At most 2^64 - 1, which is no restriction: no text is so long.)
abbrev pub start_at : Piece → Option Span → ℕ
start_at place None = place.start
start_at place (Some s) = min (place.start + s.start) 18446744073709551615

-- `end_at place found` is likewise the byte at which that span, or the policy, ends.
abbrev pub end_at : Piece → Option Span → ℕ
end_at place None = place.end
end_at place (Some s) = min (place.start + s.end) 18446744073709551615

-- `note_of found` is the note that the whole policy is shown, if nothing was found.
abbrev pub note_of : Option Span → List ℕ
note_of None = codes "the whole policy is shown, not the expression at fault"
note_of (Some s) = []

-- `large_note` is the note for a policy that is not searched.
abbrev pub large_note : List ℕ
large_note = codes "the policy is too large to show the expression at fault"

-- `IsFaultText file text place f bytes` holds if `bytes` explain the error `f` of the policy at `place`, at the name or
-- the expression that it blames.
pub record IsFaultText (file text : List ℕ) (place : Piece) (f : PolicyFault) (bytes : List ℕ) : Type 0 where
  pub finding : SourceFinding
  pub code : finding.code ≡ code_of f.fault
  pub found : Option Span
  pub is_found : IsSpanFound text place f found
  pub start : finding.start ≡ start_at place found
  pub end : finding.end ≡ end_at place found
  pub cause : finding.cause.now ≡ string_bytes f.cause
  pub detail : finding.detail.now ≡ string_bytes f.detail
  pub note : finding.note.now ≡ note_of found
  pub is_text : IsSourceText file text finding bytes

-- `IsCheckExplained s file text place policy bytes` holds if `bytes` explain why `policy`, at `place`, is rejected
-- under `s`; `bytes` are empty if `policy` passes.
pub data IsCheckExplained (s : StatedSchema) (file text : List ℕ) (place : Piece) (policy : Policy) : List ℕ → Type 0
  where
    passes_so : Passes s policy → IsCheckExplained s file text place policy []
    rejected_so : (f : PolicyFault) (bytes : List ℕ) → is_searched place policy ≡ true → IsPolicyFault s policy f
        → IsFaultText file text place f bytes → IsCheckExplained s file text place policy bytes
    too_large : (fault : TypeFault) (bytes : List ℕ) → is_searched place policy ≡ false → IsCheckRefused s policy fault
        → IsSourceAt file text large_note (code_of fault) place.start place.end IsNothing bytes
        → IsCheckExplained s file text place policy bytes

-- `IsPolicyExplained s file text place policy bytes` is the same relation if there is a schema; else `bytes` are empty.
abbrev pub IsPolicyExplained : Option StatedSchema → List ℕ → List ℕ → Piece → Policy → List ℕ → Type 0
IsPolicyExplained None file text place policy bytes = bytes ≡ []
IsPolicyExplained (Some s) file text place policy bytes = IsCheckExplained s file text place policy bytes

-- `ArePoliciesExplained s file text pieces policies bytes` holds if `bytes` explain each rejected policy of `policies`,
-- in order; each policy is at the piece of its index.
pub data ArePoliciesExplained (s : Option StatedSchema) (file text : List ℕ) (pieces : List Piece)
    : List Policy → List ℕ → Type 0 where
  none : ArePoliciesExplained s file text pieces [] []
  more : (ps : List Policy) (p : Policy) (before bytes : List ℕ) → ArePoliciesExplained s file text pieces ps before
      → IsPolicyExplained s file text (piece_at pieces (length ps)) p bytes
      → ArePoliciesExplained s file text pieces (ps ++ p ∷ []) (before ++ bytes)
