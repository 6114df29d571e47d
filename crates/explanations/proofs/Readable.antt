-- The explanations of files and of messages are readable, part by part.
use Rattle.std.proofs.Common.{◌≡◌, inl, inr, ℕ, Bool, List, [], ◌∷◌, ◌++◌, Option, None, Some, sym, subst}
use Rattle.grammar_desugaring.specs.grammar_syntax.declared.token.Token.{Token}
use Rattle.policy_grammar.specs.declared.policy.Policy.{Policy}
use Rattle.schema_decisions.specs.schema.Schemas.{StatedSchema}
use Rattle.schema_decisions.specs.answer_lines.Refusals.{number_in}
use Rattle.schema_decisions.specs.answer_lines.declared.refusal.Refusal.{Refusal}
use Rattle.explanations.specs.Readable.{IsReadable}
use Rattle.explanations.proofs.ReadableErrors.{both, nothing, source_is_readable, whole_is_readable}
use Rattle.fault_places.specs.declared.explaining.PolicyFault.{PolicyFault}
use Rattle.explanations.specs.declared.pieces.Piece.{Piece}
use Rattle.explanations.specs.Files.{File, Files}
use Rattle.explanations.specs.TextParts.{IsNothing, IsSourceAt, IsWholeAt, entry_words, IsMessageExplained}
use Rattle.explanations.specs.Policies as of_policies
use Rattle.explanations.specs.Policies.{IsFaultText, IsCheckExplained, passes_so, rejected_so, too_large, IsPolicyExplained, ArePoliciesExplained}
use Rattle.explanations.specs.UnparsedFiles as of_pieces
use Rattle.explanations.specs.UnparsedFiles.{end_of_token, IsCauseAt, IsReadErrorText, IsPieceExplained, is_read, is_unread, ArePiecesExplained}
use Rattle.explanations.specs.EntitiesAndRequests.{IsCheckOutcome, AreEntitiesRead, AreEntitiesRefused, IsRequestRead, IsRequestRefused, AreEntitiesExplained, IsRequestExplained}
use Rattle.explanations.specs.EntitiesAndRequests.{IsEntityPartNamed, IsRequestPartNamed}
use Rattle.explanations.specs.FileExplanations as whole
use Rattle.explanations.specs.FileExplanations.{not_utf8_words, IsUnreadExplained, IsOutcomeExplained, IsFileExplained, AreOthersExplained, IsExplainedUnder, IsExplainedAs, IsExplained}

empty : (bytes : List ℕ) → bytes ≡ [] → IsReadable bytes
empty bytes e = subst IsReadable (sym e) nothing

at_source : (file text note : List ℕ) (code start end : ℕ) (IsCause : List ℕ → Type 0) (bytes : List ℕ) → IsSourceAt file text note code start end IsCause bytes
    → IsReadable bytes
at_source file text note code start end IsCause bytes h = source_is_readable file text h.finding bytes h.is_text

read_error : (file text : List ℕ) (tokens : List Token) (code at : ℕ) (bytes : List ℕ) → IsReadErrorText file text tokens code at bytes → IsReadable bytes
read_error file text tokens code at bytes h =
    at_source file text [] code at (end_of_token tokens at) (IsCauseAt text code at (end_of_token tokens at)) bytes h

at_whole : (file : List ℕ) (code : ℕ) (index : Option ℕ) (IsDetail : List ℕ → Type 0) (bytes : List ℕ) → IsWholeAt file code index IsDetail bytes → IsReadable bytes
at_whole file code index IsDetail bytes h = whole_is_readable file h.finding bytes h.is_text

fault : (file text : List ℕ) (place : Piece) (f : PolicyFault) (bytes : List ℕ) → IsFaultText file text place f bytes → IsReadable bytes
fault file text place f bytes h = source_is_readable file text h.finding bytes h.is_text

check : (s : StatedSchema) (file text : List ℕ) (place : Piece) (policy : Policy) (bytes : List ℕ) → IsCheckExplained s file text place policy bytes
    → IsReadable bytes
check s file text place policy _ (passes_so p) = nothing
check s file text place policy _ (rejected_so f bytes a b h) = fault file text place f bytes h
check s file text place policy _ (too_large f bytes a b h) = at_source file text _ _ _ _ IsNothing bytes h

policy_reads : (o : Option StatedSchema) (file text : List ℕ) (place : Piece) (policy : Policy) (bytes : List ℕ) → IsPolicyExplained o file text place policy bytes
    → IsReadable bytes
policy_reads None file text place policy bytes h = empty bytes h
policy_reads (Some s) file text place policy bytes h = check s file text place policy bytes h

policies_read : (o : Option StatedSchema) (file text : List ℕ) (pieces : List Piece) (ps : List Policy) (bytes : List ℕ)
    → ArePoliciesExplained o file text pieces ps bytes → IsReadable bytes
policies_read o file text pieces _ _ of_policies.none = nothing
policies_read o file text pieces _ _ (of_policies.more ps p before bytes rest this) =
    both before bytes (policies_read o file text pieces ps before rest) (policy_reads o file text _ p bytes this)

piece_reads : (o : Option StatedSchema) (file text : List ℕ) (ts : List Token) (r : Refusal) (piece : Piece) (told : Bool) (bytes : List ℕ)
    → IsPieceExplained o file text ts r piece told bytes → IsReadable bytes
piece_reads o file text ts r piece _ _ (is_read part names cores bytes a b h) = policies_read o file text (piece ∷ []) cores bytes h
piece_reads o file text ts r piece _ _ (is_unread part f bytes a b h) = read_error file text ts _ _ bytes h

pieces_read : (o : Option StatedSchema) (file text : List ℕ) (ts : List Token) (r : Refusal) (ps : List Piece) (told : Bool) (bytes : List ℕ)
    → ArePiecesExplained o file text ts r ps told bytes → IsReadable bytes
pieces_read o file text ts r _ _ _ of_pieces.none = nothing
pieces_read o file text ts r _ _ _ (of_pieces.more ps p some told before bytes rest this) =
    both before bytes (pieces_read o file text ts r ps some before rest) (piece_reads o file text ts r p told bytes this)

unread_reads : (o : Option StatedSchema) (file text : List ℕ) (ts : List Token) (pieces : List Piece) (r : Refusal) (bytes : List ℕ)
    → IsUnreadExplained o file text ts pieces r bytes → IsReadable bytes
unread_reads o file text ts pieces r bytes (inl h) = pieces_read o file text ts r pieces _ bytes h
unread_reads o file text ts pieces r bytes (inr h) =
    subst IsReadable (sym h.4) (both h.0 h.1 (pieces_read o file text ts r pieces _ h.0 h.2) (read_error file text ts _ _ h.1 h.3))

outcome_reads : (o : Option StatedSchema) (file text : List ℕ) (ts : List Token) (pieces : List Piece) (bytes : List ℕ)
    → IsOutcomeExplained o file text ts pieces bytes → IsReadable bytes
outcome_reads o file text ts pieces _ (whole.read names cores bytes a h) = policies_read o file text pieces cores bytes h
outcome_reads o file text ts pieces _ (whole.unread r bytes a h) = unread_reads o file text ts pieces r bytes h

file_reads : (o : Option StatedSchema) (file held bytes : List ℕ) → IsFileExplained o file held bytes → IsReadable bytes
file_reads o file held bytes (inl h) = outcome_reads o file held h.1.tokens h.1.pieces bytes h.1.outcome
file_reads o file held bytes (inr h) = at_whole file _ None (λ words. words ≡ not_utf8_words h.at) bytes h.is_text

judged_reads : (name : List ℕ) (Read : Type 0) (Refused : Refusal → Type 0) (IsDetail : Option ℕ → List ℕ → Type 0) (bytes : List ℕ) → IsCheckOutcome name Read Refused IsDetail bytes
    → IsReadable bytes
judged_reads name Read Refused IsDetail bytes (inl h) = empty bytes h.1
judged_reads name Read Refused IsDetail bytes (inr h) = at_whole name _ _ (IsDetail (number_in h.0.place)) bytes h.2

entities_read : (o : Option StatedSchema) (file : Option File) (bytes : List ℕ) → AreEntitiesExplained o file bytes → IsReadable bytes
entities_read o None bytes h = empty bytes h
entities_read o (Some file) bytes h = judged_reads file.name (AreEntitiesRead o file.text) (AreEntitiesRefused o file.text) (IsEntityPartNamed o file.text) bytes h

request_reads : (o : Option StatedSchema) (schema : Option (List ℕ)) (file : Option File) (bytes : List ℕ) → IsRequestExplained o schema file bytes → IsReadable bytes
request_reads o schema None bytes h = empty bytes h
request_reads o schema (Some file) bytes h =
    judged_reads file.name (IsRequestRead schema file.text) (IsRequestRefused schema file.text) (λ place. IsRequestPartNamed o file.text) bytes h

others_read : (o : Option StatedSchema) (given : Files) (bytes : List ℕ) → AreOthersExplained o given bytes → IsReadable bytes
others_read o given bytes h =
    let policies = file_reads o given.policies.name given.policies.text h.first h.policies in
    let two = both h.first h.second policies (entities_read o given.entities h.second h.entities) in
    subst IsReadable (sym h.is) (both (h.first ++ h.second) h.third two (request_reads o _ given.request h.third h.request))

under_reads : (schema : File) (given : Files) (bytes : List ℕ) → IsExplainedUnder schema given bytes → IsReadable bytes
under_reads schema given bytes (inl h) = others_read (Some h.0) given bytes h.2
under_reads schema given bytes (inr h) = at_whole schema.name _ _ IsNothing bytes h.2

as_given : (o : Option File) (given : Files) (bytes : List ℕ) → IsExplainedAs o given bytes → IsReadable bytes
as_given None given bytes h = others_read None given bytes h
as_given (Some schema) given bytes h = under_reads schema given bytes h

pub explained : (given : Files) (bytes : List ℕ) → IsExplained given bytes → IsReadable bytes
explained given bytes h = as_given given.schema given bytes h

pub message_reads : (file : List ℕ) (r : Refusal) (bytes : List ℕ) → IsMessageExplained file r bytes → IsReadable bytes
message_reads file r bytes h = at_whole file r.code None (λ words. words ≡ entry_words (number_in r.place) r.within) bytes h
