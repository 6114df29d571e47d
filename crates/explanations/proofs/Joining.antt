-- Explanations of the parts, joined to that of the whole.
use Rattle.std.proofs.Common.{◌≡◌, ◌⊎◌, ◌<◌, ◌≤◌, inl, inr, ℕ, Bool, true, false, List, [], ◌∷◌, ◌++◌, Option, None, Some, unwrap_or, option_map}
use Rattle.std.proofs.Common.{refl, sym, ap, ◌∙◌, subst, length, arith}
use Rattle.std.specs.Prelude.{MatchOption}
use Rattle.std.specs.Str.{IsUtf8, IsValidUpTo}
use Rattle.std.proofs.lemmas.Bool.Decides.{nat_tests}
use Rattle.std.proofs.lemmas.List.{take_all}
use Rattle.plain.specs.AllocationErrors.{OrNoMemory}
use Rattle.grammar_desugaring.specs.grammar_syntax.declared.token.Token.{Token}
use Rattle.policy_grammar.specs.declared.policy.Policy.{Policy}
use Rattle.policy_grammar.specs.declared.fault.ReadFault.{ReadFault}
use Rattle.policy_grammar.specs.Faults as reading
use Rattle.policy_grammar.specs.PolicyText.{IsPolicyFile, IsFileRefused}
use Rattle.schema_decisions.specs.schema.Schemas.{StatedSchema, IsSchemaOf}
use Rattle.schema_decisions.specs.answer_lines.Refusals.{number_in}
use Rattle.schema_decisions.specs.answer_lines.declared.refusal.Refusal.{Refusal}
use Rattle.schema_decisions.specs.answer_lines.Refusals.{no_memory}
use Rattle.schema_decisions.specs.decision_texts.Decisions.{ArePoliciesOf, ArePoliciesRefused}
use Rattle.schema_decisions.specs.Checks.{IsSchemaRefused}
use Rattle.schema_decisions.specs.typing.declared.fault.TypeFault.{TypeFault}
use Rattle.schema_decisions.specs.typing.declared.fault.TypeFault.TheVariants as fault
use Rattle.schema_decisions.specs.typing.Codes.{code_of}
use Rattle.schema_decisions.specs.validator.Passing.{Passes, IsCheckRefused}
use Rattle.fault_places.specs.declared.explaining.PolicyFault.{PolicyFault}
use Rattle.fault_places.specs.ReportWording.{IsPolicyFault}
use Rattle.fault_places.specs.declared.spans.Span.{Span}
use Rattle.fault_places.specs.Spans.{IsSpanOf, IsNameSpanOf}
use Rattle.explanations.specs.declared.pieces.Piece.{Piece}
use Rattle.explanations.specs.Files.{File, Files}
use Rattle.explanations.specs.TextParts.{IsPartOf, IsNothing, IsSourceAt, IsWholeAt, entry_words, IsMessageExplained, AppendsSome}
use Rattle.explanations.specs.Pieces.{ArePiecesOf}
use Rattle.explanations.specs.Policies.{is_searched, is_name, large_note, IsNameOrExpressionSpan, IsFaultText, IsCheckExplained, passes_so, rejected_so, too_large, ArePoliciesExplained}
use Rattle.explanations.specs.UnparsedFiles.{byte_in, is_that, names_token, IsReadErrorText, IsPieceExplained, is_read, is_unread, ArePiecesExplained, AppendsExplained}
use Rattle.explanations.specs.EntitiesAndRequests.{IsCheckOutcome, AreEntitiesExplained, IsRequestExplained}
use Rattle.explanations.specs.FileExplanations as whole
use Rattle.explanations.specs.FileExplanations.{AreTokensOf, IsUnreadExplained, IsOutcomeExplained, IsTextExplained, IsNoTextExplained, IsFileExplained, AreOthersExplained, IsExplainedUnder, IsExplainedAs, IsExplained}
use Rattle.explanations.proofs.Appending.{in_turn, nothing_more}

-- an answer that is known to be there, or not
pub some_so : {X : Type 0} (P : Type 0) (Q : X → Type 0) {o : Option X} {x : X} → o ≡ Some x → MatchOption o P Q → Q x
some_so P Q e h = subst (λ p. MatchOption p P Q) e h

pub none_so : {X : Type 0} (P : Type 0) (Q : X → Type 0) {o : Option X} → o ≡ None → MatchOption o P Q → P
none_so P Q e h = subst (λ p. MatchOption p P Q) e h

pub nothing_given : (old : List ℕ) → AppendsSome (λ bytes. bytes ≡ []) old old
nothing_given old = ([], refl, nothing_more old)

-- ---- a policy

module _ (s : StatedSchema) (file text : List ℕ) (place : Piece) (policy : Policy) (old : List ℕ) where
  pub policy_passes : Passes s policy → AppendsSome (IsCheckExplained s file text place policy) old old
  policy_passes h = ([], passes_so h, nothing_more old)

  pub policy_rejected : (new : List ℕ) (f : PolicyFault) → is_searched place policy ≡ true → IsPolicyFault s policy f
      → AppendsSome (IsFaultText file text place f) old new → AppendsSome (IsCheckExplained s file text place policy) old new
  policy_rejected new f e h a = (a.0, rejected_so f a.0 e h a.1, a.2)

  pub policy_large : (new : List ℕ) (f : TypeFault) → is_searched place policy ≡ false → IsCheckRefused s policy f
      → AppendsSome (IsSourceAt file text large_note (code_of f) place.start place.end IsNothing) old new → AppendsSome (IsCheckExplained s file text place policy) old new
  policy_large new f e h a = (a.0, too_large f a.0 e h a.1, a.2)

-- ---- a piece, and a file that does not parse

-- errors whose cause is a token, and other errors
pub is_token_named : (code : ℕ) → 11 ≤ code → code ≤ 16 → names_token code ≡ true
is_token_named code low high = grind (arith, nat_tests)

pub no_token_named : (code : ℕ) → (code < 11) ⊎ (17 ≤ code) → names_token code ≡ false
no_token_named code out = grind (arith, nat_tests)

module _ (o : Option StatedSchema) (file text : List ℕ) (tokens : List Token) (old : List ℕ) where
  pub piece_parses : (of_file : Refusal) (piece : Piece) (part : List ℕ) (names : List (List ℕ)) (cores : List Policy) (new : List ℕ) → IsPartOf text piece.start piece.end part
      → IsPolicyFile part names cores → AppendsSome (ArePoliciesExplained o file text (piece ∷ []) cores) old new
      → AppendsExplained (IsPieceExplained o file text tokens of_file piece) old new false
  piece_parses of_file piece part names cores new h g a = (a.0, is_read part names cores a.0 h g a.1, a.2)

  pub piece_does_not : (of_file : Refusal) (piece : Piece) (part : List ℕ) (f : ReadFault) (code at : ℕ) (told : Bool) (new : List ℕ) → told ≡ is_that of_file code at
      → code ≡ reading.code_of f → at ≡ byte_in piece f → IsPartOf text piece.start piece.end part → IsFileRefused part f
      → AppendsSome (IsReadErrorText file text tokens code at) old new → AppendsExplained (IsPieceExplained o file text tokens of_file piece) old new told
  piece_does_not of_file piece part f code at told new t c i h refused a =
      let stated : IsReadErrorText file text tokens (reading.code_of f) (byte_in piece f) a.0 =
      subst (λ (k : ℕ). IsReadErrorText file text tokens k (byte_in piece f) a.0) c (subst (λ (n : ℕ). IsReadErrorText file text tokens code n a.0) i a.1) in
      let same : told ≡ is_that of_file (reading.code_of f) (byte_in piece f) =
      t ∙ ap (λ (k : ℕ). is_that of_file k at) c ∙ ap (λ (k : ℕ). is_that of_file (reading.code_of f) k) i in
      (a.0, subst (λ (k : Bool). IsPieceExplained o file text tokens of_file piece k a.0) (sym same) (is_unread part f a.0 h refused stated), a.2)

  pub pieces_tell : (pieces : List Piece) (r : Refusal) (new : List ℕ) (told : Bool) → told ≡ true → AppendsExplained (ArePiecesExplained o file text tokens r pieces) old new told
      → AppendsSome (IsUnreadExplained o file text tokens pieces r) old new
  pieces_tell pieces r new told e a = (a.0, inl (subst (λ (b : Bool). ArePiecesExplained o file text tokens r pieces b a.0) e a.1), a.2)

  pub file_tells : (pieces : List Piece) (r : Refusal) (mid new : List ℕ) (told : Bool) (at : ℕ) → told ≡ false → at ≡ unwrap_or (number_in r.place) 0
      → AppendsExplained (ArePiecesExplained o file text tokens r pieces) old mid told → AppendsSome (IsReadErrorText file text tokens r.code at) mid new
      → AppendsSome (IsUnreadExplained o file text tokens pieces r) old new
  file_tells pieces r mid new told at e f a b =
      let first = subst (λ (t : Bool). ArePiecesExplained o file text tokens r pieces t a.0) e a.1 in
      let last = subst (λ (n : ℕ). IsReadErrorText file text tokens r.code n b.0) f b.1 in
      (a.0 ++ b.0, inr (a.0, b.0, first, last, refl), in_turn old mid new a.0 b.0 a.2 b.2)

-- ---- a file

module _ (o : Option StatedSchema) (file text : List ℕ) (tokens : List Token) (pieces : List Piece)
    (are_tokens : AreTokensOf text tokens) (are_pieces : ArePiecesOf (length text) tokens pieces) (old new : List ℕ) where
  text_parses_so : (bytes : List ℕ) → IsOutcomeExplained o file text tokens pieces bytes → IsTextExplained o file text bytes
  text_parses_so bytes h = record { tokens = tokens; are_tokens = are_tokens; pieces = pieces; are_pieces = are_pieces; outcome = h }

  pub text_parses : (names : List (List ℕ)) (cores : List Policy) → ArePoliciesOf text names cores
      → AppendsSome (ArePoliciesExplained o file text pieces cores) old new → AppendsSome (IsTextExplained o file text) old new
  text_parses names cores h a = (a.0, text_parses_so a.0 (whole.read names cores a.0 h a.1), a.2)

  pub text_does_not : (r : Refusal) → ArePoliciesRefused text r → AppendsSome (IsUnreadExplained o file text tokens pieces r) old new
      → AppendsSome (IsTextExplained o file text) old new
  text_does_not r h a = (a.0, text_parses_so a.0 (whole.unread r a.0 h a.1), a.2)

-- bytes of which only a front is UTF-8 are not
pub no_utf8 : (bytes : List ℕ) (at : ℕ) → IsValidUpTo bytes at → IsUtf8 bytes → ⊥
no_utf8 bytes at valid utf8 = valid.longest (length bytes) valid.short (subst IsUtf8 (sym (take_all (length bytes) bytes (omega arith))) utf8)

module _ (o : Option StatedSchema) (file held old new : List ℕ) where
  pub held_text : (text : List ℕ) → text ≡ held → IsUtf8 held → AppendsSome (IsTextExplained o file text) old new → AppendsSome (IsFileExplained o file held) old new
  held_text text same utf8 a = (a.0, inl (utf8, subst (λ (t : List ℕ). IsTextExplained o file t a.0) same a.1), a.2)

  pub held_no_text : AppendsSome (IsNoTextExplained file held) old new → AppendsSome (IsFileExplained o file held) old new
  held_no_text a = (a.0, inr a.1, a.2)

-- ---- what was checked

with_words : (name : List ℕ) (code : ℕ) (index : Option ℕ) (words : List ℕ) (IsDetail : List ℕ → Type 0) (bytes : List ℕ) → IsDetail words
    → IsWholeAt name code index (λ w. w ≡ words) bytes → IsWholeAt name code index IsDetail bytes
with_words name code index words IsDetail bytes t h = record {
  finding = h.finding;
  code_is = h.code_is;
  index_is = h.index_is;
  detail_holds = subst IsDetail (sym h.detail_holds) t;
  is_text = h.is_text;
}

-- the text on a message, which is alone
pub message_alone : (file words old new : List ℕ) (r : Refusal) → old ≡ [] → words ≡ entry_words (number_in r.place) r.within
    → AppendsSome (IsWholeAt file r.code None (λ w. w ≡ words)) old new → IsMessageExplained file r new
message_alone file words old new r empty same a =
    let told : IsMessageExplained file r a.0 = with_words file r.code None words (λ w. w ≡ entry_words (number_in r.place) r.within) a.0 same a.1 in
    subst (IsMessageExplained file r) (sym (a.2 ∙ ap (λ (l : List ℕ). l ++ a.0) empty)) told

pub whole_told : (name old new : List ℕ) (code : ℕ) (index : Option ℕ) (words : List ℕ) (IsDetail : List ℕ → Type 0) → IsDetail words
    → AppendsSome (IsWholeAt name code index (λ w. w ≡ words)) old new → AppendsSome (IsWholeAt name code index IsDetail) old new
whole_told name old new code index words IsDetail t a = (a.0, with_words name code index words IsDetail a.0 t a.1, a.2)

-- a text that is accepted, of which there is nothing to explain
pub accepted : (name old : List ℕ) (Read : Type 0) (Refused : Refusal → Type 0) (IsDetail : Option ℕ → List ℕ → Type 0) → Read
    → AppendsSome (IsCheckOutcome name Read Refused IsDetail) old old
accepted name old Read Refused IsDetail read = ([], inl (read, refl), nothing_more old)

-- a text that is rejected, with these words on the error
pub rejected : (name old new : List ℕ) (Read : Type 0) (Refused : Refusal → Type 0) (IsDetail : Option ℕ → List ℕ → Type 0) (r : Refusal) (words : List ℕ) → IsDetail (number_in r.place) words
    → OrNoMemory no_memory Refused r → (r ≡ no_memory → ⊥) × AppendsSome (IsWholeAt name r.code (number_in r.place) (λ w. w ≡ words)) old new
    → AppendsSome (IsCheckOutcome name Read Refused IsDetail) old new
rejected name old new Read Refused IsDetail r words t refused (h, a) =
    let told = whole_told name old new r.code (number_in r.place) words (IsDetail (number_in r.place)) t a in (told.0, inr (r, refused h, told.1), told.2)

-- ---- all texts

module _ (given : Files) (old : List ℕ) where
  pub others : (o : Option StatedSchema) (one two new : List ℕ) → AppendsSome (IsFileExplained o given.policies.name given.policies.text) old one
      → AppendsSome (AreEntitiesExplained o given.entities) one two
      → AppendsSome (IsRequestExplained o (option_map (λ file. file.text) given.schema) given.request) two new → AppendsSome (AreOthersExplained o given) old new
  others o one two new a b d = (
    a.0 ++ b.0 ++ d.0,
    record {
      first = a.0;
      second = b.0;
      third = d.0;
      policies = a.1;
      entities = b.1;
      request = d.1;
      is = refl;
    },
    in_turn old two new (a.0 ++ b.0) d.0 (in_turn old one two a.0 b.0 a.2 b.2) d.2,
  )

  pub under_schema : (schema : File) (s : StatedSchema) (new : List ℕ) → IsSchemaOf schema.text s → AppendsSome (AreOthersExplained (Some s) given) old new
      → AppendsSome (IsExplainedUnder schema given) old new
  under_schema schema s new h a = (a.0, inl (s, h, a.1), a.2)

  pub schema_rejected : (schema : File) (r : Refusal) (new : List ℕ) → IsSchemaRefused schema.text r
      → AppendsSome (IsWholeAt schema.name r.code (number_in r.place) IsNothing) old new → AppendsSome (IsExplainedUnder schema given) old new
  schema_rejected schema r new h a = (a.0, inr (r, h, a.1), a.2)

pub from_nothing : (given : Files) (old new : List ℕ) → old ≡ [] → AppendsSome (IsExplained given) old new → IsExplained given new
from_nothing given old new e a =
    let is : a.0 ≡ new = sym (a.2 ∙ ap (λ (l : List ℕ). l ++ a.0) e) in
    subst (IsExplained given) is a.1

pub given_as : (given : Files) (o : Option File) (old new : List ℕ) → given.schema ≡ o → AppendsSome (IsExplainedAs o given) old new
    → AppendsSome (IsExplained given) old new
given_as given o old new e a = subst (λ (p : Option File). AppendsSome (IsExplainedAs p given) old new) (sym e) a

-- ---- spans

-- errors of undeclared names, and other errors
pub names : (f : TypeFault) → f ≡ fault.UnknownType ⊎ f ≡ fault.UnknownAction → is_name f ≡ true
names f (inl e) = ap is_name e
names f (inr e) = ap is_name e

pub names_nothing : (f : TypeFault) → (f ≡ fault.UnknownType → ⊥) → (f ≡ fault.UnknownAction → ⊥) → is_name f ≡ false
names_nothing fault.UnknownType h g = absurd (h refl)
names_nothing fault.UnknownAction h g = absurd (g refl)
names_nothing _ h g = refl

pub found_name : (b : Bool) (part path as_stated : List ℕ) (found : Option Span) → b ≡ true → path ≡ as_stated → IsNameSpanOf part path found
    → IsNameOrExpressionSpan b part as_stated found
found_name b part path as_stated found e f h =
    subst (λ (c : Bool). IsNameOrExpressionSpan c part as_stated found) (sym e) (subst (λ (p : List ℕ). IsNameSpanOf part p found) f h)

pub found_form : (b : Bool) (part path as_stated : List ℕ) (found : Option Span) → b ≡ false → path ≡ as_stated → IsSpanOf part path found
    → IsNameOrExpressionSpan b part as_stated found
found_form b part path as_stated found e f h =
    subst (λ (c : Bool). IsNameOrExpressionSpan c part as_stated found) (sym e) (subst (λ (p : List ℕ). IsSpanOf part p found) f h)
