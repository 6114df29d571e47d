-- A script, one line more at each turn.
use Rattle.std.proofs.Common.{◌≡◌, ◌∙◌, ℕ, suc, ◌+◌, ◌≤◌, List, [], ◌∷◌, ◌++◌, length, Option, Some, None, Result, Ok}
use Rattle.std.proofs.Common.{Err, refl, sym, ap, arith}
use Rattle.std.specs.List.{AllZip}
use Rattle.std.proofs.lemmas.List.{append_assoc, append-nil, length-append}
use Rattle.json_words.specs.ReadsAs.{◌>>=◌}
use Rattle.schema_decisions.specs.answer_lines.declared.refusal.Refusal.{Refusal}
use Rattle.schema_decisions.specs.answer_lines.Refusals.{bad_shape}
use Rattle.http_service.specs.site.declared.event.Operation.{Operation}
use Rattle.http_service.specs.site.declared.event.Operation.TheVariants as operation
use Rattle.http_service.specs.site.declared.event.Event.{Event}
use Rattle.program_drills.specs.declared.made.MadeCounts.{MadeCounts}
use Rattle.program_drills.specs.Lines.{lines}
use Rattle.program_drills.specs.ScriptLines.{ScriptOperation, plain, put_entity, delete_entity, authorize, ScriptLine, script_line_of, after_operation, after_script_operation}
use Rattle.program_drills.specs.ScriptLines.{IsOperationOf, IsEventOf}
use Rattle.program_drills.specs.Scripts.{script_lines_from, none_made, script_of, AreEventsOf, IsScriptRefused}
use Rattle.program_drills.specs.inner.Reading.{IsLineRead, onto, IsReadUpTo}

-- what is made once an operation is done is what is made once it is asked for
after_same : (made : MadeCounts) (asked : ScriptOperation) (d : Operation) → IsOperationOf asked d → after_operation made d ≡ after_script_operation made asked
after_same made (plain asked) d is = ap (after_operation made) is
after_same made (put_entity json) d is = ap (after_operation made) is.1
after_same made (delete_entity json) d is = ap (after_operation made) is.1
after_same made (authorize json) d is = ap (after_operation made) is.1

messages_after : (made : MadeCounts) (d : Operation) → (after_operation made d).messages ≤ made.messages + 1
messages_after made operation.Summary = omega arith
messages_after made operation.Offer = omega arith
messages_after made (operation.OfferDelta k) = omega arith
messages_after made _ = omega arith

summaries_after : (made : MadeCounts) (d : Operation) → (after_operation made d).summaries ≤ made.summaries + 1
summaries_after made operation.Summary = omega arith
summaries_after made operation.Offer = omega arith
summaries_after made (operation.OfferDelta k) = omega arith
summaries_after made _ = omega arith

pub zip_more : {A B : Type 0} (R : A → B → Type 0) (xs : List A) (ys : List B) (x : A) (y : B) → AllZip R xs ys → R x y
    → AllZip R (xs ++ x ∷ []) (ys ++ y ∷ [])
zip_more R [] [] x y all r = (r, tt)
zip_more R [] (b ∷ ys) x y all r = absurd all
zip_more R (a ∷ xs) [] x y all r = absurd all
zip_more R (a ∷ xs) (b ∷ ys) x y all r = (all.0, zip_more R xs ys x y all.1 r)

onto_none : (r : Result (List ScriptLine) ℕ) → r ≡ onto [] r
onto_none (Ok more) = refl
onto_none (Err k) = refl

onto_more : (said : List ScriptLine) (s : ScriptLine) (r : Result (List ScriptLine) ℕ)
    → onto said (r >>= λ more. Ok (s ∷ more)) ≡ onto (said ++ s ∷ []) r
onto_more said s (Ok more) = ap Ok (sym (append_assoc said (s ∷ []) more))
onto_more said s (Err k) = refl

-- nothing is read yet
pub none_read : (n : ℕ) (script : List ℕ) → IsReadUpTo n script none_made script []
none_read n script = record {
  said = [];
  is = onto_none (script_of n script);
  each = tt;
  messages = omega arith;
  summaries = omega arith;
}

-- what the line says, then what those behind it say
said_next : (n : ℕ) (made : MadeCounts) (k : ℕ) (line : List ℕ) (ls : List (List ℕ)) (s : ScriptLine) → script_line_of n made line ≡ Some s
    → script_lines_from n made k (line ∷ ls) ≡ (script_lines_from n (after_script_operation made s.script_operation) (suc k) ls >>= λ more. Ok (s ∷ more))
unfolding script_lines_from
said_next n made k line ls s is = rw is refl

said_never : (n : ℕ) (made : MadeCounts) (k : ℕ) (line : List ℕ) (ls : List (List ℕ)) → script_line_of n made line ≡ None
    → script_lines_from n made k (line ∷ ls) ≡ Err k
unfolding script_lines_from
said_never n made k line ls is = rw is refl

said_end : (n : ℕ) (made : MadeCounts) (k : ℕ) → script_lines_from n made k (lines []) ≡ Ok []
unfolding script_lines_from
said_end n made k = refl

read_said : (said : Option ScriptLine) (e : Event) → IsLineRead said (Some e) → (s : ScriptLine) × (said ≡ Some s) × IsEventOf s e
read_said None e is = absurd is
read_said (Some s) e is = (s, refl, is)

read_never : (said : Option ScriptLine) → IsLineRead said None → said ≡ None
read_never None is = refl
read_never (Some s) is = absurd is

-- one line more
pub read_more : (n : ℕ) (script : List ℕ) (made : MadeCounts) (rest line behind : List ℕ) (events : List Event) (e : Event) (now : MadeCounts)
    → IsReadUpTo n script made rest events → lines rest ≡ line ∷ lines behind → IsLineRead (script_line_of n made line) (Some e)
    → now ≡ after_operation made e.operation → IsReadUpTo n script now behind (events ++ e ∷ [])
read_more n script made rest line behind events e now was parts read is =
    let found = read_said (script_line_of n made line) e read in
    let s : ScriptLine = found.0 in
    let after : after_script_operation made s.script_operation ≡ now = sym (after_same made s.script_operation e.operation found.2.1) ∙ sym is in
    let count : length (events ++ e ∷ []) ≡ suc (length events) = length-append events (e ∷ []) ∙ omega arith in
    let more = messages_after made e.operation in
    let sums = summaries_after made e.operation in
    let was_messages = was.messages in
    let was_summaries = was.summaries in
    record {
      said = was.said ++ s ∷ [];
      is =
          was.is ∙ ap (λ (ls : List (List ℕ)). onto was.said (script_lines_from n made (length events) ls)) parts
          ∙ ap (onto was.said) (said_next n made (length events) line (lines behind) s found.1)
          ∙ onto_more was.said s (script_lines_from n (after_script_operation made s.script_operation) (suc (length events)) (lines behind))
          ∙ ap (λ (m : MadeCounts). onto (was.said ++ s ∷ []) (script_lines_from n m (suc (length events)) (lines behind))) after
          ∙ ap (λ (k : ℕ). onto (was.said ++ s ∷ []) (script_lines_from n now k (lines behind))) (sym count);
      each = zip_more IsEventOf was.said events s e was.each found.2;
      messages = rw (count, is) (omega (arith, more, was_messages));
      summaries = rw (count, is) (omega (arith, sums, was_summaries));
    }

nothing_left : (rest : List ℕ) → length rest ≡ 0 → rest ≡ []
nothing_left [] none = refl
nothing_left (b ∷ bs) none = absurd (omega (arith, none))

-- all lines are read
pub all_read : (n : ℕ) (script : List ℕ) (made : MadeCounts) (rest : List ℕ) (events : List Event) → IsReadUpTo n script made rest events
    → length rest ≡ 0 → AreEventsOf n script events
all_read n script made rest events was none = record {
  said = was.said;
  is =
      was.is ∙ ap (λ (l : List ℕ). onto was.said (script_lines_from n made (length events) (lines l))) (nothing_left rest none)
      ∙ ap (onto was.said) (said_end n made (length events)) ∙ ap Ok (append-nil was.said);
  each = was.each;
}

-- or the next one says nothing
pub next_refused : (n : ℕ) (script : List ℕ) (made : MadeCounts) (rest line behind : List ℕ) (events : List Event) (r : Refusal)
    → IsReadUpTo n script made rest events → lines rest ≡ line ∷ lines behind → IsLineRead (script_line_of n made line) None
    → r ≡ bad_shape (Some (length events)) → IsScriptRefused n script r
next_refused n script made rest line behind events r was parts read told = record {
  place = length events;
  is =
      was.is ∙ ap (λ (ls : List (List ℕ)). onto was.said (script_lines_from n made (length events) ls)) parts
      ∙ ap (onto was.said) (said_never n made (length events) line (lines behind) (read_never (script_line_of n made line) read));
  told = told;
}

-- what is no event is none
pub is_unread : (said : Option ScriptLine) (o : Option Event) → IsLineRead said o → ((e : Event) → o ≡ Some e → ⊥) → IsLineRead said None
is_unread said None read none = read
is_unread said (Some e) read none = absurd (none e refl)
