-- The turns of a story are replies of the service; those of one that goes on are whole requests.
use Rattle.std.proofs.Common.{◌≡◌, ◌==◌, ℕ, List, [], ◌∷◌, ◌++◌, Bool, true, false, map, inl, inr, refl, sym, ap, ◌∙◌, subst}
use Rattle.std.specs.Prelude.{All, if◌then◌else◌}
use Rattle.std.specs.List.{flat_map}
use Rattle.std.proofs.lemmas.List.Elements.{All-cons, All-head, All-nil, All-push, All-tail}
use Rattle.connections.specs.Connections.{Change, Connection, Entry}
use Rattle.connections.specs.Connections.{At, Committed, Uncommitted}
use Rattle.connections.specs.Connections.{Opened, Reserved, Came, Ended, Asked, Lacked, Answered, Logged, CutOff, Took, Gone}
use Rattle.connections.specs.Framing.{AreRequests, HasOneCut, IsCut}
use Rattle.connections.specs.Steps.{StepsAt}
use Rattle.connections.specs.Stories.{IsOneStream, Story, Turn, continued, no_story, story_from}
use Rattle.http.specs.declared.status.StatusCode.{StatusCode}
use Rattle.http_streams.specs.FramedLaws.{AreSteps, HasReplies, IsExchanged, IsReplied, PiecesMakeNoDifference, TurnsAreReplied}
use Rattle.http_streams.specs.FramedRequests.{AnswersBytes, IsLineOf, IsRequest}
use Rattle.http_streams.specs.Logs.{LineRelation}
use Rattle.http_streams.specs.Request.{IsUnfinished}
use Rattle.http_streams.specs.Stream.{Answering}

module _ {S : Type 0} (answers : Answering S) (lines : LineRelation) (refusal : StatusCode → List ℕ)
    (commits commit_fails : S → S → Type 0) where
  abbrev AreAllReplied : Story → Type 0
  AreAllReplied st = All (IsReplied answers) st.turns

  step : (st : Story) (change : Change) (old new : S) → AreAllReplied st
      → StepsAt (AnswersBytes answers) (IsLineOf lines refusal) commits commit_fails old change new
      → AreAllReplied (continued st change)
  step st (Opened now) old new h s = All-nil (IsReplied answers)
  step st (Reserved now) old new h s = h
  step st (Came bytes now) old new h s = h
  step st Ended old new h s = h
  step st (Asked now) old new h s = h
  step st (Lacked needed) old new h s = h
  step st (Answered request closes reply line) old new h s =
      All-push (IsReplied answers) st.turns (record { request = request; closes = closes; reply = reply }) h (old, new, s.0)
  step st (Logged line) old new h s = h
  step st (CutOff line) old new h s = h
  step st (Took bytes now) old new h s = h
  step st (Gone why) old new h s = All-nil (IsReplied answers)

  here_or_not : (here : Bool) (st : Story) (change : Change) (old new : S) → AreAllReplied st
      → StepsAt (AnswersBytes answers) (IsLineOf lines refusal) commits commit_fails old change new
      → AreAllReplied (if here then continued st change else st)
  here_or_not true st change old new h s = step st change old new h s
  here_or_not false st change old new h s = h

  all : (entries : List Entry) (old last : S) (at : ℕ) (st : Story) → AreSteps answers lines refusal commits commit_fails entries old last
      → AreAllReplied st → AreAllReplied (story_from at st entries)
  all [] old last at st chain h = h
  all (At slot change ∷ entries) old last at st chain h =
      all entries chain.0 last at (if slot == at then continued st change else st) chain.2
      (here_or_not (slot == at) st change old chain.0 h chain.1)
  all (Committed ∷ entries) old last at st chain h = all entries chain.0 last at st chain.2 h
  all (Uncommitted ∷ entries) old last at st chain h = all entries chain.0 last at st chain.2 h

  pub turns_are_replied : TurnsAreReplied answers lines refusal commits commit_fails
  turns_are_replied entries old last at chain = all entries old last at no_story chain (All-nil (IsReplied answers))

module _ {S : Type 0} (answers : Answering S) where
  exchanged_one : (t : Turn) → t.closes ≡ false → IsReplied answers t → IsExchanged answers t
  exchanged_one t goes_on (old, new, inl it) = (old, new, it)
  exchanged_one t goes_on (old, new, inr it) = absurd (let both : true ≡ false = sym it.0 ∙ goes_on in cc)

  -- where no turn has ended the connection, all are exchanges
  pub exchanged_all : (turns : List Turn) → IsOneStream turns false → All (IsReplied answers) turns → All (IsExchanged answers) turns
  exchanged_all [] h all = All-nil (IsExchanged answers)
  exchanged_all (t ∷ []) h all =
      All-cons (IsExchanged answers) t [] (exchanged_one t (sym h) (All-head (IsReplied answers) t [] all)) (All-nil (IsExchanged answers))
  exchanged_all (t ∷ u ∷ turns) h all =
      All-cons (IsExchanged answers) t (u ∷ turns) (exchanged_one t h.0 (All-head (IsReplied answers) t (u ∷ turns) all))
      (exchanged_all (u ∷ turns) h.1 (All-tail (IsReplied answers) t (u ∷ turns) all))

  requests_of : (turns : List Turn) → All (IsExchanged answers) turns → AreRequests IsRequest IsUnfinished (map (λ (t : Turn). t.request) turns)
  requests_of [] all = tt
  requests_of (t ∷ turns) all =
      let it = All-head (IsExchanged answers) t turns all in
      ((it.2.head, it.2.body, it.2.reads), requests_of turns (All-tail (IsExchanged answers) t turns all))

  joined : (turns : List Turn) → flat_map (λ (r : List ℕ). r) (map (λ (t : Turn). t.request) turns) ≡ flat_map (λ (t : Turn). t.request) turns
  joined [] = refl
  joined (t ∷ turns) = ap (λ (xs : List ℕ). t.request ++ xs) (joined turns)

  cut_of : (st : Story) (c : Connection) → HasReplies answers st c
      → IsCut IsRequest IsUnfinished st.came (map (λ (t : Turn). t.request) st.turns) c.input
  cut_of st c it = record {
    requests = requests_of st.turns it.exchanges;
    unfinished = it.unfinished;
    is = it.came ∙ ap (λ (t : List ℕ). t ++ c.input) (sym (joined st.turns));
  }

  pub pieces : HasOneCut IsRequest IsUnfinished → PiecesMakeNoDifference answers
  pieces one st st2 c c2 x y same =
      let other : IsCut IsRequest IsUnfinished st.came (map (λ (t : Turn). t.request) st2.turns) c2.input =
      subst (λ (t : List ℕ). IsCut IsRequest IsUnfinished t (map (λ (u : Turn). u.request) st2.turns) c2.input) (sym same) (cut_of st2 c2 y) in
      one st.came (map (λ (t : Turn). t.request) st.turns) (map (λ (t : Turn). t.request) st2.turns) c.input c2.input (cut_of st c x) other
