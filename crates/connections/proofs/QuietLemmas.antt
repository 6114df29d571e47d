-- What waits for more bytes is answered.
use Rattle.std.proofs.Common.{◌≡◌, ◌≤◌, ◌==◌, ℕ, List, [], ◌∷◌, ◌++◌, length, map, Bool, true, false, refl, sym, ap, ◌∙◌, subst, append-nil}
use Rattle.std.specs.Prelude.{if◌then◌else◌}
use Rattle.std.specs.List.{flat_map}
use Rattle.connections.specs.Connections.{Change, Entry}
use Rattle.connections.specs.Connections.{At, Committed, Uncommitted}
use Rattle.connections.specs.Connections.{Opened, Reserved, Came, Ended, Asked, Lacked, Answered, Logged, CutOff, Took, Gone}
use Rattle.connections.specs.Framing.{AreRequests}
use Rattle.connections.specs.Quiet.{QuietAreAnswered}
use Rattle.connections.specs.Steps.{Answering, IsChain, LineRelation, Steps, StepsAt}
use Rattle.connections.specs.Stories.{IsOneStream, Story, Turn, continued, no_story, story_at, story_from}
use Rattle.connections.specs.declared.TheConstants.{MAX_REQUEST}
use Rattle.connections.proofs.StoryLemmas.{stories_fit}

-- the bytes of the turns' requests
joined_requests : (turns : List Turn) → flat_map (λ (r : List ℕ). r) (map (λ (t : Turn). t.request) turns) ≡ flat_map (λ (t : Turn). t.request) turns
joined_requests [] = refl
joined_requests (t ∷ turns) = ap (λ (xs : List ℕ). t.request ++ xs) (joined_requests turns)

module _ {S : Type 0} (answers : Answering S) (lines : LineRelation) (commits commit_fails : S → S → Type 0)
    (is_request is_unfinished : List ℕ → Type 0)
    (short : (bytes : List ℕ) → is_unfinished bytes → length bytes ≤ MAX_REQUEST)
    (requests : (old new : S) (request : List ℕ) (closes : Bool) (reply : List ℕ) → answers old request closes reply new
    → closes ≡ false → is_request request) where
  -- each turn that does not end the connection answers a request
  abbrev AreWhole : List Turn → Type 0
  AreWhole [] = Unit {0}
  AreWhole (t ∷ turns) = (t.closes ≡ false → is_request t.request) × AreWhole turns

  one_more : (turns : List Turn) (t : Turn) → AreWhole turns → (t.closes ≡ false → is_request t.request) → AreWhole (turns ++ t ∷ [])
  one_more [] t h is = (is, tt)
  one_more (a ∷ turns) t h is = (h.0, one_more turns t h.1 is)

  -- where no turn has ended the connection, all turns answer requests
  all_requests : (turns : List Turn) → IsOneStream turns false → AreWhole turns
      → AreRequests is_request is_unfinished (map (λ (t : Turn). t.request) turns)
  all_requests [] h whole = tt
  all_requests (t ∷ []) h whole = (whole.0 (sym h), tt)
  all_requests (t ∷ u ∷ turns) h whole = (whole.0 h.0, all_requests (u ∷ turns) h.1 whole.1)

  step : (st : Story) (change : Change) (old new : S) → AreWhole st.turns → StepsAt answers lines commits commit_fails old change new
      → AreWhole (continued st change).turns
  step st (Opened now) old new h s = tt
  step st (Reserved now) old new h s = h
  step st (Came bytes now) old new h s = h
  step st Ended old new h s = h
  step st (Asked now) old new h s = h
  step st (Lacked needed) old new h s = h
  step st (Answered request closes reply line) old new h s =
      one_more st.turns (record { request = request; closes = closes; reply = reply }) h (requests old new request closes reply s.0)
  step st (Logged line) old new h s = h
  step st (CutOff line) old new h s = h
  step st (Took bytes now) old new h s = h
  step st (Gone why) old new h s = tt

  here_or_not : (b : Bool) (st : Story) (change : Change) (old new : S) → AreWhole st.turns
      → StepsAt answers lines commits commit_fails old change new → AreWhole (if b then continued st change else st).turns
  here_or_not true st change old new h s = step st change old new h s
  here_or_not false st change old new h s = h

  all : (entries : List Entry) (at : ℕ) (st : Story) (old new : S) → IsChain (Steps answers lines commits commit_fails) entries old new
      → AreWhole st.turns → AreWhole (story_from at st entries).turns
  all [] at st old new chain h = h
  all (At slot change ∷ entries) at st old new chain h =
      all entries at (if slot == at then continued st change else st) chain.0 new chain.2
      (here_or_not (slot == at) st change old chain.0 h chain.1)
  all (Committed ∷ entries) at st old new chain h = all entries at st chain.0 new chain.2 h
  all (Uncommitted ∷ entries) at st old new chain h = all entries at st chain.0 new chain.2 h

  pub quiet_are_answered : QuietAreAnswered answers lines commits commit_fails is_request is_unfinished
  quiet_are_answered entries table new old last free changes chain quiet at c found may =
      let fits = stories_fit entries table new free changes at c found in
      let st = story_at at entries in
      let unfinished = quiet at c found may in
      record {
        cut = record {
          requests = all_requests st.turns (subst (IsOneStream st.turns) may.lasts fits.one_stream) (all entries at no_story old last chain tt);
          unfinished = unfinished;
          is = fits.came ∙ ap (λ (t : List ℕ). t ++ c.input) (sym (joined_requests st.turns));
        };
        took = sym (fits.took ∙ ap (λ (t : List ℕ). st.took ++ t) may.drained ∙ append-nil st.took);
        goes_on = λ goes_on lacks. record { answers = may; goes_on = goes_on; lacks = lacks; small = short c.input unfinished };
      }
