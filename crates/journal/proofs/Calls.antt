-- The events of calls that are given by the states between them.
use Rattle.std.proofs.Common.{◌≡◌, ◌≢◌, ◌<◌, inl, inr, ℕ, Bool, true, false, List, [], ◌∷◌, ◌++◌, refl, sym, subst, arith, Result, Ok, Err}
use Rattle.stamped_store.specs.Store.{Store, Update}
use Rattle.journal.specs.declared.fault.CommitFault.{CommitFault}
use Rattle.journal.specs.declared.fault.CommitFault.TheVariants as stop
use Rattle.journal.specs.declared.fault.RecoveryFault.{RecoveryFault}
use Rattle.journal.specs.declared.fault.RecoveryFault.TheVariants.{NoMemory, NoRecord, Damaged, Failed}
use Rattle.journal.specs.Events.{Event, Runs}
use Rattle.journal.specs.Events as event
use Rattle.journal.specs.Lines.{IsLine}
use Rattle.journal.specs.Records.{IsEntryOf}
use Rattle.journal.specs.Rounds.{AreReplies, IsCommit, IsCommitOf, IsRecording, IsRoundOf}
use Rattle.journal.specs.Recovery.{IsBeginning, IsOpeningOf, IsRecovered, IsRecoveryFault}
use Rattle.journal.specs.inner.Calls.{Begins, CommitsAndSends, Makes, Records, Settles}
use Rattle.journal.proofs.Passing.{Runs-append}

-- replies, and further ones
pub AreReplies-append : (first : List (List ℕ)) (replies : List (List ℕ)) (xs ys : List Event) (done : Bool) → AreReplies first xs true → AreReplies replies ys done
    → AreReplies (first ++ replies) (xs ++ ys) done
AreReplies-append [] replies xs ys done one two = subst (λ (es : List Event). AreReplies replies (es ++ ys) done) (sym one.0) two
AreReplies-append (text ∷ first) replies xs ys done (inl failed) two = absurd (cc (failed.1))
AreReplies-append (text ∷ first) replies xs ys done (inr goes) two =
    subst (λ (es : List Event). AreReplies (text ∷ (first ++ replies)) (es ++ ys) done) (sym goes.1)
    (inr (goes.0 ++ ys, refl, AreReplies-append first replies goes.0 ys done goes.2 two))

pub one_reply : (text : List ℕ) → AreReplies (text ∷ []) (event.reply text true ∷ []) true
one_reply text = inr ([], refl, (refl, refl))

pub failed_reply : (text : List ℕ) (more : List (List ℕ)) → AreReplies (text ∷ more) (event.reply text false ∷ []) false
failed_reply text more = inl (refl, refl)

module _ {D : Type 0} (does : D → Event → D → Type 0) where
  joined : (P Q R : List Event → Type 0) (old mid new : D) → ((xs ys : List Event) → P xs → Q ys → R (xs ++ ys)) → Makes does P old mid → Makes does Q mid new → Makes does R old new
  joined P Q R old mid new join one two =
      (one.0 ++ two.0, Runs-append does one.0 two.0 old mid new one.1 two.1, join one.0 two.0 one.2 two.2)

  recording_made : (entry : List ℕ) (old new : D) (done : Bool) → Records does entry old new done → Makes does (λ es. IsRecording entry es done) old new
  recording_made entry old new true (inl none) = ([], none.1, inl (none.0, refl))
  recording_made entry old new true (inr some) = (event.append entry true ∷ event.sync true ∷ [], some.1, inr (some.0, refl))
  recording_made entry old new false (inl part) = (event.append entry false ∷ [], part, inl refl)
  recording_made entry old new false (inr unsynced) = (event.append entry true ∷ event.sync false ∷ [], unsynced, inr refl)

  module _ (states : List ℕ → List Update → Type 0) where
    pub commit_made : (us : List Update) (entry : List ℕ) (old new : D) (done : Bool) → IsEntryOf states us entry → Records does entry old new done
        → Makes does (λ es. IsCommit states us es done) old new
    commit_made us entry old new done is records = let made = recording_made entry old new done records in (made.0, made.1, (entry, is, made.2))

    pub commit_failed : (us : List Update) (entry : List ℕ) (old new : D) (found : CommitFault) → found ≡ stop.Failed → IsEntryOf states us entry → Records does entry old new false
        → Makes does (λ es. IsCommitOf states us es (Err found)) old new
    commit_failed us entry old new found is entry_is records =
        subst (λ (f : CommitFault). Makes does (λ es. IsCommitOf states us es (Err f)) old new) (sym is) (commit_made us entry old new false entry_is records)

    pub commit_without : (us : List Update) (old new : D) (found : CommitFault) → found ≡ stop.NoMemory → new ≡ old → Makes does (λ es. IsCommitOf states us es (Err found)) old new
    commit_without us old new found is same =
        subst (λ (f : CommitFault). Makes does (λ es. IsCommitOf states us es (Err f)) old new) (sym is) ([], same, refl)

    pub round_made : (us : List Update) (replies : List (List ℕ)) (old new : D) (result : Result (Unit {0}) CommitFault) → CommitsAndSends states does us replies old new result
        → Makes does (λ es. IsRoundOf states us replies es result) old new
    round_made us replies old new (Ok done) calls =
        joined (λ es. IsCommit states us es true) (λ es. AreReplies replies es true) (λ es. IsRoundOf states us replies es (Ok tt)) old calls.0 new
        (λ xs ys one two. (xs, ys, one, two, refl)) calls.1 calls.2
    round_made us replies old new (Err stop.NoMemory) (inl none) = none
    round_made us replies old new (Err stop.NoMemory) (inr sent) = absurd (cc (sent.0))
    round_made us replies old new (Err stop.Failed) (inl failed) = (failed.0, failed.1, inl failed.2)
    round_made us replies old new (Err stop.Failed) (inr sent) =
        joined (λ es. IsCommit states us es true) (λ es. AreReplies replies es false) (λ es. IsRoundOf states us replies es (Err stop.Failed)) old sent.1.0 new
        (λ xs ys one two. inr (xs, ys, one, two, refl)) sent.1.1 sent.1.2

    module _ (checked : List ℕ → Bool) (s t : Store) (file : List ℕ) (end : ℕ) (recovered : IsRecovered states checked s t file end) where
      pub opening_unsettled : (old new : D) (found : RecoveryFault) → found ≡ Failed → Settles does end old new false
          → Makes does (λ es. IsOpeningOf states checked s t file es (Err found)) old new
      opening_unsettled old new found is settles =
          subst (λ (f : RecoveryFault). Makes does (λ es. IsOpeningOf states checked s t file es (Err f)) old new) (sym is) (elim settles [
            | inl unsynced ↦ (event.sync false ∷ [], unsynced, (end, recovered, inl (inl refl)))
            | inr uncut ↦ (event.sync true ∷ event.cut end false ∷ [], uncut, (end, recovered, inl (inr refl)))
          ])

      pub opening_settled : (old new : D) → 0 < end → Settles does end old new true → Makes does (λ es. IsOpeningOf states checked s t file es (Ok tt)) old new
      opening_settled old new some settles =
          let other : end ≢ 0 = λ none. omega (arith, none) in (
            event.sync true ∷ event.cut end true ∷ [],
            settles,
            (end, recovered, (event.sync true ∷ event.cut end true ∷ [], [], refl, inl (other, refl, refl), refl)),
          )

      begun : (done : Bool) (old mid new : D) → end ≡ 0 → Settles does end old mid true → ((line : List ℕ) × IsLine line × states line [] × Records does (line ++ 10 ∷ []) mid new done)
          → Makes does (λ es. (settling begun : List Event) × (settling ≡ event.sync true ∷ event.cut end true ∷ []) × IsBeginning states end begun done × (es ≡ settling ++ begun)) old new
      begun done old mid new none settles header =
          let made = recording_made (header.0 ++ 10 ∷ []) mid new done header.3 in
          let settling = event.sync true ∷ event.cut end true ∷ [] in (
            settling ++ made.0,
            Runs-append does settling made.0 old mid new settles made.1,
            (settling, made.0, refl, inr (none, (header.0, header.1, header.2, made.2)), refl),
          )

      pub opening_begun : (old mid new : D) (result : Result (Unit {0}) RecoveryFault) → end ≡ 0 → Settles does end old mid true → Begins states does mid new result
          → Makes does (λ es. IsOpeningOf states checked s t file es result) old new
      opening_begun old mid new (Ok done) none settles header =
          let made = begun true old mid new none settles header in (made.0, made.1, (end, recovered, made.2))
      opening_begun old mid new (Err found) none settles (inl memory) =
          subst (λ (f : RecoveryFault). Makes does (λ es. IsOpeningOf states checked s t file es (Err f)) old new) (sym memory.0) (
            event.sync true ∷ event.cut end true ∷ [],
            subst (λ (d : D). Runs does old (event.sync true ∷ event.cut end true ∷ []) d) (sym memory.1) settles,
            inr (end, recovered, inr (inl refl)),
          )
      opening_begun old mid new (Err found) none settles (inr failed) =
          subst (λ (f : RecoveryFault). Makes does (λ es. IsOpeningOf states checked s t file es (Err f)) old new) (sym failed.0)
          (let made = begun false old mid new none settles failed.1 in (made.0, made.1, (end, recovered, inr (inr made.2))))

    pub opening_refused : (checked : List ℕ → Bool) (s t : Store) (file : List ℕ) (old new : D) (found : RecoveryFault) → new ≡ old → IsRecoveryFault states checked {T = ℕ} file (Err found)
        → Makes does (λ es. IsOpeningOf states checked s t file es (Err found)) old new
    opening_refused checked s t file old new NoMemory same refused = ([], same, inl refl)
    opening_refused checked s t file old new (NoRecord at) same refused = ([], same, (refl, refused))
    opening_refused checked s t file old new (Damaged at) same refused = ([], same, (refl, refused))
    opening_refused checked s t file old new Failed same refused = absurd refused
