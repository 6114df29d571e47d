-- The moments while an entry is recorded.
use Rattle.std.proofs.Common.{◌≡◌, ◌≢◌, ◌⊎◌, ◌≤◌, inl, inr, ℕ, Bool, true, false, List, [], ◌∷◌, ◌++◌, length, sym, ◌∙◌, ap, subst, arith, length-append}
use Rattle.std.proofs.lemmas.List.{append-nil}
use Rattle.std.specs.List.{AllByRecursion}
use Rattle.journal.specs.Events.{Event}
use Rattle.journal.specs.Events as event
use Rattle.journal.specs.Moments.{Moment, Passes, appended, synced}
use Rattle.journal.specs.Rounds.{IsRecording}
use Rattle.journal.proofs.Passing.{Passes-one}

-- a first part of the entry was appended to the file of `old`, whose bytes are still on the disk, and no reply was sent
pub record IsWithin (entry : List ℕ) (old m : Moment) : Type 0 where
  pub front : List ℕ
  pub back : List ℕ
  pub part : entry ≡ front ++ back
  pub file : m.file ≡ old.file ++ front
  pub durable : length old.file ≤ m.durable
  pub replies : m.replies ≡ old.replies

-- all of the entry is on the disk
abbrev pub IsOnDisk : List ℕ → Moment → Moment → Type 0
IsOnDisk entry old new = ((entry ≡ []) × (new ≡ old)) ⊎ ((entry ≢ []) × (new ≡ synced (appended entry old)))

pub record IsRecorded (entry : List ℕ) (old new : Moment) (since : List Moment) (done : Bool) : Type 0 where
  pub within : AllByRecursion (IsWithin entry old) since
  pub ended : done ≡ true → IsOnDisk entry old new

module _ (entry : List ℕ) (m : Moment) (durable : m.durable ≡ length m.file) where
  within_appended : (front back : List ℕ) (n : Moment) → entry ≡ front ++ back → n ≡ appended front m → IsWithin entry m n
  within_appended front back n part is =
      let long : length m.file ≤ n.durable = let same : n.durable ≡ m.durable = ap (λ x. x.durable) is in omega arith in
      record { front = front; back = back; part = part; file = ap (λ x. x.file) is; durable = long; replies = ap (λ x. x.replies) is }

  within_synced : (n : Moment) → n ≡ synced (appended entry m) → IsWithin entry m n
  within_synced n is =
      let long : length m.file ≤ n.durable = let same : n.durable ≡ length (m.file ++ entry) = ap (λ x. x.durable) is in omega (arith, length-append m.file entry, same) in
      record { front = entry; back = []; part = sym (append-nil entry); file = ap (λ x. x.file) is; durable = long; replies = ap (λ x. x.replies) is }

  all_at : (since here : List Moment) → since ≡ here → AllByRecursion (IsWithin entry m) here → AllByRecursion (IsWithin entry m) since
  all_at since here is all = subst (λ (ms : List Moment). AllByRecursion (IsWithin entry m) ms) (sym is) all

  recorded_none : (n : Moment) (since : List Moment) → entry ≡ [] → Passes m [] since n → IsRecorded entry m n since true
  recorded_none n since none h = record { within = all_at since [] h.0 tt; ended = λ ok. inl (none, h.1) }

  recorded_part : (n : Moment) (since : List Moment) → Passes m (event.append entry false ∷ []) since n → IsRecorded entry m n since false
  recorded_part n since h =
      let one = Passes-one m n (event.append entry false) since h in record {
        within = all_at since (n ∷ []) one.0 (within_appended one.1.0 one.1.1 n one.1.2 one.1.3, tt);
        ended = λ ok. absurd (cc);
      }

  recorded_whole : (n : Moment) (since : List Moment) → entry ≢ [] → Passes m (event.append entry true ∷ event.sync true ∷ []) since n
      → IsRecorded entry m n since true
  recorded_whole n since some h =
      let mid : h.0 ≡ appended entry m = h.3.1 in
      let two = Passes-one h.0 n (event.sync true) h.2 h.4 in
      let is : n ≡ synced (appended entry m) = two.1 ∙ ap synced mid in
      let all : since ≡ h.0 ∷ n ∷ [] = h.5 ∙ ap (λ (ms : List Moment). ms ++ h.2) h.3.0 ∙ ap (λ (ms : List Moment). h.0 ∷ ms) two.0 in
      record {
        within = all_at since (h.0 ∷ n ∷ []) all (within_appended entry [] h.0 (sym (append-nil entry)) mid, (within_synced n is, tt));
        ended = λ ok. inr (some, is);
      }

  recorded_unsynced : (n : Moment) (since : List Moment) → Passes m (event.append entry true ∷ event.sync false ∷ []) since n
      → IsRecorded entry m n since false
  recorded_unsynced n since h =
      let mid : h.0 ≡ appended entry m = h.3.1 in
      let two = Passes-one h.0 n (event.sync false) h.2 h.4 in
      let all : since ≡ h.0 ∷ n ∷ [] = h.5 ∙ ap (λ (ms : List Moment). ms ++ h.2) h.3.0 ∙ ap (λ (ms : List Moment). h.0 ∷ ms) two.0 in
      record {
        within = all_at since (h.0 ∷ n ∷ []) all (
          within_appended entry [] h.0 (sym (append-nil entry)) mid,
          (within_appended entry [] n (sym (append-nil entry)) (two.1 ∙ mid), tt),
        );
        ended = λ ok. absurd (cc);
      }

  pub recorded_by : (events : List Event) (done : Bool) (n : Moment) (since : List Moment) → IsRecording entry events done → Passes m events since n
      → IsRecorded entry m n since done
  recorded_by events true n since (inl none) h = recorded_none n since none.0 (subst (λ (es : List Event). Passes m es since n) none.1 h)
  recorded_by events true n since (inr some) h = recorded_whole n since some.0 (subst (λ (es : List Event). Passes m es since n) some.1 h)
  recorded_by events false n since (inl part) h = recorded_part n since (subst (λ (es : List Event). Passes m es since n) part h)
  recorded_by events false n since (inr unsynced) h = recorded_unsynced n since (subst (λ (es : List Event). Passes m es since n) unsynced h)
