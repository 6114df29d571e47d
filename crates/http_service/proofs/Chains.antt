-- Where each step of one state is a step of another that belongs to it, so is each chain of steps.
use Rattle.std.proofs.Common.{◌≡◌, ℕ, Bool, List, [], ◌∷◌, refl, sym, ◌∙◌, subst, inl, inr}
use Rattle.connections.specs.Connections.{Change, Entry}
use Rattle.connections.specs.Connections.{At, Committed, Uncommitted}
use Rattle.connections.specs.Connections.{Opened, Reserved, Came, Ended, Asked, Lacked, Answered, Logged, CutOff, Took, Gone}
use Rattle.connections.specs.Steps.{IsChain, Notes, NotesAt, StepsAt}
use Rattle.http.specs.declared.status.StatusCode.{StatusCode}
use Rattle.http_streams.specs.FramedRequests.{AnswersBytes, IsLineOf}
use Rattle.http_streams.specs.Stream.{Answering}
use Rattle.http_streams.proofs.Simulated.{exchanges}
use Rattle.http_service.specs.Together.{IsLineIf, TakesSteps, never, rejection_line_if, stays}

module _ {X Y : Type 0} (step : X → Entry → X → Type 0) (taken : Y → Entry → Y → Type 0) (Meets : X → Y → Type 0)
    (lifts : (a b : X) (x : Y) (e : Entry) → Meets a x → step a e b → (y : Y) × taken x e y × Meets b y) where
  pub chained : (entries : List Entry) (a b : X) (x : Y) → Meets a x → IsChain step entries a b
      → (y : Y) × IsChain taken entries x y × Meets b y
  chained [] a b x meets e = (x, refl, subst (λ (c : X). Meets c x) (sym e) meets)
  chained (e ∷ entries) a b x meets h =
      let one = lifts a h.0 x e meets h.1 in
      let more = chained entries h.0 b one.0 one.2 h.2 in
      (more.0, (one.0, one.1, more.1), more.2)

-- ---- a service

module _ {X Y : Type 0} (has_log : Bool) (says : Answering X) (tells : Answering Y) (Meets : X → Y → Type 0)
    (lifts : (a b : X) (x : Y) (m t body : List ℕ) (status : StatusCode) (line : List ℕ) → Meets a x
    → says a m t body status line b → (y : Y) × tells x m t body status line y × Meets b y) where
  still : (a b : X) (x : Y) → Meets a x → b ≡ a → (y : Y) × (y ≡ x) × Meets b y
  still a b x meets e = (x, refl, subst (λ (c : X). Meets c x) (sym e) meets)

  answered : (a b : X) (x : Y) (request : List ℕ) (closes : Bool) (reply : List ℕ) → Meets a x
      → AnswersBytes says a request closes reply b → (y : Y) × AnswersBytes tells x request closes reply y × Meets b y
  answered a b x request closes reply meets (inl h) =
      let one = exchanges says tells Meets lifts a b x request closes reply [] meets h in (one.0, inl one.1, one.2)
  answered a b x request closes reply meets (inr h) =
      (x, inr (h.0, (h.1.0, h.1.1, h.1.2, refl)), subst (λ (c : X). Meets c x) (sym h.1.3) meets)

  change_taken : (a b : X) (x : Y) (change : Change) → Meets a x
      → StepsAt (AnswersBytes says) (IsLineOf (IsLineIf has_log) (rejection_line_if has_log)) stays never a change b
      → (y : Y) × StepsAt (AnswersBytes tells) (IsLineOf (IsLineIf has_log) (rejection_line_if has_log)) stays never x change y × Meets b y
  change_taken a b x (Opened now) meets e = still a b x meets e
  change_taken a b x (Reserved now) meets e = still a b x meets e
  change_taken a b x (Came bytes now) meets e = still a b x meets e
  change_taken a b x Ended meets e = still a b x meets e
  change_taken a b x (Asked now) meets e = still a b x meets e
  change_taken a b x (Lacked needed) meets e = still a b x meets e
  change_taken a b x (Answered request closes reply line) meets h =
      let one = answered a b x request closes reply meets h.0 in (one.0, (one.1, h.1), one.2)
  change_taken a b x (Logged line) meets e = still a b x meets e
  change_taken a b x (CutOff line) meets e = still a b x meets e
  change_taken a b x (Took bytes now) meets e = still a b x meets e
  change_taken a b x (Gone why) meets e = still a b x meets e

  pub step_taken : (a b : X) (x : Y) (e : Entry) → Meets a x → TakesSteps has_log says a e b
      → (y : Y) × TakesSteps has_log tells x e y × Meets b y
  step_taken a b x (At at change) meets h = change_taken a b x change meets h
  step_taken a b x Committed meets e = still a b x meets e
  step_taken a b x Uncommitted meets h = absurd h

-- ---- a borrowed log

module _ {A X Name : Type 0} (now_of : A → X) (name_of : A → Name) where
  -- what is done behind the reference, which stays the same
  abbrev pub Behind : (X → List ℕ → X → Type 0) → A → List ℕ → A → Type 0
  Behind relates old line new = relates (now_of old) line (now_of new) × (name_of new ≡ name_of old)

  abbrev pub IsBehind : A → A → X → Type 0
  IsBehind start a x = (x ≡ now_of a) × (name_of a ≡ name_of start)

  module _ (writes cuts : X → List ℕ → X → Type 0) (start : A) where
    unnoted : (a b : A) (x : X) → IsBehind start a x → b ≡ a → (y : X) × (y ≡ x) × IsBehind start b y
    unnoted a b x same e = (x, refl, subst (λ (c : A). IsBehind start c x) (sym e) same)

    line_noted : (relates : X → List ℕ → X → Type 0) (a b : A) (x : X) (line : List ℕ) → IsBehind start a x
        → Behind relates a line b → (y : X) × relates x line y × IsBehind start b y
    line_noted relates a b x line same h =
        (now_of b, subst (λ (v : X). relates v line (now_of b)) (sym same.0) h.0, (refl, h.1 ∙ same.1))

    change_noted : (a b : A) (x : X) (change : Change) → IsBehind start a x
        → NotesAt (Behind writes) (Behind cuts) a change b → (y : X) × NotesAt writes cuts x change y × IsBehind start b y
    change_noted a b x (Opened now) same e = unnoted a b x same e
    change_noted a b x (Reserved now) same e = unnoted a b x same e
    change_noted a b x (Came bytes now) same e = unnoted a b x same e
    change_noted a b x Ended same e = unnoted a b x same e
    change_noted a b x (Asked now) same e = unnoted a b x same e
    change_noted a b x (Lacked needed) same e = unnoted a b x same e
    change_noted a b x (Answered request closes reply line) same e = unnoted a b x same e
    change_noted a b x (Logged line) same h = line_noted writes a b x line same h
    change_noted a b x (CutOff line) same h = line_noted cuts a b x line same h
    change_noted a b x (Took bytes now) same e = unnoted a b x same e
    change_noted a b x (Gone why) same e = unnoted a b x same e

    pub step_noted : (a b : A) (x : X) (e : Entry) → IsBehind start a x → Notes (Behind writes) (Behind cuts) a e b
        → (y : X) × Notes writes cuts x e y × IsBehind start b y
    step_noted a b x (At at change) same h = change_noted a b x change same h
    step_noted a b x Committed same e = unnoted a b x same e
    step_noted a b x Uncommitted same e = unnoted a b x same e
