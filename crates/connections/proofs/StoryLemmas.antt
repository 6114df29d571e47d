-- Each connection fits its story.
use Rattle.std.proofs.Common.{◌-◌, ◌≡◌, ◌<◌, ◌==◌, ℕ, List, [], ◌∷◌, ◌++◌, length, Bool, true, false, Some, refl, sym, ap, ◌∙◌, subst, inl, inr, append_assoc, append-nil, length-append, lit≤, zero, suc, arith}
use Rattle.std.specs.Prelude.{slice_get, slice_set, if◌then◌else◌}
use Rattle.std.specs.List.{flat_map}
use Rattle.std.proofs.lemmas.Grind.{flat_map-append}
use Rattle.std.proofs.lemmas.Option.{slice_get_within}
use Rattle.connections.specs.Connections.{AreChanges, Change, ChangesAt, Connection, Entry, IsChange, fresh, start_of, takes_permit}
use Rattle.connections.specs.Connections.{committed, committed_at, uncommitted, uncommitted_at}
use Rattle.connections.specs.Connections.{At, Committed, Uncommitted}
use Rattle.connections.specs.Connections.{Opened, Reserved, Came, Ended, Asked, Lacked, Answered, Logged, CutOff, Took, Gone}
use Rattle.connections.specs.Stories.{Turn, Story, no_story, continued, story_from, story_at, IsOneStream, IsLeftOfLast, IsHeldBack, Fits, AreFree, StoriesFit}
use Rattle.connections.specs.declared.TheConstants.{MAX_READ}
use Rattle.connections.specs.declared.slot.Stage.{Stage}
use Rattle.connections.specs.declared.slot.Stage.TheVariants as Stages
use Rattle.connections.proofs.JoinLemmas.{lengths}
use Rattle.connections.proofs.TableLemmas.{eq_or_not, eqb_differs, eqb_same, get_map, get_set_other, get_set_same, some_is}

none_left : (xs ys : List ℕ) → xs ++ ys ≡ [] → ys ≡ []
none_left [] ys h = h
none_left (x ∷ xs) ys h = cc

-- one more turn after turns that do not end the connection
one_more : (turns : List Turn) (t : Turn) → IsOneStream turns false → IsOneStream (turns ++ t ∷ []) t.closes
one_more [] t h = refl
one_more (a ∷ []) t h = (sym h, refl)
one_more (a ∷ b ∷ turns) t h = (h.0, one_more (b ∷ turns) t h.1)

-- what a part of the turns' bytes is after one more turn
joined : (f : Turn → List ℕ) (turns : List Turn) (t : Turn) → flat_map f (turns ++ t ∷ []) ≡ flat_map f turns ++ f t
joined f turns t = flat_map-append f turns (t ∷ []) ∙ ap (λ (xs : List ℕ). flat_map f turns ++ xs) (append-nil (f t))

-- a new connection, or a free slot, fits its story
first_fits : (is_open : Bool) (now : ℕ) → Fits no_story (fresh is_open now)
first_fits is_open now = record { came = refl; took = refl; unsent = inl refl; held_back = tt; one_stream = refl; small = lit≤ tt }

-- the last reply moves to another stage
moved : (st : Story) (s : Stage) (a : Connection) (line : List ℕ) → IsHeldBack s a.output st.turns → Fits st a
    → Fits st (record a { stage = s; line = line })
moved st s a line held fits =
    record { came = fits.came; took = fits.took; unsent = fits.unsent; held_back = held; one_stream = fits.one_stream; small = fits.small }

-- a connection still fits its story after one more change
step : (st : Story) (change : Change) (a b : Connection) → Fits st a → IsChange change a b → Fits (continued st change) b
step st (Opened now) a b fits h = subst (Fits no_story) (sym h.1) (first_fits true now)
step st (Reserved now) a b fits h =
    let next : Fits st (record a {
      spare = MAX_READ;
      since = if takes_permit a then now else a.since;
      began = if takes_permit a then now else a.began;
    }) =
    record {
      came = fits.came;
      took = fits.took;
      unsent = fits.unsent;
      held_back = fits.held_back;
      one_stream = fits.one_stream;
      small = omega (arith, h.0.small);
    } in
    subst (Fits st) (sym h.1) next
step st (Came bytes now) a b fits h =
    let next : Fits (continued st (Came bytes now)) (record a {
      input = a.input ++ bytes;
      spare = a.spare - length bytes;
      since = now;
      began = start_of a.input a.began now;
      asked = false;
    }) =
    record {
      came = ap (λ (t : List ℕ). t ++ bytes) fits.came ∙ append_assoc (flat_map (λ t. t.request) st.turns) a.input bytes;
      took = fits.took;
      unsent = fits.unsent;
      held_back = fits.held_back;
      one_stream = fits.one_stream;
      small = simp length-append (omega (arith, fits.small, h.2));
    } in
    subst (Fits (continued st (Came bytes now))) (sym h.3) next
step st Ended a b fits h =
    let next : Fits st (record a { ended = true; asked = false }) =
    record { came = fits.came; took = fits.took; unsent = fits.unsent; held_back = fits.held_back; one_stream = fits.one_stream; small = fits.small } in
    subst (Fits st) (sym h.1) next
step st (Asked now) a b fits h =
    let next : Fits st (record a {
      since = if a.offered then a.since else now;
      began = if a.offered then a.began else now;
      offered = true;
      offered_at = if a.offered then a.offered_at else now;
      asked = true;
      asked_at = now;
    }) =
    record { came = fits.came; took = fits.took; unsent = fits.unsent; held_back = fits.held_back; one_stream = fits.one_stream; small = fits.small } in
    subst (Fits st) (sym h.1) next
step st (Lacked needed) a b fits h =
    let next : Fits st (record a { needed = needed }) =
    record { came = fits.came; took = fits.took; unsent = fits.unsent; held_back = fits.held_back; one_stream = fits.one_stream; small = fits.small } in
    subst (Fits st) (sym h.2) next
step st (Answered request closes reply line) a b fits h =
    let turn : Turn = record { request = request; closes = closes; reply = reply } in
    let next : Fits (continued st (Answered request closes reply line))
    (record a { closing = closes; stage = Stages.Made; input = b.input; output = reply; line = line; needed = 0; began = a.since; reply_size = length reply; offered = false; asked = false }) =
    record {
      came = fits.came ∙ ap (λ (t : List ℕ). flat_map (λ t. t.request) st.turns ++ t) h.2
          ∙ sym (append_assoc (flat_map (λ t. t.request) st.turns) request b.input)
          ∙ ap (λ (t : List ℕ). t ++ b.input) (sym (joined (λ t. t.request) st.turns turn));
      took = joined (λ t. t.reply) st.turns turn
          ∙ ap (λ (t : List ℕ). t ++ reply) (fits.took ∙ ap (λ (t : List ℕ). st.took ++ t) h.0.drained ∙ append-nil st.took);
      unsent = inr (st.turns, turn, [], refl, refl);
      held_back = (st.turns, turn, refl, refl);
      one_stream = one_more st.turns turn (subst (IsOneStream st.turns) h.0.lasts fits.one_stream);
      small = omega (arith, fits.small, simp length-append at (ap length h.2));
    } in
    subst (Fits (continued st (Answered request closes reply line))) (sym h.3) next
step st (Logged line) a b fits h = subst (Fits st) (sym h.2) (moved st Stages.Logged a [] tt fits)
step st (CutOff line) a b fits h =
    subst (Fits st) (sym h.2) (moved st Stages.Unlogged a [] (subst (λ (s : Stage). IsHeldBack s a.output st.turns) h.0 fits.held_back) fits)
step st (Took bytes now) a b fits h =
    let left : IsLeftOfLast a.output st.turns → IsLeftOfLast b.output st.turns =
    λ was. elim was [ inl none ↦ inl (none_left bytes b.output (sym h.3 ∙ none)) | inr some ↦ inr (some.0, some.1, some.2 ++ bytes, some.3, some.4 ∙ ap (λ (t : List ℕ). some.2 ++ t) h.3 ∙ sym (append_assoc some.2 bytes b.output)) ] in
    let next : Fits (continued st (Took bytes now)) (record a {
      output = b.output;
      since = now;
      began = now;
      offered = true;
      offered_at = if a.offered then a.offered_at else now;
      asked = false;
    }) =
    record {
      came = fits.came;
      took = fits.took ∙ ap (λ (t : List ℕ). st.took ++ t) h.3 ∙ sym (append_assoc st.took bytes b.output);
      unsent = left fits.unsent;
      held_back = subst (λ (s : Stage). IsHeldBack s b.output st.turns) (sym h.1) tt;
      one_stream = fits.one_stream;
      small = fits.small;
    } in
    subst (Fits (continued st (Took bytes now))) (sym h.4) next
step st (Gone why) a b fits h = subst (Fits no_story) (sym h.2) (first_fits false 0)

-- the same after a commit, and after one that failed
after_commit : (st : Story) (s : Stage) (a : Connection) → a.stage ≡ s → Fits st a → Fits st (committed_at s a)
after_commit st Stages.Made a h fits =
    moved st Stages.Committed a a.line (subst (λ (s : Stage). IsHeldBack s a.output st.turns) h fits.held_back) fits
after_commit st Stages.Committed a h fits = fits
after_commit st Stages.Logged a h fits = fits
after_commit st Stages.Uncommitted a h fits = fits
after_commit st Stages.Unlogged a h fits = fits

after_failure : (st : Story) (s : Stage) (a : Connection) → a.stage ≡ s → Fits st a → Fits st (uncommitted_at s a)
after_failure st Stages.Made a h fits =
    moved st Stages.Uncommitted a [] (subst (λ (s : Stage). IsHeldBack s a.output st.turns) h fits.held_back) fits
after_failure st Stages.Committed a h fits = fits
after_failure st Stages.Logged a h fits = fits
after_failure st Stages.Uncommitted a h fits = fits
after_failure st Stages.Unlogged a h fits = fits

-- the same at the connection's slot, for a change at any slot
at_slot : (at slot : ℕ) (st : Story) (change : Change) (old new : List Connection) (a : Connection) → ChangesAt slot change old new
    → slice_get old at ≡ Some a → Fits st a
    → (b : Connection) × (slice_get new at ≡ Some b) × Fits (if slot == at then continued st change else st) b
at_slot at slot st change old new a move found fits = elim (eq_or_not slot at) [
  | inl same ↦ (
    move.after,
    ap (λ (t : List Connection). slice_get t at) move.is ∙ ap (λ (i : ℕ). slice_get (slice_set old i move.after) at) same
        ∙ get_set_same old at a move.after found,
    subst (λ (b : Bool). Fits (if b then continued st change else st) move.after) (sym (eqb_same same))
        (step st change a move.after fits (subst (λ (x : Connection). IsChange change x move.after) (some_is (sym move.found ∙ ap (slice_get old) same ∙ found)) move.changed)),
  )
  | inr differ ↦ (
    a,
    ap (λ (t : List Connection). slice_get t at) move.is ∙ get_set_other old slot at move.after differ ∙ found,
    subst (λ (b : Bool). Fits (if b then continued st change else st) a) (sym (eqb_differs differ)) fits,
  )
]

all : (entries : List Entry) (at : ℕ) (st : Story) (old new : List Connection) (a : Connection) → AreChanges entries old new
    → slice_get old at ≡ Some a → Fits st a
    → (b : Connection) × (slice_get new at ≡ Some b) × Fits (story_from at st entries) b
all [] at st old new a same found fits = (a, ap (λ (t : List Connection). slice_get t at) same ∙ found, fits)
all (At slot change ∷ entries) at st old new a h found fits =
    let now = at_slot at slot st change old h.0 a h.1 found fits in
    all entries at (if slot == at then continued st change else st) h.0 new now.0 h.2 now.1 now.2
all (Committed ∷ entries) at st old new a h found fits =
    all entries at st h.0 new (committed a) h.2 (ap (λ (t : List Connection). slice_get t at) h.1 ∙ get_map committed old at a found)
    (after_commit st a.stage a refl fits)
all (Uncommitted ∷ entries) at st old new a h found fits =
    all entries at st h.0 new (uncommitted a) h.2 (ap (λ (t : List Connection). slice_get t at) h.1 ∙ get_map uncommitted old at a found)
    (after_failure st a.stage a refl fits)

free_at : (old : List Connection) (at : ℕ) → AreFree old → at < length old → slice_get old at ≡ Some (fresh false 0)
free_at [] at free less = absurd (omega arith)
free_at (c ∷ old) zero free less = ap Some free.0
free_at (c ∷ old) (suc at) free less = free_at old at free.1 (omega arith)

pub stories_fit : StoriesFit
stories_fit entries old new free changes at c found =
    let less = slice_get_within new at c found in
    let was = free_at old at free (subst (λ (n : ℕ). at < n) (lengths entries old new changes) less) in
    let end = all entries at no_story old new (fresh false 0) changes was (first_fits false 0) in
    subst (Fits (story_at at entries)) (some_is (sym end.1 ∙ found)) end.2
