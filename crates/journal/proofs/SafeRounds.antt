-- Each moment of rounds is safe.
use Rattle.std.proofs.Common.{◌≡◌, ◌≤◌, inl, inr, ℕ, Bool, true, false, List, [], ◌∷◌, ◌++◌, length, refl, sym, ◌∙◌, ap, subst, arith, append_assoc}
use Rattle.std.specs.List.{AllByRecursion}
use Rattle.std.proofs.lemmas.List.{append-nil, map-append}
use Rattle.stamped_store.specs.Store.{Update}
use Rattle.journal.specs.Events.{Event}
use Rattle.journal.specs.Events as event
use Rattle.journal.specs.Moments.{Moment, Passes, replied}
use Rattle.journal.specs.Lines.{written}
use Rattle.journal.specs.Records.{Holds, IsAtRest, IsEntryOf}
use Rattle.journal.specs.Steps.{Done, replies_of, updates_of}
use Rattle.journal.specs.Survivors.{IsEither, IsSafe, IsSurvivor, IsTornOnce}
use Rattle.journal.specs.Rounds.{AreReplies, AreRounds, IsCommit, IsRound, steps_of}
use Rattle.journal.proofs.Crashes.{either_within, rest_on_disk, same_at_rest}
use Rattle.journal.proofs.Cuts.{nothing_more}
use Rattle.journal.proofs.Lists.{all_append, all_map}
use Rattle.journal.proofs.Passing.{Passes-one, Passes-split}
use Rattle.journal.proofs.Recorded.{IsWithin, recorded_by}

pub updates_of-append : (ds es : List Done) → updates_of (ds ++ es) ≡ updates_of ds ++ updates_of es
updates_of-append [] es = refl
updates_of-append (d ∷ ds) es = ap (λ (us : List Update). d.applied ++ us) (updates_of-append ds es) ∙ sym (append_assoc d.applied (updates_of ds) (updates_of es))

replies_of-append : (ds es : List Done) → replies_of (ds ++ es) ≡ replies_of ds ++ replies_of es
replies_of-append ds es = map-append (λ (d : Done). d.reply) ds es

-- the steps whose replies are the first of all
record Fronted (done : List Done) (out : List (List ℕ)) : Type 0 where
  front : List Done
  rest : List Done
  split : done ≡ front ++ rest
  replies : replies_of front ≡ out

fronted : (done : List Done) (out back : List (List ℕ)) → replies_of done ≡ out ++ back → Fronted done out
fronted done [] back e = record { front = []; rest = done; split = refl; replies = refl }
fronted [] (o ∷ out) back e = absurd (cc)
fronted (d ∷ done) (o ∷ out) back e =
    let head : d.reply ≡ o = cc in
    let tails : replies_of done ≡ out ++ back = cc in
    let was = fronted done out back tails in
    record {
      front = d ∷ was.front;
      rest = was.rest;
      split = ap (λ (ds : List Done). d ∷ ds) was.split;
      replies = ap (λ (r : List ℕ). r ∷ replies_of was.front) head ∙ ap (λ (rs : List (List ℕ)). o ∷ rs) was.replies;
    }

module _ (states : List ℕ → List Update → Type 0) (checked : List ℕ → Bool) where
  rest_replied : (m : Moment) (us : List Update) (text : List ℕ) → IsAtRest states m us → IsAtRest states (replied text m) us
  rest_replied m us text rest = record { records = rest.records; lines = rest.lines; whole = rest.whole; durable = rest.durable; stated = rest.stated }

  rest_at : (m n : Moment) (us : List Update) → n ≡ m → IsAtRest states m us → IsAtRest states n us
  rest_at m n us is rest = subst (λ (x : Moment). IsAtRest states x us) (sym is) rest

  -- ---- at most one line is torn
  pub rest_is_torn_once : (m : Moment) (us : List Update) → IsAtRest states m us → IsTornOnce m
  rest_is_torn_once m us rest =
      let sizes : length m.file ≡ length (written rest.records) = ap length rest.whole in
      let long : length (written rest.records) ≤ m.durable = omega (arith, sizes, rest.durable) in
      record {
        lines = rest.records;
        torn = [];
        line = [];
        rest = 10 ∷ [];
        clean = rest.lines;
        is_line = tt;
        whole = rest.whole ∙ sym (append-nil (written rest.records));
        part = refl;
        durable = long;
      }

  within_is_torn_once : (old m : Moment) (first us : List Update) (entry : List ℕ) → IsAtRest states old first → IsEntryOf states us entry → IsWithin entry old m → IsTornOnce m
  within_is_torn_once old m first us entry rest (inl none) is =
      let front_is : is.front ≡ [] = nothing_more is.front is.back (sym none.1 ∙ is.part) in
      let sizes : length old.file ≡ length (written rest.records) = ap length rest.whole in
      let long : length (written rest.records) ≤ m.durable = omega (arith, sizes, is.durable) in
      record {
        lines = rest.records;
        torn = [];
        line = [];
        rest = 10 ∷ [];
        clean = rest.lines;
        is_line = tt;
        whole = is.file ∙ ap (λ (l : List ℕ). old.file ++ l) front_is ∙ ap (λ (l : List ℕ). l ++ []) rest.whole;
        part = refl;
        durable = long;
      }
  within_is_torn_once old m first us entry rest (inr some) is =
      let sizes : length old.file ≡ length (written rest.records) = ap length rest.whole in
      let long : length (written rest.records) ≤ m.durable = omega (arith, sizes, is.durable) in
      record {
        lines = rest.records;
        torn = is.front;
        line = some.0;
        rest = is.back;
        clean = rest.lines;
        is_line = some.1;
        whole = is.file ∙ ap (λ (l : List ℕ). l ++ is.front) rest.whole;
        part = sym some.3 ∙ is.part;
        durable = long;
      }

  -- ---- the commit of a round
  abbrev IsUnderWay : List Update → List Update → List (List ℕ) → Moment → Type 0
  IsUnderWay first us before m = IsEither states checked first (first ++ us) m × (m.replies ≡ before) × IsTornOnce m

  record IsCommitted (first us : List Update) (old new : Moment) (since : List Moment) (done : Bool) : Type 0 where
    under_way : AllByRecursion (IsUnderWay first us old.replies) since
    ended : done ≡ true → IsAtRest states new (first ++ us) × (new.replies ≡ old.replies)

  committed_by : (first us : List Update) (events : List Event) (done : Bool) (old new : Moment) (since : List Moment) → IsAtRest states old first
      → IsCommit states us events done → Passes old events since new → IsCommitted first us old new since done
  committed_by first us events done old new since rest commit h =
      let recorded = recorded_by commit.0 old rest.durable events done new since commit.2 h in record {
        under_way = all_map (IsWithin commit.0 old) (IsUnderWay first us old.replies)
            (λ x is. (either_within states checked old x first us commit.0 is.front is.back rest commit.1 is.part is.file is.durable, is.replies, within_is_torn_once old x first us commit.0 rest commit.1 is)) since
            recorded.within;
        ended = λ ok. rest_on_disk states checked old new first us commit.0 rest commit.1 (recorded.ended ok);
      }

  -- ---- its replies
  record IsSending (us : List Update) (replies before : List (List ℕ)) (m : Moment) : Type 0 where
    rest : IsAtRest states m us
    out : List (List ℕ)
    back : List (List ℕ)
    part : replies ≡ out ++ back
    sent : m.replies ≡ before ++ out

  record AreSent (us : List Update) (replies : List (List ℕ)) (old new : Moment) (since : List Moment) (done : Bool) : Type 0 where
    sending : AllByRecursion (IsSending us replies old.replies) since
    ended : done ≡ true → IsAtRest states new us × (new.replies ≡ old.replies ++ replies)

  unsent : (us : List Update) (replies : List (List ℕ)) (m n : Moment) → IsAtRest states m us → n ≡ m → IsSending us replies m.replies n
  unsent us replies m n rest is =
      record { rest = rest_at m n us is rest; out = []; back = replies; part = refl; sent = ap (λ x. x.replies) is ∙ sym (append-nil m.replies) }

  one_sent : (us : List Update) (text : List ℕ) (replies : List (List ℕ)) (m n : Moment) → IsAtRest states m us → n ≡ replied text m → IsSending us (text ∷ replies) m.replies n
  one_sent us text replies m n rest is =
      record { rest = rest_at (replied text m) n us is (rest_replied m us text rest); out = text ∷ []; back = replies; part = refl; sent = ap (λ x. x.replies) is }

  one_more : (us : List Update) (text : List ℕ) (replies : List (List ℕ)) (m mid x : Moment) → mid ≡ replied text m → IsSending us replies mid.replies x
      → IsSending us (text ∷ replies) m.replies x
  one_more us text replies m mid x is sending = record {
    rest = sending.rest;
    out = text ∷ sending.out;
    back = sending.back;
    part = ap (λ (rs : List (List ℕ)). text ∷ rs) sending.part;
    sent = sending.sent ∙ ap (λ y. y.replies ++ sending.out) is ∙ append_assoc m.replies (text ∷ []) sending.out;
  }

  none_at : (us : List Update) (replies : List (List ℕ)) (before : List (List ℕ)) (since here : List Moment) → since ≡ here
      → AllByRecursion (IsSending us replies before) here → AllByRecursion (IsSending us replies before) since
  none_at us replies before since here is all = subst (λ (ms : List Moment). AllByRecursion (IsSending us replies before) ms) (sym is) all

  sent_by : (replies : List (List ℕ)) (us : List Update) (events : List Event) (done : Bool) (old new : Moment) (since : List Moment) → IsAtRest states old us
      → AreReplies replies events done → Passes old events since new → AreSent us replies old new since done
  sent_by [] us events done old new since rest replies h =
      let none = subst (λ (es : List Event). Passes old es since new) replies.0 h in record {
        sending = none_at us [] old.replies since [] none.0 tt;
        ended = λ ok. (rest_at old new us none.1 rest, ap (λ x. x.replies) none.1 ∙ sym (append-nil old.replies));
      }
  sent_by (text ∷ replies) us events done old new since rest (inl failed) h =
      let one = Passes-one old new (event.reply text false) since (subst (λ (es : List Event). Passes old es since new) failed.0 h) in record {
        sending = none_at us (text ∷ replies) old.replies since (new ∷ []) one.0 (
          elim one.1 [
            | inl same ↦ unsent us (text ∷ replies) old new rest same
            | inr sent ↦ one_sent us text replies old new rest sent
          ],
          tt,
        );
        ended = λ ok. absurd (cc (ok, failed.1));
      }
  sent_by (text ∷ replies) us events done old new since rest (inr goes) h =
      let p = subst (λ (es : List Event). Passes old es since new) goes.1 h in
      let mid = p.0 in
      let is : mid ≡ replied text old = p.3.1 in
      let later = sent_by replies us goes.0 done mid new p.2 (rest_at (replied text old) mid us is (rest_replied old us text rest)) goes.2 p.4 in
      let all : since ≡ mid ∷ p.2 = p.5 ∙ ap (λ (ms : List Moment). ms ++ p.2) p.3.0 in
      record {
        sending = none_at us (text ∷ replies) old.replies since (mid ∷ p.2) all (
          one_sent us text replies old mid rest is,
          all_map (IsSending us replies mid.replies) (IsSending us (text ∷ replies) old.replies) (λ x s. one_more us text replies old mid x is s) p.2 later.sending,
        );
        ended = λ ok. (
          (later.ended ok).0,
          (later.ended ok).1 ∙ ap (λ y. y.replies ++ replies) is ∙ append_assoc old.replies (text ∷ []) replies,
        );
      }

  -- ---- a round
  first_alone : (first : List Update) (done : List Done) (before : List (List ℕ)) (m : Moment) (file : List ℕ) → Holds states checked file first → m.replies ≡ before
      → IsSurvivor states checked first done before m file
  first_alone first done before m file holds none = record {
    sent = [];
    kept = [];
    lost = done;
    split = refl;
    replies = none ∙ sym (append-nil before);
    holds = subst (λ (us : List Update). Holds states checked file us) (sym (append-nil first)) holds;
  }

  all_kept : (first : List Update) (done : List Done) (before : List (List ℕ)) (m : Moment) (file : List ℕ) → Holds states checked file (first ++ updates_of done)
      → m.replies ≡ before → IsSurvivor states checked first done before m file
  all_kept first done before m file holds none = record {
    sent = [];
    kept = done;
    lost = [];
    split = sym (append-nil done);
    replies = none ∙ sym (append-nil before);
    holds = holds;
  }

  under_way_is_safe : (first : List Update) (done : List Done) (before : List (List ℕ)) (m : Moment) → IsUnderWay first (updates_of done) before m
      → IsSafe states checked first done before m
  under_way_is_safe first done before m is file left = elim (is.0 file left) [
    | inl none ↦ first_alone first done before m file none is.1
    | inr all ↦ all_kept first done before m file all is.1
  ]

  sending_is_safe : (first : List Update) (done : List Done) (before : List (List ℕ)) (m : Moment) → IsSending (first ++ updates_of done) (replies_of done) before m
      → IsSafe states checked first done before m
  sending_is_safe first done before m is file left =
      let f = fronted done is.out is.back is.part in record {
        sent = f.front;
        kept = f.rest;
        lost = [];
        split = f.split ∙ ap (λ (ds : List Done). f.front ++ ds) (sym (append-nil f.rest));
        replies = is.sent ∙ ap (λ (rs : List (List ℕ)). before ++ rs) (sym f.replies);
        holds = subst (λ (ds : List Done). Holds states checked file (first ++ updates_of ds)) f.split (same_at_rest states checked m (first ++ updates_of done) file is.rest left);
      }

  pub rest_is_safe : (first : List Update) (done : List Done) (m : Moment) → IsAtRest states m first → IsSafe states checked first done m.replies m
  rest_is_safe first done m rest file left = first_alone first done m.replies m file (same_at_rest states checked m first file rest left) refl

  pub record AreSafe (first : List Update) (done : List Done) (old new : Moment) (since : List Moment) (all : Bool) : Type 0 where
    pub safe : AllByRecursion (IsSafe states checked first done old.replies) since
    pub torn : AllByRecursion IsTornOnce since
    pub ended : all ≡ true → IsAtRest states new (first ++ updates_of done) × (new.replies ≡ old.replies ++ replies_of done)

  under_way_all : (first : List Update) (done : List Done) (before : List (List ℕ)) (since : List Moment)
      → AllByRecursion (IsUnderWay first (updates_of done) before) since → AllByRecursion (IsSafe states checked first done before) since
  under_way_all first done before since all =
      all_map (IsUnderWay first (updates_of done) before) (IsSafe states checked first done before) (λ x is. under_way_is_safe first done before x is) since all

  torn_all : (first us : List Update) (before : List (List ℕ)) (since : List Moment) → AllByRecursion (IsUnderWay first us before) since → AllByRecursion IsTornOnce since
  torn_all first us before since all = all_map (IsUnderWay first us before) IsTornOnce (λ x is. is.2) since all

  torn_at : (since here : List Moment) → since ≡ here → AllByRecursion IsTornOnce here → AllByRecursion IsTornOnce since
  torn_at since here is all = subst (λ (ms : List Moment). AllByRecursion IsTornOnce ms) (sym is) all

  -- a commit that succeeded, and the replies
  replies_after : (first : List Update) (done : List Done) (committed sent : List Event) (ended : Bool) (old new : Moment) (since : List Moment) → IsAtRest states old first
      → IsCommit states (updates_of done) committed true → AreReplies (replies_of done) sent ended → Passes old (committed ++ sent) since new
      → AreSafe first done old new since ended
  replies_after first done committed sent ended old new since rest commit replies h =
      let p = Passes-split old new committed sent since h in
      let before = committed_by first (updates_of done) committed true old p.mid p.first rest commit p.one in
      let at_rest = before.ended refl in
      let after = sent_by (replies_of done) (first ++ updates_of done) sent ended p.mid new p.second at_rest.0 replies p.two in
      let safe_at : List Moment → Type 0 = AllByRecursion (IsSafe states checked first done old.replies) in
      record {
        safe = subst safe_at (sym p.all) (all_append (IsSafe states checked first done old.replies) p.first p.second
            (under_way_all first done old.replies p.first before.under_way)
            (all_map (IsSending (first ++ updates_of done) (replies_of done) p.mid.replies) (IsSafe states checked first done old.replies)
            (λ x is. subst (λ (rs : List (List ℕ)). IsSafe states checked first done rs x) at_rest.1 (sending_is_safe first done p.mid.replies x is)) p.second after.sending));
        torn = torn_at since (p.first ++ p.second) p.all (all_append IsTornOnce p.first p.second (torn_all first (updates_of done) old.replies p.first before.under_way)
            (all_map (IsSending (first ++ updates_of done) (replies_of done) p.mid.replies) IsTornOnce
            (λ x is. rest_is_torn_once x (first ++ updates_of done) is.rest) p.second after.sending));
        ended = λ ok. ((after.ended ok).0, (after.ended ok).1 ∙ ap (λ (rs : List (List ℕ)). rs ++ replies_of done) at_rest.1);
      }

  round_by : (first : List Update) (done : List Done) (events : List Event) (ended : Bool) (old new : Moment) (since : List Moment) → IsAtRest states old first
      → IsRound states (updates_of done) (replies_of done) events ended → Passes old events since new → AreSafe first done old new since ended
  round_by first done events true old new since rest round h =
      replies_after first done round.0 round.1 true old new since rest round.2 round.3 (subst (λ (es : List Event). Passes old es since new) round.4 h)
  round_by first done events false old new since rest (inl failed) h =
      let commit = committed_by first (updates_of done) events false old new since rest failed h in
      record {
        safe = under_way_all first done old.replies since commit.under_way;
        torn = torn_all first (updates_of done) old.replies since commit.under_way;
        ended = λ ok. absurd (cc);
      }
  round_by first done events false old new since rest (inr sent) h =
      replies_after first done sent.0 sent.1 false old new since rest sent.2 sent.3 (subst (λ (es : List Event). Passes old es since new) sent.4 h)

  -- ---- rounds
  -- further steps take nothing from what survives
  more_lost : (first : List Update) (done more : List Done) (before : List (List ℕ)) (m : Moment) → IsSafe states checked first done before m
      → IsSafe states checked first (done ++ more) before m
  more_lost first done more before m safe file left =
      let was = safe file left in record {
        sent = was.sent;
        kept = was.kept;
        lost = was.lost ++ more;
        split = ap (λ (ds : List Done). ds ++ more) was.split ∙ append_assoc was.sent (was.kept ++ was.lost) more
            ∙ ap (λ (ds : List Done). was.sent ++ ds) (append_assoc was.kept was.lost more);
        replies = was.replies;
        holds = was.holds;
      }

  all_updates : (first : List Update) (round done : List Done) → (first ++ updates_of round) ++ updates_of done ≡ first ++ updates_of (round ++ done)
  all_updates first round done =
      append_assoc first (updates_of round) (updates_of done) ∙ ap (λ (us : List Update). first ++ us) (sym (updates_of-append round done))

  all_replies : (before : List (List ℕ)) (round done : List Done) → (before ++ replies_of round) ++ replies_of done ≡ before ++ replies_of (round ++ done)
  all_replies before round done =
      append_assoc before (replies_of round) (replies_of done) ∙ ap (λ (rs : List (List ℕ)). before ++ rs) (sym (replies_of-append round done))

  -- behind a round that was sent
  later_safe : (first : List Update) (round done : List Done) (before mid : List (List ℕ)) (m : Moment) → mid ≡ before ++ replies_of round
      → IsSafe states checked (first ++ updates_of round) done mid m → IsSafe states checked first (round ++ done) before m
  later_safe first round done before mid m is safe file left =
      let was = safe file left in record {
        sent = round ++ was.sent;
        kept = was.kept;
        lost = was.lost;
        split = ap (λ (ds : List Done). round ++ ds) was.split ∙ sym (append_assoc round was.sent (was.kept ++ was.lost));
        replies = was.replies ∙ ap (λ (rs : List (List ℕ)). rs ++ replies_of was.sent) is ∙ all_replies before round was.sent;
        holds = subst (λ (us : List Update). Holds states checked file us)
            (all_updates first round (was.sent ++ was.kept) ∙ ap (λ (ds : List Done). first ++ updates_of ds) (sym (append_assoc round was.sent was.kept))) was.holds;
      }

  pub rounds_by : (rounds : List (List Done)) (first : List Update) (events : List Event) (ended : Bool) (old new : Moment) (since : List Moment) → IsAtRest states old first
      → AreRounds states rounds events ended → Passes old events since new → AreSafe first (steps_of rounds) old new since ended
  rounds_by [] first events ended old new since rest none h =
      let is = subst (λ (es : List Event). Passes old es since new) none.0 h in record {
        safe = subst (λ (ms : List Moment). AllByRecursion (IsSafe states checked first [] old.replies) ms) (sym is.0) tt;
        torn = torn_at since [] is.0 tt;
        ended = λ ok. (
          rest_at old new (first ++ []) is.1 (subst (λ (us : List Update). IsAtRest states old us) (sym (append-nil first)) rest),
          ap (λ x. x.replies) is.1 ∙ sym (append-nil old.replies),
        );
      }
  rounds_by (round ∷ rounds) first events ended old new since rest (inl last) h =
      let this = round_by first round events false old new since rest last.0 h in record {
        safe = all_map (IsSafe states checked first round old.replies) (IsSafe states checked first (round ++ steps_of rounds) old.replies)
            (λ x is. more_lost first round (steps_of rounds) old.replies x is) since this.safe;
        torn = this.torn;
        ended = λ ok. absurd (cc (ok, last.2));
      }
  rounds_by (round ∷ rounds) first events ended old new since rest (inr goes) h =
      let p = Passes-split old new goes.0 goes.1 since (subst (λ (es : List Event). Passes old es since new) goes.4 h) in
      let this = round_by first round goes.0 true old p.mid p.first rest goes.2 p.one in
      let at_rest = this.ended refl in
      let later = rounds_by rounds (first ++ updates_of round) goes.1 ended p.mid new p.second at_rest.0 goes.3 p.two in
      let safe_at : List Moment → Type 0 = AllByRecursion (IsSafe states checked first (round ++ steps_of rounds) old.replies) in
      record {
        safe = subst safe_at (sym p.all) (all_append (IsSafe states checked first (round ++ steps_of rounds) old.replies) p.first p.second
            (all_map (IsSafe states checked first round old.replies) (IsSafe states checked first (round ++ steps_of rounds) old.replies)
            (λ x is. more_lost first round (steps_of rounds) old.replies x is) p.first this.safe)
            (all_map (IsSafe states checked (first ++ updates_of round) (steps_of rounds) p.mid.replies) (IsSafe states checked first (round ++ steps_of rounds) old.replies)
            (λ x is. later_safe first round (steps_of rounds) old.replies p.mid.replies x at_rest.1 is) p.second later.safe));
        torn = torn_at since (p.first ++ p.second) p.all (all_append IsTornOnce p.first p.second this.torn later.torn);
        ended = λ ok. (
          subst (λ (us : List Update). IsAtRest states new us) (all_updates first round (steps_of rounds)) (later.ended ok).0,
          (later.ended ok).1 ∙ ap (λ (rs : List (List ℕ)). rs ++ replies_of (steps_of rounds)) at_rest.1 ∙ all_replies old.replies round (steps_of rounds),
        );
      }
