-- What a crash leaves while a journal is opened.
use Rattle.std.proofs.Common.{◌⊎◌, inl, inr, ◌≡◌, ◌≤◌, ℕ, Bool, true, false, List, [], ◌∷◌, ◌++◌, length, take, drop, refl, sym, ◌∙◌, ap, subst, arith, append_assoc, take-append-drop}
use Rattle.std.specs.List.{AllByRecursion}
use Rattle.std.proofs.lemmas.List.{append-nil, append_cancel_left, length-take}
use Rattle.stamped_store.specs.Store.{Store, Update}
use Rattle.journal.specs.Events.{Event}
use Rattle.journal.specs.Events as event
use Rattle.journal.specs.Moments.{Moment, IsUnchecked, Passes, loosened, cut_after, synced}
use Rattle.journal.specs.Lines.{whole_lines, written}
use Rattle.journal.specs.Records.{Holds, IsAtRest}
use Rattle.journal.specs.Survivors.{IsSame}
use Rattle.journal.specs.Recovery.{IsBeginning, IsOpening, IsRecovered, IsSettling}
use Rattle.journal.proofs.Crashes.{either_within, rest_on_disk}
use Rattle.journal.proofs.Passing.{Passes-one, Passes-split}
use Rattle.journal.proofs.Cuts.{split_cut}
use Rattle.journal.proofs.Lists.{all_append, all_first, all_map}
use Rattle.journal.proofs.Recorded.{IsWithin, recorded_by}
use Rattle.journal.proofs.WholeLines.{whole_written, lines_grow}
use Rattle.journal.proofs.Survivors.{Holds-unique}

module _ (states : List ℕ → List Update → Type 0) (checked : List ℕ → Bool)
    (one : (line : List ℕ) (us vs : List Update) → states line us → states line vs → us ≡ vs)
    (right : (line : List ℕ) (us : List Update) → states line us → checked line ≡ true)
    (s t : Store) (m : Moment) (end : ℕ) (recovered : IsRecovered states checked s t m.file end) (us : List Update) (holds : Holds states checked m.file us) where
  pub found_is : recovered.found ≡ us
  found_is = Holds-unique states checked one right m.file recovered.found us recovered.holds holds

  -- while the part behind the records is cut off
  left_loosened : IsSame states checked us (loosened end (synced m))
  left_loosened file left =
      let good = recovered.holds.records in
      let rest = drop end m.file in
      let within = recovered.within in
      let whole : m.file ≡ written good ++ rest = sym (take-append-drop end m.file) ∙ ap (λ (l : List ℕ). l ++ rest) recovered.whole in
      let sizes : length (take end m.file) ≡ length (written good) = ap length recovered.whole in
      let long : length (written good) ≤ length left.cut = omega (arith, sizes, length-take end m.file, within, left.kept) in
      let split = split_cut (written good) rest left.cut left.lost (sym whole ∙ left.part) long in
      let behind : whole_lines rest ≡ recovered.holds.others =
      append_cancel_left good (whole_lines rest) recovered.holds.others (sym (ap whole_lines whole ∙ whole_written good rest recovered.clean) ∙ recovered.holds.lines) in
      let grown = lines_grow [] split.more left.lost in
      let parts : recovered.holds.others ≡ whole_lines split.more ++ grown.further = sym behind ∙ ap whole_lines split.rest ∙ grown.lines in
      let unchecked : AllByRecursion (IsUnchecked checked) (whole_lines split.more) =
      all_first (IsUnchecked checked) (whole_lines split.more) grown.further
      (subst (λ (ls : List (List ℕ)). AllByRecursion (IsUnchecked checked) ls) parts recovered.holds.unchecked) in
      subst (λ (vs : List Update). Holds states checked file vs) found_is (record {
        records = good;
        others = whole_lines split.more ++ left.others;
        lines = left.lines ∙ ap (λ (ls : List (List ℕ)). ls ++ left.others) (ap whole_lines split.cut ∙ whole_written good split.more recovered.clean)
            ∙ append_assoc good (whole_lines split.more) left.others;
        stated = recovered.holds.stated;
        unchecked = all_append (IsUnchecked checked) (whole_lines split.more) left.others unchecked left.unchecked;
      })

  left_synced : IsSame states checked us (synced m)
  left_synced file left =
      left_loosened file (record {
        cut = left.cut;
        lost = left.lost;
        others = left.others;
        part = left.part;
        kept = omega (arith, left.kept);
        lines = left.lines;
        unchecked = left.unchecked;
      })

  left_after : IsSame states checked us (cut_after end (synced m))
  left_after file left =
      let within = recovered.within in
      left_loosened file (record {
        cut = left.cut;
        lost = left.lost ++ drop end m.file;
        others = left.others;
        part = sym (take-append-drop end m.file) ∙ ap (λ (l : List ℕ). l ++ drop end m.file) left.part ∙ append_assoc left.cut left.lost (drop end m.file);
        kept = omega (arith, left.kept, length-take end m.file, within);
        lines = left.lines;
        unchecked = left.unchecked;
      })

  -- each moment is `m`, or a crash leaves the same updates
  abbrev pub Same : Moment → Type 0
  Same x = (x ≡ m) ⊎ IsSame states checked us x

  pub record AreSame (n : Moment) (since : List Moment) (done : Bool) : Type 0 where
    pub same : AllByRecursion Same since
    pub ended : done ≡ true → IsAtRest states n us × (n.replies ≡ m.replies)

  same_as : (x y : Moment) → x ≡ y → IsSame states checked us y → Same x
  same_as x y is same = inr (subst (λ (z : Moment). IsSame states checked us z) (sym is) same)

  all_at : (since here : List Moment) → since ≡ here → AllByRecursion Same here → AllByRecursion Same since
  all_at since here is all = subst (λ (ms : List Moment). AllByRecursion Same ms) (sym is) all

  rest_after : IsAtRest states (cut_after end (synced m)) us
  rest_after =
      subst (λ (vs : List Update). IsAtRest states (cut_after end (synced m)) vs) found_is (record {
        records = recovered.holds.records;
        lines = recovered.clean;
        whole = recovered.whole;
        durable = refl;
        stated = recovered.holds.stated;
      })

  settled_by : (events : List Event) (n : Moment) (since : List Moment) → IsSettling end events true → Passes m events since n → AreSame n since true
  settled_by events n since settling h =
      let both = subst (λ (es : List Event). Passes m es since n) settling h in
      let synced_is : both.0 ≡ synced m = both.3.1 in
      let last = Passes-one both.0 n (event.cut end true) both.2 both.4 in
      let is : n ≡ cut_after end (synced m) = last.1 ∙ ap (cut_after end) synced_is in
      let since_is : since ≡ both.0 ∷ loosened end both.0 ∷ n ∷ [] = both.5 ∙ ap (λ (ms : List Moment). ms ++ both.2) both.3.0 ∙ ap (λ (ms : List Moment). both.0 ∷ ms) last.0 in
      record {
        same = all_at since (both.0 ∷ loosened end both.0 ∷ n ∷ []) since_is (
          same_as both.0 (synced m) synced_is left_synced,
          (same_as (loosened end both.0) (loosened end (synced m)) (ap (loosened end) synced_is) left_loosened, (same_as n (cut_after end (synced m)) is left_after, tt)),
        );
        ended = λ ok. (subst (λ (x : Moment). IsAtRest states x us) (sym is) rest_after, ap (λ x. x.replies) is);
      }

  unsettled_by : (events : List Event) (n : Moment) (since : List Moment) → IsSettling end events false → Passes m events since n → AreSame n since false
  unsettled_by events n since (inl first) h =
      let last = Passes-one m n (event.sync false) since (subst (λ (es : List Event). Passes m es since n) first h) in
      record { same = all_at since (n ∷ []) last.0 (inl last.1, tt); ended = λ ok. absurd (cc) }
  unsettled_by events n since (inr second) h =
      let both = subst (λ (es : List Event). Passes m es since n) second h in
      let synced_is : both.0 ≡ synced m = both.3.1 in
      let last = Passes-one both.0 n (event.cut end false) both.2 both.4 in
      let is : n ≡ loosened end (synced m) = last.1 ∙ ap (loosened end) synced_is in
      let since_is : since ≡ both.0 ∷ n ∷ [] = both.5 ∙ ap (λ (ms : List Moment). ms ++ both.2) both.3.0 ∙ ap (λ (ms : List Moment). both.0 ∷ ms) last.0 in
      record {
        same = all_at since (both.0 ∷ n ∷ []) since_is (same_as both.0 (synced m) synced_is left_synced, (same_as n (loosened end (synced m)) is left_loosened, tt));
        ended = λ ok. absurd (cc);
      }

  -- the header of a file at rest
  either_is_same : (x : Moment) → (file : List ℕ) → Holds states checked file us ⊎ Holds states checked file (us ++ []) → Holds states checked file us
  either_is_same x file (inl same) = same
  either_is_same x file (inr more) = subst (λ (vs : List Update). Holds states checked file vs) (append-nil us) more

  begun_by : (events : List Event) (done : Bool) (mid n : Moment) (since : List Moment) → IsAtRest states mid us → mid.replies ≡ m.replies
      → IsBeginning states end events done → Passes mid events since n → AreSame n since done
  begun_by events done mid n since rest replies (inl none) h =
      let is = subst (λ (es : List Event). Passes mid es since n) none.1 h in record {
        same = all_at since [] is.0 tt;
        ended = λ ok. (subst (λ (x : Moment). IsAtRest states x us) (sym is.1) rest, ap (λ x. x.replies) is.1 ∙ replies);
      }
  begun_by events done mid n since rest replies (inr header) h =
      let line = header.1.0 in
      let recorded = recorded_by (line ++ 10 ∷ []) mid rest.durable events done n since header.1.3 h in record {
        same = all_map (IsWithin (line ++ 10 ∷ []) mid) Same
            (λ x is. inr (λ file left. either_is_same x file (either_within states checked mid x us [] (line ++ 10 ∷ []) is.front is.back rest
            (inr (line, header.1.1, header.1.2, refl)) is.part is.file is.durable file left))) since recorded.within;
        ended = λ ok.
            let after = rest_on_disk states checked mid n us [] (line ++ 10 ∷ []) rest (inr (line, header.1.1, header.1.2, refl)) (recorded.ended ok) in
            (subst (λ (vs : List Update). IsAtRest states n vs) (append-nil us) after.0, after.1 ∙ replies);
      }

  begun_after : (settling begun : List Event) (done : Bool) (n : Moment) (since : List Moment) → IsSettling end settling true → IsBeginning states end begun done
      → Passes m (settling ++ begun) since n → AreSame n since done
  begun_after settling begun done n since settles begins h =
      let p = Passes-split m n settling begun since h in
      let before = settled_by settling p.mid p.first settles p.one in
      let at_rest = before.ended refl in
      let after = begun_by begun done p.mid n p.second at_rest.0 at_rest.1 begins p.two in
      record { same = all_at since (p.first ++ p.second) p.all (all_append Same p.first p.second before.same after.same); ended = after.ended }

  pub opened_by : (events : List Event) (done : Bool) (n : Moment) (since : List Moment) → IsOpening states end events done → Passes m events since n → AreSame n since done
  opened_by events true n since opens h = begun_after opens.0 opens.1 true n since opens.2 opens.3 (subst (λ (es : List Event). Passes m es since n) opens.4 h)
  opened_by events false n since (inl settles) h = unsettled_by events n since settles h
  opened_by events false n since (inr (inl settles)) h = let settled = settled_by events n since settles h in record { same = settled.same; ended = λ ok. absurd (cc) }
  opened_by events false n since (inr (inr begins)) h =
      begun_after begins.0 begins.1 false n since begins.2 begins.3 (subst (λ (es : List Event). Passes m es since n) begins.4 h)
