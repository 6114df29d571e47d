-- The checks of ranges, by what they decide.
use Rattle.std.proofs.Common.{◌≡◌, ℕ, suc, ◌≤◌, [], ◌∷◌, length, Bool, true, false, Ok, refl, inl, inr}
use Rattle.std.specs.Prelude.{◌⊎◌, ◌&&◌, nat_le}
use Rattle.std.specs.List.{AllByRecursion}
use Rattle.std.proofs.lemmas.Bool.{leb-true, le-leb}
use Rattle.json_words.specs.Each.{each}
use Rattle.json_words.specs.ReadsAs.{◌>>=◌, demand}
use Rattle.values.specs.declared.name.Name.{Name}
use Rattle.values.specs.declared.name.Name.TheVariants.{Policy, Entity}
use Rattle.stamped_store.specs.declared.entry.Stamp.{Stamp}
use Rattle.stamped_store.specs.Deltas.{Summary}
use Rattle.sync_format.specs.declared.fault.MessageFault.{MessageFault}
use Rattle.sync_format.specs.declared.fault.MessageFault.TheVariants.{CountRange, BadEntry}
use Rattle.sync_format.specs.Summaries.{is_name_in_range, bad_id, checked_stamp}
use Rattle.sync_messages.specs.StatedSummaries.{CountFits, IdFits, Fits, RefusesRanges, RefusesStamps}
use Rattle.sync_messages.specs.StatedSummaries as says
use Rattle.sync_messages.proofs.Steps.{done, failed, true_false, untrue}
use Rattle.sync_messages.proofs.Parts.{left, right}

both : (a b : Bool) → a ≡ true → b ≡ true → (a && b) ≡ true
both true b p q = q
both false b p q = absurd cc

-- ---- one test

abbrev most : ℕ
most = 1_000_000_000_000_000_000

abbrev count_test : ℕ → Bool
count_test n = nat_le 1 n && nat_le n most

within : (low high n : ℕ) → (nat_le low n && nat_le n high) ≡ true → (low ≤ n) × (n ≤ high)
within low high n h = (leb-true low n (left (nat_le low n) (nat_le n high) h), leb-true n high (right (nat_le low n) (nat_le n high) h))

is_within : (low high n : ℕ) → (low ≤ n) × (n ≤ high) → (nat_le low n && nat_le n high) ≡ true
is_within low high n h = both (nat_le low n) (nat_le n high) (le-leb low n h.0) (le-leb n high h.1)

id_fits : (n : Name) → is_name_in_range n ≡ true → IdFits n
id_fits (Policy id) h = within 1 256 (length id) h
id_fits (Entity uid) h = tt

fits_id : (n : Name) → IdFits n → is_name_in_range n ≡ true
fits_id (Policy id) h = is_within 1 256 (length id) h
fits_id (Entity uid) h = refl

-- ---- one name and stamp

judged_by : (place : ℕ) (u : Name × Stamp) (a b : Bool) → count_test u.1.count ≡ a → is_name_in_range u.0 ≡ b
    → checked_stamp place u ≡ (demand (CountRange place) a >>= λ counted. demand (BadEntry place bad_id) b >>= λ named. Ok u)
unfolding checked_stamp
judged_by place u a b e f = λ i. demand (CountRange place) (e i) >>= λ counted. demand (BadEntry place bad_id) (f i) >>= λ named. Ok u

pub fits_pass : (place : ℕ) (u : Name × Stamp) → Fits u → checked_stamp place u ≡ done u
fits_pass place u h = judged_by place u true true (is_within 1 most u.1.count h.count) (fits_id u.0 h.id)

count_fails : (n : ℕ) → (CountFits n → ⊥) → count_test n ≡ false
count_fails n out = untrue (count_test n) (λ h. out (within 1 most n h))

id_fails : (n : Name) → (IdFits n → ⊥) → is_name_in_range n ≡ false
id_fails n out = untrue (is_name_in_range n) (λ h. out (id_fits n h))

pub refused_fail : (place : ℕ) (u : Name × Stamp) (f : MessageFault) → RefusesRanges place u f → checked_stamp place u ≡ failed f
refused_fail place u f (says.bad_count out) = judged_by place u false (is_name_in_range u.0) (count_fails u.1.count out) refl
refused_fail place u f (says.bad_id count out) = judged_by place u true false (is_within 1 most u.1.count count) (id_fails u.0 out)

abbrev pub RangesOutcome : ℕ → Name × Stamp → Type 0
RangesOutcome place u = Fits u ⊎ ((f : MessageFault) × RefusesRanges place u f)

by_tests : (place : ℕ) (u : Name × Stamp) (a b : Bool) → count_test u.1.count ≡ a → is_name_in_range u.0 ≡ b → RangesOutcome place u
by_tests place u false b e f = inr (CountRange place, says.bad_count (λ h. true_false (count_test u.1.count) (is_within 1 most u.1.count h) e))
by_tests place u true false e f = inr (BadEntry place 19, says.bad_id (within 1 most u.1.count e) (λ h. true_false (is_name_in_range u.0) (fits_id u.0 h) f))
by_tests place u true true e f = inl (record { count = within 1 most u.1.count e; id = id_fits u.0 f })

pub ranges_outcome : (place : ℕ) (u : Name × Stamp) → RangesOutcome place u
ranges_outcome place u = by_tests place u (count_test u.1.count) (is_name_in_range u.0) refl refl

-- ---- all of a summary

pub all_pass : (place : ℕ) (m : Summary) → AllByRecursion Fits m → each checked_stamp place m ≡ done m
unfolding each
all_pass place [] h = refl
all_pass place (u ∷ m) h = rw (fits_pass place u h.0, all_pass (suc place) m h.1) refl

pub first_fails : (place : ℕ) (m : Summary) (f : MessageFault) → RefusesStamps place m f → each checked_stamp place m ≡ failed f
unfolding each
first_fails place m f (says.bad_stamp k u more g h) = rw (refused_fail k u g h) refl
first_fails place m f (says.later_stamp k u more g fit h) = rw (fits_pass k u fit, first_fails (suc k) more g h) refl

abbrev pub StampsOutcome : ℕ → Summary → Type 0
StampsOutcome place m = AllByRecursion Fits m ⊎ ((f : MessageFault) × RefusesStamps place m f)

next_stamp : (place : ℕ) (u : Name × Stamp) (m : Summary) → RangesOutcome place u → StampsOutcome (suc place) m → StampsOutcome place (u ∷ m)
next_stamp place u m (inr here) rest = inr (here.0, says.bad_stamp place u m here.0 here.1)
next_stamp place u m (inl fit) (inl all) = inl (fit, all)
next_stamp place u m (inl fit) (inr later) = inr (later.0, says.later_stamp place u m later.0 fit later.1)

pub stamps_outcome : (place : ℕ) (m : Summary) → StampsOutcome place m
stamps_outcome place [] = inl tt
stamps_outcome place (u ∷ m) = next_stamp place u m (ranges_outcome place u) (stamps_outcome (suc place) m)
