-- The invariant of a system: its entries were issued at the sites that their stamps name, equal stamps mean equal
-- updates, and each site's store is at least all that was issued there and each of its summaries.
use Rattle.std.specs.Prelude.{◌≡◌, ◌≤◌, ◌+◌, ◌⊎◌, ◌∷◌, ◌++◌, [], ℕ, zero, suc, List, map, slice_get, true, Option, Some}
use Rattle.std.specs.Prelude.{None, Contains, refl}
use Rattle.std.proofs.Common.{sym, ap, ◌∙◌, subst, arith, inl, inr, append-nil}
use Rattle.std.proofs.lemmas.List.Elements.{Contains-append_left, Contains-append_cases, Contains-push}
use Rattle.std.proofs.lemmas.List.Elements.{Contains-push_cases}
use Rattle.std.specs.FinMap.{get, empty, get-empty}
use Rattle.values.specs.declared.name.Name.{Name}
use Rattle.values.specs.Names.{name_cmp}
use Rattle.site_store.specs.stamped_store.declared.entry.Stamp.{Stamp}
use Rattle.site_store.specs.stamped_store.Deltas.{delta, summary_of, HaveOneEntryForAStamp}
use Rattle.site_store.specs.stamped_store.EntryOrder.{PlainEntry}
use Rattle.site_store.specs.stamped_store.Greatest.{greatest_count}
use Rattle.site_store.specs.stamped_store.Joins.{option_below}
use Rattle.site_store.specs.stamped_store.Store.{Store, Update, updates, store_of, plain_below, IsStoreBelow}
use Rattle.site_store.specs.stamped_store.Store.{joined_stores, issue, issued}
use Rattle.site.specs.Sites.{SiteName, AreSites, numbered, set_numbered, SentSummary, SentMessage, World, start}
use Rattle.site.proofs.Growing.{Has, StoreLaws, has_more, grows, count_bound, below_itself, below_trans, get_set}
use Rattle.site.proofs.Growing.{set_cases}
use Rattle.site.proofs.Issued.{Issue, IsLogged}

-- ---- places
pub set_numbered_cases : {X : Type 0} (xs : List X) (k j : ℕ) (x y : X) → numbered (set_numbered xs k x) j ≡ Some y → ((j ≡ k) × (x ≡ y)) ⊎ (numbered xs j ≡ Some y)
set_numbered_cases xs zero j x y h = inr h
set_numbered_cases xs (suc k) zero x y h = absurd cc
set_numbered_cases xs (suc k) (suc j) x y h = elim (set_cases xs k j x y h) [
  | inl here ↦ inl (ap suc here.0, here.1)
  | inr there ↦ inr there
]

pub get_set_numbered : {X : Type 0} (xs : List X) (k : ℕ) (x y : X) → numbered xs k ≡ Some y → numbered (set_numbered xs k x) k ≡ Some x
get_set_numbered xs zero x y h = absurd cc
get_set_numbered xs (suc k) x y h = get_set xs k x y h

one_place : (sites : List SiteName) → AreSites sites → (j k : ℕ) (n : SiteName) → numbered sites j ≡ Some n → numbered sites k ≡ Some n → j ≡ k
one_place sites are zero k n h i = absurd cc
one_place sites are (suc j) zero n h i = absurd cc
one_place sites are (suc j) (suc k) n h i = ap suc (are.distinct j k n h i)

pub some_same : {X : Type 0} (x y : X) → Some x ≡ Some y → x ≡ y
some_same x y h = cc

-- an item of one of two lists, by its index
append_get : {X : Type 0} (xs ys : List X) (k : ℕ) (y : X) → slice_get (xs ++ ys) k ≡ Some y → (slice_get xs k ≡ Some y) ⊎ ((j : ℕ) × (slice_get ys j ≡ Some y))
append_get [] ys k y h = inr (k, h)
append_get (x ∷ xs) ys zero y h = inl h
append_get (x ∷ xs) ys (suc k) y h = append_get xs ys k y h

no_place : {X : Type 0} (k : ℕ) (y : X) → slice_get [] k ≡ Some y → ⊥
no_place k y h = cc

-- ---- the invariant
-- each entry of the store was issued at the site that its stamp names
abbrev pub AllIssued : List Issue → Store → Type 0
AllIssued log s = (u : Update) → Has s u → IsLogged log u

-- among what was issued, equal stamps mean equal updates
abbrev pub HaveOneUpdateForAStamp : List Issue → Type 0
HaveOneUpdateForAStamp log = (u v : Update) → IsLogged log u → IsLogged log v → u.1.count ≡ v.1.count → u.1.site ≡ v.1.site → u ≡ v

-- `Fits` holds of each update that is issued, `IsOfSummary` and `IsOfMessage` of what was made, whatever comes later
module _ (sites : List SiteName) (Fits : Update → Type 0) (IsOfSummary : SentSummary → Type 0) (IsOfMessage : SentMessage → Type 0) where
  -- a summary that was made: its site's store is at least what it was
  pub record IsNoted (log : List Issue) (stores : List Store) (m : SentSummary) : Type 0 where
    pub known : AllIssued log m.store
    pub later : (s : Store) → numbered stores m.site ≡ Some s → IsStoreBelow m.store s
    pub made : IsOfSummary m

  pub record IsSent (log : List Issue) (stores : List Store) (m : SentMessage) : Type 0 where
    pub known : AllIssued log m.whole
    pub since : (old : SentSummary) → m.since ≡ Some old → IsNoted log stores old
    pub made : IsOfMessage m

  pub record Keeps (log : List Issue) (w : World) : Type 0 where
    pub stored : (k : ℕ) (s : Store) → numbered w.stores k ≡ Some s → AllIssued log s
    pub sent : (k : ℕ) (m : SentMessage) → slice_get w.messages k ≡ Some m → IsSent log w.stores m
    pub noted : (k : ℕ) (m : SentSummary) → slice_get w.summaries k ≡ Some m → IsNoted log w.stores m
    pub own : (k : ℕ) (s : Store) (u : Update) → numbered w.stores k ≡ Some s → numbered sites k ≡ Some u.1.site → IsLogged log u
        → option_below plain_below (Some u.1) (get s u.0) ≡ true
    pub alike : HaveOneUpdateForAStamp log
    pub fits : (u : Update) → IsLogged log u → Fits u

  module _ (law : StoreLaws) (are : AreSites sites) where
    -- ---- at the start
    empty_places : (ns : List SiteName) (k : ℕ) (s : Store) → slice_get (map (λ _. empty) ns) k ≡ Some s → s ≡ empty
    empty_places [] k s h = absurd cc
    empty_places (n ∷ ns) zero s h = sym (some_same empty s h)
    empty_places (n ∷ ns) (suc k) s h = empty_places ns k s h

    empty_numbered : (k : ℕ) (s : Store) → numbered (map (λ _. empty) sites) k ≡ Some s → s ≡ empty
    empty_numbered zero s h = absurd cc
    empty_numbered (suc k) s h = empty_places sites k s h

    none_there : (u : Update) → Has empty u → ⊥
    none_there u h = apart (sym (get-empty name_cmp u.0) ∙ h)
      where
        apart : {x : PlainEntry} → None ≡ Some x → ⊥
        apart e = cc

    none_issued : (u : Update) → IsLogged [] u → ⊥
    none_issued u h = omega (arith, h.1)

    pub keeps_start : Keeps [] (start sites)
    keeps_start = record {
      stored = λ k s h u g. absurd (none_there u (subst (λ (x : Store). Has x u) (empty_numbered k s h) g));
      sent = λ k m h. absurd (no_place k m h);
      noted = λ k m h. absurd (no_place k m h);
      own = λ k s u h n c. absurd (none_issued u c);
      alike = λ u v c d e f. absurd (none_issued u c);
      fits = λ u c. absurd (none_issued u c);
    }

    -- ---- one event
    module _ (log more : List Issue) (w : World) (K : Keeps log w) (k : ℕ) (s t : Store) (at : numbered w.stores k ≡ Some s) (up : IsStoreBelow s t) where
      abbrev after : List Store
      after = set_numbered w.stores k t

      older : (u : Update) → IsLogged log u → IsLogged (log ++ more) u
      older u h = Contains-append_left log more (u.1.site, u) h

      pub noted_after : (m : SentSummary) → IsNoted log w.stores m → IsNoted (log ++ more) after m
      noted_after m h = record {
        known = λ u g. older u (h.known u g);
        later = λ x i. elim (set_numbered_cases w.stores k m.site t x i) [
          | inl here ↦ subst (IsStoreBelow m.store) here.1
              (λ q. below_trans (get m.store q) (get s q) (get t q) (h.later s (ap (numbered w.stores) here.0 ∙ at) q) (up q))
          | inr there ↦ h.later x there
        ];
        made = h.made;
      }

      pub sent_after : (m : SentMessage) → IsSent log w.stores m → IsSent (log ++ more) after m
      sent_after m h = record {
        known = λ u g. older u (h.known u g);
        since = λ old i. noted_after old (h.since old i);
        made = h.made;
      }

      pub keeps_after : (ms : List SentMessage) (ns : List SentSummary)
          → AllIssued (log ++ more) t
          → ((j : ℕ) (x : Store) (u : Update) → numbered after j ≡ Some x → numbered sites j ≡ Some u.1.site → IsLogged more u → option_below plain_below (Some u.1) (get x u.0) ≡ true)
          → HaveOneUpdateForAStamp (log ++ more)
          → ((u : Update) → IsLogged more u → Fits u)
          → ((j : ℕ) (m : SentMessage) → slice_get ms j ≡ Some m → IsSent (log ++ more) after m)
          → ((j : ℕ) (m : SentSummary) → slice_get ns j ≡ Some m → IsNoted (log ++ more) after m)
          → Keeps (log ++ more) (record { stores = after; messages = w.messages ++ ms; summaries = w.summaries ++ ns })
      keeps_after ms ns has new alike fits sends notes = record {
        stored = λ j x h u g. elim (set_numbered_cases w.stores k j t x h) [
          | inl here ↦ has u (subst (λ (y : Store). Has y u) (sym here.1) g)
          | inr there ↦ older u (K.stored j x there u g)
        ];
        sent = λ j m h. elim (append_get w.messages ms j m h) [
          | inl old ↦ sent_after m (K.sent j m old)
          | inr made ↦ sends made.0 m made.1
        ];
        noted = λ j m h. elim (append_get w.summaries ns j m h) [
          | inl old ↦ noted_after m (K.noted j m old)
          | inr made ↦ notes made.0 m made.1
        ];
        own = λ j x u h n c. elim (Contains-append_cases log more (u.1.site, u) c) [
          | inl old ↦ elim (set_numbered_cases w.stores k j t x h) [
            | inl here ↦ subst (λ (y : Store). option_below plain_below (Some u.1) (get y u.0) ≡ true) here.1
                (below_trans (Some u.1) (get s u.0) (get t u.0)
                (K.own k s u at (sym (ap (numbered sites) here.0) ∙ n) old) (up u.0))
            | inr there ↦ K.own j x u there n old
          ]
          | inr late ↦ new j x u h n late
        ];
        alike = alike;
        fits = λ u c. elim (Contains-append_cases log more (u.1.site, u) c) [ inl old ↦ K.fits u old | inr late ↦ fits u late ];
      }

    -- an event that issues nothing
    module _ (log : List Issue) (w : World) (K : Keeps log w) (k : ℕ) (s t : Store) (at : numbered w.stores k ≡ Some s) where
      old_log : (u : Update) → IsLogged (log ++ []) u → IsLogged log u
      old_log u h = subst (λ (l : List Issue). IsLogged l u) (append-nil log) h

      same_log : (u : Update) → IsLogged log u → IsLogged (log ++ []) u
      same_log u h = subst (λ (l : List Issue). IsLogged l u) (sym (append-nil log)) h

      pub keeps_unissued : IsStoreBelow s t → AllIssued log t → (ms : List SentMessage) (ns : List SentSummary)
          → ((j : ℕ) (m : SentMessage) → slice_get ms j ≡ Some m → IsSent (log ++ []) (set_numbered w.stores k t) m)
          → ((j : ℕ) (m : SentSummary) → slice_get ns j ≡ Some m → IsNoted (log ++ []) (set_numbered w.stores k t) m)
          → Keeps (log ++ []) (record { stores = set_numbered w.stores k t; messages = w.messages ++ ms; summaries = w.summaries ++ ns })
      keeps_unissued up has ms ns sends notes = keeps_after log [] w K k s t at up ms ns
          (λ u g. same_log u (has u g))
          (λ j x u h n c. absurd (none_issued u c))
          (λ u v c d e f. K.alike u v (old_log u c) (old_log v d) e f)
          (λ u c. absurd (none_issued u c))
          sends notes

      -- issued updates are joined
      pub keeps_taken : (us : List Update) → t ≡ store_of (updates s ++ us) → ((u : Update) → Contains us u → IsLogged log u)
          → Keeps (log ++ []) (record { stores = set_numbered w.stores k t; messages = w.messages ++ []; summaries = w.summaries ++ [] })
      keeps_taken us is known = keeps_unissued
          (subst (IsStoreBelow s) (sym is) (grows law s us))
          (λ u g. elim (has_more law s us u (subst (λ (x : Store). Has x u) is g)) [ inl old ↦ K.stored k s at u old | inr new ↦ known u new ])
          [] [] (λ j m h. absurd (no_place j m h)) (λ j m h. absurd (no_place j m h))

      module _ (same : t ≡ s) where
        up : IsStoreBelow s t
        up = subst (IsStoreBelow s) (sym same) (λ q. below_itself (get s q))

        has : AllIssued log t
        has = subst (AllIssued log) (sym same) (K.stored k s at)

        -- nothing is made
        pub keeps_same : Keeps (log ++ []) (record { stores = set_numbered w.stores k t; messages = w.messages ++ []; summaries = w.summaries ++ [] })
        keeps_same = keeps_unissued up has [] [] (λ j m h. absurd (no_place j m h)) (λ j m h. absurd (no_place j m h))

        -- a message is made
        pub keeps_message : (m : SentMessage) → m.whole ≡ s → ((old : SentSummary) → m.since ≡ Some old → (j : ℕ) × (slice_get w.summaries j ≡ Some old)) → IsOfMessage m
            → Keeps (log ++ []) (record { stores = set_numbered w.stores k t; messages = w.messages ++ m ∷ []; summaries = w.summaries ++ [] })
        keeps_message m is there made = keeps_unissued up has (m ∷ []) [] (λ j x h. of_one j x h) (λ j x h. absurd (no_place j x h))
          where
            sent_now : IsSent log w.stores m
            sent_now = record {
              known = subst (AllIssued log) (sym is) (K.stored k s at);
              since = λ old h. let i = there old h in K.noted i.0 old i.1;
              made = made;
            }

            of_one : (j : ℕ) (x : SentMessage) → slice_get (m ∷ []) j ≡ Some x → IsSent (log ++ []) (set_numbered w.stores k t) x
            of_one zero x h = subst (IsSent (log ++ []) (set_numbered w.stores k t)) (some_same m x h) (sent_after log [] w K k s t at up m sent_now)
            of_one (suc j) x h = absurd (no_place j x h)

        -- a summary is made
        pub keeps_summary : (m : SentSummary) → m.store ≡ s → m.site ≡ k → IsOfSummary m
            → Keeps (log ++ []) (record { stores = set_numbered w.stores k t; messages = w.messages ++ []; summaries = w.summaries ++ m ∷ [] })
        keeps_summary m is here made = keeps_unissued up has [] (m ∷ []) (λ j x h. absurd (no_place j x h)) (λ j x h. of_one j x h)
          where
            noted_now : IsNoted log w.stores m
            noted_now = record {
              known = subst (AllIssued log) (sym is) (K.stored k s at);
              later = λ x h.
                  let now : s ≡ x = some_same s x (sym at ∙ sym (ap (numbered w.stores) here) ∙ h) in
                  subst (IsStoreBelow m.store) (is ∙ now) (λ q. below_itself (get m.store q));
              made = made;
            }

            of_one : (j : ℕ) (x : SentSummary) → slice_get (m ∷ []) j ≡ Some x → IsNoted (log ++ []) (set_numbered w.stores k t) x
            of_one zero x h = subst (IsNoted (log ++ []) (set_numbered w.stores k t)) (some_same m x h) (noted_after log [] w K k s t at up m noted_now)
            of_one (suc j) x h = absurd (no_place j x h)

    -- a command gets a stamp
    module _ (log : List Issue) (w : World) (K : Keeps log w) (k : ℕ) (n : SiteName) (s t : Store) (name : Name) (body : Option (List ℕ)) (stamp : Stamp)
        (at : numbered w.stores k ≡ Some s) (here : numbered sites k ≡ Some n) (next : stamp ≡ issue s n) (is : t ≡ store_of (updates s ++ (name, issued stamp body) ∷ [])) where
      abbrev new : Update
      new = (name, issued stamp body)

      abbrev one : List Issue
      one = (n, new) ∷ []

      site_is : new.1.site ≡ n
      site_is = ap (λ (x : Stamp). x.site) next

      count_is : new.1.count ≡ greatest_count s + 1
      count_is = ap (λ (x : Stamp). x.count) next

      only : {X : Type 0} (x y : X) → Contains (x ∷ []) y → x ≡ y
      only x y c = elim (Contains-push_cases [] x y c) [ inl none ↦ absurd (omega (arith, none.1)) | inr same ↦ same ]

      that_one : (u : Update) → IsLogged one u → new ≡ u
      that_one u c = ap (λ (p : Issue). p.1) (only (n, new) (u.1.site, u) c)

      mine : IsLogged (log ++ one) new
      mine = subst (λ (i : SiteName). Contains (log ++ one) (i, new)) (sym site_is) (Contains-push log (n, new))

      stands : Has t new
      stands = ap (λ (x : Store). get x name) is
          ∙ ap (λ (x : Stamp). get (store_of (updates s ++ (name, issued x body) ∷ [])) name) next
          ∙ law.stays s name n body
          ∙ ap (λ (x : Stamp). Some (issued x body)) (sym next)

      before : (u : Update) → IsLogged log u → u.1.site ≡ n → u.1.count ≤ greatest_count s
      before u c e = count_bound law s u.0 u.1 (get s u.0) refl (K.own k s u at (here ∙ ap (λ (x : SiteName). Some x) (sym e)) c)

      apart : (u v : Update) → IsLogged log u → new ≡ v → u.1.count ≡ v.1.count → u.1.site ≡ v.1.site → ⊥
      apart u v c e f g =
          let vc : new.1.count ≡ v.1.count = ap (λ (x : Update). x.1.count) e in
          let vs : new.1.site ≡ v.1.site = ap (λ (x : Update). x.1.site) e in
          let small = before u c (g ∙ sym vs ∙ site_is) in
          let is_next = count_is in
          omega arith

      alike_more : HaveOneUpdateForAStamp (log ++ one)
      alike_more u v c d f g = elim (Contains-append_cases log one (u.1.site, u) c) [
        | inl u_old ↦ elim (Contains-append_cases log one (v.1.site, v) d) [
          | inl v_old ↦ K.alike u v u_old v_old f g
          | inr v_new ↦ absurd (apart u v u_old (that_one v v_new) f g)
        ]
        | inr u_new ↦ elim (Contains-append_cases log one (v.1.site, v) d) [
          | inl v_old ↦ absurd (apart v u v_old (that_one u u_new) (sym f) (sym g))
          | inr v_new ↦ sym (that_one u u_new) ∙ that_one v v_new
        ]
      ]

      own_new : (j : ℕ) (x : Store) (u : Update) → numbered (set_numbered w.stores k t) j ≡ Some x → numbered sites j ≡ Some u.1.site → IsLogged one u → option_below plain_below (Some u.1) (get x u.0) ≡ true
      own_new j x u h i c =
          let same = that_one u c in
          let u_site : u.1.site ≡ n = sym (ap (λ (y : Update). y.1.site) same) ∙ site_is in
          let place : j ≡ k = one_place sites are j k n (i ∙ ap (λ (y : SiteName). Some y) u_site) here in
          let now : t ≡ x = some_same t x (sym (get_set_numbered w.stores k t s at) ∙ sym (ap (numbered (set_numbered w.stores k t)) place) ∙ h) in
          subst (λ (y : Store). option_below plain_below (Some u.1) (get y u.0) ≡ true) now
          (subst (λ (y : Update). option_below plain_below (Some y.1) (get t y.0) ≡ true) same
          (subst (λ a. option_below plain_below (Some new.1) a ≡ true) (sym stands) (below_itself (Some new.1))))

      pub keeps_issued : Fits new
          → Keeps (log ++ one) (record { stores = set_numbered w.stores k t; messages = w.messages ++ []; summaries = w.summaries ++ [] })
      keeps_issued fit = keeps_after log one w K k s t at
          (subst (IsStoreBelow s) (sym is) (grows law s (new ∷ []))) [] []
          (λ u g. elim (has_more law s (new ∷ []) u (subst (λ (x : Store). Has x u) is g)) [
            | inl old ↦ Contains-append_left log one (u.1.site, u) (K.stored k s at u old)
            | inr late ↦ subst (IsLogged (log ++ one)) (only new u late) mine
          ])
          own_new alike_more
          (λ u c. subst Fits (that_one u c) fit)
          (λ j m h. absurd (no_place j m h)) (λ j m h. absurd (no_place j m h))

  -- ---- what follows
  -- applied by the site that made the summary, a delta against it gives what the whole store would give
  pub exchanged : ((s old t : Store) → IsStoreBelow old s → HaveOneEntryForAStamp old t → joined_stores s (delta t (summary_of old)) ≡ joined_stores s t)
      → (log : List Issue) (w : World) → Keeps log w → (k : ℕ) (m : SentMessage) (old : SentSummary) (s : Store)
      → slice_get w.messages k ≡ Some m → m.since ≡ Some old → numbered w.stores old.site ≡ Some s
      → joined_stores s (delta m.whole (summary_of old.store)) ≡ joined_stores s m.whole
  exchanged deltas log w K k m old s h i at =
      let sent = K.sent k m h in
      let noted = sent.since old i in
      deltas s old.store m.whole (noted.later s at) (λ q a b x y same.
      let c : a.count ≡ b.count = ap (λ (z : Stamp). z.count) same in
      let d : a.site ≡ b.site = ap (λ (z : Stamp). z.site) same in
      ap (λ (u : Update). u.1) (K.alike (q, a) (q, b) (noted.known (q, a) x) (sent.known (q, b) y) c d))
