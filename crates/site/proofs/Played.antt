-- A run of the code is a run of a system.
use Rattle.std.specs.Prelude.{◌≡◌, ◌≤◌, ◌<◌, ◌+◌, ◌-◌, get_or, ◌∷◌, ◌++◌, [], ℕ, zero, suc, List, length, map, set}
use Rattle.std.specs.Prelude.{slice_get, Option, Some, None, option_map, refl}
use Rattle.std.proofs.Common.{sym, ap, ◌∙◌, subst, arith}
use Rattle.std.proofs.lemmas.List.{length-map, map-append}
use Rattle.std.proofs.lemmas.Option.{slice_get_past, slice_get_read}
use Rattle.site_store.specs.schema.Schemas.{StatedSchema}
use Rattle.std.specs.FinMap.{empty}
use Rattle.site_store.specs.stamped_store.SiteNames.{five_digits}
use Rattle.site_store.specs.stamped_store.Store.{Store}
use Rattle.site.specs.SiteViews.{SiteView, schema_of, store_in, IsSameSite}
use Rattle.site_store.specs.schema.Views.{schema_view}
use Rattle.site.specs.Inputs.{Input}
use Rattle.site.specs.Inputs as input
use Rattle.site.specs.declared.reply.Reply.{Reply}
use Rattle.site.specs.Runs.{Step}
use Rattle.site.specs.declared.event.Operation.{Operation}
use Rattle.site.specs.declared.event.Operation.TheVariants as operation
use Rattle.site.specs.declared.event.Event.{Event}
use Rattle.site.specs.declared.event.EventReply.{EventReply}
use Rattle.site.specs.declared.event.EventReply.TheVariants.{Unknown}
use Rattle.site.specs.Sites.{SiteName, first_sites, numbered, set_numbered, SentSummary, SentMessage, World}
use Rattle.site.specs.Sites.{start}
use Rattle.site.specs.Worlds.{input_of, answer_among, message_bytes, summary_bytes, message_made}
use Rattle.site.specs.Worlds.{summary_made, after, HappensAt, Happens, Leads}
use Rattle.site.specs.SystemViews.{IsSiteOf, AreSitesOf, IsViewOf, IsRunTo}
use Rattle.site.specs.inner.Playing.{input_among, AnswersOperation, IsEventStep}

-- ---- the sites
site_at : (schema : StatedSchema) (ns : List SiteName) (ss : List Store) (bs : List SiteView) (k : ℕ) (a : SiteView) → AreSitesOf schema ns ss bs → slice_get bs k ≡ Some a
    → (slice_get ns k ≡ Some a.name) × (slice_get ss k ≡ Some (store_in a)) × (schema_of a ≡ schema)
site_at schema [] [] [] k a h i = absurd cc
site_at schema (n ∷ ns) (s ∷ ss) (b ∷ bs) zero a h i =
    let same : b ≡ a = some_same b a i in
    (ap (λ (x : SiteName). Some x) (sym h.0.named ∙ ap (λ (x : SiteView). x.name) same), ap (λ (x : Store). Some x) (sym h.0.holds ∙ ap store_in same), sym (ap schema_of same) ∙ h.0.under)
  where
    some_same : (x y : SiteView) → Some x ≡ Some y → x ≡ y
    some_same x y e = cc
site_at schema (n ∷ ns) (s ∷ ss) (b ∷ bs) (suc k) a h i = site_at schema ns ss bs k a h.1 i
site_at schema [] [] (b ∷ bs) k a h i = absurd h
site_at schema [] (s ∷ ss) bs k a h i = absurd h
site_at schema (n ∷ ns) [] bs k a h i = absurd h
site_at schema (n ∷ ns) (s ∷ ss) [] k a h i = absurd h

no_site : (schema : StatedSchema) (ns : List SiteName) (ss : List Store) (bs : List SiteView) (k : ℕ) → AreSitesOf schema ns ss bs → slice_get bs k ≡ None → slice_get ns k ≡ None
no_site schema [] [] [] k h i = refl
no_site schema (n ∷ ns) (s ∷ ss) (b ∷ bs) zero h i = absurd cc
no_site schema (n ∷ ns) (s ∷ ss) (b ∷ bs) (suc k) h i = no_site schema ns ss bs k h.1 i
no_site schema [] [] (b ∷ bs) k h i = absurd h
no_site schema [] (s ∷ ss) bs k h i = absurd h
no_site schema (n ∷ ns) [] bs k h i = absurd h
no_site schema (n ∷ ns) (s ∷ ss) [] k h i = absurd h

-- the same site, with another store
set_site : (schema : StatedSchema) (ns : List SiteName) (ss : List Store) (bs : List SiteView) (k : ℕ) (a b : SiteView) → AreSitesOf schema ns ss bs → slice_get bs k ≡ Some a
    → IsSameSite a b → AreSitesOf schema ns (set ss k (store_in b)) (set bs k b)
set_site schema [] [] [] k a b h i same = absurd cc
set_site schema (n ∷ ns) (s ∷ ss) (c ∷ bs) zero a b h i same =
    let is : c ≡ a = some_same c a i in (
      record {
        under = ap schema_view same.0 ∙ sym (ap schema_of is) ∙ h.0.under;
        named = same.1 ∙ sym (ap (λ (x : SiteView). x.name) is) ∙ h.0.named;
        holds = refl;
      },
      h.1,
    )
  where
    some_same : (x y : SiteView) → Some x ≡ Some y → x ≡ y
    some_same x y e = cc
set_site schema (n ∷ ns) (s ∷ ss) (c ∷ bs) (suc k) a b h i same = (h.0, set_site schema ns ss bs k a b h.1 i same)
set_site schema [] [] (c ∷ bs) k a b h i same = absurd h
set_site schema [] (s ∷ ss) bs k a b h i same = absurd h
set_site schema (n ∷ ns) [] bs k a b h i same = absurd h
set_site schema (n ∷ ns) (s ∷ ss) [] k a b h i same = absurd h

set_same : {X : Type 0} (xs : List X) (k : ℕ) (x : X) → slice_get xs k ≡ Some x → set xs k x ≡ xs
set_same [] k x h = refl
set_same (y ∷ xs) zero x h = let same : y ≡ x = cc in ap (λ z. z ∷ xs) (sym same)
set_same (y ∷ xs) (suc k) x h = ap (λ zs. y ∷ zs) (set_same xs k x h)

-- one site more
push_site : (schema : StatedSchema) (ns : List SiteName) (ss : List Store) (bs : List SiteView) (n : SiteName) (s : Store) (a : SiteView) → AreSitesOf schema ns ss bs
    → IsSiteOf schema n s a → AreSitesOf schema (ns ++ n ∷ []) (ss ++ s ∷ []) (bs ++ a ∷ [])
push_site schema [] [] [] n s a h i = (i, tt)
push_site schema (m ∷ ns) (t ∷ ss) (b ∷ bs) n s a h i = (h.0, push_site schema ns ss bs n s a h.1 i)
push_site schema [] [] (b ∷ bs) n s a h i = absurd h
push_site schema [] (t ∷ ss) bs n s a h i = absurd h
push_site schema (m ∷ ns) [] bs n s a h i = absurd h
push_site schema (m ∷ ns) (t ∷ ss) [] n s a h i = absurd h

next_site : (schema : StatedSchema) (k : ℕ) (bs : List SiteView) (a : SiteView) → AreSitesOf schema (first_sites k) (start (first_sites k)).stores bs
    → IsSiteOf schema (five_digits (suc k)) empty a → AreSitesOf schema (first_sites (suc k)) (start (first_sites (suc k))).stores (bs ++ a ∷ [])
next_site schema k bs a h i = subst (λ (ss : List Store). AreSitesOf schema (first_sites (suc k)) ss (bs ++ a ∷ []))
    (sym (map-append (λ (n : SiteName). empty) (first_sites k) (five_digits (suc k) ∷ [])))
    (push_site schema (first_sites k) (start (first_sites k)).stores bs (five_digits (suc k)) empty a h i)

pub more_sites : (schema : StatedSchema) (k : ℕ) (bs : List SiteView) (a : SiteView) → AreSitesOf schema (first_sites k) (start (first_sites k)).stores bs
    → IsSiteOf schema (five_digits (k + 1)) empty a → AreSitesOf schema (first_sites (k + 1)) (start (first_sites (k + 1))).stores (bs ++ a ∷ [])
more_sites schema k bs a h i =
    let next : k + 1 ≡ suc k = omega arith in
    subst (λ (j : ℕ). AreSitesOf schema (first_sites j) (start (first_sites j)).stores (bs ++ a ∷ [])) (sym next)
    (next_site schema k bs a h (subst (λ (j : ℕ). IsSiteOf schema (five_digits j) empty a) next i))

-- ---- what was made, as bytes
get_map : {X Y : Type 0} (f : X → Y) (xs : List X) (k : ℕ) → slice_get (map f xs) k ≡ option_map f (slice_get xs k)
get_map f [] k = refl
get_map f (x ∷ xs) zero = refl
get_map f (x ∷ xs) (suc k) = get_map f xs k

input_same : (w : World) (d : Operation) → input_among (map (λ m. m.bytes) w.messages) (map (λ m. m.bytes) w.summaries) d ≡ input_of w d
input_same w (operation.PutPolicy id text) = refl
input_same w (operation.DeletePolicy id) = refl
input_same w (operation.PutEntity bytes) = refl
input_same w (operation.DeleteEntity bytes) = refl
input_same w (operation.Authorize bytes) = refl
input_same w operation.Summary = refl
input_same w operation.Offer = refl
input_same w (operation.OfferDelta k) = ap (option_map input.Delta) (get_map (λ (m : SentSummary). m.bytes) w.summaries k)
input_same w (operation.Deliver k) = ap (option_map input.Take) (get_map (λ (m : SentMessage). m.bytes) w.messages k)

map_back : {X Y : Type 0} (f : X → Y) (g : Y → X) → ((x : X) → g (f x) ≡ x) → (xs : List X) → map g (map f xs) ≡ xs
map_back f g h [] = refl
map_back f g h (x ∷ xs) = λ i. h x i ∷ map_back f g h xs i

module _ (schema : StatedSchema) (ns : List SiteName) (bs : List SiteView) (ms sms : List (List ℕ)) (w : World) (shown : IsViewOf schema ns bs ms sms w) (e : Event) where
  input_is : input_of w e.operation ≡ input_among ms sms e.operation
  input_is =
      sym (input_same w e.operation)
      ∙ sym (ap (λ xs. input_among xs (map (λ m. m.bytes) w.summaries) e.operation) shown.messages ∙ refl)
      ∙ sym (ap (λ ys. input_among ms ys e.operation) shown.summaries)

  -- nothing has this number
  not_there : (o : Option SiteName) (p : Option Store) (q : Option Input) → HappensAt (Step schema) w e None p q Unknown w
  not_there o p q = (refl, refl)

  pub plays_nowhere : numbered ns e.site ≡ None → (v : World) × Happens (Step schema) ns w e Unknown v × IsViewOf schema ns bs ms sms v
  plays_nowhere h = (
    w,
    subst (λ (o : Option SiteName). HappensAt (Step schema) w e o (numbered w.stores e.site) (input_of w e.operation) Unknown w) (sym h) (refl, refl),
    shown,
  )

  module _ (k : ℕ) (place : e.site ≡ suc k) (a b : SiteView) (at : slice_get bs k ≡ Some a) (same : IsSameSite a b) where
    there : (slice_get ns k ≡ Some a.name) × (slice_get w.stores k ≡ Some (store_in a)) × (schema_of a ≡ schema)
    there = site_at schema ns w.stores bs k a shown.hold at

    name_is : numbered ns e.site ≡ Some a.name
    name_is = ap (numbered ns) place ∙ there.0

    store_is : numbered w.stores e.site ≡ Some (store_in a)
    store_is = ap (numbered w.stores) place ∙ there.1

    happens_by : (q : Option Input) (c : EventReply) (v : World) → input_of w e.operation ≡ q → HappensAt (Step schema) w e (Some a.name) (Some (store_in a)) q c v → Happens (Step schema) ns w e c v
    happens_by q c v is h =
        subst (λ (o : Option SiteName). HappensAt (Step schema) w e o (numbered w.stores e.site) (input_of w e.operation) c v) (sym name_is)
        (subst (λ (p : Option Store). HappensAt (Step schema) w e (Some a.name) p (input_of w e.operation) c v) (sym store_is)
        (subst (λ (x : Option Input). HappensAt (Step schema) w e (Some a.name) (Some (store_in a)) x c v) (sym is) h))

    -- what the event names was not made
    pub plays_unknown : AnswersOperation (schema_of a) a.name (store_in a) (input_among ms sms e.operation) None (store_in b)
        → (v : World) × Happens (Step schema) ns w e Unknown v × IsViewOf schema ns (set bs k b) ms sms v
    plays_unknown h = by_input (input_among ms sms e.operation) refl h
      where
        by_input : (q : Option Input) → input_among ms sms e.operation ≡ q → AnswersOperation (schema_of a) a.name (store_in a) q None (store_in b)
            → (v : World) × Happens (Step schema) ns w e Unknown v × IsViewOf schema ns (set bs k b) ms sms v
        by_input None is t = (
          w,
          happens_by None Unknown w (input_is ∙ is) (refl, refl),
          record {
            hold = subst (λ (ss : List Store). AreSitesOf schema ns ss (set bs k b))
                (ap (set w.stores k) t ∙ set_same w.stores k (store_in a) there.1)
                (set_site schema ns w.stores bs k a b shown.hold at same);
            messages = shown.messages;
            summaries = shown.summaries;
          },
        )
        by_input (Some i) is t = absurd t

    -- the site replied
    pub plays_step : (r : Reply) (c : EventReply) → AnswersOperation (schema_of a) a.name (store_in a) (input_among ms sms e.operation) (Some r) (store_in b)
        → c ≡ answer_among (length ms) (length sms) e.operation r
        → (v : World) × Happens (Step schema) ns w e c v × IsViewOf schema ns (set bs k b) (ms ++ message_bytes e.operation r) (sms ++ summary_bytes e.operation r) v
    plays_step r c h answer = by_input (input_among ms sms e.operation) refl h
      where
        count : {X : Type 0} (f : X → List ℕ) (xs : List X) (ys : List (List ℕ)) → ys ≡ map f xs → length ys ≡ length xs
        count f xs ys is = ap length is ∙ length-map xs f

        by_input : (q : Option Input) → input_among ms sms e.operation ≡ q → AnswersOperation (schema_of a) a.name (store_in a) q (Some r) (store_in b)
            → (v : World) × Happens (Step schema) ns w e c v × IsViewOf schema ns (set bs k b) (ms ++ message_bytes e.operation r) (sms ++ summary_bytes e.operation r) v
        by_input None is t = absurd t
        by_input (Some i) is t = (
          after w e (store_in a) r (store_in b),
          happens_by (Some i) c (after w e (store_in a) r (store_in b)) (input_is ∙ is) (record {
            reply = r;
            store = store_in b;
            step = subst (λ (x : StatedSchema). Step x a.name (store_in a) i r (store_in b)) there.2 t;
            answer = answer ∙ ap (λ m. answer_among m (length sms) e.operation r) (count (λ (m : SentMessage). m.bytes) w.messages ms shown.messages)
                ∙ ap (λ n. answer_among (length w.messages) n e.operation r) (count (λ (m : SentSummary). m.bytes) w.summaries sms shown.summaries);
            leaves = refl;
          }),
          record {
            hold = subst (λ (ss : List Store). AreSitesOf schema ns ss (set bs k b)) (sym (ap (λ j. set_numbered w.stores j (store_in b)) place))
                (set_site schema ns w.stores bs k a b shown.hold at same);
            messages = ap (λ xs. xs ++ message_bytes e.operation r) shown.messages
                ∙ ap (λ ys. map (λ (m : SentMessage). m.bytes) w.messages ++ ys) (sym (map_back _ (λ (m : SentMessage). m.bytes) (λ x. refl) (message_bytes e.operation r)))
                ∙ sym (map-append (λ (m : SentMessage). m.bytes) w.messages (message_made w e.operation (store_in a) r));
            summaries = ap (λ xs. xs ++ summary_bytes e.operation r) shown.summaries
                ∙ ap (λ ys. map (λ (m : SentSummary). m.bytes) w.summaries ++ ys) (sym (map_back _ (λ (m : SentSummary). m.bytes) (λ x. refl) (summary_bytes e.operation r)))
                ∙ sym (map-append (λ (m : SentSummary). m.bytes) w.summaries (summary_made e.site e.operation (store_in a) r));
          },
        )

-- ---- events one after another
leads_push : (schema : StatedSchema) (ns : List SiteName) (w : World) (es : List Event) (rs : List EventReply) (m : World) (e : Event) (c : EventReply) (v : World)
    → Leads (Step schema) ns w es rs m → Happens (Step schema) ns m e c v → Leads (Step schema) ns w (es ++ e ∷ []) (rs ++ c ∷ []) v
leads_push schema ns w [] [] m e c v h k = (v, subst (λ (x : World). Happens (Step schema) ns x e c v) h k, refl)
leads_push schema ns w [] (r ∷ rs) m e c v h k = absurd h
leads_push schema ns w (x ∷ es) [] m e c v h k = absurd h
leads_push schema ns w (x ∷ es) (r ∷ rs) m e c v h k = (h.0, h.1, leads_push schema ns h.0 es rs m e c v h.2 k)

pub played_next : (schema : StatedSchema) (ns : List SiteName) (es : List Event) (rs : List EventReply) (bs bs2 : List SiteView) (ms ms2 sms sms2 : List (List ℕ)) (e : Event) (c : EventReply)
    → IsRunTo schema ns es rs bs ms sms → IsEventStep bs ms sms e c bs2 ms2 sms2 → IsRunTo schema ns (es ++ e ∷ []) (rs ++ c ∷ []) bs2 ms2 sms2
played_next schema ns es rs bs bs2 ms ms2 sms sms2 e c h plays =
    let next = plays schema ns h.world h.shown in
    record {
      world = next.0;
      leads = leads_push schema ns (start ns) es rs h.world e c next.0 h.leads next.1;
      shown = next.2;
    }

pub played_none : (schema : StatedSchema) (ns : List SiteName) (bs : List SiteView) (ms sms : List (List ℕ)) → IsViewOf schema ns bs ms sms (start ns) → IsRunTo schema ns [] [] bs ms sms
played_none schema ns bs ms sms h = record { world = start ns; leads = refl; shown = h }

-- ---- by the number of a site, counted from 1
numbered_place : {X : Type 0} (xs : List X) (n : ℕ) → (n ≡ 0 → ⊥) → numbered xs n ≡ slice_get xs (n - 1)
numbered_place xs zero h = absurd (h refl)
numbered_place xs (suc k) h = let same : k ≡ suc k - 1 = omega arith in ap (slice_get xs) same

pub plays_at_zero : (bs : List SiteView) (ms sms : List (List ℕ)) (e : Event) → e.site ≡ 0 → IsEventStep bs ms sms e Unknown bs ms sms
plays_at_zero bs ms sms e h = λ schema ns w shown. plays_nowhere schema ns bs ms sms w shown e (ap (numbered ns) h)

pub plays_beyond : (bs : List SiteView) (ms sms : List (List ℕ)) (e : Event) → (e.site ≡ 0 → ⊥) → length bs < e.site → IsEventStep bs ms sms e Unknown bs ms sms
plays_beyond bs ms sms e some h = λ schema ns w shown.
    plays_nowhere schema ns bs ms sms w shown e
    (numbered_place ns e.site some ∙ no_site schema ns w.stores bs (e.site - 1) shown.hold (slice_get_past bs (e.site - 1) (omega arith)))

module _ (bs : List SiteView) (ms sms ms1 sms1 : List (List ℕ)) (e : Event) (a b : SiteView) (some : e.site ≡ 0 → ⊥) (within : e.site ≤ length bs)
    (read : a ≡ get_or bs (e.site - 1) a) (m_is : ms1 ≡ ms) (s_is : sms1 ≡ sms) (same : IsSameSite a b) where
  place : e.site ≡ suc (e.site - 1)
  place = next e.site some
    where
      next : (n : ℕ) → (n ≡ 0 → ⊥) → n ≡ suc (n - 1)
      next zero h = absurd (h refl)
      next (suc k) h = omega arith

  at : slice_get bs (e.site - 1) ≡ Some a
  at = slice_get_read bs (length bs) (e.site - 1) a refl (below e.site (length bs) some within) read
    where
      below : (n m : ℕ) → (n ≡ 0 → ⊥) → n ≤ m → n - 1 < m
      below zero m h k = absurd (h refl)
      below (suc n) m h k = omega arith

  pub plays_unmade : AnswersOperation (schema_of a) a.name (store_in a) (input_among ms1 sms1 e.operation) None (store_in b)
      → IsEventStep bs ms sms e Unknown (set bs (e.site - 1) b) ms sms
  plays_unmade h = λ schema ns w shown. plays_unknown schema ns bs ms sms w shown e (e.site - 1) place a b at same
      (subst (λ xs. AnswersOperation (schema_of a) a.name (store_in a) (input_among xs sms e.operation) None (store_in b)) m_is
      (subst (λ ys. AnswersOperation (schema_of a) a.name (store_in a) (input_among ms1 ys e.operation) None (store_in b)) s_is h))

  pub plays_replied : (r : Reply) (c : EventReply) (ms2 sms2 : List (List ℕ))
      → AnswersOperation (schema_of a) a.name (store_in a) (input_among ms1 sms1 e.operation) (Some r) (store_in b)
      → c ≡ answer_among (length ms) (length sms) e.operation r → ms2 ≡ ms ++ message_bytes e.operation r → sms2 ≡ sms ++ summary_bytes e.operation r
      → IsEventStep bs ms sms e c (set bs (e.site - 1) b) ms2 sms2
  plays_replied r c ms2 sms2 h answer made noted = λ schema ns w shown.
      subst (λ xs. (v : World) × Happens (Step schema) ns w e c v × IsViewOf schema ns (set bs (e.site - 1) b) xs sms2 v) (sym made)
      (subst (λ ys. (v : World) × Happens (Step schema) ns w e c v × IsViewOf schema ns (set bs (e.site - 1) b) (ms ++ message_bytes e.operation r) ys v) (sym noted)
      (plays_step schema ns bs ms sms w shown e (e.site - 1) place a b at same r c
      (subst (λ xs. AnswersOperation (schema_of a) a.name (store_in a) (input_among xs sms e.operation) (Some r) (store_in b)) m_is
      (subst (λ ys. AnswersOperation (schema_of a) a.name (store_in a) (input_among ms1 ys e.operation) (Some r) (store_in b)) s_is h)) answer))
