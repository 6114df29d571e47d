-- What was issued, as a list: each update with the name of its site. An update is in the list if and only if an event
-- issued it.
use Rattle.std.specs.Prelude.{◌≡◌, ◌∷◌, ◌++◌, [], ℕ, zero, suc, List, map, slice_get, Option, Some, None}
use Rattle.std.specs.Prelude.{Contains, refl}
use Rattle.std.proofs.Common.{sym, ap, subst, inl, inr}
use Rattle.std.proofs.lemmas.List.Elements.{Contains-append_left, Contains-append_right, Contains-append_cases}
use Rattle.plain.proofs.Members.{Contains-here, Contains-there, Contains-none}
use Rattle.site_store.specs.schema.Schemas.{StatedSchema}
use Rattle.site_store.specs.stamped_store.Store.{Update}
use Rattle.site.specs.declared.reply.Reply.{Reply}
use Rattle.site_store.proofs.of_stamped_store.GreatestsBy.{by_place}
use Rattle.site.specs.declared.event.Event.{Event}
use Rattle.site.specs.declared.event.EventReply.{EventReply}
use Rattle.site.specs.declared.event.EventReply.TheVariants.{Unknown, Replied, Message, Summary}
use Rattle.site.specs.Sites.{SiteName, numbered}
use Rattle.site.specs.Worlds.{WasIssued, issued_by}
use Rattle.site.specs.Promises.{IssuesBy}

-- an update, with the name of the site at which a local command got its stamp
abbrev pub Issue : Type 0
Issue = SiteName × Update

abbrev pub issue : SiteName → Update → Issue
issue n u = (n, u)

-- the list has the update, issued at the site that its stamp names
abbrev pub IsLogged : List Issue → Update → Type 0
IsLogged log u = Contains log (u.1.site, u)

abbrev pub at_site : Option SiteName → List Update → List Issue
at_site None us = []
at_site (Some n) us = map (issue n) us

abbrev pub issues_of : StatedSchema → List SiteName → Event → EventReply → List Issue
issues_of schema sites e (Replied r) = at_site (numbered sites e.site) (issued_by schema e.operation r)
issues_of schema sites e _ = []

abbrev pub issues : StatedSchema → List SiteName → List Event → List EventReply → List Issue
issues schema sites [] rs = []
issues schema sites (e ∷ es) [] = []
issues schema sites (e ∷ es) (a ∷ rs) = issues_of schema sites e a ++ issues schema sites es rs

-- ---- one event
name_is : (n m : SiteName) (v u : Update) → issue n v ≡ issue m u → n ≡ m
name_is n m v u e = ap (λ (p : Issue). p.0) e

update_is : (n m : SiteName) (v u : Update) → issue n v ≡ issue m u → v ≡ u
update_is n m v u e = ap (λ (p : Issue). p.1) e

of_map : (n m : SiteName) (us : List Update) (u : Update) → Contains (map (issue n) us) (issue m u)
    → (n ≡ m) × Contains us u
of_map n m [] u h = Contains-none (issue m u) h
of_map n m (v ∷ us) u h = by_place (issue n v) (map (issue n) us) (issue m u) h
    (λ same. (name_is n m v u same, subst (Contains (v ∷ us)) (update_is n m v u same) (Contains-here v us)))
    (λ later. let rest = of_map n m us u later in (rest.0, Contains-there v us u rest.1))

to_map : (n : SiteName) (us : List Update) (u : Update) → Contains us u → Contains (map (issue n) us) (issue n u)
to_map n [] u h = Contains-none u h
to_map n (v ∷ us) u h = by_place v us u h
    (λ same. subst (λ (x : Update). Contains (map (issue n) (v ∷ us)) (issue n x)) same
    (Contains-here (issue n v) (map (issue n) us)))
    (λ later. Contains-there (issue n v) (map (issue n) us) (issue n u) (to_map n us u later))

of_site : (o : Option SiteName) (us : List Update) (u : Update) → Contains (at_site o us) (issue u.1.site u)
    → (o ≡ Some u.1.site) × Contains us u
of_site None us u h = Contains-none (issue u.1.site u) h
of_site (Some n) us u h = let both = of_map n u.1.site us u h in (ap (λ (x : SiteName). Some x) both.0, both.1)

to_site : (o : Option SiteName) (us : List Update) (u : Update) → o ≡ Some u.1.site → Contains us u
    → Contains (at_site o us) (issue u.1.site u)
to_site o us u is h =
    subst (λ (p : Option SiteName). Contains (at_site p us) (issue u.1.site u)) (sym is) (to_map u.1.site us u h)

module _ (schema : StatedSchema) (sites : List SiteName) where
  of_event : (e : Event) (a : EventReply) (es : List Event) (rs : List EventReply) (u : Update)
      → IsLogged (issues_of schema sites e a) u → WasIssued (IssuesBy schema) sites (e ∷ es) (a ∷ rs) u
  of_event e (Replied r) es rs u h =
      let both = of_site (numbered sites e.site) (issued_by schema e.operation r) u h in
      record {
        place = zero;
        event = e;
        reply = r;
        happened = refl;
        replied = refl;
        named = both.0;
        issues = both.1;
      }
  of_event e Unknown es rs u h = Contains-none (issue u.1.site u) h
  of_event e (Message r) es rs u h = Contains-none (issue u.1.site u) h
  of_event e (Summary r) es rs u h = Contains-none (issue u.1.site u) h

  later : (e : Event) (a : EventReply) (es : List Event) (rs : List EventReply) (u : Update)
      → WasIssued (IssuesBy schema) sites es rs u → WasIssued (IssuesBy schema) sites (e ∷ es) (a ∷ rs) u
  later e a es rs u h = record {
    place = suc h.place;
    event = h.event;
    reply = h.reply;
    happened = h.happened;
    replied = h.replied;
    named = h.named;
    issues = h.issues;
  }

  pub was_issued : (es : List Event) (rs : List EventReply) (u : Update) → IsLogged (issues schema sites es rs) u
      → WasIssued (IssuesBy schema) sites es rs u
  was_issued [] rs u h = Contains-none (issue u.1.site u) h
  was_issued (e ∷ es) [] u h = Contains-none (issue u.1.site u) h
  was_issued (e ∷ es) (a ∷ rs) u h =
      elim (Contains-append_cases (issues_of schema sites e a) (issues schema sites es rs) (issue u.1.site u) h) [
        | inl now ↦ of_event e a es rs u now
        | inr then ↦ later e a es rs u (was_issued es rs u then)
      ]

  event_same : (e f : Event) → Some e ≡ Some f → e ≡ f
  event_same e f h = cc

  reply_same : (a b : EventReply) → Some a ≡ Some b → a ≡ b
  reply_same a b h = cc

  to_event : (e f : Event) (a : EventReply) (r : Reply) (u : Update) → e ≡ f → a ≡ Replied r
      → numbered sites f.site ≡ Some u.1.site → IssuesBy schema f.operation r u
      → IsLogged (issues_of schema sites e a) u
  to_event e f a r u is are named h =
      subst (λ (x : Event). IsLogged (issues_of schema sites x a) u) (sym is)
      (subst (λ (b : EventReply). IsLogged (issues_of schema sites f b) u) (sym are)
      (to_site (numbered sites f.site) (issued_by schema f.operation r) u named h))

  at_place : (k : ℕ) (es : List Event) (rs : List EventReply) (f : Event) (r : Reply) (u : Update)
      → slice_get es k ≡ Some f → slice_get rs k ≡ Some (Replied r) → numbered sites f.site ≡ Some u.1.site
      → IssuesBy schema f.operation r u → IsLogged (issues schema sites es rs) u
  at_place k [] rs f r u is are named h = absurd cc
  at_place k (e ∷ es) [] f r u is are named h = absurd cc
  at_place zero (e ∷ es) (a ∷ rs) f r u is are named h =
      Contains-append_left (issues_of schema sites e a) (issues schema sites es rs) (issue u.1.site u)
      (to_event e f a r u (event_same e f is) (reply_same a (Replied r) are) named h)
  at_place (suc k) (e ∷ es) (a ∷ rs) f r u is are named h =
      Contains-append_right (issues_of schema sites e a) (issues schema sites es rs) (issue u.1.site u)
      (at_place k es rs f r u is are named h)

  pub is_logged : (es : List Event) (rs : List EventReply) (u : Update) → WasIssued (IssuesBy schema) sites es rs u
      → IsLogged (issues schema sites es rs) u
  is_logged es rs u h = at_place h.place es rs h.event h.reply u h.happened h.replied h.named h.issues
