-- Connections that are served, and what a site begins with.
use Rattle.std.proofs.Common.{◌≡◌, ◌∙◌, inl, inr, ℕ, true, false, List, [], ◌∷◌, ◌++◌, length}
use Rattle.std.proofs.Common.{Option, None, Some}
use Rattle.std.proofs.Common.{Result, Ok, Err}
use Rattle.std.proofs.Common.{IfOk, IfErr, refl, sym, ap, subst}
use Rattle.connection_loop.specs.declared.sockets.Sockets.{Ghosts as Sockets}
use Rattle.program_exchanges.specs.http_streams.declared.devices.Sink.{Ghosts as Sink}
use Rattle.connection_loop.specs.declared.turn.LoopFault.{LoopFault}
use Rattle.program_drills.specs.answer_lines.declared.refusal.Refusal.{Refusal}
use Rattle.program_drills.specs.answer_lines.Refusals.{no_memory}
use Rattle.program_lines.specs.declared.line.ServeOptions.{ServeOptions}
use Rattle.site_loading.specs.schema.Schemas.{StatedSchema, IsSchemaOf}
use Rattle.site_loading.specs.schema.Views.{schema_view}
use Rattle.std.specs.FinMap.{len-empty, len-entries}
use Rattle.values.specs.Names.{name_cmp}
use Rattle.program_lines.specs.stamped_store.EntryOrder.{PlainEntry}
use Rattle.program_lines.specs.stamped_store.Store.{store_of, updates}
use Rattle.program_exchanges.specs.sync_format.Updates.{plain_updates}
use Rattle.site_loading.specs.site.SiteViews.{SiteView, schema_of, store_in}
use Rattle.site_loading.specs.site.declared.fault.SiteFault.{SiteFault}
use Rattle.site_loading.specs.site.declared.fault.SiteFault.TheVariants.{NoMemory, Policy, Check as Unfit, Entity}
use Rattle.site_loading.specs.site.declared.fault.SiteFault.TheVariants.{Message, NotThere, WouldCycle, ClockFull}
use Rattle.site_loading.specs.site.declared.fault.SiteFault.TheVariants.{Request}
use Rattle.site_loading.specs.site.Readings.{parsed}
use Rattle.site_loading.specs.site.Runs.{IsNoMessageOf}
use Rattle.program_drills.specs.sync_messages.Messages.{IsMessageOf}
use Rattle.program.specs.Events.{Event, log_closed, sockets_closed, Does, Runs}
use Rattle.program.specs.Reports.{IsFailureReported}
use Rattle.program.specs.Courses.{Course, ClosesAfter, closing}
use Rattle.program.specs.InitialSites.{BeginsWith, IsInitialSite, IsInitialSiteRefused, IsStateRefused, site_refusal}
use Rattle.program.specs.Serving.{AreServed, IsEnded, IsNotListening, IsServedIfListening, Serving, announced, listening}
use Rattle.program.specs.inner.InitialUpdates.{TakesState}

-- ---- the sockets

module _ {L G N H : Type 0} (does : H → Event L G N → H → Type 0) where
  does_append : (xs ys : List (Event L G N)) (old mid new : H) → Does does xs old mid → Does does ys mid new → Does does (xs ++ ys) old new
  does_append [] ys old mid new first second = subst (λ (h : H). Does does ys h new) first second
  does_append (x ∷ xs) ys old mid new first second = (first.0, first.1, does_append xs ys first.0 mid new first.2 second)

  -- it listens, and says so
  pub listens : (options : ServeOptions) (old mid new : H) (sockets : N) → does old (listening options (Some sockets)) mid
      → does mid (announced options true) new
      → Runs does old new (λ events. events ≡ listening options (Some sockets) ∷ announced options true ∷ [])
  listens options old mid new sockets step line =
      (listening options (Some sockets) ∷ announced options true ∷ [], (mid, step, (new, line, refl)), refl)

  -- it does not
  pub listens_not : (options : ServeOptions) (old mid new : H) (end : ℕ) → does old (listening options None) mid
      → Runs does mid new (λ events. IsFailureReported options.listen.now events end)
      → Runs does old new (λ events. IsNotListening options events end)
  listens_not options old mid new end step told =
      (listening options None ∷ told.0, (mid, step, told.1), inr (inl (told.0, refl, told.2)))

  -- it does, and cannot say so
  pub prints_not : (options : ServeOptions) (old mid next new : H) (end : ℕ) (sockets : N)
      → does old (listening options (Some sockets)) mid → does mid (announced options false) next
      → does next (sockets_closed sockets) new → end ≡ 3 → Runs does old new (λ events. IsNotListening options events end)
  prints_not options old mid next new end sockets step line closed is = (
    listening options (Some sockets) ∷ announced options false ∷ sockets_closed sockets ∷ [],
    (mid, step, (next, line, (new, closed, refl))),
    inr (inr (sockets, refl, is)),
  )

  module _ (log : Sink G) (sockets : Sockets N) where
    -- behind the line that tells where the run listens, connections are served, and the sockets are closed
    pub served_listening : (options : ServeOptions) (old mid next new : H) (before : Serving G) (site : SiteView) (left : Option G)
        (first last : N) (result : Result (Unit {0}) LoopFault) (end : ℕ)
        → Runs does old mid (λ events. events ≡ listening options (Some first) ∷ announced options true ∷ [])
        → AreServed log sockets options before (record { site = site; log = left }) first last result
        → does mid (sockets_closed last) next
        → Runs does next new (λ events. IsEnded options.listen.now result events end)
        → Runs does old new (λ events. IsServedIfListening log sockets options before left events end)
    served_listening options old mid next new before site left first last result end so served closed told = (
      so.0 ++ sockets_closed last ∷ told.0,
      does_append so.0 (sockets_closed last ∷ told.0) old mid new so.1 (next, closed, told.1),
      inl (
        first,
        last,
        site,
        result,
        told.0,
        ap (λ (es : List (Event L G N)). es ++ sockets_closed last ∷ told.0) so.2,
        served,
        told.2,
      ),
    )

    -- or the run does not listen, and the log stays
    pub not_served : (options : ServeOptions) (old new : H) (before : Serving G) (end : ℕ)
        → Runs does old new (λ events. IsNotListening options events end)
        → Runs does old new (λ events. IsServedIfListening log sockets options before before.log events end)
    not_served options old new before end so = (so.0, so.1, inr (so.2, refl))

-- ---- the log

module _ {L G N H : Type 0} (does : H → Event L G N → H → Type 0) where
  -- a log is closed, if there is one
  pub closes : (old new : H) (kept : Option G) (log : G) → kept ≡ Some log → does old (log_closed log) new
      → Runs does old new (λ events. events ≡ closing kept)
  closes old new kept log is step = (log_closed log ∷ [], (new, step, refl), sym (ap (closing {L = L}) is))

  pub closes_none : (old : H) (kept : Option G) → kept ≡ None → Runs does old old (λ events. events ≡ closing kept)
  closes_none old kept is = ([], refl, sym (ap (closing {L = L}) is))

  -- it is closed at the end
  pub closed_after : (goes_on : Option G → Course L G N) (old mid new : H) (left : Option G) (end : ℕ)
      → Runs does old mid (λ events. goes_on left events end) → Runs does mid new (λ events. events ≡ closing left)
      → Runs does old new (λ events. ClosesAfter goes_on events end)
  closed_after goes_on old mid new left end so gone = (
    so.0 ++ gone.0,
    does_append does so.0 gone.0 old mid new so.1 gone.1,
    (left, so.0, so.2, ap (λ (es : List (Event L G N)). so.0 ++ es) gone.2),
  )

-- ---- what a site begins with

none_long : {A : Type 0} (xs : List A) → length xs ≡ 0 → xs ≡ []
none_long [] e = refl
none_long (x ∷ xs) e = absurd cc

state_refused : (s : StatedSchema) (bytes : List ℕ) (fault : SiteFault) → IsNoMessageOf (parsed s) bytes fault → (site_refusal fault ≡ no_memory → ⊥)
    → IsStateRefused s (Some bytes) (site_refusal fault)
state_refused s bytes NoMemory none other = absurd (other refl)
state_refused s bytes (Message f) none other = (f, none, refl)
state_refused s bytes (Policy f) none other = absurd none
state_refused s bytes (Unfit f) none other = absurd none
state_refused s bytes (Entity f) none other = absurd none
state_refused s bytes NotThere none other = absurd none
state_refused s bytes WouldCycle none other = absurd none
state_refused s bytes ClockFull none other = absurd none
state_refused s bytes (Request f) none other = absurd none

pub refused_as_told : (s : StatedSchema) (bytes : List ℕ) (fault : SiteFault) (r : Refusal) → r ≡ site_refusal fault → IsNoMessageOf (parsed s) bytes fault
    → (r ≡ no_memory → ⊥) → IsStateRefused s (Some bytes) r
refused_as_told s bytes fault r is none other =
    subst (IsStateRefused s (Some bytes)) (sym is) (state_refused s bytes fault none (λ e. other (is ∙ e)))

none_of_empty : updates (store_of []) ≡ []
none_of_empty = none_long (updates (store_of [])) (sym (len-entries (store_of [])) ∙ len-empty name_cmp PlainEntry)

begun_by : (schema name bytes : List ℕ) (before after : SiteView) → IsSchemaOf schema (schema_of before) → before.name ≡ name
    → store_in before ≡ store_of [] → TakesState before bytes after → IsInitialSite schema name (Some bytes) after
begun_by schema name bytes before after schema_is name_is store_is takes =
    let same : schema_of before ≡ schema_of after = sym (ap schema_view takes.3.0) in
    record {
      schema_is = subst (IsSchemaOf schema) same schema_is;
      name_is = takes.3.1 ∙ name_is;
      begins = (
        takes.0,
        subst (λ (s : StatedSchema). IsMessageOf s bytes takes.0) same takes.1,
        takes.2 ∙ ap (λ us. store_of (us ++ plain_updates takes.0)) (ap updates store_is ∙ none_of_empty),
      );
    }

-- over a result
pub begun_over : (schema name : List ℕ) (state : Option (List ℕ)) (bytes : List ℕ) (before : SiteView) (r : Result SiteView Refusal) → state ≡ Some bytes
    → IsSchemaOf schema (schema_of before) → before.name ≡ name → store_in before ≡ store_of [] → IfOk r (TakesState before bytes) → IfOk r (IsInitialSite schema name state)
begun_over schema name state bytes before (Ok after) state_is schema_is name_is store_is takes =
    subst (λ (o : Option (List ℕ)). IsInitialSite schema name o after) (sym state_is) (begun_by schema name bytes before after schema_is name_is store_is takes)
begun_over schema name state bytes before (Err r) state_is schema_is name_is store_is takes = tt

-- with none
pub begun_empty : (schema name : List ℕ) (state : Option (List ℕ)) (before after : SiteView) → state ≡ None → after ≡ before
    → IsSchemaOf schema (schema_of before) → before.name ≡ name → store_in before ≡ store_of [] → IsInitialSite schema name state after
begun_empty schema name state before after state_is same schema_is name_is store_is =
    subst (IsInitialSite schema name state) (sym same) (record {
      schema_is = schema_is;
      name_is = name_is;
      begins = subst (λ (o : Option (List ℕ)). BeginsWith (schema_of before) o (store_in before)) (sym state_is) store_is;
    })

pub not_begun_over : (schema : List ℕ) (state : Option (List ℕ)) (bytes : List ℕ) (before : SiteView) (r : Result SiteView Refusal) → state ≡ Some bytes
    → IsSchemaOf schema (schema_of before) → IfErr r (λ f. (f ≡ no_memory → ⊥) → IsStateRefused (schema_of before) (Some bytes) f)
    → IfErr r (λ f. (f ≡ no_memory → ⊥) → IsInitialSiteRefused schema state f)
not_begun_over schema state bytes before (Ok site) state_is schema_is refused = tt
not_begun_over schema state bytes before (Err f) state_is schema_is refused = λ other.
    inr (schema_of before, schema_is, subst (λ (o : Option (List ℕ)). IsStateRefused (schema_of before) o f) (sym state_is) (refused other))
