-- A run as far as it has gone.
use Rattle.std.proofs.Common.{ℕ, List, [], ◌∷◌, ◌++◌, refl, sym, ap, ◌∙◌, subst, append_assoc, append-nil}
use Rattle.connections.specs.Bounds.{TablesAreBounded}
use Rattle.connections.specs.Connections.{Connection, Entry}
use Rattle.connections.specs.Runs.{AreHandled, IsCause, IsHandled, IsServed}
use Rattle.connections.specs.Steps.{Leads}
use Rattle.connections.specs.Stories.{StoriesFit}
use Rattle.connections.specs.declared.event.Event.{Event}
use Rattle.connections.proofs.JoinLemmas.{leads_join, lengths}

module _ {S L : Type 0} (steps : S → Entry → S → Type 0) (notes : L → Entry → L → Type 0) (is_unfinished : List ℕ → Type 0) where
  handled_more : (events : List Event) (event : Event) (table : List Connection) (old : S) (first : L) (entries : List Entry)
      (table2 : List Connection) (mid : S) (log : L) (table3 : List Connection) (new : S) (last : L) (more : List Entry)
      → AreHandled steps notes is_unfinished events table old first entries table2 mid log
      → Leads steps notes more table2 mid log table3 new last → IsCause is_unfinished event table2 more table3
      → AreHandled steps notes is_unfinished (events ++ event ∷ []) table old first (entries ++ more) table3 new last
  handled_more [] event table old first entries table2 mid log table3 new last more h leads cause = (
    more,
    [],
    table3,
    new,
    last,
    subst (λ (t : List Connection). Leads steps notes more t old first table3 new last) h.1
        (subst (λ (t : S). Leads steps notes more table2 t first table3 new last) h.2
        (subst (λ (t : L). Leads steps notes more table2 mid t table3 new last) h.3 leads)),
    subst (λ (t : List Connection). IsCause is_unfinished event t more table3) h.1 cause,
    (refl, refl, refl, refl),
    ap (λ (t : List Entry). t ++ more) h.0 ∙ sym (append-nil more),
  )
  handled_more (x ∷ events) event table old first entries table2 mid log table3 new last more h leads cause = (
    h.0,
    h.1 ++ more,
    h.2,
    h.3,
    h.4,
    h.5,
    h.6,
    handled_more events event h.2 h.3 h.4 h.1 table2 mid log table3 new last more h.7 leads cause,
    ap (λ (t : List Entry). t ++ more) h.8 ∙ append_assoc h.0 h.1 more,
  )

  pub served_none : StoriesFit → TablesAreBounded → (table : List Connection) (old : S) (first : L)
      → IsServed steps notes is_unfinished [] table old first table old first
  served_none fit bound table old first = record {
    entries = [];
    handled = (refl, refl, refl, refl);
    leads = record { changes = refl; chain = refl; log = refl; logged = refl };
    fit = λ free. fit [] table table free refl;
    bounded = λ most free small. bound [] table table most free refl small;
    slots = refl;
  }

  pub served_more : StoriesFit → TablesAreBounded → (events : List Event) (event : Event) (table : List Connection) (old : S) (first : L)
      (table2 : List Connection) (mid : S) (log : L) (table3 : List Connection) (new : S) (last : L)
      → IsServed steps notes is_unfinished events table old first table2 mid log
      → IsHandled steps notes is_unfinished event table2 mid log table3 new last
      → IsServed steps notes is_unfinished (events ++ event ∷ []) table old first table3 new last
  served_more fit bound events event table old first table2 mid log table3 new last so next =
      let leads = leads_join steps notes so.entries next.entries table old first table2 mid log table3 new last so.leads next.leads in
      record {
        entries = so.entries ++ next.entries;
        handled = handled_more events event table old first so.entries table2 mid log table3 new last next.entries so.handled next.leads next.cause;
        leads = leads;
        fit = λ free. fit (so.entries ++ next.entries) table table3 free leads.changes;
        bounded = λ most free small. bound (so.entries ++ next.entries) table table3 most free leads.changes small;
        slots = lengths next.entries table2 table3 next.leads.changes ∙ so.slots;
      }
