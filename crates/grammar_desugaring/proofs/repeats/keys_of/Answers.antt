use Rattle.std.proofs.Common.{ℕ, List, ◌≡◌, ◌∙◌, ap, map, subst, sym}
use Rattle.std.proofs.lemmas.List.{map-append, take_all}
use Rattle.grammar_desugaring.specs.Faults.{key_of}
use Rattle.grammar_desugaring.specs.Meaning.{name_of}
use Rattle.grammar_desugaring.specs.Repeats.{NameAt}
use Rattle.grammar_desugaring.specs.inner.Searching.{held}
use Rattle.grammar_desugaring.specs.inner.WellFormed.{KeyIn, WellFormedEntry}
use Rattle.grammar_desugaring.proofs.Lists.{all-at, taken}
use Rattle.grammar_desugaring.proofs.repeats.keys_of.Goals as goal

abbrev name_at : List ℕ → ℕ → NameAt
name_at name at = record { name = name; at = at }

pub name-requires : goal.name-requires
name-requires c =
    subst (λ e. KeyIn c.args.text.now e.key) (sym c.entry-item.is)
    (all-at (WellFormedEntry c.args.text.now) c.args.entries.now c.loop-entry.entry-index c.entry-item.result c.requires c.loop-entry-test.true).key

pub loop-entry-preserved : goal.loop-entry-preserved
loop-entry-preserved c =
    taken (key_of c.args.text.now) c.args.entries.now c.loop-entry.entry-index c.entry-item.result (map held c.loop-entry.keys.items) (map held c.push.new.self.items)
    (name_at c.in_ok-name.name c.place.result) c.entry-item.is c.loop-entry-test.true c.loop-entry.invariant
    (ap (λ n. name_at n c.place.result) c.in_ok-name.ensures ∙ ap (name_at (name_of c.args.text.now c.entry-item.result.key)) c.place.ensures)
    (ap (map held) c.in_ok-push.ensures.items ∙ map-append held c.loop-entry.keys.items _)

pub returns : goal.returns
returns c =
    subst (λ es. map held c.loop-entry.keys.items ≡ map (key_of c.args.text.now) es) (take_all _ c.args.entries.now c.loop-entry-test.false)
    c.loop-entry.invariant
