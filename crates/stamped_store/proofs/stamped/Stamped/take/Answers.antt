-- A value that is there is written through, and else the pair is inserted.
use Rattle.std.proofs.Common.{◌≡◌, sym, ap, ◌∙◌, Some, None}
use Rattle.std.specs.Option.{option_copied_mut}
use Rattle.std.specs.BTreeMap.{insert_entry}
use Rattle.stamped_store.specs.JoinMaps.{value_at, taken, joined_onto}
use Rattle.stamped_store.proofs.Entered.{set_value-insert_entry}
use Rattle.stamped_store.proofs.Points.{joined_here, others_kept}
use Rattle.stamped_store.proofs.stamped.Stamped.take.Goals as goal

pub returns-in-Some-clause-ok : goal.returns-in-Some-clause-ok
returns-in-Some-clause-ok g c =
    let cmp = g.K.Ord.cmp in
    let join = g.V.Join.joined in
    let es = c.self.inside.map.entries in
    let found : value_at cmp es c.args.key ≡ Some c.in-Some.held.now = sym c.get_mut.ensures.value ∙ ap option_copied_mut c.in-Some.is in
    (c.get_mut.follows.holds c.join.new.self).0
    ∙ set_value-insert_entry g.met.K.Ord.total c.args.key c.join.new.self c.in-Some.held.now es c.get_mut.ensures.ordered found
    ∙ ap (insert_entry cmp es c.args.key) (c.join.ensures ∙ sym (ap (λ o. joined_onto join o c.args.value) found))
    ∙ ap (λ s. taken cmp join s c.args.key c.args.value) c.self.view_is

pub returns-clause-ok : goal.returns-clause-ok
returns-clause-ok g c =
    let cmp = g.K.Ord.cmp in
    let join = g.V.Join.joined in
    let es = c.self.inside.map.entries in
    let absent : value_at cmp es c.args.key ≡ None = sym c.get_mut.ensures.value ∙ ap option_copied_mut c.in_default.is in
    c.in_ok-insert_new.ensures.ok
    ∙ ap (λ m. insert_entry cmp m.entries c.args.key c.args.value) c.get_mut.follows.holds-at-none
    ∙ ap (λ o. insert_entry cmp es c.args.key (joined_onto join o c.args.value)) (sym absent)
    ∙ ap (λ s. taken cmp join s c.args.key c.args.value) c.self.view_is

pub returns-in-Some-clause-at_key : goal.returns-in-Some-clause-at_key
returns-in-Some-clause-at_key g c = joined_here g.met.K.Ord.total g.V.Join.joined _ _ c.args.key c.args.value (returns-in-Some-clause-ok g c)

pub returns-in-Some-clause-others : goal.returns-in-Some-clause-others
returns-in-Some-clause-others g c = others_kept g.met.K.Ord.total g.V.Join.joined _ _ c.args.key c.args.value (returns-in-Some-clause-ok g c)

pub returns-clause-at_key : goal.returns-clause-at_key
returns-clause-at_key g c = joined_here g.met.K.Ord.total g.V.Join.joined _ _ c.args.key c.args.value (returns-clause-ok g c)

pub returns-clause-others : goal.returns-clause-others
returns-clause-others g c = others_kept g.met.K.Ord.total g.V.Join.joined _ _ c.args.key c.args.value (returns-clause-ok g c)
